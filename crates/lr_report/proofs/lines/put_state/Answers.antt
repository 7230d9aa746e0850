use Rattle.std.proofs.Common.{ap, ◌∙◌, [], ◌∷◌, codes, decimal}
use Rattle.std.specs.List.{concat}
use Rattle.lr_report.proofs.PutLemmas.{whole_as}
use Rattle.lr_report.proofs.lines.put_state.Goals as goal

pub returns-clause-whole : goal.returns-clause-whole
returns-clause-whole g c =
    whole_as c.put_four.result _ _ _ _
    (ap (λ w. concat (codes "state line " ∷ w ∷ codes ": " ∷ c.state_kind_name.result.now ∷ [])) (c.as_bytes-number.ensures.value ∙ c.format.ensures.text) ∙ ap (λ w. concat (codes "state line " ∷ decimal c.args.number ∷ codes ": " ∷ w ∷ [])) c.state_kind_name.ensures)
    c.put_four.ensures.whole
