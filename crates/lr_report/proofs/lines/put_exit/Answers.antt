use Rattle.std.proofs.Common.{ap, ◌∙◌, [], ◌∷◌, codes}
use Rattle.std.specs.List.{concat}
use Rattle.std.specs.Fmt.{signed_decimal}
use Rattle.std.proofs.Math.Facts.{to_z-of_z}
use Rattle.lr_report.specs.Kinds.{phase_text}
use Rattle.lr_report.proofs.PutLemmas.{whole_as, part_as}
use Rattle.lr_report.proofs.lines.put_exit.Goals as goal

pub returns-clause-whole : goal.returns-clause-whole
returns-clause-whole g c = whole_as c.put_five.result _ _ _ _ (ap (λ w. concat (w ∷ codes " of " ∷ c.bytes.result.now ∷ codes " ended with " ∷ c.as_bytes-code.result.now ∷ [])) c.phase_name-name.ensures ∙ ap (λ w. concat (phase_text c.args.phase ∷ codes " of " ∷ w ∷ codes " ended with " ∷ c.as_bytes-code.result.now ∷ [])) c.bytes.ensures.bytes ∙ ap (λ w. concat (phase_text c.args.phase ∷ codes " of " ∷ c.args.on.now ∷ codes " ended with " ∷ w ∷ [])) (c.as_bytes-code.ensures.value ∙ c.format.ensures.text ∙ ap signed_decimal (to_z-of_z c.ranges.code))) c.put_five.ensures.whole

pub returns-clause-part : goal.returns-clause-part
returns-clause-part g c = part_as _ _ _ _ (ap (λ w. concat (w ∷ codes " of " ∷ c.bytes.result.now ∷ codes " ended with " ∷ c.as_bytes-code.result.now ∷ [])) c.phase_name-name.ensures ∙ ap (λ w. concat (phase_text c.args.phase ∷ codes " of " ∷ w ∷ codes " ended with " ∷ c.as_bytes-code.result.now ∷ [])) c.bytes.ensures.bytes ∙ ap (λ w. concat (phase_text c.args.phase ∷ codes " of " ∷ c.args.on.now ∷ codes " ended with " ∷ w ∷ [])) (c.as_bytes-code.ensures.value ∙ c.format.ensures.text ∙ ap signed_decimal (to_z-of_z c.ranges.code))) c.put_five.ensures.part
