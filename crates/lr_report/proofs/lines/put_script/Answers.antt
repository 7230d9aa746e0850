use Rattle.std.proofs.Common.{ap, sym, ◌∙◌, [], ◌∷◌, codes}
use Rattle.std.specs.List.{concat}
use Rattle.lr_rules.specs.declared.fault.Fault.TheVariants as fault
use Rattle.lr_report.specs.Kinds.{phase_text}
use Rattle.lr_report.specs.Lines.{fault_text}
use Rattle.lr_report.proofs.PutLemmas.{whole_as, part_as}
use Rattle.lr_report.proofs.lines.put_script.Goals as goal

pub returns-in-Killed-clause-whole : goal.returns-in-Killed-clause-whole
returns-in-Killed-clause-whole g c = whole_as c.put_four.result _ _ _ _ (ap (λ w. concat (w ∷ codes " of " ∷ c.bytes.result.now ∷ codes " was killed" ∷ [])) c.phase_name.ensures ∙ ap (λ w. concat (phase_text c.args.phase ∷ codes " of " ∷ w ∷ codes " was killed" ∷ [])) c.bytes.ensures.bytes ∙ ap (λ e. fault_text (fault.Script c.args.phase c.args.on.now e)) (sym c.in-Killed.is)) c.put_four.ensures.whole

pub returns-in-Killed-clause-part : goal.returns-in-Killed-clause-part
returns-in-Killed-clause-part g c = part_as _ _ _ _ (ap (λ w. concat (w ∷ codes " of " ∷ c.bytes.result.now ∷ codes " was killed" ∷ [])) c.phase_name.ensures ∙ ap (λ w. concat (phase_text c.args.phase ∷ codes " of " ∷ w ∷ codes " was killed" ∷ [])) c.bytes.ensures.bytes ∙ ap (λ e. fault_text (fault.Script c.args.phase c.args.on.now e)) (sym c.in-Killed.is)) c.put_four.ensures.part
