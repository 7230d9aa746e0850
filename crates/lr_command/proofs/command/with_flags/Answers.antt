use Rattle.std.proofs.Common.{rules, ◌≡◌, ◌∙◌, refl, ap₂, codes}
use Rattle.std.proofs.lemmas.Result.{IfOk-weaker}
use Rattle.clap.specs.Words.{rule_of, with_rule}
use Rattle.lr_command.specs.Command as spec
use Rattle.lr_command.proofs.command.with_flags.Goals as goal

pub returns : goal.returns
returns c =
    let debug : rule_of c.counted.result ≡ spec.counted_flag (codes "debug") 100 = search rules in
    let force : rule_of c.counted-2.result ≡ spec.counted_flag (codes "force") 102 = search rules in
    let verbose : rule_of c.counted-3.result ≡ spec.counted_flag (codes "verbose") 118 = search rules in
    let one = c.in_ok-arg.ensures.shape c.counted.ensures.own ∙ ap₂ with_rule refl debug in
    let two = c.in_ok-arg-2.ensures.shape c.counted-2.ensures.own ∙ ap₂ with_rule one force in
    IfOk-weaker c.arg-3.result _ _ (λ r h. h.shape c.counted-3.ensures.own ∙ ap₂ with_rule two verbose) c.arg-3.ensures
