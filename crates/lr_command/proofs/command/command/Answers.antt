use Rattle.std.proofs.Common.{rules, ◌≡◌, ◌∙◌, ap, ap₂, codes}
use Rattle.std.proofs.lemmas.Result.{IfOk-weaker}
use Rattle.clap.specs.Words.{App, app_of, rule_of, with_rule}
use Rattle.lr_command.specs.Command.{command}
use Rattle.lr_command.specs.Command as spec
use Rattle.lr_command.proofs.command.command.Goals as goal

pub returns : goal.returns
unfolding command
returns c =
    let start : app_of c.bare.result ≡ spec.bare_command (codes "logrotate") = search rules in
    let state : rule_of c.valued.result ≡ spec.valued (codes "state") 115 = search rules in
    let mail : rule_of c.valued-2.result ≡ spec.valued (codes "mail") 109 = search rules in
    let conf : rule_of c.some_words.result ≡ spec.some_words (codes "conf") = search rules in
    let three = c.in_ok-with_flags.ensures ∙ ap (λ (a : App). with_rule (with_rule (with_rule a (spec.counted_flag (codes "debug") 100)) (spec.counted_flag (codes "force") 102)) (spec.counted_flag (codes "verbose") 118)) start in
    let four = c.in_ok-arg.ensures.shape c.valued.ensures.own ∙ ap₂ with_rule three state in
    let five = c.in_ok-arg-2.ensures.shape c.valued-2.ensures.own ∙ ap₂ with_rule four mail in
    IfOk-weaker c.arg-3.result _ _ (λ r h. h.shape c.some_words.ensures.own ∙ ap₂ with_rule five conf) c.arg-3.ensures
