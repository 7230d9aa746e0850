use Rattle.std.proofs.Common.{rules, ◌≡◌, Err, false, subst}
use Rattle.std.proofs.lemmas.List.Folds.{list_all_at}
use Rattle.lr_command.specs.Words.{is_name}
use Rattle.lr_audit.proofs.words.names_of.Goals as goal

pub returns-in_err-add_name-clause-refused : goal.returns-in_err-add_name-clause-refused
returns-in_err-add_name-clause-refused c = λ e.
    let is : c.from_residual.result ≡ Err c.in_err-add_name.field-0.0 = search rules in
    list_all_at (is_name c.args.here.now) c.args.words.now c.loop-word.word-index c.word-item.result c.loop-word-test.true (subst (λ w. is_name c.args.here.now w ≡ false) c.word-item.is (c.in_err-add_name.ensures.refused (cc (is, e))))
