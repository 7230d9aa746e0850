use Rattle.std.proofs.Common.{sym, ◌∙◌}
use Rattle.lr_glob.proofs.Giving.{relative_none}
use Rattle.lr_glob.proofs.word.all_found.Goals as goal

pub returns-then-not-is_absolute-clause-told : goal.returns-then-not-is_absolute-clause-told
returns-then-not-is_absolute-clause-told g c = relative_none c.args.word.now c.new.result.items _ (sym c.is_wildcard.ensures ∙ c.if-not-is_wildcard.false) (sym c.is_absolute.ensures ∙ c.if-not-is_absolute.true) c.new.ensures.items
