use Rattle.std.proofs.Common.{sym, ◌∙◌}
use Rattle.lr_lex.proofs.Ascii.{utf8_of_text}
use Rattle.lr_lex.proofs.script.script_item.Goals as goal

pub utf8_text-requires : goal.utf8_text-requires
utf8_text-requires c = utf8_of_text c.args.text.now (sym c.is_text.ensures ∙ c.if-not-is_text.false)
