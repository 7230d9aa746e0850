-- The kinds of the faults of lines.
use Rattle.std.specs.Prelude.{Option, Some, None}
use Rattle.lr_rules.specs.declared.fault.ConfKind.{ConfKind}
use Rattle.lr_rules.specs.declared.fault.ConfKind.TheVariants as kind
use Rattle.lr_lex.specs.declared.item.LexKind.{LexKind}
use Rattle.lr_lex.specs.declared.item.LexKind.TheVariants as lex

-- The kind of a fault that the reading of a line tells. Want of memory is none of these.
abbrev pub conf_kind : LexKind → Option ConfKind
conf_kind lex.LineTooLong = Some kind.LineTooLong
conf_kind lex.NotUtf8 = Some kind.NotUtf8
conf_kind lex.OpenQuote = Some kind.OpenQuote
conf_kind lex.NoEndscript = Some kind.NoEndscript
conf_kind lex.Memory = None
