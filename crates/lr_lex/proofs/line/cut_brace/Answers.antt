use Rattle.std.proofs.Common.{sym, ◌∙◌, arith}
use Rattle.lr_lex.proofs.Braces.{at_open, at_other, at_none, utf8_parts}
use Rattle.lr_lex.proofs.line.cut_brace.Goals as goal
use Rattle.lr_lex.proofs.line.cut_brace.Goals.{else-end-gt0-via-then-end-gt0+else-open, else-end-gt0-via-else-end-gt0}

pub returns-then-open-clause-brace : goal.returns-then-open-clause-brace
returns-then-open-clause-brace c =
    sym (at_open c.args.signs.now c.ink_end-end.result c.ink_end-end.ensures (omega arith) (sym c.open.ensures ∙ c.if-open.true)).brace

pub returns-then-open-clause-signs : goal.returns-then-open-clause-signs
returns-then-open-clause-signs c =
    sym (at_open c.args.signs.now c.ink_end-end.result c.ink_end-end.ensures (omega arith) (sym c.open.ensures ∙ c.if-open.true)).signs

pub returns-then-open-clause-utf8 : goal.returns-then-open-clause-utf8
returns-then-open-clause-utf8 c =
    (utf8_parts c.args.signs.now _ 123 (omega (arith, c.ink_end-end.ensures.within)) (omega arith) (sym c.open.ensures ∙ c.if-open.true) c.requires).0

pub returns-else-end-gt0-clause-brace : goal.returns-else-end-gt0-clause-brace
returns-else-end-gt0-clause-brace c =
    elim c.else-end-gt0.branch [
      | else-end-gt0-via-then-end-gt0+else-open w ↦ sym (at_other c.args.signs.now c.ink_end-end.result c.ink_end-end.ensures (omega arith) (sym w.open.ensures ∙ w.if-open.false)).brace
      | else-end-gt0-via-else-end-gt0 w ↦ sym (at_none c.args.signs.now c.ink_end-end.result c.ink_end-end.ensures (omega arith)).brace
    ]

pub returns-else-end-gt0-clause-signs : goal.returns-else-end-gt0-clause-signs
returns-else-end-gt0-clause-signs c =
    elim c.else-end-gt0.branch [
      | else-end-gt0-via-then-end-gt0+else-open w ↦ sym (at_other c.args.signs.now c.ink_end-end.result c.ink_end-end.ensures (omega arith) (sym w.open.ensures ∙ w.if-open.false)).signs
      | else-end-gt0-via-else-end-gt0 w ↦ sym (at_none c.args.signs.now c.ink_end-end.result c.ink_end-end.ensures (omega arith)).signs
    ]
