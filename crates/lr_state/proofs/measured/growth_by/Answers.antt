use Rattle.std.proofs.Common.{◌∙◌, ap, sym, List, ℕ, length, is_some, arith}
use Rattle.lr_state.specs.Table.{StateEntry, moment_of}
use Rattle.lr_state.specs.Written.{table_text}
use Rattle.lr_state.proofs.RecordLengths.{due_same, lacked_same, text_grows}
use Rattle.lr_state.proofs.measured.growth_by.Goals as goal

pub returns-then-is_some : goal.returns-then-is_some
returns-then-is_some c due table names =
    let same = ap (λ (es : List StateEntry). length (table_text es)) (due_same due c.args.log.now c.args.now.now c.args.table.now
    (sym (names c.args.log.now) ∙ (ap (λ (n : List ℕ). is_some (moment_of c.args.counted.now n)) (sym c.bytes.ensures.bytes) ∙ (ap is_some (sym c.get.ensures) ∙ (sym c.is_some.ensures ∙ c.if-is_some.true))))) in
    omega (arith, same)

pub returns-in-Some : goal.returns-in-Some
returns-in-Some c due table names = text_grows due c.args.log.now c.args.now.now c.in-Some.was c.growth.result c.args.table.now
    (sym (names c.args.log.now) ∙ (ap (λ (n : List ℕ). is_some (moment_of c.args.counted.now n)) (sym c.bytes.ensures.bytes) ∙ (ap is_some (sym c.get.ensures) ∙ (sym c.is_some.ensures ∙ c.if-is_some.false))))
    c.growth.ensures table
    (ap (moment_of c.args.table.now) (sym c.bytes-2.ensures.bytes) ∙ (sym c.get-2.ensures ∙ c.in-Some.is))

pub returns-in-None : goal.returns-in-None
returns-in-None c due table names =
    let same = ap (λ (es : List StateEntry). length (table_text es)) (lacked_same due c.args.log.now c.args.now.now c.args.table.now
    (ap is_some (ap (moment_of c.args.table.now) (sym c.bytes-2.ensures.bytes) ∙ (sym c.get-2.ensures ∙ c.in-None.is)))) in
    omega (arith, same)
