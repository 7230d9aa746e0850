use Rattle.std.proofs.Common.{ℕ, Option, Some, sym, subst, arith}
use Rattle.lr_rules.specs.declared.rule.Format.{Format}
use Rattle.lr_stamps.specs.Dated.{MayHaveSerial}
use Rattle.lr_chain.proofs.Hindering.{next_may, serial_low}
use Rattle.lr_chain.proofs.dated_target.target_of.Goals as goal

pub overflow_cast-serial : goal.overflow_cast-serial
overflow_cast-serial c =
    let low = serial_low c.args.family.now.naming c.args.format.now c.args.members.now _ c.requires.dated c.requires.named c.in_default-refusal.ensures in
    let is = c.next_serial-serial.ensures in
    omega (arith, low, is)

pub dated-requires-clause-serial : goal.dated-requires-clause-serial
dated-requires-clause-serial c =
    subst (λ (d : Option Format). MayHaveSerial d c.next_serial-serial.result) (sym c.requires.dated)
    (subst (λ (k : ℕ). MayHaveSerial (Some c.args.format.now) k) (sym c.next_serial-serial.ensures) (next_may c.args.family.now.naming c.args.format.now c.args.members.now _ c.requires.dated c.requires.named c.in_default-refusal.ensures))
