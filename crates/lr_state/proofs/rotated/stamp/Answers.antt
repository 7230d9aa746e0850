use Rattle.std.proofs.Common.{◌≡◌, ◌∙◌, sym, ap, subst, List, ℕ, is_some, true}
use Rattle.std.specs.Prelude.{IsSome, IsOk, OnOk, Result, Ok, Err}
use Rattle.lr_rules.specs.declared.memory.Memory.{Memory}
use Rattle.lr_state.specs.Table.{moment_of, put, is_name}
use Rattle.lr_state.proofs.After.{path_named, absent_stamped, put_stamped}
use Rattle.lr_state.proofs.rotated.stamp.Goals as goal

-- it was set
set_is : {P : Type 0} (r : Result (Unit {0}) Memory) → OnOk r P → IsOk r → P
set_is (Ok u) h i = h
set_is (Err m) h i = absurd (cc)

pub set-set-requires : goal.set-set-requires
set-set-requires c = subst (λ (n : List ℕ). is_name n ≡ true) (sym c.bytes-then-is_some.ensures.bytes) (path_named c.args.log.now c.bytes-then-is_some.ensures.path)

pub returns-then-is_some : goal.returns-then-is_some
returns-then-is_some c = set_is c.set-set.result c.set-set.ensures.ok (c.set-set.ensures.there held') ∙ (ap (λ (n : List ℕ). put c.args.table.now n c.args.now) c.bytes-then-is_some.ensures.bytes ∙ put_stamped c.args.table.now c.args.log.now c.args.now c.set-set.ensures.table held)
  where
    held : is_some (moment_of c.args.table.now c.args.log.now) ≡ true
    held = ap (λ (n : List ℕ). is_some (moment_of c.args.table.now n)) (sym c.bytes.ensures.bytes) ∙ (ap is_some (sym c.get.ensures) ∙ (sym c.is_some.ensures ∙ c.if-is_some.true))

    held' : IsSome (moment_of c.args.table.now c.bytes-then-is_some.result.now)
    held' = ap (λ (n : List ℕ). is_some (moment_of c.args.table.now n)) c.bytes-then-is_some.ensures.bytes ∙ held

pub returns-else-is_some : goal.returns-else-is_some
returns-else-is_some c = absent_stamped c.args.table.now c.args.log.now c.args.now (ap (λ (n : List ℕ). is_some (moment_of c.args.table.now n)) (sym c.bytes.ensures.bytes) ∙ (ap is_some (sym c.get.ensures) ∙ (sym c.is_some.ensures ∙ c.if-is_some.false)))
