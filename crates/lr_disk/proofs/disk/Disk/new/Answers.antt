use Rattle.std.proofs.Common.{◌≡◌, ◌<◌, sym, ap, subst, true, length, vec_capacity}
use Rattle.lr_host.specs.World.{world, past}
use Rattle.lr_host.specs.Opening.{IsJournal}
use Rattle.lr_host.specs.Safe.{IsSafe}
use Rattle.lr_laws.proofs.Stated.{at_first}
use Rattle.lr_disk.specs.State.{ShowsWorld}
use Rattle.lr_disk.proofs.disk.Disk.new.Goals as goal

pub invariant_of-result : goal.invariant_of-result
invariant_of-result c =
    let made = rw c.in-Some.is at c.in_ok-state.ensures in
    record {
      shows = subst (λ es. ShowsWorld c.in-Some.state (world (past (record { opening = c.args.opening; entries = es })))) (sym c.new-entries.ensures) made.1;
      journal = subst (λ es. IsJournal (past (record { opening = c.args.opening; entries = es }))) (sym c.new-entries.ensures) made.0;
      empty = c.new-room.ensures.len;
      room = subst (λ es. (world (past (record { opening = c.args.opening; entries = es }))).running ≡ true → length es < vec_capacity c.new-room.result) (sym c.new-entries.ensures) (λ t. absurd (cc));
    }

pub returns-in-Some : goal.returns-in-Some
returns-in-Some c =
    let made = rw c.in-Some.is at c.in_ok-state.ensures in (
      ap (λ es. record { opening = c.args.opening; entries = es }) c.new-entries.ensures,
      made.0,
      λ s. subst (λ es. IsSafe s (past (record { opening = c.args.opening; entries = es }))) (sym c.new-entries.ensures) (at_first s c.args.opening made.0),
    )
