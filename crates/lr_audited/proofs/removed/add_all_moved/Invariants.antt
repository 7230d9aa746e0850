use Rattle.std.proofs.Common.{◌≡◌, ◌++◌, take}
use Rattle.std.specs.List.{flat_map}
use Rattle.lr_audited.specs.Removed.{moved_going}
use Rattle.lr_audited.proofs.removed.add_all_moved.Given as goal

abbrev pub invariant-loop-member : goal.invariant-loop-member
invariant-loop-member l = record { into : l.into.items ≡ l.initial.into.items ++ flat_map (moved_going l.bounds.count l.bounds.maxage l.bounds.now) (take l.member-index l.members) }
