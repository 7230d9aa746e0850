use Rattle.std.proofs.Common.{◌≡◌, false, take}
use Rattle.std.specs.List.{list_any}
use Rattle.lr_chain.specs.Ready.{is_highest}
use Rattle.lr_chain.proofs.numbered_places.highest.Given as goal

abbrev pub invariant-loop-member : goal.invariant-loop-member
invariant-loop-member l = record { none : list_any (is_highest l.naming) (take l.member-index l.members) ≡ false }
