use Rattle.std.proofs.Common.{◌≡◌, List, ◌++◌}
use Rattle.std.specs.Vec.Iter.{into_iter_items}
use Rattle.lr_host.specs.Told.{Left, Onward}
use Rattle.lr_family.specs.declared.spot.Spot.{Spot}
use Rattle.lr_family.specs.Looks.{AreSeen, ShowsSpots}
use Rattle.lr_family.proofs.look.look_at_all.Given as goal

abbrev pub invariant-loop-spot : goal.invariant-loop-spot
invariant-loop-spot g l = record {
  done : List Spot;
  seam : into_iter_items l.initial.spot-iterator ≡ done ++ into_iter_items l.spot-iterator;
  told : Left (ShowsSpots done l.members.items) (g.H.Host.told l.initial.host) (g.H.Host.told l.host);
  seen : AreSeen done l.members.items;
  counts : Onward (g.H.Host.counts l.initial.host) (g.H.Host.counts l.host);
}
