use Rattle.std.proofs.Common.{◌≡◌, List, ◌++◌, length}
use Rattle.std.specs.Vec.Iter.{into_iter_items, into_iter_len}
use Rattle.lr_looks.specs.declared.found.Found.{Found}
use Rattle.lr_host.specs.Counted.{Went}
use Rattle.lr_looks.specs.Internal.{AreListings}
use Rattle.lr_looks.specs.Ready.{AreReady}
use Rattle.lr_looks.proofs.Behind.{SoFar}
use Rattle.lr_looks.proofs.families.look_at_each.Given as goal

abbrev pub invariant-loop-item : goal.invariant-loop-item
invariant-loop-item g l = record {
  done : List Found;
  seam : into_iter_items l.initial.item-iterator ≡ done ++ into_iter_items l.item-iterator;
  long : into_iter_len l.item-iterator ≡ length (into_iter_items l.item-iterator);
  known : AreListings l.listings;
  told : SoFar done l.listings.taken.items l.initial.faults.items l.faults.items l.initial.sets.items l.sets.items (g.H.Host.told l.initial.host) (g.H.Host.told l.host);
  many : length l.sets.items ≡ length l.initial.sets.items;
  ready : AreReady l.initial.sets.items → AreReady l.sets.items;
  went : Went l.initial.faults.items l.faults.items (g.H.Host.counts l.initial.host) (g.H.Host.counts l.host);
}
