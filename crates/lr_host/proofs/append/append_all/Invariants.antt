use Rattle.std.proofs.Common.{[], ◌≤◌, ◌-◌, length, take}
use Rattle.lr_host.specs.declared.entry.Entry.TheVariants.{Appends}
use Rattle.lr_host.specs.Told.{Left, Can, Onward}
use Rattle.lr_host.specs.Appending.{Appended}
use Rattle.lr_host.proofs.append.append_all.Given as goal

abbrev pub invariant-loop-at : goal.invariant-loop-at
invariant-loop-at g l = record {
  within : l.at ≤ length l.bytes;
  told : Left (Appended l.path (take l.at l.bytes)) (g.H.Host.told l.initial.host) (g.H.Host.told l.host);
  can : Can (g.H.Host.told l.host) (Appends l.path []);
  counts : Onward (g.H.Host.counts l.initial.host) (g.H.Host.counts l.host);
}

abbrev pub decreases-loop-at : goal.decreases-loop-at
decreases-loop-at g l = length l.bytes - l.at
