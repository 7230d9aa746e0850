use Rattle.std.proofs.Common.{◌≡◌, ◌≤◌, ◌+◌, ◌-◌, [], length}
use Rattle.lr_host.specs.declared.entry.Entry.TheVariants as entry
use Rattle.lr_host.specs.Told.{Can, Onward}
use Rattle.lr_include.specs.Taken.{IsUnclosed, TookFrom}
use Rattle.lr_include.proofs.part.read_pieces.Given as goal

abbrev pub invariant-loop-how : goal.invariant-loop-how
invariant-loop-how g l = record {
  took : TookFrom l.path l.taking (g.H.Host.told l.initial.host) (g.H.Host.told l.host);
  ready : IsUnclosed l.taking;
  small : l.taking.size ≤ l.room;
  file : Can (g.H.Host.told l.host) (entry.Reads l.path 0 []);
  buffer : length l.buffer ≡ length l.initial.buffer;
  counts : Onward (g.H.Host.counts l.initial.host) (g.H.Host.counts l.host);
}

abbrev pub decreases-loop-how : goal.decreases-loop-how
decreases-loop-how g l = (l.room + 1) - l.taking.size
