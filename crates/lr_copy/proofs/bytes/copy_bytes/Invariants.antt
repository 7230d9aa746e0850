use Rattle.std.proofs.Common.{[], ◌≤◌, ◌<◌, ◌-◌, length}
use Rattle.lr_host.specs.declared.entry.Entry.TheVariants.{Reads, Appends}
use Rattle.lr_host.specs.Told.{Left, Can, Onward}
use Rattle.lr_copy.proofs.Pieces.{Owes}
use Rattle.lr_copy.proofs.bytes.copy_bytes.Given as goal

abbrev pub invariant-loop-count : goal.invariant-loop-count
invariant-loop-count g l = record {
  told : Left (Owes l.from l.to l.copied []) (g.H.Host.told l.initial.host) (g.H.Host.told l.host);
  read : Can (g.H.Host.told l.host) (Reads l.from 0 []);
  append : Can (g.H.Host.told l.host) (Appends l.to []);
  room : 0 < length l.buffer;
  short : length l.buffer ≤ 65536;
  within : l.copied ≤ l.limit;
  counts : Onward (g.H.Host.counts l.initial.host) (g.H.Host.counts l.host);
}

abbrev pub decreases-loop-count : goal.decreases-loop-count
decreases-loop-count g l = l.limit - l.copied
