use Rattle.std.proofs.Common.{◌≤◌, ◌-◌, [], length}
use Rattle.lr_host.specs.declared.entry.Entry.TheVariants as entry
use Rattle.lr_host.specs.Told.{Left, Can, Onward}
use Rattle.lr_host.specs.Reading.{ReadsOf}
use Rattle.lr_include.proofs.text.read_up_to.Given as goal

abbrev pub invariant-loop-bytes : goal.invariant-loop-bytes
invariant-loop-bytes g l = record {
  told : Left (ReadsOf l.path l.bytes.items) (g.H.Host.told l.initial.host) (g.H.Host.told l.host);
  file : Can (g.H.Host.told l.host) (entry.Reads l.path 0 []);
  within : length l.bytes.items ≤ l.limit;
  counts : Onward (g.H.Host.counts l.initial.host) (g.H.Host.counts l.host);
}

abbrev pub decreases-loop-bytes : goal.decreases-loop-bytes
decreases-loop-bytes g l = l.limit - length l.bytes.items
