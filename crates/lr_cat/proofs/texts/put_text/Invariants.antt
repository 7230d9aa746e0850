use Rattle.std.proofs.Common.{[], ◌≤◌, ◌<◌, ◌-◌, length}
use Rattle.lr_host.specs.declared.entry.Entry.TheVariants.{Reads}
use Rattle.lr_host.specs.Told.{Can, Onward}
use Rattle.lr_cat.specs.InternalTexts.{PassesTo}
use Rattle.lr_cat.proofs.texts.put_text.Given as goal

abbrev pub invariant-loop-place : goal.invariant-loop-place
invariant-loop-place g l = record {
  passes : PassesTo l.path l.place (g.H.Host.told l.initial.host) (g.H.Host.told l.host) (g.K.Sink.taken l.initial.out) (g.K.Sink.taken l.out);
  can : Can (g.H.Host.told l.host) (Reads l.path 0 []);
  room : 0 < length l.buffer;
  short : length l.buffer ≤ 65536;
  within : l.place ≤ 1_099_511_693_312;
  counts : Onward (g.H.Host.counts l.initial.host) (g.H.Host.counts l.host);
  puts : g.K.Sink.faults l.initial.out ≤ g.K.Sink.faults l.out;
}

abbrev pub decreases-loop-place : goal.decreases-loop-place
decreases-loop-place g l = 1_099_511_693_312 - l.place
