use Rattle.std.proofs.Common.{◌≤◌, ◌<◌, length, vec_len}
use Rattle.lr_host.specs.Told.{Onward}
use Rattle.lr_cat.specs.Texts.{CanReadAll}
use Rattle.lr_cat.proofs.Putting.{Putting}
use Rattle.lr_cat.proofs.texts.put_texts.Given as goal

abbrev pub invariant-loop-file : goal.invariant-loop-file
invariant-loop-file g l = record {
  putting : Putting l.fn.files.items l.files.items (g.H.Host.told l.initial.host) (g.H.Host.told l.host) (g.K.Sink.taken l.initial.out) (g.K.Sink.taken l.out);
  can : CanReadAll (g.H.Host.told l.host) l.files.items;
  room : 0 < length l.buffer;
  short : length l.buffer ≤ 65536;
  counts : Onward (g.H.Host.counts l.initial.host) (g.H.Host.counts l.host);
  puts : g.K.Sink.faults l.initial.out ≤ g.K.Sink.faults l.out;
}

abbrev pub decreases-loop-file : goal.decreases-loop-file
decreases-loop-file g l = vec_len l.files
