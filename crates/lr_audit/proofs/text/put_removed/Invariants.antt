use Rattle.std.proofs.Common.{Ok, take}
use Rattle.std.specs.List.{flat_map}
use Rattle.lr_shown.specs.Puts.{Puts}
use Rattle.lr_audit.specs.Text.{going_text}
use Rattle.lr_audit.proofs.text.put_removed.Given as goal

abbrev pub invariant-loop-going : goal.invariant-loop-going
invariant-loop-going g l = Puts (flat_map going_text (take l.going-index l.removed)) (Ok tt) (g.K.Sink.taken l.initial.out) (g.K.Sink.taken l.out) (g.K.Sink.faults l.initial.out) (g.K.Sink.faults l.out)
