use Rattle.lr_host.specs.Told.{Onward}
use Rattle.lr_include.specs.Stages.{Stage}
use Rattle.lr_include.specs.Course.{StandsAt, GoesOn}
use Rattle.lr_include.proofs.course.Course.run.Given as goal

abbrev pub invariant-loop-turn : goal.invariant-loop-turn
invariant-loop-turn g l = record {
  told : (s : Stage) → StandsAt l.initial.self s → GoesOn s l.self (g.H.Host.told l.initial.host) (g.H.Host.told l.host) (g.H.Host.counts l.initial.host).faults (g.H.Host.counts l.host).faults;
  counts : Onward (g.H.Host.counts l.initial.host) (g.H.Host.counts l.host);
}
