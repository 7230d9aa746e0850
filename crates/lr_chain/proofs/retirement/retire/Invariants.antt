use Rattle.std.proofs.Common.{take}
use Rattle.lr_host.specs.Told.{Left, Are, Onward}
use Rattle.lr_chain.specs.Ready.{removals_of}
use Rattle.lr_chain.proofs.retirement.retire.Given as goal

abbrev pub invariant-loop-at : goal.invariant-loop-at
invariant-loop-at g l = record {
  told : Left (Are (removals_of (take l.at l.list))) (g.H.Host.told l.initial.host) (g.H.Host.told l.host);
  counts : Onward (g.H.Host.counts l.initial.host) (g.H.Host.counts l.host);
}
