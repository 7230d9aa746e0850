use Rattle.std.proofs.Common.{map, take}
use Rattle.lr_host.specs.Told.{Left, Are, Onward}
use Rattle.lr_chain.specs.Ready.{move_step}
use Rattle.lr_chain.proofs.chain.move_members.Given as goal

abbrev pub invariant-loop-at : goal.invariant-loop-at
invariant-loop-at g l = record {
  told : Left (Are (map move_step (take l.at l.moves))) (g.H.Host.told l.initial.host) (g.H.Host.told l.host);
  counts : Onward (g.H.Host.counts l.initial.host) (g.H.Host.counts l.host);
}
