use Rattle.std.proofs.Common.{take}
use Rattle.lr_host.specs.Told.{Left, Onward}
use Rattle.lr_glob.specs.Rounds.{Led}
use Rattle.lr_glob.proofs.lead.lead.Given as goal

abbrev pub invariant-loop-part : goal.invariant-loop-part
invariant-loop-part g l = record {
  told : Left (Led (take l.part-index l.parts) l.fn.start.items l.dirs.items) (g.H.Host.told l.initial.host) (g.H.Host.told l.host);
  counts : Onward (g.H.Host.counts l.initial.host) (g.H.Host.counts l.host);
}
