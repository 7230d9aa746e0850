use Rattle.std.proofs.Common.{◌≡◌, take}
use Rattle.lr_audited.specs.Gaps.{gaps_of}
use Rattle.lr_audited.proofs.gaps.gaps_of.Given as goal

abbrev pub invariant-loop-set : goal.invariant-loop-set
invariant-loop-set l = record { gaps : l.gaps.items ≡ gaps_of (take l.set-index l.sets) }
