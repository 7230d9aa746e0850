use Rattle.std.proofs.Common.{◌≡◌, ℕ, ◌+◌, ◌-◌, length}
use Rattle.lr_nights.specs.Marks.{is_marked}
use Rattle.lr_nights.proofs.marks.widen.Given as goal

abbrev pub invariant-loop-marks : goal.invariant-loop-marks
invariant-loop-marks l = (g : ℕ) → is_marked l.marks.items g ≡ is_marked l.fn.marks.items g

abbrev pub decreases-loop-marks : goal.decreases-loop-marks
decreases-loop-marks l = l.at + 1 - length l.marks.items
