use Rattle.std.proofs.Common.{◌≡◌, ℕ, ◌+◌, ◌++◌}
use Rattle.lr_nights.specs.Month.{nights_from}
use Rattle.lr_nights.proofs.month.draw_each.Given as goal

abbrev pub invariant-loop-night : goal.invariant-loop-night
invariant-loop-night l = (left : ℕ) → l.night + left ≡ l.count + 1 → l.nights.items ++ nights_from l.logs l.night left l.x ≡ nights_from l.logs 1 l.count l.initial.x
