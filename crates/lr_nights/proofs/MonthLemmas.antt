-- The thirty nights.
use Rattle.std.proofs.Common.{◌≡◌, ℕ, refl}
use Rattle.lr_nights.specs.Draws.{behind_logs}
use Rattle.lr_nights.specs.Month.{nights_from, drawn_nights}

pub drawn_nights_are : (logs : ℕ) → drawn_nights logs ≡ nights_from logs 1 30 (behind_logs logs logs)
unfolding drawn_nights
drawn_nights_are logs = refl
