use Rattle.std.proofs.Common.{◌≡◌, ℕ, ◌||◌, drop}
use Rattle.lr_host.specs.World.{World}
use Rattle.lr_disk.specs.State.{ShowsWorld}
use Rattle.lr_nights.specs.Marks.{is_marked, is_a_log}
use Rattle.lr_nights.proofs.marking.mark_logs.Given as goal

abbrev pub invariant-loop-log : goal.invariant-loop-log
invariant-loop-log l = (w : World) → ShowsWorld l.replay w → (g : ℕ) → (is_marked l.marks.items g || is_a_log w (drop l.log-index l.logs) g) ≡ (is_marked l.fn.marks.items g || is_a_log w l.logs g)
