use Rattle.std.proofs.Common.{◌≡◌, ℕ, ◌||◌, List, drop}
use Rattle.lr_host.specs.Sets.{LogSet}
use Rattle.lr_nights.specs.Summary.{AreSetsOf, logs_of}
use Rattle.lr_nights.specs.Marks.{is_marked, is_of_logs}
use Rattle.lr_nights.proofs.marking.mark_names.Given as goal

abbrev pub invariant-loop-name : goal.invariant-loop-name
invariant-loop-name l = (sets : List LogSet) → AreSetsOf (logs_of l.logs) sets → (g : ℕ) → (is_marked l.marks.items g || is_of_logs sets (drop l.name-index l.named) g) ≡ (is_marked l.fn.marks.items g || is_of_logs sets l.named g)
