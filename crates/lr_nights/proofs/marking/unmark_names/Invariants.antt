use Rattle.std.proofs.Common.{◌≡◌, ℕ, ◌&&◌, not, drop}
use Rattle.lr_nights.specs.Marks.{is_marked, has_name}
use Rattle.lr_nights.proofs.marking.unmark_names.Given as goal

abbrev pub invariant-loop-name : goal.invariant-loop-name
invariant-loop-name l = (g : ℕ) → (is_marked l.marks.items g && not (has_name (drop l.name-index l.named) g)) ≡ (is_marked l.fn.marks.items g && not (has_name l.named g))
