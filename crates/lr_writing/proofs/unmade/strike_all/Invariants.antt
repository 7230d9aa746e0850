use Rattle.std.proofs.Common.{◌≡◌, ◌&&◌, not, ℕ, List, take}
use Rattle.std.specs.BTreeSet.{contains_text}
use Rattle.std.specs.List.{list_any}
use Rattle.std.specs.Str.{bytes_eq}
use Rattle.lr_writing.specs.Synced.{made_in}
use Rattle.lr_writing.proofs.unmade.strike_all.Given as goal

abbrev pub invariant-loop-mark : goal.invariant-loop-mark
invariant-loop-mark l = (path : List ℕ) → contains_text l.unmade path ≡ (contains_text l.initial.unmade path && not (list_any (bytes_eq path) (made_in (take l.mark-index l.marks))))
