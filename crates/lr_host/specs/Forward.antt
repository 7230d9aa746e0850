-- That the stamps of a dated set don't go back.
use Rattle.std.specs.Prelude.{◌≡◌, ℤ, ◌≤ℤ◌, List, Some}
use Rattle.lr_rules.specs.declared.path.Path.{Path}
use Rattle.lr_host.specs.World.{Names, Change, Past}
use Rattle.lr_host.specs.Fits.{IsFileAt}
use Rattle.lr_host.specs.Sets.{LogSet}
use Rattle.lr_host.specs.Kept.{Leaves}

-- No member of the dated set that names a file, now or after a cut that is allowed now, has a stamp later than this moment: that of
-- the stamp which a call's clock gives.
abbrev pub IsForward : LogSet → Past → ℤ → Type 0
IsForward s p stamp = (n : Names) (undone : List Change) → Leaves p n undone → (y : Path) (t : ℤ) → s.key y ≡ Some t → IsFileAt n y
    → t ≤ℤ stamp
