-- Entries that stand beside a set, between the steps of its rotation.
use Rattle.std.specs.Prelude.{◌≡◌, ◌⊎◌, false}
use Rattle.lr_host.specs.declared.entry.Entry.{Entry}
use Rattle.lr_host.specs.declared.entry.Entry.TheVariants.{MakesDir}
use Rattle.lr_host.specs.Sets.{LogSet, in_reach}
use Rattle.lr_laws.specs.Rotation.{IsAside}
use Rattle.lr_laws_family.specs.Beside.{MakesAt}

-- the entry makes no directory at a path that the set reaches
abbrev pub MakesNoDir : LogSet → Entry → Type 0
MakesNoDir s (MakesDir x mode) = in_reach s x ≡ false
MakesNoDir s _ = Unit {0}

-- the entry lies aside of the set, and makes no directory at a path that the set reaches
abbrev pub LiesBeside : LogSet → Entry → Type 0
LiesBeside s e = IsAside s e × MakesNoDir s e

-- such an entry, or one that makes the set's log anew
abbrev pub IsBesideSet : LogSet → Entry → Type 0
IsBesideSet s e = LiesBeside s e ⊎ MakesAt s.log e
