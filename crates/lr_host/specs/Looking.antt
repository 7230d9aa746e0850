-- Entries that are looks and listings, and reads.
use Rattle.std.specs.Prelude.{List}
use Rattle.lr_host.specs.declared.entry.Entry.{Entry}
use Rattle.lr_host.specs.declared.entry.Entry.TheVariants as entry
use Rattle.lr_host.specs.Told.{Each}

-- a look or a listing
abbrev pub IsLooking : Entry → Type 0
IsLooking (entry.Look x seen) = Unit {0}
IsLooking (entry.List dir listed) = Unit {0}
IsLooking _ = ⊥

abbrev pub AreLooking : List Entry → Type 0
AreLooking ts = Each IsLooking ts

-- a look, a listing or a read
abbrev pub IsSight : Entry → Type 0
IsSight (entry.Look x seen) = Unit {0}
IsSight (entry.List dir listed) = Unit {0}
IsSight (entry.Reads x from piece) = Unit {0}
IsSight _ = ⊥

abbrev pub AreSights : List Entry → Type 0
AreSights ts = Each IsSight ts
