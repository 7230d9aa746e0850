-- What the bytes of a file tell, as they are read.
use Rattle.std.specs.Prelude.{◌≡◌, ◌≤◌, ◌<◌, ◌+◌, ◌-◌, ℕ, false, List, [], ◌++◌, length, take, Option, Some, None}
use Rattle.lr_rules.specs.declared.path.Path.{Path}
use Rattle.lr_lex.specs.Items.{items}
use Rattle.lr_lex.specs.Streams.{StreamStands, still, given, MayComeBehind, HoldsNone}
use Rattle.lr_host.specs.declared.entry.Entry.{Entry}
use Rattle.lr_host.specs.declared.journal.Journal.{Journal}
use Rattle.lr_host.specs.Told.{Left, Each}
use Rattle.lr_host.specs.Reading.{ReadsOf, IsShortRead}
use Rattle.lr_include.specs.declared.part.TextEnd.{TextEnd}
use Rattle.lr_include.specs.declared.part.TextEnd.TheVariants as end
use Rattle.lr_include.specs.declared.file_taking.Taking.{Taking}
use Rattle.lr_include.specs.Visits.{ShowsText}

-- Bytes may follow, and all that is whole was taken in.
pub record IsUnclosed (t : Taking) : Type 0 where
  pub stands : StreamStands t.stream
  pub unclosed : t.stream.closed ≡ false
  pub none : HoldsNone t.stream false
  pub few : given t.stream ≤ t.size

-- the bytes tell the same, whatever follows
abbrev pub KeepsTold : Taking → Taking → Type 0
KeepsTold old new = (more : List ℕ) → MayComeBehind old.stream.closed more
    → old.told.items ++ still old.stream more ≡ new.told.items ++ still new.stream more

-- these bytes followed
abbrev pub AddsBytes : Taking → Taking → List ℕ → Type 0
AddsBytes old new piece = (more : List ℕ) → old.told.items ++ still old.stream (piece ++ more) ≡ new.told.items
    ++ still new.stream more

-- what a read brought, where there is room for so many bytes
abbrev pub ReadBrings : Taking → Taking → ℕ → List ℕ → Option TextEnd → Type 0
ReadBrings old new room piece None = IsUnclosed new × (new.size ≤ room) × (old.size < new.size)
    × (new.size ≡ old.size + length piece)
    × AddsBytes old new piece
ReadBrings old new room piece (Some end.Whole) = (piece ≡ []) × (new.size ≡ old.size)
    × (new.told.items ≡ old.told.items ++ still old.stream [])
ReadBrings old new room piece (Some end.TooMany) = IsUnclosed new × (room < new.size) × (new.size ≡ old.size + length piece)
    × AddsBytes old new (take (room - old.size) piece)
ReadBrings old new room piece (Some end.Failed) = ⊥

-- these bytes were read of the path from its first byte on, by reads of at most 65,536 bytes that gave some each
abbrev pub ShortReads : Path → List ℕ → List Entry → Type 0
ShortReads path bytes ts = ReadsOf path bytes ts × Each IsShortRead ts

-- So much was read of the path.
pub record TookFrom (path : Path) (t : Taking) (before after : Option Journal) : Type 0 where
  pub bytes : List ℕ
  pub reads : Left (ShortReads path bytes) before after
  pub told : (more : List ℕ) → items (bytes ++ more) ≡ t.told.items ++ still t.stream more
  pub size : t.size ≡ length bytes

-- behind one read more: it goes on, or ended so
abbrev pub ReadGoesOn : Path → ℕ → Taking → Option Journal → Option Journal → Option TextEnd → Type 0
ReadGoesOn path room t before after None = TookFrom path t before after
ReadGoesOn path room t before after (Some how) = Left (ShowsText path room t.told.items t.size how) before after
