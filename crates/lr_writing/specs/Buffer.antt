-- A text that passes through a buffer.
use Rattle.std.specs.Prelude.{◌≡◌, ℕ, List, ◌++◌, Option}
use Rattle.lr_rules.specs.declared.path.Path.{Path}
use Rattle.lr_host.specs.declared.entry.Entry.{Entry}
use Rattle.lr_host.specs.declared.journal.Journal.{Journal}
use Rattle.lr_host.specs.Told.{Left, Each}
use Rattle.lr_host.specs.Appending.{Appended, AppendBroke}
use Rattle.lr_writing.specs.Writes.{IsShort}

-- the text was appended, in pieces that are no longer than the buffer; a first part of it was
abbrev pub Wrote : Path → List ℕ → List Entry → Type 0
Wrote path text ts = Appended path text ts × Each IsShort ts

abbrev pub WriteBroke : Path → List ℕ → List Entry → Type 0
WriteBroke path text ts = AppendBroke path text ts × Each IsShort ts

-- all of the text was appended but what is held back, at its end
pub record HoldsBack (path : Path) (text held : List ℕ) (told later : Option Journal) : Type 0 where
  pub front : List ℕ
  pub text_is : text ≡ front ++ held
  pub entries : Left (Wrote path front) told later
