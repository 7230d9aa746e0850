-- What a word gives, and why it gives nothing.
use Rattle.std.specs.Prelude.{◌≡◌, ◌⊎◌, ℕ, true, false, List, [], ◌∷◌, filter, None, Result, Err}
use Rattle.lr_rules.specs.declared.path.Path.{Path}
use Rattle.lr_rules.specs.declared.fault.CallKind.{CallKind}
use Rattle.lr_rules.specs.declared.fault.CallKind.TheVariants as call
use Rattle.lr_rules.specs.Match.{is_wildcard, literal_path}
use Rattle.lr_rules.specs.Path.{path_fault, is_absolute, root}
use Rattle.lr_host.specs.declared.entry.Entry.{Entry}
use Rattle.lr_host.specs.Told.{Then}
use Rattle.lr_host.specs.Looks.{Sees}
use Rattle.lr_glob.specs.declared.found.Found.{Found}
use Rattle.lr_glob.specs.declared.found.GlobStop.{GlobStop}
use Rattle.lr_glob.specs.declared.found.GlobStop.TheVariants as stop
use Rattle.lr_glob.specs.Parts.{parts_in}
use Rattle.lr_glob.specs.Rounds.{Led}
use Rattle.lr_glob.specs.Sights.{InOrder, is_whole, seen_at, LookedAt, FailedAt, LookedAtSome, judged}
use Rattle.lr_glob.specs.Stops.{NotLed}

-- The paths to which the parts of a wildcard lead were looked at, in order of bytes, but for copies that aren't whole; P holds of
-- these looks.
pub record SearchThen (word : List ℕ) (P : List Path → List Entry → Type 0) (ts : List Entry) : Type 0 where
  pub paths : List Path
  pub ordered : List Path
  pub order : InOrder (filter is_whole paths) ordered
  pub entries : Then (Led (parts_in word) (root ∷ []) paths) (P ordered) ts

-- What the word gives: a literal one what stands at its path, of any kind; a wildcard the regular files to which its parts lead.
pub data WordGave (word : List ℕ) (found : List Found) (ts : List Entry) : Type 0 where
  literal : is_wildcard word ≡ false → Sees (literal_path word) (λ seen. found ≡ seen_at (literal_path word) seen) ts
      → WordGave word found ts
  no_path : is_wildcard word ≡ false → (path_fault (literal_path word) ≡ None → ⊥) → found ≡ [] → ts ≡ [] → WordGave word found ts
  wildcard : is_wildcard word ≡ true → is_absolute word ≡ true → SearchThen word (λ ordered us. LookedAt ordered found us) ts
      → WordGave word found ts
  relative : is_wildcard word ≡ true → is_absolute word ≡ false → found ≡ [] → ts ≡ [] → WordGave word found ts

-- All that the word gives was looked at, and is judged to be that.
pub record Comes (word : List ℕ) (room : ℕ) (result : Result (List Found) GlobStop) (ts : List Entry) : Type 0 where
  pub all : List Found
  pub gave : WordGave word all ts
  pub is : judged room all ≡ result

-- A call failed: the look at a literal word's path, a visit of a directory, or the look at a path.
pub data WordCallFailed (word : List ℕ) (kind : CallKind) (path : Path) (ts : List Entry) : Type 0 where
  at_literal : is_wildcard word ≡ false → kind ≡ call.Look → path ≡ literal_path word → ts ≡ [] → WordCallFailed word kind path ts
  at_visit : is_wildcard word ≡ true → NotLed (parts_in word) (root ∷ []) (stop.Call kind path) ts
      → WordCallFailed word kind path ts
  at_look : is_wildcard word ≡ true → kind ≡ call.Look → SearchThen word (λ ordered us. FailedAt ordered path us) ts
      → WordCallFailed word kind path ts

-- Where there was no memory, a first part of these looks and listings was made.
pub data WordBegun (word : List ℕ) (ts : List Entry) : Type 0 where
  not_at_all : ts ≡ [] → WordBegun word ts
  at_literal : is_wildcard word ≡ false → Sees (literal_path word) (λ seen. Unit {0}) ts → WordBegun word ts
  at_visit : is_wildcard word ≡ true → NotLed (parts_in word) (root ∷ []) stop.Memory ts → WordBegun word ts
  between : is_wildcard word ≡ true → (paths : List Path) → Led (parts_in word) (root ∷ []) paths ts → WordBegun word ts
  at_look : is_wildcard word ≡ true → SearchThen word (λ ordered us. LookedAtSome ordered us) ts → WordBegun word ts

-- The parts were not followed to their end; or there was no memory before.
abbrev pub NotSought : List ℕ → GlobStop → List Entry → Type 0
NotSought word why ts = NotLed (parts_in word) (root ∷ []) why ts ⊎ ((why ≡ stop.Memory) × (ts ≡ []))

-- It was not known what the word gives: a call failed, or there was no memory.
abbrev pub Halted : List ℕ → GlobStop → List Entry → Type 0
Halted word (stop.Call kind path) ts = WordCallFailed word kind path ts
Halted word stop.Memory ts = WordBegun word ts
Halted word _ ts = ⊥

-- The look at a path failed; or there was no memory behind it.
abbrev pub LiteralBroken : Path → GlobStop → List Entry → Type 0
LiteralBroken at (stop.Call kind path) ts = (kind ≡ call.Look) × (path ≡ at) × (ts ≡ [])
LiteralBroken at stop.Memory ts = Sees at (λ seen. Unit {0}) ts
LiteralBroken at _ ts = ⊥

-- Why a word gives nothing: that, or what it gives is judged so.
abbrev pub Stopped : List ℕ → ℕ → GlobStop → List Entry → Type 0
Stopped word room (stop.Call kind path) ts = WordCallFailed word kind path ts
Stopped word room stop.Memory ts = WordBegun word ts
Stopped word room why ts = Comes word room (Err why) ts
