-- The text that reads of one path give.
use Rattle.std.specs.Prelude.{◌≡◌, ◌<◌, ◌≤◌, ℕ, ◌+◌, Bool, false, List, [], ◌∷◌, ◌++◌, length}
use Rattle.std.specs.List.{list_any}
use Rattle.lr_rules.specs.declared.path.Path.{Path}
use Rattle.lr_rules.specs.Path.{is_empty}
use Rattle.lr_host.specs.declared.entry.Entry.{Entry}
use Rattle.lr_host.specs.declared.entry.Entry.TheVariants.{Reads}
use Rattle.lr_host.specs.Told.{Each, Are, Then}

-- a read of the path
abbrev pub IsReadOf : Path → Entry → Type 0
IsReadOf path (Reads x from piece) = x ≡ path
IsReadOf path _ = ⊥

-- a read gave at most 65,536 bytes
abbrev pub IsShortRead : Entry → Type 0
IsShortRead (Reads x from piece) = length piece ≤ 65536
IsShortRead _ = Unit {0}

-- the bytes that these read, joined
abbrev pub text : List Entry → List ℕ
text [] = []
text (Reads x from piece ∷ ts) = piece ++ text ts
text (_ ∷ ts) = text ts

-- each read begins where the one before ended, the first at this place
abbrev pub AreJoined : ℕ → List Entry → Type 0
AreJoined place [] = Unit {0}
AreJoined place (Reads x from piece ∷ ts) = (from ≡ place) × AreJoined (place + length piece) ts
AreJoined place (_ ∷ ts) = AreJoined place ts

-- the read gave nothing, so the place was the end
abbrev pub is_last_read : Entry → Bool
is_last_read (Reads x from piece) = is_empty piece
is_last_read _ = false

-- These bytes were read of the path from its first byte on, and each read gave some.
pub record ReadsOf (path : Path) (bytes : List ℕ) (ts : List Entry) : Type 0 where
  pub only : Each (IsReadOf path) ts
  pub joined : AreJoined 0 ts
  pub some : list_any is_last_read ts ≡ false
  pub bytes_are : text ts ≡ bytes

-- They are as many as the limit; or all bytes of the path, fewer than the limit, and a last read gave nothing.
pub data ReadsAll (path : Path) (limit : ℕ) (bytes : List ℕ) (ts : List Entry) : Type 0 where
  to_limit : length bytes ≡ limit → ReadsOf path bytes ts → ReadsAll path limit bytes ts
  to_end : length bytes < limit → Then (ReadsOf path bytes) (Are (Reads path (length bytes) [] ∷ [])) ts
      → ReadsAll path limit bytes ts
