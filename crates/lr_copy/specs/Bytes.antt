-- The bytes of one file that are read and go behind those of another.
use Rattle.std.specs.Prelude.{◌≡◌, ◌≢◌, ◌≤◌, ◌<◌, ℕ, List, [], ◌∷◌, ◌++◌, length}
use Rattle.lr_rules.specs.declared.path.Path.{Path}
use Rattle.lr_host.specs.declared.entry.Entry.{Entry}
use Rattle.lr_host.specs.declared.entry.Entry.TheVariants.{Reads, Appends}
use Rattle.lr_host.specs.Told.{Then, Are, Counts, Rose}
use Rattle.lr_host.specs.Appending.{AppendBroke}
use Rattle.lr_copy.specs.declared.job.BytesStop.{BytesStop}
use Rattle.lr_copy.specs.declared.job.BytesStop.TheVariants as broke

-- the bytes that these append, joined
abbrev pub appended : List Entry → List ℕ
appended [] = []
appended (Appends x piece ∷ ts) = piece ++ appended ts
appended (_ ∷ ts) = appended ts

-- Of the one path these bytes were read, from its first byte on, in pieces of 65,536 bytes at most, each behind the end of the one
-- before; and before each further read all of them were appended to the other, in pieces. Now they are, but for those at the end
-- that are owed.
pub data Copying (from to : Path) : List ℕ → List ℕ → List Entry → Type 0 where
  none_read : Copying from to [] [] []
  read_more : {bytes : List ℕ} {ts : List Entry} → Copying from to bytes [] ts → (piece : List ℕ) → piece ≢ []
      → length piece ≤ 65536 → Copying from to (bytes ++ piece) piece (ts ++ Reads from (length bytes) piece ∷ [])
  took_more : {bytes : List ℕ} {ts : List Entry} (piece owed : List ℕ) → Copying from to bytes (piece ++ owed) ts
      → Copying from to bytes owed (ts ++ Appends to piece ∷ [])

-- So many bytes of the one file were read, from its first to its end, where a read gave nothing, and just these were appended to
-- the other; they aren't more than the limit.
pub record AllBytes (from to : Path) (limit count : ℕ) (ts : List Entry) : Type 0 where
  pub bytes : List ℕ
  pub count_is : count ≡ length bytes
  pub within : length bytes ≤ limit
  pub entries : Then (Copying from to bytes []) (Are (Reads from (length bytes) [] ∷ [])) ts

-- They weren't: a read failed, where all that was read before was appended; an append failed, of which a first part may stand; or
-- more bytes were read than the limit.
abbrev pub BytesBroke : Path → Path → ℕ → BytesStop → List Entry → Type 0
BytesBroke from to limit broke.Read ts = (bytes : List ℕ) × (length bytes ≤ limit) × Copying from to bytes [] ts
BytesBroke from to limit broke.Append ts = (bytes owed : List ℕ) × (length bytes ≤ limit)
    × Then (Copying from to bytes owed) (AppendBroke to owed) ts
BytesBroke from to limit broke.TooLong ts = (bytes owed : List ℕ) × (limit < length bytes) × Copying from to bytes owed ts

-- A call fails only where faults rose.
abbrev pub BytesCause : BytesStop → Counts → Counts → Type 0
BytesCause broke.TooLong before now = Unit {0}
BytesCause _ before now = Rose before.faults now.faults
