-- A whole copy of a log, at a moment and after each cut that the machine may make then.
use Rattle.std.specs.Prelude.{◌≡◌, ◌≢◌, ℕ, ℤ, List, [], ◌++◌, length, Some}
use Rattle.lr_rules.specs.declared.path.Path.{Path}
use Rattle.lr_host.specs.declared.thing.Thing.TheVariants as thing
use Rattle.lr_host.specs.declared.entry.Entry.{Entry}
use Rattle.lr_host.specs.declared.entry.Entry.TheVariants.{Feed, Reads}
use Rattle.lr_host.specs.Fits.{Fits}
use Rattle.lr_host.specs.Quiet.{AttachedOnlySince}
use Rattle.lr_host.specs.Safe.{IsMachines, IsPrefix}
use Rattle.lr_host.specs.Told.{Then, Are}
use Rattle.lr_host.specs.World.{Past, ◌▸◌, world, names}
use Rattle.lr_copy.specs.declared.job.Job.{Job}
use Rattle.lr_copy.specs.Copying.{opening, Fills, naming}

-- the entries of a copy up to the sync of its directory
abbrev pub Named : Job → ℕ → List Entry → Type 0
Named job count ts = Then (Are (opening job)) (Then (Fills job count) (Are (naming job))) ts

-- No writer is attached to the part file's path, nor to the final one.
abbrev pub WritersSpareCopy : Job → Past → Past → Type 0
WritersSpareCopy job p q = AttachedOnlySince (λ x. (x ≢ job.part) × (x ≢ job.to)) p q

-- the entry is no feed by a writer that holds the file
abbrev pub IsNoFeed : ℕ → Past → Entry → Type 0
IsNoFeed g q (Feed writer bytes at) = (world q).holds writer ≢ Some g
IsNoFeed g q _ = Unit {0}

-- Between the two pasts writers fed the file these bytes, in order.
pub data Fed (g : ℕ) (p : Past) : List ℕ → Past → Type 0 where
  none_fed : Fed g p [] p
  fed_more : {bytes : List ℕ} {q : Past} {writer : ℕ} {at : ℤ} → Fed g p bytes q → (world q).holds writer ≡ Some g
      → (piece : List ℕ) → Fed g p (bytes ++ piece) (q ▸ Feed writer piece at)
  no_more : {bytes : List ℕ} {q : Past} {e : Entry} → Fed g p bytes q → IsNoFeed g q e → Fed g p bytes (q ▸ e)

-- The path names the file, which has these bytes.
pub record Has (x : Path) (g : ℕ) (bytes : List ℕ) (p : Past) : Type 0 where
  pub named : names (world p) x ≡ thing.File g
  pub bytes_are : ((world p).files g).bytes ≡ bytes

-- The path wasn't read between the two pasts.
abbrev pub IsUnread : Path → Past → Past → Type 0
IsUnread x p q = (r : Past) (place : ℕ) (piece : List ℕ) → IsPrefix p r → IsPrefix (r ▸ Reads x place piece) q → ⊥

-- The final path names a file that has, now and after each cut that is allowed now, just the bytes that the log's file had at its
-- last read, which was made at the end of them and gave nothing. The log's path names the same file still; that has these bytes
-- first, and then what writers fed it since.
pub record IsCopyWhole (from to : Path) (before now : Past) : Type 0 where
  -- the log's file, and that of the copy
  pub log : ℕ
  pub copy : ℕ
  pub bytes : List ℕ
  -- just before the last read of the log's path
  pub last : Past
  pub since : IsPrefix before last
  pub read : IsPrefix (last ▸ Reads from (length bytes) []) now
  pub unread : IsUnread from (last ▸ Reads from (length bytes) []) now
  pub log_then : Has from log bytes last
  pub later : List ℕ
  pub fed : Fed log last later now
  pub log_now : Has from log (bytes ++ later) now
  pub copied : Has to copy bytes now
  pub cut : (c : Entry) → IsMachines c → Fits (world now) c → Has to copy bytes (now ▸ c)
