-- When the state in memory is a world.
use Rattle.std.specs.Prelude.{◌≡◌, ℕ, ◌+◌, ◌<◌, ◌≤◌, nat_eq, Bool, true, cond, ℤ, List, Option, Some, None, map, length, slice_get}
use Rattle.std.specs.Prelude.{slice_index_or, vec_len, vec_capacity, ◌++◌, [], ◌∷◌, pos}
use Rattle.lr_rules.specs.declared.path.Path.{Path}
use Rattle.lr_host.specs.declared.thing.Thing.{Thing}
use Rattle.lr_host.specs.declared.thing.Thing.TheVariants as thing
use Rattle.lr_host.specs.declared.entry.Entry.{Entry}
use Rattle.lr_host.specs.declared.entry.Entry.TheVariants.{Attach, Feed, Detach, Renames, Makes, Appends, Unlinks, MakesDir}
use Rattle.lr_host.specs.declared.journal.Journal.{Journal}
use Rattle.lr_host.specs.declared.journal.Opening.{Opening}
use Rattle.lr_host.specs.declared.journal.OpenFile.{OpenFile}
use Rattle.lr_host.specs.Below.{NamesBelow, AllBelow}
use Rattle.lr_host.specs.World.{World, File, past, world, names, cut_to, holds_file, Puts, Moves, Drops}
use Rattle.lr_host.specs.Opening.{IsJournal}
use Rattle.lr_disk.specs.declared.state.State.{State}
use Rattle.lr_disk.specs.declared.file.MemFile.{MemFile}
use Rattle.lr_disk.specs.Pairs.{pair_value, has}
use Rattle.lr_disk.specs.Names.{named_in}
use Rattle.lr_disk.specs.Pending.{pending_of}
use Rattle.lr_disk.specs.Tree.{IsTree, CanChange}

abbrev pub as_file : MemFile → File
as_file f = record { bytes = f.bytes.items; synced = f.synced; mtime = f.mtime; mode = f.mode }

-- the file of an opening that it is
abbrev pub as_open : MemFile → OpenFile
as_open f = record { bytes = f.bytes.items; synced = f.synced; mtime = f.mtime; mode = f.mode }

abbrev pub no_file : File
no_file = record { bytes = []; synced = 0; mtime = pos 0; mode = None }

-- the file with this identity
abbrev pub file_with : List MemFile → ℕ → File
file_with files id = slice_index_or (map as_file files) id no_file

abbrev pub hold_in : List (ℕ × Option ℕ) → ℕ → Option ℕ
hold_in holds v = pair_value nat_eq None holds v

abbrev pub has_writer : List (ℕ × Option ℕ) → ℕ → Bool
has_writer holds v = has nat_eq holds v

-- the file that a path names
abbrev pub file_named : Thing → Option ℕ
file_named (thing.File g) = Some g
file_named _ = None

-- the state in memory is that world
pub record ShowsWorld (state : State) (w : World) : Type 0 where
  pub tree : IsTree state.tree
  pub named : (x : Path) → named_in state.tree.names.items x ≡ names w x
  pub durable : (x : Path) → named_in state.tree.durable.items x ≡ w.durable x
  pub changes : pending_of state.tree.changes.items ≡ w.pending
  pub drawn : length state.files.items ≡ w.drawn
  pub files : (id : ℕ) → id < w.drawn → file_with state.files.items id ≡ w.files id
  pub holds : (v : ℕ) → hold_in state.holds.items v ≡ w.holds v
  -- only what was drawn is named, durably and by changes
  pub below : NamesBelow w.drawn (names w)
  pub below_durable : NamesBelow w.drawn w.durable
  pub below_pending : AllBelow w.drawn w.pending
  -- no file that is yet to be drawn has a mode
  pub unmade : (id : ℕ) → w.drawn ≤ id → (w.files id).mode ≡ None
  pub now : state.moment ≡ w.now

-- the file, where one is given, has room for so many bytes more
abbrev pub FileHasRoom : State → Option ℕ → ℕ → Type 0
FileHasRoom state file more =
    (id : ℕ) → file ≡ Some id → (f : MemFile) → slice_get state.files.items id ≡ Some f
    → vec_len f.bytes + more ≤ vec_capacity f.bytes

-- the making of a file under the path was made ready
abbrev pub CanDraw : State → Path → Type 0
CanDraw state x = CanChange state.tree (Puts x (thing.File (length state.files.items)))
    × (vec_len state.files < vec_capacity state.files)

-- there is room for what the entry changes
abbrev pub EntryHasRoom : State → Entry → Type 0
EntryHasRoom state (Attach writer x at) = CanDraw state x × (has_writer state.holds.items writer ≡ true)
EntryHasRoom state (Feed writer bytes at) = FileHasRoom state (hold_in state.holds.items writer) (length bytes)
EntryHasRoom state (Detach writer) = has_writer state.holds.items writer ≡ true
EntryHasRoom state (Renames from to) = CanChange state.tree (Moves from to)
EntryHasRoom state (Makes x mode) = CanDraw state x
EntryHasRoom state (Appends x bytes) = FileHasRoom state (file_named (named_in state.tree.names.items x)) (length bytes)
EntryHasRoom state (Unlinks x) = CanChange state.tree (Drops x)
EntryHasRoom state (MakesDir x mode) = CanChange state.tree (Puts x thing.Directory)
EntryHasRoom state _ = Unit {0}

-- The file, where one is given, became what f makes of it, and nothing else changed.
pub record IsFiled (f : File → File) (file : Option ℕ) (s t : State) : Type 0 where
  pub tree : t.tree ≡ s.tree
  pub holds : t.holds.items ≡ s.holds.items
  pub now : t.moment ≡ s.moment
  pub size : length t.files.items ≡ length s.files.items
  pub files : (id : ℕ) → id < length s.files.items → file_with t.files.items id
      ≡ cond (holds_file file id) (f (file_with s.files.items id)) (file_with s.files.items id)

abbrev pub fed_file : List ℕ → ℤ → File → File
fed_file bytes at f = record { bytes = f.bytes ++ bytes; synced = f.synced; mtime = at; mode = f.mode }

abbrev pub synced_file : File → File
synced_file f = record { bytes = f.bytes; synced = length f.bytes; mtime = f.mtime; mode = f.mode }

abbrev pub emptied_file : ℤ → File → File
emptied_file at f = record { bytes = []; synced = 0; mtime = at; mode = f.mode }

abbrev pub cut_file : Option ℕ → File → File
cut_file limit f = record { bytes = cut_to limit f.bytes; synced = length (cut_to limit f.bytes); mtime = f.mtime; mode = f.mode }

-- the world behind the making of a file
abbrev pub made_world : World → Path → ℤ → Option ℕ → World
made_world w x at mode = record {
  files = λ id. record {
    bytes = cond (nat_eq w.drawn id) [] (w.files id).bytes;
    synced = cond (nat_eq w.drawn id) 0 (w.files id).synced;
    mtime = cond (nat_eq w.drawn id) at (w.files id).mtime;
    mode = cond (nat_eq w.drawn id) mode (w.files id).mode;
  };
  drawn = w.drawn + 1;
  durable = w.durable;
  pending = Puts x (thing.File w.drawn) ∷ w.pending;
  holds = w.holds;
  now = w.now;
  running = w.running;
}

-- one entry more
abbrev pub with_entry : Journal → Entry → Journal
with_entry j e = record { opening = j.opening; entries = j.entries ++ e ∷ [] }

-- the journal of a disk at its opening
abbrev pub opened_journal : Opening → Journal
opened_journal o = record { opening = o; entries = [] }

-- What a disk in memory keeps: its state is the world of its journal, which is one of a disk, and while a run stands there is room
-- for its end.
pub record IsDisk (state : State) (len capacity : ℕ) (j : Journal) : Type 0 where
  pub shows : ShowsWorld state (world (past j))
  pub journal : IsJournal (past j)
  pub empty : len ≡ 0
  pub room : (world (past j)).running ≡ true → length j.entries < capacity
