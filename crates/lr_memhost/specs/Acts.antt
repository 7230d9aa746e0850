-- What each call to a host in memory does: writers act, and then the call is made or fails.
use Rattle.std.specs.Ordering.{int_eq}
use Rattle.std.specs.Prelude.{◌≡◌, ◌≢◌, ℕ, ◌+◌, ◌-◌, ◌^◌, ◌<◌, ◌≤◌, min, ◌==◌, ◌⊎◌, Bool, true, false, not, cond, pos, List, []}
use Rattle.std.specs.Prelude.{◌∷◌, drop, Option, Some, None, option_to_list}
use Rattle.lr_rules.specs.declared.path.Path.{Path}
use Rattle.lr_host.specs.declared.entry.Entry.{Entry}
use Rattle.lr_host.specs.declared.entry.Entry.TheVariants as entry
use Rattle.lr_host.specs.declared.journal.Journal.{Journal}
use Rattle.lr_host.specs.declared.thing.Thing.TheVariants as thing
use Rattle.lr_host.specs.World.{Past, ◌▸◌, past, world, names}
use Rattle.lr_host.specs.Fits.{Fits}
use Rattle.lr_rules.specs.declared.fault.Ended.{Ended}
use Rattle.lr_rules.specs.declared.fault.Ended.TheVariants as ended
use Rattle.lr_host.specs.Told.{Counts, IsWriters, IsTools, Rose}
use Rattle.lr_disk.specs.State.{with_entry}
use Rattle.lr_memhost.specs.declared.act.Act.{Act}
use Rattle.lr_memhost.specs.declared.act.Failing.{Failing}
use Rattle.lr_memhost.specs.declared.act.How.{How}
use Rattle.lr_memhost.specs.declared.act.How.TheVariants as how
use Rattle.lr_memhost.specs.How.{downs}

-- What a host has besides its disk, its acts and its calls.
pub record Rest : Type 0 where
  -- the ends of the programs to come
  pub ends : List Ended
  -- how many bytes an append takes at most
  pub piece : ℕ
  -- the run has the lock
  pub mine : Bool
  -- another has the lock
  pub another : Bool
  -- how many programs ended badly
  pub bad_ends : ℕ
  -- how often the lock was taken already
  pub held : ℕ

-- A host in memory, as contracts see it.
pub record View : Type 0 where
  pub journal : Journal
  -- the acts that are still to come
  pub acts : List Act
  pub failing : List Failing
  -- how many calls there were
  pub calls : ℕ
  -- how many calls failed
  pub faults : ℕ
  -- how often there was no memory
  pub starved : ℕ
  -- a Stop came, and no revival since
  pub down : Bool
  pub rest : Rest

abbrev pub counts_of : View → Counts
counts_of v = record { faults = v.faults; bad_ends = v.rest.bad_ends; held = v.rest.held; locked = v.rest.mine }

-- nobody has the lock
abbrev pub LockIsFree : Rest → Type 0
LockIsFree r = (r.mine ≡ false) × (r.another ≡ false)

-- how the next program ends
abbrev pub first_end : List Ended → Ended
first_end [] = ended.Exit (pos 0)
first_end (e ∷ es) = e

abbrev pub is_bad_ending : Ended → Bool
is_bad_ending (ended.Exit code) = not (int_eq code (pos 0))
is_bad_ending ended.Killed = true

-- one more; a count at its type's end stands still
abbrev pub one_more : ℕ → ℕ
one_more n = min (n + 1) (2 ^ 64 - 1)

-- a program ran
abbrev pub after_end : Rest → Rest
after_end r = record {
  ends = drop 1 r.ends;
  piece = r.piece;
  mine = r.mine;
  another = r.another;
  bad_ends = cond (is_bad_ending (first_end r.ends)) (one_more r.bad_ends) r.bad_ends;
  held = r.held;
}

-- how the call with this number is to fail, by the first that lists it
abbrev pub how_of : List Failing → ℕ → Option How
how_of [] number = None
how_of (f ∷ fs) number = cond (f.at == number) (Some f.how) (how_of fs number)

-- how the next call is to fail
abbrev pub how_at : View → Option How
how_at v = cond v.down (Some how.Stop) (how_of v.failing v.calls)

-- the next call is listed, or comes after a Stop
abbrev pub IsNextListed : View → Type 0
IsNextListed v = how_at v ≢ None

-- there was no memory
abbrev pub Starved : View → View → Type 0
Starved before after = Rose before.starved after.starved

-- no fault came, and `starved` rose only where an act waits still
abbrev pub Unraised : View → View → Type 0
Unraised before after = (after.faults ≡ before.faults) × (after.acts ≡ [] → after.starved ≡ before.starved)

-- Before the call with this number came, in order, the acts that were due: each that is a writer's and fits stands in the journal,
-- the others are passed over, and those that aren't due stay. Where it was stopped, the rest stays.
pub data ActsCame (number : ℕ) (stopped : Bool) : Past → List Act → Past → List Act → Type 0 where
  all : {p : Past} → ActsCame number stopped p [] p []
  stays : {p q : Past} {a : Act} {acts left : List Act} → number < a.before → ActsCame number stopped p acts q left
      → ActsCame number stopped p (a ∷ acts) q (a ∷ left)
  enters : {p q : Past} {a : Act} {acts left : List Act} → a.before ≤ number → IsWriters a.what → Fits (world p) a.what
      → ActsCame number stopped (p ▸ a.what) acts q left → ActsCame number stopped p (a ∷ acts) q left
  passes : {p q : Past} {a : Act} {acts left : List Act} → a.before ≤ number → ¬ (IsWriters a.what × Fits (world p) a.what)
      → ActsCame number stopped p acts q left → ActsCame number stopped p (a ∷ acts) q left
  stops : {p : Past} {acts : List Act} → stopped ≡ true → ActsCame number stopped p acts p acts

-- an act that is due came: it stands in the journal where it is a writer's and fits, and is passed over elsewhere
abbrev pub ActComes : Act → Past → Past → Type 0
ActComes a p q = (IsWriters a.what × Fits (world p) a.what × (q ≡ p ▸ a.what))
    ⊎ ((IsWriters a.what × Fits (world p) a.what → ⊥) × (q ≡ p))

-- the call left this entry, or none
abbrev pub Entered : Past → Option Entry → Past → Type 0
Entered p None q = q ≡ p
Entered p (Some e) q = IsTools e × Fits (world p) e × (q ≡ p ▸ e)

-- One call: the acts that were due came, and then the call's entries, which have P.
pub record CallTurned (P : List Entry → Type 0) (before after : View) : Type 0 where
  pub between : Past
  pub stopped : Bool
  pub came : ActsCame before.calls stopped (past before.journal) before.acts between after.acts
  pub starved : stopped ≡ true → Starved before after
  pub left : Option Entry
  pub entered : Entered between left (past after.journal)
  pub has : P (option_to_list left)
  pub calls : after.calls ≡ one_more before.calls
  pub failing : after.failing ≡ before.failing
  pub down : after.down ≡ downs (how_at before)

-- the entries whose call may be made wherever it fits
abbrev pub IsSure : Entry → Type 0
IsSure (entry.Starts state now rules) = Unit {0}
IsSure (entry.Renames from to) = Unit {0}
IsSure (entry.Appends x bytes) = Unit {0}
IsSure (entry.Truncates x) = Unit {0}
IsSure (entry.Unlinks x) = Unit {0}
IsSure (entry.SyncsFile x) = Unit {0}
IsSure (entry.SyncsDir x) = Unit {0}
IsSure _ = ⊥

-- the entries that make something new of this path
abbrev pub IsMaking : Path → Entry → Type 0
IsMaking path (entry.Makes x mode) = x ≡ path
IsMaking path (entry.MakesDir x mode) = x ≡ path
IsMaking path _ = ⊥

-- such an entry was left, or, where the path was named, nothing
abbrev pub LeftNew : Path → Bool → Entry → Journal → Journal → Type 0
LeftNew x true e before after = (after ≡ with_entry before e) × IsTools e × Fits (world (past before)) e
LeftNew x false e before after = (after ≡ before) × (names (world (past before)) x ≢ thing.Nothing)
