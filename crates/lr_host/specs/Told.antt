-- What calls leave in a journal that is told.
use Rattle.std.specs.Prelude.{◌≡◌, ◌≢◌, ◌≤◌, ◌+◌, ◌-◌, ◌^◌, min, ◌⊎◌, ℕ, Bool, true, false, List, [], ◌∷◌, ◌++◌, reverse, take}
use Rattle.std.specs.Prelude.{length, Option, Some, None, Result, Ok, Err}
use Rattle.lr_rules.specs.declared.path.Path.{Path}
use Rattle.lr_rules.specs.Path.{parent_of}
use Rattle.lr_rules.specs.declared.fault.Ended.{Ended}
use Rattle.lr_host.specs.declared.thing.Thing.TheVariants as thing
use Rattle.lr_host.specs.declared.entry.Entry.{Entry}
use Rattle.lr_host.specs.declared.entry.Entry.TheVariants as entry
use Rattle.lr_host.specs.declared.journal.Journal.{Journal}
use Rattle.lr_host.specs.World.{Past, ◌▸◌, past, world, Names, names}
use Rattle.lr_host.specs.Fits.{Fits, IsFileAt, MaybeFileAt, IsDirectoryAt}

-- The counts of a host, and whether the run has the lock.
pub record Counts : Type 0 where
  pub faults : ℕ
  pub bad_ends : ℕ
  pub held : ℕ
  pub locked : Bool

-- no count fell
abbrev pub NoneFell : Counts → Counts → Type 0
NoneFell before now = (before.faults ≤ now.faults) × (before.bad_ends ≤ now.bad_ends) × (before.held ≤ now.held)

-- no count fell, and the run has the lock where it had it
abbrev pub Onward : Counts → Counts → Type 0
Onward before now = NoneFell before now × (now.locked ≡ before.locked)

-- the count has risen; at its greatest value it counts as risen
abbrev pub Rose : ℕ → ℕ → Type 0
Rose before now = min (before + 1) (2 ^ 64 - 1) ≤ now

-- a writer's entry
abbrev pub IsWriters : Entry → Type 0
IsWriters (entry.Attach writer x at) = Unit {0}
IsWriters (entry.Feed writer bytes at) = Unit {0}
IsWriters (entry.Flush writer) = Unit {0}
IsWriters (entry.Detach writer) = Unit {0}
IsWriters _ = ⊥

-- an entry of the tool
abbrev pub IsTools : Entry → Type 0
IsTools (entry.Attach writer x at) = ⊥
IsTools (entry.Feed writer bytes at) = ⊥
IsTools (entry.Flush writer) = ⊥
IsTools (entry.Detach writer) = ⊥
IsTools (entry.Cut kept lengths) = ⊥
IsTools _ = Unit {0}

-- The tool left these entries, the newest first, and writers theirs between them; each fits the world before it. Writers may act
-- also behind the last of them, up to the answer.
pub data Made (p : Past) : List Entry → Past → Type 0 where
  at_first : Made p [] p
  by_writer : {es : List Entry} {q : Past} {e : Entry} → Made p es q → IsWriters e → Fits (world q) e → Made p es (q ▸ e)
  by_tool : {es : List Entry} {q : Past} {e : Entry} → Made p es q → IsTools e → Fits (world q) e → Made p (e ∷ es) (q ▸ e)

-- Where the journal is told, it is told afterwards, and the entries that the tool left since, in order, have P.
pub data Left (P : List Entry → Type 0) : Option Journal → Option Journal → Type 0 where
  not_told : Left P None None
  is_told : {j k : Journal} {es : List Entry} → Made (past j) es (past k) → P (reverse es) → Left P (Some j) (Some k)

-- each of them is so
abbrev pub Each : (Entry → Type 0) → List Entry → Type 0
Each P [] = Unit {0}
Each P (e ∷ es) = P e × Each P es

-- these entries
abbrev pub Are : List Entry → List Entry → Type 0
Are es ts = ts ≡ es

-- this entry, or none
abbrev pub Maybe : Entry → List Entry → Type 0
Maybe e ts = (ts ≡ []) ⊎ (ts ≡ e ∷ [])

-- of a call that changes nothing: its entry, none where it failed
abbrev pub Gave : {T E : Type 0} → Result T E → (T → Entry) → List Entry → Type 0
Gave (Ok x) e ts = ts ≡ e x ∷ []
Gave (Err f) e ts = ts ≡ []

-- of a call that changes something: its entry, that or none where it failed
abbrev pub Did : {T E : Type 0} → Result T E → Entry → List Entry → Type 0
Did (Ok x) e ts = ts ≡ e ∷ []
Did (Err f) e ts = (ts ≡ []) ⊎ (ts ≡ e ∷ [])

-- of a call that makes something new: its entry where it did, none where the path was named
abbrev pub DidWhere : {E : Type 0} → Result Bool E → Entry → List Entry → Type 0
DidWhere (Ok true) e ts = ts ≡ e ∷ []
DidWhere (Ok false) e ts = ts ≡ []
DidWhere (Err f) e ts = (ts ≡ []) ⊎ (ts ≡ e ∷ [])

-- of an append: a prefix of the piece
abbrev pub DidPart : {E : Type 0} → Result ℕ E → Path → List ℕ → List Entry → Type 0
DidPart (Ok count) x piece ts = ts ≡ entry.Appends x (take count piece) ∷ []
DidPart (Err f) x piece ts = (ts ≡ []) ⊎ ((count : ℕ) × (count ≤ length piece) × (ts ≡ entry.Appends x (take count piece) ∷ []))

-- of a program: its entry with its end, that with some end or none where starting it failed
abbrev pub DidRun : {E : Type 0} → Result Ended E → (Ended → Entry) → List Entry → Type 0
DidRun (Ok ended) e ts = ts ≡ e ended ∷ []
DidRun (Err f) e ts = (ts ≡ []) ⊎ ((ended : Ended) × (ts ≡ e ended ∷ []))

-- where the journal is told
abbrev pub WhereTold : Option Journal → (Past → Type 0) → Type 0
WhereTold None P = Unit {0}
WhereTold (Some j) P = P (past j)

-- The condition of the call that leaves this entry, on the names; what the call will see or give makes no difference. Of `end` it
-- is not one on names.
abbrev pub CanCall : Names → Entry → Type 0
CanCall n (entry.Starts state now rules) = IsDirectoryAt n (parent_of state)
CanCall n (entry.List dir listed) = IsDirectoryAt n dir
CanCall n (entry.Reads x from piece) = IsFileAt n x
CanCall n (entry.Renames from to) = IsFileAt n from × (n to ≢ thing.Directory) × (n to ≢ thing.Other)
    × IsDirectoryAt n (parent_of to) × (from ≢ to)
CanCall n (entry.Makes x mode) = IsDirectoryAt n (parent_of x)
CanCall n (entry.Appends x piece) = IsFileAt n x
CanCall n (entry.Truncates x) = IsFileAt n x
CanCall n (entry.Unlinks x) = IsFileAt n x
CanCall n (entry.SyncsFile x) = IsFileAt n x
CanCall n (entry.SyncsDir x) = IsDirectoryAt n x
CanCall n (entry.MakesDir x mode) = IsDirectoryAt n (parent_of x)
CanCall n (entry.Runs program args input ended) = MaybeFileAt n input
CanCall n _ = Unit {0}

-- Where the journal is told, the call that leaves this entry fits its world.
pub record Can (told : Option Journal) (e : Entry) : Type 0 where
  pub can : WhereTold told (λ p. CanCall (names (world p)) e)

-- entries of the one kind, and then of the other
pub record Then (P Q : List Entry → Type 0) (ts : List Entry) : Type 0 where
  pub front : List Entry
  pub back : List Entry
  pub joined : ts ≡ front ++ back
  pub first : P front
  pub second : Q back

-- what a put took of its piece
abbrev pub taken_of : {E : Type 0} → Result ℕ E → List ℕ → List ℕ
taken_of (Ok count) piece = take count piece
taken_of (Err f) piece = []
