-- What the calls ask for that set a log aside, and where they break off.
use Rattle.std.proofs.Common.{◌≡◌, ◌⊎◌, inl, inr, ⊎_elim, ℕ, refl, sym, ap, subst, ◌∙◌, arith, List, [], ◌∷◌, ◌++◌, append_assoc, Option, Some, None, Result, Ok, Err, OnOk, OnErr, IfErr}
use Rattle.lr_rules.specs.declared.path.Path.{Path}
use Rattle.lr_rules.specs.declared.fault.CallKind.{CallKind}
use Rattle.lr_rules.specs.declared.fault.CallKind.TheVariants as call
use Rattle.lr_rules.proofs.Heads.{heads}
use Rattle.lr_host.specs.declared.entry.Entry.{Entry}
use Rattle.lr_host.specs.declared.entry.Entry.TheVariants.{Look, Renames, MakesDir, SyncsDir}
use Rattle.lr_host.specs.declared.journal.Journal.{Journal}
use Rattle.lr_host.specs.declared.thing.Seen.{Seen}
use Rattle.lr_host.specs.Looks.{Sees, IsDir, IsNoDir}
use Rattle.lr_host.specs.Steps.{CanAll}
use Rattle.lr_host.specs.Told.{Left, Are, Maybe, Then, Did, Can, Counts, Onward, Rose}
use Rattle.lr_host.proofs.Left.{left_as, can_part}
use Rattle.lr_host.proofs.Lists.{in_front, in_back}
use Rattle.lr_chain.specs.declared.chain.ChainStop.{ChainStop}
use Rattle.lr_chain.specs.declared.chain.ChainStop.TheVariants as stop
use Rattle.lr_chain.specs.declared.ready.Ready.{Ready}
use Rattle.lr_chain.specs.Directory.{DirMade}
use Rattle.lr_chain.specs.Ready.{shift_of, dir_calls, BehindDir}
use Rattle.lr_chain.specs.Stops.{StopsFrom, ChainStopped, ChainCause, IsFrom}
use Rattle.lr_chain.proofs.Chaining.{last_can, last_left}
use Rattle.lr_chain.proofs.Dirs.{behind_then}
use Rattle.lr_move.specs.Aside.{synced_shift, aside_of, FailedCallAt, AsideStopped, at_members, at_sync, at_log, IsCallOf, AsideCause, SawNoDir, TellsNotFile, IsNotFileExactly}

-- ---- what fits

-- the calls of a first part
front_can : (ds xs ys : List Entry) {o : Option Journal} → CanAll o (ds ++ (xs ++ ys)) → CanAll o (ds ++ xs)
front_can ds xs ys {o} can = can_part (ds ++ xs) ys (subst (λ (es : List Entry). CanAll o es) (sym (append_assoc ds xs ys)) can)

module _ (ready : Ready) (dir tmp : Path) where
  abbrev sync : Entry
  sync = SyncsDir dir

  abbrev move : Entry
  move = Renames ready.log tmp

  synced_can : {o : Option Journal} → CanAll o (dir_calls ready.dir ++ aside_of ready dir tmp) → CanAll o (dir_calls ready.dir ++ synced_shift ready dir)
  synced_can can = front_can (dir_calls ready.dir) (synced_shift ready dir) (move ∷ []) can

  pub sync_can : {o m : Option Journal} → CanAll o (dir_calls ready.dir ++ aside_of ready dir tmp) → Left (BehindDir ready.dir (Are (shift_of ready))) o m → Can m sync
  sync_can can shifted = last_can ready.dir (shift_of ready) sync (synced_can can) shifted

  pub move_can : {o m : Option Journal} → CanAll o (dir_calls ready.dir ++ aside_of ready dir tmp) → Left (BehindDir ready.dir (Are (synced_shift ready dir))) o m → Can m move
  move_can can synced = last_can ready.dir (synced_shift ready dir) move can synced

  -- ---- what is left

  pub synced_left : {o m n : Option Journal} → Left (BehindDir ready.dir (Are (shift_of ready))) o m → Left (Are (sync ∷ [])) m n → Left (BehindDir ready.dir (Are (synced_shift ready dir))) o n
  synced_left shifted now = last_left ready.dir (shift_of ready) sync shifted now

  pub moved_left : (r : Result (Unit {0}) ChainStop) {o m n : Option Journal} → Left (BehindDir ready.dir (Are (synced_shift ready dir))) o m → Left (Did r move) m n → OnOk r (Left (BehindDir ready.dir (Are (aside_of ready dir tmp))) o n)
  moved_left (Ok done) synced now = last_left ready.dir (synced_shift ready dir) move synced now
  moved_left (Err why) synced now = tt

  -- a step behind these was refused
  behind_these : (xs : List Entry) (e : Entry) {o m n : Option Journal} → Left (BehindDir ready.dir (Are xs)) o m → Left (Maybe e) m n → Left (BehindDir ready.dir (Then (Are xs) (Maybe e))) o n
  behind_these xs e before now = behind_then ready.dir (Are xs) (Maybe e) (Then (Are xs) (Maybe e)) before now (λ ys zs p q. record { front = ys; back = zs; joined = refl; first = p; second = q })

  pub stops_members : (why : ChainStop) {o n : Option Journal} → Left (ChainStopped ready.dir (shift_of ready) why) o n → Left (AsideStopped ready dir tmp why) o n
  stops_members why l = left_as l (λ ts h. at_members h)

  pub stops_sync : (why : ChainStop) {o m n : Option Journal} → FailedCallAt call.Sync dir why → Left (BehindDir ready.dir (Are (shift_of ready))) o m → Left (Maybe sync) m n → Left (AsideStopped ready dir tmp why) o n
  stops_sync why failed shifted now = left_as (behind_these (shift_of ready) sync shifted now) (λ ts h. at_sync failed h)

  pub stops_log : (r : Result (Unit {0}) ChainStop) {o m n : Option Journal} → IfErr r (λ why. FailedCallAt call.Rename ready.log why) → Left (BehindDir ready.dir (Are (synced_shift ready dir))) o m → Left (Did r move) m n → IfErr r (λ why. Left (AsideStopped ready dir tmp why) o n)
  stops_log (Ok done) failed synced now = tt
  stops_log (Err why) failed synced now = left_as (behind_these (synced_shift ready dir) move synced now) (λ ts h. at_log failed h)

  -- ---- why

  pub cause_members : (why : ChainStop) (before now : Counts) → ChainCause ready.dir (shift_of ready) why before now → AsideCause ready dir tmp why before now
  cause_members (stop.Call call.Rename path) before now c = ((c.0.0, in_front (Renames path.now c.0.0) (synced_shift ready dir) (move ∷ []) (in_front (Renames path.now c.0.0) (shift_of ready) (sync ∷ []) c.0.1)), c.1)
  cause_members (stop.Call call.MakeDir path) before now c = (c.1, c.2)
  cause_members (stop.Call call.Look path) before now c = (c.1, c.2)
  cause_members (stop.Call _ path) before now c = absurd (⊎_elim (λ e. cc) (λ e. cc) c.0)
  cause_members (stop.NotFile path) before now c = c

  pub cause_sync : (why : ChainStop) (before now : Counts) → FailedCallAt call.Sync dir why → Rose before.faults now.faults → AsideCause ready dir tmp why before now
  cause_sync (stop.Call kind path) before now failed rose = (subst (λ (k : CallKind). IsCallOf ready dir tmp k path.now) (sym failed.0) failed.1, rose)
  cause_sync (stop.NotFile path) before now failed rose = absurd failed

  from_log : IsFrom (aside_of ready dir tmp) ready.log
  from_log = (tmp, in_back move (synced_shift ready dir) (move ∷ []) (inl refl))

  cause_log : (why : ChainStop) (before now : Counts) → FailedCallAt call.Rename ready.log why → Rose before.faults now.faults → AsideCause ready dir tmp why before now
  cause_log (stop.Call kind path) before now failed rose =
      (subst (λ (k : CallKind). IsCallOf ready dir tmp k path.now) (sym failed.0) (subst (λ (x : Path). IsFrom (aside_of ready dir tmp) x) (sym failed.1) from_log), rose)
  cause_log (stop.NotFile path) before now failed rose = absurd failed

  pub cause_moved : (r : Result (Unit {0}) ChainStop) (before mid now : Counts) → Onward before mid → IfErr r (λ why. FailedCallAt call.Rename ready.log why) → OnErr r (Rose mid.faults now.faults) → IfErr r (λ why. AsideCause ready dir tmp why before now)
  cause_moved (Ok done) before mid now on failed rose = tt
  cause_moved (Err why) before mid now on failed rose = cause_log why before now failed (omega (arith, on, rose))

-- ---- something else at the path of the directory

no_dir_seen : (seen : Option Seen) → IsDir seen → IsNoDir seen → ⊥
no_dir_seen None is not = is
no_dir_seen (Some seen) is not = not is

-- the directory was made, or it was there
done_with : (dir : Path) (mode : Option ℕ) (front back ts : List Entry) → ts ≡ front ++ back → DirMade dir mode front → Sees dir IsNoDir ts → ⊥
done_with dir mode front back ts joined (inl made) s =
    let other : MakesDir dir mode ≡ Look dir s.seen = heads (MakesDir dir mode) (Look dir s.seen) back [] (ap (λ xs. xs ++ back) (sym made) ∙ (sym joined ∙ s.look)) in cc
done_with dir mode front back ts joined (inr saw) s =
    let same : Look dir saw.seen ≡ Look dir s.seen = heads (Look dir saw.seen) (Look dir s.seen) back [] (ap (λ xs. xs ++ back) (sym saw.look) ∙ (sym joined ∙ s.look)) in
    let seen : saw.seen ≡ s.seen = cc in
    no_dir_seen s.seen (subst IsDir seen saw.is) s.is

never_seen : (d : Option (Path × Option ℕ)) (P : List Entry → Type 0) (ts : List Entry) → BehindDir d P ts → SawNoDir d ts → ⊥
never_seen None P ts h s = s
never_seen (Some (dir, mode)) P ts h s = done_with dir mode h.front h.back ts h.joined h.first s

no_look : (dir : Path) (ts : List Entry) → ts ≡ [] → Sees dir IsNoDir ts → ⊥
no_look dir ts none s = let empty : [] ≡ Look dir s.seen ∷ [] = sym none ∙ s.look in cc

no_making : (dir : Path) (mode : Option ℕ) (ts : List Entry) → (ts ≡ []) ⊎ (ts ≡ MakesDir dir mode ∷ []) → Sees dir IsNoDir ts → ⊥
no_making dir mode ts (inl none) s = no_look dir ts none s
no_making dir mode ts (inr made) s = let other : MakesDir dir mode ≡ Look dir s.seen = heads (MakesDir dir mode) (Look dir s.seen) [] [] (sym made ∙ s.look) in cc

-- of the directory and the moves
exactly_members : (d : Option (Path × Option ℕ)) (steps : List Entry) (why : ChainStop) (ts : List Entry) → ChainStopped d steps why ts → IsNotFileExactly d (Err why) ts
exactly_members d steps (stop.Call call.Rename path) ts h = (λ n. absurd n, λ s. absurd (never_seen d (StopsFrom steps path.now) ts h s))
exactly_members (Some (dir, mode)) steps (stop.Call call.MakeDir path) ts h = (λ n. absurd n, λ s. absurd (no_making dir mode ts h.1 s))
exactly_members (Some (dir, mode)) steps (stop.Call call.Look path) ts h = (λ n. absurd n, λ s. absurd (no_look dir ts h.1 s))
exactly_members (Some (dir, mode)) steps (stop.NotFile path) ts h = (λ is. h.1, λ s. tt)
exactly_members (Some (dir, mode)) steps (stop.Call _ path) ts h = absurd h
exactly_members None steps (stop.Call _ path) ts h = absurd h
exactly_members None steps (stop.NotFile path) ts h = absurd h

-- a failed call
called : (kind : CallKind) (path : Path) (why : ChainStop) → FailedCallAt kind path why → TellsNotFile (Err why) → ⊥
called kind path (stop.Call k p) failed n = n
called kind path (stop.NotFile p) failed n = failed

exactly_called : (kind : CallKind) (path : Path) (d : Option (Path × Option ℕ)) (P : List Entry → Type 0) (why : ChainStop) (ts : List Entry) → FailedCallAt kind path why → BehindDir d P ts → IsNotFileExactly d (Err why) ts
exactly_called kind path d P why ts failed h = (λ n. absurd (called kind path why failed n), λ s. absurd (never_seen d P ts h s))

exactly_stopped : (ready : Ready) (dir tmp : Path) (why : ChainStop) (ts : List Entry) → AsideStopped ready dir tmp why ts → IsNotFileExactly ready.dir (Err why) ts
exactly_stopped ready dir tmp why ts (at_members h) = exactly_members ready.dir (shift_of ready) why ts h
exactly_stopped ready dir tmp why ts (at_sync failed h) = exactly_called call.Sync dir ready.dir (Then (Are (shift_of ready)) (Maybe (SyncsDir dir))) why ts failed h
exactly_stopped ready dir tmp why ts (at_log failed h) = exactly_called call.Rename ready.log ready.dir (Then (Are (synced_shift ready dir)) (Maybe (Renames ready.log tmp))) why ts failed h

pub exactly_refused : (ready : Ready) (dir tmp : Path) (why : ChainStop) {o n : Option Journal} → Left (AsideStopped ready dir tmp why) o n → Left (IsNotFileExactly ready.dir (Err why)) o n
exactly_refused ready dir tmp why l = left_as l (λ ts h. exactly_stopped ready dir tmp why ts h)

pub exactly_by : (ready : Ready) (dir tmp : Path) (r : Result (Unit {0}) ChainStop) {o n : Option Journal} → OnOk r (Left (BehindDir ready.dir (Are (aside_of ready dir tmp))) o n) → IfErr r (λ why. Left (AsideStopped ready dir tmp why) o n) → Left (IsNotFileExactly ready.dir r) o n
exactly_by ready dir tmp (Ok done) a b = left_as a (λ ts h. (λ n. absurd n, λ s. absurd (never_seen ready.dir (Are (aside_of ready dir tmp)) ts h s)))
exactly_by ready dir tmp (Err why) a b = exactly_refused ready dir tmp why b
