-- The part file just before it gets the state's path, and what the directories' syncs made durable by then.
use Rattle.std.proofs.Common.{◌+◌, ◌<◌, ◌≡◌, ◌≢◌, ◌⊎◌, inl, inr, ⊎_elim, ℕ, Bool, cond, refl, sym, ◌∙◌, ap, subst, arith, List, [], ◌∷◌, ◌++◌, map, reverse, append_assoc, Option}
use Rattle.std.specs.List.{flat_map}
use Rattle.lr_rules.specs.declared.path.Path.{Path}
use Rattle.lr_rules.specs.Path.{parent_of}
use Rattle.lr_rules.specs.StatePath.{state_part}
use Rattle.lr_host.specs.declared.thing.Thing.{Thing}
use Rattle.lr_host.specs.declared.thing.Thing.TheVariants as thing
use Rattle.lr_host.specs.declared.entry.Entry.{Entry}
use Rattle.lr_host.specs.declared.entry.Entry.TheVariants as entry
use Rattle.lr_host.specs.Lists.{IsIn}
use Rattle.lr_host.specs.Opening.{IsJournal}
use Rattle.lr_host.specs.Quiet.{AttachedOnlySince}
use Rattle.lr_host.specs.Told.{Each, Made, at_first, by_tool}
use Rattle.lr_host.specs.World.{put, Past, ◌▸◌, world, names}
use Rattle.lr_host.proofs.Each.{each_append, each_as, each_map, each_reverse}
use Rattle.lr_host.proofs.Looked.{nothing_no_file}
use Rattle.lr_host.proofs.Made.{made_on, made_journal}
use Rattle.lr_host.proofs.Names.{put_cases, put_here}
use Rattle.lr_host.proofs.Places.{eq_same}
use Rattle.lr_laws.specs.Renewing.{IsWithinDirs, Renews}
use Rattle.lr_laws.specs.StateWhole.{LeftAs, StandsAs}
use Rattle.lr_laws.proofs.Files.{IsGuarded, IsSynced, LeavesFile}
use Rattle.lr_laws.proofs.Leaving.{Lasts, stands_made}
use Rattle.lr_laws.proofs.Lists.{middle, at}
use Rattle.lr_laws.proofs.Parts.{named_drawn, held_drawn, IsOwn, own_filled, own_waits, own_sync, own_walk}
use Rattle.lr_laws.proofs.Syncs.{synced_durable}
use Rattle.lr_laws.proofs.Walks.{IsSafeFile, NamesNone, left_drawn, stands_now, left_since, left_of, calm_walk, safe_walk}

-- ---- the file

-- the part file has its text, synced
pub record IsFilled (state : Path) (text : List ℕ) (p : Past) : Type 0 where
  pub file : ℕ
  pub own : IsOwn (state_part state) file text p
  pub synced : IsSynced file text (world p)

-- a file that was just made
made_own : (p : Past) (x : Path) (mode : Option ℕ) → IsJournal p → IsOwn x (world p).drawn [] (p ▸ entry.Makes x mode)
made_own p x mode j = record {
  named = put_here (names (world p)) x x (thing.File (world p).drawn) refl;
  guarded = record {
    known = omega arith;
    only = λ y e. ⊎_elim (λ here. here.0) (λ old. absurd (let lt = named_drawn p y (world p).drawn j old.1 in omega (arith, lt))) (put_cases (names (world p)) x (thing.File (world p).drawn) y (thing.File (world p).drawn) e);
    unheld = λ v e. absurd (let lt = held_drawn p v (world p).drawn j e in omega (arith, lt));
    has = made_empty;
  };
}
  where
    made_empty : ((world (p ▸ entry.Makes x mode)).files (world p).drawn).bytes ≡ []
    made_empty = ap (λ (b : Bool). cond b [] ((world p).files (world p).drawn).bytes) (eq_same (world p).drawn)

syncs_calm : (x : Path) (dirs : List Path) → Each (λ e. LeavesFile x e × NamesNone e) (map entry.SyncsDir dirs)
syncs_calm x [] = tt
syncs_calm x (d ∷ dirs) = ((tt, refl), syncs_calm x dirs)

-- the entries that write the part file, and sync it and the directories
abbrev pub filling : Path → Option ℕ → List (List ℕ) → List Path → List Entry
filling part mode pieces dirs = entry.Makes part mode ∷ (map (entry.Appends part) pieces ++ (entry.SyncsFile part ∷ map entry.SyncsDir dirs))

module _ (state : Path) (P : Path → Type 0) (far : (y : Path) → P y → y ≢ state_part state) where
  abbrev part : Path
  part = state_part state

  behind_sync : (text : List ℕ) (dirs : List Path) (f : ℕ) (b q : Past) → Made b (reverse (map entry.SyncsDir dirs)) q → AttachedOnlySince P b q → IsOwn part f text b × IsSynced f text (world b) → IsFilled state text q
  behind_sync text dirs f b q m only h = record {
    file = f;
    own = own_walk P part f far text b q (reverse (map entry.SyncsDir dirs)) m only (each_reverse (λ e. LeavesFile part e × NamesNone e) (map entry.SyncsDir dirs) (syncs_calm part dirs)) h.0;
    synced = (safe_walk P part f text b q (reverse (map entry.SyncsDir dirs)) far m only (each_reverse (LeavesFile part) (map entry.SyncsDir dirs) (each_as (λ e. LeavesFile part e × NamesNone e) (LeavesFile part) (map entry.SyncsDir dirs) (λ e i. i.0) (syncs_calm part dirs))) (h.0.guarded, h.1)).1;
  }

  behind_make : (pieces : List (List ℕ)) (dirs : List Path) (f : ℕ) (b q : Past) → Made b (reverse (map (entry.Appends part) pieces ++ (entry.SyncsFile part ∷ map entry.SyncsDir dirs))) q → AttachedOnlySince P b q → IsOwn part f [] b → IsFilled state (flat_map (λ piece. piece) pieces) q
  behind_make pieces dirs f b q m only h =
      let k = middle P b q (map (entry.Appends part) pieces) (entry.SyncsFile part ∷ map entry.SyncsDir dirs) m only in
      let s = at P k.mid q [] (entry.SyncsFile part) (map entry.SyncsDir dirs) tt k.second k.only_second in
      behind_sync (flat_map (λ piece. piece) pieces) dirs f (s.mid ▸ entry.SyncsFile part) q s.second s.only_second
      (own_sync P part f far (flat_map (λ piece. piece) pieces) s.mid
      (own_waits P part f far (flat_map (λ piece. piece) pieces) k.mid s.mid s.first s.only_first
      (own_filled P part f far pieces [] b k.mid k.first k.only_first h)))

  pub filled : (front : List Entry) (mode : Option ℕ) (pieces : List (List ℕ)) (dirs : List Path) (p q : Past) → IsJournal p → Made p (reverse (front ++ filling part mode pieces dirs)) q → AttachedOnlySince P p q → IsFilled state (flat_map (λ piece. piece) pieces) q
  filled front mode pieces dirs p q j m only =
      let a = at P p q front (entry.Makes part mode) (map (entry.Appends part) pieces ++ (entry.SyncsFile part ∷ map entry.SyncsDir dirs)) tt m only in
      behind_make pieces dirs (world a.mid).drawn (a.mid ▸ entry.Makes part mode) q a.second a.only_second (made_own a.mid part mode (made_journal p a.mid (reverse front) a.first j))

-- what writers are not attached to
abbrev pub Spared : Path → Path → Type 0
Spared state x = (x ≢ state) × (x ≢ state_part state)

-- the part file has the state's path
pub renamed_own : (state : Path) (text : List ℕ) (r : Past) → (f : IsFilled state text r) → IsOwn state f.file text (r ▸ entry.Renames (state_part state) state) × IsSafeFile state f.file text (r ▸ entry.Renames (state_part state) state)
renamed_own state text r f = (record { named = put_here (put (names (world r)) part thing.Nothing) state state (names (world r) part) refl ∙ f.own.named; guarded = guarded }, (guarded, f.synced))
  where
    part : Path
    part = state_part state

    known : f.file < (world r).drawn → f.file < (world r).drawn + 0
    known lt = omega arith

    only : (y : Path) → put (put (names (world r)) part thing.Nothing) state (names (world r) part) y ≡ thing.File f.file → y ≡ state
    only y e = ⊎_elim (λ here. here.0) (λ old. ⊎_elim (λ gone. absurd (nothing_no_file thing.Nothing f.file refl gone.1)) (λ other. absurd (other.0 (f.own.guarded.only y other.1))) (put_cases (names (world r)) part thing.Nothing y (thing.File f.file) old.1)) (put_cases (put (names (world r)) part thing.Nothing) state (names (world r) part) y (thing.File f.file) e)

    guarded : IsGuarded state f.file text (world (r ▸ entry.Renames part state))
    guarded = record { known = known f.own.guarded.known; only = only; unheld = f.own.guarded.unheld; has = f.own.guarded.has }

-- the entries of a renewing, up to the rename and from it on
pub in_two : (state : Path) (dirs : List Path) (text : List ℕ) (ts : List Entry) → (r : Renews state dirs text ts) → ts ≡ (r.front ++ filling (state_part state) r.mode r.pieces dirs) ++ (entry.Renames (state_part state) state ∷ r.after)
in_two state dirs text ts r = r.ts_are
    ∙ (ap (λ es. r.front ++ (entry.Makes (state_part state) r.mode ∷ es)) (sym (append_assoc (map (entry.Appends (state_part state)) r.pieces) (entry.SyncsFile (state_part state) ∷ map entry.SyncsDir dirs) (entry.Renames (state_part state) state ∷ r.after)))
    ∙ sym (append_assoc r.front (filling (state_part state) r.mode r.pieces dirs) (entry.Renames (state_part state) state ∷ r.after)))

-- ---- the names

-- the sync of this directory among the others
record IsSync (dir : Path) (ss : List Entry) : Type 0 where
  before : List Entry
  after : List Entry
  ss_are : ss ≡ before ++ (entry.SyncsDir dir ∷ after)
  calm : Each NamesNone after

names_none : (dirs : List Path) → Each NamesNone (map entry.SyncsDir dirs)
names_none [] = tt
names_none (d ∷ dirs) = (refl, names_none dirs)

sync_of : (dir : Path) (dirs : List Path) → IsIn dir dirs → IsSync dir (map entry.SyncsDir dirs)
sync_of dir [] i = absurd i
sync_of dir (d ∷ dirs) (inl e) = record { before = []; after = map entry.SyncsDir dirs; ss_are = ap (λ x. entry.SyncsDir x ∷ map entry.SyncsDir dirs) e; calm = names_none dirs }
sync_of dir (d ∷ dirs) (inr i) = let r = sync_of dir dirs i in record { before = entry.SyncsDir d ∷ r.before; after = r.after; ss_are = ap (λ es. entry.SyncsDir d ∷ es) r.ss_are; calm = r.calm }

-- what was left in a directory that was synced since stands there, whatever a cut leaves
stands_behind : (P : Path → Type 0) (p z q : Past) (xs ys : List Entry) (x : Path) (t : Thing) (d : ℕ) (dir : Path) → Made p (reverse xs) z → Made (z ▸ entry.SyncsDir dir) (reverse ys) q → AttachedOnlySince P (z ▸ entry.SyncsDir dir) q → Each NamesNone ys → parent_of x ≡ dir → LeftAs p x t d q → Made z (entry.SyncsDir dir ∷ []) (z ▸ entry.SyncsDir dir) → Lasts (λ n. StandsAs d t (n x)) q
stands_behind P p z q xs ys x t d dir first second only calm e l one =
    let earlier : LeftAs p x t d z = left_since p z q (reverse ys ++ entry.SyncsDir dir ∷ []) x t d (made_on z (z ▸ entry.SyncsDir dir) q (entry.SyncsDir dir ∷ []) (reverse ys) one second) (each_append NamesNone (reverse ys) (entry.SyncsDir dir ∷ []) (each_reverse NamesNone ys calm) (refl, tt)) l in
    calm_walk P d (λ n. StandsAs d t (n x)) (z ▸ entry.SyncsDir dir) q (reverse ys) (λ m y f at none le h. stands_made d f t m y x none le h) second only (each_reverse NamesNone ys calm)
    (left_drawn p z (reverse xs) x t d first earlier)
    (λ n undone leaves. subst (λ (u : Thing). StandsAs d t u) (sym (synced_durable z dir x e n undone leaves)) (stands_now p z (reverse xs) x t d first earlier))

within_filling : (part : Path) (mode : Option ℕ) (pieces : List (List ℕ)) (dirs : List Path) → Each (IsWithinDirs part dirs) (filling part mode pieces dirs)
within_filling part mode pieces dirs = ((λ x i. ⊎_elim (λ e. inl (sym e)) (λ n. absurd n) i), each_append (IsWithinDirs part dirs) (map (entry.Appends part) pieces) (entry.SyncsFile part ∷ map entry.SyncsDir dirs) (appends pieces) ((λ x i. absurd i), each_map (IsWithinDirs part dirs) entry.SyncsDir dirs (λ d x i. absurd i)))
  where
    appends : (pieces : List (List ℕ)) → Each (IsWithinDirs part dirs) (map (entry.Appends part) pieces)
    appends pieces = each_map (IsWithinDirs part dirs) (entry.Appends part) pieces (λ piece x i. absurd i)

-- Just before the part file gets the state's path, each path but its own stands as it was left, whatever a cut leaves.
pub all_stand : (P : Path → Type 0) (part : Path) (dirs : List Path) (front : List Entry) (mode : Option ℕ) (pieces : List (List ℕ)) (p q : Past) → Made p (reverse (front ++ filling part mode pieces dirs)) q → AttachedOnlySince P p q → Each (IsWithinDirs part dirs) front
    → (x : Path) (t : Thing) (d : ℕ) → LeftAs p x t d q → x ≢ part → Lasts (λ n. StandsAs d t (n x)) q
all_stand P part dirs front mode pieces p q m only within x t d l other = ⊎_elim (λ e. absurd (other e)) (λ i. go (sync_of (parent_of x) dirs i))
    (left_of (λ y. (y ≡ part) ⊎ IsIn (parent_of y) dirs) p q (reverse ts) x t d m (each_reverse (IsWithinDirs part dirs) ts (each_append (IsWithinDirs part dirs) front (filling part mode pieces dirs) within (within_filling part mode pieces dirs))) l)
  where
    ts : List Entry
    ts = front ++ filling part mode pieces dirs

    -- all before the directories' syncs
    firsts : List Entry
    firsts = front ++ (entry.Makes part mode ∷ (map (entry.Appends part) pieces ++ entry.SyncsFile part ∷ []))

    in_order : (ss : List Entry) → front ++ (entry.Makes part mode ∷ (map (entry.Appends part) pieces ++ (entry.SyncsFile part ∷ ss))) ≡ firsts ++ ss
    in_order ss = ap (λ es. front ++ (entry.Makes part mode ∷ es)) (sym (append_assoc (map (entry.Appends part) pieces) (entry.SyncsFile part ∷ []) ss)) ∙ sym (append_assoc front (entry.Makes part mode ∷ (map (entry.Appends part) pieces ++ entry.SyncsFile part ∷ [])) ss)

    go : IsSync (parent_of x) (map entry.SyncsDir dirs) → Lasts (λ n. StandsAs d t (n x)) q
    go s =
        let same = in_order (map entry.SyncsDir dirs) ∙ (ap (λ ss. firsts ++ ss) s.ss_are ∙ sym (append_assoc firsts s.before (entry.SyncsDir (parent_of x) ∷ s.after))) in
        let a = at P p q (firsts ++ s.before) (entry.SyncsDir (parent_of x)) s.after tt (subst (λ (es : List Entry). Made p (reverse es) q) same m) only in
        stands_behind P p a.mid q (firsts ++ s.before) s.after x t d (parent_of x) a.first a.second a.only_second s.calm refl l (by_tool at_first tt a.fits)
