-- The part file: made, filled in pieces, and synced.
use Rattle.std.proofs.Common.{◌≡◌, ◌≢◌, ⊎_elim, ◌≤◌, ◌<◌, ℕ, Bool, true, false, cond, nat_eq, refl, sym, ◌∙◌, ap, subst, arith, List, [], ◌∷◌, ◌++◌, length, map, reverse, append_assoc, Option, Some, None, All}
use Rattle.std.proofs.lemmas.List.{append-nil}
use Rattle.std.specs.Prelude.{suc}
use Rattle.std.specs.List.{flat_map}
use Rattle.lr_rules.specs.declared.path.Path.{Path}
use Rattle.lr_host.specs.declared.thing.Thing.{Thing}
use Rattle.lr_host.specs.declared.thing.Thing.TheVariants as thing
use Rattle.lr_host.specs.declared.entry.Entry.{Entry}
use Rattle.lr_host.specs.declared.entry.Entry.TheVariants as entry
use Rattle.lr_host.specs.Opening.{IsJournal}
use Rattle.lr_host.specs.Quiet.{AttachedOnlySince}
use Rattle.lr_host.specs.Steady.{AttachesOnly}
use Rattle.lr_host.specs.Told.{Each, IsWriters, Made, at_first, by_writer, by_tool}
use Rattle.lr_host.specs.World.{Past, Opens, ◌▸◌, World, world, names, making, attached, drawn_after, step, opening_hold, holds_after, is_file}
use Rattle.lr_host.proofs.Looked.{nothing_no_file, true_is_file}
use Rattle.lr_host.proofs.More.{attach_names}
use Rattle.lr_host.proofs.Quiet.{before_last}
use Rattle.lr_laws.proofs.Disk.{leaves_now, drawn_grows}
use Rattle.lr_laws.proofs.Single.{single}
use Rattle.lr_laws.proofs.Files.{IsGuarded, IsSynced, LeavesFile, writer_guards, tool_guards}
use Rattle.lr_laws.proofs.Lists.{at}
use Rattle.lr_host.specs.Lists.{IsIn}
use Rattle.lr_laws.proofs.Walks.{NamesNone, tool_same, far_attached}

-- ---- identities that were drawn

pub named_drawn : (p : Past) (x : Path) (g : ℕ) → IsJournal p → names (world p) x ≡ thing.File g → g < (world p).drawn
named_drawn p x g j e = (single p j).fresh (names (world p)) [] (leaves_now (world p)) x g e

pub named_once : (p : Past) (x y : Path) (g : ℕ) → IsJournal p → names (world p) x ≡ thing.File g → names (world p) y ≡ thing.File g → x ≡ y
named_once p x y g j e f = (single p j).unique (names (world p)) [] (leaves_now (world p)) x y g e f

pub hold_below : (d : ℕ) (hs : List (ℕ × ℕ)) (v g : ℕ) → All (λ h. h.1 < d) hs → opening_hold hs v ≡ Some g → g < d
hold_below d [] v g a e = absurd (cc)
hold_below d (h ∷ hs) v g a e = by (λ i. hold_below d hs v g (λ k z lt. a (suc k) z (omega arith)) i) (nat_eq h.0 v) e
  where
    by : (opening_hold hs v ≡ Some g → g < d) → (b : Bool) → cond b (Some h.1) (opening_hold hs v) ≡ Some g → g < d
    by rest true e = let same : h.1 ≡ g = cc in let lt : h.1 < d = a 0 h (omega arith) in omega arith
    by rest false e = rest e

attach_held : (w : World) (x : Path) (t : Thing) (b : Bool) (o : Option ℕ) (g : ℕ) → ((f : ℕ) → t ≡ thing.File f → f < w.drawn) → (o ≡ Some g → g < w.drawn) → cond b (attached t w.drawn) o ≡ Some g → g < drawn_after w (making t x w.drawn)
attach_held w x thing.Nothing true o g named held e = let same : w.drawn ≡ g = cc in omega arith
attach_held w x (thing.File f) true o g named held e = let same : f ≡ g = cc in let lt : f < w.drawn = named f refl in omega arith
attach_held w x thing.Directory true o g named held e = absurd (cc)
attach_held w x thing.Other true o g named held e = absurd (cc)
attach_held w x t false o g named held e = let lt : g < w.drawn = held e in let le = drawn_grows w (making t x w.drawn) in omega (arith, lt, le)

let_go_held : (b : Bool) (o : Option ℕ) (g d : ℕ) → (o ≡ Some g → g < d) → cond b None o ≡ Some g → g < d
let_go_held true o g d held e = absurd (cc)
let_go_held false o g d held e = held e

pub held_drawn : (p : Past) (v g : ℕ) → IsJournal p → (world p).holds v ≡ Some g → g < (world p).drawn
held_drawn (Opens o) v g j e = hold_below (length o.files) o.holds v g j.held e
held_drawn (p ▸ d) v g j e = go d (λ e. held_drawn p v g j.0 e) e
  where
    go : (d : Entry) → ((world p).holds v ≡ Some g → g < (world p).drawn) → holds_after (world p) d v ≡ Some g → g < drawn_after (world p) (step (world p) d)
    go (entry.Attach u x at) rest e = attach_held (world p) x (names (world p) x) (nat_eq u v) ((world p).holds v) g (λ f n. named_drawn p x f j.0 n) rest e
    go (entry.Detach u) rest e = let_go_held (nat_eq u v) ((world p).holds v) g (world p).drawn rest e
    go (entry.Cut kept lengths) rest e = absurd (cc)
    go d rest e = let lt : g < (world p).drawn = rest e in let le = drawn_grows (world p) (step (world p) d) in omega (arith, lt, le)

-- the file of a path as it is: it has no other path, and its bytes are its bytes
pub guarded_first : (p : Past) (x : Path) (g : ℕ) → IsJournal p → names (world p) x ≡ thing.File g → ((v : ℕ) → (world p).holds v ≡ Some g → ⊥) → IsGuarded x g ((world p).files g).bytes (world p)
guarded_first p x g j e h = record { known = named_drawn p x g j e; only = λ y f. named_once p y x g j f e; unheld = h; has = refl }

-- ---- a path that names its file

-- the path names the file, and this is guarded there
pub record IsOwn (x : Path) (g : ℕ) (bytes : List ℕ) (p : Past) : Type 0 where
  pub named : names (world p) x ≡ thing.File g
  pub guarded : IsGuarded x g bytes (world p)

pub wrote_named : (p : Past) (e : Entry) (x : Path) (g : ℕ) → IsWriters e → names (world p) x ≡ thing.File g → names (world (p ▸ e)) x ≡ thing.File g
wrote_named p (entry.Attach v y at) x g i n = ⊎_elim (λ same. same ∙ n) (λ new. absurd (nothing_no_file (names (world p) x) g new.1 n)) (attach_names (world p) v y x at)
wrote_named p (entry.Feed v bytes at) x g i n = n
wrote_named p (entry.Flush v) x g i n = n
wrote_named p (entry.Detach v) x g i n = n
wrote_named p _ x g i n = absurd i

-- a piece of its text is appended
module _ (P : Path → Type 0) (x : Path) (g : ℕ) (far : (y : Path) → P y → y ≢ x) where
  abbrev own_writer : (bytes : List ℕ) (q : Past) (e : Entry) → IsWriters e → AttachesOnly P e → IsOwn x g bytes q → IsOwn x g bytes (q ▸ e)
  own_writer bytes q e i a h = record { named = wrote_named q e x g i h.named; guarded = writer_guards q x g bytes h.guarded e i (far_attached P x e far a) }

  appended_bytes : (b : Bool) (bytes piece now : List ℕ) → b ≡ true → now ≡ bytes → cond b (now ++ piece) now ≡ bytes ++ piece
  appended_bytes true bytes piece now e n = ap (λ xs. xs ++ piece) n
  appended_bytes false bytes piece now e n = absurd (cc)

  pub own_append : (bytes piece : List ℕ) (q : Past) → IsOwn x g bytes q → IsOwn x g (bytes ++ piece) (q ▸ entry.Appends x piece)
  own_append bytes piece q h = record {
    named = h.named;
    guarded = record {
      known = h.guarded.known;
      only = h.guarded.only;
      unheld = h.guarded.unheld;
      has = appended_bytes (is_file (names (world q) x) g) bytes piece ((world q).files g).bytes (true_is_file (names (world q) x) g h.named) h.guarded.has;
    };
  }

  -- what writers do between
  pub own_waits : (bytes : List ℕ) (p q : Past) → Made p [] q → AttachedOnlySince P p q → IsOwn x g bytes p → IsOwn x g bytes q
  own_waits bytes p _ at_first only h = h
  own_waits bytes p _ (by_writer {q = q} {e = e} m i f) only h = let b = before_last P p q e [] m only in own_writer bytes q e i b.1 (own_waits bytes p q m b.0 h)

  -- all its pieces are, with writers' entries between
  pub own_filled : (pieces : List (List ℕ)) (bytes : List ℕ) (p q : Past) → Made p (reverse (map (entry.Appends x) pieces)) q → AttachedOnlySince P p q → IsOwn x g bytes p → IsOwn x g (bytes ++ flat_map (λ piece. piece) pieces) q
  own_filled [] bytes p q m only h = subst (λ (bs : List ℕ). IsOwn x g bs q) (sym (append-nil bytes)) (own_waits bytes p q m only h)
  own_filled (piece ∷ pieces) bytes p q m only h =
      let a = at P p q [] (entry.Appends x piece) (map (entry.Appends x) pieces) tt m only in
      subst (λ (bs : List ℕ). IsOwn x g bs q) (append_assoc bytes piece (flat_map (λ piece. piece) pieces))
      (own_filled pieces (bytes ++ piece) (a.mid ▸ entry.Appends x piece) q a.second a.only_second
      (own_append bytes piece a.mid (own_waits bytes p a.mid a.first a.only_first h)))

  -- its file is synced
  pub own_sync : (bytes : List ℕ) (q : Past) → IsOwn x g bytes q → IsOwn x g bytes (q ▸ entry.SyncsFile x) × IsSynced g bytes (world (q ▸ entry.SyncsFile x))
  own_sync bytes q h = (record { named = h.named; guarded = tool_guards q x g bytes h.guarded (entry.SyncsFile x) tt tt }, whole (is_file (names (world q) x) g) ((world q).files g).bytes (true_is_file (names (world q) x) g h.named) h.guarded.has)
    where
      whole : (b : Bool) (now : List ℕ) → b ≡ true → now ≡ bytes → length bytes ≤ cond b (length now) ((world q).files g).synced
      whole true now e n = let same : length now ≡ length bytes = ap length n in omega arith
      whole false now e n = absurd (cc)

  -- over entries that leave it, its path too
  pub own_walk : (bytes : List ℕ) (p q : Past) (es : List Entry) → Made p es q → AttachedOnlySince P p q → Each (λ e. LeavesFile x e × NamesNone e) es → IsOwn x g bytes p → IsOwn x g bytes q
  own_walk bytes p _ _ at_first only a h = h
  own_walk bytes p _ es (by_writer {q = q} {e = e} m i f) only a h = let b = before_last P p q e es m only in own_writer bytes q e i b.1 (own_walk bytes p q es m b.0 a h)
  own_walk bytes p _ _ (by_tool {es = es} {q = q} {e = e} m i f) only a h =
      let b = before_last P p q e es m only in let r = own_walk bytes p q es m b.0 a.1 h in
      record { named = tool_same q e x i (λ n. let none : IsIn x [] = subst (λ (xs : List Path). IsIn x xs) a.0.1 n in none) ∙ r.named; guarded = tool_guards q x g bytes r.guarded e i a.0.0 }
