-- A file that has one path, and that nobody writes to.
use Rattle.std.proofs.Common.{◌≡◌, ◌≢◌, ⊎_elim, ◌≤◌, ◌<◌, ◌+◌, ℕ, Bool, true, false, cond, nat_eq, eqb-true, refl, sym, ◌∙◌, ap, subst, arith, List, [], ◌∷◌, ◌++◌, length, Option, Some, None}
use Rattle.std.proofs.lemmas.List.{take_all}
use Rattle.lr_rules.specs.declared.path.Path.{Path}
use Rattle.lr_host.specs.declared.thing.Thing.{Thing}
use Rattle.lr_host.specs.declared.thing.Thing.TheVariants as thing
use Rattle.lr_host.specs.declared.entry.Entry.{Entry}
use Rattle.lr_host.specs.declared.entry.Entry.TheVariants as entry
use Rattle.lr_host.specs.World.{Past, ◌▸◌, World, world, Names, names, put, making, makes, drawn_after, is_file, holds_file, attached, length_of, cut_to}
use Rattle.lr_host.specs.Fits.{AreLengths}
use Rattle.lr_host.specs.Steady.{AttachesOnly}
use Rattle.lr_host.specs.Told.{IsTools, IsWriters}
use Rattle.lr_host.proofs.Looked.{same_file, nothing_no_file}
use Rattle.lr_host.proofs.More.{attach_names}
use Rattle.lr_host.proofs.Names.{put_cases}
use Rattle.lr_host.proofs.Places.{synced_names}

-- The file has these bytes, at most this path, and no writer holds it.
pub record IsGuarded (x : Path) (g : ℕ) (bytes : List ℕ) (w : World) : Type 0 where
  pub known : g < w.drawn
  pub only : (y : Path) → names w y ≡ thing.File g → y ≡ x
  pub unheld : (v : ℕ) → w.holds v ≡ Some g → ⊥
  pub has : (w.files g).bytes ≡ bytes

-- its bytes are synced
abbrev pub IsSynced : ℕ → List ℕ → World → Type 0
IsSynced g bytes w = length bytes ≤ (w.files g).synced

-- the entry takes no file from the path, and writes to none there
abbrev pub LeavesFile : Path → Entry → Type 0
LeavesFile x (entry.Renames from to) = from ≢ x
LeavesFile x (entry.Appends y piece) = y ≢ x
LeavesFile x (entry.Truncates y) = y ≢ x
LeavesFile x _ = Unit {0}

-- ---- what makes no file, and writes to none of that identity

pub other_id : (f g d : ℕ) → f ≡ d → g < d → nat_eq f g ≡ false
other_id f g d e lt = go (nat_eq f g) refl
  where
    go : (b : Bool) → nat_eq f g ≡ b → b ≡ false
    go true q = absurd (let same : f ≡ g = eqb-true f g q in omega (arith, e, lt))
    go false q = refl

is_other : (t : Thing) (g : ℕ) → (t ≡ thing.File g → ⊥) → is_file t g ≡ false
is_other (thing.File f) g never = go (nat_eq f g) refl
  where
    go : (b : Bool) → nat_eq f g ≡ b → b ≡ false
    go true q = absurd (never (ap thing.File (eqb-true f g q)))
    go false q = refl
is_other thing.Nothing g never = refl
is_other thing.Directory g never = refl
is_other thing.Other g never = refl

holds_other : (o : Option ℕ) (g : ℕ) → (o ≡ Some g → ⊥) → holds_file o g ≡ false
holds_other (Some f) g never = go (nat_eq f g) refl
  where
    go : (b : Bool) → nat_eq f g ≡ b → b ≡ false
    go true q = absurd (never (ap Some (eqb-true f g q)))
    go false q = refl
holds_other None g never = refl

pub making_other : (t : Thing) (y : Path) (g d : ℕ) → g < d → makes (making t y d) g ≡ false
making_other thing.Nothing y g d lt = other_id d g d refl lt
making_other (thing.File f) y g d lt = refl
making_other thing.Directory y g d lt = refl
making_other thing.Other y g d lt = refl

-- ---- one entry of a writer

-- what a writer holds then
held_on : (t : Thing) (b : Bool) (o : Option ℕ) (g d : ℕ) → (t ≡ thing.File g → ⊥) → (o ≡ Some g → ⊥) → g < d → cond b (attached t d) o ≡ Some g → ⊥
held_on thing.Nothing true o g d named held lt e = let same : d ≡ g = cc in absurd (omega arith)
held_on (thing.File f) true o g d named held lt e = let same : f ≡ g = cc in named (ap thing.File same)
held_on thing.Directory true o g d named held lt e = absurd (cc)
held_on thing.Other true o g d named held lt e = absurd (cc)
held_on t false o g d named held lt e = held e

let_go : (b : Bool) (o : Option ℕ) (g : ℕ) → (o ≡ Some g → ⊥) → cond b None o ≡ Some g → ⊥
let_go true o g held e = absurd (cc)
let_go false o g held e = held e

module _ (p : Past) (x : Path) (g : ℕ) (bytes : List ℕ) (h : IsGuarded x g bytes (world p)) where
  abbrev w : World
  w = world p

  kept_bytes : (b c : Bool) (more : List ℕ) → b ≡ false → c ≡ false → cond b [] (cond c more (w.files g).bytes) ≡ bytes
  kept_bytes true c more e f = absurd (cc)
  kept_bytes false true more e f = absurd (cc)
  kept_bytes false false more e f = h.has

  made_bytes : (b : Bool) → b ≡ false → cond b [] (w.files g).bytes ≡ bytes
  made_bytes true e = absurd (cc)
  made_bytes false e = h.has

  more_known : (d : ℕ) → w.drawn ≤ d → g < d
  more_known d le = let lt : g < w.drawn = h.known in omega arith

  attach_known : (t : Thing) (y : Path) → g < (drawn_after w (making t y w.drawn))
  attach_known thing.Nothing y = let lt : g < w.drawn = h.known in omega arith
  attach_known (thing.File f) y = h.known
  attach_known thing.Directory y = h.known
  attach_known thing.Other y = h.known

  attach_only : (v : ℕ) (y : Path) (at : _) (z : Path) → names (world (p ▸ entry.Attach v y at)) z ≡ thing.File g → z ≡ x
  attach_only v y at z e = ⊎_elim (λ same. h.only z (sym same ∙ e)) (λ new. absurd (let k : w.drawn ≡ g = same_file _ w.drawn g new.2 e in let lt : g < w.drawn = h.known in omega arith)) (attach_names w v y z at)

  -- of a writer that is attached elsewhere
  pub writer_guards : (e : Entry) → IsWriters e → AttachesOnly (λ y. y ≢ x) e → IsGuarded x g bytes (world (p ▸ e))
  writer_guards (entry.Attach v y at) i a = record {
    known = attach_known (names w y) y;
    only = λ z e. attach_only v y at z e;
    unheld = λ u e. held_on (names w y) (nat_eq v u) (w.holds u) g w.drawn (λ n. a (h.only y n)) (h.unheld u) h.known e;
    has = made_bytes (makes (making (names w y) y w.drawn) g) (making_other (names w y) y g w.drawn h.known);
  }
  writer_guards (entry.Feed v more at) i a = record {
    known = h.known;
    only = h.only;
    unheld = h.unheld;
    has = kept_bytes false (holds_file (w.holds v) g) ((w.files g).bytes ++ more) refl (holds_other (w.holds v) g (h.unheld v));
  }
  writer_guards (entry.Flush v) i a = record { known = h.known; only = h.only; unheld = h.unheld; has = h.has }
  writer_guards (entry.Detach v) i a = record { known = h.known; only = h.only; unheld = λ u e. let_go (nat_eq v u) (w.holds u) g (h.unheld u) e; has = h.has }
  writer_guards _ i a = absurd i

  -- ---- one entry of the tool

  put_only : (y : Path) (t : Thing) → (t ≡ thing.File g → y ≡ x) → (z : Path) → put (names w) y t z ≡ thing.File g → z ≡ x
  put_only y t here z e = ⊎_elim (λ at. at.0 ∙ here at.1) (λ old. h.only z old.1) (put_cases (names w) y t z (thing.File g) e)

  moved_only : (from to : Path) → from ≢ x → (z : Path) → put (put (names w) from thing.Nothing) to (names w from) z ≡ thing.File g → z ≡ x
  moved_only from to far z e = ⊎_elim (λ at. absurd (far (h.only from at.1))) (λ old. put_only from thing.Nothing (λ n. absurd (nothing_no_file thing.Nothing g refl n)) z old.1) (put_cases (put (names w) from thing.Nothing) to (names w from) z (thing.File g) e)

  -- of the tool, where it leaves the file
  pub tool_guards : (e : Entry) → IsTools e → LeavesFile x e → IsGuarded x g bytes (world (p ▸ e))
  tool_guards (entry.Renames from to) i l = record { known = more_known (w.drawn + 0) (omega arith); only = λ z e. moved_only from to l z e; unheld = h.unheld; has = h.has }
  tool_guards (entry.Makes y mode) i l = record {
    known = more_known (w.drawn + 1) (omega arith);
    only = λ z e. put_only y (thing.File w.drawn) (λ n. absurd (let k : w.drawn ≡ g = same_file (thing.File w.drawn) w.drawn g refl n in let lt : g < w.drawn = h.known in omega arith)) z e;
    unheld = h.unheld;
    has = made_bytes (nat_eq w.drawn g) (other_id w.drawn g w.drawn refl h.known);
  }
  tool_guards (entry.Unlinks y) i l = record { known = more_known (w.drawn + 0) (omega arith); only = λ z e. put_only y thing.Nothing (λ n. absurd (nothing_no_file thing.Nothing g refl n)) z e; unheld = h.unheld; has = h.has }
  tool_guards (entry.MakesDir y mode) i l = record { known = more_known (w.drawn + 0) (omega arith); only = λ z e. put_only y thing.Directory (λ n. absurd (let k : thing.Directory ≡ thing.File g = n in cc)) z e; unheld = h.unheld; has = h.has }
  tool_guards (entry.Appends y piece) i l = record {
    known = h.known;
    only = h.only;
    unheld = h.unheld;
    has = kept_bytes false (is_file (names w y) g) ((w.files g).bytes ++ piece) refl (is_other (names w y) g (λ n. l (h.only y n)));
  }
  tool_guards (entry.Truncates y) i l = record {
    known = h.known;
    only = h.only;
    unheld = h.unheld;
    has = kept_bytes false (is_file (names w y) g) [] refl (is_other (names w y) g (λ n. l (h.only y n)));
  }
  tool_guards (entry.SyncsDir y) i l = record { known = h.known; only = λ z e. h.only z (sym (synced_names w y z) ∙ e); unheld = h.unheld; has = h.has }
  tool_guards (entry.SyncsFile y) i l = record { known = h.known; only = h.only; unheld = h.unheld; has = h.has }
  tool_guards (entry.Starts state now rules) i l = record { known = h.known; only = h.only; unheld = h.unheld; has = h.has }
  tool_guards entry.Ends i l = record { known = h.known; only = h.only; unheld = h.unheld; has = h.has }
  tool_guards (entry.Look y seen) i l = record { known = h.known; only = h.only; unheld = h.unheld; has = h.has }
  tool_guards (entry.List dir listed) i l = record { known = h.known; only = h.only; unheld = h.unheld; has = h.has }
  tool_guards (entry.Reads y from piece) i l = record { known = h.known; only = h.only; unheld = h.unheld; has = h.has }
  tool_guards (entry.Runs program args input ended) i l = record { known = h.known; only = h.only; unheld = h.unheld; has = h.has }
  tool_guards _ i l = absurd i

-- ---- what is synced stays so

synced_by : (b : Bool) (synced : ℕ) (bytes now : List ℕ) → now ≡ bytes → length bytes ≤ synced → length bytes ≤ cond b (length now) synced
synced_by true synced bytes now e le = let k : length now ≡ length bytes = ap length e in omega arith
synced_by false synced bytes now e le = le

not_emptied : (b : Bool) (n synced : ℕ) → b ≡ false → n ≤ synced → n ≤ cond b 0 synced
not_emptied true n synced e le = absurd (cc)
not_emptied false n synced e le = le

module _ (p : Past) (x : Path) (g : ℕ) (bytes : List ℕ) (h : IsGuarded x g bytes (world p)) (s : IsSynced g bytes (world p)) where
  abbrev v : World
  v = world p

  pub writer_synced : (e : Entry) → IsWriters e → IsSynced g bytes (world (p ▸ e))
  writer_synced (entry.Attach u y at) i = not_emptied (makes (making (names v y) y v.drawn) g) (length bytes) (v.files g).synced (making_other (names v y) y g v.drawn h.known) s
  writer_synced (entry.Feed u more at) i = s
  writer_synced (entry.Flush u) i = synced_by (holds_file (v.holds u) g) (v.files g).synced bytes (v.files g).bytes h.has s
  writer_synced (entry.Detach u) i = s
  writer_synced _ i = absurd i

  pub tool_synced : (e : Entry) → IsTools e → LeavesFile x e → IsSynced g bytes (world (p ▸ e))
  tool_synced (entry.Makes y mode) i l = not_emptied (nat_eq v.drawn g) (length bytes) (v.files g).synced (other_id v.drawn g v.drawn refl h.known) s
  tool_synced (entry.SyncsFile y) i l = synced_by (is_file (names v y) g) (v.files g).synced bytes (v.files g).bytes h.has s
  tool_synced (entry.Truncates y) i l = not_emptied (is_file (names v y) g) (length bytes) (v.files g).synced (is_other (names v y) g (λ n. l (h.only y n))) s
  tool_synced (entry.Attach u y at) i l = absurd i
  tool_synced (entry.Flush u) i l = absurd i
  tool_synced (entry.Cut kept lengths) i l = absurd i
  tool_synced _ i l = s

-- ---- a cut

lengths_from : (w : World) (n : Names) (ls : List (ℕ × ℕ)) (g l : ℕ) → AreLengths w n ls → length_of ls g ≡ Some l → (w.files g).synced ≤ l
lengths_from w n [] g l a e = absurd (cc)
lengths_from w n (k ∷ ks) g l a e = go (λ e. lengths_from w n ks g l a.3 e) (nat_eq k.0 g) refl e
  where
    go : (length_of ks g ≡ Some l → (w.files g).synced ≤ l) → (b : Bool) → nat_eq k.0 g ≡ b → cond b (Some k.1) (length_of ks g) ≡ Some l → (w.files g).synced ≤ l
    go rest true q e = let is : k.0 ≡ g = eqb-true k.0 g q in let same : k.1 ≡ l = cc in subst (λ (m : ℕ). (w.files g).synced ≤ m) same (subst (λ (i : ℕ). (w.files i).synced ≤ k.1) is a.1)
    go rest false q e = rest e

-- keeps the bytes of a file that is synced
pub cut_whole : (w : World) (n : Names) (ls : List (ℕ × ℕ)) (x : Path) (g : ℕ) (bytes : List ℕ) → AreLengths w n ls → IsGuarded x g bytes w → IsSynced g bytes w → cut_to (length_of ls g) (w.files g).bytes ≡ bytes
cut_whole w n ls x g bytes a h s = go (length_of ls g) refl
  where
    go : (o : Option ℕ) → length_of ls g ≡ o → cut_to o (w.files g).bytes ≡ bytes
    go None e = h.has
    go (Some l) e = let le : (w.files g).synced ≤ l = lengths_from w n ls g l a e in let same : length (w.files g).bytes ≡ length bytes = ap length h.has in let le2 : length bytes ≤ (w.files g).synced = s in take_all l (w.files g).bytes (omega arith) ∙ h.has
