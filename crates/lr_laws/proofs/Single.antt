-- Each file has at most one name, whatever a cut leaves.
use Rattle.std.proofs.Common.{◌≡◌, ℕ, ◌<◌, List, length, sym, ◌∙◌, ap, subst, arith}
use Rattle.lr_rules.specs.declared.path.Path.{Path}
use Rattle.lr_host.specs.declared.entry.Entry.{Entry}
use Rattle.lr_host.specs.World.{Names, Change, Puts, changed, World, NameStep, Adds, step, Past, Opens, ◌▸◌, world, opening_names}
use Rattle.lr_host.specs.declared.thing.Thing.TheVariants as thing
use Rattle.lr_host.specs.Kept.{Leaves}
use Rattle.lr_host.specs.declared.journal.Opening.{Opening}
use Rattle.lr_host.specs.Opening.{IsJournal}
use Rattle.lr_laws.proofs.Opened.{IsOpened, opened}
use Rattle.lr_laws.proofs.Disk.{Came, made, moved, stayed, came, IsLeft, LeftBy, as_it_was, taken_back, kept_too, by_cut, KeepsClosed, fits_closed, left_by, nothing_pending, step_fresh, made_fresh, drawn_grows, drawn_makes}

-- Each file has at most one name, now and after each cut, and only files that were drawn have one.
pub record IsSingle (p : Past) : Type 0 where
  pub fresh : (m : Names) (undone : List Change) → Leaves p m undone → (x : Path) (g : ℕ) → m x ≡ thing.File g → g < (world p).drawn
  pub unique : (m : Names) (undone : List Change) → Leaves p m undone → (x y : Path) (g : ℕ) → m x ≡ thing.File g → m y ≡ thing.File g → x ≡ y

-- a file that the entry makes is new
pub new_one : (p : Past) (e : Entry) (c : Change) (y : Path) (g : ℕ) → step (world p) e ≡ Adds c → c ≡ Puts y (thing.File g) → g < (world p).drawn → ⊥
new_one p e c y g a m below = let i : g ≡ (world p).drawn = made_fresh (world p) (step (world p) e) c y g (step_fresh (world p) e) a m in omega arith

pub at_name : (m m' : Names) (x : Path) (g : ℕ) → m ≡ m' → m x ≡ thing.File g → m' x ≡ thing.File g
at_name m m' x g q is = sym (ap (λ (v : Names). v x) q) ∙ is

module _ (p : Past) (e : Entry) (cl : KeepsClosed (world p) e) (h : IsSingle p) where
  abbrev w : World
  w = world p

  abbrev st : NameStep
  st = step (world p) e

  fresh_on : (m : Names) (undone : List Change) → Leaves (p ▸ e) m undone → (x : Path) (g : ℕ) → m x ≡ thing.File g → g < (world (p ▸ e)).drawn
  fresh_on m undone l x g is = go (left_by w e m undone cl l)
    where
      more : g < w.drawn → g < (world (p ▸ e)).drawn
      more i = omega (arith, drawn_grows w st)

      go : LeftBy w st m undone → g < (world (p ▸ e)).drawn
      go (as_it_was same k) = more (h.fresh m undone k x g is)
      go (taken_back c older a q k) = more (h.fresh m older k x g is)
      go (by_cut kept older a q same k) = more (h.fresh m older k x g is)
      go (kept_too c v a q k ag) = at (came c v x g (at_name m (changed c v) x g q is))
        where
          at : Came c v x g → g < (world (p ▸ e)).drawn
          at (made i) = let j : g ≡ w.drawn = made_fresh w st c x g (step_fresh w e) a i in omega (arith, drawn_makes w st c x g a i)
          at (moved z i j) = more (h.fresh v undone k z g j)
          at (stayed i j) = more (h.fresh v undone k x g i)

  unique_on : (m : Names) (undone : List Change) → Leaves (p ▸ e) m undone → (x y : Path) (g : ℕ) → m x ≡ thing.File g → m y ≡ thing.File g → x ≡ y
  unique_on m undone l x y g is it = go (left_by w e m undone cl l)
    where
      go : LeftBy w st m undone → x ≡ y
      go (as_it_was same k) = h.unique m undone k x y g is it
      go (taken_back c older a q k) = h.unique m older k x y g is it
      go (by_cut kept older a q same k) = h.unique m older k x y g is it
      go (kept_too c v a q k ag) = at (came c v x g (at_name m (changed c v) x g q is)) (came c v y g (at_name m (changed c v) y g q it))
        where
          too_new : (z u : Path) → c ≡ Puts z (thing.File g) → v u ≡ thing.File g → ⊥
          too_new z u i j = new_one p e c z g a i (h.fresh v undone k u g j)

          at : Came c v x g → Came c v y g → x ≡ y
          at (made i) (made i') = cc
          at (made i) (moved z i' j) = absurd (cc)
          at (made i) (stayed i' j) = absurd (too_new x y i i')
          at (moved z i j) (made i') = absurd (cc)
          at (moved z i j) (moved z' i' j') = cc
          at (moved z i j) (stayed i' j') = absurd (j' (subst (λ (d : Change). IsLeft d y) (sym i) (h.unique v undone k z y g j i')))
          at (stayed i j) (made i') = absurd (too_new y x i' i)
          at (stayed i j) (moved z i' j') = absurd (j (subst (λ (d : Change). IsLeft d x) (sym i') (h.unique v undone k z x g j' i)))
          at (stayed i j) (stayed i' j') = h.unique v undone k x y g i i'

  pub single_on : IsSingle (p ▸ e)
  single_on = record { fresh = fresh_on; unique = unique_on }

pub at_first : (o : Opening) (m : Names) (undone : List Change) → Leaves (Opens o) m undone → (x : Path) (g : ℕ) → m x ≡ thing.File g → opening_names o x ≡ thing.File g
at_first o m undone l x g is = sym (ap (λ (v : Names). v x) (nothing_pending (opening_names o) m undone l).0) ∙ is

pub single_first : (o : Opening) → IsOpened o → IsSingle (Opens o)
single_first o first = record { fresh = fresh_first; unique = unique_first }
  where
    fresh_first : (m : Names) (undone : List Change) → Leaves (Opens o) m undone → (x : Path) (g : ℕ) → m x ≡ thing.File g → g < length o.files
    fresh_first m undone l x g is = first.fresh x g (at_first o m undone l x g is)

    unique_first : (m : Names) (undone : List Change) → Leaves (Opens o) m undone → (x y : Path) (g : ℕ) → m x ≡ thing.File g → m y ≡ thing.File g → x ≡ y
    unique_first m undone l x y g is it = first.unique x y g (at_first o m undone l x g is) (at_first o m undone l y g it)

pub single : (p : Past) → IsJournal p → IsSingle p
single (Opens o) j = single_first o (opened o j)
single (p ▸ e) j = single_on p e (fits_closed (world p) e j.1) (single p j.0)
