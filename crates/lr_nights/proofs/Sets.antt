-- The sets of logs, and their members.
use Rattle.std.proofs.Common.{◌≡◌, ℕ, zero, suc, ◌<◌, ◌≤◌, ◌+◌, List, [], ◌∷◌, length, drop, get_or, refl, sym, ◌∙◌, ap, subst, arith, Option, Some, None, ℤ, pos}
use Rattle.std.specs.Prelude.{◌↔◌, All, is_some}
use Rattle.lr_rules.specs.Path.{path_fault}
use Rattle.lr_laws.proofs.Existing.{set_exists}
use Rattle.lr_rules.specs.declared.path.Path.{Path}
use Rattle.lr_rules.specs.declared.rule.Naming.{Naming}
use Rattle.lr_rules.specs.Names.{IsMemberAt}
use Rattle.lr_rules.specs.Dated.{IsDatedAt}
use Rattle.lr_host.specs.Sets.{LogSet, Order, Numbered, order_of, IsKeyBy}
use Rattle.lr_family.specs.declared.family.Family.{Family}
use Rattle.lr_family.specs.declared.place.Place.{Place}
use Rattle.lr_family.specs.declared.place.Place.TheVariants as at
use Rattle.lr_nights.specs.Summary.{IsSetOf, AreSetsOf, logs_of}

-- the set of a log, and the sets behind it
pub record SetAt (sets : List LogSet) (i : ℕ) (f : Family) : Type 0 where
  pub set : LogSet
  pub is : IsSetOf (f.log, f.naming) set
  pub rest : drop i sets ≡ set ∷ drop (i + 1) sets

set_there : (logs : List Family) (sets : List LogSet) (i : ℕ) (f : Family) → AreSetsOf (logs_of logs) sets → i < length logs → (s : LogSet) × IsSetOf ((get_or logs i f).log, (get_or logs i f).naming) s × (drop i sets ≡ s ∷ drop (suc i) sets)
set_there [] sets i f are lt = absurd (omega arith)
set_there (x ∷ xs) [] i f are lt = absurd are
set_there (x ∷ xs) (s ∷ sets) zero f are lt = (s, are.0, refl)
set_there (x ∷ xs) (s ∷ sets) (suc i) f are lt = set_there xs sets i f are.1 (omega arith)

pub set_at : (logs : List Family) (sets : List LogSet) (i : ℕ) (f : Family) → AreSetsOf (logs_of logs) sets → i < length logs → f ≡ get_or logs i f → SetAt sets i f
set_at logs sets i f are lt is =
    let t = set_there logs sets i f are lt in
    record {
      set = t.0;
      is = subst (λ (x : Family). IsSetOf (x.log, x.naming) t.0) (sym is) t.1;
      rest = t.2 ∙ ap (λ (k : ℕ). t.0 ∷ drop k sets) (let e : suc i ≡ i + 1 = omega arith in e);
    }

-- behind all logs there is no set
pub sets_end : (logs : List Family) (sets : List LogSet) (i : ℕ) → AreSetsOf (logs_of logs) sets → length logs ≤ i → drop i sets ≡ []
sets_end [] [] zero are le = refl
sets_end [] [] (suc i) are le = refl
sets_end [] (s ∷ sets) i are le = absurd are
sets_end (x ∷ xs) [] i are le = absurd are
sets_end (x ∷ xs) (s ∷ sets) zero are le = absurd (omega arith)
sets_end (x ∷ xs) (s ∷ sets) (suc i) are le = sets_end xs sets i are.1 (omega arith)

-- a path that has a place has a key, and no other path
pub keyed : (s : LogSet) (n : Naming) (x : Path) (r : Option Place) → s.naming ≡ n → n.dated ≡ None → ((place : ℕ) → (r ≡ Some (at.Number place)) ↔ ((n.dated ≡ None) × IsMemberAt n place x))
    → ((seconds : ℤ) (serial : ℕ) → (r ≡ Some (at.Stamp seconds serial)) ↔ IsDatedAt n seconds serial x) → is_some r ≡ is_some (s.key x)
keyed s n x r same numbered numbers stamps = go r refl (s.key x) refl
  where
    ordered : order_of s.naming.dated ≡ Numbered
    ordered = ap (λ (m : Naming). order_of m.dated) same ∙ ap order_of numbered

    keys : IsKeyBy Numbered s.naming s.key
    keys = subst (λ (o : Order). IsKeyBy o s.naming s.key) ordered s.keys

    go : (q : Option Place) → r ≡ q → (k : Option ℤ) → s.key x ≡ k → is_some q ≡ is_some k
    go (Some (at.Stamp seconds serial)) e k f = let dated = ((stamps seconds serial).0 e) in let none : None ≡ Some dated.format = sym numbered ∙ dated.dated in absurd (cc)
    go (Some (at.Number place)) e (Some k) f = refl
    go (Some (at.Number place)) e None f =
        let m : IsMemberAt s.naming place x = subst (λ (m : Naming). IsMemberAt m place x) (sym same) ((numbers place).0 e).1 in
        let none : None ≡ Some (pos place) = sym f ∙ (keys x (pos place)).1 (place, refl, m) in absurd (cc)
    go None e None f = refl
    go None e (Some k) f =
        let m = (keys x k).0 f in
        let some : None ≡ Some (at.Number m.0) = sym e ∙ (numbers m.0).1 (numbered, subst (λ (w : Naming). IsMemberAt w m.0 x) same m.2) in absurd (cc)

-- ---- each log has a set

all_behind : {A : Type 0} (P : A → Type 0) (x : A) (xs : List A) → All P (x ∷ xs) → All P xs
all_behind P x xs all = λ k d lt. all (suc k) d (omega arith)

all_first : {A : Type 0} (P : A → Type 0) (x : A) (xs : List A) → All P (x ∷ xs) → P x
all_first P x xs all = all 0 x (omega arith)

pub sets_exist : (logs : List Family) → All (λ (f : Family). f.naming.dated ≡ None) logs → All (λ (f : Family). path_fault f.log ≡ None) logs → (sets : List LogSet) × AreSetsOf (logs_of logs) sets
sets_exist [] numbered paths = ([], tt)
sets_exist (f ∷ fs) numbered paths =
    let n = all_first (λ (f : Family). f.naming.dated ≡ None) f fs numbered in
    let s = set_exists f.log f.naming (all_first (λ (f : Family). path_fault f.log ≡ None) f fs paths) n (f.kin.apart n) in
    let r = sets_exist fs (all_behind (λ (f : Family). f.naming.dated ≡ None) f fs numbered) (all_behind (λ (f : Family). path_fault f.log ≡ None) f fs paths) in
    (s.0 ∷ r.0, ((s.1, s.2), r.1))
