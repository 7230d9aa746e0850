-- Dated members, by their names.
use Rattle.std.proofs.Common.{◌≡◌, ℕ, List, ◌++◌, ◌∷◌, [], length, cond, nat_eq, sym, ap, ◌∙◌, subst, Option, Some, ℤ}
use Rattle.std.specs.Prelude.{◌↔◌}
use Rattle.std.proofs.lemmas.List.{append_cancel_left, append_cancel_right}
use Rattle.lr_rules.specs.declared.path.Path.{Path}
use Rattle.lr_rules.specs.declared.rule.Format.{Format}
use Rattle.lr_rules.specs.declared.rule.Naming.{Naming}
use Rattle.lr_rules.specs.Path.{joined}
use Rattle.lr_rules.specs.Dated.{IsNumberedStamp, IsDatedAt}
use Rattle.lr_rules.proofs.Heads.{tails}
use Rattle.lr_stamps.specs.Dated.{IsNamedBy}

pub joined_same : (dir xs ys : List ℕ) → joined dir xs ≡ joined dir ys → xs ≡ ys
joined_same dir xs ys e = tails 47 47 xs ys (append_cancel_left (cond (nat_eq (length dir) 1) [] dir) (47 ∷ xs) (47 ∷ ys) e)

pub middle_same : (base ext xs ys : List ℕ) → base ++ xs ++ ext ≡ base ++ ys ++ ext → xs ≡ ys
middle_same base ext xs ys e = append_cancel_left base xs ys (append_cancel_right (base ++ xs) (base ++ ys) ext e)

abbrev Stamped : Type 0
Stamped = ℤ × ℕ

-- a stamp in a name
pub by_stamp : (n : Naming) (f : Format) (name base ext middle : List ℕ) (r : Option Stamped) → name ≡ base ++ middle ++ ext → base ≡ n.base → ext ≡ n.ext → ((t : ℤ) (k : ℕ) → (r ≡ Some (t, k)) ↔ IsNumberedStamp f t k middle) → (t : ℤ) (k : ℕ) → (r ≡ Some (t, k)) ↔ IsNamedBy n f t k name
by_stamp n f name base ext middle r e b x h t k = (
  λ s. record { middle = middle; is = (h t k).0 s; named = name_is },
  λ m. (h t k).1 (subst (IsNumberedStamp f t k) (middle_same n.base n.ext m.middle middle (sym m.named ∙ name_is)) m.is),
)
  where
    name_is : name ≡ n.base ++ middle ++ n.ext
    name_is = e ∙ (ap (λ a. a ++ middle ++ ext) b ∙ ap (λ a. n.base ++ middle ++ a) x)

-- a name in a path
pub by_path : (n : Naming) (f : Format) (path : Path) (name : List ℕ) (r : Option Stamped) → n.dated ≡ Some f → path ≡ joined n.dir name → ((t : ℤ) (k : ℕ) → (r ≡ Some (t, k)) ↔ IsNamedBy n f t k name) → (t : ℤ) (k : ℕ) → (r ≡ Some (t, k)) ↔ IsDatedAt n t k path
by_path n f path name r d e h t k = (
  λ s. let m = (h t k).0 s in record { format = f; dated = d; middle = m.middle; is = m.is; named = e ∙ ap (joined n.dir) m.named },
  λ m. (h t k).1 (record { middle = m.middle; is = subst (λ (g : Format). IsNumberedStamp g t k m.middle) (some_same m.format f (sym m.dated ∙ d)) m.is; named = joined_same n.dir name (n.base ++ m.middle ++ n.ext) (sym e ∙ m.named) }),
)
  where
    some_same : (a b : Format) → Some a ≡ Some b → a ≡ b
    some_same a b e = cc
