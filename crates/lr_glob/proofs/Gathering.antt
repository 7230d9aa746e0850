-- What each of a list gives, taken in one after another.
use Rattle.std.proofs.Common.{◌≡◌, ℕ, List, [], ◌∷◌, ◌++◌, refl, sym, ap, ◌∙◌, subst, append_assoc, Option, None, true, Result, Ok, Err, OnOk}
use Rattle.std.specs.Str.{chars}
use Rattle.std.proofs.lemmas.List.{append-nil}
use Rattle.lr_rules.specs.declared.path.Path.{Path}
use Rattle.lr_rules.specs.declared.path.PathFault.{PathFault}
use Rattle.lr_rules.specs.declared.path.PathFault.TheVariants as fault
use Rattle.lr_rules.specs.Path.{path_fault, joined, IsRefusal}
use Rattle.lr_rules.specs.Match.{Matches}
use Rattle.lr_glob.specs.Gathers.{Gathers, AddsPaths}
use Rattle.lr_glob.specs.Parts.{JoinOf, PickOf}

pub gathers_more : {X : Type 0} (P : X → List Path → Type 0) (xs : List X) (paths : List Path) (x : X) (its : List Path) → Gathers P xs paths → P x its → Gathers P (xs ++ x ∷ []) (paths ++ its)
gathers_more P _ _ x its Gathers.none p = subst (Gathers P (x ∷ [])) (append-nil its) (Gathers.more x [] its [] p Gathers.none)
gathers_more P _ _ x its (Gathers.more y ys own paths q g) p = subst (Gathers P (y ∷ (ys ++ x ∷ []))) (sym (append_assoc own paths its)) (Gathers.more y (ys ++ x ∷ []) own (paths ++ its) q (gathers_more P ys paths x its g p))

-- nothing was taken in
pub adds_none : {X : Type 0} (P : X → List Path → Type 0) (xs : List X) (before : List Path) → xs ≡ [] → AddsPaths (Gathers P xs) before before
adds_none P xs before e = ([], subst (λ ys. Gathers P ys []) (sym e) Gathers.none, sym (append-nil before))

-- one more was
pub adds_more : {X : Type 0} (P : X → List Path → Type 0) (xs ys : List X) (x : X) (before between now : List Path) → ys ≡ xs ++ x ∷ [] → AddsPaths (Gathers P xs) before between → AddsPaths (P x) between now → AddsPaths (Gathers P ys) before now
adds_more P xs ys x before between now e g p = (
  g.0 ++ p.0,
  subst (λ zs. Gathers P zs (g.0 ++ p.0)) (sym e) (gathers_more P xs g.0 x p.0 g.1 p.1),
  p.2 ∙ (ap (λ zs. zs ++ p.0) g.2 ∙ append_assoc before g.0 p.0),
)

pub adds_all : (P : List Path → Type 0) (before now : List Path) → before ≡ [] → AddsPaths P before now → P now
adds_all P before now none a = subst P (sym (a.2 ∙ ap (λ zs. zs ++ a.0) none)) a.1

-- ---- one name

pub join_added : (dir : Path) (name : List ℕ) (path : Path) (before now : List Path) → path ≡ joined dir name → path_fault path ≡ None → now ≡ before ++ path ∷ [] → AddsPaths (JoinOf dir name) before now
join_added dir name path before now is valid e = (joined dir name ∷ [], JoinOf.is_path (ap path_fault (sym is) ∙ valid), e ∙ ap (λ x. before ++ x ∷ []) is)

refused : (why : Option PathFault) (told : PathFault) → (told ≡ fault.Memory → ⊥) → IsRefusal why told → why ≡ None → ⊥
refused why fault.Memory other r none = other refl
refused why fault.NotUtf8 other r none = absurd (cc)
refused why fault.BadByte other r none = absurd (cc)
refused why fault.TooLong other r none = absurd (cc)
refused why fault.Relative other r none = absurd (cc)
refused why fault.EmptyPart other r none = absurd (cc)
refused why fault.DotPart other r none = absurd (cc)

pub join_refused : (dir : Path) (name : List ℕ) (told : PathFault) (before : List Path) → (told ≡ fault.Memory → ⊥) → IsRefusal (path_fault (joined dir name)) told → AddsPaths (JoinOf dir name) before before
join_refused dir name told before other r = ([], JoinOf.no_path (refused (path_fault (joined dir name)) told other r), sym (append-nil before))

pub match_added : (part : List ℕ) (dir : Path) (name : List ℕ) (before now : List Path) → Matches true (chars part) (chars name) → AddsPaths (JoinOf dir name) before now → AddsPaths (PickOf part dir name) before now
match_added part dir name before now m a = (a.0, PickOf.matched a.0 m a.1, a.2)

pub other_added : (part : List ℕ) (dir : Path) (name : List ℕ) (before : List Path) → (Matches true (chars part) (chars name) → ⊥) → AddsPaths (PickOf part dir name) before before
other_added part dir name before m = ([], PickOf.other m, sym (append-nil before))

pub on_ok_as : {T E : Type 0} (r : Result T E) {P Q : Type 0} → OnOk r P → (P → Q) → OnOk r Q
on_ok_as (Ok x) p f = f p
on_ok_as (Err x) p f = tt
