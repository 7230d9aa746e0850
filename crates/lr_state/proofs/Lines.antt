-- What a line says, and that it says nothing else.
use Rattle.std.proofs.Common.{◌≡◌, ◌∙◌, ap, sym, subst, refl, ℕ, ℤ, pos, true, false, List, [], ◌∷◌, ◌++◌, Option, Some, None, is_some, Result, Ok, Err, inl, inr}
use Rattle.std.proofs.Props.{props}
use Rattle.lr_rules.specs.Civil.{IsMoment}
use Rattle.lr_rules.specs.declared.civil.Civil.{Civil}
use Rattle.lr_rules.specs.declared.fault.StateKind.{StateKind}
use Rattle.lr_rules.specs.declared.fault.StateKind.TheVariants.{TooBig, BadTop, BadName, BadDate, Twice}
use Rattle.lr_state.specs.Answer.{LineSays, LineSaysOnly}
use Rattle.lr_state.specs.Grammar.{BeginsWithName, HasDate}
use Rattle.lr_state.specs.Reading.{NameAndRest, Parts, HasParts, IsMomentOf, parts_in, name_in, checked}
use Rattle.lr_state.specs.Table.{StateEntry, moment_of}
use Rattle.lr_state.proofs.Names.{named-sound, named-complete}
use Rattle.lr_state.proofs.Dates.{parts_of, parts-sound, parts-complete}

abbrev pub Fields : Type 0
Fields = ℤ × ℕ × ℕ × ℕ × ℕ × ℕ

abbrev pub IsValid : Fields → Type 0
IsValid f = IsMoment f.0 f.1 f.2 f.3 f.4 f.5

abbrev pub make : (f : Fields) → IsValid f → Civil
make f v = record { year = f.0; month = f.1; day = f.2; hour = f.3; minute = f.4; second = f.5; valid = v }

pub valid-same : (f : Fields) (v w : IsValid f) → v ≡ w
valid-same f v w = let prop : IsProp (IsValid f) = hlevel props in prop v w

same_make : (f g : Fields) → f ≡ g → (v : IsValid f) (w : IsValid g) → make f v ≡ make g w
same_make f g e v w =
    subst (λ (h : Fields). (u : IsValid h) → make f v ≡ make h u) e (λ u. ap (make f) (valid-same f v u)) w

-- moments with the same parts are one
same_parts : (a b : Civil) (p : Parts) → HasParts a p → HasParts b p → a ≡ b
same_parts a b p x y =
    let fields : (a.year, a.month, a.day, a.hour, a.minute, a.second) ≡ (b.year, b.month, b.day, b.hour, b.minute, b.second) =
    cc (x.0, x.1, x.2, x.3, x.4, x.5, y.0, y.1, y.2, y.3, y.4, y.5) in
    same_make (a.year, a.month, a.day, a.hour, a.minute, a.second) (b.year, b.month, b.day, b.hour, b.minute, b.second) fields a.valid b.valid

-- what the reader found behind the name is the moment there, or none is there
dated-sound : (rest : List ℕ) (o : Option Parts) (at : Civil) → parts_in rest ≡ o → IsMomentOf o (Some at) → HasDate rest at
dated-sound rest None at e h = absurd h
dated-sound rest (Some p) at e h = parts-sound rest p at e h

dated-only : (rest : List ℕ) (at other : Civil) → IsMomentOf (parts_in rest) (Some at) → HasDate rest other → other ≡ at
dated-only rest at other h t =
    let parts = parts-complete rest other t in
    let own : HasParts at (parts_of other t.year) = subst (λ (o : Option Parts). IsMomentOf o (Some at)) parts h in
    same_parts other at (parts_of other t.year) (t.at_year, refl, refl, refl, refl, refl) own

dated-none : (rest : List ℕ) (other : Civil) → IsMomentOf (parts_in rest) None → HasDate rest other → ⊥
dated-none rest other h t =
    let never : IsMoment (pos t.year) other.month other.day other.hour other.minute other.second → ⊥ =
    subst (λ (o : Option Parts). IsMomentOf o None) (parts-complete rest other t) h in
    never (subst (λ (y : ℤ). IsMoment y other.month other.day other.hour other.minute other.second) t.at_year other.valid)

-- the name that the grammar finds is the one that the reader found
record IsFound (x : NameAndRest) (name rest : List ℕ) : Type 0 where
  pub name_is : name ≡ x.0
  pub rest_is : rest ≡ x.1

found : (line : List ℕ) (x : NameAndRest) (name rest : List ℕ) → Some x ≡ checked (name_in line) → BeginsWithName line name rest → IsFound x name rest
found line x name rest e named =
    let same : x ≡ (name, rest) = cc (e, named-complete line name rest named) in
    record { name_is = sym (ap (λ (z : NameAndRest). z.0) same); rest_is = sym (ap (λ (z : NameAndRest). z.1) same) }

no_name : (line name rest : List ℕ) → None ≡ checked (name_in line) → BeginsWithName line name rest → ⊥
no_name line name rest e named =
    let never : None ≡ Some (name, rest) = e ∙ named-complete line name rest named in
    absurd (cc never)

abbrev Answer : Type 0
Answer = Result (List StateEntry) StateKind

name-only : (before : List StateEntry) (line : List ℕ) → None ≡ checked (name_in line) → (line ≡ [] → ⊥) → (other : Answer) → LineSays before line other → other ≡ Err BadName
name-only before line e full (Ok after) (inl h) = absurd (full h.0)
name-only before line e full (Ok after) (inr h) = absurd (no_name line h.0 h.1 e h.3)
name-only before line e full (Err TooBig) h = absurd h
name-only before line e full (Err BadTop) h = absurd h
name-only before line e full (Err BadName) h = refl
name-only before line e full (Err BadDate) h = absurd (no_name line h.0 h.1 e h.2)
name-only before line e full (Err Twice) h = absurd (no_name line h.0 h.1 e h.3)

no_date : (line : List ℕ) (x : NameAndRest) (name rest : List ℕ) (at : Civil) → Some x ≡ checked (name_in line) → IsMomentOf (parts_in x.1) None → BeginsWithName line name rest → HasDate rest at → ⊥
no_date line x name rest at e h named dated =
    let f = found line x name rest e named in
    dated-none x.1 at h (subst (λ r. HasDate r at) f.rest_is dated)

date-only : (before : List StateEntry) (line : List ℕ) (x : NameAndRest) → Some x ≡ checked (name_in line) → (line ≡ [] → ⊥) → IsMomentOf (parts_in x.1) None → (other : Answer) → LineSays before line other → other ≡ Err BadDate
date-only before line x e full h (Ok after) (inl s) = absurd (full s.0)
date-only before line x e full h (Ok after) (inr s) = absurd (no_date line x s.0 s.1 s.2 e h s.3 s.4)
date-only before line x e full h (Err TooBig) s = absurd s
date-only before line x e full h (Err BadTop) s = absurd s
date-only before line x e full h (Err BadName) s = absurd (s.1 x.0 x.1 (named-sound line x (sym e)))
date-only before line x e full h (Err BadDate) s = refl
date-only before line x e full h (Err Twice) s = absurd (no_date line x s.0 s.1 s.2 e h s.3 s.4)

-- the entry that the grammar finds is the one that the reader found
record IsFoundEntry (x : NameAndRest) (at : Civil) (name : List ℕ) (other : Civil) : Type 0 where
  pub name_is : name ≡ x.0
  pub at_is : other ≡ at

entry : (line : List ℕ) (x : NameAndRest) (at : Civil) (name rest : List ℕ) (other : Civil) → Some x ≡ checked (name_in line) → IsMomentOf (parts_in x.1) (Some at) → BeginsWithName line name rest → HasDate rest other → IsFoundEntry x at name other
entry line x at name rest other e h named dated =
    let f = found line x name rest e named in
    record { name_is = f.name_is; at_is = dated-only x.1 at other h (subst (λ r. HasDate r other) f.rest_is dated) }

twice-only : (before : List StateEntry) (line : List ℕ) (x : NameAndRest) (at : Civil) → Some x ≡ checked (name_in line) → (line ≡ [] → ⊥) → IsMomentOf (parts_in x.1) (Some at) → is_some (moment_of before x.0) ≡ true → (other : Answer) → LineSays before line other → other ≡ Err Twice
twice-only before line x at e full h known (Ok after) (inl s) = absurd (full s.0)
twice-only before line x at e full h known (Ok after) (inr s) =
    let f = entry line x at s.0 s.1 s.2 e h s.3 s.4 in
    let never : true ≡ false = sym known ∙ ap (λ n. is_some (moment_of before n)) (sym f.name_is) ∙ ap is_some s.5 in
    absurd (cc never)
twice-only before line x at e full h known (Err TooBig) s = absurd s
twice-only before line x at e full h known (Err BadTop) s = absurd s
twice-only before line x at e full h known (Err BadName) s = absurd (s.1 x.0 x.1 (named-sound line x (sym e)))
twice-only before line x at e full h known (Err BadDate) s =
    let f = found line x s.0 s.1 e s.2 in
    absurd (s.3 at (subst (λ r. HasDate r at) (sym f.rest_is) (dated-sound x.1 (parts_in x.1) at refl h)))
twice-only before line x at e full h known (Err Twice) s = refl

new-only : (before : List StateEntry) (line : List ℕ) (x : NameAndRest) (at : Civil) → Some x ≡ checked (name_in line) → (line ≡ [] → ⊥) → IsMomentOf (parts_in x.1) (Some at) → moment_of before x.0 ≡ None → (other : Answer) → LineSays before line other → other ≡ Ok (before ++ (x.0, at) ∷ [])
new-only before line x at e full h new (Ok after) (inl s) = absurd (full s.0)
new-only before line x at e full h new (Ok after) (inr s) =
    let f = entry line x at s.0 s.1 s.2 e h s.3 s.4 in
    ap (λ (t : List StateEntry). Ok t) (s.6 ∙ ap (λ n. before ++ (n, s.2) ∷ []) f.name_is ∙ ap (λ (c : Civil). before ++ (x.0, c) ∷ []) f.at_is)
new-only before line x at e full h new (Err TooBig) s = absurd s
new-only before line x at e full h new (Err BadTop) s = absurd s
new-only before line x at e full h new (Err BadName) s = absurd (s.1 x.0 x.1 (named-sound line x (sym e)))
new-only before line x at e full h new (Err BadDate) s =
    let f = found line x s.0 s.1 e s.2 in
    absurd (s.3 at (subst (λ r. HasDate r at) (sym f.rest_is) (dated-sound x.1 (parts_in x.1) at refl h)))
new-only before line x at e full h new (Err Twice) s =
    let f = entry line x at s.0 s.1 s.2 e h s.3 s.4 in
    let never : true ≡ false = sym s.5 ∙ ap (λ n. is_some (moment_of before n)) f.name_is ∙ ap is_some new in
    absurd (cc never)

pub says-bad_name : (before : List StateEntry) (line : List ℕ) → None ≡ checked (name_in line) → (line ≡ [] → ⊥) → LineSaysOnly before line (Err BadName)
says-bad_name before line e full = ((full, λ name rest named. no_name line name rest e named), name-only before line e full)

pub says-bad_date : (before : List StateEntry) (line : List ℕ) (x : NameAndRest) → Some x ≡ checked (name_in line) → (line ≡ [] → ⊥) → IsMomentOf (parts_in x.1) None → LineSaysOnly before line (Err BadDate)
says-bad_date before line x e full h = ((x.0, x.1, named-sound line x (sym e), λ at dated. dated-none x.1 at h dated), date-only before line x e full h)

pub says-twice : (before : List StateEntry) (line : List ℕ) (x : NameAndRest) (at : Civil) → Some x ≡ checked (name_in line) → (line ≡ [] → ⊥) → IsMomentOf (parts_in x.1) (Some at) → is_some (moment_of before x.0) ≡ true → LineSaysOnly before line (Err Twice)
says-twice before line x at e full h known =
    ((x.0, x.1, at, named-sound line x (sym e), dated-sound x.1 (parts_in x.1) at refl h, known), twice-only before line x at e full h known)

pub says-new : (before : List StateEntry) (line : List ℕ) (x : NameAndRest) (at : Civil) → Some x ≡ checked (name_in line) → (line ≡ [] → ⊥) → IsMomentOf (parts_in x.1) (Some at) → moment_of before x.0 ≡ None → LineSaysOnly before line (Ok (before ++ (x.0, at) ∷ []))
says-new before line x at e full h new =
    (inr (x.0, x.1, at, named-sound line x (sym e), dated-sound x.1 (parts_in x.1) at refl h, new, refl), new-only before line x at e full h new)
