-- What a match comes from, sign by sign, and that the last `*` is enough.
use Rattle.std.proofs.Common.{◌≡◌, ℕ, ◌==◌, Bool, true, false, cond, not, List, [], ◌∷◌, ◌++◌, refl, sym, ap, ◌∙◌, subst, eq-eqb, arith}
use Rattle.std.proofs.lemmas.Bool.Decides.{nat_tests}
use Rattle.std.specs.Str.{chars}
use Rattle.std.specs.List.{list_any}
use Rattle.lr_rules.specs.Match.{IsPlain, IsClass, IsOpen, Matches, class_has, is_close}
use Rattle.lr_match.specs.declared.sign.Sign.{Sign}
use Rattle.lr_match.specs.declared.sign.Sign.TheVariants as sign
use Rattle.lr_match.specs.declared.class.Class.{Class}
use Rattle.lr_match.specs.Classes.{before_close, signs_of}
use Rattle.lr_match.specs.Signs.{BeginsWithSign, sign_has, IsSingle}
use Rattle.lr_match.proofs.Classes.{before_first_close}

-- ---- lists that are one

pub head_is : {text xs ys : List ℕ} {x y : ℕ} → text ≡ x ∷ xs → text ≡ y ∷ ys → x ≡ y
head_is {text} {xs} {ys} {x} {y} e e' = let h : x ∷ xs ≡ y ∷ ys = sym e ∙ e' in cc

pub tail_is : {text xs ys : List ℕ} {x y : ℕ} → text ≡ x ∷ xs → text ≡ y ∷ ys → xs ≡ ys
tail_is {text} {xs} {ys} {x} {y} e e' = let h : x ∷ xs ≡ y ∷ ys = sym e ∙ e' in cc

pub not_empty : {text xs : List ℕ} {x : ℕ} → text ≡ [] → text ≡ x ∷ xs → ⊥
not_empty {text} {xs} {x} e e' = let h : [] ≡ x ∷ xs = sym e ∙ e' in absurd (cc)

pub differ : (x y : ℕ) → (x == y) ≡ false → x ≡ y → ⊥
differ x y no_test same = let yes = eq-eqb x y same in absurd (cc)

-- ---- what a match begins with

-- A match, by its first step.
pub data Went (is_first : Bool) (text name : List ℕ) : Type 0 where
  ended : text ≡ [] → name ≡ [] → Went is_first text name
  itself : (c : ℕ) (part rest : List ℕ) → text ≡ c ∷ part → name ≡ c ∷ rest → IsPlain c part → Matches false part rest → Went is_first text name
  escaped : (c : ℕ) (part rest : List ℕ) → text ≡ 92 ∷ c ∷ part → name ≡ c ∷ rest → Matches false part rest → Went is_first text name
  any_one : (c : ℕ) (part rest : List ℕ) → text ≡ 63 ∷ part → name ≡ c ∷ rest → IsOpen is_first c → Matches false part rest → Went is_first text name
  run_ends : (part : List ℕ) → text ≡ 42 ∷ part → Matches is_first part name → Went is_first text name
  run_goes_on : (c : ℕ) (part rest : List ℕ) → text ≡ 42 ∷ part → name ≡ c ∷ rest → IsOpen is_first c → Matches false (42 ∷ part) rest → Went is_first text name
  of_class : (c : ℕ) (part rest signs behind : List ℕ) (is_turned : Bool) → text ≡ 91 ∷ part → name ≡ c ∷ rest → IsClass part is_turned signs behind → IsOpen is_first c → class_has signs c ≡ not is_turned → Matches false behind rest
      → Went is_first text name

pub went : (is_first : Bool) (text name : List ℕ) → Matches is_first text name → Went is_first text name
went f _ _ Matches.ends = Went.ended refl refl
went f _ _ (Matches.itself {c = c} {part = part} {name = name} plain m) = Went.itself c part name refl refl plain m
went f _ _ (Matches.escaped {sign = s} {c = c} {part = part} {name = name} is m) = Went.escaped c part name (ap (λ x. x ∷ c ∷ part) is) refl m
went f _ _ (Matches.any_one {sign = s} {c = c} {part = part} {name = name} is open_to m) = Went.any_one c part name (ap (λ x. x ∷ part) is) refl open_to m
went f _ name (Matches.run_ends {sign = s} {part = part} is m) = Went.run_ends part (ap (λ x. x ∷ part) is) m
went f _ _ (Matches.run_goes_on {sign = s} {c = c} {part = part} {name = name} is open_to m) = Went.run_goes_on c part name (ap (λ x. x ∷ part) is) refl open_to (subst (λ x. Matches false (x ∷ part) name) is m)
went f _ _ (Matches.of_class {is_turned = t} {sign = s} {c = c} {part = part} {name = name} {signs = signs} {rest = behind} is k open_to has m) = Went.of_class c part name signs behind t (ap (λ x. x ∷ part) is) refl k open_to has m

-- ---- first places

-- what matches where a first dot is set apart matches where it isn't
pub loosened : (is_first : Bool) (text name : List ℕ) → Matches is_first text name → Matches false text name
loosened f _ _ Matches.ends = Matches.ends
loosened f _ _ (Matches.itself plain m) = Matches.itself plain m
loosened f _ _ (Matches.escaped is m) = Matches.escaped is m
loosened f _ _ (Matches.any_one is o m) = Matches.any_one is (λ is_so. absurd (cc)) m
loosened f _ name (Matches.run_ends {part = part} is m) = Matches.run_ends is (loosened f part name m)
loosened f _ _ (Matches.run_goes_on is o m) = Matches.run_goes_on is (λ is_so. absurd (cc)) m
loosened f _ _ (Matches.of_class is k o has m) = Matches.of_class is k (λ is_so. absurd (cc)) has m

-- a name that doesn't begin with a dot
pub tightened : (is_first : Bool) (text name : List ℕ) → ((rest : List ℕ) → name ≡ 46 ∷ rest → ⊥) → Matches is_first text name → Matches true text name
tightened f _ _ other Matches.ends = Matches.ends
tightened f _ _ other (Matches.itself plain m) = Matches.itself plain m
tightened f _ _ other (Matches.escaped is m) = Matches.escaped is m
tightened f _ _ other (Matches.any_one {name = name} is o m) = Matches.any_one is (λ yes dot. other name (ap (λ x. x ∷ name) dot)) m
tightened f _ name other (Matches.run_ends {part = part} is m) = Matches.run_ends is (tightened f part name other m)
tightened f _ _ other (Matches.run_goes_on {name = name} is o m) = Matches.run_goes_on is (λ yes dot. other name (ap (λ x. x ∷ name) dot)) m
tightened f _ _ other (Matches.of_class {name = name} is k o has m) = Matches.of_class is k (λ yes dot. other name (ap (λ x. x ∷ name) dot)) has m

moved : (a b c d : List ℕ) → a ≡ b → c ≡ d → Matches false a c → Matches false b d
moved a b c d e e' m = subst (λ x. Matches false x d) e (subst (λ y. Matches false a y) e' m)

-- ---- classes are of one kind

cancelled : (xs ys zs : List ℕ) → xs ++ ys ≡ xs ++ zs → ys ≡ zs
cancelled [] ys zs e = e
cancelled (x ∷ xs) ys zs e = cancelled xs ys zs (tail_is refl e)

record SameClass (t t' : Bool) (signs signs' rest rest' : List ℕ) : Type 0 where
  turned : t ≡ t'
  signs_are : signs ≡ signs'
  rests : rest ≡ rest'

same_ending : (more more' rest rest' : List ℕ) → list_any is_close more ≡ false → list_any is_close more' ≡ false → more ++ 93 ∷ rest ≡ more' ++ 93 ∷ rest' → (more ≡ more') × (rest ≡ rest')
same_ending more more' rest rest' o o' e =
    let same : more ≡ more' = sym (before_first_close more rest o) ∙ ap before_close e ∙ before_first_close more' rest' o' in
    (same, tail_is refl (cancelled more (93 ∷ rest) (93 ∷ rest') (e ∙ ap (λ m. m ++ 93 ∷ rest') (sym same))))

both : (a a' : ℕ) (more more' : List ℕ) → a ≡ a' → more ≡ more' → a ∷ more ≡ a' ∷ more'
both a a' more more' e e' = ap (λ x. x ∷ more) e ∙ ap (λ m. a' ∷ m) e'

same_class : (part : List ℕ) (t t' : Bool) (signs signs' rest rest' : List ℕ) → IsClass part t signs rest → IsClass part t' signs' rest' → SameClass t t' signs signs' rest rest'
same_class part _ _ _ _ _ _ (IsClass.straight a more rest n o e) (IsClass.straight a' more' rest' n' o' e') =
    let h = same_ending more more' rest rest' o o' (tail_is e e') in
    record { turned = refl; signs_are = both a a' more more' (head_is e e') h.0; rests = h.1 }
same_class part _ _ _ _ _ _ (IsClass.turned a more rest o e) (IsClass.turned a' more' rest' o' e') =
    let h = same_ending more more' rest rest' o o' (tail_is refl (tail_is e e')) in
    record { turned = refl; signs_are = both a a' more more' (head_is refl (tail_is e e')) h.0; rests = h.1 }
same_class part _ _ _ _ _ _ (IsClass.straight a more rest n o e) (IsClass.turned a' more' rest' o' e') = absurd (n (head_is e e'))
same_class part _ _ _ _ _ _ (IsClass.turned a more rest o e) (IsClass.straight a' more' rest' n' o' e') = absurd (n' (head_is e' e))

-- ---- one sign

-- a first dot goes with itself alone
abbrev pub MayGo : Sign → Bool → ℕ → Type 0
MayGo (sign.Itself d) f c = Unit {0}
MayGo _ f c = IsOpen f c

-- The sign goes with the character, and the rest of the pattern with that of the name.
pub record OneStep (s : Sign) (is_first : Bool) (c : ℕ) (rest name : List ℕ) : Type 0 where
  pub has : sign_has s c ≡ true
  pub may : MayGo s is_first c
  pub goes : Matches false rest name

class_sign : (t t' x : Bool) → t ≡ t' → x ≡ not t → cond t' (not x) x ≡ true
class_sign true true x e h = ap not h
class_sign false false x e h = h
class_sign true false x e h = absurd (cc)
class_sign false true x e h = absurd (cc)

sign_class : (t x : Bool) → cond t (not x) x ≡ true → x ≡ not t
sign_class true true h = absurd (cc)
sign_class true false h = refl
sign_class false true h = refl
sign_class false false h = absurd (cc)

by_one : (f : Bool) (text rest name : List ℕ) (c : ℕ) → text ≡ 63 ∷ rest → Went f text (c ∷ name) → OneStep sign.One f c rest name
by_one f text rest name c e (Went.ended te ne) = absurd (not_empty te e)
by_one f text rest name c e (Went.itself d part r te ne plain m) = absurd (plain.no_one (head_is te e))
by_one f text rest name c e (Went.escaped d part r te ne m) = absurd (differ 92 63 refl (head_is te e))
by_one f text rest name c e (Went.any_one d part r te ne o m) = record { has = refl; may = subst (IsOpen f) (head_is ne refl) o; goes = moved part rest r name (tail_is te e) (tail_is ne refl) m }
by_one f text rest name c e (Went.run_ends part te m) = absurd (differ 42 63 refl (head_is te e))
by_one f text rest name c e (Went.run_goes_on d part r te ne o m) = absurd (differ 42 63 refl (head_is te e))
by_one f text rest name c e (Went.of_class d part r signs behind t te ne k o has m) = absurd (differ 91 63 refl (head_is te e))

by_itself : (f : Bool) (text rest name : List ℕ) (c d : ℕ) → text ≡ d ∷ rest → IsPlain d rest → Went f text (c ∷ name) → OneStep (sign.Itself d) f c rest name
by_itself f text rest name c d e plain (Went.ended te ne) = absurd (not_empty te e)
by_itself f text rest name c d e plain (Went.itself x part r te ne p m) = record { has = eq-eqb d c (head_is e te ∙ head_is ne refl); may = tt; goes = moved part rest r name (tail_is te e) (tail_is ne refl) m }
by_itself f text rest name c d e plain (Went.escaped x part r te ne m) = absurd (not_empty (plain.no_escape (head_is e te)) (tail_is e te))
by_itself f text rest name c d e plain (Went.any_one x part r te ne o m) = absurd (plain.no_one (head_is e te))
by_itself f text rest name c d e plain (Went.run_ends part te m) = absurd (plain.no_run (head_is e te))
by_itself f text rest name c d e plain (Went.run_goes_on x part r te ne o m) = absurd (plain.no_run (head_is e te))
by_itself f text rest name c d e plain (Went.of_class x part r signs behind t te ne k o has m) = absurd (plain.no_class (head_is e te) t signs behind (subst (λ p. IsClass p t signs behind) (tail_is te e) k))

by_escaped : (f : Bool) (text rest name : List ℕ) (c d : ℕ) → text ≡ 92 ∷ d ∷ rest → Went f text (c ∷ name) → OneStep (sign.Itself d) f c rest name
by_escaped f text rest name c d e (Went.ended te ne) = absurd (not_empty te e)
by_escaped f text rest name c d e (Went.itself x part r te ne p m) = absurd (not_empty (p.no_escape (head_is te e)) (tail_is te e))
by_escaped f text rest name c d e (Went.escaped x part r te ne m) = record { has = eq-eqb d c (head_is refl (tail_is e te) ∙ head_is ne refl); may = tt; goes = moved part rest r name (tail_is refl (tail_is te e)) (tail_is ne refl) m }
by_escaped f text rest name c d e (Went.any_one x part r te ne o m) = absurd (differ 63 92 refl (head_is te e))
by_escaped f text rest name c d e (Went.run_ends part te m) = absurd (differ 42 92 refl (head_is te e))
by_escaped f text rest name c d e (Went.run_goes_on x part r te ne o m) = absurd (differ 42 92 refl (head_is te e))
by_escaped f text rest name c d e (Went.of_class x part r signs behind t te ne k o has m) = absurd (differ 91 92 refl (head_is te e))

by_class : (f : Bool) (text part rest name : List ℕ) (c : ℕ) (k : Class) → text ≡ 91 ∷ part → IsClass part k.turned (signs_of (chars k.signs.now)) rest → Went f text (c ∷ name) → OneStep (sign.Class k) f c rest name
by_class f text part rest name c k e is (Went.ended te ne) = absurd (not_empty te e)
by_class f text part rest name c k e is (Went.itself x p r te ne plain m) = absurd (plain.no_class (head_is te e) k.turned (signs_of (chars k.signs.now)) rest (subst (λ p. IsClass p k.turned (signs_of (chars k.signs.now)) rest) (tail_is e te) is))
by_class f text part rest name c k e is (Went.escaped x p r te ne m) = absurd (differ 92 91 refl (head_is te e))
by_class f text part rest name c k e is (Went.any_one x p r te ne o m) = absurd (differ 63 91 refl (head_is te e))
by_class f text part rest name c k e is (Went.run_ends p te m) = absurd (differ 42 91 refl (head_is te e))
by_class f text part rest name c k e is (Went.run_goes_on x p r te ne o m) = absurd (differ 42 91 refl (head_is te e))
by_class f text part rest name c k e is (Went.of_class x p r signs behind t te ne isk o has m) =
    let same = same_class part t k.turned signs (signs_of (chars k.signs.now)) behind rest (subst (λ p. IsClass p t signs behind) (tail_is te e) isk) is in
    let char : x ≡ c = head_is ne refl in
    record {
      has = class_sign t k.turned (class_has (signs_of (chars k.signs.now)) c) same.turned (ap (λ s. class_has s c) (sym same.signs_are) ∙ ap (class_has signs) (sym char) ∙ has);
      may = subst (IsOpen f) char o;
      goes = moved behind rest r name same.rests (tail_is ne refl) m;
    }

-- what a match with a first character says of a first sign
pub single_from : (f : Bool) (text : List ℕ) (s : Sign) (rest : List ℕ) (c : ℕ) (name : List ℕ) → BeginsWithSign text s rest → IsSingle s → Matches f text (c ∷ name) → OneStep s f c rest name
single_from f text _ _ c name (BeginsWithSign.run rest e) single m = absurd single
single_from f text _ _ c name (BeginsWithSign.one rest e) single m = by_one f text rest name c e (went f text (c ∷ name) m)
single_from f text _ _ c name (BeginsWithSign.itself d rest e plain) single m = by_itself f text rest name c d e plain (went f text (c ∷ name) m)
single_from f text _ _ c name (BeginsWithSign.escaped d rest e) single m = by_escaped f text rest name c d e (went f text (c ∷ name) m)
single_from f text _ _ c name (BeginsWithSign.of_class k part rest e is) single m = by_class f text part rest name c k e is (went f text (c ∷ name) m)

pub same_of : (d c : ℕ) → (d == c) ≡ true → d ≡ c
same_of d c test = grind (arith, nat_tests)

to_text : (f : Bool) (a b name : List ℕ) → b ≡ a → Matches f a name → Matches f b name
to_text f a b name e m = subst (λ x. Matches f x name) (sym e) m

pub single_to : (f : Bool) (text : List ℕ) (s : Sign) (rest : List ℕ) (c : ℕ) (name : List ℕ) → BeginsWithSign text s rest → IsSingle s → OneStep s f c rest name → Matches f text (c ∷ name)
single_to f text _ _ c name (BeginsWithSign.run rest e) single o = absurd single
single_to f text _ _ c name (BeginsWithSign.one rest e) single o = to_text f (63 ∷ rest) text (c ∷ name) e (Matches.any_one refl o.may o.goes)
single_to f text _ _ c name (BeginsWithSign.itself d rest e plain) single o = to_text f (c ∷ rest) text (c ∷ name) (e ∙ ap (λ x. x ∷ rest) (same_of d c o.has)) (Matches.itself (subst (λ x. IsPlain x rest) (same_of d c o.has) plain) o.goes)
single_to f text _ _ c name (BeginsWithSign.escaped d rest e) single o = to_text f (92 ∷ c ∷ rest) text (c ∷ name) (e ∙ ap (λ x. 92 ∷ x ∷ rest) (same_of d c o.has)) (Matches.escaped refl o.goes)
single_to f text _ _ c name (BeginsWithSign.of_class k part rest e is) single o =
    to_text f (91 ∷ part) text (c ∷ name) e (Matches.of_class refl is o.may (sign_class k.turned (class_has (signs_of (chars k.signs.now)) c) o.has) o.goes)

-- a first sign that goes with one character matches no empty name
begins_some : (text : List ℕ) (s : Sign) (rest : List ℕ) → BeginsWithSign text s rest → text ≡ [] → ⊥
begins_some text _ _ (BeginsWithSign.run rest e) none = not_empty none e
begins_some text _ _ (BeginsWithSign.one rest e) none = not_empty none e
begins_some text _ _ (BeginsWithSign.itself d rest e plain) none = not_empty none e
begins_some text _ _ (BeginsWithSign.escaped d rest e) none = not_empty none e
begins_some text _ _ (BeginsWithSign.of_class k part rest e is) none = not_empty none e

single_no_run : (text part : List ℕ) (s : Sign) (rest : List ℕ) → BeginsWithSign text s rest → IsSingle s → text ≡ 42 ∷ part → ⊥
single_no_run text part _ _ (BeginsWithSign.run rest e) single te = single
single_no_run text part _ _ (BeginsWithSign.one rest e) single te = differ 42 63 refl (head_is te e)
single_no_run text part _ _ (BeginsWithSign.itself d rest e plain) single te = plain.no_run (head_is e te)
single_no_run text part _ _ (BeginsWithSign.escaped d rest e) single te = differ 42 92 refl (head_is te e)
single_no_run text part _ _ (BeginsWithSign.of_class k part' rest e is) single te = differ 42 91 refl (head_is te e)

pub single_some : (f : Bool) (text : List ℕ) (s : Sign) (rest : List ℕ) → BeginsWithSign text s rest → IsSingle s → Matches f text [] → ⊥
single_some f text s rest b single m = by (went f text [] m)
  where
    by : Went f text [] → ⊥
    by (Went.ended te ne) = begins_some text s rest b te
    by (Went.itself c part r te ne plain m) = not_empty refl ne
    by (Went.escaped c part r te ne m) = not_empty refl ne
    by (Went.any_one c part r te ne o m) = not_empty refl ne
    by (Went.run_ends part te m) = single_no_run text part s rest b single te
    by (Went.run_goes_on c part r te ne o m) = not_empty refl ne
    by (Went.of_class c part r signs behind t te ne k o has m) = not_empty refl ne

pub empty_to : (text name : List ℕ) → text ≡ [] → name ≡ [] → Matches false text name
empty_to text name e e' = subst (λ x. Matches false x name) (sym e) (subst (Matches false []) (sym e') Matches.ends)

-- ---- a `*`

-- A match whose pattern begins with a `*`.
pub data RunWent (is_first : Bool) (part name : List ℕ) : Type 0 where
  ends : Matches is_first part name → RunWent is_first part name
  goes_on : (c : ℕ) (rest : List ℕ) → name ≡ c ∷ rest → IsOpen is_first c → Matches false (42 ∷ part) rest → RunWent is_first part name

pub run_went : (f : Bool) (text part name : List ℕ) → text ≡ 42 ∷ part → Matches f text name → RunWent f part name
run_went f text part name e m = by (went f text name m)
  where
    by : Went f text name → RunWent f part name
    by (Went.ended te ne) = absurd (not_empty te e)
    by (Went.itself d part' r te ne plain m) = absurd (plain.no_run (head_is te e))
    by (Went.escaped d part' r te ne m) = absurd (differ 92 42 refl (head_is te e))
    by (Went.any_one d part' r te ne o m) = absurd (differ 63 42 refl (head_is te e))
    by (Went.run_ends part' te m) = RunWent.ends (subst (λ p. Matches f p name) (tail_is te e) m)
    by (Went.run_goes_on d part' r te ne o m) = RunWent.goes_on d r ne o (subst (λ p. Matches false (42 ∷ p) r) (tail_is te e) m)
    by (Went.of_class d part' r signs behind t te ne k o has m) = absurd (differ 91 42 refl (head_is te e))
