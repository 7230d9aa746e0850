-- Entries with others between, cut in two.
use Rattle.std.proofs.Common.{◌≡◌, ◌≢◌, Bool, true, false, cond, refl, sym, ◌∙◌, ap, subst, List, [], ◌∷◌, ◌++◌, append-nil}
use Rattle.std.specs.Prelude.{filter}
use Rattle.lr_host.specs.declared.entry.Entry.{Entry}
use Rattle.lr_host.specs.Told.{Each}
use Rattle.lr_laws_family.specs.Weave.{Weave, none, own, other}
use Rattle.lr_rules.proofs.Heads.{heads, tails}
use Rattle.lr_host.proofs.Each.{each_last}
use Rattle.lr_laws_family.proofs.Splitting.{weave_each}

-- ---- an entry that stands once

-- the entry is another than this
abbrev pub IsOther : Entry → Entry → Type 0
IsOther r e = e ≢ r

-- what stands before it and behind it is one
pub stands_once : (r : Entry) (xs ys xs' ys' : List Entry) → Each (IsOther r) xs → Each (IsOther r) ys → xs ++ (r ∷ ys) ≡ xs' ++ (r ∷ ys') → (xs ≡ xs') × (ys ≡ ys')
stands_once r [] ys [] ys' a b e = (refl, tails r r ys ys' e)
stands_once r [] ys (x ∷ xs') ys' a b e = absurd ((each_last (IsOther r) xs' (r ∷ ys') (subst (Each (IsOther r)) (tails r x ys (xs' ++ (r ∷ ys')) e) b)).0 refl)
stands_once r (x ∷ xs) ys [] ys' a b e = absurd (a.0 (heads x r (xs ++ (r ∷ ys)) ys' e))
stands_once r (x ∷ xs) ys (y ∷ xs') ys' a b e =
    let k = stands_once r xs ys xs' ys' a.1 b (tails x y (xs ++ (r ∷ ys)) (xs' ++ (r ∷ ys')) e) in
    (ap (λ z. z ∷ xs) (heads x y (xs ++ (r ∷ ys)) (xs' ++ (r ∷ ys')) e) ∙ ap (λ zs. y ∷ zs) k.0, k.1)

-- where it doesn't stand, all are others
pub all_other : (r : Entry) (xs : List Entry) → ((fs bs : List Entry) → xs ≡ fs ++ (r ∷ bs) → ⊥) → Each (IsOther r) xs
all_other r [] f = tt
all_other r (x ∷ xs) f = (λ same. f [] xs (ap (λ y. y ∷ xs) same), all_other r xs (λ fs bs e. f (x ∷ fs) bs (ap (λ ys. x ∷ ys) e)))

-- ---- some of them

-- an entry that passes stands among those that pass
pub other_unfiltered : (r : Entry) (f : Entry → Bool) (xs : List Entry) → f r ≡ true → Each (IsOther r) (filter f xs) → Each (IsOther r) xs
other_unfiltered r f [] passes a = tt
other_unfiltered r f (x ∷ xs) passes a = go (λ a. other_unfiltered r f xs passes a) (f x) refl a
  where
    clash : f x ≡ false → x ≡ r → ⊥
    clash fails same = let yes : f x ≡ true = ap f same ∙ passes in let both : true ≡ false = sym yes ∙ fails in cc

    go : (Each (IsOther r) (filter f xs) → Each (IsOther r) xs) → (b : Bool) → f x ≡ b → Each (IsOther r) (cond b (x ∷ filter f xs) (filter f xs)) → Each (IsOther r) (x ∷ xs)
    go further true h a = (a.0, further a.1)
    go further false h a = (clash h, further a)

-- ---- a weave

pub record Halves (P : Entry → Type 0) (steps fs bs : List Entry) : Type 0 where
  pub first : List Entry
  pub second : List Entry
  pub steps_are : steps ≡ first ++ second
  pub front : Weave P first fs
  pub back : Weave P second bs

pub weave_split : (P : Entry → Type 0) (steps all fs bs : List Entry) → all ≡ fs ++ bs → Weave P steps all → Halves P steps fs bs
weave_split P steps all [] bs is w = record { first = []; second = steps; steps_are = refl; front = none; back = subst (Weave P steps) is w }
weave_split P _ _ (a ∷ fs) bs is none = absurd (cc)
weave_split P _ _ (a ∷ fs) bs is (own {steps = os} {all = es} e w) = let h = weave_split P os es fs bs (tails e a es (fs ++ bs) is) w in record {
  first = e ∷ h.first;
  second = h.second;
  steps_are = ap (λ us. e ∷ us) h.steps_are;
  front = subst (λ (x : Entry). Weave P (e ∷ h.first) (x ∷ fs)) (heads e a es (fs ++ bs) is) (own e h.front);
  back = h.back;
}
weave_split P steps _ (a ∷ fs) bs is (other {all = es} e p w) = let h = weave_split P steps es fs bs (tails e a es (fs ++ bs) is) w in record {
  first = h.first;
  second = h.second;
  steps_are = h.steps_are;
  front = subst (λ (x : Entry). Weave P h.first (x ∷ fs)) (heads e a es (fs ++ bs) is) (other e p h.front);
  back = h.back;
}

-- the first is one of the steps, where it is none of the others
record Head (P : Entry → Type 0) (r : Entry) (steps bs : List Entry) : Type 0 where
  rest : List Entry
  steps_are : steps ≡ r ∷ rest
  woven : Weave P rest bs

head_own : (P : Entry → Type 0) (r : Entry) (steps bs : List Entry) → (P r → ⊥) → Weave P steps (r ∷ bs) → Head P r steps bs
head_own P r _ bs never (own {steps = os} e w) = record { rest = os; steps_are = refl; woven = w }
head_own P r steps bs never (other e p w) = absurd (never p)

-- cut at a step that stands once and is none of the others
pub weave_at : (P : Entry → Type 0) (r : Entry) (old new fs bs : List Entry) → (P r → ⊥) → Each (IsOther r) old → Each (IsOther r) new → Weave P (old ++ (r ∷ new)) (fs ++ (r ∷ bs)) → Weave P old fs × Weave P new bs
weave_at P r old new fs bs never a b w =
    let h = weave_split P (old ++ (r ∷ new)) (fs ++ (r ∷ bs)) fs (r ∷ bs) refl w in
    let k = head_own P r h.second bs never h.back in
    let same = stands_once r old new h.first k.rest a b (h.steps_are ∙ ap (λ us. h.first ++ us) k.steps_are) in
    (subst (λ us. Weave P us fs) (sym same.0) h.front, subst (λ us. Weave P us bs) (sym same.1) k.woven)

-- no steps, where none of the entries is like a step
pub weave_none : (P M : Entry → Type 0) (os es : List Entry) → Weave P os es → Each M os → Each (λ e. M e → ⊥) es → os ≡ []
weave_none P M _ _ none a b = refl
weave_none P M _ _ (own {steps = os} {all = es} e w) a b = absurd (b.0 a.0)
weave_none P M os _ (other {all = es} e p w) a b = weave_none P M os es w a b.1

-- all steps are among the first entries, or among the last
pub weave_front : (P M : Entry → Type 0) (os fs bs : List Entry) → Weave P os (fs ++ bs) → Each M os → Each (λ e. M e → ⊥) bs → Weave P os fs
weave_front P M os fs bs w a b =
    let h = weave_split P os (fs ++ bs) fs bs refl w in
    let empty : h.second ≡ [] = weave_none P M h.second bs h.back (each_last M h.first h.second (subst (Each M) h.steps_are a)) b in
    subst (λ us. Weave P us fs) (sym (h.steps_are ∙ (ap (λ us. h.first ++ us) empty ∙ append-nil h.first))) h.front

pub weave_behind : (P M : Entry → Type 0) (os fs bs : List Entry) → Weave P os (fs ++ bs) → Each M os → Each (λ e. M e → ⊥) fs → Weave P os bs
weave_behind P M os fs bs w a b =
    let h = weave_split P os (fs ++ bs) fs bs refl w in
    let empty : h.first ≡ [] = weave_none P M h.first fs h.front (first_each h.first h.second (subst (Each M) h.steps_are a)) b in
    subst (λ us. Weave P us bs) (sym (h.steps_are ∙ ap (λ us. us ++ h.second) empty)) h.back
  where
    first_each : (xs ys : List Entry) → Each M (xs ++ ys) → Each M xs
    first_each [] ys a = tt
    first_each (x ∷ xs) ys a = (a.0, first_each xs ys a.1)

-- what holds of all entries narrows what the others may be
pub weave_less : (P Q N : Entry → Type 0) (os es : List Entry) → ((e : Entry) → P e → N e → Q e) → Weave P os es → Each N es → Weave Q os es
weave_less P Q N _ _ f none a = none
weave_less P Q N _ _ f (own {steps = os} {all = es} e w) a = own e (weave_less P Q N os es f w a.1)
weave_less P Q N os _ f (other {all = es} e p w) a = other e (f e p a.0) (weave_less P Q N os es f w a.1)

-- steps at the end that are like the others may count as others
pub weave_drop : (P : Entry → Type 0) (steps all xs ys : List Entry) → steps ≡ xs ++ ys → Weave P steps all → Each P ys → Weave P xs all
weave_drop P _ _ [] ys is none a = none
weave_drop P _ _ (x ∷ xs) ys is none a = absurd (cc)
weave_drop P _ _ [] ys is (own {steps = os} {all = es} e w) a = let b : Each P (e ∷ os) = subst (Each P) (sym is) a in other e b.0 (weave_drop P os es [] os refl w b.1)
weave_drop P _ _ (x ∷ xs) ys is (own {steps = os} {all = es} e w) a =
    subst (λ (y : Entry). Weave P (y ∷ xs) (e ∷ es)) (heads e x os (xs ++ ys) is) (own e (weave_drop P os es xs ys (tails e x os (xs ++ ys) is) w a))
weave_drop P steps _ xs ys is (other {all = es} e p w) a = other e p (weave_drop P steps es xs ys is w a)

-- where there are no steps, all are others
pub weave_nothing : (P : Entry → Type 0) (es : List Entry) → Weave P [] es → Each P es
weave_nothing P es w = weave_each P P [] es w tt (λ e h. h)
