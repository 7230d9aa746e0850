-- Numbers in front of a text: the reader's steps and the grammar agree.
use Rattle.std.proofs.Common.{◌≡◌, ◌∙◌, ap, sym, subst, refl, ℕ, ◌+◌, ◌-◌, ◌*◌, ◌≤◌, Bool, true, false, not, ◌&&◌, cond, List, [], ◌∷◌, ◌++◌, length, Option, Some, None, append_assoc, length-append, zero-add, arith}
use Rattle.std.specs.List.{list_all}
use Rattle.std.proofs.lemmas.Bool.{and_parts, and_from, not-true, cond-true, cond-false}
use Rattle.std.proofs.lemmas.List.Folds.{list_all-append}
use Rattle.lr_rules.specs.Bytes.{is_digit}
use Rattle.lr_state.specs.Grammar.{value_from, IsNumber}
use Rattle.lr_state.specs.Reading.{Number, more_of, more, digit_in, two_of, two_in, four_of, four_in}

-- the text is empty, or begins with no digit
abbrev pub no_digit : List ℕ → Bool
no_digit [] = true
no_digit (b ∷ bs) = not (is_digit b)

record IsMore (n : ℕ) (bs : List ℕ) (x : Number) : Type 0 where
  pub ds : List ℕ
  pub few : length ds ≤ 1
  pub each : list_all is_digit ds ≡ true
  pub bs_is : bs ≡ ds ++ x.1
  pub value : x.0 ≡ value_from n ds

more_by : (n b : ℕ) (bs : List ℕ) (c : Bool) → is_digit b ≡ c → IsMore n (b ∷ bs) (cond c (n * 10 + (b - 48), bs) (n, b ∷ bs))
more_by n b bs true is = record { ds = b ∷ []; few = omega arith; each = and_from _ _ is refl; bs_is = refl; value = refl }
more_by n b bs false is = record { ds = []; few = omega arith; each = refl; bs_is = refl; value = refl }

more_of-sound : (n : ℕ) (bs : List ℕ) → IsMore n bs (more_of n bs)
unfolding more_of
more_of-sound n [] = record { ds = []; few = omega arith; each = refl; bs_is = refl; value = refl }
more_of-sound n (b ∷ bs) = more_by n b bs (is_digit b) refl

more-sound : (x : Number) → IsMore x.0 x.1 (more x)
more-sound x = more_of-sound x.0 x.1

digit-sound : (bs : List ℕ) (x : Number) → digit_in bs ≡ Some x → (d : ℕ) × (is_digit d ≡ true) × (bs ≡ d ∷ x.1) × (x.0 ≡ d - 48)
unfolding digit_in
digit-sound [] x e = absurd (cc e)
digit-sound (b ∷ bs) x e = by (is_digit b) refl e
  where
    by : (c : Bool) → is_digit b ≡ c → cond c (Some (b - 48, bs)) None ≡ Some x → (d : ℕ) × (is_digit d ≡ true) × (b ∷ bs ≡ d ∷ x.1) × (x.0 ≡ d - 48)
    by true is same =
        let x_is : (b - 48, bs) ≡ x = cc same in
        (b, is, ap (λ (z : Number). b ∷ z.1) x_is, sym (ap (λ (z : Number). z.0) x_is))
    by false is same = absurd (cc same)

two-some : (o : Option Number) (x : Number) → two_of o ≡ Some x → (y : Number) × (o ≡ Some y) × (more y ≡ x)
two-some None x e = absurd (cc e)
two-some (Some y) x e = (y, refl, cc e)

four-some : (o : Option Number) (x : Number) → four_of o ≡ Some x → (y : Number) × (o ≡ Some y) × (more (more (more y)) ≡ x)
four-some None x e = absurd (cc e)
four-some (Some y) x e = (y, refl, cc e)

pub value_from-append : (n : ℕ) (xs ys : List ℕ) → value_from n (xs ++ ys) ≡ value_from (value_from n xs) ys
value_from-append n [] ys = refl
value_from-append n (x ∷ xs) ys = value_from-append (n * 10 + (x - 48)) xs ys

-- a number in front of a text, and the rest
abbrev pub IsNumberIn : ℕ → List ℕ → Number → Type 0
IsNumberIn most bs x = (ds : List ℕ) × IsNumber most ds x.0 × (bs ≡ ds ++ x.1)

pub two-sound : (bs : List ℕ) (x : Number) → two_in bs ≡ Some x → IsNumberIn 2 bs x
two-sound bs x e =
    let y = two-some (digit_in bs) x e in
    let d = digit-sound bs y.0 y.1 in
    let m = more-sound y.0 in
    let few = m.few in
    let number : IsNumberIn 2 bs (more y.0) = (
      d.0 ∷ m.ds,
      record {
        some = omega arith;
        few = omega arith;
        each = and_from _ _ d.1 m.each;
        value = m.value ∙ ap (λ v. value_from v m.ds) (d.3 ∙ sym (zero-add (d.0 - 48)));
      },
      d.2 ∙ ap (λ t. d.0 ∷ t) m.bs_is,
    ) in
    subst (λ (z : Number). IsNumberIn 2 bs z) y.2 number

pub four-sound : (bs : List ℕ) (x : Number) → four_in bs ≡ Some x → IsNumberIn 4 bs x
four-sound bs x e =
    let y = four-some (digit_in bs) x e in
    let d = digit-sound bs y.0 y.1 in
    let a = more-sound y.0 in
    let b = more-sound (more y.0) in
    let c = more-sound (more (more y.0)) in
    let tail = b.ds ++ c.ds in
    let few_a = a.few in
    let few_b = b.few in
    let few_c = c.few in
    let len = length-append a.ds (b.ds ++ c.ds) in
    let len_tail = length-append b.ds c.ds in
    let number : IsNumberIn 4 bs (more (more (more y.0))) = (
      d.0 ∷ (a.ds ++ (b.ds ++ c.ds)),
      record {
        some = omega arith;
        few = omega (arith, len, len_tail);
        each = and_from _ _ d.1 (list_all-append is_digit a.ds (b.ds ++ c.ds) ∙ and_from _ _ a.each (list_all-append is_digit b.ds c.ds ∙ and_from _ _ b.each c.each));
        value = c.value ∙ ap (λ v. value_from v c.ds) b.value ∙ sym (value_from-append _ b.ds c.ds) ∙ ap (λ v. value_from v (b.ds ++ c.ds)) a.value
            ∙ sym (value_from-append _ a.ds (b.ds ++ c.ds)) ∙ ap (λ v. value_from v (a.ds ++ (b.ds ++ c.ds))) (d.3 ∙ sym (zero-add (d.0 - 48)));
      },
      d.2 ∙ ap (λ t. d.0 ∷ t) (a.bs_is ∙ ap (λ t. a.ds ++ t) (b.bs_is ∙ ap (λ t. b.ds ++ t) c.bs_is ∙ sym (append_assoc b.ds c.ds _)) ∙ sym (append_assoc a.ds (b.ds ++ c.ds) _)),
    ) in
    subst (λ (z : Number). IsNumberIn 4 bs z) y.2 number

more-none : (n : ℕ) (r : List ℕ) → no_digit r ≡ true → more (n, r) ≡ (n, r)
unfolding more_of
more-none n [] no_more = refl
more-none n (b ∷ bs) no_more = cond-false _ _ _ (not-true _ no_more)

more-one : (n d : ℕ) (r : List ℕ) → is_digit d ≡ true → more (n, d ∷ r) ≡ (n * 10 + (d - 48), r)
unfolding more_of
more-one n d r is = cond-true _ _ _ is

digit-one : (d : ℕ) (r : List ℕ) → is_digit d ≡ true → digit_in (d ∷ r) ≡ Some (0 * 10 + (d - 48), r)
unfolding digit_in
digit-one d r is = cond-true _ _ _ is ∙ ap (λ v. Some (v, r)) (sym (zero-add (d - 48)))

pub two-complete : (ds : List ℕ) (n : ℕ) (r : List ℕ) → IsNumber 2 ds n → no_digit r ≡ true → two_in (ds ++ r) ≡ Some (n, r)
two-complete [] n r h last = let some = h.some in absurd (omega arith)
two-complete (d ∷ []) n r h last =
    let p = and_parts (is_digit d) true h.each in
    ap two_of (digit-one d r p.0) ∙ ap (λ (x : Number). Some x) (more-none _ r last) ∙ ap (λ v. Some (v, r)) (sym h.value)
two-complete (d ∷ e ∷ []) n r h last =
    let p = and_parts (is_digit d) (is_digit e && true) h.each in
    let q = and_parts (is_digit e) true p.1 in
    ap two_of (digit-one d (e ∷ r) p.0) ∙ ap (λ (x : Number). Some x) (more-one _ e r q.0) ∙ ap (λ v. Some (v, r)) (sym h.value)
two-complete (d ∷ e ∷ f ∷ ds) n r h last = let few = h.few in absurd (omega arith)

pub four-complete : (ds : List ℕ) (n : ℕ) (r : List ℕ) → IsNumber 4 ds n → no_digit r ≡ true → four_in (ds ++ r) ≡ Some (n, r)
four-complete [] n r h last = let some = h.some in absurd (omega arith)
four-complete (a ∷ []) n r h last =
    let p = and_parts (is_digit a) true h.each in
    let same = more-none (0 * 10 + (a - 48)) r last in
    ap four_of (digit-one a r p.0) ∙ ap (λ (x : Number). Some (more (more x))) same ∙ ap (λ (x : Number). Some (more x)) same ∙ ap (λ (x : Number). Some x) same ∙ ap (λ v. Some (v, r)) (sym h.value)
four-complete (a ∷ b ∷ []) n r h last =
    let p = and_parts (is_digit a) (is_digit b && true) h.each in
    let q = and_parts (is_digit b) true p.1 in
    let same = more-none ((0 * 10 + (a - 48)) * 10 + (b - 48)) r last in
    ap four_of (digit-one a (b ∷ r) p.0) ∙ ap (λ (x : Number). Some (more (more x))) (more-one _ b r q.0)
    ∙ ap (λ (x : Number). Some (more x)) same ∙ ap (λ (x : Number). Some x) same ∙ ap (λ v. Some (v, r)) (sym h.value)
four-complete (a ∷ b ∷ c ∷ []) n r h last =
    let p = and_parts (is_digit a) (is_digit b && (is_digit c && true)) h.each in
    let q = and_parts (is_digit b) (is_digit c && true) p.1 in
    let s = and_parts (is_digit c) true q.1 in
    let same = more-none (((0 * 10 + (a - 48)) * 10 + (b - 48)) * 10 + (c - 48)) r last in
    ap four_of (digit-one a (b ∷ c ∷ r) p.0) ∙ ap (λ (x : Number). Some (more (more x))) (more-one _ b (c ∷ r) q.0)
    ∙ ap (λ (x : Number). Some (more x)) (more-one _ c r s.0) ∙ ap (λ (x : Number). Some x) same ∙ ap (λ v. Some (v, r)) (sym h.value)
four-complete (a ∷ b ∷ c ∷ d ∷ []) n r h last =
    let p = and_parts (is_digit a) (is_digit b && (is_digit c && (is_digit d && true))) h.each in
    let q = and_parts (is_digit b) (is_digit c && (is_digit d && true)) p.1 in
    let s = and_parts (is_digit c) (is_digit d && true) q.1 in
    let t = and_parts (is_digit d) true s.1 in
    ap four_of (digit-one a (b ∷ c ∷ d ∷ r) p.0) ∙ ap (λ (x : Number). Some (more (more x))) (more-one _ b (c ∷ d ∷ r) q.0)
    ∙ ap (λ (x : Number). Some (more x)) (more-one _ c (d ∷ r) s.0) ∙ ap (λ (x : Number). Some x) (more-one _ d r t.0) ∙ ap (λ v. Some (v, r)) (sym h.value)
four-complete (a ∷ b ∷ c ∷ d ∷ e ∷ ds) n r h last = let few = h.few in absurd (omega arith)
