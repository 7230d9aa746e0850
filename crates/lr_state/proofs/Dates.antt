-- Moments behind names: the reader's steps and the grammar agree.
use Rattle.std.proofs.Common.{◌≡◌, ◌∙◌, ap, sym, subst, refl, ℕ, ◌<◌, Bool, true, false, not, ◌||◌, ◌==◌, cond, List, [], ◌∷◌, ◌++◌, length, Option, Some, None, append_assoc, arith, inl, inr}
use Rattle.std.specs.List.{list_all}
use Rattle.std.proofs.lemmas.Bool.{and_parts, and_from, eqb-true, cond-true, leb-true}
use Rattle.lr_rules.specs.declared.civil.Civil.{Civil}
use Rattle.lr_rules.specs.Bytes.{is_blank, is_digit, is_no_blank}
use Rattle.lr_state.specs.Grammar.{IsNumber, IsClockTime, IsTime, HasDate}
use Rattle.lr_state.specs.Reading.{Clock, Parts, HasParts, before, from_first, past_gap, behind, two_in, four_in, clock_in, time_in, parts_in, ◌>>=◌}
use Rattle.lr_state.proofs.Names.{starts, cut-complete, cut-sound}
use Rattle.lr_state.proofs.Numbers.{no_digit, two-sound, two-complete, four-sound, four-complete}

bind-some : {A B : Type 0} (o : Option A) (f : A → Option B) (y : B) → (o >>= f) ≡ Some y → (x : A) × (o ≡ Some x) × (f x ≡ Some y)
bind-some None f y e = absurd (cc e)
bind-some (Some x) f y e = (x, refl, e)

behind-sound : (byte : ℕ) (bs rest : List ℕ) → behind byte bs ≡ Some rest → bs ≡ byte ∷ rest
unfolding behind
behind-sound byte [] rest e = absurd (cc e)
behind-sound byte (b ∷ bs) rest e = by (b == byte) refl e
  where
    by : (c : Bool) → (b == byte) ≡ c → cond c (Some bs) None ≡ Some rest → b ∷ bs ≡ byte ∷ rest
    by true is same = let rest_is : bs ≡ rest = cc same in ap (λ n. n ∷ bs) (eqb-true b byte is) ∙ ap (λ t. byte ∷ t) rest_is
    by false is same = absurd (cc same)

-- blanks before the first other byte
blank-front : (xs : List ℕ) → list_all (λ b. not (is_no_blank b)) xs ≡ true → list_all is_blank xs ≡ true
blank-front [] e = refl
blank-front (x ∷ xs) e =
    let p = and_parts (not (is_no_blank x)) (list_all (λ b. not (is_no_blank b)) xs) e in
    and_from _ _ (twice (is_blank x) p.0) (blank-front xs p.1)
  where
    twice : (b : Bool) → not (not b) ≡ true → b ≡ true
    twice true h = refl
    twice false h = h

abbrev IsGap : List ℕ → List ℕ → Type 0
IsGap bs rest = (gap : List ℕ) × (0 < length gap) × (list_all is_blank gap ≡ true) × (bs ≡ gap ++ rest)

gap-sound : (bs rest : List ℕ) → past_gap bs ≡ Some rest → IsGap bs rest
unfolding past_gap
gap-sound [] rest e = absurd (cc e)
gap-sound (b ∷ bs) rest e = by (is_blank b) refl e
  where
    by : (c : Bool) → is_blank b ≡ c → cond c (Some (from_first is_no_blank bs)) None ≡ Some rest → IsGap (b ∷ bs) rest
    by true is same =
        let rest_is : from_first is_no_blank bs ≡ rest = cc same in
        let cut = cut-sound is_no_blank bs in
        (b ∷ before is_no_blank bs, omega arith, and_from _ _ is (blank-front (before is_no_blank bs) cut.clear), ap (λ t. b ∷ t) (sym cut.whole ∙ ap (λ t. before is_no_blank bs ++ t) rest_is))
    by false is same = absurd (cc same)

not_other : (b : ℕ) → is_blank b ≡ true → is_no_blank b ≡ false
not_other b is = ap not is

gap-complete : (gap rest : List ℕ) → 0 < length gap → list_all is_blank gap ≡ true → starts is_no_blank rest ≡ true → past_gap (gap ++ rest) ≡ Some rest
unfolding past_gap
gap-complete [] rest some all at = absurd (omega arith)
gap-complete (b ∷ gap) rest some all at =
    let p = and_parts (is_blank b) (list_all is_blank gap) all in
    cond-true _ _ _ p.0 ∙ ap (λ (t : List ℕ). Some t) (cut-complete is_no_blank is_blank not_other gap rest p.1 at).1

-- a digit is no blank
digit-other : (d : ℕ) → is_digit d ≡ true → is_no_blank d ≡ true
digit-other d is =
    let low = leb-true 48 d (and_parts _ _ is).0 in
    ap not (none (d == 32) (d == 9) (d == 13) (differs 32 (λ e. omega arith)) (differs 9 (λ e. omega arith)) (differs 13 (λ e. omega arith)))
  where
    none : (a b c : Bool) → a ≡ false → b ≡ false → c ≡ false → (a || (b || c)) ≡ false
    none true b c x y z = x
    none false true c x y z = y
    none false false c x y z = z

    differs : (n : ℕ) → (d ≡ n → ⊥) → (d == n) ≡ false
    differs n no_eq = by (d == n) refl
      where
        by : (c : Bool) → (d == n) ≡ c → c ≡ false
        by true e = absurd (no_eq (eqb-true d n e))
        by false e = refl

number-starts : (most n : ℕ) (ds rest : List ℕ) → IsNumber most ds n → starts is_no_blank (ds ++ rest) ≡ true
number-starts most n [] rest h = let some = h.some in absurd (omega arith)
number-starts most n (d ∷ ds) rest h = digit-other d (and_parts (is_digit d) (list_all is_digit ds) h.each).0

blank-no_digit : (bs : List ℕ) → list_all is_blank bs ≡ true → no_digit bs ≡ true
blank-no_digit [] e = refl
blank-no_digit (b ∷ bs) e = by (is_digit b) refl
  where
    by : (c : Bool) → is_digit b ≡ c → not c ≡ true
    by true is = let o : is_no_blank b ≡ true = digit-other b is in sym (not_other b (and_parts (is_blank b) (list_all is_blank bs) e).0) ∙ o
    by false is = refl

time-no_digit : (time rest : List ℕ) (h m s : ℕ) → IsTime time h m s → list_all is_blank rest ≡ true → no_digit (time ++ rest) ≡ true
time-no_digit time rest h m s (inl none) blank = ap (λ t. no_digit (t ++ rest)) none.0 ∙ blank-no_digit rest blank
time-no_digit time rest h m s (inr t) blank = ap (λ x. no_digit (x ++ rest)) t.text_is

clock-complete : (text rest : List ℕ) (h m s : ℕ) → IsClockTime text h m s → list_all is_blank rest ≡ true → time_in (text ++ rest) ≡ Some (h, m, s)
unfolding time_in clock_in behind
clock-complete text rest h m s t blank =
    let regroup : text ++ rest ≡ 45 ∷ (t.h ++ 58 ∷ (t.m ++ 58 ∷ (t.s ++ rest))) =
    ap (λ x. x ++ rest) t.text_is ∙ ap (λ x. 45 ∷ x) (append_assoc t.h (58 ∷ (t.m ++ 58 ∷ t.s)) rest ∙ ap (λ x. t.h ++ 58 ∷ x) (append_assoc t.m (58 ∷ t.s) rest)) in
    let hour : two_in (t.h ++ 58 ∷ (t.m ++ 58 ∷ (t.s ++ rest))) ≡ Some (h, 58 ∷ (t.m ++ 58 ∷ (t.s ++ rest))) = two-complete t.h h _ t.hour_is refl in
    let minute : two_in (t.m ++ 58 ∷ (t.s ++ rest)) ≡ Some (m, 58 ∷ (t.s ++ rest)) = two-complete t.m m _ t.minute_is refl in
    let second : two_in (t.s ++ rest) ≡ Some (s, rest) = two-complete t.s s rest t.second_is (blank-no_digit rest blank) in
    ap time_in regroup ∙ rw (hour, minute, second) (cond-true _ _ _ blank)

time-complete : (time rest : List ℕ) (h m s : ℕ) → IsTime time h m s → list_all is_blank rest ≡ true → time_in (time ++ rest) ≡ Some (h, m, s)
unfolding time_in
time-complete time rest h m s (inl none) blank =
    ap (λ t. time_in (t ++ rest)) none.0 ∙ cond-true _ _ _ blank
    ∙ ap (λ x. Some (x, 0, 0)) (sym none.1) ∙ ap (λ x. Some (h, x, 0)) (sym none.2) ∙ ap (λ x. Some (h, m, x)) (sym none.3)
time-complete time rest h m s (inr t) blank = clock-complete time rest h m s t blank

abbrev pub parts_of : Civil → ℕ → Parts
parts_of at year = (year, at.month, at.day, at.hour, at.minute, at.second)

-- what is a moment behind a name the reader takes for its parts
pub parts-complete : (rest : List ℕ) (at : Civil) (t : HasDate rest at) → parts_in rest ≡ Some (parts_of at t.year)
unfolding parts_in behind
parts-complete rest at t =
    let tail = t.time ++ t.behind in
    let gap : past_gap (t.gap ++ (t.y ++ 45 ∷ (t.m ++ 45 ∷ (t.d ++ (t.time ++ t.behind))))) ≡ Some (t.y ++ 45 ∷ (t.m ++ 45 ∷ (t.d ++ (t.time ++ t.behind)))) =
    gap-complete t.gap _ t.gap_some t.gap_blank (number-starts 4 t.year t.y _ t.year_is) in
    let year : four_in (t.y ++ 45 ∷ (t.m ++ 45 ∷ (t.d ++ (t.time ++ t.behind)))) ≡ Some (t.year, 45 ∷ (t.m ++ 45 ∷ (t.d ++ (t.time ++ t.behind)))) = four-complete t.y t.year _ t.year_is refl in
    let month : two_in (t.m ++ 45 ∷ (t.d ++ (t.time ++ t.behind))) ≡ Some (at.month, 45 ∷ (t.d ++ (t.time ++ t.behind))) = two-complete t.m at.month _ t.month_is refl in
    let day : two_in (t.d ++ (t.time ++ t.behind)) ≡ Some (at.day, t.time ++ t.behind) = two-complete t.d at.day _ t.day_is (time-no_digit t.time t.behind at.hour at.minute at.second t.time_is t.behind_blank) in
    let time : time_in (t.time ++ t.behind) ≡ Some (at.hour, at.minute, at.second) = time-complete t.time t.behind at.hour at.minute at.second t.time_is t.behind_blank in
    ap parts_in t.rest_is ∙ rw (gap, year, month, day, time) refl

abbrev IsTimed : List ℕ → Clock → Type 0
IsTimed text c = (time : List ℕ) × (rest : List ℕ) × (text ≡ time ++ rest) × (list_all is_blank rest ≡ true) × IsTime time c.0 c.1 c.2

last-some : (b : Bool) (x y : Clock) → cond b (Some x) None ≡ Some y → (b ≡ true) × (x ≡ y)
last-some true x y e = (refl, cc e)
last-some false x y e = absurd (cc e)

clock-sound : (text : List ℕ) (c : Clock) → clock_in text ≡ Some c → IsTimed text c
unfolding clock_in
clock-sound text c e =
    let a = bind-some (behind 45 text) _ c e in
    let h = bind-some (two_in a.0) _ c a.2 in
    let b = bind-some (behind 58 h.0.1) _ c h.2 in
    let m = bind-some (two_in b.0) _ c b.2 in
    let d = bind-some (behind 58 m.0.1) _ c m.2 in
    let s = bind-some (two_in d.0) _ c d.2 in
    let last = last-some (list_all is_blank s.0.1) (h.0.0, m.0.0, s.0.0) c s.2 in
    let hour = two-sound a.0 h.0 h.1 in
    let minute = two-sound b.0 m.0 m.1 in
    let second = two-sound d.0 s.0 s.1 in
    let time = 45 ∷ (hour.0 ++ 58 ∷ (minute.0 ++ 58 ∷ second.0)) in
    let whole : text ≡ (45 ∷ (hour.0 ++ 58 ∷ (minute.0 ++ 58 ∷ second.0))) ++ s.0.1 =
    behind-sound 45 text a.0 a.1 ∙ ap (λ x. 45 ∷ x) (hour.2 ∙ ap (λ x. hour.0 ++ x) (behind-sound 58 h.0.1 b.0 b.1
    ∙ ap (λ x. 58 ∷ x) (minute.2 ∙ ap (λ x. minute.0 ++ x) (behind-sound 58 m.0.1 d.0 d.1 ∙ ap (λ x. 58 ∷ x) second.2)
    ∙ sym (append_assoc minute.0 (58 ∷ second.0) s.0.1))) ∙ sym (append_assoc hour.0 (58 ∷ (minute.0 ++ 58 ∷ second.0)) s.0.1)) in
    subst (λ (z : Clock). IsTimed text z) last.1 (
      45 ∷ (hour.0 ++ 58 ∷ (minute.0 ++ 58 ∷ second.0)),
      s.0.1,
      whole,
      last.0,
      inr (record { h = hour.0; m = minute.0; s = second.0; text_is = refl; hour_is = hour.1; minute_is = minute.1; second_is = second.1 }),
    )

time-sound : (text : List ℕ) (c : Clock) → time_in text ≡ Some c → IsTimed text c
unfolding time_in
time-sound text c e = by (list_all is_blank text) refl e
  where
    by : (b : Bool) → list_all is_blank text ≡ b → cond b (Some (0, 0, 0)) (clock_in text) ≡ Some c → IsTimed text c
    by true is same =
        let zero_time : (0, 0, 0) ≡ c = cc same in
        subst (λ (z : Clock). IsTimed text z) zero_time ([], text, refl, is, inl (refl, refl, refl, refl))
    by false is same = clock-sound text c same

-- and the parts that the reader takes are a moment behind a name
pub parts-sound : (rest : List ℕ) (p : Parts) (at : Civil) → parts_in rest ≡ Some p → HasParts at p → HasDate rest at
unfolding parts_in
parts-sound rest p at e has =
    let a = bind-some (past_gap rest) _ p e in
    let y = bind-some (four_in a.0) _ p a.2 in
    let b = bind-some (behind 45 y.0.1) _ p y.2 in
    let m = bind-some (two_in b.0) _ p b.2 in
    let c = bind-some (behind 45 m.0.1) _ p m.2 in
    let d = bind-some (two_in c.0) _ p c.2 in
    let t = bind-some (time_in d.0.1) _ p d.2 in
    let same : (y.0.0, m.0.0, d.0.0, t.0.0, t.0.1, t.0.2) ≡ p =
    let done : Some (y.0.0, m.0.0, d.0.0, t.0.0, t.0.1, t.0.2) ≡ Some p = t.2 in cc done in
    let own : HasParts at (y.0.0, m.0.0, d.0.0, t.0.0, t.0.1, t.0.2) = subst (λ (z : Parts). HasParts at z) (sym same) has in
    let gap = gap-sound rest a.0 a.1 in
    let year = four-sound a.0 y.0 y.1 in
    let month = two-sound b.0 m.0 m.1 in
    let day = two-sound c.0 d.0 d.1 in
    let time = time-sound d.0.1 t.0 t.1 in
    record {
      gap = gap.0;
      y = year.0;
      m = month.0;
      d = day.0;
      time = time.0;
      behind = time.1;
      rest_is = gap.3 ∙ ap (λ x. gap.0 ++ x) (year.2 ∙ ap (λ x. year.0 ++ x) (behind-sound 45 y.0.1 b.0 b.1 ∙ ap (λ x. 45 ∷ x) (month.2
          ∙ ap (λ x. month.0 ++ x) (behind-sound 45 m.0.1 c.0 c.1 ∙ ap (λ x. 45 ∷ x) (day.2 ∙ ap (λ x. day.0 ++ x) time.2)))));
      gap_some = gap.1;
      gap_blank = gap.2;
      behind_blank = time.3;
      year = y.0.0;
      year_is = year.1;
      at_year = own.0;
      month_is = subst (λ n. IsNumber 2 month.0 n) (sym own.1) month.1;
      day_is = subst (λ n. IsNumber 2 day.0 n) (sym own.2) day.1;
      time_is = subst (λ n. IsTime time.0 n at.minute at.second) (sym own.3) (subst (λ n. IsTime time.0 t.0.0 n at.second) (sym own.4) (subst (λ n. IsTime time.0 t.0.0 t.0.1 n) (sym own.5) time.4));
    }
