-- What is written for a table says that table.
use Rattle.std.proofs.Common.{◌≡◌, ◌∙◌, ap, sym, subst, refl, ℕ, ℤ, pos, negsuc, ◌+◌, ◌<◌, ◌≤◌, ◌≤ℤ◌, unsigned_abs, Bool, true, false, not, ◌&&◌, ◌||◌, ◌==◌, cond, List, [], ◌∷◌, ◌++◌, length, map, Option, Some, None, is_some, Ok, inl, inr, append_assoc, arith}
use Rattle.std.specs.List.{list_all, list_any, flat_map, slice_split, onto_first}
use Rattle.std.specs.Str.{bytes_eq}
use Rattle.std.proofs.lemmas.Bool.{and_parts, and_from, not-true, le-ltb}
use Rattle.std.proofs.lemmas.List.{append-nil}
use Rattle.std.proofs.lemmas.List.Folds.{list_all-append}
use Rattle.std.proofs.lemmas.List.Splits.{slice_split-cons_no}
use Rattle.jiff_core.proofs.CalendarLemmas.{days_in_month_bounds}
use Rattle.jiff_core.proofs.SignedLemmas.{signed_arith}
use Rattle.lr_rules.specs.Path.{is_bad_byte, has_bad_byte}
use Rattle.lr_rules.specs.declared.civil.Civil.{Civil}
use Rattle.lr_rules.specs.Bytes.{is_newline}
use Rattle.lr_state.specs.Grammar.{StateSign, spelling, is_escaped, byte_of, IsNumber, BeginsWithName, HasDate, LinesSay, TextSays}
use Rattle.lr_state.specs.Table.{StateEntry, moment_of, is_name, is_table}
use Rattle.lr_state.specs.Written.{escaped, decimal, moment_text, line_text, entry_line, table_text}
use Rattle.lr_state.proofs.Views.{bytes_swapped}
use Rattle.lr_state.proofs.Decimals.{decimal-two, decimal-four, digits-line}

abbrev is_inner : ℕ → Bool
is_inner b = not (is_newline b)

-- a line ends at the newline behind it
split-line : (xs ys : List ℕ) → list_all is_inner xs ≡ true → slice_split is_newline (xs ++ 10 ∷ ys) ≡ xs ∷ slice_split is_newline ys
split-line [] ys all = refl
split-line (x ∷ xs) ys all =
    let p = and_parts (is_inner x) (list_all is_inner xs) all in
    slice_split-cons_no is_newline x (xs ++ 10 ∷ ys) (not-true _ p.0) ∙ ap (onto_first x) (split-line xs ys p.1)

-- the signs that are written for a name
abbrev sign_of : ℕ → StateSign
sign_of b = ((b == 34) || (b == 92), b)

signs-good : (name : List ℕ) → list_all is_escaped (map sign_of name) ≡ true
signs-good [] = refl
signs-good (b ∷ bs) = and_from _ _ (by ((b == 34) || (b == 92))) (signs-good bs)
  where
    by : (c : Bool) → (c || not c) ≡ true
    by true = refl
    by false = refl

signs-spell : (name : List ℕ) → flat_map escaped name ≡ flat_map spelling (map sign_of name)
signs-spell [] = refl
signs-spell (b ∷ bs) = ap (λ t. escaped b ++ t) (signs-spell bs)

signs-name : (name : List ℕ) → name ≡ map byte_of (map sign_of name)
signs-name [] = refl
signs-name (b ∷ bs) = ap (λ t. b ∷ t) (signs-name bs)

named : (e : StateEntry) → is_name e.0 ≡ true → BeginsWithName (line_text e) e.0 (32 ∷ moment_text e.1)
unfolding line_text
named e good = (
  inl (record {
    signs = map sign_of e.0;
    each = signs-good e.0;
    line_is = ap (λ t. 34 ∷ (t ++ 34 ∷ (32 ∷ moment_text e.1))) (signs-spell e.0);
    name_is = signs-name e.0;
  }),
  good,
)

year-pos : (year : ℤ) → pos 1 ≤ℤ year → year ≡ pos (unsigned_abs year)
year-pos (pos n) low = refl
year-pos (negsuc n) low = absurd (omega (arith, signed_arith))

year-small : (year : ℤ) → pos 1 ≤ℤ year → year ≤ℤ pos 9999 → unsigned_abs year < 10_000
year-small (pos n) low high = omega (arith, signed_arith)
year-small (negsuc n) low high = absurd (omega (arith, signed_arith))

year-number : (at : Civil) → IsNumber 4 (decimal (unsigned_abs at.year)) (unsigned_abs at.year)
year-number at = decimal-four (unsigned_abs at.year) (year-small at.year at.valid.0 at.valid.1.0.1)

month-number : (at : Civil) → IsNumber 2 (decimal at.month) at.month
month-number at = let month = at.valid.1.1 in decimal-two at.month (omega arith)

day-number : (at : Civil) → IsNumber 2 (decimal at.day) at.day
day-number at = let day = at.valid.1.2 in decimal-two at.day (omega (arith, days_in_month_bounds at.year at.month))

dated : (at : Civil) → HasDate (32 ∷ moment_text at) at
unfolding moment_text
dated at =
    let valid = at.valid in
    record {
      gap = 32 ∷ [];
      y = decimal (unsigned_abs at.year);
      m = decimal at.month;
      d = decimal at.day;
      time = 45 ∷ (decimal at.hour ++ 58 ∷ (decimal at.minute ++ 58 ∷ decimal at.second));
      behind = [];
      rest_is = ap (λ t. 32 ∷ (decimal (unsigned_abs at.year) ++ 45 ∷ (decimal at.month ++ 45 ∷ (decimal at.day ++ t))))
          (sym (append-nil (45 ∷ (decimal at.hour ++ 58 ∷ (decimal at.minute ++ 58 ∷ decimal at.second)))));
      gap_some = omega arith;
      gap_blank = refl;
      behind_blank = refl;
      year = unsigned_abs at.year;
      year_is = year-number at;
      at_year = year-pos at.year valid.0;
      month_is = month-number at;
      day_is = day-number at;
      time_is = inr (record {
        h = decimal at.hour;
        m = decimal at.minute;
        s = decimal at.second;
        text_is = refl;
        hour_is = decimal-two at.hour (omega arith);
        minute_is = decimal-two at.minute (omega arith);
        second_is = decimal-two at.second (omega arith);
      });
    }

-- a written line holds no newline
escaped-inner : (name : List ℕ) → list_any is_bad_byte name ≡ false → list_all is_inner (flat_map escaped name) ≡ true
escaped-inner [] clear = refl
escaped-inner (b ∷ bs) clear =
    let p = or_parts (is_bad_byte b) (list_any is_bad_byte bs) clear in
    list_all-append is_inner (escaped b) (flat_map escaped bs)
    ∙ and_from _ _ (by ((b == 34) || (b == 92)) (inner b p.0)) (escaped-inner bs p.1)
  where
    or_parts : (x y : Bool) → (x || y) ≡ false → (x ≡ false) × (y ≡ false)
    or_parts true y e = absurd (cc e)
    or_parts false y e = (refl, e)

    inner : (n : ℕ) → is_bad_byte n ≡ false → is_inner n ≡ true
    inner n e = ap not (or_parts (n == 10) (n == 0) e).0

    by : (c : Bool) → is_inner b ≡ true → list_all is_inner (cond c (92 ∷ b ∷ []) (b ∷ [])) ≡ true
    by true e = and_from _ _ e refl
    by false e = and_from _ _ e refl

number-inner : (most n : ℕ) (ds rest : List ℕ) → IsNumber most ds n → list_all is_inner rest ≡ true → list_all is_inner (ds ++ rest) ≡ true
number-inner most n ds rest h tail = list_all-append is_inner ds rest ∙ and_from _ _ (digits-line ds h.each) tail

moment-inner : (at : Civil) → list_all is_inner (moment_text at) ≡ true
unfolding moment_text
moment-inner at =
    let valid = at.valid in
    let second = digits-line (decimal at.second) (decimal-two at.second (omega arith)).each in
    let minute = number-inner 2 at.minute (decimal at.minute) (58 ∷ decimal at.second) (decimal-two at.minute (omega arith)) second in
    let hour = number-inner 2 at.hour (decimal at.hour) (58 ∷ (decimal at.minute ++ 58 ∷ decimal at.second)) (decimal-two at.hour (omega arith)) minute in
    let day = number-inner 2 at.day (decimal at.day) (45 ∷ (decimal at.hour ++ 58 ∷ (decimal at.minute ++ 58 ∷ decimal at.second))) (day-number at) hour in
    let month = number-inner 2 at.month (decimal at.month) (45 ∷ (decimal at.day ++ 45 ∷ (decimal at.hour ++ 58 ∷ (decimal at.minute ++ 58 ∷ decimal at.second)))) (month-number at) day in
    number-inner 4 (unsigned_abs at.year) (decimal (unsigned_abs at.year)) _ (year-number at) month

line-inner : (e : StateEntry) → is_name e.0 ≡ true → list_all is_inner (line_text e) ≡ true
unfolding line_text is_name
line-inner e good =
    let clear = not-true (has_bad_byte e.0) (and_parts _ (not (has_bad_byte e.0)) good).1 in
    list_all-append is_inner (flat_map escaped e.0) (34 ∷ (32 ∷ moment_text e.1)) ∙ and_from _ _ (escaped-inner e.0 clear) (moment-inner e.1)

-- the names of the entries behind aren't among those before
abbrev Apart : List StateEntry → List StateEntry → Type 0
Apart before es = list_all (λ x. not (is_some (moment_of before x.0))) es ≡ true

moment-snoc : (before : List StateEntry) (e : StateEntry) (q : List ℕ) → is_some (moment_of before q) ≡ false → bytes_eq q e.0 ≡ false → is_some (moment_of (before ++ e ∷ []) q) ≡ false
unfolding moment_of
moment-snoc [] e q none other = ap (λ c. is_some (cond c (Some e.1) None)) other
moment-snoc (x ∷ xs) e q none other = by (bytes_eq q x.0) none (λ h. moment-snoc xs e q h other)
  where
    by : (c : Bool) → is_some (cond c (Some x.1) (moment_of xs q)) ≡ false → (is_some (moment_of xs q) ≡ false → is_some (moment_of (xs ++ e ∷ []) q) ≡ false)
        → is_some (cond c (Some x.1) (moment_of (xs ++ e ∷ []) q)) ≡ false
    by true h next = h
    by false h next = next h

apart-next : (before : List StateEntry) (e : StateEntry) (es : List StateEntry) → Apart before es → is_some (moment_of es e.0) ≡ false → Apart (before ++ e ∷ []) es
unfolding moment_of
apart-next before e [] apart new = refl
apart-next before e (x ∷ xs) apart new =
    let p = and_parts (not (is_some (moment_of before x.0))) (list_all (λ y. not (is_some (moment_of before y.0))) xs) apart in
    let q = by (bytes_eq e.0 x.0) refl new in
    and_from _ _ (ap not (moment-snoc before e x.0 (not-true _ p.0) (bytes_swapped e.0 x.0 q.0))) (apart-next before e xs p.1 q.1)
  where
    by : (c : Bool) → bytes_eq e.0 x.0 ≡ c → is_some (cond c (Some x.1) (moment_of xs e.0)) ≡ false → (bytes_eq e.0 x.0 ≡ false) × (is_some (moment_of xs e.0) ≡ false)
    by true is h = absurd (cc h)
    by false is h = (is, h)

pub none_from : (o : Option Civil) → is_some o ≡ false → o ≡ None
none_from None e = refl
none_from (Some at) e = absurd (cc e)

-- the written lines say their entries
lines-say : (number : ℕ) (before es : List StateEntry) → is_table es ≡ true → Apart before es → LinesSay number before (slice_split is_newline (flat_map entry_line es)) (Ok (before ++ es))
unfolding is_table
lines-say number before [] table apart = inr (before, inl (refl, refl), ap (λ (t : List StateEntry). Ok t) (append-nil before))
lines-say number before (e ∷ es) table apart =
    let parts = and_parts (is_name e.0 && not (is_some (moment_of es e.0))) (is_table es) table in
    let own = and_parts (is_name e.0) (not (is_some (moment_of es e.0))) parts.0 in
    let p = and_parts (not (is_some (moment_of before e.0))) (list_all (λ y. not (is_some (moment_of before y.0))) es) apart in
    let lines : slice_split is_newline (flat_map entry_line (e ∷ es)) ≡ line_text e ∷ slice_split is_newline (flat_map entry_line es) =
    ap (slice_split is_newline) (append_assoc (line_text e) (10 ∷ []) (flat_map entry_line es)) ∙ split-line (line_text e) (flat_map entry_line es) (line-inner e own.0) in
    let next : LinesSay (number + 1) (before ++ e ∷ []) (slice_split is_newline (flat_map entry_line es)) (Ok (before ++ (e ∷ es))) =
    subst (λ (t : List StateEntry). LinesSay (number + 1) (before ++ e ∷ []) (slice_split is_newline (flat_map entry_line es)) (Ok t)) (append_assoc before (e ∷ []) es)
    (lines-say (number + 1) (before ++ e ∷ []) es parts.1 (apart-next before e es p.1 (not-true _ own.1))) in
    subst (λ (ls : List (List ℕ)). LinesSay number before ls (Ok (before ++ (e ∷ es)))) (sym lines)
    (inr (before ++ e ∷ [], inr (e.0, 32 ∷ moment_text e.1, e.1, named e own.0, dated e.1, none_from _ (not-true _ p.0), refl), next))

none-before : (es : List StateEntry) → Apart [] es
unfolding moment_of
none-before [] = refl
none-before (e ∷ es) = none-before es

pub text-says : (t : List StateEntry) → is_table t ≡ true → length (table_text t) ≤ 67_108_864 → TextSays (table_text t) (Ok t)
text-says t table small =
    let sized = le-ltb 67_108_864 (length (table_text t)) small in
    rw sized (lines-say 2 [] t table (none-before t))
