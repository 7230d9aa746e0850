-- How much longer the text gets by one more log that is due.
use Rattle.std.proofs.Common.{◌≡◌, ◌∙◌, ap, sym, subst, refl, ℕ, ◌+◌, ◌-◌, ◌≤◌, nat_lt, length, length-append, Bool, true, false, not, ◌&&◌, ◌||◌, cond, List, [], ◌∷◌, ◌++◌, map, Some, is_some, arith}
use Rattle.std.specs.Prelude.{unsigned_abs}
use Rattle.std.specs.List.{flat_map}
use Rattle.std.specs.Str.{bytes_eq}
use Rattle.std.proofs.Math.Bool.{or-false, or-true}
use Rattle.std.proofs.lemmas.Bool.{and_parts, not-true, or_parts, ltb-true, ltb-false}
use Rattle.std.proofs.lemmas.List.Folds.{list_any-append}
use Rattle.std.proofs.lemmas.Slice.Eq.{bytes_eq-Decides}
use Rattle.lr_rules.specs.declared.civil.Civil.{Civil}
use Rattle.lr_rules.specs.declared.path.Path.{Path}
use Rattle.lr_state.specs.Table.{StateEntry, moment_of, is_name, is_table}
use Rattle.lr_state.specs.Written.{escaped, decimal, moment_text, line_text, entry_line, table_text}
use Rattle.lr_state.proofs.Views.{bytes_swapped}
use Rattle.lr_state.specs.After.{is_among}
use Rattle.lr_state.specs.Measured.{longer_moment, widest, measured_text}
use Rattle.lr_state.proofs.After.{found_first}

-- ---- moments

pub moment_length : (at : Civil) → length (moment_text at) ≡ length (decimal (unsigned_abs at.year)) + length (decimal at.month) + length (decimal at.day) + (length (decimal at.hour) + length (decimal at.minute) + length (decimal at.second)) + 5
unfolding moment_text
moment_length at =
    let seconds = decimal at.second in
    let minutes = decimal at.minute ++ 58 ∷ seconds in
    let hours = decimal at.hour ++ 58 ∷ minutes in
    let days = decimal at.day ++ 45 ∷ hours in
    let months = decimal at.month ++ 45 ∷ days in
    let a = length-append (decimal (unsigned_abs at.year)) (45 ∷ months) in
    let b = length-append (decimal at.month) (45 ∷ days) in
    let c = length-append (decimal at.day) (45 ∷ hours) in
    let d = length-append (decimal at.hour) (58 ∷ minutes) in
    let e = length-append (decimal at.minute) (58 ∷ seconds) in
    omega (arith, a, b, c, d, e)

pub longer_length : (was now : Civil) → length (moment_text (longer_moment was now)) ≡ length (moment_text was) + (length (moment_text now) - length (moment_text was))
longer_length was now = go (nat_lt (length (moment_text now)) (length (moment_text was))) refl
  where
    go : (b : Bool) → nat_lt (length (moment_text now)) (length (moment_text was)) ≡ b → length (moment_text (cond b was now)) ≡ length (moment_text was) + (length (moment_text now) - length (moment_text was))
    go true is = let lt = ltb-true (length (moment_text now)) (length (moment_text was)) is in omega (arith, lt)
    go false is = let le = ltb-false (length (moment_text now)) (length (moment_text was)) is in omega (arith, le)

-- ---- lines

line_length : (name : List ℕ) (at : Civil) → length (entry_line (name, at)) ≡ length (flat_map escaped name) + length (moment_text at) + 4
unfolding line_text
line_length name at =
    let whole = length-append (line_text (name, at)) (10 ∷ []) in
    let quoted = length-append (flat_map escaped name) (34 ∷ (32 ∷ moment_text at)) in
    omega (arith, whole, quoted)

line_grows : (name : List ℕ) (was now : Civil) (more : ℕ) → length (moment_text now) ≡ length (moment_text was) + more → length (entry_line (name, now)) ≡ length (entry_line (name, was)) + more
line_grows name was now more grown =
    let old = line_length name was in
    let new = line_length name now in
    omega (arith, old, new, grown)

line_widens : (due : List Path) (now : Civil) (e : StateEntry) → length (entry_line e) ≤ length (entry_line (widest due now e))
line_widens due now e = go (is_among due e.0)
  where
    go : (b : Bool) → length (entry_line e) ≤ length (entry_line (cond b (e.0, longer_moment e.1 now) e))
    go true = let grown = line_grows e.0 e.1 (longer_moment e.1 now) (length (moment_text now) - length (moment_text e.1)) (longer_length e.1 now) in omega (arith, grown)
    go false = omega arith

-- ---- texts

lines_length : (e : StateEntry) (es : List StateEntry) → length (flat_map entry_line (e ∷ es)) ≡ length (entry_line e) + length (flat_map entry_line es)
lines_length e es = length-append (entry_line e) (flat_map entry_line es)

lines_widen : (due : List Path) (now : Civil) (es : List StateEntry) → length (flat_map entry_line es) ≤ length (flat_map entry_line (map (widest due now) es))
lines_widen due now [] = omega arith
lines_widen due now (e ∷ es) =
    let old = lines_length e es in
    let new = lines_length (widest due now e) (map (widest due now) es) in
    let first = line_widens due now e in
    let rest = lines_widen due now es in
    omega (arith, old, new, first, rest)

-- the measured text is no shorter than that of the table
pub text_widens : (due : List Path) (now : Civil) (es : List StateEntry) → length (table_text es) ≤ length (measured_text due now es)
text_widens due now es = let lines = lines_widen due now es in omega (arith, lines)

-- where no log is due, it is that of the table
pub none_due : (now : Civil) (es : List StateEntry) → measured_text [] now es ≡ table_text es
none_due now es = ap table_text (same es)
  where
    same : (xs : List StateEntry) → map (widest [] now) xs ≡ xs
    same [] = refl
    same (x ∷ xs) = ap (λ ys. x ∷ ys) (same xs)

-- ---- one more log

among_more : (due : List Path) (log : Path) (name : List ℕ) → is_among (due ++ log ∷ []) name ≡ (is_among due name || bytes_eq name log)
among_more due log name = list_any-append (bytes_eq name) due (log ∷ []) ∙ ap (λ b. is_among due name || b) (or-false (bytes_eq name log))

-- an entry of another name
other_same : (due : List Path) (log : Path) (now : Civil) (e : StateEntry) → bytes_eq log e.0 ≡ false → widest (due ++ log ∷ []) now e ≡ widest due now e
other_same due log now e other = ap (λ b. cond b (e.0, longer_moment e.1 now) e) (among_more due log e.0 ∙ (ap (λ b. is_among due e.0 || b) (bytes_swapped log e.0 other) ∙ or-false (is_among due e.0)))

-- a log that the table lacks
pub lacked_same : (due : List Path) (log : Path) (now : Civil) (es : List StateEntry) → is_some (moment_of es log) ≡ false → map (widest (due ++ log ∷ []) now) es ≡ map (widest due now) es
lacked_same due log now [] lacks = refl
lacked_same due log now (e ∷ es) lacks =
    let parts = or_parts (bytes_eq log e.0) (is_some (moment_of es log)) (sym (found_first e es log) ∙ lacks) in
    ap (λ x. x ∷ map (widest (due ++ log ∷ []) now) es) (other_same due log now e parts.0) ∙ ap (λ xs. widest due now e ∷ xs) (lacked_same due log now es parts.1)

-- a log that is due already
pub due_same : (due : List Path) (log : Path) (now : Civil) (es : List StateEntry) → is_among due log ≡ true → map (widest (due ++ log ∷ []) now) es ≡ map (widest due now) es
due_same due log now [] is = refl
due_same due log now (e ∷ es) is = ap (λ x. x ∷ map (widest (due ++ log ∷ []) now) es) (ap (λ b. cond b (e.0, longer_moment e.1 now) e) (among_more due log e.0 ∙ go (bytes_eq e.0 log) refl)) ∙ ap (λ xs. widest due now e ∷ xs) (due_same due log now es is)
  where
    go : (b : Bool) → bytes_eq e.0 log ≡ b → (is_among due e.0 || b) ≡ is_among due e.0
    go true same = let named : is_among due e.0 ≡ true = ap (is_among due) ((bytes_eq-Decides e.0 log).0 same) ∙ is in ap (λ b. b || true) named ∙ sym named
    go false same = or-false (is_among due e.0)

-- a new one that the table has
found_grows : (due : List Path) (log : Path) (now was : Civil) (more : ℕ) → is_among due log ≡ false → length (moment_text (longer_moment was now)) ≡ length (moment_text was) + more
    → (es : List StateEntry) → is_table es ≡ true → moment_of es log ≡ Some was → length (flat_map entry_line (map (widest (due ++ log ∷ []) now) es)) ≡ length (flat_map entry_line (map (widest due now) es)) + more
unfolding moment_of is_table
found_grows due log now was more new grown [] table is = absurd (cc is)
found_grows due log now was more new grown (e ∷ es) table is = go (bytes_eq log e.0) refl is (found_grows due log now was more new grown es parts.1)
  where
    parts : (is_name e.0 && not (is_some (moment_of es e.0)) ≡ true) × (is_table es ≡ true)
    parts = and_parts (is_name e.0 && not (is_some (moment_of es e.0))) (is_table es) table

    alone : is_some (moment_of es e.0) ≡ false
    alone = not-true (is_some (moment_of es e.0)) (and_parts (is_name e.0) (not (is_some (moment_of es e.0))) parts.0).1

    later : List Path
    later = due ++ log ∷ []

    go : (b : Bool) → bytes_eq log e.0 ≡ b → cond b (Some e.1) (moment_of es log) ≡ Some was
        → (moment_of es log ≡ Some was → length (flat_map entry_line (map (widest later now) es)) ≡ length (flat_map entry_line (map (widest due now) es)) + more)
        → length (flat_map entry_line (map (widest later now) (e ∷ es))) ≡ length (flat_map entry_line (map (widest due now) (e ∷ es))) + more
    go true same at next =
        let named : log ≡ e.0 = (bytes_eq-Decides log e.0).0 same in
        let moment : e.1 ≡ was = cc at in
        let wide : widest later now e ≡ (e.0, longer_moment e.1 now) = ap (λ b. cond b (e.0, longer_moment e.1 now) e) (among_more due log e.0 ∙ (ap (λ b. is_among due e.0 || b) ((bytes_eq-Decides e.0 log).1 (sym named)) ∙ or-true (is_among due e.0))) in
        let narrow : widest due now e ≡ e = ap (λ b. cond b (e.0, longer_moment e.1 now) e) (sym (ap (is_among due) named) ∙ new) in
        let first : length (entry_line (widest later now e)) ≡ length (entry_line (widest due now e)) + more =
        ap (λ (x : StateEntry). length (entry_line x)) wide ∙ (line_grows e.0 e.1 (longer_moment e.1 now) more (subst (λ (x : Civil). length (moment_text (longer_moment x now)) ≡ length (moment_text x) + more) (sym moment) grown) ∙ ap (λ (x : StateEntry). length (entry_line x) + more) (sym narrow)) in
        let rest : length (flat_map entry_line (map (widest later now) es)) ≡ length (flat_map entry_line (map (widest due now) es)) = ap (λ (xs : List StateEntry). length (flat_map entry_line xs)) (lacked_same due log now es (ap (λ n. is_some (moment_of es n)) named ∙ alone)) in
        let old_sum = lines_length (widest due now e) (map (widest due now) es) in
        let new_sum = lines_length (widest later now e) (map (widest later now) es) in
        omega (arith, first, rest, old_sum, new_sum)
    go false other at next =
        let first : length (entry_line (widest later now e)) ≡ length (entry_line (widest due now e)) = ap (λ (x : StateEntry). length (entry_line x)) (other_same due log now e other) in
        let rest = next at in
        let old_sum = lines_length (widest due now e) (map (widest due now) es) in
        let new_sum = lines_length (widest later now e) (map (widest later now) es) in
        omega (arith, first, rest, old_sum, new_sum)

pub text_grows : (due : List Path) (log : Path) (now was : Civil) (more : ℕ) (es : List StateEntry) → is_among due log ≡ false → length (moment_text (longer_moment was now)) ≡ length (moment_text was) + more → is_table es ≡ true → moment_of es log ≡ Some was
    → length (measured_text (due ++ log ∷ []) now es) ≡ length (measured_text due now es) + more
text_grows due log now was more es new grown table is = let lines = found_grows due log now was more new grown es table is in omega (arith, lines)
