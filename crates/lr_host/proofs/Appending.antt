-- Bytes that are appended in pieces.
use Rattle.std.proofs.Common.{◌≡◌, ◌⊎◌, ⊎_elim, refl, sym, ◌∙◌, ap, subst, ℕ, ◌+◌, ◌-◌, ◌≤◌, arith, List, [], ◌∷◌, ◌++◌, take, drop, length, length-append, append_assoc, append-nil}
use Rattle.std.specs.Prelude.{filter}
use Rattle.std.proofs.lemmas.List.{take-append-drop, length-take, length-drop, take_all}
use Rattle.std.proofs.Math.Seq.{take-append-add}
use Rattle.lr_rules.specs.declared.path.Path.{Path}
use Rattle.lr_host.specs.declared.entry.Entry.{Entry}
use Rattle.lr_host.specs.declared.entry.Entry.TheVariants.{Appends}
use Rattle.lr_host.specs.Steps.{is_naming}
use Rattle.lr_host.specs.Told.{Each}
use Rattle.lr_host.specs.Appending.{Appended, no_more, piece_more, AppendBroke, at_piece, in_piece, piece_on}

-- ---- more behind it

one_piece : (to : Path) (piece : List ℕ) → Appended to piece (Appends to piece ∷ [])
one_piece to piece = subst (λ xs. Appended to xs (Appends to piece ∷ [])) (append-nil piece) (piece_more piece [] no_more)

pub appended_on : (to : Path) (text : List ℕ) (ts : List Entry) (more : List ℕ) (us : List Entry) → Appended to text ts → Appended to more us → Appended to (text ++ more) (ts ++ us)
appended_on to _ _ more us no_more b = b
appended_on to _ _ more us (piece_more p text {ts = ts} a) b = subst (λ xs. Appended to xs ((Appends to p ∷ ts) ++ us)) (sym (append_assoc p text more)) (piece_more p (text ++ more) (appended_on to text ts more us a b))

pub append_more : (to : Path) (text : List ℕ) (ts : List Entry) (piece : List ℕ) → Appended to text ts → Appended to (text ++ piece) (ts ++ Appends to piece ∷ [])
append_more to text ts piece a = appended_on to text ts piece (Appends to piece ∷ []) a (one_piece to piece)

pub append_stops : (to : Path) (text : List ℕ) (ts : List Entry) (rest : List ℕ) (us : List Entry) → Appended to text ts → AppendBroke to rest us → AppendBroke to (text ++ rest) (ts ++ us)
append_stops to _ _ rest us no_more b = b
append_stops to _ _ rest us (piece_more p text {ts = ts} a) b = subst (λ xs. AppendBroke to xs ((Appends to p ∷ ts) ++ us)) (sym (append_assoc p text rest)) (piece_on p (text ++ rest) (append_stops to text ts rest us a b))

-- a first part of a first part
pub broke_further : (to : Path) (text : List ℕ) (us : List Entry) (more : List ℕ) → AppendBroke to text us → AppendBroke to (text ++ more) us
broke_further to text _ more (at_piece _) = at_piece (text ++ more)
broke_further to _ _ more (in_piece p text) = subst (λ xs. AppendBroke to xs (Appends to p ∷ [])) (sym (append_assoc p text more)) (in_piece p (text ++ more))
broke_further to _ _ more (piece_on p text {ts = ts} a) = subst (λ xs. AppendBroke to xs (Appends to p ∷ ts)) (sym (append_assoc p text more)) (piece_on p (text ++ more) (broke_further to text ts more a))

-- an append that failed
pub one_broke : (to : Path) (rest : List ℕ) (us : List Entry) → (us ≡ []) ⊎ ((count : ℕ) × (count ≤ length rest) × (us ≡ Appends to (take count rest) ∷ [])) → AppendBroke to rest us
one_broke to rest us h = ⊎_elim (λ nothing. subst (AppendBroke to rest) (sym nothing) (at_piece rest))
    (λ some. subst (AppendBroke to rest) (sym some.2) (subst (λ xs. AppendBroke to xs (Appends to (take some.0 rest) ∷ [])) (take-append-drop some.0 rest) (in_piece (take some.0 rest) (drop some.0 rest)))) h

-- ---- the pieces that a loop takes

pub rest_is : (at : ℕ) (xs : List ℕ) → take (length xs - at) (drop at xs) ≡ drop at xs
rest_is at xs = let l : length (drop at xs) ≡ length xs - at = length-drop at xs in take_all (length xs - at) (drop at xs) (omega (arith, l))

-- two first parts, one behind the other
pub take_two : (at count : ℕ) (xs : List ℕ) → at ≤ length xs → take at xs ++ take count (drop at xs) ≡ take (at + count) xs
take_two at count xs le =
    let long : length (take at xs) ≡ at = grind (arith, length-take) in
    sym (take-append-add (take at xs) (drop at xs) count) ∙ (ap (λ k. take (k + count) (take at xs ++ drop at xs)) long ∙ ap (take (at + count)) (take-append-drop at xs))

-- ---- what holds of each of the entries, where it holds of appends to the file that are no longer than the bytes

of_first : (P : List ℕ → Type 0) (p text : List ℕ) → ((piece : List ℕ) → length piece ≤ length (p ++ text) → P piece) → P p
of_first P p text f = let long : length (p ++ text) ≡ length p + length text = length-append p text in f p (omega (arith, long))

of_rest : (P : List ℕ → Type 0) (p text : List ℕ) → ((piece : List ℕ) → length piece ≤ length (p ++ text) → P piece) → (piece : List ℕ) → length piece ≤ length text → P piece
of_rest P p text f piece le = let long : length (p ++ text) ≡ length p + length text = length-append p text in f piece (omega (arith, long, le))

pub each_appended : (P : Entry → Type 0) (to : Path) (text : List ℕ) (ts : List Entry) → ((piece : List ℕ) → length piece ≤ length text → P (Appends to piece)) → Appended to text ts → Each P ts
each_appended P to _ _ f no_more = tt
each_appended P to _ _ f (piece_more p text {ts = ts} a) = (of_first (λ q. P (Appends to q)) p text f, each_appended P to text ts (of_rest (λ q. P (Appends to q)) p text f) a)

pub each_append_broke : (P : Entry → Type 0) (to : Path) (text : List ℕ) (ts : List Entry) → ((piece : List ℕ) → length piece ≤ length text → P (Appends to piece)) → AppendBroke to text ts → Each P ts
each_append_broke P to _ _ f (at_piece text) = tt
each_append_broke P to _ _ f (in_piece p text) = (of_first (λ q. P (Appends to q)) p text f, tt)
each_append_broke P to _ _ f (piece_on p text {ts = ts} a) = (of_first (λ q. P (Appends to q)) p text f, each_append_broke P to text ts (of_rest (λ q. P (Appends to q)) p text f) a)

-- they name nothing
pub none_named : (to : Path) (text : List ℕ) (ts : List Entry) → Appended to text ts → filter is_naming ts ≡ []
none_named to _ _ no_more = refl
none_named to _ _ (piece_more p text {ts = ts} a) = none_named to text ts a
