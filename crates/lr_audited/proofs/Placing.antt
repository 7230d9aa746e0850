-- The map from a path to its line.
use Rattle.std.proofs.Common.{◌≡◌, ℕ, zero, suc, Bool, true, false, cond, List, [], ◌∷◌, ◌++◌, length, Option, Some, None, slice_get, get_or, take, slice_index_or, ◌<◌, ◌+◌, Result, Ok, Err, IfOk, refl, sym, ap, ◌∙◌, subst, ⊎_elim, Contains, arith}
use Rattle.std.specs.List.{AllZip}
use Rattle.std.specs.Str.{bytes_eq}
use Rattle.std.proofs.lemmas.List.{take_more}
use Rattle.std.proofs.lemmas.Option.{get_or_from_slice_get}
use Rattle.std.proofs.lemmas.Slice.Eq.{bytes_eq-Decides}
use Rattle.std.proofs.lemmas.List.Elements.{Contains-append_cases}
use Rattle.lr_rules.specs.declared.path.Path.{Path}
use Rattle.lr_kept.specs.Begun.{Found, place_in}
use Rattle.lr_audited.specs.declared.line.Line.{Line}
use Rattle.lr_audited.specs.InternalKnown.{ArePlaces}
use Rattle.lr_audited.specs.Lines.{stranger, IsLine, is_known, is_stranger, AreLines}
use Rattle.lr_kept.proofs.Elements.{contains_from}

read_last : (xs : List Line) (y : Line) → slice_get (xs ++ y ∷ []) (length xs) ≡ Some y
read_last [] y = refl
read_last (x ∷ xs) y = read_last xs y

read_before : (xs : List Line) (y x : Line) (k : ℕ) → slice_get xs k ≡ Some x → slice_get (xs ++ y ∷ []) k ≡ Some x
read_before [] y x zero h = absurd (cc h)
read_before [] y x (suc k) h = absurd (cc h)
read_before (z ∷ xs) y x zero h = h
read_before (z ∷ xs) y x (suc k) h = read_before xs y x k h

one_is : (l x : Line) → Contains (l ∷ []) x → x ≡ l
one_is l x (zero, lt, at) = sym at
one_is l x (suc k, lt, at) = absurd (omega (arith, lt))

pub places_more : (known : List Line) (l : Line) (old new : List ℕ → Option ℕ) → ArePlaces known old → ((q : List ℕ) → new q ≡ cond (bytes_eq q l.path) (Some (length known)) (old q)) → ArePlaces (known ++ l ∷ []) new
places_more known l old new so is = record { there = λ path i e. there_by path i (bytes_eq path l.path) refl (sym (is path) ∙ e); none = λ path e x w. none_by path (bytes_eq path l.path) refl (sym (is path) ∙ e) x w }
  where
    there_by : (path : List ℕ) (i : ℕ) (b : Bool) → bytes_eq path l.path ≡ b → cond (bytes_eq path l.path) (Some (length known)) (old path) ≡ Some i → (x : Line) × (slice_get (known ++ l ∷ []) i ≡ Some x) × (x.path ≡ path)
    there_by path i true b e =
        let at : Some (length known) ≡ Some i = subst (λ c. cond c (Some (length known)) (old path) ≡ Some i) b e in
        let n : length known ≡ i = cc at in
        (l, subst (λ k. slice_get (known ++ l ∷ []) k ≡ Some l) n (read_last known l), sym ((bytes_eq-Decides path l.path).0 b))
    there_by path i false b e =
        let h = so.there path i (subst (λ c. cond c (Some (length known)) (old path) ≡ Some i) b e) in
        (h.0, read_before known l h.0 i h.1, h.2)

    none_by : (path : List ℕ) (b : Bool) → bytes_eq path l.path ≡ b → cond (bytes_eq path l.path) (Some (length known)) (old path) ≡ None → (x : Line) → Contains (known ++ l ∷ []) x → x.path ≡ path → ⊥
    none_by path true b e x w same = let at : Some (length known) ≡ None = subst (λ c. cond c (Some (length known)) (old path) ≡ None) b e in absurd (cc at)
    none_by path false b e x w same = ⊎_elim
        (λ (h : Contains known x). so.none path (subst (λ c. cond c (Some (length known)) (old path) ≡ None) b e) x h same)
        (λ (h : Contains (l ∷ []) x). let alike : path ≡ l.path = sym same ∙ ap (λ (y : Line). y.path) (one_is l x h) in let yes : bytes_eq path l.path ≡ true = (bytes_eq-Decides path l.path).1 alike in absurd (cc (yes, b)))
        (Contains-append_cases known (l ∷ []) x w)

contains_none : (x : Line) → Contains [] x → ⊥
contains_none x (k, lt, at) = omega (arith, lt)

pub places_none : (known : List Line) (found : List Found) → known ≡ [] → found ≡ [] → ArePlaces known (place_in found)
places_none known found e f = subst (λ (ls : List Line). ArePlaces ls (place_in found)) (sym e) (subst (λ (fs : List Found). ArePlaces [] (place_in fs)) (sym f) (record { there = λ path i h. absurd (cc h); none = λ path h x w same. contains_none x w }))

-- a place that the map has is one of the lines
read_below : (xs : List Line) (i : ℕ) (x : Line) → slice_get xs i ≡ Some x → i < length xs
read_below [] zero x h = absurd (cc h)
read_below [] (suc i) x h = absurd (cc h)
read_below (y ∷ ys) zero x h = omega arith
read_below (y ∷ ys) (suc i) x h = let lt = read_below ys i x h in omega (arith, lt)

pub place_below : (known : List Line) (places : List ℕ → Option ℕ) (path : Path) (place : ℕ) → ArePlaces known places → places path ≡ Some place → place < length known
place_below known places path place so at = let h = so.there path place at in read_below known place h.0 h.1

-- the line that was found, or a stranger's
pub found_ok : {E : Type 0} (known lines : List Line) (places : List ℕ → Option ℕ) (path : Path) (place : ℕ) (r : Result Line E) → ArePlaces known places → places path ≡ Some place → lines ≡ known → IfOk r (λ copy. slice_index_or lines place copy ≡ copy) → IfOk r (IsLine known path)
found_ok known lines places path place (Err e) so at same is = tt
found_ok known lines places path place (Ok copy) so at same is =
    let h = so.there path place at in
    let read : slice_index_or known place copy ≡ copy = subst (λ (ls : List Line). slice_index_or ls place copy ≡ copy) same is in
    let one : h.0 ≡ copy = sym (get_or_from_slice_get known place h.0 copy h.1) ∙ read in
    subst (IsLine known path) one (is_known (contains_from known place h.0 h.1) h.2)

pub none_ok : {E : Type 0} (known : List Line) (places : List ℕ → Option ℕ) (path : Path) (r : Result Line E) → ArePlaces known places → places path ≡ None → IfOk r (λ line. line ≡ stranger path) → IfOk r (IsLine known path)
none_ok known places path (Err e) so at is = tt
none_ok known places path (Ok line) so at is = is_stranger (so.none path at) is

-- ---- one file more

zip_push : (R : Path → Line → Type 0) (xs : List Path) (ls : List Line) (x : Path) (l : Line) → AllZip R xs ls → R x l → AllZip R (xs ++ x ∷ []) (ls ++ l ∷ [])
zip_push R [] [] x l z r = (r, z)
zip_push R [] (k ∷ ls) x l z r = absurd z
zip_push R (y ∷ xs) [] x l z r = absurd z
zip_push R (y ∷ xs) (k ∷ ls) x l z r = (z.0, zip_push R xs ls x l z.1 r)

pub lines_more : (known : List Line) (files : List Path) (i : ℕ) (x : Path) (line : Line) (before after : List Line) → x ≡ get_or files i x → i < length files → AreLines known (take i files) before → IsLine known x line → after ≡ before ++ line ∷ [] → AreLines known (take (i + 1) files) after
lines_more known files i x line before after is lt so one more =
    subst (λ (ls : List Line). AllZip (IsLine known) (take (i + 1) files) ls) (sym more)
    (subst (λ (xs : List Path). AllZip (IsLine known) xs (before ++ line ∷ [])) (sym (take_more files i x lt ∙ ap (λ y. take i files ++ y ∷ []) (sym is))) (zip_push (IsLine known) (take i files) before x line so one))
