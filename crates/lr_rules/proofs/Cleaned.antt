-- A word that was cleaned is absolute, and has no empty part.
use Rattle.std.proofs.Common.{◌≡◌, ℕ, Bool, true, false, not, cond, ◌||◌, List, [], ◌∷◌, ◌++◌, Option, Some, None, refl, ap, ◌∙◌, subst, sym, append_assoc, nat_lt, length}
use Rattle.std.specs.List.{list_any, slice_split, onto_first, All}
use Rattle.std.specs.Str.{is_utf8}
use Rattle.std.proofs.lemmas.Bool.{or_parts}
use Rattle.std.proofs.lemmas.List.{append-nil}
use Rattle.std.proofs.lemmas.List.Elements.{All-nil, All-cons}
use Rattle.std.proofs.lemmas.List.Splits.{slice_split_none, slice_split_at}
use Rattle.lr_rules.specs.declared.path.PathFault.{PathFault}
use Rattle.lr_rules.specs.declared.path.PathFault.TheVariants as fault
use Rattle.lr_rules.specs.Path.{path_fault, is_slash, is_empty, is_absolute, has_bad_byte, has_empty_part, has_dot_part, is_kept, behind_slash, behind_slashes, kept_parts, or_root, cleaned}

-- parts without a slash
abbrev pub ArePlain : List (List ℕ) → Type 0
ArePlain [] = Unit {0}
ArePlain (p ∷ ps) = (list_any is_slash p ≡ false) × ArePlain ps

onto_plain : (b : ℕ) (parts : List (List ℕ)) → is_slash b ≡ false → ArePlain parts → ArePlain (onto_first b parts)
onto_plain b [] h plain = (ap (λ x. x || false) h, tt)
onto_plain b (p ∷ ps) h plain = (ap (λ x. x || list_any is_slash p) h ∙ plain.0, plain.1)

pub split_plain : (bs : List ℕ) → ArePlain (slice_split is_slash bs)
split_plain [] = (refl, tt)
split_plain (b ∷ bs) = go (is_slash b) refl (split_plain bs)
  where
    go : (s : Bool) → is_slash b ≡ s → ArePlain (slice_split is_slash bs) → ArePlain (cond s ([] ∷ slice_split is_slash bs) (onto_first b (slice_split is_slash bs)))
    go true h plain = (refl, plain)
    go false h plain = onto_plain b (slice_split is_slash bs) h plain

append_plain : (ps qs : List (List ℕ)) → ArePlain ps → ArePlain qs → ArePlain (ps ++ qs)
append_plain [] qs a b = b
append_plain (p ∷ ps) qs a b = (a.0, append_plain ps qs a.1 b)

slashes-append : (ps qs : List (List ℕ)) → behind_slashes (ps ++ qs) ≡ behind_slashes ps ++ behind_slashes qs
slashes-append [] qs = refl
slashes-append (p ∷ ps) qs = ap (λ xs. behind_slash p ++ xs) (slashes-append ps qs) ∙ sym (append_assoc (behind_slash p) (behind_slashes ps) (behind_slashes qs))

pub all_plain : (bs : List ℕ) → list_any is_slash bs ≡ false → All (λ b. is_slash b ≡ false) bs
all_plain [] h = All-nil (λ b. is_slash b ≡ false)
all_plain (b ∷ bs) h = let o = or_parts (is_slash b) (list_any is_slash bs) h in All-cons (λ b. is_slash b ≡ false) b bs o.0 (all_plain bs o.1)

-- no part is empty
abbrev IsFull : List ℕ → Type 0
IsFull bs = list_any is_empty (slice_split is_slash bs) ≡ false

kept_full : (p : List ℕ) → is_kept p ≡ true → is_empty p ≡ false
kept_full [] h = absurd (cc)
kept_full (b ∷ bs) h = refl

-- what stands behind a part: nothing, or a slash and further parts
pub data Tail : List ℕ → Type 0 where
  ends : Tail []
  goes_on : (rest : List ℕ) → IsFull rest → Tail (47 ∷ rest)

part_full : (p rest : List ℕ) → list_any is_slash p ≡ false → is_empty p ≡ false → Tail rest → IsFull (p ++ rest)
part_full p _ plain some ends = subst IsFull (sym (append-nil p)) (ap (list_any is_empty) (slice_split_none is_slash p (all_plain p plain)) ∙ ap (λ x. x || false) some)
part_full p _ plain some (goes_on rest full) =
    ap (list_any is_empty) (slice_split_at is_slash p 47 rest (all_plain p plain) refl) ∙ (ap (λ x. x || list_any is_empty (slice_split is_slash rest)) some ∙ full)

tail_of : (ps : List (List ℕ)) → ArePlain ps → Tail (behind_slashes ps)
tail_of [] plain = ends
tail_of (p ∷ ps) plain = go (is_kept p) refl (tail_of ps plain.1)
  where
    go : (k : Bool) → is_kept p ≡ k → Tail (behind_slashes ps) → Tail (cond k (47 ∷ p) [] ++ behind_slashes ps)
    go true h rest = goes_on (p ++ behind_slashes ps) (part_full p (behind_slashes ps) plain.0 (kept_full p h) rest)
    go false h rest = rest

rooted : (bs : List ℕ) → Tail bs → (is_absolute (or_root bs) ≡ true) × (has_empty_part (or_root bs) ≡ false)
rooted _ ends = (refl, refl)
rooted _ (goes_on rest full) = (refl, parts rest full)
  where
    parts : (rest : List ℕ) → IsFull rest → has_empty_part (47 ∷ rest) ≡ false
    parts [] full = refl
    parts (b ∷ bs) full = full

pub clean : (here word : List ℕ) → (is_absolute (cleaned here word) ≡ true) × (has_empty_part (cleaned here word) ≡ false)
clean here word = go (is_absolute word)
  where
    go : (b : Bool) → (is_absolute (or_root (cond b [] (kept_parts here) ++ kept_parts word)) ≡ true) × (has_empty_part (or_root (cond b [] (kept_parts here) ++ kept_parts word)) ≡ false)
    go true = rooted (kept_parts word) (tail_of (slice_split is_slash word) (split_plain word))
    go false = rooted (kept_parts here ++ kept_parts word)
        (subst Tail (slashes-append (slice_split is_slash here) (slice_split is_slash word)) (tail_of (slice_split is_slash here ++ slice_split is_slash word) (append_plain (slice_split is_slash here) (slice_split is_slash word) (split_plain here) (split_plain word))))

-- Which refusals these are not.
passed : (b : Bool) (f w : PathFault) (rest : Option PathFault) → (f ≡ w → ⊥) → cond b (Some f) rest ≡ Some w → rest ≡ Some w
passed true f w rest ne h = absurd (ne (cc))
passed false f w rest ne h = h

pub not_empty : (bs : List ℕ) → has_empty_part bs ≡ false → path_fault bs ≡ Some fault.EmptyPart → ⊥
unfolding path_fault
not_empty bs full h =
    let a = passed (not (is_utf8 bs)) fault.NotUtf8 fault.EmptyPart _ (λ e. cc) h in
    let b = passed (has_bad_byte bs) fault.BadByte fault.EmptyPart _ (λ e. cc) a in
    let c = passed (nat_lt 4096 (length bs)) fault.TooLong fault.EmptyPart _ (λ e. cc) b in
    let d = passed (not (is_absolute bs)) fault.Relative fault.EmptyPart _ (λ e. cc) c in
    last (has_empty_part bs) (has_dot_part bs) full d
  where
    last : (e t : Bool) → e ≡ false → cond e (Some fault.EmptyPart) (cond t (Some fault.DotPart) None) ≡ Some fault.EmptyPart → ⊥
    last true t full h = cc
    last false true full h = cc
    last false false full h = cc

pub not_relative : (bs : List ℕ) → is_absolute bs ≡ true → path_fault bs ≡ Some fault.Relative → ⊥
unfolding path_fault
not_relative bs absolute h =
    let a = passed (not (is_utf8 bs)) fault.NotUtf8 fault.Relative _ (λ e. cc) h in
    let b = passed (has_bad_byte bs) fault.BadByte fault.Relative _ (λ e. cc) a in
    let c = passed (nat_lt 4096 (length bs)) fault.TooLong fault.Relative _ (λ e. cc) b in
    last (is_absolute bs) (has_empty_part bs) (has_dot_part bs) absolute c
  where
    last : (r e t : Bool) → r ≡ true → cond (not r) (Some fault.Relative) (cond e (Some fault.EmptyPart) (cond t (Some fault.DotPart) None)) ≡ Some fault.Relative → ⊥
    last false e t absolute h = cc
    last true true t absolute h = cc
    last true false true absolute h = cc
    last true false false absolute h = cc
