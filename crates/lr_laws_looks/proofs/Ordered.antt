-- What is found stands in order of bytes, no path twice.
use Rattle.std.proofs.Common.{◌≡◌, ◌≢◌, inl, inr, ⊎_elim, ℕ, ◌≤◌, Bool, true, false, cond, List, [], ◌∷◌, ◌++◌, map, reverse, Option, Some, None, Ok, refl, sym, ap, ◌∙◌, subst, Ordering, Less, Equal, Greater, nat_cmp, arith}
use Rattle.std.specs.Prelude.{filter, flat_map}
use Rattle.std.specs.List.{AllByRecursion}
use Rattle.std.specs.List.Sorted.{IsStrictlySortedBy}
use Rattle.std.specs.Cmp.Lexicographic.{slice_cmp}
use Rattle.std.specs.Ordering.{is_eq, is_lt, ordering_reverse}
use Rattle.std.specs.Str.{bytes_eq}
use Rattle.std.proofs.lemmas.Cmp.{nat_list_cmp_total}
use Rattle.std.proofs.lemmas.Map.Text.{is_eq-slice_cmp}
use Rattle.std.proofs.lemmas.Slice.Eq.{bytes_eq-Decides}
use Rattle.std.proofs.lemmas.List.Sorted.{sum_by-IsPermutation}
use Rattle.lr_rules.specs.declared.path.Path.{Path}
use Rattle.lr_host.specs.declared.entry.Entry.{Entry}
use Rattle.lr_host.specs.declared.thing.Seen.{Seen}
use Rattle.lr_host.specs.Listing.{is_file_kind, NamesRise}
use Rattle.lr_host.specs.Lists.{IsIn, IsNotIn, AreDistinct}
use Rattle.lr_host.specs.Told.{Each, Made}
use Rattle.lr_host.specs.World.{Past}
use Rattle.lr_host.proofs.Each.{each_first}
use Rattle.lr_host.proofs.Lists.{in_append, in_to, in_unmap}
use Rattle.lr_host.specs.Looks.{PathSight}
use Rattle.lr_glob.specs.declared.found.Found.{Found}
use Rattle.lr_glob.specs.Parts.{parts_in}
use Rattle.lr_glob.specs.Sights.{found_file, file_at, is_whole, seen_at, LookedAt}
use Rattle.lr_glob.specs.Words.{WordGave, Comes, SearchThen}
use Rattle.lr_glob.proofs.ListsOnce.{IsTrue, led_apart, made_true}
use Rattle.lr_glob.proofs.Seeking.{all_are}
use Rattle.lr_laws_looks.proofs.OneOrder.{one_at, count, count_cons, itself, first_before, behind_first}

-- ---- how often a path stands in a list without the same twice

other_at : (y x : Path) → y ≢ x → one_at y x ≡ 0
other_at y x ne = go (bytes_eq x y) refl
  where
    go : (b : Bool) → bytes_eq x y ≡ b → cond {A = ℕ} b 1 0 ≡ 0
    go true e = absurd (ne (sym ((bytes_eq-Decides x y).0 e)))
    go false e = refl

lacks_none : (y : Path) (xs : List Path) → IsNotIn y xs → count y xs ≡ 0
lacks_none y [] n = refl
lacks_none y (x ∷ xs) n = let a = count_cons y x xs in let b = other_at y x n.0 in let c = lacks_none y xs n.1 in omega (arith, a, b, c)

at_most_once : (y : Path) (xs : List Path) → AreDistinct xs → count y xs ≤ 1
at_most_once y [] d = omega arith
at_most_once y (x ∷ xs) d = go (bytes_eq x y) refl (at_most_once y xs d.1)
  where
    go : (b : Bool) → bytes_eq x y ≡ b → count y xs ≤ 1 → count y (x ∷ xs) ≤ 1
    go true e rest =
        let a = count_cons y x xs in
        let one : one_at y x ≡ 1 = ap (λ b. cond b 1 0) e in
        let none : count y xs ≡ 0 = subst (λ z. count z xs ≡ 0) ((bytes_eq-Decides x y).0 e) (lacks_none x xs d.0) in
        omega (arith, a, one, none)
    go false e rest =
        let a = count_cons y x xs in
        let zero : one_at y x ≡ 0 = ap (λ b. cond b 1 0) e in
        omega (arith, a, zero, rest)

not_in_whole : (x : Path) (xs : List Path) → IsNotIn x xs → IsNotIn x (filter is_whole xs)
not_in_whole x [] n = tt
not_in_whole x (y ∷ ys) n = go (is_whole y) (not_in_whole x ys n.1)
  where
    go : (b : Bool) → IsNotIn x (filter is_whole ys) → IsNotIn x (cond b (y ∷ filter is_whole ys) (filter is_whole ys))
    go true r = (n.0, r)
    go false r = r

whole_distinct : (xs : List Path) → AreDistinct xs → AreDistinct (filter is_whole xs)
whole_distinct [] d = tt
whole_distinct (x ∷ xs) d = go (is_whole x) (whole_distinct xs d.1)
  where
    go : (b : Bool) → AreDistinct (filter is_whole xs) → AreDistinct (cond b (x ∷ filter is_whole xs) (filter is_whole xs))
    go true r = (not_in_whole x xs d.0, r)
    go false r = r

-- ---- each before those behind it

abbrev Rises : List Path → Type 0
Rises [] = Unit {0}
Rises (x ∷ xs) = ((y : Path) → IsIn y xs → slice_cmp nat_cmp x y ≡ Less) × Rises xs

less_by : (s r : Ordering) → r ≡ ordering_reverse s → is_lt r ≡ false → (s ≡ Equal → ⊥) → s ≡ Less
less_by Less r e f g = refl
less_by Equal r e f g = absurd (g refl)
less_by Greater r e f g = absurd (let t = ap is_lt (sym e) ∙ f in cc)

less : (x y : Path) → is_lt (slice_cmp nat_cmp y x) ≡ false → x ≢ y → slice_cmp nat_cmp x y ≡ Less
less x y up ne = less_by (slice_cmp nat_cmp x y) (slice_cmp nat_cmp y x) (nat_list_cmp_total.antisymm y x) up (λ e. ne ((bytes_eq-Decides x y).0 (sym (is_eq-slice_cmp x y) ∙ ap is_eq e)))

counted : (y : Path) (xs : List Path) → IsIn y xs → 1 ≤ count y xs
counted y [] i = absurd i
counted y (x ∷ xs) (inl e) = let a = count_cons y x xs in let b : one_at y x ≡ 1 = subst (λ z. one_at y z ≡ 1) (sym e) (itself y) in omega (arith, a, b)
counted y (x ∷ xs) (inr i) = let a = count_cons y x xs in let b = counted y xs i in omega (arith, a, b)

rises : (xs : List Path) → NamesRise xs → ((y : Path) → count y xs ≤ 1) → Rises xs
rises [] up once = tt
rises (x ∷ xs) up once = (
  λ y i. less x y (first_before x xs y up (in_to y (x ∷ xs) (inr i))) (λ e. let a = count_cons x x xs in let b = itself x in let c = counted x xs (subst (λ z. IsIn z xs) (sym e) i) in let d = once x in omega (arith, a, b, c, d)),
  rises xs (behind_first x xs up) (λ y. let a = count_cons y x xs in let b = once y in omega (arith, a, b)),
)

-- ---- what was seen at them

file_path : (path : Path) (look : Option Seen) (f : Found) → IsIn f (file_at path look) → f.path ≡ path
file_path path None f i = absurd i
file_path path (Some seen) f i = go (is_file_kind seen.kind) i
  where
    go : (b : Bool) → IsIn f (cond b (record { path = path; seen = seen } ∷ []) []) → f.path ≡ path
    go true (inl e) = ap (λ (g : Found). g.path) (sym e)
    go true (inr j) = absurd j
    go false j = absurd j

in_files : (sights : List PathSight) (f : Found) → IsIn f (flat_map found_file sights) → IsIn f.path (map (λ (v : PathSight). v.path) sights)
in_files [] f i = absurd i
in_files (s ∷ sights) f i = ⊎_elim (λ (a : IsIn f (found_file s)). inl (sym (file_path s.path s.seen f a))) (λ (b : IsIn f (flat_map found_file sights)). inr (in_files sights f b)) (in_append f (found_file s) (flat_map found_file sights) i)

abbrev path_of : Found → Path
path_of f = f.path

files_rise : (sights : List PathSight) → Rises (map (λ (v : PathSight). v.path) sights) → Rises (map path_of (flat_map found_file sights))
files_rise [] r = tt
files_rise (s ∷ sights) r = by s.seen (files_rise sights r.1)
  where
    behind : (y : Path) → IsIn y (map path_of (flat_map found_file sights)) → slice_cmp nat_cmp s.path y ≡ Less
    behind y i = let f = in_unmap path_of y (flat_map found_file sights) i in r.0 y (subst (λ z. IsIn z (map (λ (v : PathSight). v.path) sights)) f.2 (in_files sights f.0 f.1))

    by : (look : Option Seen) → Rises (map path_of (flat_map found_file sights)) → Rises (map path_of (file_at s.path look ++ flat_map found_file sights))
    by None rest = rest
    by (Some seen) rest = go (is_file_kind seen.kind)
      where
        go : (b : Bool) → Rises (map path_of (cond b (record { path = s.path; seen = seen } ∷ []) [] ++ flat_map found_file sights))
        go true = (behind, rest)
        go false = rest

-- ---- what is found

searched_rises : (word : List ℕ) (found : List Found) (ts : List Entry) → Each IsTrue ts → SearchThen word (λ ordered us. LookedAt ordered found us) ts → Rises (map path_of found)
searched_rises word found ts t s = subst (λ fs. Rises (map path_of fs)) (sym l.found_are) (files_rise l.sights (subst Rises (sym l.each) (rises s.ordered s.order.rising once)))
  where
    l : LookedAt s.ordered found s.entries.back
    l = s.entries.second

    apart : AreDistinct s.paths
    apart = led_apart (parts_in word) s.paths s.entries.front s.entries.first (each_first IsTrue s.entries.front s.entries.back (subst (Each IsTrue) s.entries.joined t))

    once : (y : Path) → count y s.ordered ≤ 1
    once y = let a = at_most_once y (filter is_whole s.paths) (whole_distinct s.paths apart) in let b = sum_by-IsPermutation (one_at y) (filter is_whole s.paths) s.ordered s.order.same in omega (arith, a, b)

none_rises : (found : List Found) → found ≡ [] → Rises (map path_of found)
none_rises found e = subst (λ fs. Rises (map path_of fs)) (sym e) tt

one_rises : (path : Path) (look : Option Seen) → Rises (map path_of (seen_at path look))
one_rises path None = tt
one_rises path (Some seen) = ((λ y i. absurd i), tt)

gave_rises : (word : List ℕ) (found : List Found) (ts : List Entry) → Each IsTrue ts → WordGave word found ts → Rises (map path_of found)
gave_rises word found ts t (WordGave.literal plain s) = subst (λ fs. Rises (map path_of fs)) (sym s.is) (one_rises _ s.seen)
gave_rises word found ts t (WordGave.no_path plain other none e) = none_rises found none
gave_rises word found ts t (WordGave.wildcard wild absolute s) = searched_rises word found ts t s
gave_rises word found ts t (WordGave.relative wild relative none e) = none_rises found none

all_less : (x : Path) (ys : List Path) → ((y : Path) → IsIn y ys → slice_cmp nat_cmp x y ≡ Less) → AllByRecursion (λ y. slice_cmp nat_cmp x y ≡ Less) ys
all_less x [] f = tt
all_less x (y ∷ ys) f = (f y (inl refl), all_less x ys (λ z i. f z (inr i)))

strictly : (xs : List Path) → Rises xs → IsStrictlySortedBy (slice_cmp nat_cmp) xs
unfolding IsStrictlySortedBy
strictly [] r = tt
strictly (x ∷ xs) r = (all_less x xs r.0, strictly xs r.1)

pub found_rise : (p q : Past) (es : List Entry) (word : List ℕ) (room : ℕ) (found : List Found) → Made p es q → Comes word room (Ok found) (reverse es) → IsStrictlySortedBy (slice_cmp nat_cmp) (map (λ (f : Found). f.path) found)
found_rise p q es word room found m c = strictly (map path_of found) (subst (λ fs. Rises (map path_of fs)) (all_are room c.all found c.is) (gave_rises word c.all (reverse es) (made_true p q es m) c.gave))
