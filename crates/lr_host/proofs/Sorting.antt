-- What a sort by the order of bytes leaves, and a listing that was sorted.
use Rattle.std.proofs.Common.{◌≡◌, ℕ, List, [], ◌∷◌, Option, Bor, Ordering, length, drop, ap, ◌∙◌}
use Rattle.std.specs.Fn.{Called}
use Rattle.std.specs.Ordering.{nat_cmp, is_lt}
use Rattle.std.specs.Cmp.Lexicographic.{slice_cmp}
use Rattle.std.specs.List.Sorted.{IsPermutation, IsSortedByClosure}
use Rattle.std.proofs.lemmas.Cmp.{nat_list_cmp_total}
use Rattle.std.proofs.lemmas.Fn.{always_returns_same}
use Rattle.std.proofs.lemmas.List.MinMax.{ranks_by}
use denote.Param.Members.{Mut}
use Rattle.lr_rules.specs.declared.path.Path.{Path}
use Rattle.lr_host.specs.declared.entry.Entry.TheVariants as entry
use Rattle.lr_host.specs.declared.journal.Journal.{Journal}
use Rattle.lr_host.specs.Listing.{NamesRise, HasListed}
use Rattle.lr_host.specs.Told.{Left}
use Rattle.lr_host.proofs.Left.{left_as}

pub sorted : {F : Type 0} {g : Mut F (Bor (List ℕ) × (Bor (List ℕ) × Unit {0})) Ordering} {f : F} (xs : List (List ℕ)) → IsSortedByClosure g f xs
    → ((a : Bor (List ℕ) × (Bor (List ℕ) × Unit {0})) (r : Ordering) (f' : F) → Called g f a r f' → (r ≡ slice_cmp nat_cmp a.0.now a.1.0.now) × (f' ≡ f)) → NamesRise xs
sorted {g = g} {f = f} xs up h = up (λ x y. is_lt (slice_cmp nat_cmp x y)) (ranks_by nat_list_cmp_total (λ (x : List ℕ). x))
    (always_returns_same g (λ a r. is_lt r ≡ is_lt (slice_cmp nat_cmp a.0.now a.1.0.now)) f (λ a r f' k. (ap is_lt (h a r f' k).0, (h a r f' k).1)))

-- names, listed in any order
pub listed_rising : (dir : Path) (old now sorted : List (List ℕ)) {o n : Option Journal} → old ≡ [] → IsPermutation now sorted → Left (λ ts. ts ≡ entry.List dir (drop (length old) now) ∷ []) o n → Left (HasListed dir sorted) o n
listed_rising dir old now sorted none same l = left_as l (λ ts e. record {
  listed = now;
  same = same;
  list = e ∙ ap (λ (before : List (List ℕ)). entry.List dir (drop (length before) now) ∷ []) none;
})
