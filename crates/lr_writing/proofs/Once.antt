-- The directories of paths, each once, in order of bytes.
use Rattle.std.proofs.Common.{◌≡◌, sym, subst, List, map}
use Rattle.std.specs.List.{dedup}
use Rattle.std.specs.Str.{bytes_eq}
use Rattle.std.specs.Ordering.{nat_cmp}
use Rattle.std.specs.Cmp.Lexicographic.{slice_cmp}
use Rattle.std.specs.List.Sorted.{IsPermutation, IsSortedByKey}
use Rattle.std.proofs.lemmas.Cmp.{nat_list_cmp_total, nat_list_eq_equiv}
use Rattle.std.proofs.lemmas.List.Kept.{Contains-dedup, Contains-from_dedup, IsStrictlySortedBy-dedup}
use Rattle.std.proofs.lemmas.List.Sorted.{Contains-permutation, IsPermutation-sym}
use Rattle.std.proofs.lemmas.Map.Text.{is_eq-slice_cmp}
use Rattle.std.proofs.lemmas.Slice.Eq.{bytes_eq-Decides}
use Rattle.lr_rules.specs.declared.path.Path.{Path}
use Rattle.lr_rules.specs.Path.{parent_of}
use Rattle.lr_host.specs.Lists.{IsIn}
use Rattle.lr_host.proofs.Lists.{in_from, in_to, in_map}
use Rattle.lr_writing.specs.Directories.{AreDirectoriesOf}

-- in order, and then each once
pub directories : (paths parents in_order dirs : List Path) → parents ≡ map parent_of paths → IsPermutation parents in_order
    → IsSortedByKey (λ path. path) (slice_cmp nat_cmp) in_order → dirs ≡ dedup bytes_eq in_order → AreDirectoriesOf paths dirs
directories paths parents in_order dirs are same up is = subst (AreDirectoriesOf paths) (sym is) record {
  in_order = IsStrictlySortedBy-dedup nat_list_cmp_total (λ x y. sym (is_eq-slice_cmp x y)) in_order up;
  from = λ dir h. subst (IsIn dir) are
      (in_from dir parents (Contains-permutation in_order parents dir (IsPermutation-sym parents in_order same) (Contains-from_dedup bytes_eq in_order dir (in_to dir (dedup bytes_eq in_order) h))));
  all = λ path h. in_from (parent_of path) (dedup bytes_eq in_order) (Contains-dedup nat_list_eq_equiv (λ x y. (bytes_eq-Decides x y).0) in_order (parent_of path)
      (Contains-permutation parents in_order (parent_of path) same (in_to (parent_of path) parents (subst (IsIn (parent_of path)) (sym are) (in_map parent_of path paths h)))));
}
