-- Directories, each once and in order of bytes.
use Rattle.std.proofs.Common.{◌≡◌, List, sym, subst}
use Rattle.std.specs.Prelude.{Contains}
use Rattle.std.specs.Cmp.Lexicographic.{slice_cmp}
use Rattle.std.specs.List.{dedup}
use Rattle.std.specs.List.Sorted.{IsPermutation, IsSortedByKey, IsStrictlySortedBy}
use Rattle.std.specs.Ordering.{nat_cmp}
use Rattle.std.proofs.lemmas.Cmp.{nat_list_cmp_total}
use Rattle.std.proofs.lemmas.List.Kept.{IsStrictlySortedBy-dedup, Contains-from_dedup, Contains-dedup}
use Rattle.std.proofs.lemmas.List.Sorted.{Contains-permutation, IsPermutation-sym}
use Rattle.std.proofs.lemmas.Slice.Eq.{bytes_eq-Decides}
use Rattle.lr_rules.specs.declared.path.Path.{Path}
use Rattle.lr_family.specs.Parts.{by_bytes}
use Rattle.lr_family.proofs.PartNames.{equivalence, same_as, is_same}
use Rattle.lr_audit.specs.Dirs.{AreDirs}

pub dirs_once : (asked ordered dirs : List Path) → IsPermutation asked ordered → IsSortedByKey (λ path. path) (slice_cmp nat_cmp) ordered → dirs ≡ dedup is_same ordered → AreDirs asked dirs
dirs_once asked ordered dirs same up e = record {
  all = λ x. (
    λ c. Contains-permutation ordered asked x (IsPermutation-sym asked ordered same) (Contains-from_dedup is_same ordered x (subst (λ (ps : List Path). Contains ps x) e c)),
    λ c. subst (λ (ps : List Path). Contains ps x) (sym e) (Contains-dedup equivalence (λ a b h. (bytes_eq-Decides a b).0 h) ordered x (Contains-permutation asked ordered x same c)),
  );
  rising = subst (IsStrictlySortedBy by_bytes) (sym e) (IsStrictlySortedBy-dedup nat_list_cmp_total same_as ordered up);
}
