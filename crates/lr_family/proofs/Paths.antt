-- The paths of members: each place has its own, none is the log's, and all stand in the family's directory.
use Rattle.std.proofs.Common.{◌≡◌, ℕ, ◌+◌, ◌≤◌, false, List, [], ◌∷◌, ◌++◌, None, refl, arith}
use Rattle.std.specs.Prelude.{decimal}
use Rattle.std.specs.List.{list_any}
use Rattle.std.proofs.lemmas.Bool.{or_parts, or_from}
use Rattle.lr_rules.specs.declared.path.Path.{Path}
use Rattle.lr_rules.specs.declared.rule.Naming.{Naming}
use Rattle.lr_rules.specs.Path.{path_fault, parent_of, is_slash, is_bad_byte, is_empty}
use Rattle.lr_rules.proofs.PathLemmas.{parent_joined, plain_both}
use Rattle.lr_rules.proofs.Digits.{decimal_plain}
use Rattle.lr_family.specs.Kin.{IsKin, is_barred}
use Rattle.lr_family.specs.Named.{member_name}
use Rattle.lr_family.specs.Spots.{path_at}
use Rattle.lr_family.proofs.Unique.{place_same}
use Rattle.lr_host.specs.Fits.{IsPart}

pub places_apart : (n : Naming) (p q : ℕ) → n.start + p ≤ 4294967295 → n.start + q ≤ 4294967295 → path_at n p ≡ path_at n q → p ≡ q
places_apart n p q i j e = place_same n p q (path_at n p) (record { bound = i; named = refl }) (record { bound = j; named = e })

pub log_apart : (log : Path) (n : Naming) (p : ℕ) → IsKin log n → n.dated ≡ None → n.start + p ≤ 4294967295 → log ≡ path_at n p → ⊥
log_apart log n p kin numbered i e = kin.apart numbered p (record { bound = i; named = e })

pub unbarred : (xs : List ℕ) → list_any is_barred xs ≡ false → list_any is_slash xs ≡ false
unbarred [] h = refl
unbarred (x ∷ xs) h = let t = or_parts (is_barred x) (list_any is_barred xs) h in or_from (is_slash x) (list_any is_slash xs) (or_parts (is_slash x) (is_bad_byte x) t.0).0 (unbarred xs t.1)

-- a member's name has no slash
name_plain : (log : Path) (n : Naming) (number : ℕ) → IsKin log n → number ≤ 4294967295 → list_any is_slash (member_name n number) ≡ false
name_plain log n number kin i =
    plain_both (n.base ++ 46 ∷ decimal number) n.ext (plain_both n.base (46 ∷ decimal number) (unbarred n.base kin.base) (decimal_plain number (omega arith))) (unbarred n.ext kin.ext)

pub stands_in : (log : Path) (n : Naming) (p : ℕ) → IsKin log n → path_fault n.dir ≡ None → n.start + p ≤ 4294967295 → parent_of (path_at n p) ≡ n.dir
stands_in log n p kin path i = parent_joined n.dir (member_name n (n.start + p)) path (name_plain log n (n.start + p) kin i)

-- it can stand behind a slash
pub name_part : (log : Path) (n : Naming) (number : ℕ) → IsKin log n → number ≤ 4294967295 → IsPart (member_name n number)
name_part log n number kin i = (some n.base, name_plain log n number kin i)
  where
    some : (base : List ℕ) → is_empty ((base ++ 46 ∷ decimal number) ++ n.ext) ≡ false
    some [] = refl
    some (b ∷ bs) = refl
