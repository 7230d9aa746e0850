-- Each log and numbered naming make a set: the place of a path is read back from its digits.
use Rattle.std.proofs.Common.{◌≡◌, ℕ, ◌+◌, ◌-◌, ◌≤◌, Bool, true, false, cond, ◌&&◌, bytes_eq, refl, sym, ◌∙◌, ap, subst, arith, Option, Some, None, List, [], ◌∷◌, ◌++◌, length, take, drop, ℤ, pos, length-append}
use Rattle.std.specs.Prelude.{decimal, nat_le, ◌==◌}
use Rattle.std.specs.Str.Parse.{digits_value}
use Rattle.std.proofs.lemmas.Fmt.{decimal_is_IsNumeral}
use Rattle.std.proofs.lemmas.List.{append_assoc}
use Rattle.std.proofs.lemmas.Bool.{leb-true, le-leb}
use Rattle.std.proofs.Math.Seq.{drop-append_seam, take-append_seam}
use Rattle.std.proofs.lemmas.Slice.Eq.{bytes_eq-Decides}
use Rattle.lr_rules.specs.declared.path.Path.{Path}
use Rattle.lr_rules.specs.declared.rule.Naming.{Naming}
use Rattle.lr_rules.specs.declared.rule.Format.{Format}
use Rattle.lr_rules.specs.Path.{joined, path_fault}
use Rattle.lr_rules.specs.Names.{IsMemberAt}
use Rattle.lr_host.specs.Sets.{LogSet, order_of, IsKeyBy}

-- what a member's path has before its digits
abbrev front_of : Naming → List ℕ
front_of n = cond (length n.dir == 1) [] n.dir ++ 47 ∷ (n.base ++ 46 ∷ [])

-- the number that stands between front and extension
abbrev number_in : Naming → Path → ℕ
number_in n x = digits_value 10 (take (length x - length (front_of n) - length n.ext) (drop (length (front_of n)) x))

abbrev written : Naming → ℕ → Path
written n v = joined n.dir (n.base ++ 46 ∷ decimal v ++ n.ext)

abbrev key_with : Naming → Path → ℕ → Option ℤ
key_with n x v = cond (nat_le n.start v && nat_le v 4294967295 && bytes_eq x (written n v)) (Some (pos (v - n.start))) None

abbrev key_by : Naming → Path → Option ℤ
key_by n x = key_with n x (number_in n x)

split_up : (n : Naming) (v : ℕ) → written n v ≡ front_of n ++ (decimal v ++ n.ext)
split_up n v =
    let dir : List ℕ = cond (length n.dir == 1) [] n.dir in
    ap (λ (xs : List ℕ). dir ++ (47 ∷ xs)) (append_assoc n.base (46 ∷ decimal v) n.ext ∙ sym (append_assoc n.base (46 ∷ []) (decimal v ++ n.ext)))
    ∙ sym (append_assoc dir (47 ∷ (n.base ++ 46 ∷ [])) (decimal v ++ n.ext))

number_written : (n : Naming) (v : ℕ) (x : Path) → v ≤ 4294967295 → x ≡ written n v → number_in n x ≡ v
number_written n v x le e =
    let is : x ≡ front_of n ++ (decimal v ++ n.ext) = e ∙ split_up n v in
    let size : length (decimal v ++ n.ext) ≡ length (decimal v) + length n.ext = length-append (decimal v) n.ext in
    let whole : length x ≡ length (front_of n) + length (decimal v ++ n.ext) = ap length is ∙ length-append (front_of n) (decimal v ++ n.ext) in
    let count : length x - length (front_of n) - length n.ext ≡ length (decimal v) = omega (arith, size, whole) in
    ap (λ (k : ℕ). digits_value 10 (take k (drop (length (front_of n)) x))) count
    ∙ (ap (λ (y : List ℕ). digits_value 10 (take (length (decimal v)) (drop (length (front_of n)) y))) is
    ∙ (ap (λ (ys : List ℕ). digits_value 10 (take (length (decimal v)) ys)) (drop-append_seam (front_of n) (decimal v ++ n.ext))
    ∙ (ap (digits_value 10) (take-append_seam (decimal v) n.ext) ∙ (decimal_is_IsNumeral v (omega arith)).1)))

three : (a b c : Bool) → (a && b && c) ≡ true → (a ≡ true) × (b ≡ true) × (c ≡ true)
three true true c h = (refl, refl, h)
three true false c h = absurd (cc)
three false b c h = absurd (cc)

all_three : (a b c : Bool) → a ≡ true → b ≡ true → c ≡ true → (a && b && c) ≡ true
all_three true true c p q r = r
all_three true false c p q r = q
all_three false b c p q r = p

-- a path with a key is a member
reads : (n : Naming) (x : Path) (v : ℕ) (k : ℤ) → key_with n x v ≡ Some k → (place : ℕ) × (k ≡ pos place) × IsMemberAt n place x
reads n x v k is = go (nat_le n.start v && nat_le v 4294967295 && bytes_eq x (written n v)) refl is
  where
    go : (b : Bool) → (nat_le n.start v && nat_le v 4294967295 && bytes_eq x (written n v)) ≡ b → cond b (Some (pos (v - n.start))) None ≡ Some k → (place : ℕ) × (k ≡ pos place) × IsMemberAt n place x
    go true q is =
        let t = three (nat_le n.start v) (nat_le v 4294967295) (bytes_eq x (written n v)) q in
        let low : n.start ≤ v = leb-true n.start v t.0 in
        let high : v ≤ 4294967295 = leb-true v 4294967295 t.1 in
        let back : n.start + (v - n.start) ≡ v = omega arith in
        (v - n.start, cc, record { bound = omega arith; named = (bytes_eq-Decides x (written n v)).0 t.2 ∙ ap (written n) (sym back) })
    go false q is = absurd (cc)

-- a member has its key
writes : (n : Naming) (x : Path) (k : ℤ) → (place : ℕ) × (k ≡ pos place) × IsMemberAt n place x → key_by n x ≡ Some k
writes n x k (place, e, m) =
    let v : ℕ = n.start + place in
    let bound : n.start + place ≤ 4294967295 = m.bound in
    let test : (nat_le n.start v && nat_le v 4294967295 && bytes_eq x (written n v)) ≡ true = all_three (nat_le n.start v) (nat_le v 4294967295) (bytes_eq x (written n v)) (le-leb n.start v (omega arith)) (le-leb v 4294967295 (omega arith)) ((bytes_eq-Decides x (written n v)).1 m.named) in
    let back : v - n.start ≡ place = omega arith in
    ap (key_with n x) (number_written n v x (omega arith) m.named) ∙ (ap (λ (b : Bool). cond b (Some (pos (v - n.start))) None) test ∙ (ap (λ (i : ℕ). Some (pos i)) back ∙ ap Some (sym e)))

no_key : (n : Naming) (x : Path) → ((place : ℕ) → IsMemberAt n place x → ⊥) → key_by n x ≡ None
no_key n x apart = go (key_by n x) refl
  where
    go : (o : Option ℤ) → key_by n x ≡ o → key_by n x ≡ None
    go None q = q
    go (Some k) q = let m : (place : ℕ) × (k ≡ pos place) × IsMemberAt n place x = reads n x (number_in n x) k q in absurd (apart m.0 m.2)

pub set_exists : (log : Path) (n : Naming) → path_fault log ≡ None → n.dated ≡ None → ((place : ℕ) → IsMemberAt n place log → ⊥) → (s : LogSet) × (s.log ≡ log) × (s.naming ≡ n)
set_exists log n path numbered apart = (record { log = log; log_path = path; naming = n; key = key_by n; keys = keys; log_apart = no_key n log apart }, refl, refl)
  where
    keys : IsKeyBy (order_of n.dated) n (key_by n)
    keys = subst (λ (d : Option Format). IsKeyBy (order_of d) n (key_by n)) (sym numbered) (λ x k. ((λ is. reads n x (number_in n x) k is), (λ m. writes n x k m)))
