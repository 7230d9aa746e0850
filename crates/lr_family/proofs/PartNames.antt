-- The part files of members: which names are theirs.
use Rattle.std.proofs.Common.{◌≡◌, ◌≢◌, ◌⊎◌, inl, inr, ⊎_elim, ℕ, ◌+◌, ◌-◌, ◌<◌, ◌≤◌, Bool, true, false, cond, nat_eq, List, [], ◌∷◌, ◌++◌, length, take, get_or, Result, Ok, Err, Vec, refl, sym, ap, ◌∙◌, subst, arith, append_assoc, bytes_eq}
use Rattle.std.specs.Prelude.{◌↔◌, Contains, Any, IfOk}
use Rattle.std.specs.Cmp.{IsEquivalence}
use Rattle.std.specs.Cmp.Lexicographic.{slice_cmp}
use Rattle.std.specs.List.{dedup}
use Rattle.std.specs.List.Sorted.{IsSorted, IsStrictlySortedBy}
use Rattle.std.specs.Ordering.{nat_cmp, is_lt, ordering_then, eq_by_cmp}
use Rattle.std.proofs.lemmas.Bool.{cases_lt}
use Rattle.std.proofs.lemmas.Cmp.{nat_list_cmp_total, eq_by_cmp_equiv}
use Rattle.std.proofs.lemmas.List.{append_cancel_right, take_more, take_all, get_or_default, get_or-take, length-take-le}
use Rattle.std.proofs.lemmas.List.Elements.{Contains-push_cases, Contains-push, Contains-append_left, Contains-get_or}
use Rattle.std.proofs.lemmas.List.Kept.{IsSortedBy-push, IsStrictlySortedBy-dedup, Contains-from_dedup, Any-dedup}
use Rattle.std.proofs.lemmas.List.MinMax.{ranks_by}
use Rattle.std.proofs.lemmas.List.Sorted.{sorted_far}
use Rattle.std.proofs.lemmas.Map.Text.{is_eq-slice_cmp}
use Rattle.std.proofs.lemmas.Slice.Eq.{bytes_eq-Decides}
use Rattle.lr_rules.specs.declared.path.Path.{Path}
use Rattle.lr_rules.specs.declared.rule.Naming.{Naming}
use Rattle.lr_rules.specs.Match.{part_end}
use Rattle.lr_rules.specs.Path.{joined}
use Rattle.lr_stamps.proofs.Members.{joined_same}
use Rattle.lr_host.specs.Listing.{NamesRise}
use Rattle.lr_family.specs.InternalParts.{AddsPart, HasParts}
use Rattle.lr_family.specs.Parts.{part_of, IsMember, IsMembersPart, IsPartAmong, AreParts, by_bytes}
use Rattle.lr_family.proofs.Names.{member_begins}
use Rattle.lr_family.proofs.Prefixes.{same_number}

-- ---- the name of a part file

joined_end : (dir name end : List ℕ) → joined dir name ++ end ≡ joined dir (name ++ end)
joined_end dir name end = append_assoc (cond (nat_eq (length dir) 1) [] dir) (47 ∷ name) end

pub part_named : (n : Naming) (name member : List ℕ) (b : Bool) → name ≡ member ++ part_end → (b ≡ true) ↔ IsMember n (joined n.dir member) → (b ≡ true) ↔ IsMembersPart n (joined n.dir name)
part_named n name member b e h = (λ t. (joined n.dir member, h.0 t, whole), λ p. h.1 (subst (IsMember n) (front p) p.1))
  where
    whole : joined n.dir name ≡ part_of (joined n.dir member)
    whole = ap (joined n.dir) e ∙ sym (joined_end n.dir member part_end)

    front : (p : IsMembersPart n (joined n.dir name)) → p.0 ≡ joined n.dir member
    front p = append_cancel_right p.0 (joined n.dir member) part_end (sym p.2 ∙ whole)

-- its name begins with the base too, and ends so
part_begins : (n : Naming) (x : Path) → IsMembersPart n x → (rest : List ℕ) × (x ≡ joined n.dir ((n.base ++ rest) ++ part_end))
part_begins n x p = let m = member_begins n p.0 p.1 in (m.0, p.2 ∙ (ap (λ y. y ++ part_end) m.1 ∙ joined_end n.dir (n.base ++ m.0) part_end))

pub no_part_named : (n : Naming) (name : List ℕ) → ((front : List ℕ) → name ≢ front ++ part_end) → (false ≡ true) ↔ IsMembersPart n (joined n.dir name)
no_part_named n name none = (λ e. absurd (cc), λ p. absurd (let m = part_begins n (joined n.dir name) p in none (n.base ++ m.0) (joined_same n.dir name ((n.base ++ m.0) ++ part_end) m.1)))

-- ---- names, one after another

joined_order : (dir a b : List ℕ) → slice_cmp nat_cmp (joined dir a) (joined dir b) ≡ slice_cmp nat_cmp a b
joined_order dir a b = behind (cond (nat_eq (length dir) 1) [] dir) (47 ∷ a) (47 ∷ b) ∙ ap (λ o. ordering_then o (slice_cmp nat_cmp a b)) (same_number 47)
  where
    behind : (front a b : List ℕ) → slice_cmp nat_cmp (front ++ a) (front ++ b) ≡ slice_cmp nat_cmp a b
    behind [] a b = refl
    behind (x ∷ front) a b = ap (λ o. ordering_then o (slice_cmp nat_cmp (front ++ a) (front ++ b))) (same_number x) ∙ behind front a b

empty : {A : Type 0} {x : A} → Contains [] x → ⊥
empty c = let lt : c.0 < 0 = c.1 in omega arith

pub has_none : (n : Naming) (paths : List Path) → paths ≡ [] → HasParts n [] paths
has_none n paths e = record {
  all = λ x. ((λ c. absurd (empty (subst (λ (ps : List Path). Contains ps x) e c))), (λ (p : IsPartAmong n [] x). absurd (empty p.listed)));
  rising = subst (IsSorted by_bytes) (sym e) (λ k d le lt. absurd (omega arith));
}

among_more : (n : Naming) (names : List (List ℕ)) (name : List ℕ) (x : Path) → IsPartAmong n names x → IsPartAmong n (names ++ name ∷ []) x
among_more n names name x p = record { part = p.part; name = p.name; listed = Contains-append_left names (name ∷ []) p.name p.listed; named = p.named }

-- a name of the first comes before the next
is_before : (names : List (List ℕ)) (i : ℕ) (name other : List ℕ) → NamesRise names → name ≡ get_or names i name → i < length names → Contains (take i names) other → is_lt (slice_cmp nat_cmp name other) ≡ false
is_before names i name other up is lt c = go (cases_lt c.0 i)
  where
    go : (c.0 < i) ⊎ (i ≤ c.0) → is_lt (slice_cmp nat_cmp name other) ≡ false
    go (inl below) =
        let at : get_or names c.0 other ≡ other = sym (get_or-take i names c.0 other below) ∙ c.2 in
        let here : get_or names i other ≡ name = get_or_default names i other name lt ∙ sym is in
        let far : is_lt (slice_cmp nat_cmp (get_or names i other) (get_or names c.0 other)) ≡ false = sorted_far (λ x y. is_lt (slice_cmp nat_cmp x y)) (ranks_by nat_list_cmp_total (λ (x : List ℕ). x)) names up c.0 i other (let b : c.0 < i = below in omega arith) lt in
        subst (λ (x : List ℕ). is_lt (slice_cmp nat_cmp x other) ≡ false) here (subst (λ (y : List ℕ). is_lt (slice_cmp nat_cmp (get_or names i other) y) ≡ false) at far)
    go (inr above) = absurd (
        let size : length (take i names) ≡ i = length-take-le i names (omega arith) in
        let bound : c.0 < length (take i names) = c.1 in
        let le : i ≤ c.0 = above in
        omega arith
        )

pub has_more : (n : Naming) (names : List (List ℕ)) (i : ℕ) (name : List ℕ) (old new : List Path) → NamesRise names → name ≡ get_or names i name → i < length names → HasParts n (take i names) old → AddsPart n name old new → HasParts n (take (i + 1) names) new
has_more n names i name old new up is lt so_far adds = subst (λ (ns : List (List ℕ)). HasParts n ns new) (sym grown) (by adds)
  where
    grown : take (i + 1) names ≡ take i names ++ name ∷ []
    grown = take_more names i name lt ∙ ap (λ y. take i names ++ y ∷ []) (sym is)

    -- the path of the name isn't before the last one so far
    past : (d : Path) → 0 < length old → is_lt (by_bytes (joined n.dir name) (get_or old (length old - 1) d)) ≡ false
    past d some =
        let last = get_or old (length old - 1) d in
        let p = (so_far.all last).0 (Contains-get_or old (length old - 1) d (omega arith)) in
        subst (λ (y : Path). is_lt (by_bytes (joined n.dir name) y) ≡ false) (sym p.named) (ap is_lt (joined_order n.dir name p.name) ∙ is_before names i name p.name up is lt p.listed)

    by : AddsPart n name old new → HasParts n (take i names ++ name ∷ []) new
    by (inl a) = subst (HasParts n (take i names ++ name ∷ [])) (sym a.1) (record {
      all = λ x. (
        λ c. ⊎_elim (λ o. among_more n (take i names) name x ((so_far.all x).0 o)) (λ (same : joined n.dir name ≡ x). record { part = subst (IsMembersPart n) same a.0; name = name; listed = Contains-push (take i names) name; named = sym same }) (Contains-push_cases old (joined n.dir name) x c),
        λ p. ⊎_elim (λ c. Contains-append_left old (joined n.dir name ∷ []) x ((so_far.all x).1 (record { part = p.part; name = p.name; listed = c; named = p.named })))
            (λ (same : name ≡ p.name). subst (Contains (old ++ joined n.dir name ∷ [])) (ap (joined n.dir) same ∙ sym p.named) (Contains-push old (joined n.dir name))) (Contains-push_cases (take i names) name p.name p.listed),
      );
      rising = IsSortedBy-push (λ a b. is_lt (by_bytes a b)) old (joined n.dir name) so_far.rising past;
    })
    by (inr b) = subst (HasParts n (take i names ++ name ∷ [])) (sym b.1) (record {
      all = λ x. (
        λ c. among_more n (take i names) name x ((so_far.all x).0 c),
        λ p. ⊎_elim (λ c. (so_far.all x).1 (record { part = p.part; name = p.name; listed = c; named = p.named })) (λ (same : name ≡ p.name). absurd (b.0 (subst (IsMembersPart n) (p.named ∙ ap (joined n.dir) (sym same)) p.part))) (Contains-push_cases (take i names) name p.name p.listed),
      );
      rising = so_far.rising;
    })

pub has_all : (n : Naming) (names : List (List ℕ)) (i : ℕ) (paths : List Path) → length names ≤ i → HasParts n (take i names) paths → HasParts n names paths
has_all n names i paths le h = subst (λ (ns : List (List ℕ)). HasParts n ns paths) (take_all i names le) h

-- of names, those that begin as a member's do are enough
pub has_these : (n : Naming) (names some : List (List ℕ)) (base : List ℕ) {A E : Type 0} (r : Result (Vec Path A) E) → base ≡ n.base → ((name : List ℕ) → Contains some name → Contains names name) → ((rest : List ℕ) → Contains names (base ++ rest) → Contains some (base ++ rest)) → IfOk r (λ paths. HasParts n some paths.items)
    → IfOk r (λ paths. HasParts n names paths.items)
has_these n names some base (Err e) same among all has = tt
has_these n names some base (Ok paths) same among all has = record { all = λ x. ((λ c. wider x ((has.all x).0 c)), (λ p. (has.all x).1 (narrower x p))); rising = has.rising }
  where
    wider : (x : Path) → IsPartAmong n some x → IsPartAmong n names x
    wider x p = record { part = p.part; name = p.name; listed = among p.name p.listed; named = p.named }

    narrower : (x : Path) → IsPartAmong n names x → IsPartAmong n some x
    narrower x p = record { part = p.part; name = p.name; listed = kept; named = p.named }
      where
        m : (rest : List ℕ) × (x ≡ joined n.dir ((n.base ++ rest) ++ part_end))
        m = part_begins n x p.part

        text : p.name ≡ base ++ (m.0 ++ part_end)
        text = joined_same n.dir p.name ((n.base ++ m.0) ++ part_end) (sym p.named ∙ m.1) ∙ (append_assoc n.base m.0 part_end ∙ ap (λ (b : List ℕ). b ++ (m.0 ++ part_end)) (sym same))

        kept : Contains some p.name
        kept = subst (Contains some) (sym text) (all (m.0 ++ part_end) (subst (Contains names) text p.listed))

-- ---- each once

abbrev pub is_same : Path → Path → Bool
is_same a b = bytes_eq a b

pub same_as : (a b : Path) → is_same a b ≡ eq_by_cmp by_bytes a b
same_as a b = sym (is_eq-slice_cmp a b)

pub equivalence : IsEquivalence is_same
equivalence = let e = eq_by_cmp_equiv nat_list_cmp_total in record {
  refl = λ x. same_as x x ∙ e.refl x;
  symm = λ x y. same_as x y ∙ (e.symm x y ∙ sym (same_as y x));
  congr = λ x y z p. same_as x z ∙ (e.congr x y z (sym (same_as x y) ∙ p) ∙ sym (same_as y z));
}

pub parts_once : (n : Naming) (names : List (List ℕ)) (old new : List Path) → HasParts n names old → new ≡ dedup is_same old → AreParts n names new
parts_once n names old new h e = record { all = λ x. (to x, λ p. from x ((h.all x).1 p)); rising = subst (IsStrictlySortedBy by_bytes) (sym e) (IsStrictlySortedBy-dedup nat_list_cmp_total same_as old h.rising) }
  where
    to : (x : Path) → Contains new x → IsPartAmong n names x
    to x c = (h.all x).0 (Contains-from_dedup is_same old x (subst (λ (ps : List Path). Contains ps x) e c))

    from : (x : Path) → Contains old x → Contains new x
    from x c = some (Any-dedup equivalence old x c)
      where
        some : Any (λ (y : Path). is_same x y ≡ true) (dedup is_same old) → Contains new x
        some b = subst (Contains new) (sym ((bytes_eq-Decides x b.1).0 b.4)) (subst (λ (ps : List Path). Contains ps b.1) (sym e) (b.0, b.2, b.3))
