-- The members among names.
use Rattle.std.proofs.Common.{◌≡◌, ◌⊎◌, inl, inr, ⊎_elim, ℕ, ◌+◌, ◌<◌, ◌≤◌, List, [], ◌∷◌, ◌++◌, length, take, get_or, Result, Ok, Err, Vec, sym, ap, ◌∙◌, subst, arith}
use Rattle.std.specs.Prelude.{All, Contains, IfOk}
use Rattle.std.proofs.lemmas.List.{take_more, take_all}
use Rattle.std.proofs.lemmas.List.Elements.{Contains-push_cases, Contains-push, Contains-append_left, All-append, All-cons, All-nil}
use Rattle.lr_rules.specs.declared.path.Path.{Path}
use Rattle.lr_rules.specs.declared.rule.Naming.{Naming}
use Rattle.lr_rules.specs.Path.{joined}
use Rattle.lr_stamps.proofs.Members.{joined_same}
use Rattle.lr_family.specs.declared.spot.Spot.{Spot}
use Rattle.lr_family.specs.Parts.{IsMember}
use Rattle.lr_family.specs.Places.{IsPlaceOf}
use Rattle.lr_family.specs.Spots.{IsListed, HasPath, IsAmong, HasSpots, AddsSpot}
use Rattle.lr_family.proofs.Names.{placed_member, member_begins}

-- ---- one name

pub adds_one : (n : Naming) (name : List ℕ) (old new : List Spot) (spot : Spot) → new ≡ old ++ spot ∷ [] → spot.path ≡ joined n.dir name → HasPath n spot → AddsSpot n name old new
adds_one n name old new spot grown is place = record {
  places = λ h. subst (All (HasPath n)) (sym grown) (All-append (HasPath n) old (spot ∷ []) h (All-cons (HasPath n) spot [] place (All-nil (HasPath n))));
  all = λ x. (to x, from x);
}
  where
    to : (x : Path) → IsAmong new x → IsAmong old x ⊎ ((x ≡ joined n.dir name) × IsMember n x)
    to x a = ⊎_elim (λ c. inl (a.0, c, a.2)) (λ (same : spot ≡ a.0). inr (here same)) (Contains-push_cases old spot a.0 (subst (λ (ss : List Spot). Contains ss a.0) grown a.1))
      where
        here : spot ≡ a.0 → (x ≡ joined n.dir name) × IsMember n x
        here same =
            let path : spot.path ≡ x = ap (λ (d : Spot). d.path) same ∙ a.2 in
            (sym path ∙ is, placed_member n spot.place x (subst (IsPlaceOf n spot.place) path place))

    from : (x : Path) → IsAmong old x ⊎ ((x ≡ joined n.dir name) × IsMember n x) → IsAmong new x
    from x (inl a) = (a.0, subst (λ (ss : List Spot). Contains ss a.0) (sym grown) (Contains-append_left old (spot ∷ []) a.0 a.1), a.2)
    from x (inr m) = (spot, subst (λ (ss : List Spot). Contains ss spot) (sym grown) (Contains-push old spot), is ∙ sym m.0)

pub adds_none : (n : Naming) (name : List ℕ) (old new : List Spot) → new ≡ old → (IsMember n (joined n.dir name) → ⊥) → AddsSpot n name old new
adds_none n name old new same none = record {
  places = λ h. subst (All (HasPath n)) (sym same) h;
  all = λ x. (
    λ a. inl (subst (λ (ss : List Spot). IsAmong ss x) same a),
    λ h. ⊎_elim (λ a. subst (λ (ss : List Spot). IsAmong ss x) (sym same) a) (λ m. absurd (none (subst (IsMember n) m.0 m.1))) h,
  );
}

-- ---- names, one after another

pub has_none : (n : Naming) (spots : List Spot) → spots ≡ [] → HasSpots n [] spots
has_none n spots e = record {
  places = subst (All (HasPath n)) (sym e) (All-nil (HasPath n));
  all = λ x. ((λ a. absurd (empty (subst (λ (ss : List Spot). Contains ss a.0) e a.1))), (λ (l : IsListed n [] x). absurd (empty l.listed)));
}
  where
    empty : {A : Type 0} {x : A} → Contains [] x → ⊥
    empty c = let lt : c.0 < 0 = c.1 in omega arith

listed_more : (n : Naming) (names : List (List ℕ)) (name : List ℕ) (x : Path) → IsListed n names x → IsListed n (names ++ name ∷ []) x
listed_more n names name x l = record { member = l.member; name = l.name; listed = Contains-append_left names (name ∷ []) l.name l.listed; named = l.named }

pub has_more : (n : Naming) (names : List (List ℕ)) (i : ℕ) (name : List ℕ) (old new : List Spot) → name ≡ get_or names i name → i < length names → HasSpots n (take i names) old → AddsSpot n name old new → HasSpots n (take (i + 1) names) new
has_more n names i name old new is lt so_far adds = subst (λ (ns : List (List ℕ)). HasSpots n ns new) (sym grown) (record {
  places = adds.places so_far.places;
  all = λ x. (to x, from x);
})
  where
    grown : take (i + 1) names ≡ take i names ++ name ∷ []
    grown = take_more names i name lt ∙ ap (λ y. take i names ++ y ∷ []) (sym is)

    to : (x : Path) → IsAmong new x → IsListed n (take i names ++ name ∷ []) x
    to x a = ⊎_elim (λ b. listed_more n (take i names) name x ((so_far.all x).0 b)) (λ m. record { member = m.1; name = name; listed = Contains-push (take i names) name; named = m.0 }) ((adds.all x).0 a)

    from : (x : Path) → IsListed n (take i names ++ name ∷ []) x → IsAmong new x
    from x l = (adds.all x).1 (⊎_elim (λ c. inl ((so_far.all x).1 (record { member = l.member; name = l.name; listed = c; named = l.named }))) (λ (same : name ≡ l.name). inr (l.named ∙ ap (joined n.dir) (sym same), l.member)) (Contains-push_cases (take i names) name l.name l.listed))

pub has_all : (n : Naming) (names : List (List ℕ)) (i : ℕ) (spots : List Spot) → length names ≤ i → HasSpots n (take i names) spots → HasSpots n names spots
has_all n names i spots le h = subst (λ (ns : List (List ℕ)). HasSpots n ns spots) (take_all i names le) h

-- of names, those that begin as a member's do are enough
pub has_these : (n : Naming) (names part : List (List ℕ)) (base : List ℕ) {A E : Type 0} (r : Result (Vec Spot A) E) → base ≡ n.base → ((name : List ℕ) → Contains part name → Contains names name) → ((rest : List ℕ) → Contains names (base ++ rest) → Contains part (base ++ rest)) → IfOk r (λ spots. HasSpots n part spots.items)
    → IfOk r (λ spots. HasSpots n names spots.items)
has_these n names part base (Err e) same among all has = tt
has_these n names part base (Ok spots) same among all has = record { places = has.places; all = λ x. ((λ a. wider x ((has.all x).0 a)), (λ l. (has.all x).1 (narrower x l))) }
  where
    wider : (x : Path) → IsListed n part x → IsListed n names x
    wider x l = record { member = l.member; name = l.name; listed = among l.name l.listed; named = l.named }

    narrower : (x : Path) → IsListed n names x → IsListed n part x
    narrower x l = record { member = l.member; name = l.name; listed = kept; named = l.named }
      where
        m : (rest : List ℕ) × (x ≡ joined n.dir (n.base ++ rest))
        m = member_begins n x l.member

        text : l.name ≡ base ++ m.0
        text = joined_same n.dir l.name (n.base ++ m.0) (sym l.named ∙ m.1) ∙ ap (λ (b : List ℕ). b ++ m.0) (sym same)

        kept : Contains part l.name
        kept = subst (λ (name : List ℕ). Contains part name) (sym text) (all m.0 (subst (λ (name : List ℕ). Contains names name) text l.listed))
