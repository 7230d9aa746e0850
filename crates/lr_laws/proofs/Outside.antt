-- What is no name of a set is neither its log, nor where it waits while it is set aside, nor a member.
use Rattle.std.proofs.Common.{◌≡◌, inl, ⊎_elim, ℕ, ◌+◌, ◌≤◌, Bool, true, false, ◌&&◌, bytes_eq, refl, sym, subst, arith, Option, Some, None, is_some, ◌∷◌, ◌++◌, ℤ, pos}
use Rattle.std.specs.Prelude.{decimal}
use Rattle.std.proofs.lemmas.Slice.Eq.{bytes_eq-Decides}
use Rattle.std.proofs.lemmas.Bool.{or_cases}
use Rattle.lr_rules.specs.declared.path.Path.{Path}
use Rattle.lr_rules.specs.declared.rule.Naming.{Naming}
use Rattle.lr_rules.specs.declared.rule.Format.{Format}
use Rattle.lr_rules.specs.Names.{aside_path, IsMemberAt, IsMiddleShape, HasMemberShape, IsOwnName, the_log, set_aside, a_member, IsName, Meet}
use Rattle.lr_rules.specs.Dated.{stamp_key, IsDatedAt}
use Rattle.lr_rules.proofs.Digits.{decimal_run}
use Rattle.lr_stamps.proofs.StampShapes.{dated_shape}
use Rattle.lr_host.specs.Sets.{LogSet, Order, Numbered, Dated, order, order_of, IsKeyBy, is_unplaced, in_reach}

numbered_none : (d : Option Format) → order_of d ≡ Numbered → d ≡ None
numbered_none None q = refl
numbered_none (Some format) q = absurd (cc)

-- a numbered member has a member's shape
member_name : (s : LogSet) (x : Path) (place : ℕ) → order s ≡ Numbered → IsMemberAt s.naming place x → IsOwnName s.log s.naming x
member_name s x place numbered m = a_member (s.naming.base ++ (46 ∷ decimal (s.naming.start + place)) ++ s.naming.ext) (46 ∷ decimal (s.naming.start + place), middle, refl) m.named
  where
    bound : s.naming.start + place ≤ 4294967295
    bound = m.bound

    middle : IsMiddleShape s.naming.dated (46 ∷ decimal (s.naming.start + place))
    middle = subst (λ d. IsMiddleShape d (46 ∷ decimal (s.naming.start + place))) (sym (numbered_none s.naming.dated numbered)) (decimal (s.naming.start + place), refl, decimal_run (s.naming.start + place) (omega arith))

shape_name : (s : LogSet) (x : Path) → HasMemberShape s.naming x → IsOwnName s.log s.naming x
shape_name s x (last, shape, is) = a_member last shape is

-- what has a key has a member's shape
keyed_name : (s : LogSet) (o : Order) → order s ≡ o → IsKeyBy o s.naming s.key → (x : Path) (k : ℤ) → s.key x ≡ Some k → IsOwnName s.log s.naming x
keyed_name s Numbered q keys x k is = let m : (place : ℕ) × (k ≡ pos place) × IsMemberAt s.naming place x = (keys x k).0 is in member_name s x m.0 q m.2
keyed_name s Dated q keys x k is = let m : (seconds : ℤ) × (serial : ℕ) × (k ≡ stamp_key seconds serial) × IsDatedAt s.naming seconds serial x = (keys x k).0 is in shape_name s x (dated_shape s.naming m.0 m.1 x m.3)

pub in_reach_own : (s : LogSet) (x : Path) → in_reach s x ≡ true → IsOwnName s.log s.naming x
in_reach_own s x h = ⊎_elim unplaced (λ e. keyed (s.key x) refl e) (or_cases (is_unplaced s x) (is_some (s.key x)) h)
  where
    both_so : (a b : Bool) → (a && b) ≡ true → (a ≡ true) × (b ≡ true)
    both_so true b e = (refl, e)
    both_so false b e = absurd (cc)

    waits : (s.naming.aside && bytes_eq (aside_path s.log) x) ≡ true → IsOwnName s.log s.naming x
    waits e = let parts = both_so s.naming.aside (bytes_eq (aside_path s.log) x) e in set_aside parts.0 (sym ((bytes_eq-Decides (aside_path s.log) x).0 parts.1))

    unplaced : is_unplaced s x ≡ true → IsOwnName s.log s.naming x
    unplaced e = ⊎_elim (λ same. the_log (sym ((bytes_eq-Decides s.log x).0 same))) waits (or_cases (bytes_eq s.log x) (s.naming.aside && bytes_eq (aside_path s.log) x) e)

    keyed : (v : Option ℤ) → s.key x ≡ v → is_some v ≡ true → IsOwnName s.log s.naming x
    keyed None q e = absurd (cc)
    keyed (Some k) q e = keyed_name s (order s) refl s.keys x k q

pub outside : (s : LogSet) (x : Path) → (IsName s.log s.naming x → ⊥) → in_reach s x ≡ false
outside s x none = go (in_reach s x) refl
  where
    go : (b : Bool) → in_reach s x ≡ b → in_reach s x ≡ false
    go true q = absurd (none (inl (in_reach_own s x q)))
    go false q = q

-- the set doesn't reach what is a name of another set that it doesn't meet
pub apart_outside : (s : LogSet) (other : Path) (n : Naming) (x : Path) → (Meet s.log s.naming other n → ⊥) → IsName other n x → in_reach s x ≡ false
apart_outside s other n x apart name = go (in_reach s x) refl
  where
    go : (b : Bool) → in_reach s x ≡ b → in_reach s x ≡ false
    go true q = absurd (apart (x, inl (in_reach_own s x q, name)))
    go false q = q
