-- The members that go behind the moves are some of those that stand.
use Rattle.std.proofs.Common.{◌≡◌, ℕ, suc, Bool, true, false, not, ◌||◌, refl, sym, ap, ◌∙◌, subst, Option, List, map, ℤ}
use Rattle.std.specs.Prelude.{Contains, filter}
use Rattle.std.proofs.lemmas.Bool.{and_parts}
use Rattle.lr_rules.specs.declared.rule.Count.{Count}
use Rattle.lr_host.specs.Lists.{IsIn}
use Rattle.lr_host.proofs.Lists.{in_from, in_unmap, from_reverse, from_filter}
use Rattle.lr_family.specs.declared.stand.Member.{Member}
use Rattle.lr_family.specs.Stands.{number_in}
use Rattle.lr_chain.specs.Rotation.{is_left, is_expired, goes, going}

-- the member that comes from a place, and why it goes
pub record Goer (c : Count) (maxage : Option ℕ) (now : ℤ) (members : List Member) (place : ℕ) : Type 0 where
  pub one : Member
  pub there : IsIn one members
  pub number : number_in one.place ≡ place
  pub stays : is_left c place ≡ false
  pub why : (is_left c (suc place) || is_expired maxage now one) ≡ true

pub goer : (c : Count) (maxage : Option ℕ) (now : ℤ) (members : List Member) (place : ℕ) → Contains (going c maxage now members) place → Goer c maxage now members place
goer c maxage now members place h = record {
  one = m;
  there = found.0;
  number = it.2;
  stays = ap (is_left c) (sym it.2) ∙ not_true (is_left c (number_in m.place)) parts.0;
  why = subst (λ (k : ℕ). (is_left c (suc k) || is_expired maxage now m) ≡ true) it.2 parts.1;
}
  where
    not_true : (b : Bool) → not b ≡ true → b ≡ false
    not_true true e = absurd (cc)
    not_true false e = refl

    it : (x : Member) × IsIn x (filter (goes c maxage now) members) × (number_in x.place ≡ place)
    it = in_unmap (λ (x : Member). number_in x.place) place (filter (goes c maxage now) members)
        (from_reverse place (map (λ (x : Member). number_in x.place) (filter (goes c maxage now) members)) (in_from place (going c maxage now members) h))

    m : Member
    m = it.0

    found : IsIn m members × (goes c maxage now m ≡ true)
    found = from_filter (goes c maxage now) m members it.1

    parts : (not (is_left c (number_in m.place)) ≡ true) × ((is_left c (suc (number_in m.place)) || is_expired maxage now m) ≡ true)
    parts = and_parts (not (is_left c (number_in m.place))) (is_left c (suc (number_in m.place)) || is_expired maxage now m) found.1
