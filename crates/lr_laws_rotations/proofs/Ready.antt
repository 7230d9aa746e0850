-- The places of a numbered family to which something comes have names, where nothing hinders its rotation.
use Rattle.std.proofs.Common.{◌≡◌, ℕ, suc, ◌+◌, ◌≤◌, false, refl, subst, arith, List, [], Option, None, ℤ}
use Rattle.std.specs.Prelude.{Contains}
use Rattle.std.proofs.lemmas.List.Elements.{All-weaker}
use Rattle.lr_rules.specs.declared.rule.Count.{Count}
use Rattle.lr_rules.specs.declared.rule.Count.TheVariants as count
use Rattle.lr_rules.specs.declared.rule.Naming.{Naming}
use Rattle.lr_rules.specs.Limits.{IsCount}
use Rattle.lr_family.specs.declared.stand.Member.{Member}
use Rattle.lr_family.specs.Places.{AreNamed}
use Rattle.lr_family.proofs.Numbers.{Every, every_from}
use Rattle.lr_chain.specs.Hindrances.{number_hindrances}
use Rattle.lr_chain.specs.Rotation.{places_of, is_left, going, retired}
use Rattle.lr_chain.proofs.Bounds.{none_too_high, have_next as next_places}
use Rattle.lr_chain.proofs.Retired.{every_retired}
use Rattle.lr_laws_family.specs.Numbered.{HasName, HaveNextNames}
use Rattle.lr_laws_family.proofs.Numbers.{place_of, first_named, next_at}
use Rattle.lr_laws_rotations.proofs.GoingMembers.{Goer, goer}

-- each place that a member or the log comes to has a name
pub have_next : (n : Naming) (c : Count) (members : List Member) → n.dated ≡ None → n.start ≤ 999999 → IsCount c → AreNamed n members → number_hindrances n c members ≡ [] → HaveNextNames n c (places_of members)
have_next n (count.Keep k) members none start small named free = omega (arith, start, small)
have_next n count.Always members none start small named free = (
  omega (arith, start),
  All-weaker (λ place. is_left count.Always place ≡ false → HasName n (place + 1)) (λ place. HasName n (place + 1)) (λ place next. next refl) (places_of members) (next_places n count.Always members none start small named (none_too_high n count.Always members free)),
)

-- so does each place at which something goes behind the moves
pub gone_named : (n : Naming) (c : Count) (maxage : Option ℕ) (now : ℤ) (members : List Member) → n.dated ≡ None → HaveNextNames n c (places_of members) → Every (HasName n) (retired c (going c maxage now members))
gone_named n c maxage now members none next = every_retired (HasName n) c (going c maxage now members) (every_from (λ k. HasName n (suc k)) (going c maxage now members) behind) (λ e. first_named n c (places_of members) next)
  where
    behind : (k : ℕ) → Contains (going c maxage now members) k → HasName n (suc k)
    behind k h = up (next_at n c (places_of members) next k (subst (Contains (places_of members)) g.number (place_of n none members g.one g.there)) g.stays)
      where
        g : Goer c maxage now members k
        g = goer c maxage now members k h

        up : HasName n (k + 1) → HasName n (suc k)
        up i = omega (arith, i)
