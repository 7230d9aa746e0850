use Rattle.std.proofs.Common.{◌≡◌, sym, subst, ◌↔◌, inl, inr, refl, true, Option, Some, None, ℕ, ℤ, is_some}
use Rattle.lr_rules.specs.declared.path.Path.{Path}
use Rattle.lr_rules.specs.declared.rule.Naming.{Naming}
use Rattle.lr_rules.specs.Dated.{IsDatedAt}
use Rattle.lr_rules.specs.Names.{IsMemberAt}
use Rattle.lr_family.specs.declared.place.Place.{Place}
use Rattle.lr_family.specs.declared.place.Place.TheVariants as at
use Rattle.lr_family.specs.Parts.{IsMember}
use Rattle.lr_kept.proofs.members.has_member.Goals as goal

-- a path that has a place is a member's
placed : (n : Naming) (x : Path) (r : Option Place) → ((place : ℕ) → (r ≡ Some (at.Number place)) ↔ ((n.dated ≡ None) × IsMemberAt n place x)) → ((seconds : ℤ) (serial : ℕ) → (r ≡ Some (at.Stamp seconds serial)) ↔ IsDatedAt n seconds serial x) → (is_some r ≡ true) ↔ IsMember n x
placed n x (Some (at.Number place)) numbers stamps = ((λ h. let m = (numbers place).0 refl in inl (m.0, (place, m.1))), (λ h. refl))
placed n x (Some (at.Stamp seconds serial)) numbers stamps = ((λ h. inr (seconds, serial, (stamps seconds serial).0 refl)), (λ h. refl))
placed n x None numbers stamps = ((λ h. absurd (cc h)), (λ m. absurd (none m)))
  where
    none : IsMember n x → ⊥
    none (inl m) = absurd (let e = (numbers m.1.0).1 (m.0, m.1.1) in cc)
    none (inr m) = absurd (let e = (stamps m.0 m.1).1 m.2 in cc)

pub returns : goal.returns
returns c = subst (λ b. (b ≡ true) ↔ IsMember c.args.log.now.naming c.args.path.now) (sym c.is_some.ensures) (placed c.args.log.now.naming c.args.path.now c.place_of.result c.place_of.ensures.numbers c.place_of.ensures.stamps)
