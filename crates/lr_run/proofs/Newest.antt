-- The path that a log gets is that of its newest member.
use Rattle.std.proofs.Common.{◌≡◌, inl, inr, refl, sym, ap, ◌∙◌, subst, List, [], Option, Some, None}
use Rattle.lr_rules.specs.declared.clock.Clock.{Clock}
use Rattle.lr_rules.specs.declared.path.Path.{Path}
use Rattle.lr_rules.specs.declared.rule.Format.{Format}
use Rattle.lr_rules.specs.declared.rule.Naming.{Naming}
use Rattle.lr_rules.specs.Dated.{IsDatedAt}
use Rattle.lr_rules.specs.Names.{IsMemberAt}
use Rattle.lr_stamps.specs.Dated.{clock_seconds}
use Rattle.lr_chain.specs.declared.ready.Ready.{Ready}
use Rattle.lr_chain.specs.Hindrances.{what_hinders}
use Rattle.lr_chain.specs.Serials.{next_serial}
use Rattle.lr_chain.proofs.Either.{ready_dates, target_at}
use Rattle.lr_laws_rotations.specs.Apart.{HasNames}
use Rattle.lr_laws_rotations.specs.Target.{Target, IsReadyBy}
use Rattle.lr_laws_rotations.proofs.Plan.{plan_is_one}
use Rattle.lr_run.specs.Copied.{IsNewestBy, IsNewest}
use Rattle.lr_family.specs.declared.stand.Member.{Member}
use Rattle.lr_laws_family.specs.Members.{IsNewestOf}

-- of numbers it is the first place
at_first : (n : Naming) (members : List Member) (x : Path) → n.dated ≡ None → IsNewestOf n members x → IsMemberAt n 0 x
at_first n members x numbered (inl h) = h.1
at_first n members x numbered (inr h) = let clash : None ≡ Some h.0.2.format = sym numbered ∙ h.0.2.dated in cc

pub target_newest : (clock : Clock) (t : Target) → HasNames t → what_hinders t.naming t.count clock t.stand ≡ [] → IsReadyBy clock t → IsNewest t.naming clock t.ready.target
target_newest clock t h free ready = go t.naming.dated refl
  where
    go : (d : Option Format) → t.naming.dated ≡ d → IsNewestBy d t.naming clock t.ready.target
    go None numbered = at_first t.naming t.stand.members t.ready.target numbered (plan_is_one t h).members.target
    go (Some format) dated = (
      next_serial t.stand.members (clock_seconds t.naming.dated clock),
      subst (IsDatedAt t.naming (clock_seconds t.naming.dated clock) (next_serial t.stand.members (clock_seconds t.naming.dated clock)))
          (sym (ap (λ (r : Ready). r.target) (ready ∙ ready_dates t.ready.log t.naming t.count t.maxage clock t.ready.make t.stand.members format dated)))
          (target_at t.naming t.count clock t.stand free format dated h.family.format h.named),
    )
