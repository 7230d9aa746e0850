-- The stand that a rotation goes by: its members are what is asked of them, also where its directory is made; and what is said of a stand that is the same.
use Rattle.std.proofs.Common.{◌≡◌, ℕ, Bool, true, false, List, [], ◌∷◌, Ok, Option, Some, None, refl, sym, ap, ◌∙◌, subst, arith}
use Rattle.std.specs.Prelude.{if◌then◌else◌}
use Rattle.lr_rules.specs.declared.clock.Clock.{Clock}
use Rattle.lr_rules.specs.declared.fault.Fault.{Fault}
use Rattle.lr_rules.specs.declared.path.Path.{Path}
use Rattle.lr_rules.specs.declared.rule.Count.{Count}
use Rattle.lr_rules.specs.declared.rule.Format.{Format}
use Rattle.lr_rules.specs.declared.rule.Make.{Make}
use Rattle.lr_rules.specs.declared.rule.Naming.{Naming}
use Rattle.lr_rules.specs.declared.rule.Rule.{Rule}
use Rattle.lr_family.specs.declared.stand.Member.{Member}
use Rattle.lr_family.specs.declared.stand.Stand.{Stand}
use Rattle.lr_family.proofs.Rising.{none_fall}
use Rattle.lr_chain.specs.declared.ready.Ready.{Ready}
use Rattle.lr_chain.specs.declared.ready.PrepareStop.{PrepareStop}
use Rattle.lr_chain.specs.Ready.{with_dir}
use Rattle.lr_chain.specs.Hindrances.{what_hinders, IsHindered}
use Rattle.lr_chain.specs.Prepared.{ready_by, ready_of}
use Rattle.lr_plan.specs.declared.looks.LogLook.{LogLook}
use Rattle.lr_planning.specs.Hindered.{prepare_fault}
use Rattle.lr_plan.specs.Planned.{makes_dir, dir_of, empty_stand, stand_for, with_stand, standing, hindrances, aside_hinders, or_else, first_path, with_log, make_for, ready_for, AreMembersOf, CanPlan}
use Rattle.lr_planning.proofs.Hindrances.{fault_hinders}

-- no members meet all that is asked of members; the format of their dates meets its limits as before
none_are : (n : Naming) (stand : Stand) → AreMembersOf n stand.members → AreMembersOf n []
none_are n stand h = record { format = h.format; named = λ at m lt. absurd (omega arith); newest = none_fall }

members_are : (made : Bool) (look : LogLook) → AreMembersOf look.family.naming look.stand.members → AreMembersOf look.family.naming (if made then empty_stand else look.stand).members
members_are true look h = none_are look.family.naming look.stand h
members_are false look h = h

standing_can : (rule : Rule) (look : LogLook) → CanPlan look → CanPlan (standing rule look)
standing_can rule look can = record { log = can.log; size = can.size; start = can.start; members = members_are (makes_dir rule look) look can.members }

-- from another path it is the same rotation
from_there : (d : Option Format) (x log : Path) (n : Naming) (c : Count) (maxage : Option ℕ) (clock : Clock) (anew : Make) (members : List Member) → with_log x (ready_by d log n c maxage clock anew members) ≡ ready_by d x n c maxage clock anew members
from_there None x log n c maxage clock anew members = refl
from_there (Some format) x log n c maxage clock anew members = refl

module _ (rule : Rule) (look : LogLook) (stand : Stand) (is : stand ≡ stand_for rule look) where
  -- the look can be planned for where this stands of its family
  pub can_stand : CanPlan look → CanPlan (with_stand stand look)
  can_stand can = subst (λ (s : Stand). CanPlan (with_stand s look)) (sym is) (standing_can rule look can)

  -- what is ready there is planned, with the directory, and from where the file stands
  pub ready_stands : (clock : Clock) (ready : Ready) → ready ≡ ready_of look.family.log look.family.naming rule.count rule.maxage clock (make_for rule look) stand.members
      → with_dir (dir_of rule look) (with_log (first_path rule.way look.path look.tmp) ready) ≡ ready_for clock rule look
  ready_stands clock ready h =
      ap (λ (r : Ready). with_dir (dir_of rule look) (with_log (first_path rule.way look.path look.tmp) r)) (h ∙ ap (λ (s : Stand). ready_of look.family.log look.family.naming rule.count rule.maxage clock (make_for rule look) s.members) is)
      ∙ ap (with_dir (dir_of rule look)) (from_there look.family.naming.dated (first_path rule.way look.path look.tmp) look.family.log look.family.naming rule.count rule.maxage clock (make_for rule look) (stand_for rule look).members)

  -- what hinders there is all that does, but for what stands where the log is set aside to
  hindrances_stand : (clock : Clock) → what_hinders look.family.naming rule.count clock stand ≡ what_hinders look.family.naming rule.count clock (stand_for rule look)
  hindrances_stand clock = ap (λ (s : Stand). what_hinders look.family.naming rule.count clock s) is

  pub free_stands : (clock : Clock) → what_hinders look.family.naming rule.count clock stand ≡ [] → hindrances clock rule look ≡ aside_hinders rule.way look.path look.tmp
  free_stands clock h = ap (λ (fs : List Fault). or_else fs (aside_hinders rule.way look.path look.tmp)) (sym (hindrances_stand clock) ∙ h)

  pub fault_stands : (clock : Clock) (stop : PrepareStop) (f : Fault) → IsHindered (what_hinders look.family.naming rule.count clock stand) stop → Ok f ≡ prepare_fault stop → hindrances clock rule look ≡ f ∷ []
  fault_stands clock stop f h told = ap (λ (fs : List Fault). or_else fs (aside_hinders rule.way look.path look.tmp)) (sym (hindrances_stand clock) ∙ fault_hinders _ stop f h told)
