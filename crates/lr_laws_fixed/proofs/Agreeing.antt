-- What the faults of a plan's acts deny was done neither by them nor by the writing of the state.
use Rattle.std.proofs.Common.{◌≡◌, inl, inr, ⊎_elim, List, [], ◌∷◌, ◌++◌, map, refl, sym, subst}
use Rattle.lr_rules.specs.declared.clock.Clock.{Clock}
use Rattle.lr_rules.specs.declared.fault.Fault.{Fault}
use Rattle.lr_rules.specs.declared.path.Path.{Path}
use Rattle.lr_rules.specs.declared.rule.Rule.{Rule}
use Rattle.lr_rules.specs.declared.rules.Rules.{Rules}
use Rattle.lr_due.specs.declared.answer.Due.{Due}
use Rattle.lr_host.specs.declared.entry.Entry.{Entry}
use Rattle.lr_host.specs.declared.entry.Entry.TheVariants as entry
use Rattle.lr_host.specs.Lists.{IsIn}
use Rattle.lr_host.specs.Told.{Each}
use Rattle.lr_host.proofs.Lists.{in_front, in_append}
use Rattle.lr_plan.specs.declared.looks.LogLook.{LogLook}
use Rattle.lr_plan.specs.declared.looks.SetLooks.{SetLooks}
use Rattle.lr_plan.specs.declared.mark.Mark.{Mark}
use Rattle.lr_plan.specs.Done.{SetsDone}
use Rattle.lr_plan.specs.Planned.{all_plans}
use Rattle.lr_plan.specs.Steps.{steps_of_set}
use Rattle.lr_acts.specs.Making.{all_of_sets}
use Rattle.lr_looks.specs.Shown.{ShowsLooks}
use Rattle.lr_looks.specs.Reserved.{reserved_by}
use Rattle.lr_run.proofs.Simple.{plan_simple}
use Rattle.lr_run.proofs.Stating.{IsWriting}
use Rattle.lr_laws_fixed.proofs.Keys.{Key, Made, keys_of, shown_by, shown, shown_joined, Keep, sets_keep, Agree}
use Rattle.lr_laws_fixed.proofs.PlanKeys.{plan_once, none_reserved}

-- ---- the writing of the state

-- a file is made at a path that the run reserves for itself
abbrev IsReserved : Path → Key → Type 0
IsReserved state k = (x : Path) × IsIn x (reserved_by state) × (k ≡ Made x)

-- no more is shown by it
write_key : (state : Path) (e : Entry) (k : Key) → IsWriting state e → IsIn k (shown_by e) → IsReserved state k
write_key state (entry.Makes x mode) k w (inl e) = (x, ⊎_elim (λ is. inl (sym is)) (λ is. inr (inl (sym is))) (w.1 refl), sym e)
write_key state (entry.Makes x mode) k w (inr none) = absurd none
write_key state (entry.Reads x place piece) k w i = absurd w.0
write_key state _ k w i = absurd i

state_keys : (state : Path) (ts : List Entry) → Each (IsWriting state) ts → (k : Key) → IsIn k (shown ts) → IsReserved state k
state_keys state [] a k i = absurd i
state_keys state (e ∷ es) a k i = ⊎_elim (λ x. write_key state e k a.0 x) (λ y. state_keys state es a.1 k y) (in_append k (shown_by e) (shown es) i)

-- ---- the acts of the plan

module _ (state : Path) (rules : Rules) (sets : List SetLooks) (of_looks : List Fault) (looks : List Entry) (clock : Clock) (mailer : Path) (decide : Rule → LogLook → Due) (seen : ShowsLooks (reserved_by state) rules.sets sets of_looks looks) where
  abbrev PlanDoes : List Key
  PlanDoes = keys_of (all_of_sets (map steps_of_set (all_plans clock mailer decide rules.sets sets)))

  -- they make no file at such a path
  not_reserved : (k : Key) → IsIn k PlanDoes → IsReserved state k → ⊥
  not_reserved k i r = none_reserved rules sets of_looks looks clock mailer decide seen r.0 r.1 (subst (λ (x : Key). IsIn x PlanDoes) r.2 i)

  pub acts_agree : (ms : List Mark) (fs : List Fault) (acts front back : List Entry) → acts ≡ front ++ back → SetsDone (map steps_of_set (all_plans clock mailer decide rules.sets sets)) ms fs front → Each (IsWriting state) back → Agree (shown acts) fs front
  acts_agree ms fs acts front back e done written = record {
    not = λ k i j. ⊎_elim (λ a. keep.apart k i a) (λ b. not_reserved k (keep.told k i) (state_keys state back written k b)) (in_append k (shown front) (shown back) (subst (IsIn k) (shown_joined acts front back e) j));
    has = λ k i. subst (IsIn k) (sym (shown_joined acts front back e)) (in_front k (shown front) (shown back) i);
  }
    where
      keep : Keep PlanDoes fs front
      keep = sets_keep (map steps_of_set (all_plans clock mailer decide rules.sets sets)) ms fs front (plan_simple clock mailer decide rules.sets sets) (plan_once rules sets of_looks looks clock mailer decide seen) done
