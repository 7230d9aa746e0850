-- The acts of a plan make no part file of the state.
use Rattle.std.proofs.Common.{◌≡◌, inl, inr, ℕ, Bool, true, false, bytes_eq, Option, List, [], ◌∷◌, map, refl, sym, ◌∙◌, subst}
use Rattle.std.proofs.lemmas.Slice.Eq.{bytes_eq-Decides}
use Rattle.lr_rules.specs.declared.clock.Clock.{Clock}
use Rattle.lr_rules.specs.declared.fault.Fault.{Fault}
use Rattle.lr_rules.specs.declared.path.Path.{Path}
use Rattle.lr_rules.specs.declared.rule.Rule.{Rule}
use Rattle.lr_rules.specs.declared.rules.Rules.{Rules}
use Rattle.lr_rules.specs.Names.{the_log, IsOwnName}
use Rattle.lr_rules.specs.StatePath.{state_part}
use Rattle.lr_due.specs.declared.answer.Due.{Due}
use Rattle.lr_host.specs.declared.entry.Entry.{Entry}
use Rattle.lr_host.specs.declared.entry.Entry.TheVariants as entry
use Rattle.lr_host.specs.Lists.{IsIn}
use Rattle.lr_host.proofs.Each.{each_as, none_pass}
use Rattle.lr_looks.specs.Shown.{ShowsLooks}
use Rattle.lr_plan.specs.declared.looks.LogLook.{LogLook}
use Rattle.lr_plan.specs.declared.looks.SetLooks.{SetLooks}
use Rattle.lr_plan.specs.declared.mark.Mark.{Mark}
use Rattle.lr_plan.specs.Done.{SetsDone}
use Rattle.lr_plan.specs.Planned.{all_plans}
use Rattle.lr_plan.specs.Steps.{steps_of_set}
use Rattle.lr_laws_rotations.specs.Target.{Target}
use Rattle.lr_laws_rotations.specs.Apart.{TargetsHaveNames}
use Rattle.lr_laws_rotations.proofs.Own.{part_file_own}
use Rattle.lr_laws_acts.specs.Parts.{MakesOnly, MakesOne}
use Rattle.lr_laws_acts.proofs.Parting.{sets_parts}
use Rattle.lr_laws_acts.proofs.Planning.{ready_planned}
use Rattle.lr_laws_looks.specs.Free.{AreFreeOf}
use Rattle.lr_looks.specs.Reserved.{reserved_by}
use Rattle.lr_laws_looks.specs.Targets.{groups_of, all_targets}
use Rattle.lr_laws_looks.proofs.Apart.{targets_apart}
use Rattle.lr_laws_looks.proofs.Free.{targets_free}
use Rattle.lr_laws_looks.proofs.Ready.{plans_have_logs}
use Rattle.lr_laws_looks.proofs.Seen.{targets_have_names}
use Rattle.lr_laws_fixed.proofs.Writing.{is_make, makes_in}

-- what they make is no file that the run reserves for itself
not_reserved : (reserved : List Path) (ts : List Target) (x part : Path) (mode : Option ℕ) → TargetsHaveNames ts → AreFreeOf reserved ts → IsIn part reserved → MakesOne ts (entry.Makes x mode) → x ≡ part → ⊥
not_reserved reserved [] x part mode names free i h e = h
not_reserved reserved (t ∷ ts) x part mode names free i (inl (inl is)) e = free.0 part i (inl (the_log (sym e ∙ is)))
not_reserved reserved (t ∷ ts) x part mode names free i (inl (inr p)) e = free.0 part i (inl (subst (IsOwnName t.log t.naming) (sym p.2 ∙ e) (part_file_own t names.0 p.0 p.1)))
not_reserved reserved (t ∷ ts) x part mode names free i (inr h) e = not_reserved reserved ts x part mode names.1 free.1 i h e

no_make : (reserved : List Path) (ts : List Target) (part : Path) (e : Entry) → TargetsHaveNames ts → AreFreeOf reserved ts → IsIn part reserved → MakesOnly (MakesOne ts) e → is_make part e ≡ false
no_make reserved ts part (entry.Makes x mode) names free i h = go (bytes_eq x part) refl
  where
    go : (b : Bool) → bytes_eq x part ≡ b → b ≡ false
    go true same = absurd (not_reserved reserved ts x part mode names free i h ((bytes_eq-Decides x part).0 same))
    go false differ = refl
no_make reserved ts part _ names free i h = refl

-- the acts of the plan make no part file of the state
pub acts_make_none : (state : Path) (rules : Rules) (sets : List SetLooks) (clock : Clock) (mailer : Path) (decide : Rule → LogLook → Due) (of_looks : List Fault) (looks : List Entry) (ms : List Mark) (fs : List Fault) (ts : List Entry) → ShowsLooks (reserved_by state) rules.sets sets of_looks looks
    → SetsDone (map steps_of_set (all_plans clock mailer decide rules.sets sets)) ms fs ts → makes_in (state_part state) ts ≡ []
acts_make_none state rules sets clock mailer decide of_looks looks ms fs ts shown done =
    none_pass (is_make (state_part state)) ts (each_as (MakesOnly (MakesOne (all_targets clock decide rules.sets sets))) (λ e. is_make (state_part state) e ≡ false) ts
    (λ e h. no_make (reserved_by state) (all_targets clock decide rules.sets sets) (state_part state) e (targets_have_names rules sets of_looks looks clock decide shown) (targets_free rules.sets sets of_looks looks clock decide shown) (inr (inl refl)) h)
    (sets_parts (MakesOne (all_targets clock decide rules.sets sets)) (map steps_of_set (all_plans clock mailer decide rules.sets sets)) ms fs ts
    (ready_planned (groups_of clock decide rules.sets sets) (all_plans clock mailer decide rules.sets sets) (plans_have_logs rules.sets sets of_looks looks clock mailer decide shown) (targets_apart rules.sets sets of_looks looks clock decide shown)).plain done).only)
