-- The logs that a run makes anew have their paths named at its end.
use Rattle.std.proofs.Common.{◌≡◌, ◌≢◌, inl, inr, refl, sym, ◌∙◌, subst, List, [], ◌∷◌, ◌++◌, map, reverse, Option, None}
use Rattle.std.specs.Prelude.{codes}
use Rattle.std.specs.List.{flat_map}
use Rattle.lr_rules.specs.declared.path.Path.{Path}
use Rattle.lr_rules.specs.declared.clock.Clock.{Clock}
use Rattle.lr_rules.specs.declared.fault.Fault.{Fault}
use Rattle.lr_rules.specs.declared.rule.Rule.{Rule}
use Rattle.lr_rules.specs.declared.rules.Rules.{Rules}
use Rattle.lr_rules.specs.Names.{the_log}
use Rattle.lr_host.specs.declared.entry.Entry.{Entry}
use Rattle.lr_host.specs.declared.journal.Journal.{Journal}
use Rattle.lr_host.specs.Lists.{IsIn}
use Rattle.lr_host.specs.Told.{Left, not_told, is_told}
use Rattle.lr_due.specs.declared.answer.Due.{Due}
use Rattle.lr_plan.specs.Asked.{Asked}
use Rattle.lr_plan.specs.declared.looks.LogLook.{LogLook}
use Rattle.lr_plan.specs.declared.looks.Looks.{Looks}
use Rattle.lr_plan.specs.declared.looks.SetLooks.{SetLooks}
use Rattle.lr_plan.specs.declared.mark.Mark.{Mark}
use Rattle.lr_plan.specs.declared.mark.Mark.TheVariants as mark
use Rattle.lr_plan.specs.declared.plan.Plan.{Plan}
use Rattle.lr_plan.specs.declared.plan.SetPlan.{SetPlan}
use Rattle.lr_plan.specs.Course.{Course}
use Rattle.lr_plan.specs.Done.{rotated_logs}
use Rattle.lr_plan.specs.Planned.{decision}
use Rattle.lr_plan.specs.Steps.{steps_of_set, steps_of_plan}
use Rattle.lr_acts.specs.Making.{all_of_sets}
use Rattle.lr_acts.specs.Named.{PathIsNamed, OneCreates, LastsBehind, IsCreated, TellCreated, KeepsNames}
use Rattle.lr_looks.specs.Shown.{ShowsLooks, LooksAtAll}
use Rattle.lr_laws_rotations.proofs.LogSeen.{log_among}
use Rattle.lr_state.specs.declared.remembered.Remembered.{Remembered}
use Rattle.lr_looks.specs.Reserved.{reserved_by}
use Rattle.lr_laws_looks.specs.Free.{IsFreeOf}
use Rattle.lr_laws_looks.specs.Targets.{groups_of, all_targets}
use Rattle.lr_laws_looks.proofs.Apart.{targets_dont_meet}
use Rattle.lr_laws_looks.proofs.Elements.{in_each}
use Rattle.lr_laws_looks.proofs.Free.{targets_free}
use Rattle.lr_laws_looks.proofs.Ready.{plans_have_logs}
use Rattle.lr_laws_looks.proofs.Seen.{targets_seen}
use Rattle.lr_state.specs.Written.{table_text}
use Rattle.lr_laws_rotations.specs.Target.{Target}
use Rattle.lr_laws_acts.specs.Planned.{AreReadyFor}
use Rattle.lr_state.specs.After.{after}
use Rattle.lr_run.specs.Internal.{plan_for, steps_of_writing}
use Rattle.lr_run.specs.Work.{Acts}
use Rattle.lr_run.proofs.Keeping.{writing_keeps}
use Rattle.lr_run.proofs.Lasting.{plan_lasts, created_among}
use Rattle.lr_run.proofs.Members.{HaveMembers, seen_members, all_ready}

-- ---- a plan of what was seen

module _ (state : Path) (rules : Rules) (sets : List SetLooks) (faults : List Fault) (looks : List Entry) (clock : Clock) (mailer : Path) (decide : Rule → LogLook → Due) (plans : List SetPlan) (shown : ShowsLooks (reserved_by state) rules.sets sets faults looks) where
  abbrev targets : List Target
  targets = all_targets clock decide rules.sets sets

  members : HaveMembers targets
  members t one = seen_members rules clock looks t (log_among rules clock looks targets (targets_seen rules sets faults looks clock decide shown) t one)

  module _ (ready : AreReadyFor targets (flat_map (λ (set : SetPlan). set.logs) plans)) (x : Path) (one : OneCreates x (all_of_sets (map steps_of_set plans))) where
    among : (t : Target) × IsIn t targets × (x ≡ t.log)
    among = created_among targets plans ready x one

    lasts : LastsBehind x (all_of_sets (map steps_of_set plans))
    lasts = plan_lasts x targets plans ready members (targets_dont_meet rules.sets sets faults looks clock decide shown) among.0 among.1 among.2

    free : (y : Path) → IsIn y (reserved_by state) → x ≢ y
    free y i same = in_each (IsFreeOf (reserved_by state)) targets among.0 (targets_free rules.sets sets faults looks clock decide shown) among.1 y i (inl (the_log (sym same ∙ among.2)))

-- ---- the run

-- a mark tells of the log
tell_of : (x : Path) (ms : List Mark) → IsIn (mark.Created x) ms → TellCreated x ms
tell_of x [] i = i
tell_of x (m ∷ ms) (inl same) = inl (subst (IsCreated x) (sym same) refl)
tell_of x (m ∷ ms) (inr later) = inr (tell_of x ms later)

-- a log that a step of the plan made anew is named at the end
module _ (state : Path) (rules : Rules) (looks : Looks) (remembered : Remembered) (clock : Clock) (asked : Asked) (acts : Acts) where
  abbrev planned : Plan
  planned = plan_for rules looks remembered clock asked

  abbrev decide : Rule → LogLook → Due
  decide = decision remembered.table clock.now asked.force

  untold : {P : List Entry → Type 0} {n : Option Journal} → Left P None n → (x : Path) → PathIsNamed x n
  untold not_told x = tt

  pub anew_named : (a b : List Fault) {P : List Entry → Type 0} {o m n middle : Option Journal} → Left (LooksAtAll (reserved_by state) rules.sets looks a b) o m → Left P m n → KeepsNames (all_of_sets (steps_of_plan planned)) acts.marks m middle
      → Left (Course (steps_of_writing state looks remembered clock acts) [] acts.of_state) middle n → (x : Path) → IsIn (mark.Created x) acts.marks → PathIsNamed x n
  anew_named a b not_told did names wrote x i = untold did x
  anew_named a b {n = n} {middle = middle} (is_told {es = es} made g) did names wrote x i =
      writing_keeps state remembered.stale acts.dirs (table_text (after remembered.table (rotated_logs acts.marks) looks.kept clock.now.civil)) acts.of_state x (out state (inl refl)) (out (state ++ codes ".tmp") (inr (inl refl))) wrote
      (names.created x behind tell)
    where
      tell : TellCreated x acts.marks
      tell = tell_of x acts.marks i

      one : OneCreates x (all_of_sets (steps_of_plan planned))
      one = names.planned x tell

      ready_for : AreReadyFor (targets state rules looks.sets g.own (reverse es) clock asked.mailer decide planned.sets g.shown) (flat_map (λ (set : SetPlan). set.logs) planned.sets)
      ready_for = all_ready (groups_of clock decide rules.sets looks.sets) planned.sets (plans_have_logs rules.sets looks.sets g.own (reverse es) clock asked.mailer decide g.shown)

      behind : LastsBehind x (all_of_sets (steps_of_plan planned))
      behind = lasts state rules looks.sets g.own (reverse es) clock asked.mailer decide planned.sets g.shown ready_for x one

      out : (w : Path) → IsIn w (reserved_by state) → x ≢ w
      out = free state rules looks.sets g.own (reverse es) clock asked.mailer decide planned.sets g.shown ready_for x one
