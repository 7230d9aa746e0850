-- A run of which no step of the logs failed turns the family of each log of its plan.
use Rattle.std.proofs.Common.{◌≡◌, ◌≢◌, inl, inr, Option, Some, None, List, [], ◌∷◌, ◌++◌, reverse, refl, sym, ap, ◌∙◌, subst}
use Rattle.lr_rules.specs.declared.clock.Clock.{Clock}
use Rattle.lr_rules.specs.declared.fault.Fault.{Fault}
use Rattle.lr_rules.specs.declared.path.Path.{Path}
use Rattle.lr_rules.specs.declared.rules.Rules.{Rules}
use Rattle.lr_rules.specs.Names.{IsOwnName, the_log}
use Rattle.lr_host.specs.declared.entry.Entry.{Entry}
use Rattle.lr_host.specs.declared.entry.Entry.TheVariants as entry
use Rattle.lr_host.specs.Lists.{IsIn}
use Rattle.lr_host.specs.Opening.{IsJournal}
use Rattle.lr_host.specs.Quiet.{AreQuiet}
use Rattle.lr_host.specs.Told.{Made}
use Rattle.lr_host.specs.World.{Past}
use Rattle.lr_family.proofs.Names.{member_own}
use Rattle.lr_copy.specs.declared.job.Job.{Job}
use Rattle.lr_copy.specs.Fits.{ArePaths}
use Rattle.lr_plan.specs.Asked.{Asked}
use Rattle.lr_plan.specs.Done.{PlanDone}
use Rattle.lr_laws_acts.specs.Emptied.{EmptiesCopied}
use Rattle.lr_laws_acts.proofs.Acts.{state_copying}
use Rattle.lr_laws_acts.proofs.Entries.{none_empties, both_empty}
use Rattle.lr_laws_rotations.specs.AllTurns.{paths_beside}
use Rattle.lr_laws_rotations.specs.Apart.{HasNames}
use Rattle.lr_laws_rotations.specs.Target.{Target, source_of, IsJob}
use Rattle.lr_laws_rotations.specs.Runs.{AllTurnedBy}
use Rattle.lr_laws_rotations.specs.Seen.{IsLogSeen}
use Rattle.lr_laws_rotations.proofs.CallsFit.{log_paths}
use Rattle.lr_laws_rotations.proofs.Own.{named_own}
use Rattle.lr_laws_rotations.proofs.Way.{source_own}
use Rattle.lr_laws_acts.specs.Planned.{HaveLogs, LogsDiffer}
use Rattle.lr_laws_acts.proofs.Stands.{stands_first, plan_stands, plan_empties}
use Rattle.lr_laws_looks.specs.Targets.{groups_of}
use Rattle.lr_laws_looks.proofs.Apart.{targets_apart}
use Rattle.lr_laws_looks.proofs.Ready.{plans_have_logs}
use Rattle.lr_looks.specs.Inside.{Inside}
use Rattle.lr_run.specs.InternalRuns.{Worked, plan_in}
use Rattle.lr_run.proofs.Members.{HasMembers, job_part, part_no_log, has_members}
use Rattle.lr_run.proofs.Rotating as rotating
use Rattle.lr_laws_family.specs.Made.{AreOutside, RotatesAmong}
use Rattle.lr_laws_family.specs.Members.{IsNoMember}
use Rattle.lr_laws_family.specs.Rotation.{Rotation, By, Rename, Copy, Aside, part_paths, way_of}
use Rattle.lr_laws_family.proofs.Whole.{turned as family_turned}
use Rattle.lr_laws_rotations.specs.Rotation.{by_of, rotation_by}
use Rattle.lr_laws_rotations.proofs.Whole.{rotates}
use Rattle.lr_laws_acts.specs.Copied.{CopyStands, IsSameFor}
use Rattle.lr_laws_acts.proofs.Rotates.{copied_among}
use Rattle.lr_laws_acts.proofs.Ways.{has_job}
use Rattle.lr_run.specs.InternalRuns.{rotated_in}
use Rattle.lr_run.specs.Rotated.{IsTurnedAmong}

module _ (state : Path) (asked : Asked) (clock : Clock) (rules : Rules) (own : List Fault) (p q : Past) (es reads acts : List Entry) (made : Made p es q) (journal : IsJournal p) (joined : reverse es ≡ reads ++ acts) (quiet : AreQuiet reads)
    (i : Inside state clock rules (Worked state rules.sets clock asked own) acts) (met_none : i.within.acted.entries.of_plan ≡ []) (t : Target) (one : IsIn t (rotated_in state rules.sets i.between i.within.looked clock asked)) where
  abbrev all : AllTurnedBy state clock rules ((((i.within.looked.reads ++ i.within.looked.looks) ++ i.within.acted.entries.entries.front) ++ i.within.acted.entries.entries.back) ++ entry.Ends ∷ [])
  all = rotating.turned state asked clock rules own p q es reads acts made journal joined quiet i met_none t one

  abbrev seen : IsLogSeen rules clock all.turns.looks t
  seen = rotating.seen state asked clock rules own p q es reads acts made journal joined quiet i met_none t one

  abbrev w : Worked state rules.sets clock asked own i.between
  w = i.within

  abbrev others : List Path
  others = paths_beside state t (rotated_in state rules.sets i.between i.within.looked clock asked)

  abbrev r : Rotation
  r = rotation_by t

  names : HasNames t
  names = rotating.names_any state asked clock rules own p q es reads acts made journal joined quiet i met_none t one

  members : HasMembers t
  members = has_members t names

  source_named : IsOwnName t.log t.naming (source_of t)
  source_named = named_own t.log t.naming (source_of t) (source_own t names)

  -- what is no name of the log's is none of its way, and no member's
  none_of_way : (by : By) (x : Path) → (IsOwnName t.log t.naming x → ⊥) → IsIn x (way_of r by) → ⊥
  none_of_way Rename x apart (inl same) = apart (subst (IsOwnName t.log t.naming) same source_named)
  none_of_way Rename x apart (inr none) = none
  none_of_way (Copy job) x apart (inl same) = apart (subst (IsOwnName t.log t.naming) same source_named)
  none_of_way (Copy job) x apart (inr none) = none
  none_of_way (Aside job) x apart (inl same) = apart (the_log (sym same))
  none_of_way (Aside job) x apart (inr (inl same)) = apart (subst (IsOwnName t.log t.naming) same source_named)
  none_of_way (Aside job) x apart (inr (inr none)) = none

  no_own : (x : Path) → IsIn x others → IsOwnName t.log t.naming x → ⊥
  no_own = rotating.paths_no_own state asked clock rules own p q es reads acts made journal joined quiet i met_none t one

  outside_others : (by : By) (x : Path) → IsIn x others → (IsIn x (way_of r by) → ⊥) × IsNoMember t.naming x
  outside_others by x j = (none_of_way by x (no_own x j), λ m. no_own x j (member_own t.log t.naming x m))

  -- ---- where it is renamed

  module _ (none : t.job ≡ None) where
    by_rename : by_of t.job t.aside ≡ Rename
    by_rename = ap (λ (j : Option Job). by_of j t.aside) none

    renamed_outside : AreOutside (part_paths (by_of t.job t.aside) ++ others) t.naming r
    renamed_outside = subst (λ (by : By). (x : Path) → IsIn x (part_paths by ++ others) → (IsIn x (way_of r by) → ⊥) × IsNoMember t.naming x) (sym by_rename) (outside_others Rename)

    renamed : RotatesAmong others t.naming r (reverse es)
    renamed = subst (RotatesAmong others t.naming r) (sym (rotating.whole_run state asked clock rules own p q es reads acts made journal joined quiet i met_none t one)) (rotates state clock rules (reads ++ i.before) _ all t (rotating.quiet_first state asked clock rules own p q es reads acts made journal joined quiet i met_none t one) one none)

    pub rename_turned : IsTurnedAmong state (rotated_in state rules.sets i.between i.within.looked clock asked) p q t
    rename_turned = λ spared. family_turned others t.naming r p q es (record {
      made = made;
      journal = journal;
      family = seen.family;
      no_source = members.no_source;
      rotation = rotating.is_one state asked clock rules own p q es reads acts made journal joined quiet i met_none t one;
      job = has_job rules clock all.turns.looks t seen;
      attached = spared;
      outside = renamed_outside;
      over = renamed;
    })

  -- ---- where it is copied, from where it stands or from where it is set aside

  module _ (job : Job) (job_is : t.job ≡ Some job) where
    is_job : IsJob t job
    is_job = (seen.job job job_is).0

    paths : ArePaths job
    paths = log_paths rules clock all.turns.looks t seen job job_is

    done : PlanDone (plan_in state rules.sets i.between w.looked clock asked) w.acted.marks [] w.acted.entries.entries.front
    done = subst (λ (fs : List Fault). PlanDone (plan_in state rules.sets i.between w.looked clock asked) w.acted.marks fs w.acted.entries.entries.front) met_none w.acted.entries.entries.first

    logs : HaveLogs (groups_of clock (rotating.decide state asked clock rules own p q es reads acts made journal joined quiet i met_none t one) rules.sets w.looked.sets) (plan_in state rules.sets i.between w.looked clock asked).sets
    logs = plans_have_logs rules.sets w.looked.sets w.looked.of_looks w.looked.looks clock asked.mailer _ w.looked.shown

    apart : LogsDiffer (rotated_in state rules.sets i.between i.within.looked clock asked)
    apart = targets_apart rules.sets w.looked.sets w.looked.of_looks w.looked.looks clock _ w.looked.shown

    stands : CopyStands job all.turns.acts
    stands = stands_first job (w.acted.entries.entries.front ++ w.acted.entries.entries.back) (entry.Ends ∷ []) _ refl
        (stands_first job w.acted.entries.entries.front w.acted.entries.entries.back _ refl (plan_stands t job _ _ w.acted.marks [] w.acted.entries.entries.front logs one job_is refl done))

    copies : EmptiesCopied (IsSameFor t.log job) all.turns.acts
    copies = both_empty (IsSameFor t.log job) (w.acted.entries.entries.front ++ w.acted.entries.entries.back) (entry.Ends ∷ [])
        (both_empty (IsSameFor t.log job) w.acted.entries.entries.front w.acted.entries.entries.back
        (plan_empties t job _ _ w.acted.marks [] w.acted.entries.entries.front logs apart one job_is done)
        (state_copying (IsSameFor t.log job) state w.looked.remembered.stale _ _ [] w.acted.entries.of_state w.acted.entries.entries.back w.acted.entries.entries.second))
        (none_empties (IsSameFor t.log job) (entry.Ends ∷ []) (tt, tt))

    -- the part file is no member, and the log stands at another path all its way
    part_out : IsNoMember t.naming job.part
    part_out = subst (IsNoMember t.naming) (sym (job_part t members job job_is)) members.apart

    part_no_source : r.source ≢ job.part
    part_no_source same = paths.part_apart (sym same ∙ sym is_job.from_is)

    part_off : (by : By) → IsIn job.part (way_of r by) → ⊥
    part_off Rename (inl same) = part_no_source same
    part_off Rename (inr none) = none
    part_off (Copy other) (inl same) = part_no_source same
    part_off (Copy other) (inr none) = none
    part_off (Aside other) (inl same) = part_no_log t members job job_is (sym same)
    part_off (Aside other) (inr (inl same)) = part_no_source same
    part_off (Aside other) (inr (inr none)) = none

    outside : AreOutside (job.part ∷ others) t.naming r
    outside y (inl same) = subst (λ (x : Path). (IsIn x (way_of r r.by) → ⊥) × IsNoMember t.naming x) same (part_off r.by, part_out)
    outside y (inr j) = outside_others r.by y j

    one_part : (aside : Option Path) → part_paths (by_of (Some job) aside) ≡ job.part ∷ []
    one_part None = refl
    one_part (Some path) = refl

    part_is : part_paths (by_of t.job t.aside) ≡ job.part ∷ []
    part_is = ap (λ (j : Option Job). part_paths (by_of j t.aside)) job_is ∙ one_part t.aside

    copied : RotatesAmong others t.naming r (reverse es)
    copied = subst (RotatesAmong others t.naming r) (sym (rotating.whole_run state asked clock rules own p q es reads acts made journal joined quiet i met_none t one))
        (copied_among state clock rules (reads ++ i.before) _ all t job (rotating.quiet_first state asked clock rules own p q es reads acts made journal joined quiet i met_none t one) one job_is (rotating.is_one state asked clock rules own p q es reads acts made journal joined quiet i met_none t one).members outside stands copies)

    pub copy_turned : IsTurnedAmong state (rotated_in state rules.sets i.between i.within.looked clock asked) p q t
    copy_turned = λ spared. family_turned others t.naming r p q es (record {
      made = made;
      journal = journal;
      family = seen.family;
      no_source = members.no_source;
      rotation = rotating.is_one state asked clock rules own p q es reads acts made journal joined quiet i met_none t one;
      job = has_job rules clock all.turns.looks t seen;
      attached = spared;
      outside = subst (λ (ps : List Path). AreOutside (ps ++ others) t.naming r) (sym part_is) outside;
      over = copied;
    })

  pub run_turned : IsTurnedAmong state (rotated_in state rules.sets i.between i.within.looked clock asked) p q t
  run_turned = go t.job refl
    where
      go : (j : Option Job) → t.job ≡ j → IsTurnedAmong state (rotated_in state rules.sets i.between i.within.looked clock asked) p q t
      go None none = rename_turned none
      go (Some job) is = copy_turned job is
