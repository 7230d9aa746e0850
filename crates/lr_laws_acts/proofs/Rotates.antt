-- A log that a run copies amid its rotation, from where it stands or from where it is set aside: its entries are one of the family, by the copy.
use Rattle.std.proofs.Common.{◌≡◌, ◌⊎◌, inl, inr, false, cond, refl, sym, ◌∙◌, ap, subst, append_assoc, Some, None, List, [], ◌∷◌, ◌++◌}
use Rattle.std.specs.Prelude.{filter, map}
use Rattle.lr_rules.specs.declared.clock.Clock.{Clock}
use Rattle.lr_rules.specs.declared.path.Path.{Path}
use Rattle.lr_rules.specs.declared.rules.Rules.{Rules}
use Rattle.lr_host.specs.declared.entry.Entry.{Entry}
use Rattle.lr_host.specs.declared.entry.Entry.TheVariants as entry
use Rattle.lr_host.specs.declared.entry.Entry.TheVariants.{Renames, Truncates, Unlinks}
use Rattle.lr_host.specs.Lists.{IsIn}
use Rattle.lr_host.specs.Quiet.{is_disk_change, AreQuiet}
use Rattle.lr_host.specs.Told.{Each}
use Rattle.lr_host.proofs.Each.{each_append, each_as}
use Rattle.lr_host.proofs.Lists.{in_back}
use Rattle.lr_copy.specs.declared.job.Job.{Job}
use Rattle.lr_copy.specs.Copying.{cutting}
use Rattle.lr_laws_acts.specs.Emptied.{EmptiesCopied}
use Rattle.lr_family.specs.Parts.{IsMember}
use Rattle.lr_chain.specs.Ready.{move_step}
use Rattle.lr_laws_family.specs.Beside.{IsBeside}
use Rattle.lr_laws_family.specs.Made.{AreOutside, IsBetween, Brings, RotatesAmong, SawFree}
use Rattle.lr_laws_family.specs.Rotation.{Rotation, By, Copy, Aside, unlinks, steps_before, steps_behind, part_paths, start_of, way_of, IsOfMembers}
use Rattle.lr_laws_family.specs.Shown.{SawFile}
use Rattle.lr_laws_family.specs.Weave.{Weave}
use Rattle.lr_laws_family.proofs.Core.{unlinks_each, moves_each, newest_own}
use Rattle.lr_laws_family.proofs.These.{IsOfThese}
use Rattle.lr_laws_family.proofs.Woven.{Parts, parts}
use Rattle.lr_laws_rotations.specs.AllTurns.{paths_beside}
use Rattle.lr_laws_rotations.specs.Rotation.{by_of, rotation_by}
use Rattle.lr_laws_rotations.specs.Runs.{AllTurnedBy}
use Rattle.lr_laws_rotations.specs.Seen.{IsLogSeen}
use Rattle.lr_laws_rotations.specs.Target.{Target, HasWay, IsJob}
use Rattle.lr_laws_rotations.proofs.LogSeen.{log_among}
use Rattle.lr_laws_rotations.proofs.Rotating.{copied_steps}
use Rattle.lr_laws_rotations.proofs.Way.{has_way}
use Rattle.lr_laws_rotations.proofs.Whole.{front, front_is, front_still, first_seen, members_seen}
use Rattle.lr_laws_acts.specs.Copied.{CopyStands, IsSameFor}
use Rattle.lr_laws_acts.proofs.Among.{early_woven, late_woven}
use Rattle.lr_laws_acts.proofs.Ways.{by_is, source_is, not_emptied, not_copied, aside_steps}
use Rattle.lr_laws_acts.proofs.Weaves.{weave_nothing}

-- The run rotated each log whole, and this one it copied, one entry behind another, emptying it behind that copy alone.
module _ (state : Path) (clock : Clock) (rules : Rules) (reads tail : List Entry) (t : AllTurnedBy state clock rules tail) (x : Target) (job : Job) (quiet : AreQuiet reads) (one : IsIn x t.turns.targets) (job_is : x.job ≡ Some job) (of : IsOfMembers x.naming (rotation_by x))
    (outside : AreOutside (job.part ∷ paths_beside state x t.turns.targets) x.naming (rotation_by x)) (copy_stands : CopyStands job t.turns.acts) (empties : EmptiesCopied (IsSameFor x.log job) t.turns.acts) where
  abbrev paths : List Path
  paths = paths_beside state x t.turns.targets

  abbrev r : Rotation
  r = rotation_by x

  abbrev looked : List Entry
  looked = front state clock rules reads tail t x quiet one

  -- a member's path, or one of the log's way
  abbrev Own : Path → Type 0
  Own y = IsMember x.naming y ⊎ IsIn y (way_of r r.by)

  abbrev Between : Entry → Type 0
  Between = IsBeside (job.part ∷ paths) x.log

  seen : IsLogSeen rules clock t.turns.looks x
  seen = log_among rules clock t.turns.looks t.turns.targets t.turns.seen x one

  is_job : IsJob x job
  is_job = (seen.job job job_is).0

  out : (y : Path) → IsIn y (job.part ∷ paths) → Own y → ⊥
  out y i (inl member) = (outside y i).1 member
  out y i (inr on) = (outside y i).0 on

  wider : (e : Entry) → IsOfThese (IsMember x.naming) e → IsOfThese Own e
  wider (Renames from to) h = (inl h.0, inl h.1)
  wider (Unlinks y) h = inl h
  wider _ h = absurd h

  before_own : Each (IsOfThese Own) (steps_before r)
  before_own = each_as (IsOfThese (IsMember x.naming)) (IsOfThese Own) (steps_before r) wider
      (each_append (IsOfThese (IsMember x.naming)) (unlinks r.early) (map move_step r.moves) (unlinks_each (IsMember x.naming) r.early of.early) (moves_each (IsMember x.naming) r.moves of.moves))

  behind_own : Each (IsOfThese Own) (steps_behind r)
  behind_own = each_as (IsOfThese (IsMember x.naming)) (IsOfThese Own) (steps_behind r) wider (unlinks_each (IsMember x.naming) r.gone of.gone)

  own_to : Own job.to
  own_to = inl (subst (IsMember x.naming) (sym is_job.to_is) (newest_own x.naming x.stand.members x.ready.target of.target))

  -- what stands between is what may, by what brings the log to its target
  woven_by : (by : By) (steps ts : List Entry) → by_of x.job x.aside ≡ by → part_paths by ≡ job.part ∷ [] → Weave Between steps ts → Weave (IsBetween paths r) steps ts
  woven_by by steps ts is part w = subst (λ (ps : List Path). Weave (IsBeside (ps ++ paths) x.log) steps ts) (sym (ap part_paths is ∙ part)) w

  -- ---- it is copied from where it stands

  module _ (stays : x.aside ≡ None) where
    copy_is : by_of x.job x.aside ≡ Copy job
    copy_is = by_is x job job_is None stays

    source_seen : SawFile r.source looked
    source_seen = subst (λ (y : Path). SawFile y looked) (sym (source_is x job job_is None stays)) (first_seen state clock rules reads tail t x quiet one)

    copied_there : RotatesAmong paths x.naming r (reads ++ entry.Starts state clock.now rules ∷ tail)
    copied_there = record {
      front = looked;
      early = copy_stands.before;
      brought = copy_stands.named ++ cutting job;
      late = copy_stands.after;
      joined = front_is state clock rules reads tail t x quiet one ∙ ap (λ zs. looked ++ zs) (copy_stands.joined ∙ ap (λ zs. copy_stands.before ++ zs) (sym (append_assoc copy_stands.named (cutting job) copy_stands.after)));
      still = front_still state clock rules reads tail t x quiet one;
      start_seen = subst (λ (by : By). SawFile (start_of r by) looked) (sym copy_is) source_seen;
      free_seen = subst (λ (by : By). SawFree by r looked) (sym copy_is) tt;
      seen = members_seen state clock rules reads tail t x quiet one;
      before_it = woven_by (Copy job) (steps_before r) (filter is_disk_change copy_stands.before) copy_is refl
          (early_woven state x t.turns.targets t.turns.acts job Own (steps_before r) (steps_behind r) job_is (t.whole x one) (copied_steps x job job_is stays) before_own behind_own own_to out copy_stands empties);
      brings = subst (λ (by : By). Brings by paths r (copy_stands.named ++ cutting job)) (sym copy_is) (copy_stands.count, record { front = copy_stands.named; back = cutting job; joined = refl; first = copy_stands.is_named; second = refl });
      behind_it = woven_by (Copy job) (steps_behind r) (filter is_disk_change copy_stands.after) copy_is refl
          (late_woven state x t.turns.targets t.turns.acts job Own (steps_before r) (steps_behind r) job_is (t.whole x one) (copied_steps x job job_is stays) before_own behind_own own_to out copy_stands empties);
    }

  -- ---- it is copied from where it is set aside

  module _ (path : Path) (goes : x.aside ≡ Some path) (first_is : x.ready.log ≡ x.log) (uncut : job.cut ≡ false) where
    aside_is : by_of x.job x.aside ≡ Aside job
    aside_is = by_is x job job_is (Some path) goes

    abbrev goes_aside : Entry
    goes_aside = Renames x.log r.source

    abbrev let_go : Entry
    let_go = Unlinks r.source

    on_way : (y : Path) → IsIn y (x.log ∷ r.source ∷ []) → Own y
    on_way y i = inr (subst (λ (by : By). IsIn y (way_of r by)) (sym aside_is) i)

    first_own : Each (IsOfThese Own) (steps_before r ++ goes_aside ∷ [])
    first_own = each_append (IsOfThese Own) (steps_before r) (goes_aside ∷ []) before_own ((on_way x.log (inl refl), on_way r.source (inr (inl refl))), tt)

    last_own : Each (IsOfThese Own) (let_go ∷ steps_behind r)
    last_own = (on_way r.source (inr (inl refl)), behind_own)

    -- it is set aside before its copy, and let go behind it
    before_copy : Parts Between (steps_before r) goes_aside [] copy_stands.before
    before_copy = parts Between copy_stands.before (steps_before r) [] goes_aside
        (early_woven state x t.turns.targets t.turns.acts job Own (steps_before r ++ goes_aside ∷ []) (let_go ∷ steps_behind r) job_is (t.whole x one) (aside_steps x job job_is path goes first_is) first_own last_own own_to out copy_stands empties)

    behind_copy : Parts Between [] let_go (steps_behind r) copy_stands.after
    behind_copy = parts Between copy_stands.after [] (steps_behind r) let_go
        (late_woven state x t.turns.targets t.turns.acts job Own (steps_before r ++ goes_aside ∷ []) (let_go ∷ steps_behind r) job_is (t.whole x one) (aside_steps x job job_is path goes first_is) first_own last_own own_to out copy_stands empties)

    abbrev waits : List Entry
    waits = before_copy.late

    abbrev rests : List Entry
    rests = behind_copy.early

    abbrev brought : List Entry
    brought = goes_aside ∷ (waits ++ (copy_stands.named ++ (rests ++ let_go ∷ [])))

    -- all of it, from there on, with what comes behind it
    together : (late : List Entry) → brought ++ late ≡ goes_aside ∷ (waits ++ (copy_stands.named ++ (rests ++ (let_go ∷ late))))
    together late = ap (λ zs. goes_aside ∷ zs) (append_assoc waits (copy_stands.named ++ (rests ++ let_go ∷ [])) late ∙ ap (λ zs. waits ++ zs)
        (append_assoc copy_stands.named (rests ++ let_go ∷ []) late ∙ ap (λ zs. copy_stands.named ++ zs) (append_assoc rests (let_go ∷ []) late)))

    uncutting : cutting job ≡ []
    uncutting = ap (λ b. cond b (Truncates job.from ∷ []) []) uncut

    acts_are : t.turns.acts ≡ before_copy.early ++ (brought ++ behind_copy.late)
    acts_are = copy_stands.joined
        ∙ (ap (λ zs. copy_stands.before ++ (copy_stands.named ++ (zs ++ copy_stands.after))) uncutting
        ∙ (ap (λ zs. copy_stands.before ++ (copy_stands.named ++ zs)) behind_copy.joined
        ∙ (ap (λ zs. zs ++ (copy_stands.named ++ (rests ++ (let_go ∷ behind_copy.late)))) before_copy.joined
        ∙ (append_assoc before_copy.early (goes_aside ∷ waits) (copy_stands.named ++ (rests ++ (let_go ∷ behind_copy.late)))
        ∙ ap (λ zs. before_copy.early ++ zs) (sym (together behind_copy.late))))))

    log_seen : SawFile x.log looked
    log_seen = subst (λ (y : Path). SawFile y looked) first_is (first_seen state clock rules reads tail t x quiet one)

    free : IsIn (entry.Look r.source None) looked
    free = subst (λ (y : Path). IsIn (entry.Look y None) looked) (sym (source_is x job job_is (Some path) goes)) (in_back (entry.Look path None) reads (entry.Starts state clock.now rules ∷ t.turns.looks) (inr (seen.way_seen.free path goes)))

    copied_aside : RotatesAmong paths x.naming r (reads ++ entry.Starts state clock.now rules ∷ tail)
    copied_aside = record {
      front = looked;
      early = before_copy.early;
      brought = brought;
      late = behind_copy.late;
      joined = front_is state clock rules reads tail t x quiet one ∙ ap (λ zs. looked ++ zs) acts_are;
      still = front_still state clock rules reads tail t x quiet one;
      start_seen = subst (λ (by : By). SawFile (start_of r by) looked) (sym aside_is) log_seen;
      free_seen = subst (λ (by : By). SawFree by r looked) (sym aside_is) free;
      seen = members_seen state clock rules reads tail t x quiet one;
      before_it = woven_by (Aside job) (steps_before r) (filter is_disk_change before_copy.early) aside_is refl before_copy.before;
      brings = subst (λ (by : By). Brings by paths r brought) (sym aside_is) (record {
        waits = waits;
        named = copy_stands.named;
        rests = rests;
        joined = refl;
        waits_are = weave_nothing Between (filter is_disk_change waits) before_copy.behind;
        count = copy_stands.count;
        is_named = copy_stands.is_named;
        rests_are = weave_nothing Between (filter is_disk_change rests) behind_copy.before;
      });
      behind_it = woven_by (Aside job) (steps_behind r) (filter is_disk_change behind_copy.late) aside_is refl behind_copy.behind;
    }

  -- so its copy stands amid its rotation
  pub copied_among : RotatesAmong (paths_beside state x t.turns.targets) x.naming (rotation_by x) (reads ++ entry.Starts state clock.now rules ∷ tail)
  copied_among = go (has_way seen.given.rule.way x seen.given.way_is)
    where
      go : HasWay x → RotatesAmong paths x.naming r (reads ++ entry.Starts state clock.now rules ∷ tail)
      go (inl stays) = copied_there stays.aside_is
      go (inr (asked, inl aside)) = copied_aside _ aside.aside_is aside.first_is (not_emptied x job job_is aside)
      go (inr (asked, inr taken)) = absurd (not_copied x job job_is taken.no_job)
