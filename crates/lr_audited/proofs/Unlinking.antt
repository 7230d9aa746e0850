-- What the steps of one log's rotation unlink, and where its files come from behind it.
use Rattle.std.proofs.Common.{◌≡◌, ◌≢◌, ◌⊎◌, inl, inr, Bool, true, false, cond, List, [], ◌∷◌, ◌++◌, map, Option, Some, None, refl, sym, ap, ◌∙◌, subst}
use Rattle.std.specs.Prelude.{filter}
use Rattle.std.specs.Option.{option_to_list}
use Rattle.std.proofs.lemmas.List.{append-nil}
use Rattle.std.proofs.lemmas.List.Elements.{All-contains, filter-append}
use Rattle.lr_rules.specs.declared.fault.Phase.TheVariants as phase
use Rattle.lr_rules.specs.declared.path.Path.{Path}
use Rattle.lr_rules.specs.declared.rule.Make.{Make}
use Rattle.lr_rules.specs.declared.rule.Make.TheVariants as make
use Rattle.lr_rules.specs.declared.rule.Rule.{Rule}
use Rattle.lr_rules.specs.Names.{the_log}
use Rattle.lr_rules.proofs.Beside.{beside_other}
use Rattle.lr_host.specs.Lists.{IsIn, AreDistinct}
use Rattle.lr_host.proofs.Lists.{in_to, of_flat}
use Rattle.lr_family.specs.Parts.{part_of, IsMember}
use Rattle.lr_family.proofs.Names.{member_own}
use Rattle.lr_scripts.specs.declared.command.Command.{Command}
use Rattle.lr_scripts.specs.declared.removal.Removal.{Removal}
use Rattle.lr_scripts.specs.Commands.{with_programs}
use Rattle.lr_copy.specs.declared.job.Job.{Job}
use Rattle.lr_chain.specs.declared.ready.Ready.{Ready}
use Rattle.lr_plan.specs.declared.step.Step.{Step}
use Rattle.lr_plan.specs.declared.step.Step.TheVariants as step
use Rattle.lr_plan.specs.Planned.{dressed}
use Rattle.lr_plan.specs.Steps.{program, removals, directory, move, step_if, copy, transfer, anew, made_anew, finishing}
use Rattle.lr_laws_family.specs.Members.{IsNoMember}
use Rattle.lr_laws_rotations.specs.Apart.{HasNames}
use Rattle.lr_laws_rotations.specs.Rotation.{removal_paths}
use Rattle.lr_laws_rotations.specs.Target.{Target}
use Rattle.lr_laws_rotations.proofs.Own.{named_own, family_members, target_member, part_file_own}
use Rattle.lr_laws_rotations.proofs.PartFile.{part_no_waiting, job_part, job_no_member}
use Rattle.lr_laws_rotations.proofs.Way.{not_aside, aside_is, stays_first, first_apart, aside_apart, first_own, aside_own}
use Rattle.lr_laws_acts.proofs.Fits.{NamesOf}
use Rattle.lr_audited.specs.Removed.{aside_going}
use Rattle.lr_audited.specs.Unlinked.{Origins, without, renamed, unlinked, going_paths}
use Rattle.lr_audited.proofs.Retiring.{log_from, ComesBy, landed, brought, Retires}
use Rattle.lr_audited.proofs.Tracing.{not_in_from, filter_all, without_it, without_other, renamed_to, renamed_other, run, run_both, unlinked_both, AllTouch, touch_both, touch_as, left_alone, run_alike, unlinked_program, run_directory, unlinked_directory, touch_program, touch_directory, dropped, gone, run_removals, unlinked_removals, unlinked_alone, touch_removals, dropped_other, gone_same, gone_pairs, unlinked_moves, touch_moves}

-- ---- a rename of the log's file, and the log made anew

module _ (m : Make) (log first to : Path) where
  abbrev renaming : Make → List Step
  renaming k = step.Renames first to ∷ step.Rotated log ∷ anew k log

  rename_at : (came : Origins) → to ≢ log → run came (renaming m) to ≡ came first
  rename_at came ne = by m
    where
      by : (k : Make) → run came (renaming k) to ≡ came first
      by make.No = renamed_to came first to
      by (make.Yes mode) = without_other (renamed first to came) log to ne ∙ renamed_to came first to

  rename_other : (came : Origins) (x : Path) → x ≢ first → x ≢ to → x ≢ log → run came (renaming m) x ≡ came x
  rename_other came x a b c = by m
    where
      by : (k : Make) → run came (renaming k) x ≡ came x
      by make.No = renamed_other came first to x a b
      by (make.Yes mode) = without_other (renamed first to came) log x c ∙ renamed_other came first to x a b

  rename_unlinks : (came : Origins) → unlinked came (renaming m) ≡ []
  rename_unlinks came = by m
    where
      by : (k : Make) → unlinked came (renaming k) ≡ []
      by make.No = refl
      by (make.Yes mode) = refl

  rename_touches : (P : Path → Type 0) → P first → P to → P log → AllTouch P (renaming m)
  rename_touches P a b c = ((a, b), (tt, by m))
    where
      by : (k : Make) → AllTouch P (anew k log)
      by make.No = tt
      by (make.Yes mode) = (c, tt)

-- ---- a copy

-- its steps, with an old part file or none, and the log emptied or not
abbrev copying : Bool → Bool → Job → List Step
copying stale cut job = step_if stale (step.Removes job.part) ++ (step.Takes job.part job.mode ∷ step.Copies job.from job.part job.limit ∷ step.SyncsFile job.part ∷ step.Renames job.part job.to ∷ step.SyncsDir job.dir ∷ step_if cut (step.Truncates job.from))

module _ (job : Job) where
  copying_at : (stale cut : Bool) (came : Origins) → run came (copying stale cut job) job.to ≡ None
  copying_at false false came = renamed_to (without job.part came) job.part job.to ∙ without_it came job.part
  copying_at false true came = renamed_to (without job.part came) job.part job.to ∙ without_it came job.part
  copying_at true false came = renamed_to (without job.part (without job.part came)) job.part job.to ∙ without_it (without job.part came) job.part
  copying_at true true came = renamed_to (without job.part (without job.part came)) job.part job.to ∙ without_it (without job.part came) job.part

  copying_other : (stale cut : Bool) (came : Origins) (x : Path) → x ≢ job.part → x ≢ job.to → run came (copying stale cut job) x ≡ came x
  copying_other false false came x a b = renamed_other (without job.part came) job.part job.to x a b ∙ without_other came job.part x a
  copying_other false true came x a b = renamed_other (without job.part came) job.part job.to x a b ∙ without_other came job.part x a
  copying_other true false came x a b = renamed_other (without job.part (without job.part came)) job.part job.to x a b ∙ (without_other (without job.part came) job.part x a ∙ without_other came job.part x a)
  copying_other true true came x a b = renamed_other (without job.part (without job.part came)) job.part job.to x a b ∙ (without_other (without job.part came) job.part x a ∙ without_other came job.part x a)

  copying_unlinks : (stale cut : Bool) (came : Origins) → unlinked came (copying stale cut job) ≡ cond stale (option_to_list (came job.part)) []
  copying_unlinks false false came = refl
  copying_unlinks false true came = refl
  copying_unlinks true false came = append-nil (option_to_list (came job.part))
  copying_unlinks true true came = append-nil (option_to_list (came job.part))

  copying_touches : (P : Path → Type 0) (stale cut : Bool) → P job.part → P job.to → AllTouch P (copying stale cut job)
  copying_touches P false false a b = (a, (tt, (tt, ((a, b), (tt, tt)))))
  copying_touches P false true a b = (a, (tt, (tt, ((a, b), (tt, (tt, tt))))))
  copying_touches P true false a b = (a, (a, (tt, (tt, ((a, b), (tt, tt))))))
  copying_touches P true true a b = (a, (a, (tt, (tt, ((a, b), (tt, (tt, tt)))))))

-- ---- one log

dressed_paths : (rule : Rule) (mailer log : Path) (rs : List Removal) → removal_paths (map (with_programs rule mailer log) rs) ≡ removal_paths rs
dressed_paths rule mailer log [] = refl
dressed_paths rule mailer log (r ∷ rs) = ap (λ (xs : List Path). r.path ∷ xs) (dressed_paths rule mailer log rs)

-- the steps of its rotation, and those of its retirement
abbrev pub turning : Ready → Path → Option Job → Option Path → List Step
turning ready log job aside = removals ready.leftovers ++ (directory ready.dir
    ++ (map move ready.moves ++ (transfer ready.log ready.target job aside ++ (step.Rotated log ∷ made_anew ready.make log job aside))))

abbrev pub retiring : Option Command → Ready → Option Job → Option Path → List Step
retiring first_mail ready job aside = finishing job aside ++ (program phase.Mail first_mail ++ removals ready.retire)

-- at each of them stands the file that stood there as the steps began
abbrev pub IsAsBefore : Target → Origins → Type 0
IsAsBefore t came = (x : Path) → NamesOf t x → came x ≡ Some x

-- The rotation of the log that is ready, with the programs of its rule before its removals.
module _ (t : Target) (h : HasNames t) (rule : Rule) (mailer : Path) where
  abbrev with_all : Ready
  with_all = dressed rule mailer t.log t.ready

  abbrev early : List Path
  early = removal_paths t.ready.leftovers

  abbrev mid : Origins → Origins
  mid came = run (dropped came early) (map move t.ready.moves)

  -- the log's way, and the log made anew
  abbrev tail : Option Job → Option Path → List Step
  tail job aside = transfer t.ready.log t.ready.target job aside ++ (step.Rotated t.log ∷ made_anew t.ready.make t.log job aside)

  abbrev from_moves : List Step
  from_moves = map move t.ready.moves ++ tail t.job t.aside

  early_are : removal_paths (map (with_programs rule mailer t.log) t.ready.leftovers) ≡ removal_paths t.ready.leftovers
  early_are = dressed_paths rule mailer t.log t.ready.leftovers

  late_are : removal_paths (map (with_programs rule mailer t.log) t.ready.retire) ≡ removal_paths t.ready.retire
  late_are = dressed_paths rule mailer t.log t.ready.retire

  -- ---- its paths

  early_members : (x : Path) → IsIn x (removal_paths t.ready.leftovers) → IsMember t.naming x
  early_members x i = All-contains (IsMember t.naming) (removal_paths t.ready.leftovers) x (family_members t h).early (in_to x (removal_paths t.ready.leftovers) i)

  late_members : (x : Path) → IsIn x (removal_paths t.ready.retire) → IsMember t.naming x
  late_members x i = All-contains (IsMember t.naming) (removal_paths t.ready.retire) x (family_members t h).gone (in_to x (removal_paths t.ready.retire) i)

  own_member : (x : Path) → IsMember t.naming x → NamesOf t x
  own_member x m = member_own t.log t.naming x m

  own_target : NamesOf t t.ready.target
  own_target = own_member t.ready.target (target_member t h)

  own_log : NamesOf t t.log
  own_log = the_log refl

  own_first : NamesOf t t.ready.log
  own_first = named_own t.log t.naming t.ready.log (first_own t h)

  own_aside : (path : Path) → t.aside ≡ Some path → NamesOf t path
  own_aside path is = named_own t.log t.naming path (aside_own t h path is)

  no_log : (x : Path) → IsMember t.naming x → x ≢ t.log
  no_log x m same = h.family.apart (subst (IsMember t.naming) same m)

  no_first : (x : Path) → IsMember t.naming x → x ≢ t.ready.log
  no_first x m same = first_apart t h (subst (IsMember t.naming) same m)

  no_aside : (path : Path) → t.aside ≡ Some path → (x : Path) → IsMember t.naming x → x ≢ path
  no_aside path is x m same = aside_apart t h path is (subst (IsMember t.naming) same m)

  aside_no_log : (path : Path) → t.aside ≡ Some path → path ≢ t.log
  aside_no_log path is same = beside_other t.log (sym same ∙ (aside_is t path h.way is).1)

  moves_touch : AllTouch (IsMember t.naming) (map move t.ready.moves)
  moves_touch = touch_moves (IsMember t.naming) t.ready.moves (family_members t h).moves

  module _ (job : Job) (is : t.job ≡ Some job) where
    part_no_member : IsNoMember t.naming job.part
    part_no_member = job_no_member t job h.family (target_member t h) (h.job job is)

    part_is : job.part ≡ part_of t.ready.target
    part_is = job_part t job h.family (target_member t h) (h.job job is)

    part_no_log : job.part ≢ t.log
    part_no_log same = h.parts t.ready.target (target_member t h) (sym part_is ∙ same)

    part_no_aside : (path : Path) → t.aside ≡ Some path → job.part ≢ path
    part_no_aside path aside same = part_no_waiting t.ready.target t.log (sym part_is ∙ (same ∙ (aside_is t path h.way aside).1))

    to_is : job.to ≡ t.ready.target
    to_is = (h.job job is).to_is

    own_part : NamesOf t job.part
    own_part = part_file_own t h job is

    copy_touches : AllTouch (NamesOf t) (copy job)
    copy_touches = copying_touches job (NamesOf t) job.stale job.cut own_part (subst (NamesOf t) (sym to_is) own_target)

  tail_touches : (j : Option Job) (a : Option Path) → t.job ≡ j → t.aside ≡ a → AllTouch (NamesOf t) (tail j a)
  tail_touches None a is aside = rename_touches t.ready.make t.log t.ready.log t.ready.target (NamesOf t) own_first own_target own_log
  tail_touches (Some job) None is aside = touch_both (NamesOf t) (copy job) (step.Rotated t.log ∷ []) (copy_touches job is) (tt, tt)
  tail_touches (Some job) (Some path) is aside = (tt, rename_touches t.ready.make t.log t.ready.log path (NamesOf t) own_first (own_aside path aside) own_log)

  finish_touches : (j : Option Job) (a : Option Path) → t.job ≡ j → t.aside ≡ a → AllTouch (NamesOf t) (finishing j a)
  finish_touches None a is aside = tt
  finish_touches (Some job) None is aside = tt
  finish_touches (Some job) (Some path) is aside = touch_both (NamesOf t) (copy job) (step.Removes path ∷ []) (copy_touches job is) (own_aside path aside, tt)

  pub rotation_touches : AllTouch (NamesOf t) (turning (dressed rule mailer t.log t.ready) t.log t.job t.aside)
  rotation_touches = touch_both (NamesOf t) (removals with_all.leftovers) (directory t.ready.dir ++ from_moves)
      (touch_removals (NamesOf t) with_all.leftovers (λ x i. own_member x (early_members x (subst (IsIn x) early_are i))))
      (touch_both (NamesOf t) (directory t.ready.dir) from_moves (touch_directory (NamesOf t) t.ready.dir)
      (touch_both (NamesOf t) (map move t.ready.moves) (tail t.job t.aside) (touch_as (IsMember t.naming) (NamesOf t) (map move t.ready.moves) own_member moves_touch) (tail_touches t.job t.aside refl refl)))

  pub retirement_touches : (first_mail : Option Command) → AllTouch (NamesOf t) (retiring first_mail (dressed rule mailer t.log t.ready) t.job t.aside)
  retirement_touches first_mail = touch_both (NamesOf t) (finishing t.job t.aside) (program phase.Mail first_mail ++ removals with_all.retire) (finish_touches t.job t.aside refl refl)
      (touch_both (NamesOf t) (program phase.Mail first_mail) (removals with_all.retire) (touch_program (NamesOf t) phase.Mail first_mail)
      (touch_removals (NamesOf t) with_all.retire (λ x i. own_member x (late_members x (subst (IsIn x) late_are i)))))

  -- ---- part by part

  run_rotation : (came : Origins) → run came (turning (dressed rule mailer t.log t.ready) t.log t.job t.aside) ≡ run (mid came) (tail t.job t.aside)
  run_rotation came =
      run_removals with_all.leftovers (directory t.ready.dir ++ from_moves) came
      ∙ (ap (λ (xs : List Path). run (dropped came xs) (directory t.ready.dir ++ from_moves)) early_are
      ∙ (run_directory t.ready.dir from_moves (dropped came early) ∙ run_both (dropped came early) (map move t.ready.moves) (tail t.job t.aside)))

  unlinked_rotation : (came : Origins) → unlinked came (turning (dressed rule mailer t.log t.ready) t.log t.job t.aside) ≡ gone came early ++ unlinked (mid came) (tail t.job t.aside)
  unlinked_rotation came =
      unlinked_removals with_all.leftovers (directory t.ready.dir ++ from_moves) came
      ∙ (ap (λ (xs : List Path). gone came xs ++ unlinked (dropped came xs) (directory t.ready.dir ++ from_moves)) early_are
      ∙ ap (λ (xs : List Path). gone came early ++ xs) (unlinked_directory t.ready.dir from_moves (dropped came early) ∙ unlinked_moves t.ready.moves (tail t.job t.aside) (dropped came early)))

  -- what is no member's path is untouched up to there
  mid_other : (came : Origins) (x : Path) → IsNoMember t.naming x → mid came x ≡ came x
  mid_other came x none = left_alone (IsMember t.naming) (map move t.ready.moves) (dropped came early) x moves_touch none
      ∙ dropped_other came early x (not_in_from x early (λ y i same. none (subst (IsMember t.naming) (sym same) (early_members y i))))

  mid_first : (came : Origins) → IsAsBefore t came → mid came t.ready.log ≡ Some t.ready.log
  mid_first came before = mid_other came t.ready.log (first_apart t h) ∙ before t.ready.log own_first

  mid_part : (came : Origins) → IsAsBefore t came → (job : Job) → t.job ≡ Some job → mid came job.part ≡ Some job.part
  mid_part came before job is = mid_other came job.part (part_no_member job is) ∙ before job.part (own_part job is)

  -- ---- behind the log's own way, and behind the copy of what was set aside

  abbrev settled : Origins → Option Job → Option Path → Origins
  settled came job aside = run (run (mid came) (tail job aside)) (finishing job aside)

  at_target : (came : Origins) → IsAsBefore t came → (j : Option Job) (a : Option Path) → t.job ≡ j → t.aside ≡ a → settled came j a t.ready.target ≡ log_from j t.ready.log
  at_target came before None a is aside = rename_at t.ready.make t.log t.ready.log t.ready.target (mid came) (no_log t.ready.target (target_member t h)) ∙ mid_first came before
  at_target came before (Some job) None is aside =
      ap (λ (g : Origins). g t.ready.target) (run_both (mid came) (copy job) (step.Rotated t.log ∷ []))
      ∙ subst (λ (x : Path). run (mid came) (copy job) x ≡ None) (to_is job is) (copying_at job job.stale job.cut (mid came))
  at_target came before (Some job) (Some path) is aside =
      let turned : Origins = run (mid came) (tail (Some job) (Some path)) in
      ap (λ (g : Origins). g t.ready.target) (run_both turned (copy job) (step.Removes path ∷ []))
      ∙ (without_other (run turned (copy job)) path t.ready.target (no_aside path aside t.ready.target (target_member t h))
      ∙ subst (λ (x : Path). run turned (copy job) x ≡ None) (to_is job is) (copying_at job job.stale job.cut turned))

  at_other : (came : Origins) (j : Option Job) (a : Option Path) (x : Path) → t.job ≡ j → t.aside ≡ a → IsMember t.naming x → x ≢ t.ready.target → settled came j a x ≡ mid came x
  at_other came None a x is aside m ne = rename_other t.ready.make t.log t.ready.log t.ready.target (mid came) x (no_first x m) ne (no_log x m)
  at_other came (Some job) None x is aside m ne =
      ap (λ (g : Origins). g x) (run_both (mid came) (copy job) (step.Rotated t.log ∷ []))
      ∙ copying_other job job.stale job.cut (mid came) x (λ same. part_no_member job is (subst (IsMember t.naming) same m)) (λ same. ne (same ∙ to_is job is))
  at_other came (Some job) (Some path) x is aside m ne =
      let turned : Origins = run (mid came) (tail (Some job) (Some path)) in
      ap (λ (g : Origins). g x) (run_both turned (copy job) (step.Removes path ∷ []))
      ∙ (without_other (run turned (copy job)) path x (no_aside path aside x m)
      ∙ (copying_other job job.stale job.cut turned x (λ same. part_no_member job is (subst (IsMember t.naming) same m)) (λ same. ne (same ∙ to_is job is))
      ∙ rename_other t.ready.make t.log t.ready.log path (mid came) x (no_first x m) (no_aside path aside x m) (no_log x m)))

  -- where it waits, the log's file stands
  waits : (came : Origins) → IsAsBefore t came → (job : Job) (path : Path) → t.aside ≡ Some path → run (mid came) (tail (Some job) (Some path)) path ≡ Some t.log
  waits came before job path aside = rename_at t.ready.make t.log t.ready.log path (mid came) (aside_no_log path aside) ∙ (mid_first came before ∙ ap Some (stays_first t path h.way aside))

  -- and an old part file stays up to the copy
  part_waits : (came : Origins) → IsAsBefore t came → (job : Job) (path : Path) → t.job ≡ Some job → t.aside ≡ Some path → run (mid came) (tail (Some job) (Some path)) job.part ≡ Some job.part
  part_waits came before job path is aside =
      rename_other t.ready.make t.log t.ready.log path (mid came) job.part (λ same. part_no_log job is (same ∙ stays_first t path h.way aside)) (part_no_aside job is path aside) (part_no_log job is)
      ∙ mid_part came before job is

  tail_is : (j : Option Job) (a : Option Path) → t.job ≡ j → t.aside ≡ a → tail t.job t.aside ≡ tail j a
  tail_is j a is aside = ap (λ (k : Option Job). tail k t.aside) is ∙ ap (λ (b : Option Path). tail j b) aside

  module _ (told : List Path) (retires : Retires t.naming (log_from t.job t.ready.log) (removal_paths t.ready.leftovers) t.ready.moves t.ready.target (removal_paths t.ready.retire) told) where
    -- ---- where the files that go come from

    abbrev IsOne : Option Path × Path → Type 0
    IsOne p = ComesBy t.naming (log_from t.job t.ready.log) (removal_paths t.ready.leftovers) t.ready.moves t.ready.target p

    came_so : (came : Origins) → IsAsBefore t came → (p : Option Path × Path) → IsOne p → run (run came (turning (dressed rule mailer t.log t.ready) t.log t.job t.aside)) (finishing t.job t.aside) p.1 ≡ p.0
    came_so came before p (landed e f) = ap (λ (g : Origins). run g (finishing t.job t.aside) p.1) (run_rotation came) ∙ (ap (settled came t.job t.aside) e ∙ (at_target came before t.job t.aside refl refl ∙ sym f))
    came_so came before p (brought x mx my ne e brings) = ap (λ (g : Origins). run g (finishing t.job t.aside) p.1) (run_rotation came) ∙ (at_other came t.job t.aside p.1 refl refl my ne ∙ (brings came ∙ (before x (own_member x mx) ∙ sym e)))

    own_pair : (p : Option Path × Path) → IsOne p → NamesOf t p.1
    own_pair p (landed e f) = subst (NamesOf t) (sym e) own_target
    own_pair p (brought x mx my ne e brings) = own_member p.1 my

    -- ---- what is told

    -- each that is told is where the log's file stood, or a member's
    told_own : (x : Path) → IsIn x told → (x ≡ t.ready.log) ⊎ IsMember t.naming x
    told_own x i =
        let q = of_flat (λ (p : Option Path × Path). option_to_list p.0) retires.pairs x (subst (IsIn x) retires.told_are i) in
        by q.0 (retires.each q.0 q.1) q.2
      where
        of_from : (job : Option Job) → IsIn x (option_to_list (log_from job t.ready.log)) → x ≡ t.ready.log
        of_from None (inl e) = sym e
        of_from None (inr none) = absurd none
        of_from (Some job) none = absurd none

        of_some : (y : Path) → IsIn x (option_to_list (Some y)) → y ≡ x
        of_some y (inl e) = e
        of_some y (inr none) = absurd none

        by : (p : Option Path × Path) → IsOne p → IsIn x (option_to_list p.0) → (x ≡ t.ready.log) ⊎ IsMember t.naming x
        by p (landed e f) j = inl (of_from t.job (subst (λ (o : Option Path). IsIn x (option_to_list o)) f j))
        by p (brought y mx my ne e brings) j = inr (subst (IsMember t.naming) (of_some y (subst (λ (o : Option Path). IsIn x (option_to_list o)) e j)) mx)

    -- ---- what is unlinked

    module _ (p : Path → Bool) (keeps : (x : Path) → (x ≡ t.ready.log) ⊎ IsMember t.naming x → p x ≡ true) (drops : (job : Job) → t.job ≡ Some job → p job.part ≡ false) where
      part_drops : (stale : Bool) (o : Option Path) (part : Path) → o ≡ Some part → p part ≡ false → filter p (cond stale (option_to_list o) []) ≡ []
      part_drops false o part is out = refl
      part_drops true o part is out = ap (λ (q : Option Path). filter p (option_to_list q)) is ∙ ap (λ (b : Bool). cond b (part ∷ []) []) out

      copy_drops : (came : Origins) (job : Job) → t.job ≡ Some job → came job.part ≡ Some job.part → filter p (unlinked came (copy job)) ≡ []
      copy_drops came job is stood = ap (filter p) (copying_unlinks job job.stale job.cut came) ∙ part_drops job.stale (came job.part) job.part stood (drops job is)

      tail_drops : (came : Origins) → IsAsBefore t came → (j : Option Job) (a : Option Path) → t.job ≡ j → t.aside ≡ a → filter p (unlinked (mid came) (tail j a)) ≡ []
      tail_drops came before None a is aside = ap (filter p) (rename_unlinks t.ready.make t.log t.ready.log t.ready.target (mid came))
      tail_drops came before (Some job) None is aside =
          ap (filter p) (unlinked_both (mid came) (copy job) (step.Rotated t.log ∷ []) ∙ append-nil (unlinked (mid came) (copy job)))
          ∙ copy_drops (mid came) job is (mid_part came before job is)
      tail_drops came before (Some job) (Some path) is aside = ap (filter p) (rename_unlinks t.ready.make t.log t.ready.log path (mid came))

      pub rotation_unlinks : AreDistinct (removal_paths t.ready.leftovers) → (came : Origins) → IsAsBefore t came → filter p (unlinked came (turning (dressed rule mailer t.log t.ready) t.log t.job t.aside)) ≡ removal_paths (dressed rule mailer t.log t.ready).leftovers
      rotation_unlinks distinct came before =
          ap (filter p) (unlinked_rotation came)
          ∙ (filter-append p (gone came early) (unlinked (mid came) (tail t.job t.aside))
          ∙ (ap (λ (xs : List Path). filter p (gone came early) ++ xs) (tail_drops came before t.job t.aside refl refl)
          ∙ (append-nil (filter p (gone came early))
          ∙ (ap (filter p) (gone_same came early distinct (λ x i. before x (own_member x (early_members x i))))
          ∙ (filter_all p early (λ x i. keeps x (inr (early_members x i))) ∙ sym early_are)))))

      -- where the files stand as the rotation leaves them
      module _ (came other : Origins) (before : IsAsBefore t came) (same : (x : Path) → NamesOf t x → other x ≡ run came (turning (dressed rule mailer t.log t.ready) t.log t.job t.aside) x) where
        left_so : (j : Option Job) (a : Option Path) → t.job ≡ j → t.aside ≡ a → (x : Path) → NamesOf t x → other x ≡ run (mid came) (tail j a) x
        left_so j a is aside x own = same x own ∙ (ap (λ (g : Origins). g x) (run_rotation came) ∙ ap (λ (steps : List Step). run (mid came) steps x) (tail_is j a is aside))

        -- the log that was set aside goes by its name before, and nothing else
        finish_unlinks : (j : Option Job) (a : Option Path) → t.job ≡ j → t.aside ≡ a → filter p (unlinked other (finishing j a)) ≡ going_paths (aside_going a t.log)
        finish_unlinks None None is aside = refl
        finish_unlinks None (Some path) is aside = absurd (let none : Some path ≡ None = sym aside ∙ not_aside t h.way is in cc)
        finish_unlinks (Some job) None is aside = refl
        finish_unlinks (Some job) (Some path) is aside =
            ap (filter p) (unlinked_both other (copy job) (step.Removes path ∷ []))
            ∙ (filter-append p (unlinked other (copy job)) (option_to_list (run other (copy job) path) ++ [])
            ∙ (ap (λ (xs : List Path). xs ++ filter p (option_to_list (run other (copy job) path) ++ [])) (copy_drops other job is (left_so (Some job) (Some path) is aside job.part (own_part job is) ∙ part_waits came before job path is aside))
            ∙ (ap (λ (o : Option Path). filter p (option_to_list o ++ [])) goes ∙ ap (λ (b : Bool). cond b (t.log ∷ []) []) (keeps t.log (inl (sym (stays_first t path h.way aside)))))))
          where
            goes : run other (copy job) path ≡ Some t.log
            goes = copying_other job job.stale job.cut other path (λ e. part_no_aside job is path aside (sym e)) (λ e. no_aside path aside t.ready.target (target_member t h) (sym (to_is job is) ∙ sym e))
                ∙ (left_so (Some job) (Some path) is aside path (own_aside path aside) ∙ waits came before job path aside)

        abbrev let_go : Origins
        let_go = run other (finishing t.job t.aside)

        settled_so : (x : Path) → NamesOf t x → run other (finishing t.job t.aside) x ≡ run (run came (turning (dressed rule mailer t.log t.ready) t.log t.job t.aside)) (finishing t.job t.aside) x
        settled_so x own = run_alike (NamesOf t) (finishing t.job t.aside) other (run came (turning (dressed rule mailer t.log t.ready) t.log t.job t.aside)) (finish_touches t.job t.aside refl refl) same x own

        removals_unlink : (first_mail : Option Command) → filter p (unlinked let_go (program phase.Mail first_mail ++ removals with_all.retire)) ≡ told
        removals_unlink first_mail =
            ap (filter p) (unlinked_program phase.Mail first_mail (removals with_all.retire) let_go
            ∙ (unlinked_alone with_all.retire let_go
            ∙ (ap (gone let_go) (late_are ∙ retires.gone_are)
            ∙ (gone_pairs let_go retires.pairs retires.apart (λ q i. settled_so q.1 (own_pair q (retires.each q i)) ∙ came_so came before q (retires.each q i)) ∙ sym retires.told_are))))
            ∙ filter_all p told (λ x i. keeps x (told_own x i))

        pub retirement_unlinks : (first_mail : Option Command) → filter p (unlinked other (retiring first_mail (dressed rule mailer t.log t.ready) t.job t.aside)) ≡ going_paths (aside_going t.aside t.log) ++ told
        retirement_unlinks first_mail =
            ap (filter p) (unlinked_both other (finishing t.job t.aside) (program phase.Mail first_mail ++ removals with_all.retire))
            ∙ (filter-append p (unlinked other (finishing t.job t.aside)) (unlinked let_go (program phase.Mail first_mail ++ removals with_all.retire))
            ∙ (ap (λ (xs : List Path). xs ++ filter p (unlinked let_go (program phase.Mail first_mail ++ removals with_all.retire))) (finish_unlinks t.job t.aside refl refl)
            ∙ ap (λ (xs : List Path). going_paths (aside_going t.aside t.log) ++ xs) (removals_unlink first_mail)))
