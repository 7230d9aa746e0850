-- The ways by which a run copies a log: from where it stands, or from where it is set aside.
use Rattle.std.proofs.Common.{◌≡◌, ◌≢◌, inl, inr, false, refl, sym, ◌∙◌, ap, subst, append_assoc, Option, Some, None, List, [], ◌∷◌, ◌++◌}
use Rattle.lr_rules.specs.declared.clock.Clock.{Clock}
use Rattle.lr_rules.specs.declared.path.Path.{Path}
use Rattle.lr_rules.specs.declared.rules.Rules.{Rules}
use Rattle.lr_rules.proofs.Beside.{beside_other}
use Rattle.lr_host.specs.declared.entry.Entry.{Entry}
use Rattle.lr_host.specs.declared.entry.Entry.TheVariants.{Renames, Unlinks}
use Rattle.lr_copy.specs.declared.job.Job.{Job}
use Rattle.lr_copy.specs.Copying.{clearing}
use Rattle.lr_laws_family.specs.Made.{IsJobOf, HasJob}
use Rattle.lr_laws_family.specs.Rotation.{By, steps_before, steps_behind}
use Rattle.lr_laws_rotations.specs.Rotation.{by_of, rotation_by}
use Rattle.lr_laws_rotations.specs.Seen.{IsLogSeen}
use Rattle.lr_laws_rotations.specs.Target.{Target, source_by, source_of, HasWay, IsTargetAside, target_entries}
use Rattle.lr_laws_rotations.proofs.CallsFit.{log_paths}
use Rattle.lr_laws_rotations.proofs.Rotating.{by_both}
use Rattle.lr_laws_rotations.proofs.Way.{has_way}

one_job : (o : Option Job) (a b : Job) → o ≡ Some a → o ≡ Some b → a ≡ b
one_job o a b p q = cc

-- ---- of one log

module _ (t : Target) (job : Job) (job_is : t.job ≡ Some job) where
  -- it is the only one
  pub job_same : (other : Job) → t.job ≡ Some other → other ≡ job
  job_same other is = one_job t.job other job is job_is

  pub by_is : (aside : Option Path) → t.aside ≡ aside → by_of t.job t.aside ≡ by_of (Some job) aside
  by_is aside goes = ap (λ (j : Option Job). by_of j t.aside) job_is ∙ ap (λ (a : Option Path). by_of (Some job) a) goes

  -- the source is where the log stands, or where it is set aside
  pub source_is : (aside : Option Path) → t.aside ≡ aside → source_of t ≡ source_by aside t.ready.log
  source_is aside goes = ap (λ (a : Option Path). source_by a t.ready.log) goes

  -- a log that is set aside isn't emptied
  pub not_emptied : IsTargetAside t → job.cut ≡ false
  not_emptied a = subst (λ (j : Job). j.cut ≡ false) (job_same a.job a.job_is) a.uncut

  -- one that is taken up isn't copied
  pub not_copied : t.job ≡ None → ⊥
  not_copied none = let both : None ≡ Some job = sym none ∙ job_is in cc

  -- ---- the renames and unlinks of its rotation, where it is set aside: up to the rename of the copy, and from there on

  abbrev before : List Entry
  before = steps_before (rotation_by t)

  abbrev behind : List Entry
  behind = steps_behind (rotation_by t)

  abbrev named : Entry
  named = Renames job.part job.to

  -- by the path at which the log stands, and by that to which it is set aside
  abbrev in_two : Path → Path → List Entry
  in_two from to = ((before ++ Renames from to ∷ []) ++ clearing job) ++ (named ∷ Unlinks to ∷ behind)

  cut_there : (from to : Path) → before ++ ((Renames from to ∷ (clearing job ++ named ∷ Unlinks to ∷ [])) ++ behind) ≡ in_two from to
  cut_there from to = ap (λ (es : List Entry). before ++ (Renames from to ∷ es)) (append_assoc (clearing job) (named ∷ Unlinks to ∷ []) behind)
      ∙ sym (append_assoc (before ++ Renames from to ∷ []) (clearing job) (named ∷ Unlinks to ∷ behind) ∙ append_assoc before (Renames from to ∷ []) (clearing job ++ (named ∷ Unlinks to ∷ behind)))

  pub aside_steps : (path : Path) → t.aside ≡ Some path → t.ready.log ≡ t.log
      → target_entries t ≡ ((steps_before (rotation_by t) ++ Renames t.log (source_of t) ∷ []) ++ clearing job) ++ (Renames job.part job.to ∷ Unlinks (source_of t) ∷ steps_behind (rotation_by t))
  aside_steps path goes first_is = by_both t (Some job) (Some path) job_is goes
      ∙ (cut_there t.ready.log path ∙ (ap (λ (x : Path). in_two x path) first_is ∙ ap (λ (x : Path). in_two t.log x) (sym (source_is (Some path) goes))))

-- ---- the copy is one of its rotation

module _ (rules : Rules) (clock : Clock) (looks : List Entry) (t : Target) (seen : IsLogSeen rules clock looks t) where
  of_rotation : (job : Job) → t.job ≡ Some job → IsJobOf (rotation_by t) job
  of_rotation job is = let own = (seen.job job is).0 in record { from_is = own.from_is; to_is = own.to_is; paths = log_paths rules clock looks t seen job is }

  -- the log isn't set aside to its own path
  apart : IsTargetAside t → t.log ≢ source_of t
  apart a same = beside_other t.log (same ∙ ap (λ (o : Option Path). source_by o t.ready.log) a.aside_is)

  pub has_job : HasJob (by_of t.job t.aside) (rotation_by t)
  has_job = go t.job refl (has_way seen.given.rule.way t seen.given.way_is)
    where
      go : (j : Option Job) → t.job ≡ j → HasWay t → HasJob (by_of t.job t.aside) (rotation_by t)
      go None none way = subst (λ (j : Option Job). HasJob (by_of j t.aside) (rotation_by t)) (sym none) tt
      go (Some job) is (inl stays) = subst (λ (by : By). HasJob by (rotation_by t)) (sym (by_is t job is None stays.aside_is)) (of_rotation job is)
      go (Some job) is (inr (asked, inl aside)) = subst (λ (by : By). HasJob by (rotation_by t)) (sym (by_is t job is (Some _) aside.aside_is)) (of_rotation job is, apart aside, not_emptied t job is aside)
      go (Some job) is (inr (asked, inr taken)) = absurd (not_copied t job is taken.no_job)
