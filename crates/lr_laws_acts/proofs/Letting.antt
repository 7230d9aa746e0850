-- Where acts unlink a path from which a copy was made: just behind that copy.
use Rattle.std.proofs.Common.{◌≡◌, ◌≢◌, ◌⊎◌, inl, inr, ⊎_elim, refl, sym, ◌∙◌, ap, subst, ℕ, Bool, true, false, cond, List, [], ◌∷◌, ◌++◌, map, append_assoc, append-nil, Option, Some, None}
use Rattle.std.specs.Prelude.{All, if◌then◌else◌}
use Rattle.std.specs.List.{flat_map, list_any}
use Rattle.std.proofs.lemmas.List.Elements.{All-nil, All-cons, All-head, All-tail}
use Rattle.lr_rules.specs.declared.fault.Fault.{Fault}
use Rattle.lr_rules.specs.declared.fault.Phase.{Phase}
use Rattle.lr_rules.specs.declared.fault.Phase.TheVariants as phase
use Rattle.lr_rules.specs.declared.path.Path.{Path}
use Rattle.lr_rules.specs.declared.rule.Make.{Make}
use Rattle.lr_rules.specs.declared.rule.Make.TheVariants as make
use Rattle.lr_rules.specs.StatePath.{state_part}
use Rattle.lr_host.specs.declared.entry.Entry.{Entry}
use Rattle.lr_host.specs.declared.entry.Entry.TheVariants as entry
use Rattle.lr_host.specs.Told.{Each}
use Rattle.lr_host.proofs.Each.{each_last}
use Rattle.lr_scripts.specs.declared.command.Command.{Command}
use Rattle.lr_scripts.specs.declared.removal.Removal.{Removal}
use Rattle.lr_chain.specs.declared.ready.Move.{Move}
use Rattle.lr_copy.specs.declared.job.Job.{Job}
use Rattle.lr_plan.specs.declared.mark.Mark.{Mark}
use Rattle.lr_plan.specs.declared.plan.LogPlan.{LogPlan}
use Rattle.lr_plan.specs.declared.plan.SetPlan.{SetPlan}
use Rattle.lr_plan.specs.declared.step.SetSteps.{SetSteps}
use Rattle.lr_plan.specs.declared.step.Step.{Step}
use Rattle.lr_plan.specs.declared.step.Step.TheVariants as step
use Rattle.lr_plan.specs.Course.{Part, Nothing, Course, Unbroken, Both, Every}
use Rattle.lr_plan.specs.Cut.{CourseCut, ListCut, LogsCut, in_each, in_last, SetCut, in_first as in_first_cut, in_logs, SetsCut}
use Rattle.lr_plan.specs.Done.{LogsThen, LogsDone, is_rotated, if_rotated, SetDone, broke_off, went_on, SetsDone}
use Rattle.lr_plan.specs.Outcomes.{Succeeds, Fails}
use Rattle.lr_plan.proofs.Leaving.{OfEach, each_made, each_failed}
use Rattle.lr_plan.specs.Steps.{program, removal, removals, directory, move, step_if, copy, transfer, anew, leaves_path, made_anew, finishing, rotation_of, retirement_of, steps_of_log, shared_steps, by_logs, steps_of_set, state_steps}
use Rattle.lr_laws_acts.specs.LetGo.{CopiedFrom, UnlinksCopied, CopyStepsFrom, RemoveCopied, IsLettingSet, LetGoCopied, AreElsewhere, MayLetGo, MayAllLetGo}
use Rattle.lr_laws_acts.specs.Steps.{named_steps}
use Rattle.lr_laws_acts.proofs.Acts.{all_split}
use Rattle.lr_laws_acts.proofs.Lists.{Stands, in_first, in_second, stands, not_in_none, only_one}
use Rattle.lr_laws_acts.proofs.Made.{AllMade, made_split, named_made}

-- ---- entries

-- the entry unlinks another path, or nothing
abbrev pub Spares : Path → Entry → Type 0
Spares x (entry.Unlinks y) = y ≢ x
Spares x _ = Unit {0}

-- One of the steps removes the path, and those before it left these entries.
record IsLetAt (x : Path) (steps : List Step) (before : List Entry) : Type 0 where
  done : List Step
  rest : List Step
  steps_are : steps ≡ done ++ (step.Removes x ∷ rest)
  made : AllMade done before

module _ (x : Path) where
  abbrev N : Entry → Type 0
  N e = Spares x e

  -- ---- one step

  -- the step removes no path
  abbrev NoRemoval : Step → Type 0
  NoRemoval (step.Removes path) = ⊥
  NoRemoval _ = Unit {0}

  no_removal : (s : Step) → NoRemoval s → OfEach N s
  no_removal (step.Runs phase on command) i = λ end. tt
  no_removal (step.Removes path) i = absurd i
  no_removal (step.MakesDir path mode) i = (tt, λ seen. tt)
  no_removal (step.Renames from to) i = tt
  no_removal (step.Creates path mode) i = tt
  no_removal (step.Takes path mode) i = tt
  no_removal (step.Copies from to limit) i = (λ place piece short. tt, λ piece. tt)
  no_removal (step.Appends path text) i = λ piece. tt
  no_removal (step.SyncsFile path) i = tt
  no_removal (step.SyncsDir path) i = tt
  no_removal (step.Truncates path) i = tt
  no_removal (step.Rotated log) i = tt

  -- the entries unlink the path: so the step removes it, and nothing stands before that
  abbrev IsLetBy : Step → List Entry → Type 0
  IsLetBy s before = (s ≡ step.Removes x) × (before ≡ [])

  not_let : (before after ts : List Entry) → Each N ts → ts ≡ before ++ (entry.Unlinks x ∷ after) → ⊥
  not_let before after ts a is = (each_last N before (entry.Unlinks x ∷ after) (subst (Each N) is a)).0 refl

  is_let : (path : Path) (before after ts : List Entry) → ts ≡ entry.Unlinks path ∷ [] → ts ≡ before ++ (entry.Unlinks x ∷ after) → IsLetBy (step.Removes path) before
  is_let path before after ts one is = let k = only_one (entry.Unlinks x) (entry.Unlinks path) before after (sym one ∙ is) in (ap step.Removes (same k.0), k.1)
    where
      same : entry.Unlinks path ≡ entry.Unlinks x → path ≡ x
      same e = cc

  made_let : (s : Step) (before after ts : List Entry) → Succeeds s ts → ts ≡ before ++ (entry.Unlinks x ∷ after) → IsLetBy s before
  made_let (step.Removes path) before after ts w is = is_let path before after ts w is
  made_let s before after ts w is = absurd (not_let before after ts (each_made N s ts (no_removal s tt) w) is)

  failed_let : (s : Step) (f : Fault) (before after ts : List Entry) → Fails s f ts → ts ≡ before ++ (entry.Unlinks x ∷ after) → IsLetBy s before
  failed_let (step.Removes path) f before after ts h is = ⊎_elim (λ none. absurd (not_in_none (entry.Unlinks x) before after (sym none ∙ is))) (λ one. is_let path before after ts one is) h.1
  failed_let s f before after ts h is = absurd (not_let before after ts (each_failed N s f ts (no_removal s tt) h) is)

  -- ---- many

  let_at : (ss : List Step) (t : List Mark) (f : List Fault) (ts : List Entry) (before after : List Entry) → Course ss t f ts → ts ≡ before ++ (entry.Unlinks x ∷ after) → IsLetAt x ss before
  let_at [] t f ts before after c is = absurd (not_in_none (entry.Unlinks x) before after (sym c.2 ∙ is))
  let_at (s ∷ ss) t f ts before after (inl h) is = let k = failed_let s h.fault before after ts h.failed is in record { done = []; rest = ss; steps_are = ap (λ x. x ∷ ss) k.0; made = k.1 }
  let_at (s ∷ ss) t f ts before after (inr g) is = go (λ more is. let_at ss g.later f g.entries.back more after g.entries.second is) (stands (entry.Unlinks x) g.entries.front g.entries.back before after (sym g.entries.joined ∙ is))
    where
      go : ((more : List Entry) → g.entries.back ≡ more ++ (entry.Unlinks x ∷ after) → IsLetAt x ss more) → Stands (entry.Unlinks x) g.entries.front g.entries.back before after → IsLetAt x (s ∷ ss) before
      go later (in_first rest r) = let k = made_let s before rest g.entries.front g.entries.first r in record { done = []; rest = ss; steps_are = ap (λ x. x ∷ ss) k.0; made = k.1 }
      go later (in_second more r is) = let k = later more is in record { done = s ∷ k.done; rest = k.rest; steps_are = ap (λ us. s ∷ us) k.steps_are; made = record { front = g.entries.front; back = more; joined = r; first = g.entries.first; second = k.made } }

module _ (P : Job → Type 0) (x : Path) where
  none_copied : (ts : List Entry) → Each (Spares x) ts → UnlinksCopied P x ts
  none_copied ts a before after is = absurd (not_let x before after ts a is)

  copied_behind : (xs before : List Entry) → CopiedFrom P x before → CopiedFrom P x (xs ++ before)
  copied_behind xs before c = record { job = c.job; is = c.is; from_is = c.from_is; count = c.count; front = xs ++ c.front; named = c.named; joined = ap (λ us. xs ++ us) c.joined ∙ sym (append_assoc xs c.front c.named); is_named = c.is_named }

  pub both_copied : (xs ys : List Entry) → UnlinksCopied P x xs → UnlinksCopied P x ys → UnlinksCopied P x (xs ++ ys)
  both_copied xs ys f g before after is = go (stands (entry.Unlinks x) xs ys before after is)
    where
      go : Stands (entry.Unlinks x) xs ys before after → CopiedFrom P x before
      go (in_first rest r) = f before rest r
      go (in_second more r s) = subst (CopiedFrom P x) (sym r) (copied_behind xs more (g more after s))

  pub same_copied : (xs ts : List Entry) → ts ≡ xs → UnlinksCopied P x xs → UnlinksCopied P x ts
  same_copied xs ts is f = subst (UnlinksCopied P x) (sym is) f

  pub spared_copied : (ts : List Entry) → Each (Spares x) ts → UnlinksCopied P x ts
  spared_copied ts a = none_copied ts a

  -- ---- steps

  -- none of the steps removes the path
  abbrev Keeps : Step → Type 0
  Keeps (step.Removes path) = path ≢ x
  Keeps _ = Unit {0}

  abbrev AllKeep : List Step → Type 0
  AllKeep [] = Unit {0}
  AllKeep (s ∷ ss) = Keeps s × AllKeep ss

  both_keep : (xs ys : List Step) → AllKeep xs → AllKeep ys → AllKeep (xs ++ ys)
  both_keep [] ys a b = b
  both_keep (s ∷ xs) ys a b = (a.0, both_keep xs ys a.1 b)

  no_removal_in : (steps before after : List Step) → AllKeep steps → steps ≡ before ++ (step.Removes x ∷ after) → ⊥
  no_removal_in [] before after a is = not_in_none (step.Removes x) before after is
  no_removal_in (s ∷ ss) [] after a is = let same : s ≡ step.Removes x = cc in subst Keeps same a.0 refl
  no_removal_in (s ∷ ss) (b ∷ before) after a is = let rest : ss ≡ before ++ (step.Removes x ∷ after) = cc in no_removal_in ss before after a.1 rest

  kept_steps : (steps : List Step) → AllKeep steps → RemoveCopied P x steps
  kept_steps steps a before after is = absurd (no_removal_in steps before after a is)

  steps_behind : (xs before : List Step) → CopyStepsFrom P x before → CopyStepsFrom P x (xs ++ before)
  steps_behind xs before c = record { job = c.job; is = c.is; from_is = c.from_is; front = xs ++ c.front; joined = ap (λ us. xs ++ us) c.joined ∙ sym (append_assoc xs c.front (named_steps c.job)) }

  both_steps : (xs ys : List Step) → RemoveCopied P x xs → RemoveCopied P x ys → RemoveCopied P x (xs ++ ys)
  both_steps xs ys f g before after is = go (stands (step.Removes x) xs ys before after is)
    where
      go : Stands (step.Removes x) xs ys before after → CopyStepsFrom P x before
      go (in_first rest r) = f before rest r
      go (in_second more r s) = subst (CopyStepsFrom P x) (sym r) (steps_behind xs more (g more after s))

  first_steps : (xs ys : List Step) → RemoveCopied P x (xs ++ ys) → RemoveCopied P x xs
  first_steps xs ys f before after is = f before (after ++ ys) (ap (λ us. us ++ ys) is ∙ append_assoc before (step.Removes x ∷ after) ys)

  program_keeps : (p : Phase) (command : Option Command) → AllKeep (program p command)
  program_keeps p None = tt
  program_keeps p (Some command) = (tt, tt)

  removal_keeps : (r : Removal) → r.path ≢ x → AllKeep (removal r)
  removal_keeps r other = both_keep (program phase.Preremove r.preremove) (program phase.Mail r.mail ++ step.Removes r.path ∷ []) (program_keeps phase.Preremove r.preremove)
      (both_keep (program phase.Mail r.mail) (step.Removes r.path ∷ []) (program_keeps phase.Mail r.mail) (other, tt))

  removals_keep : (rs : List Removal) → AreElsewhere x rs → AllKeep (removals rs)
  removals_keep [] a = tt
  removals_keep (r ∷ rs) a = both_keep (removal r) (removals rs) (removal_keeps r (All-head (λ (q : Removal). q.path ≢ x) r rs a)) (removals_keep rs (All-tail (λ (q : Removal). q.path ≢ x) r rs a))

  directory_keeps : (dir : Option (Path × Option ℕ)) → AllKeep (directory dir)
  directory_keeps None = tt
  directory_keeps (Some d) = (tt, tt)

  moves_keep : (ms : List Move) → AllKeep (map move ms)
  moves_keep [] = tt
  moves_keep (m ∷ ms) = (tt, moves_keep ms)

  anew_keeps : (m : Make) (log : Path) → AllKeep (anew m log)
  anew_keeps make.No log = tt
  anew_keeps (make.Yes mode) log = (tt, tt)

  made_keeps : (m : Make) (log : Path) (job : Option Job) (aside : Option Path) → AllKeep (made_anew m log job aside)
  made_keeps m log job aside = go (leaves_path job aside)
    where
      go : (b : Bool) → AllKeep (cond b (anew m log) [])
      go true = anew_keeps m log
      go false = tt

  asked_keeps : (b : Bool) (s : Step) → Keeps s → AllKeep (step_if b s)
  asked_keeps true s i = (i, tt)
  asked_keeps false s i = tt

  copy_keeps : (job : Job) → job.part ≢ x → AllKeep (copy job)
  copy_keeps job other = both_keep (step_if job.stale (step.Removes job.part)) _ (asked_keeps job.stale (step.Removes job.part) other) (tt, (tt, (tt, (tt, (tt, asked_keeps job.cut (step.Truncates job.from) tt)))))

  syncs_keep : (dirs : List Path) → AllKeep (map step.SyncsDir dirs)
  syncs_keep [] = tt
  syncs_keep (d ∷ dirs) = (tt, syncs_keep dirs)

  -- ---- of one log

  -- a copy that empties nothing ends with the sync of its directory
  copy_named : (job : Job) → job.cut ≡ false → copy job ≡ named_steps job
  copy_named job uncut = sym (append_assoc (step_if job.stale (step.Removes job.part)) (step.Takes job.part job.mode ∷ step.Copies job.from job.part job.limit ∷ step.SyncsFile job.part ∷ step.Renames job.part job.to ∷ step.SyncsDir job.dir ∷ []) (step_if job.cut (step.Truncates job.from)))
      ∙ (ap (λ (b : Bool). named_steps job ++ step_if b (step.Truncates job.from)) uncut ∙ append-nil (named_steps job))

  -- behind which the path is removed
  let_behind : (job : Job) (path : Path) → job.part ≢ x → (path ≡ x → P job × (job.from ≡ x) × (job.cut ≡ false)) → RemoveCopied P x (copy job ++ step.Removes path ∷ [])
  let_behind job path other waits before after is = go (stands (step.Removes x) (copy job) (step.Removes path ∷ []) before after is)
    where
      removed : step.Removes path ≡ step.Removes x → path ≡ x
      removed e = cc

      here : (more : List Step) → before ≡ copy job ++ more → (step.Removes path ≡ step.Removes x) × (more ≡ []) → P job × (job.from ≡ x) × (job.cut ≡ false) → CopyStepsFrom P x before
      here more r one so = record {
        job = job;
        is = so.0;
        from_is = so.1;
        front = [];
        joined = r ∙ (ap (λ us. copy job ++ us) one.1 ∙ (append-nil (copy job) ∙ copy_named job so.2));
      }

      go : Stands (step.Removes x) (copy job) (step.Removes path ∷ []) before after → CopyStepsFrom P x before
      go (in_first rest r) = absurd (no_removal_in (copy job) before rest (copy_keeps job other) r)
      go (in_second more r s) = let one = only_one (step.Removes x) (step.Removes path) more after s in here more r one (waits (removed one.0))

  transfer_keeps : (log target : Path) (job : Option Job) (aside : Option Path) → ((j : Job) → job ≡ Some j → j.part ≢ x) → AllKeep (transfer log target job aside)
  transfer_keeps log target None aside part = (tt, tt)
  transfer_keeps log target (Some job) None part = copy_keeps job (part job refl)
  transfer_keeps log target (Some job) (Some path) part = (tt, (tt, tt))

  rotation_lets : (log : LogPlan) → MayLetGo P x log → RemoveCopied P x (rotation_of log)
  rotation_lets log m = kept_steps (rotation_of log) (both_keep (removals log.ready.leftovers) _ (removals_keep log.ready.leftovers m.leftovers)
      (both_keep (directory log.ready.dir) _ (directory_keeps log.ready.dir)
      (both_keep (map move log.ready.moves) _ (moves_keep log.ready.moves)
      (both_keep (transfer log.ready.log log.ready.target log.job log.aside) _ (transfer_keeps log.ready.log log.ready.target log.job log.aside m.part)
      (tt, made_keeps log.ready.make log.log log.job log.aside)))))

  finishing_lets : (job : Option Job) (aside : Option Path) → ((j : Job) → job ≡ Some j → j.part ≢ x) → ((j : Job) → job ≡ Some j → aside ≡ Some x → P j × (j.from ≡ x) × (j.cut ≡ false)) → RemoveCopied P x (finishing job aside)
  finishing_lets None aside part waits = kept_steps [] tt
  finishing_lets (Some job) None part waits = kept_steps [] tt
  finishing_lets (Some job) (Some path) part waits = let_behind job path (part job refl) (λ same. waits job refl (ap Some same))

  retirement_lets : (log : LogPlan) → MayLetGo P x log → RemoveCopied P x (retirement_of log)
  retirement_lets log m = both_steps (finishing log.job log.aside) _ (finishing_lets log.job log.aside m.part m.waits)
      (kept_steps _ (both_keep (program phase.Mail log.first_mail) (removals log.ready.retire) (program_keeps phase.Mail log.first_mail) (removals_keep log.ready.retire m.retire)))

  log_lets : (log : LogPlan) → MayLetGo P x log → RemoveCopied P x (steps_of_log log)
  log_lets log m = both_steps (program phase.Pre log.pre) _ (kept_steps (program phase.Pre log.pre) (program_keeps phase.Pre log.pre))
      (both_steps (rotation_of log) _ (rotation_lets log m)
      (both_steps (program phase.Post log.post) _ (kept_steps (program phase.Post log.post) (program_keeps phase.Post log.post)) (retirement_lets log m)))

  each_lets : (logs : List LogPlan) → All (MayLetGo P x) logs → All (RemoveCopied P x) (map steps_of_log logs)
  each_lets [] a = All-nil (RemoveCopied P x)
  each_lets (log ∷ logs) a = All-cons (RemoveCopied P x) (steps_of_log log) (map steps_of_log logs) (log_lets log (All-head (MayLetGo P x) log logs a)) (each_lets logs (All-tail (MayLetGo P x) log logs a))

  all_lets : (part : LogPlan → List Step) → ((log : LogPlan) → MayLetGo P x log → RemoveCopied P x (part log)) → (logs : List LogPlan) → All (MayLetGo P x) logs → RemoveCopied P x (flat_map part logs)
  all_lets part f [] a = kept_steps [] tt
  all_lets part f (log ∷ logs) a = both_steps (part log) (flat_map part logs) (f log (All-head (MayLetGo P x) log logs a)) (all_lets part f logs (All-tail (MayLetGo P x) log logs a))

  shared_lets : (set : SetPlan) → All (MayLetGo P x) set.logs → RemoveCopied P x (shared_steps set)
  shared_lets set a = both_steps (program phase.First set.first) _ (kept_steps (program phase.First set.first) (program_keeps phase.First set.first))
      (both_steps (program phase.Pre set.pre) _ (kept_steps (program phase.Pre set.pre) (program_keeps phase.Pre set.pre))
      (both_steps (flat_map rotation_of set.logs) _ (all_lets rotation_of rotation_lets set.logs a)
      (both_steps (program phase.Post set.post) _ (kept_steps (program phase.Post set.post) (program_keeps phase.Post set.post))
      (both_steps (flat_map retirement_of set.logs) _ (all_lets retirement_of retirement_lets set.logs a) (kept_steps (program phase.Last set.last) (program_keeps phase.Last set.last))))))

  set_lets : (set : SetPlan) → All (MayLetGo P x) set.logs → IsLettingSet P x (steps_of_set set)
  set_lets set a = go set.shared set.logs
    where
      go : (shared : Bool) (logs : List LogPlan) → IsLettingSet P x (by_logs shared logs set)
      go shared [] = record { first = kept_steps [] tt; each = All-nil (RemoveCopied P x); last = kept_steps [] tt }
      go true (log ∷ logs) = record { first = shared_lets set a; each = All-nil (RemoveCopied P x); last = kept_steps [] tt }
      go false (log ∷ logs) = record {
        first = kept_steps (program phase.First set.first) (program_keeps phase.First set.first);
        each = each_lets set.logs a;
        last = kept_steps (program phase.Last set.last) (program_keeps phase.Last set.last);
      }

  pub plan_lets : (sets : List SetPlan) → MayAllLetGo P x sets → LetGoCopied P x (map steps_of_set sets)
  plan_lets [] a = All-nil (IsLettingSet P x)
  plan_lets (set ∷ sets) a = All-cons (IsLettingSet P x) (steps_of_set set) (map steps_of_set sets) (set_lets set (All-head (λ (q : SetPlan). All (MayLetGo P x) q.logs) set sets a)) (plan_lets sets (All-tail (λ (q : SetPlan). All (MayLetGo P x) q.logs) set sets a))

  state_keeps : (state : Path) (stale : Bool) (dirs : List Path) (text : List ℕ) → state_part state ≢ x → AllKeep (state_steps state stale dirs text)
  state_keeps state stale dirs text other = both_keep (step_if stale (step.Removes _)) _ (asked_keeps stale (step.Removes _) other) (tt, (tt, (tt, both_keep (map step.SyncsDir dirs) _ (syncs_keep dirs) (tt, (tt, tt)))))

  -- whatever this part comes to, the path is unlinked just behind a copy from it
  abbrev IsLetting : Part → Type 0
  IsLetting Q = (t : List Mark) (f : List Fault) (ts : List Entry) → Q t f ts → UnlinksCopied P x ts

  pub course_letting : (ss : List Step) → RemoveCopied P x ss → IsLetting (Course ss)
  course_letting ss a = λ t f ts c before after is. found before (let_at x ss t f ts before after c is)
    where
      copied : (before : List Entry) (done : List Step) → AllMade done before → CopyStepsFrom P x done → CopiedFrom P x before
      copied before done made l =
          let w = made_split l.front (named_steps l.job) before (subst (λ us. AllMade us before) l.joined made) in
          let n = named_made l.job w.back w.second in
          record { job = l.job; is = l.is; from_is = l.from_is; count = n.0; front = w.front; named = w.back; joined = w.joined; is_named = n.1 }

      found : (before : List Entry) → IsLetAt x ss before → CopiedFrom P x before
      found before k = copied before k.done k.made (a k.done k.rest k.steps_are)

  whole_letting : (ss : List Step) → RemoveCopied P x ss → IsLetting (Unbroken (Course ss))
  whole_letting ss a = λ t f ts u. course_letting ss a t f ts u.1

  nothing_letting : IsLetting Nothing
  nothing_letting = λ t f ts n. same_copied [] ts n.2 (none_copied [] tt)

  both_letting : (Q R : Part) → IsLetting Q → IsLetting R → IsLetting (Both Q R)
  both_letting Q R a b = λ t f ts h. same_copied (h.entries.front ++ h.entries.back) ts h.entries.joined
      (both_copied h.entries.front h.entries.back (a h.first_marks h.first_faults h.entries.front h.entries.first) (b h.second_marks h.second_faults h.entries.back h.entries.second))

  every_letting : {A : Type 0} (Q : A → Part) (S : A → Type 0) → ((x : A) → S x → IsLetting (Q x)) → (xs : List A) → All S xs → IsLetting (Every Q xs)
  every_letting Q S g [] a = nothing_letting
  every_letting Q S g (x ∷ xs) a = both_letting (Q x) (Every Q xs) (g x (All-head S x xs a)) (every_letting Q S g xs (All-tail S x xs a))

  if_copied : (marks : List Mark) (steps : List Step) → RemoveCopied P x steps → RemoveCopied P x (if_rotated marks steps)
  if_copied marks steps a = go (list_any is_rotated marks)
    where
      go : (b : Bool) → RemoveCopied P x (if b then steps else [])
      go true = a
      go false = kept_steps [] tt

  logs_letting : (Q : List Step → Part) → ((ss : List Step) → RemoveCopied P x ss → IsLetting (Q ss)) → (each : List (List Step)) (last : List Step) → All (RemoveCopied P x) each → RemoveCopied P x last → IsLetting (LogsThen Q each last)
  logs_letting Q g each last a b = λ t f ts h. same_copied (h.entries.front ++ h.entries.back) ts h.entries.joined
      (both_copied h.entries.front h.entries.back (every_letting Course (RemoveCopied P x) course_letting each a h.by_each h.of_each h.entries.front h.entries.first)
      (g (if_rotated h.by_each last) (if_copied h.by_each last b) h.by_last h.of_last h.entries.back h.entries.second))

  set_letting : (set : SetSteps) → IsLettingSet P x set → IsLetting (SetDone set)
  set_letting set a = go
    where
      go : IsLetting (SetDone set)
      go t f ts (broke_off b) = course_letting set.first a.first t f ts b.part
      go t f ts (went_on b) = both_letting (Unbroken (Course set.first)) (LogsDone set.each set.last) (whole_letting set.first a.first) (logs_letting Course course_letting set.each set.last a.each a.last) t f ts b

  pub sets_letting : (sets : List SetSteps) → LetGoCopied P x sets → IsLetting (SetsDone sets)
  sets_letting sets a = every_letting SetDone (IsLettingSet P x) set_letting sets a

  -- ---- broken off for want of memory

  course_cut_letting : (ss : List Step) → RemoveCopied P x ss → IsLetting (CourseCut ss)
  course_cut_letting ss a = λ t f ts c. whole_letting c.made (first_steps c.made (c.next ∷ c.rest) (subst (RemoveCopied P x) c.steps_are a)) t f ts c.part

  list_cut_letting : {A : Type 0} (Q R : A → Part) (S : A → Type 0) → ((x : A) → S x → IsLetting (Q x)) → ((x : A) → S x → IsLetting (R x)) → (xs : List A) → All S xs → IsLetting (ListCut Q R xs)
  list_cut_letting Q R S g h xs a = λ t f ts c.
      let two = all_split S c.done (c.next ∷ c.rest) (subst (All S) c.list_is a) in
      both_letting (Every Q c.done) (R c.next) (every_letting Q S g c.done two.0) (h c.next (All-head S c.next c.rest two.1)) t f ts c.part

  logs_cut_letting : (each : List (List Step)) (last : List Step) → All (RemoveCopied P x) each → RemoveCopied P x last → IsLetting (LogsCut each last)
  logs_cut_letting each last a b = go
    where
      go : IsLetting (LogsCut each last)
      go t f ts (in_each c) = list_cut_letting Course CourseCut (RemoveCopied P x) course_letting course_cut_letting each a t f ts c
      go t f ts (in_last c) = logs_letting CourseCut course_cut_letting each last a b t f ts c

  set_cut_letting : (set : SetSteps) → IsLettingSet P x set → IsLetting (SetCut set)
  set_cut_letting set a = go
    where
      go : IsLetting (SetCut set)
      go t f ts (in_first_cut c) = course_cut_letting set.first a.first t f ts c
      go t f ts (in_logs c) = both_letting (Unbroken (Course set.first)) (LogsCut set.each set.last) (whole_letting set.first a.first) (logs_cut_letting set.each set.last a.each a.last) t f ts c

  pub sets_cut_letting : (sets : List SetSteps) → LetGoCopied P x sets → IsLetting (SetsCut sets)
  sets_cut_letting sets a = list_cut_letting SetDone SetCut (IsLettingSet P x) set_letting set_cut_letting sets a

  -- ---- the writing of the state behind it

  pub state_letting : (state : Path) (stale : Bool) (dirs : List Path) (text : List ℕ) → state_part state ≢ x → IsLetting (Course (state_steps state stale dirs text))
  state_letting state stale dirs text other = course_letting (state_steps state stale dirs text) (kept_steps (state_steps state stale dirs text) (state_keeps state stale dirs text other))
