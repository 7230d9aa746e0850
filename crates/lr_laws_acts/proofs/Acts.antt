-- What acts leave, where their steps copy what they empty.
use Rattle.std.proofs.Common.{subst, ℕ, Bool, true, false, List, [], ◌∷◌, ◌++◌}
use Rattle.std.specs.Prelude.{All, if◌then◌else◌}
use Rattle.std.specs.List.{list_any}
use Rattle.std.proofs.lemmas.List.Elements.{All-nil, All-cons, All-head, All-tail}
use Rattle.lr_rules.specs.declared.fault.Fault.{Fault}
use Rattle.lr_rules.specs.declared.path.Path.{Path}
use Rattle.lr_host.specs.declared.entry.Entry.{Entry}
use Rattle.lr_host.specs.Lists.{IsIn}
use Rattle.lr_copy.specs.declared.job.Job.{Job}
use Rattle.lr_plan.specs.declared.mark.Mark.{Mark}
use Rattle.lr_plan.specs.declared.plan.Plan.{Plan}
use Rattle.lr_plan.specs.declared.step.SetSteps.{SetSteps}
use Rattle.lr_plan.specs.declared.step.Step.{Step}
use Rattle.lr_plan.specs.Course.{Part, Nothing, Course, Unbroken, Both, Every}
use Rattle.lr_plan.specs.Done.{LogsThen, LogsDone, is_rotated, if_rotated, SetDone, broke_off, went_on, SetsDone, ActsDone}
use Rattle.lr_plan.specs.Cut.{CourseCut, ListCut, LogsCut, in_each, in_last, SetCut, in_first, in_logs, SetsCut}
use Rattle.lr_plan.specs.Steps.{steps_of_plan, state_steps}
use Rattle.lr_laws_acts.specs.Emptied.{CopiedLast, EmptiesCopied}
use Rattle.lr_laws_acts.specs.Jobs.{jobs_of}
use Rattle.lr_laws_acts.specs.Steps.{named_steps, CopyStepsLast, AreCopySteps, IsCopySet, EmptyCopied}
use Rattle.lr_laws_acts.proofs.Entries.{none_empties, both_empty, same_empties}
use Rattle.lr_laws_acts.proofs.Made.{AllMade, IsCutAt, cut_at, made_split, named_made}
use Rattle.lr_laws_acts.proofs.Steps.{none_copied, first_copied, state_no_cuts, plan_copied}

pub all_split : {A : Type 0} (R : A → Type 0) (xs ys : List A) → All R (xs ++ ys) → All R xs × All R ys
all_split R [] ys a = (All-nil R, a)
all_split R (x ∷ xs) ys a = let r = all_split R xs ys (All-tail R x (xs ++ ys) a) in (All-cons R x xs (All-head R x (xs ++ ys) a) r.0, r.1)

module _ (P : Job → Type 0) where
  -- whatever this part comes to, each log that it empties was copied just before
  abbrev IsCopying : Part → Type 0
  IsCopying Q = (t : List Mark) (f : List Fault) (ts : List Entry) → Q t f ts → EmptiesCopied P ts

  pub course_copying : (ss : List Step) → AreCopySteps P ss → IsCopying (Course ss)
  course_copying ss a = λ t f ts c before log after is. found log before (cut_at ss t f ts log before after c is)
    where
      copied : (log : Path) (before : List Entry) (done : List Step) → AllMade done before → CopyStepsLast P log done → CopiedLast P log before
      copied log before done made l =
          let w = made_split l.front (named_steps l.job) before (subst (λ us. AllMade us before) l.joined made) in
          let n = named_made l.job w.back w.second in
          record { job = l.job; is = l.is; from_is = l.from_is; cut = l.cut; count = n.0; front = w.front; named = w.back; joined = w.joined; is_named = n.1 }

      found : (log : Path) (before : List Entry) → IsCutAt ss log before → CopiedLast P log before
      found log before k = copied log before k.done k.made (a k.done log k.rest k.steps_are)

  whole_copying : (ss : List Step) → AreCopySteps P ss → IsCopying (Unbroken (Course ss))
  whole_copying ss a = λ t f ts u. course_copying ss a t f ts u.1

  nothing_copying : IsCopying Nothing
  nothing_copying = λ t f ts n. same_empties P [] ts n.2 (none_empties P [] tt)

  both_copying : (Q R : Part) → IsCopying Q → IsCopying R → IsCopying (Both Q R)
  both_copying Q R a b = λ t f ts h. same_empties P (h.entries.front ++ h.entries.back) ts h.entries.joined
      (both_empty P h.entries.front h.entries.back (a h.first_marks h.first_faults h.entries.front h.entries.first) (b h.second_marks h.second_faults h.entries.back h.entries.second))

  every_copying : {A : Type 0} (Q : A → Part) (S : A → Type 0) → ((x : A) → S x → IsCopying (Q x)) → (xs : List A) → All S xs → IsCopying (Every Q xs)
  every_copying Q S g [] a = nothing_copying
  every_copying Q S g (x ∷ xs) a = both_copying (Q x) (Every Q xs) (g x (All-head S x xs a)) (every_copying Q S g xs (All-tail S x xs a))

  if_copied : (marks : List Mark) (steps : List Step) → AreCopySteps P steps → AreCopySteps P (if_rotated marks steps)
  if_copied marks steps a = go (list_any is_rotated marks)
    where
      go : (b : Bool) → AreCopySteps P (if b then steps else [])
      go true = a
      go false = none_copied P [] tt

  logs_copying : (Q : List Step → Part) → ((ss : List Step) → AreCopySteps P ss → IsCopying (Q ss)) → (each : List (List Step)) (last : List Step) → All (AreCopySteps P) each → AreCopySteps P last → IsCopying (LogsThen Q each last)
  logs_copying Q g each last a b = λ t f ts h. same_empties P (h.entries.front ++ h.entries.back) ts h.entries.joined
      (both_empty P h.entries.front h.entries.back (every_copying Course (AreCopySteps P) course_copying each a h.by_each h.of_each h.entries.front h.entries.first)
      (g (if_rotated h.by_each last) (if_copied h.by_each last b) h.by_last h.of_last h.entries.back h.entries.second))

  set_copying : (set : SetSteps) → IsCopySet P set → IsCopying (SetDone set)
  set_copying set a = go
    where
      go : IsCopying (SetDone set)
      go t f ts (broke_off b) = course_copying set.first a.first t f ts b.part
      go t f ts (went_on b) = both_copying (Unbroken (Course set.first)) (LogsDone set.each set.last) (whole_copying set.first a.first) (logs_copying Course course_copying set.each set.last a.each a.last) t f ts b

  pub sets_copying : (sets : List SetSteps) → EmptyCopied P sets → IsCopying (SetsDone sets)
  sets_copying sets a = every_copying SetDone (IsCopySet P) set_copying sets a

  -- ---- broken off for want of memory

  course_cut_copying : (ss : List Step) → AreCopySteps P ss → IsCopying (CourseCut ss)
  course_cut_copying ss a = λ t f ts c. whole_copying c.made (first_copied P c.made (c.next ∷ c.rest) (subst (AreCopySteps P) c.steps_are a)) t f ts c.part

  list_cut_copying : {A : Type 0} (Q R : A → Part) (S : A → Type 0) → ((x : A) → S x → IsCopying (Q x)) → ((x : A) → S x → IsCopying (R x)) → (xs : List A) → All S xs → IsCopying (ListCut Q R xs)
  list_cut_copying Q R S g h xs a = λ t f ts c.
      let two = all_split S c.done (c.next ∷ c.rest) (subst (All S) c.list_is a) in
      both_copying (Every Q c.done) (R c.next) (every_copying Q S g c.done two.0) (h c.next (All-head S c.next c.rest two.1)) t f ts c.part

  logs_cut_copying : (each : List (List Step)) (last : List Step) → All (AreCopySteps P) each → AreCopySteps P last → IsCopying (LogsCut each last)
  logs_cut_copying each last a b = go
    where
      go : IsCopying (LogsCut each last)
      go t f ts (in_each c) = list_cut_copying Course CourseCut (AreCopySteps P) course_copying course_cut_copying each a t f ts c
      go t f ts (in_last c) = logs_copying CourseCut course_cut_copying each last a b t f ts c

  set_cut_copying : (set : SetSteps) → IsCopySet P set → IsCopying (SetCut set)
  set_cut_copying set a = go
    where
      go : IsCopying (SetCut set)
      go t f ts (in_first c) = course_cut_copying set.first a.first t f ts c
      go t f ts (in_logs c) = both_copying (Unbroken (Course set.first)) (LogsCut set.each set.last) (whole_copying set.first a.first) (logs_cut_copying set.each set.last a.each a.last) t f ts c

  pub sets_cut_copying : (sets : List SetSteps) → EmptyCopied P sets → IsCopying (SetsCut sets)
  sets_cut_copying sets a = list_cut_copying SetDone SetCut (IsCopySet P) set_copying set_cut_copying sets a

  -- ---- of a plan, and the writing of the state behind it

  pub state_copying : (state : Path) (stale : Bool) (dirs : List Path) (text : List ℕ) → IsCopying (Course (state_steps state stale dirs text))
  state_copying state stale dirs text = course_copying (state_steps state stale dirs text) (none_copied P (state_steps state stale dirs text) (state_no_cuts state stale dirs text))

  pub acts_copying : (plan : Plan) (state : Path) (stale : Bool) (dirs : List Mark → List Path) (text : List Path → List ℕ) → ((job : Job) → IsIn job (jobs_of plan.sets) → P job) → IsCopying (ActsDone plan state stale dirs text)
  acts_copying plan state stale dirs text has = λ t f ts a. same_empties P (a.entries.front ++ a.entries.back) ts a.entries.joined
      (both_empty P a.entries.front a.entries.back (sets_copying (steps_of_plan plan) (plan_copied P plan.sets has) t a.of_plan a.entries.front a.entries.first)
      (state_copying state stale (dirs t) _ [] a.of_state a.entries.back a.entries.second))
