-- What holds of each step that was made and of each that failed holds of all acts of a plan, and of a first part of them.
use Rattle.std.proofs.Common.{◌≡◌, inl, inr, Bool, true, false, cond, List, [], ◌∷◌, ◌++◌, sym, subst}
use Rattle.std.specs.List.{list_any}
use Rattle.lr_rules.specs.declared.fault.Fault.{Fault}
use Rattle.lr_host.specs.declared.entry.Entry.{Entry}
use Rattle.lr_plan.specs.declared.mark.Mark.{Mark}
use Rattle.lr_plan.specs.declared.step.SetSteps.{SetSteps}
use Rattle.lr_plan.specs.declared.step.Step.{Step}
use Rattle.lr_plan.specs.Outcomes.{Succeeds, Fails}
use Rattle.lr_plan.specs.Course.{Course}
use Rattle.lr_plan.specs.Done.{EachDone, LogsDone, SetDone, broke_off, went_on, SetsDone, if_rotated, is_rotated}
use Rattle.lr_plan.specs.Cut.{CourseCut, ListCut, LogsCut, in_each, in_last, SetCut, in_first, in_logs, SetsCut}
use Rattle.lr_acts.specs.Making.{all_of_each, all_of_set, all_of_sets}
use Rattle.lr_run.proofs.Simple.{EachStep, step_both, step_split}

-- it holds where nothing was done, of each step by itself of which I holds, and of two parts where it holds of each
pub record Folds (I : Step → Type 0) (F : List Fault → List Entry → Type 0) : Type 0 where
  pub none : F [] []
  pub made : (s : Step) (ts : List Entry) → I s → Succeeds s ts → F [] ts
  pub failed : (s : Step) (f : Fault) (ts : List Entry) → I s → Fails s f ts → F (f ∷ []) ts
  pub both : (fs gs : List Fault) (ts us : List Entry) → F fs ts → F gs us → F (fs ++ gs) (ts ++ us)

-- said of the same faults and entries in other words
stated : (F : List Fault → List Entry → Type 0) (fs gs : List Fault) (ts us : List Entry) → fs ≡ gs → ts ≡ us → F gs us → F fs ts
stated F fs gs ts us e d h = subst (λ (xs : List Fault). F xs ts) (sym e) (subst (λ (xs : List Entry). F gs xs) (sym d) h)

course_folds : (I : Step → Type 0) (F : List Fault → List Entry → Type 0) → Folds I F → (steps : List Step) (ms : List Mark) (fs : List Fault) (ts : List Entry) → EachStep I steps → Course steps ms fs ts → F fs ts
course_folds I F k [] ms fs ts i h = stated F fs [] ts [] h.1 h.2 k.none
course_folds I F k (s ∷ ss) ms fs ts i (inl h) = subst (λ (xs : List Fault). F xs ts) (sym h.told) (k.failed s h.fault ts i.0 h.failed)
course_folds I F k (s ∷ ss) ms fs ts i (inr h) = subst (λ (xs : List Entry). F fs xs) (sym h.entries.joined)
    (k.both [] fs h.entries.front h.entries.back (k.made s h.entries.front i.0 h.entries.first) (course_folds I F k ss h.later fs h.entries.back i.1 h.entries.second))

each_folds : (I : Step → Type 0) (F : List Fault → List Entry → Type 0) → Folds I F → (each : List (List Step)) (ms : List Mark) (fs : List Fault) (ts : List Entry) → EachStep I (all_of_each each) → EachDone each ms fs ts → F fs ts
each_folds I F k [] ms fs ts i h = stated F fs [] ts [] h.1 h.2 k.none
each_folds I F k (s ∷ ss) ms fs ts i h = let r = step_split I s (all_of_each ss) i in
    stated F fs (h.first_faults ++ h.second_faults) ts (h.entries.front ++ h.entries.back) h.faults_are h.entries.joined
    (k.both h.first_faults h.second_faults h.entries.front h.entries.back (course_folds I F k s h.first_marks h.first_faults h.entries.front r.0 h.entries.first) (each_folds I F k ss h.second_marks h.second_faults h.entries.back r.1 h.entries.second))

pub last_so : (I : Step → Type 0) (b : Bool) (last : List Step) → EachStep I last → EachStep I (cond b last [])
last_so I true last i = i
last_so I false last i = tt

logs_folds : (I : Step → Type 0) (F : List Fault → List Entry → Type 0) → Folds I F → (each : List (List Step)) (last : List Step) (ms : List Mark) (fs : List Fault) (ts : List Entry) → EachStep I (all_of_each each) → EachStep I last → LogsDone each last ms fs ts → F fs ts
logs_folds I F k each last ms fs ts i j h =
    stated F fs (h.of_each ++ h.of_last) ts (h.entries.front ++ h.entries.back) h.faults_are h.entries.joined
    (k.both h.of_each h.of_last h.entries.front h.entries.back (each_folds I F k each h.by_each h.of_each h.entries.front i h.entries.first)
    (course_folds I F k (if_rotated h.by_each last) h.by_last h.of_last h.entries.back (last_so I (list_any is_rotated h.by_each) last j) h.entries.second))

set_folds : (I : Step → Type 0) (F : List Fault → List Entry → Type 0) → Folds I F → (set : SetSteps) (ms : List Mark) (fs : List Fault) (ts : List Entry) → EachStep I (all_of_set set) → SetDone set ms fs ts → F fs ts
set_folds I F k set ms fs ts i (broke_off h) = course_folds I F k set.first ms fs ts (step_split I set.first _ i).0 h.part
set_folds I F k set ms fs ts i (went_on h) =
    let r = step_split I set.first _ i in
    let s = step_split I (all_of_each set.each) set.last r.1 in
    stated F fs (h.first_faults ++ h.second_faults) ts (h.entries.front ++ h.entries.back) h.faults_are h.entries.joined
    (k.both h.first_faults h.second_faults h.entries.front h.entries.back (course_folds I F k set.first h.first_marks h.first_faults h.entries.front r.0 h.entries.first.1)
    (logs_folds I F k set.each set.last h.second_marks h.second_faults h.entries.back s.0 s.1 h.entries.second))

-- of the acts of all definitions
pub acts_fold : (I : Step → Type 0) (F : List Fault → List Entry → Type 0) → Folds I F → (sets : List SetSteps) (ms : List Mark) (fs : List Fault) (ts : List Entry) → EachStep I (all_of_sets sets) → SetsDone sets ms fs ts → F fs ts
acts_fold I F k [] ms fs ts i h = stated F fs [] ts [] h.1 h.2 k.none
acts_fold I F k (s ∷ ss) ms fs ts i h = let r = step_split I (all_of_set s) (all_of_sets ss) i in
    stated F fs (h.first_faults ++ h.second_faults) ts (h.entries.front ++ h.entries.back) h.faults_are h.entries.joined
    (k.both h.first_faults h.second_faults h.entries.front h.entries.back (set_folds I F k s h.first_marks h.first_faults h.entries.front r.0 h.entries.first) (acts_fold I F k ss h.second_marks h.second_faults h.entries.back r.1 h.entries.second))

-- ---- of a first part of them, where there was no memory to run a program

cut_folds : (I : Step → Type 0) (F : List Fault → List Entry → Type 0) → Folds I F → (steps : List Step) (ms : List Mark) (fs : List Fault) (ts : List Entry) → EachStep I steps → CourseCut steps ms fs ts → F fs ts
cut_folds I F k steps ms fs ts i c = course_folds I F k c.made ms fs ts (step_split I c.made (c.next ∷ c.rest) (subst (EachStep I) c.steps_are i)).0 c.part.1

each_split : (I : Step → Type 0) (xs ys : List (List Step)) → EachStep I (all_of_each (xs ++ ys)) → EachStep I (all_of_each xs) × EachStep I (all_of_each ys)
each_split I [] ys i = (tt, i)
each_split I (x ∷ xs) ys i = let r = step_split I x (all_of_each (xs ++ ys)) i in let s = each_split I xs ys r.1 in (step_both I x (all_of_each xs) r.0 s.0, s.1)

each_cut_folds : (I : Step → Type 0) (F : List Fault → List Entry → Type 0) → Folds I F → (each : List (List Step)) (ms : List Mark) (fs : List Fault) (ts : List Entry) → EachStep I (all_of_each each) → ListCut Course CourseCut each ms fs ts → F fs ts
each_cut_folds I F k each ms fs ts i c = let r = each_split I c.done (c.next ∷ c.rest) (subst (λ ss. EachStep I (all_of_each ss)) c.list_is i) in
    stated F fs (c.part.first_faults ++ c.part.second_faults) ts (c.part.entries.front ++ c.part.entries.back) c.part.faults_are c.part.entries.joined
    (k.both c.part.first_faults c.part.second_faults c.part.entries.front c.part.entries.back (each_folds I F k c.done c.part.first_marks c.part.first_faults c.part.entries.front r.0 c.part.entries.first)
    (cut_folds I F k c.next c.part.second_marks c.part.second_faults c.part.entries.back (step_split I c.next (all_of_each c.rest) r.1).0 c.part.entries.second))

logs_cut_folds : (I : Step → Type 0) (F : List Fault → List Entry → Type 0) → Folds I F → (each : List (List Step)) (last : List Step) (ms : List Mark) (fs : List Fault) (ts : List Entry) → EachStep I (all_of_each each) → EachStep I last → LogsCut each last ms fs ts → F fs ts
logs_cut_folds I F k each last ms fs ts i j (in_each c) = each_cut_folds I F k each ms fs ts i c
logs_cut_folds I F k each last ms fs ts i j (in_last h) =
    stated F fs (h.of_each ++ h.of_last) ts (h.entries.front ++ h.entries.back) h.faults_are h.entries.joined
    (k.both h.of_each h.of_last h.entries.front h.entries.back (each_folds I F k each h.by_each h.of_each h.entries.front i h.entries.first)
    (cut_folds I F k (if_rotated h.by_each last) h.by_last h.of_last h.entries.back (last_so I (list_any is_rotated h.by_each) last j) h.entries.second))

set_cut_folds : (I : Step → Type 0) (F : List Fault → List Entry → Type 0) → Folds I F → (set : SetSteps) (ms : List Mark) (fs : List Fault) (ts : List Entry) → EachStep I (all_of_set set) → SetCut set ms fs ts → F fs ts
set_cut_folds I F k set ms fs ts i (in_first c) = cut_folds I F k set.first ms fs ts (step_split I set.first _ i).0 c
set_cut_folds I F k set ms fs ts i (in_logs h) =
    let r = step_split I set.first _ i in
    let s = step_split I (all_of_each set.each) set.last r.1 in
    stated F fs (h.first_faults ++ h.second_faults) ts (h.entries.front ++ h.entries.back) h.faults_are h.entries.joined
    (k.both h.first_faults h.second_faults h.entries.front h.entries.back (course_folds I F k set.first h.first_marks h.first_faults h.entries.front r.0 h.entries.first.1)
    (logs_cut_folds I F k set.each set.last h.second_marks h.second_faults h.entries.back s.0 s.1 h.entries.second))

sets_split : (I : Step → Type 0) (xs ys : List SetSteps) → EachStep I (all_of_sets (xs ++ ys)) → EachStep I (all_of_sets xs) × EachStep I (all_of_sets ys)
sets_split I [] ys i = (tt, i)
sets_split I (x ∷ xs) ys i = let r = step_split I (all_of_set x) (all_of_sets (xs ++ ys)) i in let s = sets_split I xs ys r.1 in (step_both I (all_of_set x) (all_of_sets xs) r.0 s.0, s.1)

pub cut_acts_fold : (I : Step → Type 0) (F : List Fault → List Entry → Type 0) → Folds I F → (sets : List SetSteps) (ms : List Mark) (fs : List Fault) (ts : List Entry) → EachStep I (all_of_sets sets) → SetsCut sets ms fs ts → F fs ts
cut_acts_fold I F k sets ms fs ts i c = let r = sets_split I c.done (c.next ∷ c.rest) (subst (λ (ss : List SetSteps). EachStep I (all_of_sets ss)) c.list_is i) in
    stated F fs (c.part.first_faults ++ c.part.second_faults) ts (c.part.entries.front ++ c.part.entries.back) c.part.faults_are c.part.entries.joined
    (k.both c.part.first_faults c.part.second_faults c.part.entries.front c.part.entries.back (acts_fold I F k c.done c.part.first_marks c.part.first_faults c.part.entries.front r.0 c.part.entries.first)
    (set_cut_folds I F k c.next c.part.second_marks c.part.second_faults c.part.entries.back (step_split I (all_of_set c.next) (all_of_sets c.rest) r.1).0 c.part.entries.second))
