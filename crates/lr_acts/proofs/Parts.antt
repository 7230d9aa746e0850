-- The parts of a definition, as they were added.
use Rattle.std.proofs.Common.{◌≡◌, ℕ, ◌+◌, ◌-◌, ◌≤◌, arith, take, Bool, true, false, cond, refl, sym, ◌∙◌, ap, subst, List, [], ◌∷◌, ◌++◌, length, drop, append_assoc, append-nil, Option, Result, Ok, Err}
use Rattle.std.specs.List.{list_any}
use Rattle.std.proofs.lemmas.List.{take_all, length-append}
use Rattle.std.proofs.Math.Seq.{drop-append_seam}
use Rattle.lr_rules.specs.declared.fault.Fault.{Fault}
use Rattle.lr_rules.specs.declared.memory.Memory.{Memory}
use Rattle.lr_host.specs.declared.entry.Entry.{Entry}
use Rattle.lr_host.specs.declared.journal.Journal.{Journal}
use Rattle.lr_host.specs.Told.{Counts}
use Rattle.lr_host.proofs.Left.{left_as}
use Rattle.lr_plan.specs.declared.mark.Mark.{Mark}
use Rattle.lr_plan.specs.declared.step.Step.{Step}
use Rattle.lr_plan.specs.declared.step.SetSteps.{SetSteps}
use Rattle.lr_plan.specs.Asking.{LeadsTo}
use Rattle.lr_plan.specs.Course.{Part, Course, Unbroken}
use Rattle.lr_plan.specs.Cut.{LogsCut, SetCut, in_logs}
use Rattle.lr_plan.specs.Done.{is_rotated, EachDone, LogsThen, LogsDone, if_rotated, SetDone, went_on}
use Rattle.lr_plan.proofs.Courses.{both_of}
use Rattle.lr_acts.specs.declared.progress.Progress.{Progress}
use Rattle.lr_acts.specs.Adding.{AddsSteps}
use Rattle.lr_acts.specs.Making.{StepsEnd, EndsSo, all_of_each, all_of_set, all_of_sets}
use Rattle.lr_acts.proofs.Adding.{adds_as, adds_of_more, adds_on}

-- steps that were made or not are a course of them
pub course_of : (steps : List Step) (went : Bool) (ms : List Mark) (f : List Fault) (ts : List Entry) → StepsEnd steps (Ok went) ms f ts → Course steps ms f ts
course_of steps true ms f ts h = h.1
course_of steps false ms f ts h = h.part

pub leads : {P Q : Part} {ss : List Step} {x y : Progress} {o n : Option Journal} {a b : Counts} → AddsSteps P ss x y o n a b → ((ms : List Mark) (f : List Fault) (ts : List Entry) → P ms f ts → Q ms f ts) → LeadsTo Q o n
leads h f = (h.marks, h.faults, left_as h.entries (λ ts p. f h.marks h.faults ts p))

-- with these marks
abbrev By : List Mark → Part → Part
By those P marks faults ts = (marks ≡ those) × P marks faults ts

adds_by : {P : Part} {ss : List Step} {x y : Progress} {o n : Option Journal} {a b : Counts} (h : AddsSteps P ss x y o n a b) → AddsSteps (By h.marks P) ss x y o n a b
adds_by h = record {
  marks = h.marks;
  faults = h.faults;
  marks_are = h.marks_are;
  faults_are = h.faults_are;
  entries = left_as h.entries (λ ts p. (refl, p));
  are_counted = h.are_counted;
  taken = h.taken;
  names = h.names;
  onward = h.onward;
}

-- whether one of the marks that were added tells of a rotation
pub any_added : {P : Part} {ss : List Step} {x y : Progress} {o n : Option Journal} {a b : Counts} (h : AddsSteps P ss x y o n a b) (any : Bool) (marks : List Mark) (before : ℕ) → marks ≡ y.marks.items → before ≡ length x.marks.items
    → any ≡ list_any is_rotated (take (length marks - before) (drop before marks)) → list_any is_rotated h.marks ≡ any
any_added {x = x} h any marks before all was is = sym (is ∙ ap (list_any is_rotated) (ap (take (length marks - before)) same ∙ take_all (length marks - before) h.marks bound))
  where
    same : drop before marks ≡ h.marks
    same = ap (λ k. drop k marks) was ∙ (ap (drop (length x.marks.items)) (all ∙ h.marks_are) ∙ drop-append_seam x.marks.items h.marks)

    bound : length h.marks ≤ length marks - before
    bound = let long : length marks ≡ length x.marks.items + length h.marks = ap length (all ∙ h.marks_are) ∙ length-append x.marks.items h.marks in omega (arith, long, was)

-- a log was rotated, and the last steps came to this
pub logs_last : (Q R : List Step → Part) (each : List (List Step)) (last : List Step) {x y z : Progress} {o m n : Option Journal} {a b c : Counts} (h : AddsSteps (EachDone each) (all_of_each each) x y o m a b) → list_any is_rotated h.marks ≡ true
    → ((ms : List Mark) (f : List Fault) (ts : List Entry) → R last ms f ts → Q last ms f ts) → AddsSteps (R last) last y z m n b c → AddsSteps (LogsThen Q each last) (all_of_each each ++ last) x z o n a c
logs_last Q R each last h some same k = adds_on (all_of_each each) last (adds_by h) k (λ ms ms' f f' ts ts' p q. record {
  by_each = ms;
  by_last = ms';
  marks_are = refl;
  of_each = f;
  of_last = f';
  faults_are = refl;
  entries = record {
    front = ts;
    back = ts';
    joined = refl;
    first = p.1;
    second = subst (λ (ss : List Step). Q ss ms' f' ts') (sym (ap (λ l. if_rotated l last) p.0 ∙ ap (λ t. cond t last []) some)) (same ms' f' ts' q);
  };
})

-- none was
pub logs_alone : (each : List (List Step)) (last : List Step) {x y : Progress} {o n : Option Journal} {a b : Counts} (h : AddsSteps (EachDone each) (all_of_each each) x y o n a b) → list_any is_rotated h.marks ≡ false → AddsSteps (LogsDone each last) (all_of_each each ++ last) x y o n a b
logs_alone each last h none = adds_of_more (all_of_each each) last (all_of_each each ++ last) refl (adds_as (adds_by h) (λ ms f ts p. record {
  by_each = ms;
  by_last = [];
  marks_are = sym (append-nil ms);
  of_each = f;
  of_last = [];
  faults_are = sym (append-nil f);
  entries = record {
    front = ts;
    back = [];
    joined = sym (append-nil ts);
    first = p.1;
    second = subst (λ (ss : List Step). Course ss [] [] []) (sym (ap (λ l. if_rotated l last) p.0 ∙ ap (λ t. cond t last []) none)) (refl, refl, refl);
  };
}))

-- the first steps of a definition were made, and its logs' ended so
pub set_ends : (set : SetSteps) (r : Result Unit Memory) {x y z : Progress} {o m n : Option Journal} {a b c : Counts} → AddsSteps (Unbroken (Course set.first)) set.first x y o m a b
    → AddsSteps (EndsSo (LogsDone set.each set.last) (LogsCut set.each set.last) r) (all_of_each set.each ++ set.last) y z m n b c → AddsSteps (EndsSo (SetDone set) (SetCut set) r) (all_of_set set) x z o n a c
set_ends set (Ok u) h k = adds_on set.first (all_of_each set.each ++ set.last) h k (λ ms ms' f f' ts ts' p q. went_on (both_of (Unbroken (Course set.first)) (LogsDone set.each set.last) ms ms' f f' ts ts' p q))
set_ends set (Err e) h k = adds_on set.first (all_of_each set.each ++ set.last) h k (λ ms ms' f f' ts ts' p q. in_logs (both_of (Unbroken (Course set.first)) (LogsCut set.each set.last) ms ms' f f' ts ts' p q))

-- ---- all steps

pub each_more : (xs ys : List (List Step)) → all_of_each (xs ++ ys) ≡ all_of_each xs ++ all_of_each ys
each_more [] ys = refl
each_more (x ∷ xs) ys = ap (λ zs. x ++ zs) (each_more xs ys) ∙ sym (append_assoc x (all_of_each xs) (all_of_each ys))

-- one more behind these
pub each_next : (xs : List (List Step)) (x : List Step) → all_of_each (xs ++ x ∷ []) ≡ all_of_each xs ++ x
each_next xs x = each_more xs (x ∷ []) ∙ ap (λ zs. all_of_each xs ++ zs) (append-nil x)

-- these, one more, and the rest
pub each_rest : (xs : List (List Step)) (x : List Step) (rest : List (List Step)) → all_of_each (xs ++ x ∷ rest) ≡ (all_of_each xs ++ x) ++ all_of_each rest
each_rest xs x rest = each_more xs (x ∷ rest) ∙ sym (append_assoc (all_of_each xs) x (all_of_each rest))

pub sets_more : (xs ys : List SetSteps) → all_of_sets (xs ++ ys) ≡ all_of_sets xs ++ all_of_sets ys
sets_more [] ys = refl
sets_more (x ∷ xs) ys = ap (λ zs. all_of_set x ++ zs) (sets_more xs ys) ∙ sym (append_assoc (all_of_set x) (all_of_sets xs) (all_of_sets ys))

pub sets_next : (xs : List SetSteps) (x : SetSteps) → all_of_sets (xs ++ x ∷ []) ≡ all_of_sets xs ++ all_of_set x
sets_next xs x = sets_more xs (x ∷ []) ∙ ap (λ zs. all_of_sets xs ++ zs) (append-nil (all_of_set x))

pub sets_rest : (xs : List SetSteps) (x : SetSteps) (rest : List SetSteps) → all_of_sets (xs ++ x ∷ rest) ≡ (all_of_sets xs ++ all_of_set x) ++ all_of_sets rest
sets_rest xs x rest = sets_more xs (x ∷ rest) ∙ sym (append_assoc (all_of_sets xs) (all_of_set x) (all_of_sets rest))
