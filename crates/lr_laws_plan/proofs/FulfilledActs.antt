-- The acts of steps that were made, one behind another.
use Rattle.std.proofs.Common.{◌≡◌, ◌⊎◌, inl, inr, ℕ, Bool, true, false, cond, refl, sym, ◌∙◌, ap, subst, List, [], ◌∷◌, ◌++◌, append_assoc}
use Rattle.std.specs.Prelude.{filter}
use Rattle.std.specs.List.{flat_map, list_any}
use Rattle.std.proofs.lemmas.Grind.{flat_map-append}
use Rattle.std.proofs.lemmas.List.Elements.{filter-append}
use Rattle.lr_rules.specs.declared.fault.Fault.{Fault}
use Rattle.lr_rules.specs.declared.path.Path.{Path}
use Rattle.lr_host.specs.declared.entry.Entry.{Entry}
use Rattle.lr_acts.specs.Making.{all_of_each, all_of_set, all_of_sets}
use Rattle.lr_plan.specs.declared.mark.Mark.{Mark}
use Rattle.lr_plan.specs.declared.step.SetSteps.{SetSteps}
use Rattle.lr_plan.specs.declared.step.Step.{Step}
use Rattle.lr_plan.specs.declared.step.Step.TheVariants.{Runs, Removes, MakesDir, Renames, Creates, Takes, Copies, Appends, SyncsFile, SyncsDir, Truncates, Rotated}
use Rattle.lr_host.specs.Appending.{Appended}
use Rattle.lr_host.proofs.Appending.{each_appended}
use Rattle.lr_host.proofs.Each.{none_pass}
use Rattle.lr_copy.specs.Bytes.{AllBytes}
use Rattle.lr_copy.proofs.EachOfBytes.{each_all}
use Rattle.lr_plan.specs.Course.{Course}
use Rattle.lr_plan.specs.Done.{EachDone, LogsDone, SetDone, broke_off, went_on, SetsDone, if_rotated, is_rotated}
use Rattle.lr_plan.specs.Outcomes.{Succeeds, marks_of}
use Rattle.lr_plan.proofs.Courses.{one_none}
use Rattle.lr_laws_plan.specs.Acts.{is_act, StepActs, AreActsOf}
use Rattle.lr_laws_acts.proofs.ActsWhole.{nil_split}

-- ---- one step

-- reads and appends are no acts
copied_none : (from to : Path) (limit count : ℕ) (ts : List Entry) → AllBytes from to limit count ts → filter is_act ts ≡ []
copied_none from to limit count ts h = none_pass is_act ts (each_all (λ e. is_act e ≡ false) from to (λ place piece short. refl) (λ piece. refl) limit count ts h)

appended_none : (to : Path) (text : List ℕ) (ts : List Entry) → Appended to text ts → filter is_act ts ≡ []
appended_none to text ts a = none_pass is_act ts (each_appended (λ e. is_act e ≡ false) to text ts (λ piece short. refl) a)

step_acts : (s : Step) (ts : List Entry) → Succeeds s ts → StepActs s (filter is_act ts)
step_acts (Runs phase on command) ts h = ap (filter is_act) h
step_acts (Removes path) ts h = ap (filter is_act) h
step_acts (MakesDir path mode) ts (inl one) = inr (ap (filter is_act) one)
step_acts (MakesDir path mode) ts (inr seen) = inl (ap (filter is_act) seen.look)
step_acts (Renames from to) ts h = ap (filter is_act) h
step_acts (Creates path mode) ts (inl none) = inl (ap (filter is_act) none)
step_acts (Creates path mode) ts (inr one) = inr (ap (filter is_act) one)
step_acts (Takes path mode) ts h = ap (filter is_act) h
step_acts (Copies from to limit) ts h = copied_none from to limit h.0 ts h.1
step_acts (Appends path text) ts h = appended_none path text ts h
step_acts (SyncsFile path) ts h = ap (filter is_act) h
step_acts (SyncsDir path) ts h = ap (filter is_act) h
step_acts (Truncates path) ts h = ap (filter is_act) h
step_acts (Rotated log) ts h = ap (filter is_act) h

-- ---- steps that were all made

pub acts_both : (xs ys : List Step) (us vs : List Entry) → AreActsOf xs us → AreActsOf ys vs → AreActsOf (xs ++ ys) (us ++ vs)
acts_both [] ys us vs a b = subst (AreActsOf ys) (sym (ap (λ ws. ws ++ vs) a)) b
acts_both (x ∷ xs) ys us vs a b = record { front = a.front; back = a.back ++ vs; joined = ap (λ ws. ws ++ vs) a.joined ∙ append_assoc a.front a.back vs; first = a.first; second = acts_both xs ys a.back vs a.second b }

-- the acts are those of these steps, and the marks theirs
pub record Went (steps : List Step) (marks : List Mark) (ts : List Entry) : Type 0 where
  pub acts : AreActsOf steps (filter is_act ts)
  pub marks_are : marks ≡ flat_map marks_of steps

went_both : (xs ys : List Step) (ms ns all : List Mark) (us vs ts : List Entry) → all ≡ ms ++ ns → ts ≡ us ++ vs → Went xs ms us → Went ys ns vs → Went (xs ++ ys) all ts
went_both xs ys ms ns all us vs ts e d a b = record {
  acts = subst (AreActsOf (xs ++ ys)) (sym (ap (filter is_act) d ∙ filter-append is_act us vs)) (acts_both xs ys (filter is_act us) (filter is_act vs) a.acts b.acts);
  marks_are = e ∙ (ap (λ ks. ks ++ ns) a.marks_are ∙ (ap (λ ks. flat_map marks_of xs ++ ks) b.marks_are ∙ sym (flat_map-append marks_of xs ys)));
}

went_none : (ms : List Mark) (ts : List Entry) → ms ≡ [] → ts ≡ [] → Went [] ms ts
went_none ms ts e d = record { acts = ap (filter is_act) d; marks_are = e }

pub course_went : (steps : List Step) (ms : List Mark) (fs : List Fault) (ts : List Entry) → fs ≡ [] → Course steps ms fs ts → Went steps ms ts
course_went [] ms fs ts n c = went_none ms ts c.0 c.2
course_went (s ∷ ss) ms fs ts n (inl h) = absurd (one_none h.fault fs h.told n)
course_went (s ∷ ss) ms fs ts n (inr g) =
    let r = course_went ss g.later fs g.entries.back n g.entries.second in
    record {
      acts = record { front = filter is_act g.entries.front; back = filter is_act g.entries.back; joined = ap (filter is_act) g.entries.joined ∙ filter-append is_act g.entries.front g.entries.back; first = step_acts s g.entries.front g.entries.first; second = r.acts };
      marks_are = g.marks_are ∙ ap (λ ks. marks_of s ++ ks) r.marks_are;
    }

each_went : (each : List (List Step)) (ms : List Mark) (fs : List Fault) (ts : List Entry) → fs ≡ [] → EachDone each ms fs ts → Went (all_of_each each) ms ts
each_went [] ms fs ts n d = went_none ms ts d.0 d.2
each_went (ss ∷ each) ms fs ts n d =
    let parts = nil_split fs d.first_faults d.second_faults d.faults_are n in
    went_both ss (all_of_each each) d.first_marks d.second_marks ms d.entries.front d.entries.back ts d.marks_are d.entries.joined
    (course_went ss d.first_marks d.first_faults d.entries.front parts.0 d.entries.first) (each_went each d.second_marks d.second_faults d.entries.back parts.1 d.entries.second)

-- ---- definitions

-- where all steps of the logs are made, the last stand too: there are none, or a log is rotated
abbrev pub LastStands : SetSteps → Type 0
LastStands s = (s.last ≡ []) ⊎ (list_any is_rotated (flat_map marks_of (all_of_each s.each)) ≡ true)

last_went : (s : SetSteps) (made ms : List Mark) (fs : List Fault) (ts : List Entry) → LastStands s → made ≡ flat_map marks_of (all_of_each s.each) → fs ≡ [] → Course (if_rotated made s.last) ms fs ts → Went s.last ms ts
last_went s made ms fs ts stands e n c = go stands (list_any is_rotated made) refl c
  where
    go : LastStands s → (b : Bool) → list_any is_rotated made ≡ b → Course (cond b s.last []) ms fs ts → Went s.last ms ts
    go stands true is c = course_went s.last ms fs ts n c
    go (inl none) false is c = subst (λ ss. Went ss ms ts) (sym none) (course_went [] ms fs ts n c)
    go (inr some) false is c = absurd (let same : list_any is_rotated made ≡ list_any is_rotated (flat_map marks_of (all_of_each s.each)) = ap (list_any is_rotated) e in cc)

logs_went : (s : SetSteps) (ms : List Mark) (fs : List Fault) (ts : List Entry) → LastStands s → fs ≡ [] → LogsDone s.each s.last ms fs ts → Went (all_of_each s.each ++ s.last) ms ts
logs_went s ms fs ts stands n d =
    let parts = nil_split fs d.of_each d.of_last d.faults_are n in
    let each = each_went s.each d.by_each d.of_each d.entries.front parts.0 d.entries.first in
    went_both (all_of_each s.each) s.last d.by_each d.by_last ms d.entries.front d.entries.back ts d.marks_are d.entries.joined each
    (last_went s d.by_each d.by_last d.of_last d.entries.back stands each.marks_are parts.1 d.entries.second)

set_went : (s : SetSteps) (ms : List Mark) (fs : List Fault) (ts : List Entry) → LastStands s → fs ≡ [] → SetDone s ms fs ts → Went (all_of_set s) ms ts
set_went s ms fs ts stands n (broke_off b) = absurd (one_none b.fault fs b.told n)
set_went s ms fs ts stands n (went_on b) =
    let parts = nil_split fs b.first_faults b.second_faults b.faults_are n in
    went_both s.first (all_of_each s.each ++ s.last) b.first_marks b.second_marks ms b.entries.front b.entries.back ts b.marks_are b.entries.joined
    (course_went s.first b.first_marks b.first_faults b.entries.front parts.0 b.entries.first.1) (logs_went s b.second_marks b.second_faults b.entries.back stands parts.1 b.entries.second)

abbrev pub LastsStand : List SetSteps → Type 0
LastsStand [] = Unit {0}
LastsStand (s ∷ sets) = LastStands s × LastsStand sets

pub sets_went : (sets : List SetSteps) (ms : List Mark) (fs : List Fault) (ts : List Entry) → LastsStand sets → fs ≡ [] → SetsDone sets ms fs ts → Went (all_of_sets sets) ms ts
sets_went [] ms fs ts stand n d = went_none ms ts d.0 d.2
sets_went (s ∷ sets) ms fs ts stand n d =
    let parts = nil_split fs d.first_faults d.second_faults d.faults_are n in
    went_both (all_of_set s) (all_of_sets sets) d.first_marks d.second_marks ms d.entries.front d.entries.back ts d.marks_are d.entries.joined
    (set_went s d.first_marks d.first_faults d.entries.front stand.0 parts.0 d.entries.first) (sets_went sets d.second_marks d.second_faults d.entries.back stand.1 parts.1 d.entries.second)
