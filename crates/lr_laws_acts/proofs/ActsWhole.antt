-- Acts without a fault: all steps of the plan.
use Rattle.std.proofs.Common.{◌≡◌, inl, inr, Bool, true, false, cond, refl, sym, ◌∙◌, ap, subst, List, [], ◌∷◌, ◌++◌, map, append-nil}
use Rattle.std.specs.Prelude.{filter}
use Rattle.std.specs.List.{flat_map, list_any}
use Rattle.std.proofs.lemmas.Grind.{flat_map-append}
use Rattle.lr_rules.specs.declared.fault.Fault.{Fault}
use Rattle.lr_rules.specs.declared.fault.Phase.TheVariants as phase
use Rattle.lr_host.specs.declared.entry.Entry.{Entry}
use Rattle.lr_plan.specs.declared.mark.Mark.{Mark}
use Rattle.lr_plan.specs.declared.plan.SetPlan.{SetPlan}
use Rattle.lr_plan.specs.declared.plan.LogPlan.{LogPlan}
use Rattle.lr_plan.specs.declared.step.Step.{Step}
use Rattle.lr_plan.specs.declared.step.SetSteps.{SetSteps}
use Rattle.lr_plan.specs.Steps.{by_logs, steps_of_set}
use Rattle.lr_plan.specs.Course.{Course}
use Rattle.lr_plan.specs.Done.{EachDone, LogsDone, is_rotated, if_rotated, SetDone, broke_off, went_on, SetsDone}
use Rattle.lr_plan.proofs.Courses.{one_none}
use Rattle.lr_laws_family.specs.Weave.{Weave, none}
use Rattle.lr_laws_acts.specs.Parts.{takes_name, change_of, changes_by, ArePlain, EachPlain, IsPlainSet, ArePlainSets, parts_of_set, parts_of_sets, AllOf, InOnePart}
use Rattle.lr_laws_acts.proofs.Parting.{went_changes, joined_changes}
use Rattle.lr_laws_acts.proofs.Planning.{program_none}
use Rattle.lr_laws_family.proofs.Weaving.{weave_on, weave_others}

-- ---- all parts whole

pub nil_split : {A : Type 0} (xs ys zs : List A) → xs ≡ ys ++ zs → xs ≡ [] → (ys ≡ []) × (zs ≡ [])
nil_split xs [] zs e n = (refl, sym e ∙ n)
nil_split xs (y ∷ ys) zs e n = absurd (cc)

pub course_whole : (P : Entry → Type 0) (ss : List Step) (t : List Mark) (f : List Fault) (ts : List Entry) → ArePlain P ss → f ≡ [] → Course ss t f ts → filter takes_name ts ≡ changes_by ss
course_whole P [] t f ts plain n c = ap (filter takes_name) c.2
course_whole P (s ∷ ss) t f ts plain n (inl h) = absurd (one_none h.fault f h.told n)
course_whole P (s ∷ ss) t f ts plain n (inr g) =
    joined_changes ts g.entries.front g.entries.back g.entries.joined
    ∙ (ap (λ us. us ++ filter takes_name g.entries.back) (went_changes P s g.entries.front plain.0 g.entries.first) ∙ ap (λ us. change_of s ++ us) (course_whole P ss g.later f g.entries.back plain.1 n g.entries.second))

each_whole : (P : Entry → Type 0) (each : List (List Step)) (t : List Mark) (f : List Fault) (ts : List Entry) → EachPlain P each → f ≡ [] → EachDone each t f ts → filter takes_name ts ≡ flat_map changes_by each
each_whole P [] t f ts plain n d = ap (filter takes_name) d.2
each_whole P (ss ∷ each) t f ts plain n d =
    let parts = nil_split f d.first_faults d.second_faults d.faults_are n in
    joined_changes ts d.entries.front d.entries.back d.entries.joined
    ∙ (ap (λ us. us ++ filter takes_name d.entries.back) (course_whole P ss d.first_marks d.first_faults d.entries.front plain.0 parts.0 d.entries.first)
    ∙ ap (λ us. changes_by ss ++ us) (each_whole P each d.second_marks d.second_faults d.entries.back plain.1 parts.1 d.entries.second))

last_whole : (P : Entry → Type 0) (marks : List Mark) (last : List Step) (t : List Mark) (f : List Fault) (ts : List Entry) → ArePlain P last → changes_by last ≡ [] → f ≡ [] → Course (if_rotated marks last) t f ts → filter takes_name ts ≡ []
last_whole P marks last t f ts plain quiet n c = go (list_any is_rotated marks) c
  where
    go : (b : Bool) → Course (cond b last []) t f ts → filter takes_name ts ≡ []
    go true c = course_whole P last t f ts plain n c ∙ quiet
    go false c = ap (filter takes_name) c.2

-- the changes of a definition whose last steps change nothing
abbrev pub changes_of_set : SetSteps → List Entry
changes_of_set s = changes_by s.first ++ flat_map changes_by s.each

set_whole : (P : Entry → Type 0) (s : SetSteps) (t : List Mark) (f : List Fault) (ts : List Entry) → IsPlainSet P s → changes_by s.last ≡ [] → f ≡ [] → SetDone s t f ts → filter takes_name ts ≡ changes_of_set s
set_whole P s t f ts plain quiet n (broke_off b) = absurd (one_none b.fault f b.told n)
set_whole P s t f ts plain quiet n (went_on b) = go (nil_split f b.first_faults b.second_faults b.faults_are n) b.entries.second
  where
    go : (b.first_faults ≡ []) × (b.second_faults ≡ []) → LogsDone s.each s.last b.second_marks b.second_faults b.entries.back → filter takes_name ts ≡ changes_of_set s
    go parts d =
        let ends = nil_split b.second_faults d.of_each d.of_last d.faults_are parts.1 in
        joined_changes ts b.entries.front b.entries.back b.entries.joined
        ∙ (ap (λ us. us ++ filter takes_name b.entries.back) (course_whole P s.first b.first_marks b.first_faults b.entries.front plain.first parts.0 b.entries.first.1)
        ∙ ap (λ us. changes_by s.first ++ us)
        (joined_changes b.entries.back d.entries.front d.entries.back d.entries.joined
        ∙ (ap (λ us. us ++ filter takes_name d.entries.back) (each_whole P s.each d.by_each d.of_each d.entries.front plain.each ends.0 d.entries.first)
        ∙ (ap (λ us. flat_map changes_by s.each ++ us) (last_whole P d.by_each s.last d.by_last d.of_last d.entries.back plain.last quiet ends.1 d.entries.second) ∙ append-nil (flat_map changes_by s.each)))))

abbrev QuietLast : List SetSteps → Type 0
QuietLast [] = Unit {0}
QuietLast (s ∷ sets) = (changes_by s.last ≡ []) × QuietLast sets

sets_whole : (P : Entry → Type 0) (sets : List SetSteps) (t : List Mark) (f : List Fault) (ts : List Entry) → ArePlainSets P sets → QuietLast sets → f ≡ [] → SetsDone sets t f ts → filter takes_name ts ≡ flat_map changes_of_set sets
sets_whole P [] t f ts plain quiet n d = ap (filter takes_name) d.2
sets_whole P (s ∷ sets) t f ts plain quiet n d =
    let parts = nil_split f d.first_faults d.second_faults d.faults_are n in
    joined_changes ts d.entries.front d.entries.back d.entries.joined
    ∙ (ap (λ us. us ++ filter takes_name d.entries.back) (set_whole P s d.first_marks d.first_faults d.entries.front plain.0 quiet.0 parts.0 d.entries.first)
    ∙ ap (λ us. changes_of_set s ++ us) (sets_whole P sets d.second_marks d.second_faults d.entries.back plain.1 quiet.1 parts.1 d.entries.second))

quiet_set : (set : SetPlan) → changes_by (steps_of_set set).last ≡ []
quiet_set set = go set.shared set.logs
  where
    go : (shared : Bool) (logs : List LogPlan) → changes_by (by_logs shared logs set).last ≡ []
    go shared [] = refl
    go true (log ∷ logs) = refl
    go false (log ∷ logs) = program_none phase.Last set.last

quiet_sets : (sets : List SetPlan) → QuietLast (map steps_of_set sets)
quiet_sets [] = tt
quiet_sets (s ∷ sets) = (quiet_set s, quiet_sets sets)

-- ---- the parts joined are those changes

parts_joined : (s : SetSteps) → changes_by s.last ≡ [] → flat_map (λ part. part) (parts_of_set s) ≡ changes_of_set s
parts_joined s quiet = ap (λ us. changes_by s.first ++ us) (flat_map-append (λ part. part) (map changes_by s.each) (changes_by s.last ∷ [])
    ∙ (ap (λ us. us ++ (changes_by s.last ++ [])) (maps s.each) ∙ (ap (λ us. flat_map changes_by s.each ++ (us ++ [])) quiet ∙ append-nil (flat_map changes_by s.each))))
  where
    maps : (each : List (List Step)) → flat_map (λ part. part) (map changes_by each) ≡ flat_map changes_by each
    maps [] = refl
    maps (x ∷ xs) = ap (λ us. changes_by x ++ us) (maps xs)

sets_joined : (sets : List SetSteps) → QuietLast sets → flat_map (λ part. part) (parts_of_sets sets) ≡ flat_map changes_of_set sets
sets_joined [] quiet = refl
sets_joined (s ∷ sets) quiet = flat_map-append (λ part. part) (parts_of_set s) (parts_of_sets sets) ∙ (ap (λ us. us ++ flat_map (λ part. part) (parts_of_sets sets)) (parts_joined s quiet.0) ∙ ap (λ us. changes_of_set s ++ us) (sets_joined sets quiet.1))

-- all changes of the plan, in order, where nothing failed
pub done_whole : (P : Entry → Type 0) (sets : List SetPlan) (t : List Mark) (ts : List Entry) → ArePlainSets P (map steps_of_set sets) → SetsDone (map steps_of_set sets) t [] ts → filter takes_name ts ≡ flat_map (λ part. part) (parts_of_sets (map steps_of_set sets))
done_whole P sets t ts plain d = sets_whole P (map steps_of_set sets) t [] ts plain (quiet_sets sets) refl d ∙ sym (sets_joined (map steps_of_set sets) (quiet_sets sets))

all_joined : (P : Entry → Type 0) (ps : List (List Entry)) → AllOf P ps → Weave P [] (flat_map (λ part. part) ps)
all_joined P [] a = none
all_joined P (p ∷ ps) a = weave_on P [] p [] (flat_map (λ part. part) ps) (weave_others P p a.0) (all_joined P ps a.1)

pub one_joined : (P : Entry → Type 0) (steps : List Entry) (ps : List (List Entry)) → InOnePart P steps ps → Weave P steps (flat_map (λ part. part) ps)
one_joined P steps ps o =
    subst (λ qs. Weave P steps (flat_map (λ part. part) qs)) (sym o.parts_are)
    (subst (Weave P steps) (sym (flat_map-append (λ part. part) o.before (o.part ∷ o.after)))
    (weave_on P [] (flat_map (λ part. part) o.before) steps (o.part ++ flat_map (λ part. part) o.after) (all_joined P o.before o.first)
    (subst (λ os. Weave P os (o.part ++ flat_map (λ part. part) o.after)) (append-nil steps) (weave_on P steps o.part [] (flat_map (λ part. part) o.after) o.woven (all_joined P o.after o.rest)))))
