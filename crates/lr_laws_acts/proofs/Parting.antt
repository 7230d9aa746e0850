-- What the acts of a plan change, part by part.
use Rattle.std.specs.List.{list_any}
use Rattle.std.proofs.Common.{◌≡◌, ◌≢◌, ℕ, bytes_eq, Bool, true, false, cond, ◌⊎◌, inl, inr, ⊎_elim, refl, sym, ◌∙◌, ap, subst, List, [], ◌∷◌, ◌++◌, map, append_assoc, append-nil}
use Rattle.std.specs.Prelude.{filter}
use Rattle.std.proofs.lemmas.List.Elements.{filter-append}
use Rattle.std.proofs.lemmas.Grind.{flat_map-append}
use Rattle.std.proofs.lemmas.Slice.Eq.{bytes_eq-Decides}
use Rattle.lr_rules.specs.declared.clock.Clock.{Clock}
use Rattle.lr_rules.specs.declared.path.Path.{Path}
use Rattle.lr_rules.specs.declared.fault.Fault.{Fault}
use Rattle.lr_host.specs.declared.entry.Entry.{Entry}
use Rattle.lr_host.specs.declared.entry.Entry.TheVariants as entry
use Rattle.lr_host.specs.Lists.{IsIn}
use Rattle.lr_host.specs.Told.{Each}
use Rattle.lr_host.specs.Steps.{is_change}
use Rattle.lr_host.proofs.Each.{each_append, each_first, each_as, none_pass}
use Rattle.lr_laws_family.specs.Weave.{IsFirstOf, Weave, none, own, other, FirstWoven}
use Rattle.lr_host.specs.Quiet.{AreQuiet}
use Rattle.lr_laws_acts.proofs.Firsts.{first_longer, first_behind}
use Rattle.lr_copy.specs.declared.job.BytesStop.{BytesStop}
use Rattle.lr_copy.specs.Bytes.{AllBytes, BytesBroke}
use Rattle.lr_copy.proofs.EachOfBytes.{each_all, each_broke}
use Rattle.lr_plan.specs.declared.mark.Mark.{Mark}
use Rattle.lr_plan.specs.declared.step.Step.{Step}
use Rattle.lr_plan.specs.declared.step.Step.TheVariants as step
use Rattle.lr_plan.specs.declared.step.SetSteps.{SetSteps}
use Rattle.lr_chain.specs.declared.directory.DirStop.TheVariants as unmade
use Rattle.lr_plan.specs.Outcomes.{Succeeds, Fails, badly, not_run, maybe_run}
use Rattle.lr_plan.specs.Course.{Course}
use Rattle.lr_plan.specs.Cut.{CourseCut, ListCut, LogsCut, in_each, in_last, SetCut, in_first, in_logs, SetsCut}
use Rattle.lr_plan.specs.Done.{EachDone, LogsDone, is_rotated, if_rotated, SetDone, broke_off, went_on, SetsDone}
use Rattle.lr_laws_acts.specs.Parts.{takes_name, change_of, changes_by, IsPlainStep, ArePlain, EachPlain, IsPlainSet, ArePlainSets, MakesOnly, MakesOne, parts_of_set, parts_of_sets, FirstParts, AllOf, ArePlanned}
use Rattle.lr_laws_acts.specs.Planned.{NoneHas, LogsDiffer}
use Rattle.lr_laws_rotations.specs.Target.{Target, target_entries}
use Rattle.lr_laws_rotations.specs.AllTurns.{AlsoDoes, IsOf, IsOfSome, IsOfOther, IsOfState, StandsBetween}
use Rattle.lr_laws_rotations.specs.Runs.{AllTurnsBy}
use Rattle.lr_laws_rotations.specs.Seen.{AreLogsSeen}
use Rattle.lr_laws_family.proofs.Weaving.{weave_as, weave_on, weave_others}
use Rattle.lr_rules.specs.declared.rules.Rules.{Rules}

-- ---- one step

changes_are : (ts us : List Entry) → ts ≡ us → filter takes_name ts ≡ filter takes_name us
changes_are ts us e = ap (filter takes_name) e

-- reads and appends change no names
bytes_none : (from to : Path) (limit count : ℕ) (ts : List Entry) → AllBytes from to limit count ts → filter takes_name ts ≡ []
bytes_none from to limit count ts w = none_pass takes_name ts (each_all (λ e. takes_name e ≡ false) from to (λ k piece short. refl) (λ piece. refl) limit count ts w)

broke_none : (from to : Path) (limit : ℕ) (why : BytesStop) (ts : List Entry) → BytesBroke from to limit why ts → filter takes_name ts ≡ []
broke_none from to limit why ts w = none_pass takes_name ts (each_broke (λ e. takes_name e ≡ false) from to (λ k piece short. refl) (λ piece. refl) limit why ts w)

pub went_changes : (P : Entry → Type 0) (s : Step) (ts : List Entry) → IsPlainStep P s → Succeeds s ts → filter takes_name ts ≡ change_of s
went_changes P (step.Runs phase on command) ts i w = changes_are ts _ w
went_changes P (step.Removes path) ts i w = changes_are ts _ w
went_changes P (step.Renames from to) ts i w = changes_are ts _ w
went_changes P (step.Creates path mode) ts i w = ⊎_elim (λ none. changes_are ts [] none) (λ one. changes_are ts (entry.Makes path mode ∷ []) one) w
went_changes P (step.MakesDir path mode) ts i w = ⊎_elim (λ one. changes_are ts (entry.MakesDir path mode ∷ []) one) (λ saw. changes_are ts (entry.Look path saw.seen ∷ []) saw.look) w
went_changes P (step.Takes path mode) ts i w = changes_are ts _ w
went_changes P (step.Copies from to limit) ts i w = bytes_none from to limit w.0 ts w.1
went_changes P (step.Truncates path) ts i w = changes_are ts _ w
went_changes P (step.SyncsFile path) ts i w = changes_are ts _ w
went_changes P (step.SyncsDir path) ts i w = changes_are ts _ w
went_changes P (step.Rotated log) ts i w = changes_are ts [] w
went_changes P _ ts i w = absurd i

maybe_first : (e : Entry) (ts : List Entry) → (ts ≡ []) ⊎ (ts ≡ e ∷ []) → IsFirstOf (filter takes_name (e ∷ [])) (filter takes_name ts)
maybe_first e ts h = ⊎_elim (λ nothing. (filter takes_name (e ∷ []), sym (ap (λ us. us ++ filter takes_name (e ∷ [])) (changes_are ts [] nothing)))) (λ one. ([], sym (append-nil (filter takes_name ts) ∙ changes_are ts (e ∷ []) one))) h

pub failed_changes : (P : Entry → Type 0) (s : Step) (f : Fault) (ts : List Entry) → IsPlainStep P s → Fails s f ts → IsFirstOf (change_of s) (filter takes_name ts)
failed_changes P (step.Runs phase on command) f ts i (badly end ne is one) = ([], sym (append-nil (filter takes_name ts) ∙ changes_are ts _ one))
failed_changes P (step.Runs phase on command) f ts i (not_run is nothing) = ([], sym (append-nil (filter takes_name ts) ∙ changes_are ts [] nothing))
failed_changes P (step.Runs phase on command) f ts i (maybe_run end is one) = ([], sym (append-nil (filter takes_name ts) ∙ changes_are ts _ one))
failed_changes P (step.Removes path) f ts i h = maybe_first (entry.Unlinks path) ts h.1
failed_changes P (step.Renames from to) f ts i h = maybe_first (entry.Renames from to) ts h.1
failed_changes P (step.Creates path mode) f ts i h = maybe_first (entry.Makes path mode) ts h.1
failed_changes P (step.MakesDir path mode) f ts i (unmade.Make, is, made) = maybe_first (entry.MakesDir path mode) ts made
failed_changes P (step.MakesDir path mode) f ts i (unmade.Look, is, nothing) = ([], sym (append-nil (filter takes_name ts) ∙ changes_are ts [] nothing))
failed_changes P (step.MakesDir path mode) f ts i (unmade.NotDir, is, saw) = ([], sym (append-nil (filter takes_name ts) ∙ changes_are ts _ saw.look))
failed_changes P (step.Takes path mode) f ts i (inl h) = maybe_first (entry.Makes path mode) ts h.1
failed_changes P (step.Takes path mode) f ts i (inr h) = ([], sym (append-nil (filter takes_name ts) ∙ changes_are ts [] h.1))
failed_changes P (step.Copies from to limit) f ts i h = ([], sym (append-nil (filter takes_name ts) ∙ broke_none from to limit h.0 ts h.2))
failed_changes P (step.Truncates path) f ts i h = maybe_first (entry.Truncates path) ts h.1
failed_changes P (step.SyncsFile path) f ts i h = maybe_first (entry.SyncsFile path) ts h.1
failed_changes P (step.SyncsDir path) f ts i h = maybe_first (entry.SyncsDir path) ts h.1
failed_changes P (step.Rotated log) f ts i h = absurd h
failed_changes P _ f ts i h = absurd i

-- what a step makes
none_only : (P : Entry → Type 0) (ts : List Entry) → ts ≡ [] → Each (MakesOnly P) ts
none_only P ts e = subst (Each (MakesOnly P)) (sym e) tt

one_only : (P : Entry → Type 0) (e : Entry) (ts : List Entry) → MakesOnly P e → ts ≡ e ∷ [] → Each (MakesOnly P) ts
one_only P e ts i is = subst (Each (MakesOnly P)) (sym is) (i, tt)

maybe_only : (P : Entry → Type 0) (e : Entry) (ts : List Entry) → MakesOnly P e → (ts ≡ []) ⊎ (ts ≡ e ∷ []) → Each (MakesOnly P) ts
maybe_only P e ts i h = ⊎_elim (λ none. none_only P ts none) (λ one. one_only P e ts i one) h

pub went_only : (P : Entry → Type 0) (s : Step) (ts : List Entry) → IsPlainStep P s → Succeeds s ts → Each (MakesOnly P) ts
went_only P (step.Runs phase on command) ts i w = one_only P _ ts tt w
went_only P (step.Removes path) ts i w = one_only P (entry.Unlinks path) ts tt w
went_only P (step.Renames from to) ts i w = one_only P (entry.Renames from to) ts tt w
went_only P (step.Creates path mode) ts i w = maybe_only P (entry.Makes path mode) ts i w
went_only P (step.MakesDir path mode) ts i w = ⊎_elim (λ one. one_only P (entry.MakesDir path mode) ts i one) (λ saw. one_only P (entry.Look path saw.seen) ts tt saw.look) w
went_only P (step.Takes path mode) ts i w = one_only P (entry.Makes path mode) ts i w
went_only P (step.Copies from to limit) ts i w = each_all (MakesOnly P) from to (λ k piece short. tt) i limit w.0 ts w.1
went_only P (step.Truncates path) ts i w = one_only P (entry.Truncates path) ts i w
went_only P (step.SyncsFile path) ts i w = one_only P (entry.SyncsFile path) ts tt w
went_only P (step.SyncsDir path) ts i w = one_only P (entry.SyncsDir path) ts tt w
went_only P (step.Rotated log) ts i w = none_only P ts w
went_only P _ ts i w = absurd i

pub failed_only : (P : Entry → Type 0) (s : Step) (f : Fault) (ts : List Entry) → IsPlainStep P s → Fails s f ts → Each (MakesOnly P) ts
failed_only P (step.Runs phase on command) f ts i (badly end ne is one) = one_only P _ ts tt one
failed_only P (step.Runs phase on command) f ts i (not_run is nothing) = none_only P ts nothing
failed_only P (step.Runs phase on command) f ts i (maybe_run end is one) = one_only P _ ts tt one
failed_only P (step.Removes path) f ts i h = maybe_only P (entry.Unlinks path) ts tt h.1
failed_only P (step.Renames from to) f ts i h = maybe_only P (entry.Renames from to) ts tt h.1
failed_only P (step.Creates path mode) f ts i h = maybe_only P (entry.Makes path mode) ts i h.1
failed_only P (step.MakesDir path mode) f ts i (unmade.Make, is, made) = maybe_only P (entry.MakesDir path mode) ts i made
failed_only P (step.MakesDir path mode) f ts i (unmade.Look, is, nothing) = none_only P ts nothing
failed_only P (step.MakesDir path mode) f ts i (unmade.NotDir, is, saw) = one_only P (entry.Look path saw.seen) ts tt saw.look
failed_only P (step.Takes path mode) f ts i (inl h) = maybe_only P (entry.Makes path mode) ts i h.1
failed_only P (step.Takes path mode) f ts i (inr h) = none_only P ts h.1
failed_only P (step.Copies from to limit) f ts i h = each_broke (MakesOnly P) from to (λ k piece short. tt) i limit h.0 ts h.2
failed_only P (step.Truncates path) f ts i h = maybe_only P (entry.Truncates path) ts i h.1
failed_only P (step.SyncsFile path) f ts i h = maybe_only P (entry.SyncsFile path) ts tt h.1
failed_only P (step.SyncsDir path) f ts i h = maybe_only P (entry.SyncsDir path) ts tt h.1
failed_only P (step.Rotated log) f ts i h = absurd h
failed_only P _ f ts i h = absurd i

-- ---- a course

-- A first part of these changes of names, in order; and of what was made, filled or emptied P holds.
pub record Begun (P : Entry → Type 0) (steps : List Entry) (ts : List Entry) : Type 0 where
  pub first : IsFirstOf steps (filter takes_name ts)
  pub only : Each (MakesOnly P) ts

first_none : (xs : List Entry) → IsFirstOf xs []
first_none xs = (xs, refl)

first_same : (xs ts us : List Entry) → ts ≡ us → IsFirstOf xs us → IsFirstOf xs ts
first_same xs ts us e f = subst (IsFirstOf xs) (sym e) f

pub course_first : (P : Entry → Type 0) (ss : List Step) (t : List Mark) (f : List Fault) (ts : List Entry) → ArePlain P ss → Course ss t f ts → Begun P (changes_by ss) ts
course_first P [] t f ts plain c = record { first = first_same [] (filter takes_name ts) [] (changes_are ts [] c.2) (first_none []); only = none_only P ts c.2 }
course_first P (s ∷ ss) t f ts plain (inl h) = record { first = first_longer (change_of s) (changes_by ss) (filter takes_name ts) (failed_changes P s h.fault ts plain.0 h.failed); only = failed_only P s h.fault ts plain.0 h.failed }
course_first P (s ∷ ss) t f ts plain (inr g) = let rest = course_first P ss g.later f g.entries.back plain.1 g.entries.second in record {
  first = first_same (change_of s ++ changes_by ss) (filter takes_name ts) (change_of s ++ filter takes_name g.entries.back)
      (changes_are ts _ g.entries.joined ∙ (filter-append takes_name g.entries.front g.entries.back ∙ ap (λ us. us ++ filter takes_name g.entries.back) (went_changes P s g.entries.front plain.0 g.entries.first)))
      (first_behind (change_of s) (changes_by ss) (filter takes_name g.entries.back) rest.first);
  only = subst (Each (MakesOnly P)) (sym g.entries.joined) (each_append (MakesOnly P) g.entries.front g.entries.back (went_only P s g.entries.front plain.0 g.entries.first) rest.only);
}

plain_part : (P : Entry → Type 0) (xs ys : List Step) → ArePlain P (xs ++ ys) → ArePlain P xs
plain_part P [] ys a = tt
plain_part P (x ∷ xs) ys a = (a.0, plain_part P xs ys a.1)

begun_longer : (P : Entry → Type 0) (xs ys ts : List Entry) → Begun P xs ts → Begun P (xs ++ ys) ts
begun_longer P xs ys ts b = record { first = first_longer xs ys (filter takes_name ts) b.first; only = b.only }

pub cut_first : (P : Entry → Type 0) (ss : List Step) (t : List Mark) (f : List Fault) (ts : List Entry) → ArePlain P ss → CourseCut ss t f ts → Begun P (changes_by ss) ts
cut_first P ss t f ts plain c = subst (λ xs. Begun P xs ts) (sym (ap changes_by c.steps_are ∙ flat_map-append change_of c.made (c.next ∷ c.rest)))
    (begun_longer P (changes_by c.made) (changes_by (c.next ∷ c.rest)) ts (course_first P c.made t f ts (plain_part P c.made (c.next ∷ c.rest) (subst (ArePlain P) c.steps_are plain)) c.part.1))

-- ---- parts

pub parts_none : (ps : List (List Entry)) → FirstParts ps []
parts_none [] = refl
parts_none (p ∷ ps) = record { front = []; back = []; joined = refl; first = first_none p; second = parts_none ps }

-- A first part of each part of these changes of names, one behind another; and of what was made, filled or emptied P holds.
pub record BegunParts (P : Entry → Type 0) (parts : List (List Entry)) (ts : List Entry) : Type 0 where
  pub first : FirstParts parts (filter takes_name ts)
  pub only : Each (MakesOnly P) ts

first_one : (p : List Entry) (ts : List Entry) → IsFirstOf p ts → FirstParts (p ∷ []) ts
first_one p ts f = record { front = ts; back = []; joined = sym (append-nil ts); first = f; second = refl }

parts_one : (P : Entry → Type 0) (p : List Entry) (ts : List Entry) → Begun P p ts → BegunParts P (p ∷ []) ts
parts_one P p ts b = record { first = first_one p (filter takes_name ts) b.first; only = b.only }

pub parts_on : (ps qs : List (List Entry)) (ts us : List Entry) → FirstParts ps ts → FirstParts qs us → FirstParts (ps ++ qs) (ts ++ us)
parts_on [] qs ts us p q = subst (FirstParts qs) (sym (ap (λ x. x ++ us) p)) q
parts_on (p ∷ ps) qs ts us h q = record {
  front = h.front;
  back = h.back ++ us;
  joined = ap (λ x. x ++ us) h.joined ∙ append_assoc h.front h.back us;
  first = h.first;
  second = parts_on ps qs h.back us h.second q;
}

parts_as : (ps : List (List Entry)) (ts us : List Entry) → ts ≡ us → FirstParts ps us → FirstParts ps ts
parts_as ps ts us e p = subst (FirstParts ps) (sym e) p

pub joined_changes : (ts front back : List Entry) → ts ≡ front ++ back → filter takes_name ts ≡ filter takes_name front ++ filter takes_name back
joined_changes ts front back e = changes_are ts (front ++ back) e ∙ filter-append takes_name front back

-- one behind another
parts_both : (P : Entry → Type 0) (ps qs : List (List Entry)) (ts front back : List Entry) → ts ≡ front ++ back → BegunParts P ps front → BegunParts P qs back → BegunParts P (ps ++ qs) ts
parts_both P ps qs ts front back e p q = record {
  first = parts_as (ps ++ qs) (filter takes_name ts) (filter takes_name front ++ filter takes_name back) (joined_changes ts front back e) (parts_on ps qs (filter takes_name front) (filter takes_name back) p.first q.first);
  only = subst (Each (MakesOnly P)) (sym e) (each_append (MakesOnly P) front back p.only q.only);
}

-- parts behind which nothing was done
parts_more : (P : Entry → Type 0) (ps qs : List (List Entry)) (ts : List Entry) → BegunParts P ps ts → BegunParts P (ps ++ qs) ts
parts_more P ps qs ts p = record {
  first = parts_as (ps ++ qs) (filter takes_name ts) (filter takes_name ts ++ []) (sym (append-nil (filter takes_name ts))) (parts_on ps qs (filter takes_name ts) [] p.first (parts_none qs));
  only = p.only;
}

each_parts : (P : Entry → Type 0) (each : List (List Step)) (t : List Mark) (f : List Fault) (ts : List Entry) → EachPlain P each → EachDone each t f ts → BegunParts P (map changes_by each) ts
each_parts P [] t f ts plain d = record { first = changes_are ts [] d.2; only = none_only P ts d.2 }
each_parts P (ss ∷ each) t f ts plain d =
    parts_both P (changes_by ss ∷ []) (map changes_by each) ts d.entries.front d.entries.back d.entries.joined
    (parts_one P (changes_by ss) d.entries.front (course_first P ss d.first_marks d.first_faults d.entries.front plain.0 d.entries.first))
    (each_parts P each d.second_marks d.second_faults d.entries.back plain.1 d.entries.second)

last_first : (P : Entry → Type 0) (marks : List Mark) (last : List Step) (t : List Mark) (f : List Fault) (ts : List Entry) → ArePlain P last → Course (if_rotated marks last) t f ts → Begun P (changes_by last) ts
last_first P marks last t f ts plain c = go (list_any is_rotated marks) c
  where
    go : (b : Bool) → Course (cond b last []) t f ts → Begun P (changes_by last) ts
    go true c = course_first P last t f ts plain c
    go false c = record { first = first_same (changes_by last) (filter takes_name ts) [] (changes_are ts [] c.2) (first_none (changes_by last)); only = none_only P ts c.2 }

last_cut_first : (P : Entry → Type 0) (marks : List Mark) (last : List Step) (t : List Mark) (f : List Fault) (ts : List Entry) → ArePlain P last → CourseCut (if_rotated marks last) t f ts → Begun P (changes_by last) ts
last_cut_first P marks last t f ts plain c = go (list_any is_rotated marks) c
  where
    none_of : (ts us : List Entry) → IsFirstOf [] us → us ≡ []
    none_of ts [] h = refl
    none_of ts (u ∷ us) h = absurd (let e : [] ≡ u ∷ (us ++ h.0) = h.1 in cc)

    go : (b : Bool) → CourseCut (cond b last []) t f ts → Begun P (changes_by last) ts
    go true c = cut_first P last t f ts plain c
    go false c = let k = cut_first P [] t f ts tt c in record { first = first_same (changes_by last) (filter takes_name ts) [] (none_of ts (filter takes_name ts) k.first) (first_none (changes_by last)); only = k.only }

logs_parts : (P : Entry → Type 0) (each : List (List Step)) (last : List Step) (t : List Mark) (f : List Fault) (ts : List Entry) → EachPlain P each → ArePlain P last → LogsDone each last t f ts → BegunParts P (map changes_by each ++ changes_by last ∷ []) ts
logs_parts P each last t f ts plain plain_last d =
    parts_both P (map changes_by each) (changes_by last ∷ []) ts d.entries.front d.entries.back d.entries.joined
    (each_parts P each d.by_each d.of_each d.entries.front plain d.entries.first)
    (parts_one P (changes_by last) d.entries.back (last_first P d.by_each last d.by_last d.of_last d.entries.back plain_last d.entries.second))

pub set_parts : (P : Entry → Type 0) (s : SetSteps) (t : List Mark) (f : List Fault) (ts : List Entry) → IsPlainSet P s → SetDone s t f ts → BegunParts P (parts_of_set s) ts
set_parts P s t f ts plain (broke_off b) =
    parts_more P (changes_by s.first ∷ []) (map changes_by s.each ++ changes_by s.last ∷ []) ts (parts_one P (changes_by s.first) ts (course_first P s.first t f ts plain.first b.part))
set_parts P s t f ts plain (went_on b) =
    parts_both P (changes_by s.first ∷ []) (map changes_by s.each ++ changes_by s.last ∷ []) ts b.entries.front b.entries.back b.entries.joined
    (parts_one P (changes_by s.first) b.entries.front (course_first P s.first b.first_marks b.first_faults b.entries.front plain.first b.entries.first.1))
    (logs_parts P s.each s.last b.second_marks b.second_faults b.entries.back plain.each plain.last b.entries.second)

pub sets_parts : (P : Entry → Type 0) (sets : List SetSteps) (t : List Mark) (f : List Fault) (ts : List Entry) → ArePlainSets P sets → SetsDone sets t f ts → BegunParts P (parts_of_sets sets) ts
sets_parts P [] t f ts plain d = record { first = changes_are ts [] d.2; only = none_only P ts d.2 }
sets_parts P (s ∷ sets) t f ts plain d =
    parts_both P (parts_of_set s) (parts_of_sets sets) ts d.entries.front d.entries.back d.entries.joined
    (set_parts P s d.first_marks d.first_faults d.entries.front plain.0 d.entries.first) (sets_parts P sets d.second_marks d.second_faults d.entries.back plain.1 d.entries.second)

-- ---- and where memory ran out

each_plain_split : (P : Entry → Type 0) (xs ys : List (List Step)) → EachPlain P (xs ++ ys) → EachPlain P xs × EachPlain P ys
each_plain_split P [] ys a = (tt, a)
each_plain_split P (x ∷ xs) ys a = let r = each_plain_split P xs ys a.1 in ((a.0, r.0), r.1)

sets_plain_split : (P : Entry → Type 0) (xs ys : List SetSteps) → ArePlainSets P (xs ++ ys) → ArePlainSets P xs × ArePlainSets P ys
sets_plain_split P [] ys a = (tt, a)
sets_plain_split P (x ∷ xs) ys a = let r = sets_plain_split P xs ys a.1 in ((a.0, r.0), r.1)

map_split : (xs ys : List (List Step)) → map changes_by (xs ++ ys) ≡ map changes_by xs ++ map changes_by ys
map_split [] ys = refl
map_split (x ∷ xs) ys = ap (λ zs. changes_by x ∷ zs) (map_split xs ys)

each_cut_parts : (P : Entry → Type 0) (each : List (List Step)) (t : List Mark) (f : List Fault) (ts : List Entry) → EachPlain P each → ListCut Course CourseCut each t f ts → BegunParts P (map changes_by each) ts
each_cut_parts P each t f ts plain c = subst (λ ps. BegunParts P ps ts) (sym (ap (map changes_by) c.list_is ∙ map_split c.done (c.next ∷ c.rest)))
    (parts_both P (map changes_by c.done) (changes_by c.next ∷ map changes_by c.rest) ts c.part.entries.front c.part.entries.back c.part.entries.joined
    (each_parts P c.done c.part.first_marks c.part.first_faults c.part.entries.front p.0 c.part.entries.first)
    (parts_more P (changes_by c.next ∷ []) (map changes_by c.rest) c.part.entries.back (parts_one P (changes_by c.next) c.part.entries.back (cut_first P c.next c.part.second_marks c.part.second_faults c.part.entries.back p.1.0 c.part.entries.second))))
  where
    p : EachPlain P c.done × EachPlain P (c.next ∷ c.rest)
    p = each_plain_split P c.done (c.next ∷ c.rest) (subst (EachPlain P) c.list_is plain)

logs_cut_parts : (P : Entry → Type 0) (each : List (List Step)) (last : List Step) (t : List Mark) (f : List Fault) (ts : List Entry) → EachPlain P each → ArePlain P last → LogsCut each last t f ts → BegunParts P (map changes_by each ++ changes_by last ∷ []) ts
logs_cut_parts P each last t f ts plain plain_last (in_each c) = parts_more P (map changes_by each) (changes_by last ∷ []) ts (each_cut_parts P each t f ts plain c)
logs_cut_parts P each last t f ts plain plain_last (in_last b) =
    parts_both P (map changes_by each) (changes_by last ∷ []) ts b.entries.front b.entries.back b.entries.joined
    (each_parts P each b.by_each b.of_each b.entries.front plain b.entries.first)
    (parts_one P (changes_by last) b.entries.back (last_cut_first P b.by_each last b.by_last b.of_last b.entries.back plain_last b.entries.second))

set_cut_parts : (P : Entry → Type 0) (s : SetSteps) (t : List Mark) (f : List Fault) (ts : List Entry) → IsPlainSet P s → SetCut s t f ts → BegunParts P (parts_of_set s) ts
set_cut_parts P s t f ts plain (in_first c) =
    parts_more P (changes_by s.first ∷ []) (map changes_by s.each ++ changes_by s.last ∷ []) ts (parts_one P (changes_by s.first) ts (cut_first P s.first t f ts plain.first c))
set_cut_parts P s t f ts plain (in_logs b) =
    parts_both P (changes_by s.first ∷ []) (map changes_by s.each ++ changes_by s.last ∷ []) ts b.entries.front b.entries.back b.entries.joined
    (parts_one P (changes_by s.first) b.entries.front (course_first P s.first b.first_marks b.first_faults b.entries.front plain.first b.entries.first.1))
    (logs_cut_parts P s.each s.last b.second_marks b.second_faults b.entries.back plain.each plain.last b.entries.second)

pub sets_cut_parts : (P : Entry → Type 0) (sets : List SetSteps) (t : List Mark) (f : List Fault) (ts : List Entry) → ArePlainSets P sets → SetsCut sets t f ts → BegunParts P (parts_of_sets sets) ts
sets_cut_parts P sets t f ts plain c = subst (λ ps. BegunParts P ps ts) (sym (ap parts_of_sets c.list_is ∙ flat_map-append parts_of_set c.done (c.next ∷ c.rest)))
    (parts_both P (parts_of_sets c.done) (parts_of_set c.next ++ parts_of_sets c.rest) ts c.part.entries.front c.part.entries.back c.part.entries.joined
    (sets_parts P c.done c.part.first_marks c.part.first_faults c.part.entries.front p.0 c.part.entries.first)
    (parts_more P (parts_of_set c.next) (parts_of_sets c.rest) c.part.entries.back (set_cut_parts P c.next c.part.second_marks c.part.second_faults c.part.entries.back p.1.0 c.part.entries.second)))
  where
    p : ArePlainSets P c.done × ArePlainSets P (c.next ∷ c.rest)
    p = sets_plain_split P c.done (c.next ∷ c.rest) (subst (ArePlainSets P) c.list_is plain)

-- ---- seen from one log

pub all_parts : (P : Entry → Type 0) (ps : List (List Entry)) (ts : List Entry) → AllOf P ps → FirstParts ps ts → Each P ts
all_parts P [] ts a f = subst (Each P) (sym f) tt
all_parts P (p ∷ ps) ts a f = subst (Each P) (sym f.joined) (each_append P f.front f.back (each_first P f.front f.first.0 (subst (Each P) f.first.1 a.0)) (all_parts P ps f.back a.1 f.second))

-- a first part of what is woven is a first part, woven
weave_first : (P : Entry → Type 0) (os es ts : List Entry) → Weave P os es → IsFirstOf es ts → FirstWoven P os ts
weave_first P os es [] w f = record { made = []; first = first_none os; woven = none }
weave_first P _ _ (t ∷ ts) none f = absurd (cc)
weave_first P _ _ (t ∷ ts) (own {steps = os} {all = es} e w) f =
    let r = weave_first P os es ts w (f.0, tails) in record {
      made = t ∷ r.made;
      first = (r.first.0, ap (λ xs. e ∷ xs) r.first.1 ∙ ap (λ x. x ∷ (r.made ++ r.first.0)) heads);
      woven = own t r.woven;
    }
  where
    heads : e ≡ t
    heads = cc

    tails : es ≡ ts ++ f.0
    tails = cc
weave_first P os _ (t ∷ ts) (other {all = es} e p w) f =
    let r = weave_first P os es ts w (f.0, tails) in record {
      made = r.made;
      first = r.first;
      woven = other t (subst P heads p) r.woven;
    }
  where
    heads : e ≡ t
    heads = cc

    tails : es ≡ ts ++ f.0
    tails = cc

others_before : (P : Entry → Type 0) (steps xs ys : List Entry) → Each P xs → FirstWoven P steps ys → FirstWoven P steps (xs ++ ys)
others_before P steps xs ys a w = record { made = w.made; first = w.first; woven = weave_on P [] xs w.made ys (weave_others P xs a) w.woven }

pub others_behind : (P : Entry → Type 0) (steps xs ys : List Entry) → FirstWoven P steps xs → Each P ys → FirstWoven P steps (xs ++ ys)
others_behind P steps xs ys w a = record { made = w.made; first = w.first; woven = subst (λ os. Weave P os (xs ++ ys)) (append-nil w.made) (weave_on P w.made xs [] ys w.woven (weave_others P ys a)) }

pub one_part : (P : Entry → Type 0) (steps : List Entry) (before : List (List Entry)) (part : List Entry) (after : List (List Entry)) (ts : List Entry) → AllOf P before → Weave P steps part → AllOf P after → FirstParts (before ++ part ∷ after) ts → FirstWoven P steps ts
one_part P steps [] part after ts b w a f = subst (FirstWoven P steps) (sym f.joined) (others_behind P steps f.front f.back (weave_first P steps part f.front w f.first) (all_parts P after f.back a f.second))
one_part P steps (p ∷ ps) part after ts b w a f = subst (FirstWoven P steps) (sym f.joined)
    (others_before P steps f.front f.back (each_first P f.front f.first.0 (subst (Each P) f.first.1 b.0)) (one_part P steps ps part after f.back b.1 w a f.second))

-- ---- the shape

-- all changes: those by which names go, and what is made, filled or emptied
pub each_change : (P : Entry → Type 0) (ts : List Entry) → Each P (filter takes_name ts) → Each (MakesOnly P) ts → Each P (filter is_change ts)
each_change P [] a m = tt
each_change P (entry.Renames from to ∷ ts) a m = (a.0, each_change P ts a.1 m.1)
each_change P (entry.Unlinks x ∷ ts) a m = (a.0, each_change P ts a.1 m.1)
each_change P (entry.MakesDir x mode ∷ ts) a m = (m.0, each_change P ts a m.1)
each_change P (entry.Makes x mode ∷ ts) a m = (m.0, each_change P ts a m.1)
each_change P (entry.Starts state now rules ∷ ts) a m = absurd m.0
each_change P (entry.Appends x bytes ∷ ts) a m = (m.0, each_change P ts a m.1)
each_change P (entry.Truncates x ∷ ts) a m = (m.0, each_change P ts a m.1)
each_change P (_ ∷ ts) a m = each_change P ts a m.1

-- one entry more
weave_one : (P : Entry → Type 0) (os : List Entry) (e : Entry) (xs ys : List Entry) → Weave P os (e ∷ xs) → ((us : List Entry) → Weave P us xs → Weave P us ys) → Weave P os (e ∷ ys)
weave_one P _ e xs ys (own {steps = os} x w) f = own e (f os w)
weave_one P os e xs ys (other x p w) f = other e p (f os w)

-- what files are made, filled or emptied stands between
pub weave_change : (P : Entry → Type 0) (os ts : List Entry) → Weave P os (filter takes_name ts) → Each (MakesOnly P) ts → Weave P os (filter is_change ts)
weave_change P os [] w m = w
weave_change P os (entry.Renames from to ∷ ts) w m = weave_one P os (entry.Renames from to) (filter takes_name ts) (filter is_change ts) w (λ us v. weave_change P us ts v m.1)
weave_change P os (entry.Unlinks x ∷ ts) w m = weave_one P os (entry.Unlinks x) (filter takes_name ts) (filter is_change ts) w (λ us v. weave_change P us ts v m.1)
weave_change P os (entry.MakesDir x mode ∷ ts) w m = other (entry.MakesDir x mode) m.0 (weave_change P os ts w m.1)
weave_change P os (entry.Makes x mode ∷ ts) w m = other (entry.Makes x mode) m.0 (weave_change P os ts w m.1)
weave_change P os (entry.Starts state now rules ∷ ts) w m = absurd m.0
weave_change P os (entry.Appends x bytes ∷ ts) w m = other (entry.Appends x bytes) m.0 (weave_change P os ts w m.1)
weave_change P os (entry.Truncates x ∷ ts) w m = other (entry.Truncates x) m.0 (weave_change P os ts w m.1)
weave_change P os (_ ∷ ts) w m = weave_change P os ts w m.1

-- for one condition of what is made another
only_one : (P Q : Entry → Type 0) (e : Entry) → ((e : Entry) → P e → Q e) → MakesOnly P e → MakesOnly Q e
only_one P Q (entry.Makes x mode) f m = f (entry.Makes x mode) m
only_one P Q (entry.MakesDir x mode) f m = f (entry.MakesDir x mode) m
only_one P Q (entry.Starts state now rules) f m = m
only_one P Q (entry.Appends x bytes) f m = f (entry.Appends x bytes) m
only_one P Q (entry.Truncates x) f m = f (entry.Truncates x) m
only_one P Q _ f m = tt

pub only_as : (P Q : Entry → Type 0) (ts : List Entry) → ((e : Entry) → P e → Q e) → Each (MakesOnly P) ts → Each (MakesOnly Q) ts
only_as P Q ts f m = each_as (MakesOnly P) (MakesOnly Q) ts (λ e h. only_one P Q e f h) m

-- ---- what is done besides

made_some : (ts : List Target) (e : Entry) → MakesOne ts e → IsOfSome ts e
made_some [] e h = h
made_some (t ∷ ts) e (inl h) = inl (inr h)
made_some (t ∷ ts) e (inr h) = inr (made_some ts e h)

-- by which log
pub made_by : (ts : List Target) (e : Entry) → MakesOne ts e → (t : Target) × IsIn t ts × AlsoDoes t e
made_by [] e h = absurd h
made_by (t ∷ ts) e (inl h) = (t, inl refl, h)
made_by (t ∷ ts) e (inr h) = let r = made_by ts e h in (r.0, inr r.1, r.2)

pub of_other : (log : Path) (ts : List Target) (t : Target) (e : Entry) → IsIn t ts → t.log ≢ log → IsOf t e → IsOfOther log ts e
of_other log [] t e i ne h = absurd i
of_other log (x ∷ xs) t e (inl is) ne h = inl (subst (λ (y : Target). (y.log ≢ log) × IsOf y e) (sym is) (ne, h))
of_other log (x ∷ xs) t e (inr i) ne h = inr (of_other log xs t e i ne h)

pub none_has : (log : Path) (ts : List Target) (t : Target) → NoneHas log ts → IsIn t ts → t.log ≢ log
none_has log [] t n i = absurd i
none_has log (x ∷ xs) t n (inl is) = subst (λ (y : Target). y.log ≢ log) is n.0
none_has log (x ∷ xs) t n (inr i) = none_has log xs t n.1 i

-- of logs of which none stands twice
one_log : (ts : List Target) (x t : Target) → LogsDiffer ts → IsIn x ts → IsIn t ts → x.log ≡ t.log → x ≡ t
one_log [] x t a i j same = absurd i
one_log (y ∷ ys) x t a (inl is) (inl it) same = sym is ∙ it
one_log (y ∷ ys) x t a (inl is) (inr j) same = absurd (none_has y.log ys t a.0 j (sym (ap (λ (z : Target). z.log) is ∙ same)))
one_log (y ∷ ys) x t a (inr i) (inl it) same = absurd (none_has y.log ys x a.0 i (same ∙ sym (ap (λ (z : Target). z.log) it)))
one_log (y ∷ ys) x t a (inr i) (inr j) same = one_log ys x t a.1 i j same

pub made_between : (state : Path) (ts : List Target) (t : Target) → LogsDiffer ts → IsIn t ts → (e : Entry) → MakesOne ts e → StandsBetween state t ts e
made_between state ts t a i e h = go (bytes_eq by.0.log t.log) refl
  where
    by : (x : Target) × IsIn x ts × AlsoDoes x e
    by = made_by ts e h

    go : (b : Bool) → bytes_eq by.0.log t.log ≡ b → StandsBetween state t ts e
    go true is = inr (inr (subst (λ (x : Target). AlsoDoes x e) (one_log ts by.0 t a by.1 i ((bytes_eq-Decides by.0.log t.log).0 is)) by.2))
    go false differ = inl (of_other t.log ts by.0 e by.1 (λ same. let yes : bytes_eq by.0.log t.log ≡ true = (bytes_eq-Decides by.0.log t.log).1 same in cc) (inr by.2))

-- each change of the acts is of one of the logs
pub changes_of_some : (targets : List Target) (sets : List SetSteps) (ts : List Entry) → ArePlanned targets sets → BegunParts (MakesOne targets) (parts_of_sets sets) ts → Each (IsOfSome targets) (filter is_change ts)
changes_of_some targets sets ts planned f = each_change (IsOfSome targets) ts (all_parts (IsOfSome targets) (parts_of_sets sets) (filter takes_name ts) planned.all f.first) (only_as (MakesOne targets) (IsOfSome targets) ts (made_some targets) f.only)

pub done_some : (targets : List Target) (sets : List SetSteps) (t : List Mark) (f : List Fault) (ts : List Entry) → ArePlanned targets sets → SetsDone sets t f ts → Each (IsOfSome targets) (filter is_change ts)
done_some targets sets t f ts planned d = changes_of_some targets sets ts planned (sets_parts (MakesOne targets) sets t f ts planned.plain d)

-- so is each of a first part of them
pub cut_some : (targets : List Target) (sets : List SetSteps) (t : List Mark) (f : List Fault) (ts : List Entry) → ArePlanned targets sets → SetsCut sets t f ts → Each (IsOfSome targets) (filter is_change ts)
cut_some targets sets t f ts planned c = changes_of_some targets sets ts planned (sets_cut_parts (MakesOne targets) sets t f ts planned.plain c)

abbrev pub turns_by : (state : Path) (clock : Clock) (rules : Rules) (looks : List Entry) (targets : List Target) (sets : List SetSteps) (ts : List Entry) → AreQuiet looks → AreLogsSeen rules clock looks targets → ArePlanned targets sets
    → BegunParts (MakesOne targets) (parts_of_sets sets) ts → AllTurnsBy state clock rules (looks ++ ts)
turns_by state clock rules looks targets sets ts quiet seen planned f = record {
  looks = looks;
  acts = ts;
  joined = refl;
  quiet = quiet;
  targets = targets;
  seen = seen;
  all = each_as (IsOfSome targets) (λ e. IsOfSome targets e ⊎ IsOfState state e) (filter is_change ts) (λ e h. inl h) (changes_of_some targets sets ts planned f);
  each = λ t i.
      let o = planned.each t i in
      let w = one_part (IsOfOther t.log targets) (target_entries t) o.before o.part o.after (filter takes_name ts) o.first o.woven o.rest (subst (λ ps. FirstParts ps (filter takes_name ts)) o.parts_are f.first) in
      record {
        made = w.made;
        first = w.first;
        woven = weave_change (StandsBetween state t targets) w.made ts (weave_as (IsOfOther t.log targets) (StandsBetween state t targets) w.made (filter takes_name ts) (λ e h. inl h) w.woven)
            (only_as (MakesOne targets) (StandsBetween state t targets) ts (made_between state targets t planned.apart i) f.only);
      };
}

abbrev pub done_turns : (state : Path) (clock : Clock) (rules : Rules) (looks : List Entry) (targets : List Target) (sets : List SetSteps) (t : List Mark) (f : List Fault) (ts : List Entry) → AreQuiet looks → AreLogsSeen rules clock looks targets → ArePlanned targets sets
    → SetsDone sets t f ts → AllTurnsBy state clock rules (looks ++ ts)
done_turns state clock rules looks targets sets t f ts quiet seen planned d = turns_by state clock rules looks targets sets ts quiet seen planned (sets_parts (MakesOne targets) sets t f ts planned.plain d)

pub cut_turns : (state : Path) (clock : Clock) (rules : Rules) (looks : List Entry) (targets : List Target) (sets : List SetSteps) (t : List Mark) (f : List Fault) (ts : List Entry) → AreQuiet looks → AreLogsSeen rules clock looks targets → ArePlanned targets sets
    → SetsCut sets t f ts → AllTurnsBy state clock rules (looks ++ ts)
cut_turns state clock rules looks targets sets t f ts quiet seen planned c = turns_by state clock rules looks targets sets ts quiet seen planned (sets_cut_parts (MakesOne targets) sets t f ts planned.plain c)
