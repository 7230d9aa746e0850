-- Each change of the acts may rest on what the marks of the steps before it tell.
use Rattle.std.proofs.Common.{◌≡◌, inl, inr, Bool, true, false, cond, sym, ◌∙◌, ap, subst, List, [], ◌∷◌, ◌++◌, append_assoc}
use Rattle.std.specs.Prelude.{filter}
use Rattle.std.specs.List.{list_any}
use Rattle.std.proofs.lemmas.List.Elements.{filter-append}
use Rattle.lr_rules.specs.declared.fault.Fault.{Fault}
use Rattle.lr_host.specs.declared.entry.Entry.{Entry}
use Rattle.lr_host.specs.Lists.{IsIn}
use Rattle.lr_host.specs.Steps.{is_change}
use Rattle.lr_host.specs.Told.{Each}
use Rattle.lr_host.proofs.Each.{each_append, each_as, each_first}
use Rattle.lr_host.proofs.Lists.{in_front, in_back}
use Rattle.lr_plan.specs.declared.mark.Mark.{Mark}
use Rattle.lr_plan.specs.declared.step.SetSteps.{SetSteps}
use Rattle.lr_plan.specs.declared.step.Step.{Step}
use Rattle.lr_plan.specs.Course.{Course}
use Rattle.lr_plan.specs.Done.{EachDone, is_rotated, if_rotated, SetDone, broke_off, went_on, SetsDone}
use Rattle.lr_plan.specs.Outcomes.{Succeeds, Fails, marks_of}
use Rattle.lr_laws_acts.proofs.Allowed.{HasAll, Allowed, AllowsMore}
use Rattle.lr_laws_acts.specs.Parts.{takes_name, change_of, IsPlainStep}
use Rattle.lr_laws_acts.proofs.Parting.{went_changes, failed_changes, went_only, failed_only, each_change}

pub has_front : (xs ys : List Mark) → HasAll (xs ++ ys) xs
has_front xs ys m i = in_front m xs ys i

pub has_back : (xs ys : List Mark) → HasAll (xs ++ ys) ys
has_back xs ys m i = in_back m xs ys i

has_same : (xs ys : List Mark) → xs ≡ ys → HasAll xs ys
has_same xs ys e m i = subst (IsIn m) (sym e) i

pub has_on : (a b c : List Mark) → HasAll a b → HasAll b c → HasAll a c
has_on a b c f g m i = f m (g m i)

-- P holds of each change that the step may leave
abbrev pub IsGuarded : (Entry → Type 0) → Step → Type 0
IsGuarded P s = IsPlainStep P s × Each P (change_of s)

-- so of each of these steps, with the marks of those before it
abbrev pub AreGuarded : Allowed → List Mark → List Step → Type 0
AreGuarded P marks [] = Unit {0}
AreGuarded P marks (s ∷ ss) = IsGuarded (P marks) s × AreGuarded P (marks ++ marks_of s) ss

-- ---- one step

went_guarded : (P : Entry → Type 0) (s : Step) (ts : List Entry) → IsGuarded P s → Succeeds s ts → Each P (filter is_change ts)
went_guarded P s ts g w = each_change P ts (subst (Each P) (sym (went_changes P s ts g.0 w)) g.1) (went_only P s ts g.0 w)

failed_guarded : (P : Entry → Type 0) (s : Step) (f : Fault) (ts : List Entry) → IsGuarded P s → Fails s f ts → Each P (filter is_change ts)
failed_guarded P s f ts g h = let b = failed_changes P s f ts g.0 h in each_change P ts (each_first P (filter takes_name ts) b.0 (subst (Each P) b.1 g.1)) (failed_only P s f ts g.0 h)

changes_joined : (ts front back : List Entry) → ts ≡ front ++ back → filter is_change ts ≡ filter is_change front ++ filter is_change back
changes_joined ts front back e = ap (filter is_change) e ∙ filter-append is_change front back

module _ (P : Allowed) (allows : AllowsMore P) where
  each_more : (more fewer : List Mark) (es : List Entry) → HasAll more fewer → Each (P fewer) es → Each (P more) es
  each_more more fewer es has a = each_as (P fewer) (P more) es (allows more fewer has) a

  joined : (marks : List Mark) (ts front back : List Entry) → ts ≡ front ++ back → Each (P marks) (filter is_change front) → Each (P marks) (filter is_change back) → Each (P marks) (filter is_change ts)
  joined marks ts front back e a b = subst (Each (P marks)) (sym (changes_joined ts front back e)) (each_append (P marks) (filter is_change front) (filter is_change back) a b)

  nothing : (marks : List Mark) (ts : List Entry) → ts ≡ [] → Each (P marks) (filter is_change ts)
  nothing marks ts e = subst (λ (us : List Entry). Each (P marks) (filter is_change us)) (sym e) tt

  -- ---- one list of steps, and those of a plan

  pub course_guarded : (before : List Mark) (ss : List Step) (marks : List Mark) (faults : List Fault) (ts : List Entry) → AreGuarded P before ss → Course ss marks faults ts → Each (P (before ++ marks)) (filter is_change ts)
  course_guarded before [] marks faults ts g c = nothing (before ++ marks) ts c.2
  course_guarded before (s ∷ ss) marks faults ts g (inl h) = each_more (before ++ marks) before (filter is_change ts) (has_front before marks) (failed_guarded (P before) s h.fault ts g.0 h.failed)
  course_guarded before (s ∷ ss) marks faults ts g (inr k) = joined (before ++ marks) ts k.entries.front k.entries.back k.entries.joined
      (each_more (before ++ marks) before (filter is_change k.entries.front) (has_front before marks) (went_guarded (P before) s k.entries.front g.0 k.entries.first))
      (each_more (before ++ marks) ((before ++ marks_of s) ++ k.later) (filter is_change k.entries.back) (has_same (before ++ marks) ((before ++ marks_of s) ++ k.later) (ap (λ ms. before ++ ms) k.marks_are ∙ sym (append_assoc before (marks_of s) k.later)))
      (course_guarded (before ++ marks_of s) ss k.later faults k.entries.back g.1 k.entries.second))

  alone : (ss : List Step) (marks : List Mark) (faults : List Fault) (ts : List Entry) → AreGuarded P [] ss → Course ss marks faults ts → Each (P marks) (filter is_change ts)
  alone ss marks faults ts g c = course_guarded [] ss marks faults ts g c

  abbrev pub EachGuarded : List (List Step) → Type 0
  EachGuarded [] = Unit {0}
  EachGuarded (ss ∷ each) = AreGuarded P [] ss × EachGuarded each

  each_guarded : (each : List (List Step)) (marks : List Mark) (faults : List Fault) (ts : List Entry) → EachGuarded each → EachDone each marks faults ts → Each (P marks) (filter is_change ts)
  each_guarded [] marks faults ts g d = nothing marks ts d.2
  each_guarded (ss ∷ each) marks faults ts g d = joined marks ts d.entries.front d.entries.back d.entries.joined
      (each_more marks d.first_marks (filter is_change d.entries.front) (λ m i. subst (IsIn m) (sym d.marks_are) (in_front m d.first_marks d.second_marks i)) (alone ss d.first_marks d.first_faults d.entries.front g.0 d.entries.first))
      (each_more marks d.second_marks (filter is_change d.entries.back) (λ m i. subst (IsIn m) (sym d.marks_are) (in_back m d.first_marks d.second_marks i)) (each_guarded each d.second_marks d.second_faults d.entries.back g.1 d.entries.second))

  last_guarded : (told : List Mark) (last : List Step) (marks : List Mark) (faults : List Fault) (ts : List Entry) → AreGuarded P [] last → Course (if_rotated told last) marks faults ts → Each (P marks) (filter is_change ts)
  last_guarded told last marks faults ts g c = go (list_any is_rotated told) c
    where
      go : (b : Bool) → Course (cond b last []) marks faults ts → Each (P marks) (filter is_change ts)
      go true c = alone last marks faults ts g c
      go false c = nothing marks ts c.2

  pub record IsGuardedSet (s : SetSteps) : Type 0 where
    pub first : AreGuarded P [] s.first
    pub each : EachGuarded s.each
    pub last : AreGuarded P [] s.last

  set_guarded : (s : SetSteps) (marks : List Mark) (faults : List Fault) (ts : List Entry) → IsGuardedSet s → SetDone s marks faults ts → Each (P marks) (filter is_change ts)
  set_guarded s marks faults ts g (broke_off b) = alone s.first marks faults ts g.first b.part
  set_guarded s marks faults ts g (went_on b) = joined marks ts b.entries.front b.entries.back b.entries.joined
      (each_more marks b.first_marks (filter is_change b.entries.front) (λ m i. subst (IsIn m) (sym b.marks_are) (in_front m b.first_marks b.second_marks i)) (alone s.first b.first_marks b.first_faults b.entries.front g.first b.entries.first.1))
      (each_more marks b.second_marks (filter is_change b.entries.back) (λ m i. subst (IsIn m) (sym b.marks_are) (in_back m b.first_marks b.second_marks i)) logs)
    where
      logs : Each (P b.second_marks) (filter is_change b.entries.back)
      logs = let d = b.entries.second in joined b.second_marks b.entries.back d.entries.front d.entries.back d.entries.joined
          (each_more b.second_marks d.by_each (filter is_change d.entries.front) (λ m i. subst (IsIn m) (sym d.marks_are) (in_front m d.by_each d.by_last i)) (each_guarded s.each d.by_each d.of_each d.entries.front g.each d.entries.first))
          (each_more b.second_marks d.by_last (filter is_change d.entries.back) (λ m i. subst (IsIn m) (sym d.marks_are) (in_back m d.by_each d.by_last i)) (last_guarded d.by_each s.last d.by_last d.of_last d.entries.back g.last d.entries.second))

  abbrev pub AreGuardedSets : List SetSteps → Type 0
  AreGuardedSets [] = Unit {0}
  AreGuardedSets (s ∷ sets) = IsGuardedSet s × AreGuardedSets sets

  pub sets_guarded : (sets : List SetSteps) (marks : List Mark) (faults : List Fault) (ts : List Entry) → AreGuardedSets sets → SetsDone sets marks faults ts → Each (P marks) (filter is_change ts)
  sets_guarded [] marks faults ts g d = nothing marks ts d.2
  sets_guarded (s ∷ sets) marks faults ts g d = joined marks ts d.entries.front d.entries.back d.entries.joined
      (each_more marks d.first_marks (filter is_change d.entries.front) (λ m i. subst (IsIn m) (sym d.marks_are) (in_front m d.first_marks d.second_marks i)) (set_guarded s d.first_marks d.first_faults d.entries.front g.0 d.entries.first))
      (each_more marks d.second_marks (filter is_change d.entries.back) (λ m i. subst (IsIn m) (sym d.marks_are) (in_back m d.first_marks d.second_marks i)) (sets_guarded sets d.second_marks d.second_faults d.entries.back g.1 d.entries.second))
