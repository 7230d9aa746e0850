-- The entries of the writing, step by step.
use Rattle.std.proofs.Common.{◌≡◌, ◌≢◌, ⊎_elim, inl, inr, refl, sym, ◌∙◌, ap, subst, ℕ, Bool, true, false, List, [], ◌∷◌, ◌++◌, map, append_assoc, append-nil, Some}
use Rattle.lr_rules.specs.declared.path.Path.{Path}
use Rattle.lr_rules.specs.Path.{parent_of}
use Rattle.lr_rules.specs.declared.fault.Fault.{Fault}
use Rattle.lr_rules.specs.StatePath.{state_part}
use Rattle.lr_rules.proofs.Beside.{part_apart}
use Rattle.lr_host.specs.declared.entry.Entry.{Entry}
use Rattle.lr_host.specs.declared.entry.Entry.TheVariants as entry
use Rattle.lr_host.specs.Told.{Each, Maybe}
use Rattle.lr_plan.specs.declared.mark.Mark.{Mark}
use Rattle.lr_plan.specs.declared.step.Step.{Step}
use Rattle.lr_plan.specs.declared.step.Step.TheVariants.{Removes, Renames, Takes, Appends, SyncsFile, SyncsDir}
use Rattle.lr_host.specs.Appending.{Appended}
use Rattle.lr_host.proofs.Each.{each_append}
use Rattle.lr_plan.specs.Course.{Course, StepThen}
use Rattle.lr_plan.specs.Outcomes.{marks_of}
use Rattle.lr_plan.proofs.Leaving.{OfEach, OfAll, each_of_course}
use Rattle.lr_plan.specs.Steps.{state_steps}
use Rattle.lr_writing.specs.Named.{Spares, IsTextReady, StateIsNamed, NamedLast, not_named, named}
use Rattle.lr_writing.specs.Writes.{part_steps, name_steps}
use Rattle.lr_writing.proofs.Coming.{whole_steps}

-- ---- two lists of steps

data Split (xs ys : List Step) (fs : List Fault) (ts : List Entry) : Type 0 where
  stopped : (ms : List Mark) (f : Fault) → fs ≡ f ∷ [] → Course xs ms fs ts → Split xs ys fs ts
  passed : (ms ns : List Mark) (front back : List Entry) → ts ≡ front ++ back → Course xs ms [] front → Course ys ns fs back → Split xs ys fs ts

split : (xs ys : List Step) (ms : List Mark) (fs : List Fault) (ts : List Entry) → Course (xs ++ ys) ms fs ts → Split xs ys fs ts
split [] ys ms fs ts c = passed [] ms [] ts refl (refl, refl, refl) c
split (x ∷ xs) ys ms fs ts c = ⊎_elim (λ s. stopped ms s.fault s.told (inl s)) (λ g. more g (split xs ys g.later fs g.entries.back g.entries.second)) c
  where
    more : (g : StepThen x (Course (xs ++ ys)) ms fs ts) → Split xs ys fs g.entries.back → Split (x ∷ xs) ys fs ts
    more g (stopped ns f e d) = stopped (marks_of x ++ ns) f e (inr (record { later = ns; marks_are = refl; entries = record { front = g.entries.front; back = g.entries.back; joined = g.entries.joined; first = g.entries.first; second = d } }))
    more g (passed ns ps front back j d e) = passed (marks_of x ++ ns) ps (g.entries.front ++ front) back (g.entries.joined ∙ (ap (λ us. g.entries.front ++ us) j ∙ sym (append_assoc g.entries.front front back)))
        (inr (record { later = ns; marks_are = refl; entries = record { front = g.entries.front; back = front; joined = refl; first = g.entries.first; second = d } })) e

-- a first step was made
made : (x : Step) (xs : List Step) (ms : List Mark) (ts : List Entry) → Course (x ∷ xs) ms [] ts → StepThen x (Course xs) ms [] ts
made x xs ms ts c = ⊎_elim (λ s. absurd (let t : [] ≡ s.fault ∷ [] = s.told in cc)) (λ g. g) c

-- ---- what is spared

-- the step leaves the path alone
abbrev IsAside : Path → Step → Type 0
IsAside x (Removes y) = y ≢ x
IsAside x (Takes y mode) = y ≢ x
IsAside x (Appends y text) = y ≢ x
IsAside x (SyncsFile y) = Unit {0}
IsAside x (SyncsDir y) = Unit {0}
IsAside x _ = ⊥

abbrev AreAside : Path → List Step → Type 0
AreAside x [] = Unit {0}
AreAside x (s ∷ ss) = IsAside x s × AreAside x ss

of_aside : (x : Path) (s : Step) → IsAside x s → OfEach (Spares x) s
of_aside x (Removes y) ne = ne
of_aside x (Takes y mode) ne = ne
of_aside x (Appends y text) ne = λ piece. ne
of_aside x (SyncsFile y) ne = tt
of_aside x (SyncsDir y) ne = tt
of_aside x _ ne = absurd ne

all_aside : (x : Path) (ss : List Step) → AreAside x ss → OfAll (Spares x) ss
all_aside x [] aside = tt
all_aside x (s ∷ ss) aside = (of_aside x s aside.0, all_aside x ss aside.1)

course_spares : (x : Path) (ss : List Step) (ms : List Mark) (fs : List Fault) (ts : List Entry) → AreAside x ss → Course ss ms fs ts → Each (Spares x) ts
course_spares x ss ms fs ts aside c = each_of_course (Spares x) ss ms fs ts (all_aside x ss aside) c

part_aside : (state : Path) (stale : Bool) (text : List ℕ) → AreAside state (part_steps (state_part state) stale text)
part_aside state true text = (part_apart state, (part_apart state, (part_apart state, (tt, tt))))
part_aside state false text = (part_apart state, (part_apart state, (tt, tt)))

syncs_aside : (x : Path) (dirs : List Path) → AreAside x (map SyncsDir dirs)
syncs_aside x [] = tt
syncs_aside x (d ∷ dirs) = (tt, syncs_aside x dirs)

-- ---- what was made whole

syncs_are : (dirs : List Path) (ms : List Mark) (ts : List Entry) → Course (map SyncsDir dirs) ms [] ts → ts ≡ map entry.SyncsDir dirs
syncs_are [] ms ts c = c.2
syncs_are (d ∷ dirs) ms ts c =
    let g = made (SyncsDir d) (map SyncsDir dirs) ms ts c in
    g.entries.joined ∙ (ap (λ us. us ++ g.entries.back) g.entries.first ∙ ap (λ us. entry.SyncsDir d ∷ us) (syncs_are dirs g.later g.entries.back g.entries.second))

record Filled (part : Path) (text : List ℕ) (ts : List Entry) : Type 0 where
  pieces : List Entry
  ts_are : ts ≡ entry.Makes part (Some 416) ∷ (pieces ++ entry.SyncsFile part ∷ [])
  text_is : Appended part text pieces

filled : (part : Path) (text : List ℕ) (ms : List Mark) (ts : List Entry) → Course (Takes part (Some 416) ∷ Appends part text ∷ SyncsFile part ∷ []) ms [] ts → Filled part text ts
filled part text ms ts c =
    let g = made (Takes part (Some 416)) (Appends part text ∷ SyncsFile part ∷ []) ms ts c in
    let h = made (Appends part text) (SyncsFile part ∷ []) g.later g.entries.back g.entries.second in
    let k = made (SyncsFile part) [] h.later h.entries.back h.entries.second in
    let last : h.entries.back ≡ entry.SyncsFile part ∷ [] = k.entries.joined ∙ (ap (λ us. us ++ k.entries.back) k.entries.first ∙ ap (λ us. entry.SyncsFile part ∷ us) k.entries.second.2) in
    let rest : g.entries.back ≡ h.entries.front ++ entry.SyncsFile part ∷ [] = h.entries.joined ∙ ap (λ us. h.entries.front ++ us) last in
    record {
      pieces = h.entries.front;
      ts_are = g.entries.joined ∙ (ap (λ us. us ++ g.entries.back) g.entries.first ∙ ap (λ us. entry.Makes part (Some 416) ∷ us) rest);
      text_is = h.entries.first;
    }

record Cleared (part : Path) (text : List ℕ) (ts : List Entry) : Type 0 where
  cleared : List Entry
  rest : List Entry
  ts_are : ts ≡ cleared ++ rest
  cleared_is : Maybe (entry.Unlinks part) cleared
  is_filled : Filled part text rest

cleared : (part : Path) (stale : Bool) (text : List ℕ) (ms : List Mark) (ts : List Entry) → Course (part_steps part stale text) ms [] ts → Cleared part text ts
cleared part true text ms ts c =
    let g = made (Removes part) (Takes part (Some 416) ∷ Appends part text ∷ SyncsFile part ∷ []) ms ts c in
    record { cleared = g.entries.front; rest = g.entries.back; ts_are = g.entries.joined; cleared_is = inr g.entries.first; is_filled = filled part text g.later g.entries.back g.entries.second }
cleared part false text ms ts c = record { cleared = []; rest = ts; ts_are = refl; cleared_is = inl refl; is_filled = filled part text ms ts c }

-- the part file was written whole, and then the directories were synced
is_ready : (state : Path) (dirs : List Path) (text : List ℕ) (ts us : List Entry) → Cleared (state_part state) text ts → us ≡ map entry.SyncsDir dirs → IsTextReady state dirs text (ts ++ us)
is_ready state dirs text ts us c syncs =
    let part = state_part state in
    let f = c.is_filled in
    record {
      cleared = c.cleared;
      pieces = f.pieces;
      before_is = ap (λ vs. vs ++ us) (c.ts_are ∙ ap (λ vs. c.cleared ++ vs) f.ts_are)
          ∙ (append_assoc c.cleared (entry.Makes part (Some 416) ∷ (f.pieces ++ entry.SyncsFile part ∷ [])) us
          ∙ ap (λ vs. c.cleared ++ (entry.Makes part (Some 416) ∷ vs)) (append_assoc f.pieces (entry.SyncsFile part ∷ []) us ∙ ap (λ vs. f.pieces ++ (entry.SyncsFile part ∷ vs)) syncs));
      cleared_is = c.cleared_is;
      text_is = f.text_is;
    }

-- ---- the law

pub named_last : (state : Path) (stale : Bool) (dirs : List Path) (text : List ℕ) (fs : List Fault) (ts : List Entry) → Course (state_steps state stale dirs text) [] fs ts → NamedLast state dirs text ts
named_last state stale dirs text fs ts c =
    first (split parts (syncs ++ names) [] fs ts (subst (λ (ss : List Step). Course ss [] fs ts) (sym (whole_steps state stale dirs text)) c))
  where
    parts : List Step
    parts = part_steps (state_part state) stale text

    syncs : List Step
    syncs = map SyncsDir dirs

    names : List Step
    names = name_steps (state_part state) state (parent_of state)

    behind : (after : List Entry) (ms : List Mark) → Course (SyncsDir (parent_of state) ∷ []) ms fs after → Maybe (entry.SyncsDir (parent_of state)) after
    behind after ms d = ⊎_elim (λ stop. stop.failed.1) (λ g. inr (g.entries.joined ∙ (ap (λ us. us ++ g.entries.back) g.entries.first ∙ ap (λ us. entry.SyncsDir (parent_of state) ∷ us) g.entries.second.2))) d

    last : (before back : List Entry) (ms : List Mark) → ts ≡ before ++ back → IsTextReady state dirs text before → Each (Spares state) before → Course names ms fs back → NamedLast state dirs text ts
    last before back ms j ready spared d = ⊎_elim
        (λ stop. ⊎_elim (λ none. not_named (subst (Each (Spares state)) (sym (j ∙ (ap (λ us. before ++ us) none ∙ append-nil before))) spared)) (λ one. named before [] (j ∙ ap (λ us. before ++ us) one) ready spared (inl refl)) stop.failed.1)
        (λ g. named before g.entries.back (j ∙ ap (λ us. before ++ us) (g.entries.joined ∙ ap (λ us. us ++ g.entries.back) g.entries.first)) ready spared (behind g.entries.back g.later g.entries.second)) d

    second : (front back : List Entry) → ts ≡ front ++ back → Cleared (state_part state) text front → Each (Spares state) front → Split syncs names fs back → NamedLast state dirs text ts
    second front back j w spared (stopped ms f e d) = not_named (subst (Each (Spares state)) (sym j) (each_append (Spares state) front back spared (course_spares state syncs ms fs back (syncs_aside state dirs) d)))
    second front back j w spared (passed ms ns middle rest k d e) =
        last (front ++ middle) rest ns (j ∙ (ap (λ us. front ++ us) k ∙ sym (append_assoc front middle rest))) (is_ready state dirs text front middle w (syncs_are dirs ms middle d))
        (each_append (Spares state) front middle spared (course_spares state syncs ms [] middle (syncs_aside state dirs) d)) e

    first : Split parts (syncs ++ names) fs ts → NamedLast state dirs text ts
    first (stopped ms f e d) = not_named (course_spares state parts ms fs ts (part_aside state stale text) d)
    first (passed ms ns front back j d e) = second front back j (cleared (state_part state) stale text ms front d) (course_spares state parts ms [] front (part_aside state stale text) d) (split syncs names ns fs back e)

pub named_whole : (state : Path) (stale : Bool) (dirs : List Path) (text : List ℕ) (ts : List Entry) → Course (state_steps state stale dirs text) [] [] ts → StateIsNamed state dirs text ts
named_whole state stale dirs text ts c =
    first (split parts (syncs ++ names) [] [] ts (subst (λ (ss : List Step). Course ss [] [] ts) (sym (whole_steps state stale dirs text)) c))
  where
    parts : List Step
    parts = part_steps (state_part state) stale text

    syncs : List Step
    syncs = map SyncsDir dirs

    names : List Step
    names = name_steps (state_part state) state (parent_of state)

    last : (before back : List Entry) (ms : List Mark) → ts ≡ before ++ back → IsTextReady state dirs text before → Each (Spares state) before → Course names ms [] back → StateIsNamed state dirs text ts
    last before back ms j ready spared d =
        let g = made (Renames (state_part state) state) (SyncsDir (parent_of state) ∷ []) ms back d in record {
          before = before;
          ts_are = j ∙ ap (λ us. before ++ us) (g.entries.joined ∙ (ap (λ us. us ++ g.entries.back) g.entries.first ∙ ap (λ us. entry.Renames (state_part state) state ∷ us) (syncs_are (parent_of state ∷ []) g.later g.entries.back g.entries.second)));
          ready = ready;
          spared = spared;
        }

    second : (front back : List Entry) → ts ≡ front ++ back → Cleared (state_part state) text front → Each (Spares state) front → Split syncs names [] back → StateIsNamed state dirs text ts
    second front back j w spared (stopped ms f e d) = absurd (cc)
    second front back j w spared (passed ms ns middle rest k d e) =
        last (front ++ middle) rest ns (j ∙ (ap (λ us. front ++ us) k ∙ sym (append_assoc front middle rest))) (is_ready state dirs text front middle w (syncs_are dirs ms middle d))
        (each_append (Spares state) front middle spared (course_spares state syncs ms [] middle (syncs_aside state dirs) d)) e

    first : Split parts (syncs ++ names) [] ts → StateIsNamed state dirs text ts
    first (stopped ms f e d) = absurd (cc)
    first (passed ms ns front back j d e) = second front back j (cleared (state_part state) stale text ms front d) (course_spares state parts ms [] front (part_aside state stale text) d) (split syncs names ns [] back e)
