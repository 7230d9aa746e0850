-- A step by which a path was taken is the one that needs it, and left no entry; what the other steps leave.
use Rattle.std.proofs.Common.{◌≡◌, ◌⊎◌, inl, inr, ⊎_elim, Bool, true, false, cond, refl, sym, subst, List, [], ◌∷◌, ◌++◌}
use Rattle.std.specs.List.{list_any}
use Rattle.lr_rules.specs.declared.path.Path.{Path}
use Rattle.lr_rules.specs.declared.fault.Fault.{Fault}
use Rattle.lr_rules.specs.declared.fault.Fault.TheVariants as fault
use Rattle.lr_host.specs.declared.entry.Entry.{Entry}
use Rattle.lr_host.specs.Lists.{IsIn}
use Rattle.lr_host.specs.Told.{Each}
use Rattle.lr_host.proofs.Each.{each_append, each_none}
use Rattle.lr_host.proofs.Lists.{in_append}
use Rattle.lr_copy.specs.declared.job.BytesStop.TheVariants as broke
use Rattle.lr_plan.specs.declared.mark.Mark.{Mark}
use Rattle.lr_plan.specs.declared.step.SetSteps.{SetSteps}
use Rattle.lr_plan.specs.declared.step.Step.{Step}
use Rattle.lr_plan.specs.declared.step.Step.TheVariants as step
use Rattle.lr_plan.specs.Course.{Course}
use Rattle.lr_plan.specs.Done.{EachDone, LogsDone, SetDone, broke_off, went_on, SetsDone, is_rotated}
use Rattle.lr_chain.specs.declared.directory.DirStop.TheVariants as unmade
use Rattle.lr_plan.specs.Outcomes.{Succeeds, Fails, badly, not_run, maybe_run, bytes_fault}
use Rattle.lr_plan.proofs.Leaving.{OfEach, each_made, each_failed}
use Rattle.lr_acts.specs.Making.{all_of_each, all_of_set, all_of_sets}
use Rattle.lr_acts.specs.Taken.{TakesAt, OneTakes, RemovesAt, NoneRemoves, LastTaken}
use Rattle.lr_acts.proofs.Taking.{one_later, one_first}
use Rattle.lr_laws_plan.proofs.Naming.{Avoids}

-- ---- steps that give a path a name, or unlink it

-- the step may give the path a name
abbrev pub NamesAt : Path → Step → Type 0
NamesAt x (step.MakesDir path mode) = path ≡ x
NamesAt x (step.Renames from to) = to ≡ x
NamesAt x (step.Creates path mode) = path ≡ x
NamesAt x (step.Takes path mode) = path ≡ x
NamesAt x _ = ⊥

-- none of the steps does
abbrev pub NoneNames : Path → List Step → Type 0
NoneNames x [] = Unit {0}
NoneNames x (s ∷ ss) = (NamesAt x s → ⊥) × NoneNames x ss

-- none does, and none unlinks it
abbrev pub NoneTouches : Path → List Step → Type 0
NoneTouches x [] = Unit {0}
NoneTouches x (s ∷ ss) = (NamesAt x s → ⊥) × (RemovesAt x s → ⊥) × NoneTouches x ss

-- behind each step that gives it a name none does
abbrev pub OnceNamed : Path → List Step → Type 0
OnceNamed x [] = Unit {0}
OnceNamed x (s ∷ ss) = (NamesAt x s → NoneTouches x ss) × OnceNamed x ss

takes_names : (x : Path) (s : Step) → TakesAt x s → NamesAt x s
takes_names x (step.Takes path mode) t = t
takes_names x _ t = absurd t

none_names : (x : Path) (ss : List Step) → NoneTouches x ss → NoneNames x ss
none_names x [] n = tt
none_names x (s ∷ ss) n = (n.0, none_names x ss n.2)

none_removes : (x : Path) (ss : List Step) → NoneTouches x ss → NoneRemoves x ss
none_removes x [] n = tt
none_removes x (s ∷ ss) n = (n.1, none_removes x ss n.2)

-- so the path is taken last
pub once_last : (x : Path) (ss : List Step) → OnceNamed x ss → LastTaken x ss
once_last x [] o = tt
once_last x (s ∷ ss) o = (λ t. none_removes x ss (o.0 (takes_names x s t)), once_last x ss o.1)

pub none_on : (x : Path) (xs ys : List Step) → NoneTouches x xs → NoneTouches x ys → NoneTouches x (xs ++ ys)
none_on x [] ys a b = b
none_on x (s ∷ xs) ys a b = (a.0, a.1, none_on x xs ys a.2 b)

pub none_once : (x : Path) (ss : List Step) → NoneTouches x ss → OnceNamed x ss
none_once x [] n = tt
none_once x (s ∷ ss) n = (λ named. absurd (n.0 named), none_once x ss n.2)

pub once_first : (x : Path) (xs ys : List Step) → OnceNamed x xs → NoneTouches x ys → OnceNamed x (xs ++ ys)
once_first x [] ys a b = none_once x ys b
once_first x (s ∷ xs) ys a b = (λ named. none_on x xs ys (a.0 named) b, once_first x xs ys a.1 b)

pub once_later : (x : Path) (xs ys : List Step) → NoneTouches x xs → OnceNamed x ys → OnceNamed x (xs ++ ys)
once_later x [] ys a b = b
once_later x (s ∷ xs) ys a b = (λ named. absurd (a.0 named), once_later x xs ys a.2 b)

none_front : (x : Path) (xs ys : List Step) → NoneNames x (xs ++ ys) → NoneNames x xs
none_front x [] ys n = tt
none_front x (s ∷ xs) ys n = (n.0, none_front x xs ys n.1)

none_back : (x : Path) (xs ys : List Step) → NoneNames x (xs ++ ys) → NoneNames x ys
none_back x [] ys n = n
none_back x (s ∷ xs) ys n = none_back x xs ys n.1

touch_back : (x : Path) (xs ys : List Step) → NoneTouches x (xs ++ ys) → NoneTouches x ys
touch_back x [] ys n = n
touch_back x (s ∷ xs) ys n = touch_back x xs ys n.2

once_front : (x : Path) (xs ys : List Step) → OnceNamed x (xs ++ ys) → OnceNamed x xs
once_front x [] ys o = tt
once_front x (s ∷ xs) ys o = (λ named. touch_front xs (o.0 named), once_front x xs ys o.1)
  where
    touch_front : (zs : List Step) → NoneTouches x (zs ++ ys) → NoneTouches x zs
    touch_front [] n = tt
    touch_front (z ∷ zs) n = (n.0, n.1, touch_front zs n.2)

once_back : (x : Path) (xs ys : List Step) → OnceNamed x (xs ++ ys) → OnceNamed x ys
once_back x [] ys o = o
once_back x (s ∷ xs) ys o = once_back x xs ys o.1

-- where one of the first takes it, none of the later touches it
taken_first : (x : Path) (xs ys : List Step) → OnceNamed x (xs ++ ys) → OneTakes x xs → NoneTouches x ys
taken_first x [] ys o t = absurd t
taken_first x (s ∷ xs) ys o t = ⊎_elim (λ here. touch_back x xs ys (o.0 (takes_names x s here))) (λ there. taken_first x xs ys o.1 there) t

none_takes : (x : Path) (ss : List Step) → NoneTouches x ss → OneTakes x ss → ⊥
none_takes x [] n t = t
none_takes x (s ∷ ss) n t = ⊎_elim (λ here. n.0 (takes_names x s here)) (λ there. none_takes x ss n.2 there) t

-- where one of the later takes it, none of the first names it
taken_later : (x : Path) (xs ys : List Step) → OnceNamed x (xs ++ ys) → OneTakes x ys → NoneNames x xs
taken_later x [] ys o t = tt
taken_later x (s ∷ xs) ys o t = (λ named. none_takes x ys (touch_back x xs ys (o.0 named)) t, taken_later x xs ys o.1 t)

pub one_split : (x : Path) (xs ys : List Step) → OneTakes x (xs ++ ys) → OneTakes x xs ⊎ OneTakes x ys
one_split x [] ys t = inr t
one_split x (s ∷ xs) ys t = ⊎_elim (λ here. inl (inl here)) (λ there. ⊎_elim (λ a. inl (inr a)) (λ b. inr b) (one_split x xs ys there)) t

-- ---- what one step leaves

module _ (x : Path) where
  abbrev P : Entry → Type 0
  P = Avoids x

  of_none : (s : Step) → (NamesAt x s → ⊥) → OfEach P s
  of_none (step.Runs phase on command) k = λ end. tt
  of_none (step.Removes path) k = tt
  of_none (step.MakesDir path mode) k = (k, λ seen. tt)
  of_none (step.Renames from to) k = k
  of_none (step.Creates path mode) k = k
  of_none (step.Takes path mode) k = k
  of_none (step.Copies from to limit) k = (λ place piece short. tt, λ piece. tt)
  of_none (step.Appends path text) k = λ piece. tt
  of_none (step.SyncsFile path) k = tt
  of_none (step.SyncsDir path) k = tt
  of_none (step.Truncates path) k = tt
  of_none (step.Rotated log) k = tt

  -- of a step that was made
  made_avoids : (s : Step) (ts : List Entry) → (NamesAt x s → ⊥) → Succeeds s ts → Each P ts
  made_avoids s ts k w = each_made P s ts (of_none s k) w

  -- of one that failed
  failed_avoids : (s : Step) (f : Fault) (ts : List Entry) → (NamesAt x s → ⊥) → Fails s f ts → Each P ts
  failed_avoids s f ts k h = each_failed P s f ts (of_none s k) h

-- the step that fails so is the one that takes the path, and it left nothing
pub takes_it : (x : Path) (s : Step) (f : Fault) (ts : List Entry) → f ≡ fault.Taken x → Fails s f ts → TakesAt x s × (ts ≡ [])
takes_it x (step.Runs phase on command) f ts is (badly end ne same one) = absurd (cc)
takes_it x (step.Runs phase on command) f ts is (not_run same none) = absurd (cc)
takes_it x (step.Runs phase on command) f ts is (maybe_run end same one) = absurd (cc)
takes_it x (step.Removes path) f ts is h = let same = h.0 in absurd (cc)
takes_it x (step.MakesDir path mode) f ts is (unmade.Make, same, made) = absurd (cc)
takes_it x (step.MakesDir path mode) f ts is (unmade.Look, same, none) = absurd (cc)
takes_it x (step.MakesDir path mode) f ts is (unmade.NotDir, same, saw) = absurd (cc)
takes_it x (step.Renames from to) f ts is h = let same = h.0 in absurd (cc)
takes_it x (step.Creates path mode) f ts is h = let same = h.0 in absurd (cc)
takes_it x (step.Takes path mode) f ts is h = ⊎_elim (λ c. let same = c.0 in absurd (cc)) (λ t. (let same = t.0 in cc, t.1)) h
takes_it x (step.Copies from to limit) f ts is h = absurd (no_bytes h.0 h.1)
  where
    no_bytes : (why : _) → f ≡ bytes_fault from to why → ⊥
    no_bytes broke.Read same = cc
    no_bytes broke.Append same = cc
    no_bytes broke.TooLong same = cc
takes_it x (step.Appends path text) f ts is h = let same = h.0 in absurd (cc)
takes_it x (step.SyncsFile path) f ts is h = let same = h.0 in absurd (cc)
takes_it x (step.SyncsDir path) f ts is h = let same = h.0 in absurd (cc)
takes_it x (step.Truncates path) f ts is h = let same = h.0 in absurd (cc)
takes_it x (step.Rotated log) f ts is h = absurd h

-- ---- what steps leave

-- Of steps that met these faults: where the path was taken, one of them needs it; where none names it, no entry does; nor where one is told so, behind which none touches it.
pub record Tells (x : Path) (steps : List Step) (fs : List Fault) (ts : List Entry) : Type 0 where
  pub planned : IsIn (fault.Taken x) fs → OneTakes x steps
  pub none : NoneNames x steps → Each (Avoids x) ts
  pub once : OnceNamed x steps → IsIn (fault.Taken x) fs → Each (Avoids x) ts

module _ (x : Path) where
  tells_nothing : (steps : List Step) (fs : List Fault) (ts : List Entry) → fs ≡ [] → ts ≡ [] → Tells x steps fs ts
  tells_nothing steps fs ts a b = record {
    planned = λ i. absurd (subst (IsIn (fault.Taken x)) a i);
    none = λ n. each_none (Avoids x) b;
    once = λ o i. each_none (Avoids x) b;
  }

  tells_more : (xs ys : List Step) (fs : List Fault) (ts : List Entry) → Tells x xs fs ts → Tells x (xs ++ ys) fs ts
  tells_more xs ys fs ts h = record {
    planned = λ i. one_first x xs ys (h.planned i);
    none = λ n. h.none (none_front x xs ys n);
    once = λ o i. h.once (once_front x xs ys o) i;
  }

  pub tells_on : (xs ys : List Step) (all fs gs : List Fault) (ts us vs : List Entry) → all ≡ fs ++ gs → ts ≡ us ++ vs → Tells x xs fs us → Tells x ys gs vs → Tells x (xs ++ ys) all ts
  tells_on xs ys all fs gs ts us vs same joined h k = record {
    planned = λ i. ⊎_elim (λ a. one_first x xs ys (h.planned a)) (λ b. one_later x xs ys (k.planned b)) (split i);
    none = λ n. both (h.none (none_front x xs ys n)) (k.none (none_back x xs ys n));
    once = λ o i. ⊎_elim
        (λ a. both (h.once (once_front x xs ys o) a) (k.none (none_names x ys (taken_first x xs ys o (h.planned a)))))
        (λ b. both (h.none (taken_later x xs ys o (k.planned b))) (k.once (once_back x xs ys o) b))
        (split i);
  }
    where
      split : IsIn (fault.Taken x) all → IsIn (fault.Taken x) fs ⊎ IsIn (fault.Taken x) gs
      split i = in_append (fault.Taken x) fs gs (subst (IsIn (fault.Taken x)) same i)

      both : Each (Avoids x) us → Each (Avoids x) vs → Each (Avoids x) ts
      both a b = subst (Each (Avoids x)) (sym joined) (each_append (Avoids x) us vs a b)

  step_made : (s : Step) (ts : List Entry) → Succeeds s ts → Tells x (s ∷ []) [] ts
  step_made s ts w = record { planned = λ i. absurd i; none = λ n. made_avoids x s ts n.0 w; once = λ o i. absurd i }

  step_failed : (s : Step) (f : Fault) (ts : List Entry) → Fails s f ts → Tells x (s ∷ []) (f ∷ []) ts
  step_failed s f ts h = record {
    planned = λ i. inl (takes_it x s f ts (is i) h).0;
    none = λ n. failed_avoids x s f ts n.0 h;
    once = λ o i. each_none (Avoids x) (takes_it x s f ts (is i) h).1;
  }
    where
      is : IsIn (fault.Taken x) (f ∷ []) → f ≡ fault.Taken x
      is i = ⊎_elim (λ same. same) (λ none. absurd none) i

  pub course_tells : (steps : List Step) (ms : List Mark) (fs : List Fault) (ts : List Entry) → Course steps ms fs ts → Tells x steps fs ts
  course_tells [] ms fs ts c = tells_nothing [] fs ts c.1 c.2
  course_tells (s ∷ ss) ms fs ts (inl h) = subst (λ (gs : List Fault). Tells x (s ∷ ss) gs ts) (sym h.told) (tells_more (s ∷ []) ss (h.fault ∷ []) ts (step_failed s h.fault ts h.failed))
  course_tells (s ∷ ss) ms fs ts (inr g) = tells_on (s ∷ []) ss fs [] fs ts g.entries.front g.entries.back refl g.entries.joined (step_made s g.entries.front g.entries.first) (course_tells ss g.later fs g.entries.back g.entries.second)

  each_tells : (each : List (List Step)) (ms : List Mark) (fs : List Fault) (ts : List Entry) → EachDone each ms fs ts → Tells x (all_of_each each) fs ts
  each_tells [] ms fs ts d = tells_nothing [] fs ts d.1 d.2
  each_tells (ss ∷ each) ms fs ts d = tells_on ss (all_of_each each) fs d.first_faults d.second_faults ts d.entries.front d.entries.back d.faults_are d.entries.joined
      (course_tells ss d.first_marks d.first_faults d.entries.front d.entries.first) (each_tells each d.second_marks d.second_faults d.entries.back d.entries.second)

  last_tells : (b : Bool) (last : List Step) (ms : List Mark) (fs : List Fault) (ts : List Entry) → Course (cond b last []) ms fs ts → Tells x last fs ts
  last_tells true last ms fs ts c = course_tells last ms fs ts c
  last_tells false last ms fs ts c = tells_nothing last fs ts c.1 c.2

  logs_tell : (each : List (List Step)) (last : List Step) (ms : List Mark) (fs : List Fault) (ts : List Entry) → LogsDone each last ms fs ts → Tells x (all_of_each each ++ last) fs ts
  logs_tell each last ms fs ts d = tells_on (all_of_each each) last fs d.of_each d.of_last ts d.entries.front d.entries.back d.faults_are d.entries.joined
      (each_tells each d.by_each d.of_each d.entries.front d.entries.first) (last_tells (list_any is_rotated d.by_each) last d.by_last d.of_last d.entries.back d.entries.second)

  set_tells : (s : SetSteps) (ms : List Mark) (fs : List Fault) (ts : List Entry) → SetDone s ms fs ts → Tells x (all_of_set s) fs ts
  set_tells s ms fs ts (broke_off b) = tells_more s.first (all_of_each s.each ++ s.last) fs ts (course_tells s.first ms fs ts b.part)
  set_tells s ms fs ts (went_on b) = tells_on s.first (all_of_each s.each ++ s.last) fs b.first_faults b.second_faults ts b.entries.front b.entries.back b.faults_are b.entries.joined
      (course_tells s.first b.first_marks b.first_faults b.entries.front b.entries.first.1) (logs_tell s.each s.last b.second_marks b.second_faults b.entries.back b.entries.second)

  pub sets_tell : (sets : List SetSteps) (ms : List Mark) (fs : List Fault) (ts : List Entry) → SetsDone sets ms fs ts → Tells x (all_of_sets sets) fs ts
  sets_tell [] ms fs ts d = tells_nothing [] fs ts d.1 d.2
  sets_tell (s ∷ sets) ms fs ts d = tells_on (all_of_set s) (all_of_sets sets) fs d.first_faults d.second_faults ts d.entries.front d.entries.back d.faults_are d.entries.joined
      (set_tells s d.first_marks d.first_faults d.entries.front d.entries.first) (sets_tell sets d.second_marks d.second_faults d.entries.back d.entries.second)
