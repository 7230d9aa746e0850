-- Steps of the writing, one behind another.
use Rattle.std.proofs.Common.{◌≡◌, ◌⊎◌, ⊎_elim, inl, inr, refl, sym, ◌∙◌, ap, subst, ℕ, Bool, true, false, List, map, [], ◌∷◌, ◌++◌, append_assoc, append-nil, Option}
use Rattle.lr_rules.specs.declared.fault.Fault.{Fault}
use Rattle.lr_rules.specs.declared.path.Path.{Path}
use Rattle.lr_rules.specs.Path.{parent_of}
use Rattle.lr_rules.specs.StatePath.{state_part}
use Rattle.lr_host.specs.declared.entry.Entry.{Entry}
use Rattle.lr_host.specs.declared.journal.Journal.{Journal}
use Rattle.lr_host.specs.Told.{Left, Each, Counts, Onward}
use Rattle.lr_host.proofs.Each.{each_append}
use Rattle.lr_host.proofs.Left.{left_first, left_then, left_as}
use Rattle.lr_plan.specs.declared.mark.Mark.{Mark}
use Rattle.lr_plan.specs.declared.step.Step.{Step}
use Rattle.lr_plan.specs.declared.step.Step.TheVariants.{SyncsDir}
use Rattle.lr_plan.specs.Steps.{state_steps}
use Rattle.lr_plan.specs.Course.{Course, StepThen}
use Rattle.lr_plan.specs.Asking.{CanMake}
use Rattle.lr_plan.specs.Outcomes.{Succeeds, Fails, marks_of}
use Rattle.lr_host.proofs.Counts.{onward_same, onward_on}
use Rattle.lr_plan.proofs.Courses.{course_then}
use Rattle.lr_acts.specs.Making.{FaultCause}
use Rattle.lr_acts.proofs.Taking.{made_taken, failed_taken, same_taken, taken_of_more, taken_on}
use Rattle.lr_writing.specs.Target.{StateTarget}
use Rattle.lr_writing.specs.Writes.{IsShort, Writes, ComesTo, part_steps, name_steps}
use Rattle.lr_writing.proofs.Causes.{caused_later}

-- ---- one step

pub one_short : (e : Entry) (ts : List Entry) → IsShort e → ts ≡ e ∷ [] → Each IsShort ts
one_short e ts short t = subst (Each IsShort) (sym t) (short, tt)

pub maybe_short : (e : Entry) (ts : List Entry) → IsShort e → (ts ≡ []) ⊎ (ts ≡ e ∷ []) → Each IsShort ts
maybe_short e ts short t = ⊎_elim (λ none. subst (Each IsShort) (sym none) tt) (λ one. one_short e ts short one) t

pub comes_made : (x : Step) {o n : Option Journal} {a b : Counts} → marks_of x ≡ [] → Left (λ ts. Succeeds x ts × Each IsShort ts) o n → Onward a b → ComesTo (x ∷ []) [] o n a b
comes_made x {n = n} unmarked l onward = record {
  entries = left_as l (λ ts p. (
    inr (record {
      later = [];
      marks_are = sym (append-nil (marks_of x) ∙ unmarked);
      entries = record { front = ts; back = []; joined = sym (append-nil ts); first = p.0; second = (refl, refl, refl) };
    }),
    p.1,
  ));
  caused = tt;
  taken = made_taken x (left_as l (λ ts p. p.0));
  onward = onward;
  next = λ none rest can. can.1 n (left_as l (λ ts p. p.0));
}

pub comes_failed : (x : Step) (f : Fault) {o n : Option Journal} {a b : Counts} → Left (λ ts. Fails x f ts × Each IsShort ts) o n → FaultCause f a b o n → Onward a b → ComesTo (x ∷ []) (f ∷ []) o n a b
comes_failed x f {a = a} {b = b} l cause onward = record {
  entries = left_as l (λ ts p. (inl (record { fault = f; told = refl; none = refl; failed = p.0 }), p.1));
  caused = (cause, tt);
  taken = failed_taken x f a b (left_as l (λ ts p. p.0)) cause;
  onward = onward;
  next = λ none rest can. absurd (cc);
}

-- the step's one call left its entry
pub comes_one : (x : Step) (e : Entry) {o n : Option Journal} {a b : Counts} → marks_of x ≡ [] → ((ts : List Entry) → ts ≡ e ∷ [] → Succeeds x ts) → IsShort e → Left (λ ts. ts ≡ e ∷ []) o n → Onward a b → ComesTo (x ∷ []) [] o n a b
comes_one x e unmarked f short l onward = comes_made x unmarked (left_as l (λ ts t. (f ts t, one_short e ts short t))) onward

-- that call failed
pub comes_not : (x : Step) (f : Fault) (e : Entry) {o n : Option Journal} {a b : Counts} → ((ts : List Entry) → (ts ≡ []) ⊎ (ts ≡ e ∷ []) → Fails x f ts) → IsShort e → Left (λ ts. (ts ≡ []) ⊎ (ts ≡ e ∷ [])) o n → FaultCause f a b o n → Onward a b → ComesTo (x ∷ []) (f ∷ []) o n a b
comes_not x f e g short l cause onward = comes_failed x f (left_as l (λ ts t. (g ts t, maybe_short e ts short t))) cause onward

-- ---- several

pub comes_nothing : (o : Option Journal) (a : Counts) → ComesTo [] [] o o a a
comes_nothing o a = record { entries = left_first (Writes [] []) o ((refl, refl, refl), tt); caused = tt; taken = same_taken [] o; onward = onward_same a; next = λ none rest can. can }

-- the ones were made, and then the others
pub comes_on : (xs ys : List Step) (fs : List Fault) {o m n : Option Journal} {a b c : Counts} → ComesTo xs [] o m a b → ComesTo ys fs m n b c → ComesTo (xs ++ ys) fs o n a c
comes_on xs ys fs {o = o} {n = n} {a = a} {b = b} {c = c} p q = record {
  entries = left_then p.entries q.entries (λ ts us h k. (course_then xs ys [] [] [] fs ts us (refl, h.0) k.0, each_append IsShort ts us h.1 k.1));
  caused = caused_later n fs a b c p.entries p.onward q.caused;
  taken = taken_on xs ys [] fs p.entries q.entries p.taken q.taken;
  onward = onward_on a b c p.onward q.onward;
  next = λ none rest can. q.next none rest (p.next refl (ys ++ rest) (subst (CanMake o) (append_assoc xs ys rest) can));
}

course_short : (xs ys : List Step) (f : Fault) (t : List Mark) (ts : List Entry) → Course xs t (f ∷ []) ts → Course (xs ++ ys) t (f ∷ []) ts
course_short [] ys f t ts h = absurd (let none : f ∷ [] ≡ [] = h.1 in cc)
course_short (x ∷ xs) ys f t ts h = ⊎_elim (λ s. inl s) (λ g. inr (more g (course_short xs ys f g.later g.entries.back g.entries.second))) h
  where
    more : (g : StepThen x (Course xs) t (f ∷ []) ts) → Course (xs ++ ys) g.later (f ∷ []) g.entries.back → StepThen x (Course (xs ++ ys)) t (f ∷ []) ts
    more g further = record {
      later = g.later;
      marks_are = g.marks_are;
      entries = record { front = g.entries.front; back = g.entries.back; joined = g.entries.joined; first = g.entries.first; second = further };
    }

-- one of them failed, so the others weren't made
pub comes_short : (xs ys : List Step) (f : Fault) {o n : Option Journal} {a b : Counts} → ComesTo xs (f ∷ []) o n a b → ComesTo (xs ++ ys) (f ∷ []) o n a b
comes_short xs ys f p = record {
  entries = left_as p.entries (λ ts h. (course_short xs ys f [] ts h.0, h.1));
  caused = p.caused;
  taken = taken_of_more xs ys (xs ++ ys) refl p.taken;
  onward = p.onward;
  next = λ none rest can. absurd (cc);
}

-- ---- what fits

pub fits_first : (o : Option Journal) (xs ys : List Step) → CanMake o (xs ++ ys) → CanMake o xs
fits_first o [] ys can = tt
fits_first o (x ∷ xs) ys can = (can.0, λ now l. fits_first now xs ys (can.1 now l))

-- ---- the whole

pub whole_steps : (state : Path) (stale : Bool) (dirs : List Path) (text : List ℕ) → part_steps (state_part state) stale text ++ (map SyncsDir dirs ++ name_steps (state_part state) state (parent_of state)) ≡ state_steps state stale dirs text
whole_steps state true dirs text = refl
whole_steps state false dirs text = refl

pub map_both : (f : Path → Step) (xs ys : List Path) → map f (xs ++ ys) ≡ map f xs ++ map f ys
map_both f [] ys = refl
map_both f (x ∷ xs) ys = ap (λ zs. f x ∷ zs) (map_both f xs ys)

pub whole_is : (part state dir : Path) (stale : Bool) (dirs : List Path) (text : List ℕ) (w : StateTarget) → record { state = state; stale = stale } ≡ w → part ≡ state_part state → dir ≡ parent_of state
    → part_steps part stale text ++ (map SyncsDir dirs ++ name_steps part state dir) ≡ state_steps w.state w.stale dirs text
whole_is part state dir stale dirs text w v p d =
    subst (λ (x : StateTarget). part_steps part stale text ++ (map SyncsDir dirs ++ name_steps part state dir) ≡ state_steps x.state x.stale dirs text) v
    (subst (λ (q : Path). part_steps q stale text ++ (map SyncsDir dirs ++ name_steps q state dir) ≡ state_steps state stale dirs text) (sym p)
    (subst (λ (e : Path). part_steps (state_part state) stale text ++ (map SyncsDir dirs ++ name_steps (state_part state) state e) ≡ state_steps state stale dirs text) (sym d) (whole_steps state stale dirs text)))
