-- What parts of the acts add, one behind another.
use Rattle.std.proofs.Common.{◌≡◌, ℕ, ◌+◌, ◌≤◌, refl, sym, ◌∙◌, ap, subst, List, [], ◌∷◌, ◌++◌, append_assoc, append-nil, Option, Ok, arith}
use Rattle.std.specs.Prelude.{option_to_list}
use Rattle.lr_rules.specs.declared.fault.Fault.{Fault}
use Rattle.lr_rules.specs.declared.fault.Fault.TheVariants as fault
use Rattle.lr_host.specs.declared.entry.Entry.{Entry}
use Rattle.lr_host.specs.declared.journal.Journal.{Journal}
use Rattle.lr_host.specs.Told.{Left, Counts, NoneFell, Onward}
use Rattle.lr_host.proofs.Left.{left_as, left_then, left_first}
use Rattle.lr_plan.specs.declared.mark.Mark.{Mark}
use Rattle.lr_plan.specs.declared.step.Step.{Step}
use Rattle.lr_plan.specs.Outcomes.{Succeeds, Fails, marks_of}
use Rattle.lr_host.specs.Counted.{AreCounted}
use Rattle.lr_plan.specs.Course.{Part, Nothing, StepFails}
use Rattle.lr_host.proofs.Counts.{free_none, counted_on, counted_none, counted_free, counted_call, counted_script, onward_same, onward_on}
use Rattle.lr_acts.specs.declared.progress.Progress.{Progress}
use Rattle.lr_acts.specs.Adding.{AddsSteps, HasRoom, FillsRoom}
use Rattle.lr_acts.specs.Making.{FaultCause, StepNames, WasMade}
use Rattle.lr_acts.specs.Named.{KeepsNames}
use Rattle.lr_acts.proofs.Naming.{made_names, failed_names, nothing_names, same_names, names_of_more, names_on}
use Rattle.lr_acts.proofs.Taking.{made_taken, failed_taken, nothing_taken, same_taken, taken_of_more, taken_on}

pub adds_as : {P Q : Part} {ss : List Step} {a b : Progress} {o n : Option Journal} {c d : Counts} → AddsSteps P ss a b o n c d → ((ms : List Mark) (f : List Fault) (ts : List Entry) → P ms f ts → Q ms f ts) → AddsSteps Q ss a b o n c d
adds_as h f = record {
  marks = h.marks;
  faults = h.faults;
  marks_are = h.marks_are;
  faults_are = h.faults_are;
  entries = left_as h.entries (λ ts p. f h.marks h.faults ts p);
  are_counted = h.are_counted;
  taken = h.taken;
  names = h.names;
  onward = h.onward;
}

-- these were the first of the steps
pub adds_of_more : {P : Part} (xs rest all : List Step) {a b : Progress} {o n : Option Journal} {c d : Counts} → all ≡ xs ++ rest → AddsSteps P xs a b o n c d → AddsSteps P all a b o n c d
adds_of_more xs rest all is h = record {
  marks = h.marks;
  faults = h.faults;
  marks_are = h.marks_are;
  faults_are = h.faults_are;
  entries = h.entries;
  are_counted = h.are_counted;
  taken = taken_of_more xs rest all is h.taken;
  names = names_of_more xs rest all is h.names;
  onward = h.onward;
}

pub adds_on : {P Q R : Part} (xs ys : List Step) {x y z : Progress} {o m n : Option Journal} {a b c : Counts} → AddsSteps P xs x y o m a b → AddsSteps Q ys y z m n b c
    → ((ms ms' : List Mark) (f f' : List Fault) (ts ts' : List Entry) → P ms f ts → Q ms' f' ts' → R (ms ++ ms') (f ++ f') (ts ++ ts')) → AddsSteps R (xs ++ ys) x z o n a c
adds_on xs ys {x = x} {o = o} {n = n} {a = a} {b = b} {c = c} p q f = record {
  marks = p.marks ++ q.marks;
  faults = p.faults ++ q.faults;
  marks_are = q.marks_are ∙ (ap (λ ms. ms ++ q.marks) p.marks_are ∙ append_assoc x.marks.items p.marks q.marks);
  faults_are = q.faults_are ∙ (ap (λ fs. fs ++ q.faults) p.faults_are ∙ append_assoc x.faults.items p.faults q.faults);
  entries = left_then p.entries q.entries (λ ts us h k. f p.marks q.marks p.faults q.faults ts us h k);
  are_counted = counted_on p.faults q.faults a b c p.are_counted q.are_counted;
  taken = taken_on xs ys p.faults q.faults p.entries q.entries p.taken q.taken;
  names = names_on xs ys p.names q.names;
  onward = onward_on a b c p.onward q.onward;
}

-- nothing was added
pub adds_none : {P : Part} (x : Progress) (o : Option Journal) (a : Counts) → P [] [] [] → AddsSteps P [] x x o o a a
adds_none {P} x o a p = record {
  marks = [];
  faults = [];
  marks_are = sym (append-nil x.marks.items);
  faults_are = sym (append-nil x.faults.items);
  entries = left_first (P [] []) o p;
  are_counted = counted_none a;
  taken = same_taken [] o;
  names = same_names [] o;
  onward = onward_same a;
}

pub adds_nothing : (steps : List Step) (x y : Progress) {o n : Option Journal} {a b : Counts} → y.marks.items ≡ x.marks.items ++ [] → y.faults.items ≡ x.faults.items ++ [] → Left (λ ts. ts ≡ []) o n → Onward a b → AddsSteps Nothing steps x y o n a b
adds_nothing steps x y {a = a} {b = b} ms fs l onward = record {
  marks = [];
  faults = [];
  marks_are = ms;
  faults_are = fs;
  entries = left_as l (λ ts e. (refl, refl, e));
  are_counted = counted_free [] a b free_none onward.0;
  taken = nothing_taken steps l;
  names = nothing_names steps l;
  onward = onward;
}

pub no_more : (x : Progress) → x.marks.items ≡ x.marks.items ++ []
no_more x = sym (append-nil x.marks.items)

pub no_fault : (x : Progress) → x.faults.items ≡ x.faults.items ++ []
no_fault x = sym (append-nil x.faults.items)

-- one fault with its cause
pub counted_one : (f : Fault) (a b : Counts) (o n : Option Journal) → FaultCause f a b o n → NoneFell a b → AreCounted (f ∷ []) a b
counted_one (fault.Call kind path) a b o n h le = counted_call kind path a b h le
counted_one (fault.Script phase on end) a b o n h le = counted_script phase on end a b h le
counted_one fault.Clock a b o n h le = absurd h
counted_one (fault.Zone why) a b o n h le = absurd h
counted_one fault.Out a b o n h le = absurd h
counted_one f a b o n h le = counted_free (f ∷ []) a b (record { calls = refl; scripts = refl; none_around = ((λ h. h), tt) }) le

-- one step was made
pub step_made : (step : Step) (told : Option Mark) (x y : Progress) {o n : Option Journal} {a b : Counts} → option_to_list told ≡ marks_of step → y.marks.items ≡ x.marks.items ++ option_to_list told → y.faults.items ≡ x.faults.items ++ []
    → Left (Succeeds step) o n → StepNames step (Ok told) n → Onward a b → AddsSteps (WasMade step) (step ∷ []) x y o n a b
step_made step told x y {o = o} {n = n} {a = a} {b = b} e ms fs l named onward = record {
  marks = option_to_list told;
  faults = [];
  marks_are = ms;
  faults_are = fs;
  entries = left_as l (λ ts w. (e, refl, w));
  are_counted = counted_free [] a b free_none onward.0;
  taken = made_taken step l;
  names = subst (λ (marks : List Mark). KeepsNames (step ∷ []) marks o n) (sym e) (made_names step told l named);
  onward = onward;
}

pub step_failed : (step : Step) (f : Fault) (x y : Progress) {o n : Option Journal} {a b : Counts} → y.marks.items ≡ x.marks.items ++ [] → y.faults.items ≡ x.faults.items ++ f ∷ []
    → Left (Fails step f) o n → FaultCause f a b o n → Onward a b → AddsSteps (StepFails step) (step ∷ []) x y o n a b
step_failed step f x y {o = o} {n = n} {a = a} {b = b} ms fs l cause onward = record {
  marks = [];
  faults = f ∷ [];
  marks_are = ms;
  faults_are = fs;
  entries = left_as l (λ ts h. record { fault = f; told = refl; none = refl; failed = h });
  are_counted = counted_one f a b o n cause onward.0;
  taken = failed_taken step f a b l cause;
  names = failed_names step f l;
  onward = onward;
}

-- ---- room

pub room_part : (m n k : ℕ) (x : Progress) → m + n ≤ k → HasRoom k x → HasRoom m x
room_part m n k x e r = record { marks = omega (arith, e, r.marks); faults = omega (arith, e, r.faults); buffer = r.buffer; short = r.short }

pub room_rest : (m n k : ℕ) (x y : Progress) → m + n ≤ k → HasRoom k x → FillsRoom m x y → HasRoom n y
room_rest m n k x y e r f = record {
  marks = omega (arith, e, r.marks, f.marks, f.marks_room);
  faults = omega (arith, e, r.faults, f.faults, f.faults_room);
  buffer = omega (arith, r.buffer, f.buffer);
  short = omega (arith, r.short, f.buffer);
}

pub fills_none : (x : Progress) → FillsRoom 0 x x
fills_none x = record { marks = omega arith; faults = omega arith; marks_room = omega arith; faults_room = omega arith; buffer = refl }

pub fills_on : (m n k : ℕ) (x y z : Progress) → m + n ≤ k → FillsRoom m x y → FillsRoom n y z → FillsRoom k x z
fills_on m n k x y z e f g = record {
  marks = omega (arith, e, f.marks, g.marks);
  faults = omega (arith, e, f.faults, g.faults);
  marks_room = omega (arith, f.marks_room, g.marks_room);
  faults_room = omega (arith, f.faults_room, g.faults_room);
  buffer = g.buffer ∙ f.buffer;
}

pub fills_more : (m k : ℕ) (x y : Progress) → m ≤ k → FillsRoom m x y → FillsRoom k x y
fills_more m k x y e f = record { marks = omega (arith, e, f.marks); faults = omega (arith, e, f.faults); marks_room = f.marks_room; faults_room = f.faults_room; buffer = f.buffer }
