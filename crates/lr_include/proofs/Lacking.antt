-- Readings that end for want of memory.
use Rattle.std.proofs.Common.{◌≡◌, ◌++◌, ℕ, List, [], ◌∷◌, false, refl, sym, ap, ◌∙◌, subst, inl, append-nil, append_assoc, reverse, Option, Some, Result, Ok, Err}
use Rattle.std.specs.Prelude.{OnErr}
use Rattle.lr_rules.specs.declared.path.Path.{Path}
use Rattle.lr_host.specs.declared.entry.Entry.{Entry}
use Rattle.lr_host.specs.declared.journal.Journal.{Journal}
use Rattle.lr_host.specs.Told.{Left}
use Rattle.lr_host.proofs.Left.{left_first, left_as, left_then}
use Rattle.lr_include.specs.declared.visit.Visit.{Visit}
use Rattle.lr_include.specs.Visits.{ShowsVisit, PartVisit}
use Rattle.lr_include.specs.declared.course.Course.{Course}
use Rattle.lr_include.specs.declared.task.Ask.{Ask}
use Rattle.lr_include.specs.declared.task.Task.{Task}
use Rattle.lr_include.specs.declared.task.Task.TheVariants as task
use Rattle.lr_include.specs.Stages.{Stage, is_shallow, room_for, IsTaboo, at_visits}
use Rattle.lr_include.specs.Course.{StandsAt, WentOn, GoesOn}
use Rattle.lr_include.specs.Lacking.{PartNext, LacksFrom}
use Rattle.lr_include.proofs.Stages.{popped_stands, next_was}

pub on_err_as : {T E : Type 0} (r : Result T E) (P Q : Type 0) → OnErr r P → (P → Q) → OnErr r Q
on_err_as (Ok x) P Q p f = tt
on_err_as (Err x) P Q p f = f p

part_none : (s : Stage) (todo : List Task) → PartNext s todo []
part_none s [] = refl
part_none s (task.Line p ∷ todo) = refl
part_none s (task.Ask a ∷ todo) = inl refl
part_none s (task.Name a ∷ todo) = (λ bars. refl, inl refl)

-- nothing was left
none_lacks : (s : Stage) → LacksFrom s []
none_lacks s = record { visits = []; shown = record { front = []; back = []; joined = refl; first = refl; second = part_none (at_visits s []) (at_visits s []).todo } }

pub lacks_here : (s : Stage) (o : Option Journal) → Left (LacksFrom s) o o
lacks_here s o = left_first (LacksFrom s) o (none_lacks s)

-- some visits were made before
pub lacks_later : (s t : Stage) {o m n : Option Journal} (i j : ℕ) → WentOn s t o m i j → Left (LacksFrom t) m n → Left (LacksFrom s) o n
lacks_later s t i j w l = left_then w.shown l (λ xs ys p k. record {
  visits = w.visits ++ k.visits;
  shown = record {
    front = xs ++ k.shown.front;
    back = k.shown.back;
    joined = ap (λ (es : List Entry). xs ++ es) k.shown.joined ∙ sym (append_assoc xs k.shown.front k.shown.back);
    first = p k.visits k.shown.front k.shown.first;
    second = subst (λ (x : Stage). PartNext x x.todo k.shown.back) (sym (w.leads k.visits)) k.shown.second;
  };
})

pub lacks_on : (s : Stage) (a : Course) {o m n : Option Journal} (i j : ℕ) → GoesOn s a o m i j → ((t : Stage) → StandsAt a t → Left (LacksFrom t) m n) → Left (LacksFrom s) o n
lacks_on s a i j g f = lacks_later s g.stage i j g.went (f g.stage g.stands)

pub lacks_behind : (s : Stage) (a : Course) (o n : Option Journal) (i j : ℕ) → GoesOn s a o n i j → Left (LacksFrom s) o n
lacks_behind s a o n i j g = lacks_on s a i j g (λ t st. lacks_here t n)

-- ---- visits

-- the visit ended
pub ask_lacks : (s : Stage) (a : Ask) {o n : Option Journal} → Left (PartVisit a.path (room_for s)) o n → Left (LacksFrom (record s { todo = task.Ask a ∷ s.todo })) o n
ask_lacks s a l = left_as l (λ ts h. record { visits = []; shown = record { front = []; back = ts; joined = refl; first = refl; second = h } })

pub name_lacks : (s : Stage) (a : Ask) {o n : Option Journal} → (IsTaboo s.lines a.path → ⊥) → Left (PartVisit a.path (room_for s)) o n → Left (LacksFrom (record s { todo = task.Name a ∷ s.todo })) o n
name_lacks s a free l = left_as l (λ ts h. record { visits = []; shown = record { front = []; back = ts; joined = refl; first = refl; second = (λ bars. absurd (free bars), h) } })

pub part_at : (x : Path) (room room' : Option ℕ) {o n : Option Journal} → room ≡ room' → Left (PartVisit x room) o n → Left (PartVisit x room') o n
part_at x room room' {o = o} {n = n} e l = subst (λ (k : Option ℕ). Left (PartVisit x k) o n) e l

-- it was made
pub ask_made_lacks : (s : Stage) (a : Ask) (v : Visit) {o n : Option Journal} → Left (ShowsVisit a.path (is_shallow s) (room_for s) v) o n → Left (LacksFrom (record s { todo = task.Ask a ∷ s.todo })) o n
ask_made_lacks s a v l = left_as l (λ ts h. record {
  visits = Some v ∷ [];
  shown = record { front = ts; back = []; joined = sym (append-nil ts); first = record { front = ts; back = []; joined = sym (append-nil ts); first = h; second = refl }; second = part_none (at_visits (record s { todo = task.Ask a ∷ s.todo }) (Some v ∷ [])) (at_visits (record s { todo = task.Ask a ∷ s.todo }) (Some v ∷ [])).todo };
})

pub name_made_lacks : (s : Stage) (a : Ask) (v : Visit) {o n : Option Journal} → (IsTaboo s.lines a.path → ⊥) → Left (ShowsVisit a.path false (room_for s) v) o n → Left (LacksFrom (record s { todo = task.Name a ∷ s.todo })) o n
name_made_lacks s a v free l = left_as l (λ ts h. record {
  visits = Some v ∷ [];
  shown = record { front = ts; back = []; joined = sym (append-nil ts); first = record { front = ts; back = []; joined = sym (append-nil ts); first = (free, h); second = refl }; second = part_none (at_visits (record s { todo = task.Name a ∷ s.todo }) (Some v ∷ [])) (at_visits (record s { todo = task.Name a ∷ s.todo }) (Some v ∷ [])).todo };
})

-- ---- turns

pub lacks_stepped : (old popped : Course) (t : Task) (s : Stage) (o n : Option Journal) → popped.layer ≡ old.layer → popped.faults.items ≡ old.faults.items → popped.files ≡ old.files → popped.bytes ≡ old.bytes → popped.exposed ≡ old.exposed → old.todo.items ≡ popped.todo.items ++ t ∷ []
    → ((m : Stage) → StandsAt popped m → Left (LacksFrom (record m { todo = t ∷ m.todo })) o n) → StandsAt old s → Left (LacksFrom s) o n
lacks_stepped old popped t s o n layer faults files bytes exposed todo f st =
    subst (λ (ts : List Task). Left (LacksFrom (record s { todo = ts })) o n) (next_was old popped t s todo st)
    (f (record s { todo = reverse popped.todo.items }) (popped_stands old popped s layer faults files bytes exposed st))
