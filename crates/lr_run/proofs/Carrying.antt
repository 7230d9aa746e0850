-- The acts of a run, and the state behind them.
use Rattle.std.proofs.Common.{◌≡◌, ◌<◌, ◌+◌, ◌-◌, ℕ, Bool, true, false, cond, ◌||◌, List, [], ◌∷◌, ◌++◌, length, take, drop, get_or, map, Option, Result, Ok, Err, OnErr, refl, sym, ap, ◌∙◌, subst, arith, append_assoc}
use Rattle.std.specs.Str.{bytes_eq}
use Rattle.std.proofs.lemmas.List.{take_more, take_all, length-drop}
use Rattle.std.proofs.lemmas.List.Folds.{list_any-append}
use Rattle.std.proofs.Math.Seq.{drop-append_seam}
use Rattle.lr_rules.specs.declared.civil.Civil.{Civil}
use Rattle.lr_rules.specs.declared.fault.Fault.{Fault}
use Rattle.lr_rules.specs.declared.path.Path.{Path}
use Rattle.lr_host.specs.declared.entry.Entry.{Entry}
use Rattle.lr_host.specs.declared.journal.Journal.{Journal}
use Rattle.lr_host.specs.Told.{Counts, Left}
use Rattle.lr_host.proofs.Left.{left_as, left_both}
use Rattle.lr_state.specs.Table.{StateEntry as Row}
use Rattle.lr_state.specs.Written.{table_text}
use Rattle.lr_plan.specs.declared.mark.Mark.{Mark}
use Rattle.lr_plan.specs.declared.mark.Mark.TheVariants as mark
use Rattle.lr_plan.specs.declared.step.SetSteps.{SetSteps}
use Rattle.lr_plan.specs.declared.step.Step.{Step}
use Rattle.lr_plan.specs.Course.{Course}
use Rattle.lr_plan.specs.Done.{SetsDone, rotated_logs}
use Rattle.lr_plan.specs.Asking.{CanMake}
use Rattle.lr_plan.specs.Cut.{SetsCut}
use Rattle.lr_plan.specs.Steps.{state_steps}
use Rattle.lr_host.proofs.Counts.{counted_on}
use Rattle.lr_acts.specs.declared.progress.Progress.{Progress}
use Rattle.lr_acts.specs.Adding.{AddsSteps}
use Rattle.lr_acts.specs.Making.{all_of_sets}
use Rattle.lr_acts.proofs.Taking.{taken_on}
use Rattle.lr_state.specs.After.{is_among, stamped}
use Rattle.lr_writing.specs.Writes.{AddsCourse}
use Rattle.lr_run.specs.declared.ready.Ready.{Ready}
use Rattle.lr_run.specs.Internal.{AreBehind, CanWrite, ActsAndWrites, SomeActs, writing_steps}
use Rattle.lr_run.specs.Work.{Acts}

-- ---- marks one behind another

logs_on : (ms ns : List Mark) → rotated_logs (ms ++ ns) ≡ rotated_logs ms ++ rotated_logs ns
logs_on [] ns = refl
logs_on (mark.Rotated log ∷ ms) ns = ap (λ (logs : List Path). log ∷ logs) (logs_on ms ns)
logs_on (mark.Directory path ∷ ms) ns = logs_on ms ns
logs_on (mark.Created path ∷ ms) ns = logs_on ms ns

stamped_twice : (xs ys : List Path) (now : Civil) (row : Row) → stamped ys now (stamped xs now row) ≡ stamped (xs ++ ys) now row
stamped_twice xs ys now row = go (is_among xs row.0) ∙ ap (λ (b : Bool). cond b new row) (sym (list_any-append (bytes_eq row.0) xs ys))
  where
    new : Row
    new = (row.0, now)

    again : (b : Bool) → cond b new new ≡ new
    again true = refl
    again false = refl

    go : (b : Bool) → stamped ys now (cond b new row) ≡ cond (b || is_among ys row.0) new row
    go true = again (is_among ys row.0)
    go false = refl

all_stamped_twice : (xs ys : List Path) (now : Civil) (rows : List Row) → map (stamped ys now) (map (stamped xs now) rows) ≡ map (stamped (xs ++ ys) now) rows
all_stamped_twice xs ys now [] = refl
all_stamped_twice xs ys now (row ∷ rows) = ap (λ (r : Row). r ∷ map (stamped ys now) (map (stamped xs now) rows)) (stamped_twice xs ys now row) ∙ ap (λ (rs : List Row). stamped (xs ++ ys) now row ∷ rs) (all_stamped_twice xs ys now rows)

-- so many of the marks, and one more
pub one_more_stamp : (marks : List Mark) (at : ℕ) (m : Mark) (now : Civil) (rows before later : List Row) → at < length marks → m ≡ get_or marks at m → before ≡ map (stamped (rotated_logs (take at marks)) now) rows → later ≡ map (stamped (rotated_logs (m ∷ [])) now) before
    → later ≡ map (stamped (rotated_logs (take (at + 1) marks)) now) rows
one_more_stamp marks at m now rows before later lt is h g =
    g ∙ (ap (λ (rs : List Row). map (stamped (rotated_logs (m ∷ [])) now) rs) h
    ∙ (all_stamped_twice (rotated_logs (take at marks)) (rotated_logs (m ∷ [])) now rows
    ∙ ap (λ (logs : List Path). map (stamped logs now) rows) (sym (logs_on (take at marks) (m ∷ [])) ∙ ap rotated_logs (ap (λ x. take at marks ++ x ∷ []) is ∙ sym (take_more marks at m lt)))))

-- what stands behind so many of them
pub marks_behind : (at : ℕ) (marks : List Mark) → take (length marks - at) (drop at marks) ≡ drop at marks
marks_behind at marks = let l : length (drop at marks) ≡ length marks - at = length-drop at marks in take_all (length marks - at) (drop at marks) (omega (arith, l))

-- ---- the acts, and then the state

-- what is synced behind the marks from there on
pub behind_of : (ready : Ready) (before : ℕ) (marks items : List Mark) (dirs : List Path) → marks ≡ items → AreBehind ready (take (length marks - before) (drop before marks)) dirs → AreBehind ready (drop before items) dirs
behind_of ready before marks items dirs is behind = subst (λ (ms : List Mark). AreBehind ready (drop before ms) dirs) is (subst (λ (ms : List Mark). AreBehind ready ms dirs) (marks_behind before marks) behind)

abbrev Text : Ready → Civil → Progress → ℕ → List ℕ
Text ready now y before = table_text (map (stamped (rotated_logs (drop before y.marks.items)) now) ready.table)

module _ (ready : Ready) (x y : Progress) (before : ℕ) (dirs : List Path) (o m : Option Journal) (j k : Counts) (is : before ≡ length x.marks.items) (a : AddsSteps (SetsDone ready.steps) (all_of_sets ready.steps) x y o m j k)
    (behind : AreBehind ready (drop before y.marks.items) dirs) where
  own : drop before y.marks.items ≡ a.marks
  own = ap (drop before) a.marks_are ∙ (ap (λ (i : ℕ). drop i (x.marks.items ++ a.marks)) is ∙ drop-append_seam x.marks.items a.marks)

  dirs_are : AreBehind ready a.marks dirs
  dirs_are = subst (λ (ms : List Mark). AreBehind ready ms dirs) own behind

  -- the state can be written behind the acts
  pub can_write : CanWrite ready o → (text : List ℕ) → CanMake m (state_steps ready.writing.state ready.writing.stale dirs text)
  can_write can text = can m a.marks a.faults dirs text dirs_are a.entries

  pub acts_and_writes : (now : Civil) (z : Progress) (n : Option Journal) (l : Counts) → AddsCourse (state_steps ready.writing.state ready.writing.stale dirs (Text ready now y before)) y.faults.items z.faults.items m n k l → ActsAndWrites ready now x z o n j l
  acts_and_writes now z n l s = record {
    acts = acts;
    dirs_are = dirs_are;
    faults_are = w.now_is ∙ (ap (λ (fs : List Fault). fs ++ w.added) a.faults_are ∙ append_assoc x.faults.items a.faults w.added);
    entries = left_both a.entries wrote;
    are_counted = counted_on a.faults w.added j k l a.are_counted w.are_counted;
    taken = taken_on (all_of_sets ready.steps) (writing_steps ready.writing ready.table now acts) a.faults w.added a.entries w.entries a.taken w.taken;
    middle = m;
    names = a.names;
    wrote = wrote;
  }
    where
      w : AddsCourse (state_steps ready.writing.state ready.writing.stale dirs (table_text (map (stamped (rotated_logs a.marks) now) ready.table))) y.faults.items z.faults.items m n k l
      w = subst (λ (ms : List Mark). AddsCourse (state_steps ready.writing.state ready.writing.stale dirs (table_text (map (stamped (rotated_logs ms) now) ready.table))) y.faults.items z.faults.items m n k l) own s

      acts : Acts
      acts = record { marks = a.marks; dirs = dirs; of_logs = a.faults; of_state = w.added }

      wrote : Left (Course (writing_steps ready.writing ready.table now acts) [] w.added) m n
      wrote = left_as w.entries (λ (ts : List Entry) v. v.0)

-- ---- a first part of the acts

pub some_acts : {T E : Type 0} (r : Result T E) (steps : List SetSteps) {all : List Step} {x y : Progress} {o n : Option Journal} {j k : Counts} → AddsSteps (SetsCut steps) all x y o n j k → OnErr r (Left (SomeActs steps) o n)
some_acts (Ok u) steps a = tt
some_acts (Err u) steps a = left_as a.entries (λ ts h. record { marks = a.marks; faults = a.faults; part = h })
