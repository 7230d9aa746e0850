-- Entries over which a set whose log is set aside lets it go only behind a copy, and the promise over a call that leaves them.
use Rattle.std.proofs.Common.{◌≡◌, sym, subst, true, false, List, ◌++◌, reverse, Option, Some, Result}
use Rattle.std.proofs.lemmas.List.{reverse-append, reverse-reverse}
use Rattle.lr_rules.specs.declared.clock.Clock.{Clock}
use Rattle.lr_rules.specs.declared.fault.Fault.{Fault}
use Rattle.lr_rules.specs.declared.path.Path.{Path}
use Rattle.lr_rules.specs.declared.rule.Way.TheVariants.{RenameCopy}
use Rattle.lr_rules.specs.declared.rules.Rules.{Rules}
use Rattle.lr_rules.specs.Names.{aside_path}
use Rattle.lr_host.specs.declared.entry.Entry.{Entry}
use Rattle.lr_host.specs.declared.journal.Journal.{Journal}
use Rattle.lr_host.specs.Opening.{IsJournal}
use Rattle.lr_host.specs.Quiet.{AreQuiet}
use Rattle.lr_host.specs.Safe.{IsSafe}
use Rattle.lr_host.specs.Sets.{LogSet}
use Rattle.lr_host.specs.Steady.{IsSteadyBy}
use Rattle.lr_host.specs.Told.{Made, Left, not_told, is_told}
use Rattle.lr_host.specs.World.{Past, past}
use Rattle.lr_host.proofs.Left.{left_as}
use Rattle.lr_host.proofs.Made.{cut, made_journal}
use Rattle.lr_host.proofs.Steady.{none_attached_by, steady_before_by}
use Rattle.lr_laws.specs.Forward.{IsForwardFor}
use Rattle.lr_plan.specs.Asked.{Asked}
use Rattle.lr_plan.specs.declared.plan.Plan.{Plan}
use Rattle.lr_laws_acts.specs.LetGo.{UnlinksCopied}
use Rattle.lr_laws_acts.proofs.Letting.{both_copied}
use Rattle.lr_move.specs.Moved.{KeepsMovedWhere}
use Rattle.lr_laws_rotations.proofs.Still.{quiet_safe_on}
use Rattle.lr_laws_rotations.specs.Runs.{IsWholeRunBy}
use Rattle.lr_laws_rotations.proofs.RunSafety.{all_safe_aside}
use Rattle.lr_run.specs.declared.answer.Ran.{Ran}
use Rattle.lr_run.specs.declared.answer.RunStop.{RunStop}
use Rattle.lr_run.specs.InternalAnswers.{Answers}
use Rattle.lr_run.specs.InternalRuns.{Runs}
use Rattle.lr_run.proofs.Shape.{whole_run}
use Rattle.lr_run.proofs.Moving.{IsOwnCopy, lets_go_whole, quiet_lets, answers_let, runs_let}

-- Over such entries, where the set was safe and is steady at their end, the path where its log waits is unlinked only behind a copy.
abbrev pub LetsInRun : List Entry → Type 0
LetsInRun ts = (s : LogSet) → s.naming.aside ≡ true → (p q : Past) → Made p (reverse ts) q → IsJournal p → IsSafe s p → IsSteadyBy RenameCopy s q → UnlinksCopied (IsOwnCopy s) (aside_path s.log) ts

-- those of a run
pub answers_lets : (state : Path) (rules : Rules) (clock : Clock) (asked : Asked) (earlier : List Fault) (r : Result Ran RunStop) (ts : List Entry) → Answers state false asked clock rules earlier r ts → LetsInRun ts
answers_lets state rules clock asked earlier r ts h = λ s aside p q m journal safe st.
    subst (UnlinksCopied (IsOwnCopy s) (aside_path s.log)) (reverse-reverse ts) (answers_let state rules clock asked s aside p q (reverse ts) journal safe m st earlier r (subst (Answers state false asked clock rules earlier r) (sym (reverse-reverse ts)) h))

pub runs_lets : (state : Path) (rules : Rules) (clock : Clock) (asked : Asked) (plan : Option Plan) (own : List Fault) (ts : List Entry) → Runs state asked clock rules plan own ts → LetsInRun ts
runs_lets state rules clock asked plan own ts h = λ s aside p q m journal safe st.
    subst (UnlinksCopied (IsOwnCopy s) (aside_path s.log)) (reverse-reverse ts) (runs_let state rules clock asked s aside p q (reverse ts) journal safe m st plan own (subst (Runs state asked clock rules plan own) (sym (reverse-reverse ts)) h))

pub quiet_run_lets : (ts : List Entry) → AreQuiet ts → LetsInRun ts
quiet_run_lets ts quiet = λ s aside p q m journal safe st. quiet_lets (IsOwnCopy s) (aside_path s.log) ts quiet

-- behind entries that only look
pub behind_lets : (xs ys : List Entry) → AreQuiet xs → LetsInRun ys → LetsInRun (xs ++ ys)
behind_lets xs ys quiet lets = λ s aside p q m journal safe st.
    let k = cut p q (reverse (xs ++ ys)) (reverse ys) (reverse xs) (reverse-append xs ys) m in
    both_copied (IsOwnCopy s) (aside_path s.log) xs ys (quiet_lets (IsOwnCopy s) (aside_path s.log) xs quiet)
    (lets s aside k.mid q k.second (made_journal p k.mid (reverse xs) k.first journal)
    (quiet_safe_on s p k.mid xs quiet journal safe k.first (none_attached_by RenameCopy s k.mid (steady_before_by RenameCopy s k.mid q (reverse ys) k.second st))) st)

-- so each set whose log is set aside keeps the promise
pub moved_by : (clock : Clock) {o n : Option Journal} → Left (IsWholeRunBy clock) o n → Left LetsInRun o n → KeepsMovedWhere (IsForwardFor clock) o n
moved_by clock run not_told = tt
moved_by clock run (is_told {j = j} {k = k} {es = es} m lets) = λ s aside forward journal safe st. (
  all_safe_aside clock (Some j) (Some k) run s forward journal safe st,
  λ only. lets_go_whole s (past j) (past k) es m journal only (lets s aside (past j) (past k) (subst (λ (us : List Entry). Made (past j) us (past k)) (sym (reverse-reverse es)) m) journal safe st),
)

-- so does a run that acts
pub run_moved : (state : Path) (asked : Asked) (clock : Clock) (rules : Rules) (earlier : List Fault) (r : Result Ran RunStop) {o n : Option Journal} → Left (Answers state false asked clock rules earlier r) o n → KeepsMovedWhere (IsForwardFor clock) o n
run_moved state asked clock rules earlier r left = moved_by clock (left_as left (λ ts h. whole_run state asked clock rules earlier r ts h)) (left_as left (λ ts h. answers_lets state rules clock asked earlier r ts h))
