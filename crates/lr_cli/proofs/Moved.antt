-- Sets whose logs are set aside keep the promise over a call of the program.
use Rattle.std.proofs.Common.{◌≡◌, inl, refl, sym, ◌∙◌, ap, subst, Bool, true, false, List, [], ◌∷◌, ◌++◌, append_assoc, Option, Some}
use Rattle.std.specs.Prelude.{Err}
use Rattle.std.specs.Prelude.{ℤ}
use Rattle.lr_run.proofs.Leaving.{carried_left, broken_left}
use Rattle.lr_host.specs.Lists.{IsIn}
use Rattle.lr_report.specs.declared.outcome.Outcome.TheVariants.{Done, OutOfMemory}
use Rattle.lr_cli.specs.Internal.{TurnsByClock, only_looked, ran}
use Rattle.lr_run.specs.Work.{ShowsWork, run_entries}
use Rattle.lr_host.specs.declared.entry.Entry.{Entry}
use Rattle.lr_host.proofs.Lists.{in_back}
use Rattle.lr_host.specs.Quiet.{AreQuiet}
use Rattle.lr_rules.specs.Names.{aside_path}
use Rattle.lr_rules.specs.declared.path.Path.{Path}
use Rattle.lr_run.specs.InternalRuns.{in_acts}
use Rattle.lr_laws_looks.proofs.Elements.{in_each}
use Rattle.lr_plan.specs.declared.plan.Plan.{Plan}
use Rattle.lr_report.specs.declared.outcome.Outcome.{Outcome}
use Rattle.lr_cli.specs.Called.{Came, call_entries, asked_in, PlanEnds, CallEnds, halted, called}
use Rattle.lr_cli.proofs.Still.{front_quiet, dry_quiet, halt_still}
use Rattle.lr_host.specs.Told.{Left}
use Rattle.lr_host.specs.declared.journal.Journal.{Journal}
use Rattle.lr_run.proofs.Evidence.{faults_of}
use Rattle.lr_host.proofs.Left.{left_first}
use Rattle.lr_command.specs.declared.request.Request.{Request}
use Rattle.lr_cli.specs.Before.{IsStill, AreStill}
use Rattle.lr_run.specs.declared.answer.RunStop.TheVariants as stop
use Rattle.lr_host.specs.declared.entry.Entry.TheVariants.{Unlinks}
use Rattle.lr_cli.specs.Safe.{HadClock, KeepsMovedByClock, no_clock as moved_without, by_clock}
use Rattle.lr_due.specs.declared.tz.Zone.{Zone}
use Rattle.lr_run.proofs.Lets.{LetsInRun, answers_lets, runs_lets, quiet_run_lets, behind_lets, moved_by}
use Rattle.lr_run.proofs.Moving.{quiet_moved}

-- ---- the entries of a call

-- a call that halted unlinks nothing
still_lets : (ts : List Entry) → AreStill ts → LetsInRun ts
still_lets ts still s aside p q m journal safe st before after is =
    absurd (in_each IsStill ts (Unlinks (aside_path s.log)) still (subst (IsIn (Unlinks (aside_path s.log))) (sym is) (in_back (Unlinks (aside_path s.log)) before (Unlinks (aside_path s.log) ∷ after) (inl refl))))

pub ends_lets : (request : Request) (zone : Zone) (seconds : ℤ) (plan : Option Plan) (outcome : Outcome) (came : Option Came) (ts : List Entry) → CallEnds request zone seconds plan outcome came ts → LetsInRun ts
ends_lets request zone seconds plan outcome came ts (halted none lost h) = still_lets ts (halt_still request zone seconds outcome ts h)
ends_lets request zone seconds plan outcome came ts (called c some s e is) = go request.settings.debug refl outcome e
  where
    state : Path
    state = request.settings.state

    front : List Entry
    front = c.of_clock ++ c.of_confs

    parts : (b : Bool) → request.settings.debug ≡ b → ts ≡ front ++ run_entries b state c.clock c.rules c.work
    parts b dry = is ∙ (ap (λ (x : Bool). c.of_clock ++ (c.of_confs ++ run_entries x state c.clock c.rules c.work)) dry ∙ sym (append_assoc c.of_clock c.of_confs (run_entries b state c.clock c.rules c.work)))

    shows : request.settings.debug ≡ false → ShowsWork false state c.rules.sets c.clock (asked_in request) c.work
    shows acts = subst (λ (b : Bool). ShowsWork b state c.rules.sets c.clock (asked_in request) c.work) acts s.confs.work

    behind : request.settings.debug ≡ false → LetsInRun (run_entries false state c.clock c.rules c.work) → LetsInRun ts
    behind acts lets = subst LetsInRun (sym (parts false acts)) (behind_lets front (run_entries false state c.clock c.rules c.work) (front_quiet request zone seconds c s) lets)

    go : (b : Bool) → request.settings.debug ≡ b → (o : Outcome) → PlanEnds b request c plan o → LetsInRun ts
    go true dry (Done report) e = subst LetsInRun (sym is) (quiet_run_lets (call_entries request c) (dry_quiet request zone seconds c dry s))
    go false acts (Done report) e = behind acts (runs_lets state c.rules c.clock (asked_in request) (Some c.work.plan) (faults_of c.work) (run_entries false state c.clock c.rules c.work) (carried_left state c.rules c.clock (asked_in request) c.work (shows acts) e.1))
    go false acts OutOfMemory e = behind acts (answers_lets state c.rules c.clock (asked_in request) [] (Err stop.Memory) (run_entries false state c.clock c.rules c.work) (in_acts (broken_left state c.rules c.clock (asked_in request) c.work (shows acts) e.1)))
    go _ dry _ e = absurd e

-- ---- the call

-- one that called nothing
pub moved_alone : (zone : Zone) (seconds : ℤ) (o : Option Journal) → KeepsMovedByClock zone seconds o o
moved_alone zone seconds o = moved_without (quiet_moved (λ s p. Unit {0}) (left_first AreQuiet o tt))

-- one by a clock keeps those that aren't ahead of it; one without only looked, and keeps each
pub turns_moved : (zone : Zone) (s seconds : ℤ) {o n : Option Journal} → s ≡ seconds → TurnsByClock zone s o n → Left LetsInRun o n → KeepsMovedByClock zone seconds o n
turns_moved zone s seconds same (only_looked l) lets = moved_without (quiet_moved (λ s p. Unit {0}) l)
turns_moved zone s seconds {o = o} {n = n} same (ran clock had run) lets = by_clock clock (subst (λ (z : ℤ). HadClock zone z clock o n) same had) (moved_by clock run lets)
