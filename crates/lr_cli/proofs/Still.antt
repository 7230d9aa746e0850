-- Looks, listings and reads: what holds of each of them holds of all that a call leaves before its run, and of all that one leaves that ended before its plan.
use Rattle.std.proofs.Common.{◌≡◌, ℕ, Bool, true, List, ◌++◌, Option, refl, sym, ◌∙◌, subst, append_assoc}
use Rattle.std.specs.Prelude.{ℤ}
use Rattle.std.proofs.lemmas.Option.{same_Some}
use Rattle.lr_rules.specs.declared.clock.Clock.{Clock}
use Rattle.lr_rules.specs.declared.path.Path.{Path}
use Rattle.lr_rules.specs.declared.rules.Rules.{Rules}
use Rattle.lr_host.specs.declared.entry.Entry.{Entry}
use Rattle.lr_host.specs.declared.entry.Entry.TheVariants as entry
use Rattle.lr_host.specs.declared.journal.Journal.{Journal}
use Rattle.lr_host.specs.declared.thing.Seen.{Seen}
use Rattle.lr_host.specs.Told.{Each, Left}
use Rattle.lr_host.specs.Quiet.{AreQuiet, IsQuiet}
use Rattle.lr_host.proofs.Each.{each_append}
use Rattle.lr_host.proofs.Left.{left_as}
use Rattle.lr_due.specs.declared.tz.Zone.{Zone}
use Rattle.lr_include.proofs.AllQuiet.{all_so, lacking_so}
use Rattle.lr_plan.specs.declared.plan.Plan.{Plan}
use Rattle.lr_host.specs.Looking.{IsSight, AreSights}
use Rattle.lr_run.specs.Halt.{Halt, Halts}
use Rattle.lr_run.specs.Saw.{ShowsSaw}
use Rattle.lr_run.specs.Work.{run_entries}
use Rattle.lr_run.proofs.Leaving.{halts_so}
use Rattle.lr_run.proofs.Sighted.{halted_so, saw_so}
use Rattle.lr_command.specs.declared.request.Request.{Request}
use Rattle.lr_report.specs.declared.outcome.Outcome.{Outcome}
use Rattle.lr_cli.specs.Asked.{AskFor}
use Rattle.lr_cli.specs.Before.{IsStill, AreStill}
use Rattle.lr_cli.specs.Called.{Came, call_entries, asked_in, ShowsCame, ConfsHalt, no_reading, no_plan, CallHalts, no_clock, no_zone, behind_clock, CallEnds, halted, called, CallShows, not_read, read}
use Rattle.lr_clock.proofs.Quiet.{then_so, zone_so, lost_clock_so, lost_zone_so}

-- words ask for one request
pub same_request : (here : Path) (words : List (List ℕ)) (a b : Request) → AskFor here words a → AskFor here words b → a ≡ b
same_request here words a b asked asks = same_Some a b (sym asked ∙ asks)

-- ---- a call that ended before its plan

module _ (P : Entry → Type 0) (look : (x : Path) (seen : Option Seen) → P (entry.Look x seen)) (list : (x : Path) (names : List (List ℕ)) → P (entry.List x names)) (reads : (x : Path) (place : ℕ) (piece : List ℕ) → P (entry.Reads x place piece)) where
  -- where it holds of all that a run leaves that halted
  module _ (request : Request) (run_so : (rules : Rules) (clock : Clock) (halt : Halt) (us : List Entry) → Halts request.settings.debug request.settings.state rules clock (asked_in request) halt us → Each P us) where
    confs_halt_so : (clock : Clock) (outcome : Outcome) (ts : List Entry) → ConfsHalt request clock outcome ts → Each P ts
    confs_halt_so clock outcome ts (no_reading is l) = lacking_so P look list (λ x from piece le. reads x from piece) request.confs ts l
    confs_halt_so clock outcome ts (no_plan meaning rules halt same is t) = then_so P look reads _ _ ts (λ us r. all_so P look list (λ x from piece le. reads x from piece) request.confs meaning us r) (λ us h. run_so rules clock halt us h) t

    pub call_halt_so : (zone : Zone) (seconds : ℤ) (outcome : Outcome) (ts : List Entry) → CallHalts request zone seconds outcome ts → Each P ts
    call_halt_so zone seconds outcome ts (no_clock f is l) = lost_clock_so P look reads zone seconds f ts l
    call_halt_so zone seconds outcome ts (no_zone is l) = lost_zone_so P look reads zone ts l
    call_halt_so zone seconds outcome ts (behind_clock clock t) = then_so P look reads _ _ ts (λ us h. zone_so P look reads zone h.text us h.shows) (λ us h. confs_halt_so clock outcome us h) t

-- it leaves the disk as it is
pub halt_still : (request : Request) (zone : Zone) (seconds : ℤ) (outcome : Outcome) (ts : List Entry) → CallHalts request zone seconds outcome ts → AreStill ts
halt_still request = call_halt_so IsStill (λ x seen. tt) (λ x names. tt) (λ x place piece. tt) request
    (λ rules clock halt us h. halts_so IsStill (λ x seen. tt) (λ x names. tt) (λ x place piece short. tt) (λ x now rs. tt) tt request.settings.debug request.settings.state rules clock (asked_in request) halt us h)

-- a dry one only looks
pub halt_sights : (request : Request) (zone : Zone) (seconds : ℤ) (outcome : Outcome) (ts : List Entry) → request.settings.debug ≡ true → CallHalts request zone seconds outcome ts → AreSights ts
halt_sights request zone seconds outcome ts dry = call_halt_so IsSight (λ x seen. tt) (λ x names. tt) (λ x place piece. tt) request
    (λ rules clock halt us h. halted_so IsSight (λ x seen. tt) (λ x names. tt) (λ x place piece short. tt) request.settings.state rules clock (asked_in request) halt us
    (subst (λ (b : Bool). Halts b request.settings.state rules clock (asked_in request) halt us) dry h)) zone seconds outcome ts

-- ---- a call that came to its plan

module _ (P : Entry → Type 0) (look : (x : Path) (seen : Option Seen) → P (entry.Look x seen)) (list : (x : Path) (names : List (List ℕ)) → P (entry.List x names)) (reads : (x : Path) (place : ℕ) (piece : List ℕ) → P (entry.Reads x place piece)) where
  -- what comes before its run
  pub front_so : (request : Request) (zone : Zone) (seconds : ℤ) (c : Came) → ShowsCame request zone seconds c → Each P (c.of_clock ++ c.of_confs)
  front_so request zone seconds c s = each_append P c.of_clock c.of_confs (zone_so P look reads zone s.clock.text c.of_clock s.clock.shows) (all_so P look list (λ x from piece le. reads x from piece) request.confs c.meaning c.of_confs s.confs.read)

  -- all that a dry one leaves
  pub dry_so : (request : Request) (zone : Zone) (seconds : ℤ) (c : Came) → request.settings.debug ≡ true → ShowsCame request zone seconds c → Each P (call_entries request c)
  dry_so request zone seconds c dry s = subst (Each P) (append_assoc c.of_clock c.of_confs _)
      (each_append P (c.of_clock ++ c.of_confs) (run_entries request.settings.debug request.settings.state c.clock c.rules c.work) (front_so request zone seconds c s)
      (subst (λ (b : Bool). Each P (run_entries b request.settings.state c.clock c.rules c.work)) (sym dry)
      (saw_so P look list (λ x place piece short. reads x place piece) request.settings.state c.rules.sets c.work.saw c.work.dir c.work.reads c.work.looks
      (subst (λ (b : Bool). ShowsSaw b request.settings.state c.rules.sets c.work.saw c.work.dir c.work.reads c.work.looks) dry s.confs.work.seen))))

pub front_sights : (request : Request) (zone : Zone) (seconds : ℤ) (c : Came) → ShowsCame request zone seconds c → AreSights (c.of_clock ++ c.of_confs)
front_sights = front_so IsSight (λ x seen. tt) (λ x names. tt) (λ x place piece. tt)

pub front_quiet : (request : Request) (zone : Zone) (seconds : ℤ) (c : Came) → ShowsCame request zone seconds c → AreQuiet (c.of_clock ++ c.of_confs)
front_quiet = front_so IsQuiet (λ x seen. (tt, refl)) (λ x names. (tt, refl)) (λ x place piece. (tt, refl))

pub dry_quiet : (request : Request) (zone : Zone) (seconds : ℤ) (c : Came) → request.settings.debug ≡ true → ShowsCame request zone seconds c → AreQuiet (call_entries request c)
dry_quiet = dry_so IsQuiet (λ x seen. (tt, refl)) (λ x names. (tt, refl)) (λ x place piece. (tt, refl))

-- ---- a dry call

ends_sights : (request : Request) (zone : Zone) (seconds : ℤ) (plan : Option Plan) (outcome : Outcome) (came : Option Came) (ts : List Entry) → request.settings.debug ≡ true → CallEnds request zone seconds plan outcome came ts → AreSights ts
ends_sights request zone seconds plan outcome came ts dry (halted none lost h) = halt_sights request zone seconds outcome ts dry h
ends_sights request zone seconds plan outcome came ts dry (called c some s e is) = subst AreSights (sym is) (dry_so IsSight (λ x seen. tt) (λ x names. tt) (λ x place piece. tt) request zone seconds c dry s)

call_sights : (here : Path) (words : List (List ℕ)) (zone : Zone) (seconds : ℤ) (request : Request) (plan : Option Plan) (outcome : Outcome) (came : Option Came) (ts : List Entry) → AskFor here words request → request.settings.debug ≡ true → CallShows here words zone seconds plan outcome came ts → AreSights ts
call_sights here words zone seconds request plan outcome came ts asks dry (not_read none lost which empty) = subst AreSights (sym empty) tt
call_sights here words zone seconds request plan outcome came ts asks dry (read other asked e) = ends_sights request zone seconds plan outcome came ts dry (subst (λ (r : Request). CallEnds r zone seconds plan outcome came ts) (same_request here words other request asked asks) e)

pub left_dry : (here : Path) (words : List (List ℕ)) (zone : Zone) (seconds : ℤ) (request : Request) (plan : Option Plan) (outcome : Outcome) (came : Option Came) {o n : Option Journal} → AskFor here words request → request.settings.debug ≡ true → Left (CallShows here words zone seconds plan outcome came) o n → Left AreSights o n
left_dry here words zone seconds request plan outcome came asks dry l = left_as l (λ ts h. call_sights here words zone seconds request plan outcome came ts asks dry h)
