-- Without scripts and mails a plan has no program, and so its acts want no memory.
use Rattle.std.proofs.Common.{◌≡◌, inl, inr, ℕ, List, [], ◌∷◌, Option, None, sym, subst}
use Rattle.lr_rules.specs.declared.clock.Clock.{Clock}
use Rattle.lr_rules.specs.declared.fault.Phase.{Phase}
use Rattle.lr_rules.specs.declared.fault.Phase.TheVariants as phase
use Rattle.lr_rules.specs.declared.path.Path.{Path}
use Rattle.lr_rules.specs.declared.rule.Rule.{Rule}
use Rattle.lr_host.specs.declared.entry.Entry.{Entry}
use Rattle.lr_scripts.specs.Commands.{script_command, mail}
use Rattle.lr_plan.specs.Asked.{Asked}
use Rattle.lr_plan.specs.declared.step.Step.{Step}
use Rattle.lr_plan.specs.Planned.{decision}
use Rattle.lr_plan.specs.Steps.{program}
use Rattle.lr_plan.specs.Cut.{IsProgram}
use Rattle.lr_acts.specs.Making.{HasProgram}
use Rattle.lr_run.specs.InternalRuns.{BrokeOff}
use Rattle.lr_run.specs.Scripts.{RunNothing}
use Rattle.lr_run.proofs.Simple.{EachStep, IsOfSteps, AreOfScripts, plan_so}

abbrev IsNoProgram : Step → Type 0
IsNoProgram s = IsProgram s → ⊥

no_program : (steps : List Step) → EachStep IsNoProgram steps → HasProgram steps → ⊥
no_program [] h p = p
no_program (s ∷ ss) h (inl p) = h.0 p
no_program (s ∷ ss) h (inr p) = no_program ss h.1 p

abbrev IsNone : Option (List ℕ) → Type 0
IsNone text = text ≡ None

none_runs : (p : Phase) (text : Option (List ℕ)) (args : List (List ℕ)) → IsNone text → EachStep IsNoProgram (program p (script_command text args))
none_runs p text args e = subst (λ (t : Option (List ℕ)). EachStep IsNoProgram (program p (script_command t args))) (sym e) tt

none_mails : (mailer : Path) (address : Option (List ℕ)) (log file : Path) → IsNone address → EachStep IsNoProgram (program phase.Mail (mail mailer address log file))
none_mails mailer address log file e = subst (λ (t : Option (List ℕ)). EachStep IsNoProgram (program phase.Mail (mail mailer t log file))) (sym e) tt

no_steps : IsOfSteps IsNoProgram IsNone
no_steps = record {
  removes = λ path h. h;
  renames = λ from to h. h;
  creates = λ path mode h. h;
  makes_dir = λ path mode h. h;
  takes = λ path mode h. h;
  copies = λ from to limit h. h;
  syncs_file = λ path h. h;
  syncs_dir = λ path h. h;
  truncates = λ path h. h;
  rotated = λ log h. h;
  runs = none_runs;
  mails = none_mails;
}

none_scripts : (rules : List Rule) → RunNothing rules → AreOfScripts IsNone rules
none_scripts [] h = tt
none_scripts (rule ∷ rules) h = (record { first = h.0.first; pre = h.0.pre; post = h.0.post; last = h.0.last; preremove = h.0.preremove; mail = h.0.mail }, none_scripts rules h.1)

-- so a run over rules that run no program doesn't break off amid its acts
pub never_broke_off : (state : Path) (rules : List Rule) (clock : Clock) (asked : Asked) (ts : List Entry) → RunNothing rules → BrokeOff state rules clock asked ts → ⊥
never_broke_off state rules clock asked ts none b = no_program _ (plan_so IsNoProgram IsNone no_steps clock asked.mailer (decision b.looked.remembered.table clock.now asked.force) rules b.looked.sets (none_scripts rules none)) b.program
