-- The text that a run gives its state.
use Rattle.std.specs.Prelude.{◌≡◌, ℕ, false, List}
use Rattle.lr_rules.specs.declared.path.Path.{Path}
use Rattle.lr_rules.specs.declared.clock.Clock.{Clock}
use Rattle.lr_rules.specs.declared.rules.Rules.{Rules}
use Rattle.lr_host.specs.declared.entry.Entry.{Entry}
use Rattle.lr_plan.specs.Asked.{Asked}
use Rattle.lr_plan.specs.Done.{rotated_logs}
use Rattle.lr_run.specs.Saw.{text_by}
use Rattle.lr_run.specs.Work.{Work, ShowsWork, CarriesOut, run_entries}

-- By these entries a run came to its plan and carried it out, and this is the text of the state that it saw, brought up to its
-- clock by the logs that its acts rotated.
pub record IsNewText (state : Path) (clock : Clock) (asked : Asked) (rules : Rules) (ts : List Entry) (text : List ℕ) : Type 0 where
  pub work : Work
  pub shows : ShowsWork false state rules.sets clock asked work
  pub carried : CarriesOut state clock work
  pub entries : ts ≡ run_entries false state clock rules work
  pub text_is : text ≡ text_by work.saw clock (rotated_logs work.acts.marks)
