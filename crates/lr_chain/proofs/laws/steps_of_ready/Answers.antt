use Rattle.lr_chain.proofs.ReadyTurns.{steps_numbers, steps_dates}
use Rattle.lr_chain.proofs.laws.steps_of_ready.Goals as goal

pub returns-clause-numbers : goal.returns-clause-numbers
returns-clause-numbers c = steps_numbers

pub returns-clause-dates : goal.returns-clause-dates
returns-clause-dates c = steps_dates
