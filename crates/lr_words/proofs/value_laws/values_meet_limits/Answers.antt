use Rattle.lr_words.proofs.ValueLimits.{number_meets, count_meets, weekday_meets, size_meets, mode_meets}
use Rattle.lr_words.proofs.value_laws.values_meet_limits.Goals as goal

pub returns-clause-number : goal.returns-clause-number
returns-clause-number c word said h = number_meets word said h

pub returns-clause-count : goal.returns-clause-count
returns-clause-count c word said h = count_meets word said h

pub returns-clause-weekday : goal.returns-clause-weekday
returns-clause-weekday c word said h = weekday_meets word said h

pub returns-clause-size : goal.returns-clause-size
returns-clause-size c word said h = size_meets word said h

pub returns-clause-mode : goal.returns-clause-mode
returns-clause-mode c word said h = mode_meets word said h
