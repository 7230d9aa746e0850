use Rattle.lr_laws.proofs.DurableExamples.{settled, in_order_whole, not_synced_journal, not_synced_lost, made_since_journal, made_since_lost, too_early_journal, too_early_lost, in_place_journal, in_place_lost}
use Rattle.lr_laws.proofs.durable_worked.in_order_is_whole.Goals as goal

pub returns-clause-settled : goal.returns-clause-settled
returns-clause-settled c = settled

pub returns-clause-whole : goal.returns-clause-whole
returns-clause-whole c = in_order_whole

pub returns-clause-not_synced_journal : goal.returns-clause-not_synced_journal
returns-clause-not_synced_journal c = not_synced_journal

pub returns-clause-not_synced_lost : goal.returns-clause-not_synced_lost
returns-clause-not_synced_lost c = not_synced_lost

pub returns-clause-made_since_journal : goal.returns-clause-made_since_journal
returns-clause-made_since_journal c = made_since_journal

pub returns-clause-made_since_lost : goal.returns-clause-made_since_lost
returns-clause-made_since_lost c = made_since_lost

pub returns-clause-too_early_journal : goal.returns-clause-too_early_journal
returns-clause-too_early_journal c = too_early_journal

pub returns-clause-too_early_lost : goal.returns-clause-too_early_lost
returns-clause-too_early_lost c = too_early_lost

pub returns-clause-in_place_journal : goal.returns-clause-in_place_journal
returns-clause-in_place_journal c = in_place_journal

pub returns-clause-in_place_lost : goal.returns-clause-in_place_lost
returns-clause-in_place_lost c = in_place_lost
