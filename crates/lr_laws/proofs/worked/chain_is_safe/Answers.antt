use Rattle.lr_laws.proofs.Example.{chain_steady, chain_safe, resumed_safe, without_effect_safe, with_effect_safe}
use Rattle.lr_laws.proofs.Revived.{resumed_steady, without_effect_steady, with_effect_steady}
use Rattle.lr_laws.proofs.worked.chain_is_safe.Goals as goal

pub returns-clause-steady : goal.returns-clause-steady
returns-clause-steady c = chain_steady

pub returns-clause-safe : goal.returns-clause-safe
returns-clause-safe c = chain_safe

pub returns-clause-resumed_steady : goal.returns-clause-resumed_steady
returns-clause-resumed_steady c = resumed_steady

pub returns-clause-resumed_safe : goal.returns-clause-resumed_safe
returns-clause-resumed_safe c = resumed_safe

pub returns-clause-without_effect_steady : goal.returns-clause-without_effect_steady
returns-clause-without_effect_steady c = without_effect_steady

pub returns-clause-without_effect_safe : goal.returns-clause-without_effect_safe
returns-clause-without_effect_safe c = without_effect_safe

pub returns-clause-with_effect_steady : goal.returns-clause-with_effect_steady
returns-clause-with_effect_steady c = with_effect_steady

pub returns-clause-with_effect_safe : goal.returns-clause-with_effect_safe
returns-clause-with_effect_safe c = with_effect_safe
