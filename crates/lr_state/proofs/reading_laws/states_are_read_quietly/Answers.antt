use Rattle.lr_state.proofs.Quiet.{state_quiet}
use Rattle.lr_state.proofs.reading_laws.states_are_read_quietly.Goals as goal

pub returns : goal.returns
returns c state size sights ts h = state_quiet state size sights ts h
