use Rattle.lr_state.proofs.One.{one_answer}
use Rattle.lr_state.proofs.reading_laws.states_show_one_answer.Goals as goal

pub returns : goal.returns
returns c state size sights others ts known told a b x y = one_answer state size sights others ts known told a b x y
