use Rattle.lr_kept.proofs.Fixed.{one_choice}
use Rattle.lr_kept.proofs.laws.choice_is_fixed.Goals as goal

pub returns : goal.returns
returns c = λ logs wild reserved choices others one other. one_choice logs wild reserved choices others one other
