use Rattle.lr_laws_fixed.proofs.OneReading.{readings_one}
use Rattle.lr_laws_fixed.proofs.reading.visits_are_fixed.Goals as goal

pub returns : goal.returns
returns c = λ paths m n ts us vs ws g h p q e. readings_one paths m n ts us vs ws g h p q e
