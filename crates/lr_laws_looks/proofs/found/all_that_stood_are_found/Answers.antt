use Rattle.lr_laws_looks.proofs.Stood.{stood_is_found, literal_is_found}
use Rattle.lr_laws_looks.proofs.Ordered.{found_rise}
use Rattle.lr_laws_looks.proofs.found.all_that_stood_are_found.Goals as goal

pub returns : goal.returns
returns c = record { file = stood_is_found; literal = literal_is_found; order = found_rise }
