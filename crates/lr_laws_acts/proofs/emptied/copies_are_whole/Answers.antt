use Rattle.lr_laws_acts.specs.Emptied.{IsJobIn}
use Rattle.lr_laws_acts.proofs.CopiesWhole.{empties_whole}
use Rattle.lr_laws_acts.proofs.emptied.copies_are_whole.Goals as goal

pub returns : goal.returns
returns c = λ jobs told later left paths. empties_whole (IsJobIn jobs) paths left
