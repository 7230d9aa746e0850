use Rattle.lr_copy.proofs.Pieces.{shows}
use Rattle.lr_copy.proofs.laws.copies_take_what_they_read.Goals as goal

pub returns : goal.returns
returns c = λ from to bytes owed ts h. shows from to bytes owed ts h
