use Rattle.lr_copy.proofs.Keeping.{renames_none}
use Rattle.lr_copy.proofs.laws.unnamed_copies_rename_nothing.Goals as goal

pub returns : goal.returns
returns c = renames_none
