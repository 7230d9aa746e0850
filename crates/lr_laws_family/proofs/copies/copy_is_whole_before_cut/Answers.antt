use Rattle.lr_laws_family.proofs.Cutting.{whole_before_cut}
use Rattle.lr_laws_family.proofs.copies.copy_is_whole_before_cut.Goals as goal

pub returns : goal.returns
returns c = whole_before_cut
