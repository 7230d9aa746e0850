use Rattle.lr_copy.proofs.Endings.{part_fault}
use Rattle.lr_copy.proofs.part.part_path.Goals as goal

pub with_end-requires : goal.with_end-requires
with_end-requires c known = part_fault c.args.target.now known c.requires
