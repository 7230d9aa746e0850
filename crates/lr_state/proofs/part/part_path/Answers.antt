use Rattle.lr_state.proofs.PartPath.{part_fault}
use Rattle.lr_state.proofs.part.part_path.Goals as goal

pub with_end-requires : goal.with_end-requires
with_end-requires c known = part_fault c.args.state.now known c.requires
