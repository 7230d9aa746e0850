use Rattle.lr_rules.proofs.AsidePath.{aside_fault}
use Rattle.lr_rules.proofs.aside.aside_path.Goals as goal

pub with_end-requires : goal.with_end-requires
with_end-requires c known = aside_fault c.args.log.now known c.requires
