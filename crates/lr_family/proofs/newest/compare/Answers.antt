use Rattle.std.proofs.Common.{rules}
use Rattle.lr_family.proofs.newest.compare.Goals as goal

pub returns : goal.returns
returns c = search rules
