use Rattle.std.proofs.Common.{rules}
use Rattle.lr_writing.proofs.synced_directories.directories_by.Goals as goal

pub returns : goal.returns
returns c = search rules
