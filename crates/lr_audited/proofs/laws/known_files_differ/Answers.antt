use Rattle.lr_audited.proofs.Differing.{paths_differ}
use Rattle.lr_audited.proofs.laws.known_files_differ.Goals as goal

pub returns : goal.returns
returns c = paths_differ
