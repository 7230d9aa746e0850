use Rattle.lr_conf.specs.Internal.Draft.{file_of_draft}
use Rattle.lr_conf.proofs.Took.{ended}
use Rattle.lr_conf.proofs.draft.Draft.close_file.Goals as goal

pub returns-clause-means : goal.returns-clause-means
returns-clause-means c = ended c.args.self.now c.end_file.new.self (file_of_draft c.args.self.now) c.end_file.result c.end_file.ensures
