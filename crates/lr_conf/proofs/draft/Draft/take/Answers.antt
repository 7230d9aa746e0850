use Rattle.lr_conf.specs.Meaning.{Read}
use Rattle.lr_conf.specs.Internal.Draft.{file_of_draft}
use Rattle.lr_conf.proofs.Others.{asks_in, bans_in}
use Rattle.lr_conf.proofs.Took.{took_in}
use Rattle.lr_conf.proofs.draft.Draft.take.Goals as goal

pub returns-clause-means : goal.returns-clause-means
returns-clause-means c = took_in c.args.self.now c.take_in.new.self (file_of_draft c.args.self.now) (Read (file_of_draft c.args.self.now) c.args.item) c.take_in.result c.take_in.ensures

pub returns-clause-asks : goal.returns-clause-asks
returns-clause-asks c = asks_in c.args.self.now c.take_in.new.self (file_of_draft c.args.self.now) (Read (file_of_draft c.args.self.now) c.args.item) c.take_in.result c.take_in.ensures

pub returns-clause-bans : goal.returns-clause-bans
returns-clause-bans c = bans_in c.args.self.now c.take_in.new.self (file_of_draft c.args.self.now) (Read (file_of_draft c.args.self.now) c.args.item) c.take_in.result c.take_in.ensures
