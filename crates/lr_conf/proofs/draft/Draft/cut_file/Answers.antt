use Rattle.std.proofs.Common.{[]}
use Rattle.lr_conf.specs.Meaning.{Cut}
use Rattle.lr_conf.proofs.Took.{took_step}
use Rattle.lr_conf.proofs.draft.Draft.cut_file.Goals as goal

pub returns-clause-means : goal.returns-clause-means
returns-clause-means c = took_step c.args.self.now c.break_off.new.self Cut [] [] c.break_off.ensures
