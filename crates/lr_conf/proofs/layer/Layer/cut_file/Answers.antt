use Rattle.lr_conf.specs.Meaning.{Cut}
use Rattle.lr_conf.proofs.Limits.{behind_silent}
use Rattle.lr_conf.proofs.layer.Layer.cut_file.Goals as goal

pub invariant_of-self : goal.invariant_of-self
invariant_of-self c = record { limits = behind_silent c.args.self.now.draft c.cut_file.new.self Cut c.cut_file.ensures.means c.args.self.now.limits }
