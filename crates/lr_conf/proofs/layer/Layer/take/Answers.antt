use Rattle.lr_conf.specs.Meaning.{Read}
use Rattle.lr_conf.specs.Internal.Draft.{file_of_draft}
use Rattle.lr_conf.proofs.Limits.{behind_line}
use Rattle.lr_conf.proofs.layer.Layer.take.Goals as goal

pub invariant_of-self : goal.invariant_of-self
invariant_of-self c =
    let old = c.args.self.now.draft in
    let file = file_of_draft old in
    record { limits = behind_line old c.take.new.self file (Read file c.args.item) c.take.result c.take.ensures.means c.args.self.now.limits }
