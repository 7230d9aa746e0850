use Rattle.lr_conf.specs.Internal.Draft.{file_of_draft}
use Rattle.lr_conf.proofs.Limits.{behind_end}
use Rattle.lr_conf.proofs.layer.Layer.close_file.Goals as goal

pub invariant_of-self : goal.invariant_of-self
invariant_of-self c =
    let old = c.args.self.now.draft in
    record { limits = behind_end old c.close_file.new.self (file_of_draft old) c.close_file.result c.close_file.ensures.means c.args.self.now.limits }
