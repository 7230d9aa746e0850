use Rattle.std.proofs.Common.{refl}
use Rattle.lr_disk.proofs.StateLemmas.{shows_kept}
use Rattle.lr_disk.proofs.prepare.prepare_directory.Goals as goal

pub returns-clause-same : goal.returns-clause-same
returns-clause-same c = λ w shows. shows_kept c.args.state.now _ w shows c.make_put.ensures.same refl (λ v. refl) refl
