use Rattle.std.proofs.Common.{refl, ap, map}
use Rattle.lr_disk.specs.State.{as_file}
use Rattle.lr_disk.proofs.StateLemmas.{shows_kept}
use Rattle.lr_disk.proofs.prepare.prepare_draw.Goals as goal

pub returns-in_err-make_put-clause-same : goal.returns-in_err-make_put-clause-same
returns-in_err-make_put-clause-same c = λ w shows. shows_kept c.args.state.now _ w shows c.make_put.ensures.same refl (λ v. refl) refl

pub returns-clause-same : goal.returns-clause-same
returns-clause-same c = λ w shows. shows_kept c.args.state.now _ w shows c.make_put.ensures.same (ap (map as_file) c.reserve.ensures.items) (λ v. refl) refl
