use Rattle.std.proofs.Common.{refl}
use Rattle.lr_disk.proofs.StateLemmas.{shows_kept, same_names}
use Rattle.lr_disk.proofs.prepare.prepare_attach.Goals as goal

pub returns-clause-same : goal.returns-clause-same
returns-clause-same c = λ w shows.
    let drawn = c.prepare_draw.ensures.same w shows in
    shows_kept c.prepare_draw.new.state _ w drawn (same_names c.prepare_draw.new.state w drawn) refl c.make_hold.ensures.same refl
