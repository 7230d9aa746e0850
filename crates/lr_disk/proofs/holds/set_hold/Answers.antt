use Rattle.std.proofs.Common.{◌<◌, length, None, nat_eq, ap, ◌∙◌, arith}
use Rattle.lr_disk.specs.Pairs.{with_value}
use Rattle.lr_disk.specs.State.{hold_in}
use Rattle.lr_disk.proofs.PairLemmas.{set_is, numbers_tell}
use Rattle.lr_disk.proofs.holds.set_hold.Goals as goal

pub returns-then-pair-writer : goal.returns-then-pair-writer
returns-then-pair-writer c = λ v.
    let within : c.loop-i.i < length c.loop-i.holds = omega arith in
    set_is nat_eq numbers_tell None c.loop-i.holds c.loop-i.i _ c.args.writer c.args.file v within c.loop-i.invariant.new ((numbers_tell _ _).1 c.if-pair-writer.true)
    ∙ ap (λ hs. with_value nat_eq (hold_in hs) c.args.writer c.args.file v) c.loop-i.invariant.same
