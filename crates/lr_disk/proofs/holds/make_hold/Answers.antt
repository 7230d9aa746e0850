use Rattle.std.proofs.Common.{◌≡◌, ◌<◌, length, true, ◌∙◌, ap, subst, arith, None, nat_eq}
use Rattle.lr_disk.specs.State.{hold_in, has_writer}
use Rattle.lr_disk.proofs.PairLemmas.{value_of_last, has_at, has_last, numbers_tell}
use Rattle.lr_disk.proofs.holds.make_hold.Goals as goal

pub returns-clause-same : goal.returns-clause-same
returns-clause-same c = λ v. ap (λ hs. hold_in hs v) c.in_ok-push.ensures.items ∙ value_of_last nat_eq None c.args.holds.now.items _ v

pub returns-clause-here : goal.returns-clause-here
returns-clause-here c = ap (λ hs. has_writer hs c.args.writer) c.in_ok-push.ensures.items ∙ has_last nat_eq numbers_tell c.args.holds.now.items c.args.writer None

pub returns-then-pair-writer-clause-here : goal.returns-then-pair-writer-clause-here
returns-then-pair-writer-clause-here c =
    let within : c.loop-pair.pair-index < length c.as_slice-pair-items.result.now = omega arith in
    subst (λ hs. has_writer hs c.args.writer ≡ true) c.as_slice-pair-items.ensures.value
    (has_at nat_eq c.as_slice-pair-items.result.now c.loop-pair.pair-index (0, None) c.args.writer within ((numbers_tell _ _).1 c.if-pair-writer.true))
