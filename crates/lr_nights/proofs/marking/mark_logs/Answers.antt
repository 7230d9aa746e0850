use Rattle.std.proofs.Common.{◌≡◌, ◌||◌, ◌∙◌, ap, arith}
use Rattle.lr_host.specs.declared.thing.Thing.{Thing}
use Rattle.lr_host.specs.World.{names, is_file}
use Rattle.lr_family.specs.declared.family.Family.{Family}
use Rattle.lr_nights.specs.Marks.{is_marked}
use Rattle.lr_nights.proofs.Lists.{any_on, any_end}
use Rattle.lr_nights.proofs.marking.mark_logs.Goals as goal

pub loop-log-preserved : goal.loop-log-preserved
loop-log-preserved c = λ w shows g.
    let there : c.thing.result ≡ names w c.log-item.result.log = c.thing.ensures w shows ∙ ap (names w) c.log.ensures in
    any_on (λ (f : Family). is_file (names w f.log) g) c.args.logs.now c.loop-log.log-index c.log-item.result _ _ _ c.loop-log-test.true c.log-item.is (c.in_ok-mark.ensures g ∙ ap (λ (t : Thing). is_marked c.loop-log.marks.items g || is_file t g) there) (c.loop-log.invariant w shows g)

pub returns : goal.returns
returns c = λ w shows g. any_end (λ (f : Family). is_file (names w f.log) g) c.args.logs.now c.loop-log.log-index _ _ (omega arith) (c.loop-log.invariant w shows g)
