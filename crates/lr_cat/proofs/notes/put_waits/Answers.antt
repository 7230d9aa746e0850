use Rattle.lr_cat.proofs.Answering.{not_waiting, not_waiting_part, waits_part, waits_whole}
use Rattle.lr_cat.proofs.notes.put_waits.Goals as goal

pub returns-then-not-waits-clause-whole : goal.returns-then-not-waits-clause-whole
returns-then-not-waits-clause-whole g c = not_waiting c.args.log.now c.args.waits (g.N.Sink.taken c.args.notes.now) c.if-not-waits.true

pub returns-then-not-waits-clause-part : goal.returns-then-not-waits-clause-part
returns-then-not-waits-clause-part g c = not_waiting_part c.args.log.now c.args.waits (g.N.Sink.taken c.args.notes.now) c.if-not-waits.true

pub returns-clause-whole : goal.returns-clause-whole
returns-clause-whole g c = waits_whole c.args.log.now c.bytes.result.now c.args.waits c.if-not-waits.false c.bytes.ensures.bytes c.put_three.result (g.N.Sink.taken c.args.notes.now) (g.N.Sink.taken c.put_three.new.out) c.put_three.ensures.whole

pub returns-clause-part : goal.returns-clause-part
returns-clause-part g c = waits_part c.args.log.now c.bytes.result.now c.args.waits c.if-not-waits.false c.bytes.ensures.bytes (g.N.Sink.taken c.args.notes.now) (g.N.Sink.taken c.put_three.new.out) c.put_three.ensures.part
