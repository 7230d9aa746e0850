use Rattle.std.proofs.Common.{take, arith}
use Rattle.std.proofs.lemmas.List.{length-take}
use Rattle.lr_rules.proofs.Results.{on_err}
use Rattle.lr_include.proofs.Texts.{take_short}
use Rattle.lr_include.proofs.Going.{goes_failed, goes_on, goes_lacking, on_ok, short_none, short_one}
use Rattle.lr_include.proofs.part.read_on.Goals as goal

pub returns-in_default-clause-told : goal.returns-in_default-clause-told
returns-in_default-clause-told g c = λ before took. goes_failed c.args.path.now c.args.room c.args.taking.now c.requires.ready c.requires.size took c.in_default.ensures.told

pub returns-in_default-clause-only : goal.returns-in_default-clause-only
returns-in_default-clause-only g c = short_none c.args.path.now c.in_default.ensures.told

pub returns-clause-told : goal.returns-clause-told
returns-clause-told g c = on_ok c.take_in.result c.take_in.ensures (λ how b before took. goes_on c.args.path.now c.args.room c.args.taking.now c.take_in.new.taking (take c.in-Ok.count c.read.new.into) how c.requires.size
    (omega (arith, length-take c.in-Ok.count c.read.new.into, c.read.auto.into, c.in-Ok.ensures.bound, c.next_count-limit.ensures.within, take_short c.next_count-limit.result c.args.buffer.now))
    (omega (arith, length-take c.in-Ok.count c.read.new.into, c.read.auto.into, c.in-Ok.ensures.bound, c.next_count-limit.ensures.limit, c.requires.short, take_short c.next_count-limit.result c.args.buffer.now)) took c.in-Ok.ensures.told b)

pub returns-clause-lacking : goal.returns-clause-lacking
returns-clause-lacking g c = on_err c.take_in.result _ (λ before took. goes_lacking c.args.path.now c.args.room c.args.taking.now (take c.in-Ok.count c.read.new.into) c.requires.size
    (omega (arith, length-take c.in-Ok.count c.read.new.into, c.read.auto.into, c.in-Ok.ensures.bound, c.next_count-limit.ensures.within, take_short c.next_count-limit.result c.args.buffer.now))
    (omega (arith, length-take c.in-Ok.count c.read.new.into, c.read.auto.into, c.in-Ok.ensures.bound, c.next_count-limit.ensures.limit, c.requires.short, take_short c.next_count-limit.result c.args.buffer.now)) took c.in-Ok.ensures.told)

pub returns-clause-only : goal.returns-clause-only
returns-clause-only g c = short_one c.args.path.now _ (take c.in-Ok.count c.read.new.into)
    (omega (arith, length-take c.in-Ok.count c.read.new.into, c.read.auto.into, c.in-Ok.ensures.bound, c.next_count-limit.ensures.limit, c.requires.short, take_short c.next_count-limit.result c.args.buffer.now)) c.in-Ok.ensures.told
