use Rattle.std.proofs.Common.{ap, arith, [], take, rules, ◌+◌}
use Rattle.std.specs.Prelude.{filter}
use Rattle.lr_host.specs.Steps.{is_naming}
use Rattle.lr_host.proofs.Left.{can_stay}
use Rattle.lr_host.proofs.Appending.{none_named}
use Rattle.lr_copy.proofs.Pieces.{owes_first, owes_more, owes_none, read_broke, append_broke, too_long, copies_all}
use Rattle.lr_copy.proofs.bytes.copy_bytes.Goals as goal

pub loop-count-init : goal.loop-count-init
loop-count-init g c = record { told = owes_first c.args.from.now c.args.to.now _; read = c.requires.read; append = c.requires.append; room = c.requires.room; short = c.requires.short; within = omega arith; counts = search rules }

pub returns-in_default-clause-refused : goal.returns-in_default-clause-refused
returns-in_default-clause-refused g c = read_broke c.args.from.now c.args.to.now c.args.limit c.loop-count.copied c.loop-count.invariant.within c.loop-count.invariant.told c.in_default.ensures.told

pub returns-then-count-eq0-clause-told : goal.returns-then-count-eq0-clause-told
returns-then-count-eq0-clause-told g c = copies_all c.args.from.now c.args.to.now c.args.limit c.loop-count.copied c.in-Ok.count c.read.new.into c.loop-count.invariant.within (search rules) c.loop-count.invariant.told c.in-Ok.ensures.told

pub returns-then-count-limit-clause-refused : goal.returns-then-count-limit-clause-refused
returns-then-count-limit-clause-refused g c =
    too_long c.args.from.now c.args.to.now c.args.limit (c.loop-count.copied + c.in-Ok.count) (take c.in-Ok.count c.read.new.into) (omega (arith, c.if-count-limit.true, c.loop-count.invariant.within))
    (owes_more c.args.from.now c.args.to.now c.loop-count.copied c.in-Ok.count c.read.new.into c.in-Ok.ensures.bound (omega (arith, c.read.auto.into, c.loop-count.invariant.short)) (search rules) c.loop-count.invariant.told c.in-Ok.ensures.told)

pub append_all-requires : goal.append_all-requires
append_all-requires g c = can_stay c.loop-count.invariant.append c.in-Ok.ensures.told (λ ts t. ap (filter is_naming) t)

pub returns-in_default-append_all-clause-refused : goal.returns-in_default-append_all-clause-refused
returns-in_default-append_all-clause-refused g c =
    append_broke c.args.from.now c.args.to.now c.args.limit (c.loop-count.copied + c.in-Ok.count) (take c.in-Ok.count c.read.new.into) (omega (arith, c.if-count-limit.false, c.loop-count.invariant.within))
    (owes_more c.args.from.now c.args.to.now c.loop-count.copied c.in-Ok.count c.read.new.into c.in-Ok.ensures.bound (omega (arith, c.read.auto.into, c.loop-count.invariant.short)) (search rules) c.loop-count.invariant.told c.in-Ok.ensures.told) c.in_default-append_all.ensures.broke

pub loop-count-preserved : goal.loop-count-preserved
loop-count-preserved g c =
    let from = c.args.from.now in
    let to = c.args.to.now in
    let piece = take c.in-Ok.count c.read.new.into in record {
      told = owes_none from to (c.loop-count.copied + c.in-Ok.count) piece (owes_more from to c.loop-count.copied c.in-Ok.count c.read.new.into c.in-Ok.ensures.bound (omega (arith, c.read.auto.into, c.loop-count.invariant.short)) (search rules) c.loop-count.invariant.told c.in-Ok.ensures.told) c.in-Ok-append_all.ensures.told;
      read = can_stay (can_stay c.loop-count.invariant.read c.in-Ok.ensures.told (λ ts t. ap (filter is_naming) t)) c.in-Ok-append_all.ensures.told (λ ts t. none_named to piece ts t);
      append = can_stay (can_stay c.loop-count.invariant.append c.in-Ok.ensures.told (λ ts t. ap (filter is_naming) t)) c.in-Ok-append_all.ensures.told (λ ts t. none_named to piece ts t);
      room = omega (arith, c.read.auto.into, c.loop-count.invariant.room);
      short = omega (arith, c.read.auto.into, c.loop-count.invariant.short);
      within = omega (arith, c.if-count-limit.false, c.loop-count.invariant.within);
      counts = search rules;
    }
