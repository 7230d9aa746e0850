use Rattle.std.proofs.Common.{ap, arith, rules}
use Rattle.std.specs.Prelude.{filter}
use Rattle.lr_host.specs.Steps.{is_naming}
use Rattle.lr_host.proofs.Left.{can_stay}
use Rattle.lr_cat.proofs.Putting.{passes_first, passes_more, passes_end, passes_failed, passes_out, passes_long}
use Rattle.lr_cat.proofs.texts.put_text.Goals as goal

pub loop-place-init : goal.loop-place-init
loop-place-init g c = record { passes = passes_first c.args.path.now _ _; can = c.requires.file; room = c.requires.room; short = c.requires.short; within = omega arith; counts = search rules; puts = omega arith }

pub returns-in_default-clause-stopped : goal.returns-in_default-clause-stopped
returns-in_default-clause-stopped g c = passes_failed c.args.path.now c.loop-place.place c.loop-place.invariant.passes c.in_default.ensures.told

pub returns-then-count-eq0-clause-told : goal.returns-then-count-eq0-clause-told
returns-then-count-eq0-clause-told g c = passes_end c.args.path.now c.loop-place.place c.in-Ok.count c.read.new.into (search rules) c.loop-place.invariant.passes c.in-Ok.ensures.told

pub returns-in_default-put_one-clause-stopped : goal.returns-in_default-put_one-clause-stopped
returns-in_default-put_one-clause-stopped g c = passes_out c.args.path.now c.loop-place.place c.in-Ok.count c.read.new.into c.in-Ok.ensures.bound (search rules) c.loop-place.invariant.passes c.in-Ok.ensures.told c.put_one.ensures.part

pub loop-place-preserved : goal.loop-place-preserved
loop-place-preserved g c = record {
  passes = passes_more c.args.path.now c.loop-place.place c.in-Ok.count c.read.new.into c.in-Ok.ensures.bound (search rules) c.loop-place.invariant.passes c.in-Ok.ensures.told c.in-Ok-put_one.ensures.whole;
  can = can_stay c.loop-place.invariant.can c.in-Ok.ensures.told (λ ts t. ap (filter is_naming) t);
  room = omega (arith, c.read.auto.into, c.loop-place.invariant.room);
  short = omega (arith, c.read.auto.into, c.loop-place.invariant.short);
  within = omega (arith, c.loop-place-test.true, c.in-Ok.ensures.bound, c.read.auto.into, c.loop-place.invariant.short);
  counts = search rules;
  puts = omega (arith, c.loop-place.invariant.puts, c.put_one.ensures.counts);
}

pub returns-clause-stopped : goal.returns-clause-stopped
returns-clause-stopped g c = passes_long c.args.path.now c.loop-place.place (omega (arith, c.loop-place-test.false)) c.loop-place.invariant.passes
