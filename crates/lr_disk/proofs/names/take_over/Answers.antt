use Rattle.std.proofs.Common.{◌<◌, ◌≤◌, length, ap, ◌∙◌, arith}
use Rattle.lr_disk.specs.Pairs.{keys}
use Rattle.lr_disk.specs.Names.{named_in}
use Rattle.lr_disk.proofs.TakenLemmas.{taken_step, taken_all, named_taken, keys_taken}
use Rattle.lr_disk.proofs.names.take_over.Goals as goal

pub loop-i-preserved : goal.loop-i-preserved
loop-i-preserved c =
    let lt : c.loop-i.i < length c.args.names.now = omega arith in
    taken_step (named_in c.args.other.now) c.args.names.now c.loop-i.names c.loop-i.i _ c.thing_at-pair.result lt (c.thing_at-pair.ensures ∙ ap (named_in c.args.other.now) c.bytes.ensures.bytes) c.loop-i.invariant

pub returns-clause-named : goal.returns-clause-named
returns-clause-named c = λ x.
    let le : length c.args.names.now ≤ c.loop-i.i = omega arith in
    ap (λ ns. named_in ns x) (taken_all (named_in c.args.other.now) c.args.names.now c.loop-i.names c.loop-i.i le c.loop-i.invariant) ∙ named_taken c.args.other.now c.args.names.now x (c.requires x)

pub returns-clause-keys : goal.returns-clause-keys
returns-clause-keys c =
    let le : length c.args.names.now ≤ c.loop-i.i = omega arith in
    ap keys (taken_all (named_in c.args.other.now) c.args.names.now c.loop-i.names c.loop-i.i le c.loop-i.invariant) ∙ keys_taken (named_in c.args.other.now) c.args.names.now
