use Rattle.std.proofs.Common.{◌<◌, length, bytes_eq, sym, ap, ◌∙◌, arith}
use Rattle.lr_host.specs.declared.thing.Thing.TheVariants as thing
use Rattle.lr_disk.specs.Pairs.{keys, with_value}
use Rattle.lr_disk.specs.Names.{named_in}
use Rattle.lr_disk.proofs.PairLemmas.{set_is, keys_set, bytes_tell}
use Rattle.lr_disk.proofs.names.set_name.Goals as goal

pub returns-then-is-clause-set : goal.returns-then-is-clause-set
returns-then-is-clause-set c = λ x.
    let within : c.loop-i.i < length c.loop-i.names = omega arith in
    set_is bytes_eq bytes_tell thing.Nothing c.loop-i.names c.loop-i.i _ c.args.path.now c.args.thing x within c.loop-i.invariant.new (sym c.is.ensures.test ∙ c.if-is.true)
    ∙ ap (λ ns. with_value bytes_eq (named_in ns) c.args.path.now c.args.thing x) c.loop-i.invariant.same

pub returns-then-is-clause-keys : goal.returns-then-is-clause-keys
returns-then-is-clause-keys c =
    let within : c.loop-i.i < length c.loop-i.names = omega arith in
    keys_set c.loop-i.names c.loop-i.i _ c.args.thing within ∙ ap keys c.loop-i.invariant.same
