use Rattle.std.proofs.Common.{◌<◌, length, arith}
use Rattle.std.proofs.lemmas.Option.{slice_get-get_or}
use Rattle.lr_kept.proofs.Elements.{read_from}
use Rattle.lr_kept.proofs.Opening.{none_opened, more_opened, all_opened}
use Rattle.lr_kept.proofs.barred.bar.Goals as goal

pub loop-place-init : goal.loop-place-init
loop-place-init c = record { opened = none_opened c.args.logs.now c.args.reserved.now c.args.choices.now }

pub loop-place-preserved : goal.loop-place-preserved
loop-place-preserved c =
    let within : c.loop-place.place < length c.loop-place.choices = omega (arith, c.loop-place-test.true, c.loop-place.auto.choices, c.requires.many) in
    record {
      opened = more_opened c.args.logs.now c.args.reserved.now c.args.choices.now c.requires.begun c.loop-place.place c.index-logs-place.result
          (read_from c.args.logs.now c.loop-place.place c.index-logs-place.result c.loop-place-test.true c.index-logs-place.is)
          c.loop-place.choices _ c.opened.result (slice_get-get_or c.loop-place.choices c.loop-place.place _ within) c.opened.ensures c.loop-place.invariant.opened;
    }

pub returns : goal.returns
returns c = all_opened c.args.logs.now c.args.reserved.now c.args.choices.now c.loop-place.place c.loop-place.choices c.requires.many c.loop-place-test.false c.loop-place.invariant.opened
