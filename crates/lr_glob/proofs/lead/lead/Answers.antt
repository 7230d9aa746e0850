use Rattle.std.proofs.Common.{[], ◌∷◌, ◌++◌, take, sym, ap, ◌∙◌, rules}
use Rattle.std.proofs.lemmas.List.{take_more}
use Rattle.lr_glob.proofs.Leading.{led_none, led_more, not_led, cut_at}
use Rattle.lr_glob.proofs.lead.lead.Goals as goal

pub loop-part-init : goal.loop-part-init
loop-part-init g c = record { told = led_none c.args.start.items _; counts = search rules }

pub returns-in-Err-clause-stopped : goal.returns-in-Err-clause-stopped
returns-in-Err-clause-stopped g c = not_led (take c.loop-part.part-index c.args.parts.now) c.args.parts.now _ c.part-item.result c.args.start.items c.loop-part.dirs.items c.in-Err.stop
    (cut_at c.args.parts.now c.loop-part.part-index c.part-item.result c.part-item.is c.loop-part-test.true) c.loop-part.invariant.told c.in-Err.ensures.stopped

pub loop-part-preserved : goal.loop-part-preserved
loop-part-preserved g c = record {
  told = led_more (take c.loop-part.part-index c.args.parts.now) _ c.part-item.result c.args.start.items c.loop-part.dirs.items c.in-Ok.paths.items
      (take_more c.args.parts.now c.loop-part.part-index c.part-item.result c.loop-part-test.true ∙ ap (λ x. take c.loop-part.part-index c.args.parts.now ++ x ∷ []) (sym c.part-item.is)) c.loop-part.invariant.told c.in-Ok.ensures.told;
  counts = search rules;
}
