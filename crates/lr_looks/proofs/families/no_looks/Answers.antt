use Rattle.std.proofs.Common.{◌+◌, ◌∷◌, [], length, sym, ap, ◌∙◌, subst}
use Rattle.std.proofs.lemmas.List.{length-append}
use Rattle.lr_plan.specs.Planned.{CanPlan}
use Rattle.lr_looks.specs.Ready.{AreReady}
use Rattle.lr_looks.specs.Sets.{HaveLooks}
use Rattle.lr_looks.proofs.Adding.{none_more, each_none}
use Rattle.lr_looks.proofs.families.no_looks.Goals as goal

pub loop-at-init : goal.loop-at-init
loop-at-init c = record {
  none = subst (HaveLooks []) (sym c.new-sets.ensures.items) tt;
  many = ap length c.new-sets.ensures.items;
  ready = subst AreReady (sym c.new-sets.ensures.items) tt;
}

pub loop-at-preserved : goal.loop-at-preserved
loop-at-preserved c = record {
  none = subst (HaveLooks []) (sym c.in_ok-push.ensures.items) (none_more 0 c.loop-at.sets.items (record { logs = c.new.result }) c.new.ensures c.loop-at.invariant.none);
  many = ap length c.in_ok-push.ensures.items ∙ (length-append c.loop-at.sets.items (record { logs = c.new.result } ∷ []) ∙ ap (λ n. n + 1) c.loop-at.invariant.many);
  ready = subst AreReady (sym c.in_ok-push.ensures.items) (each_none CanPlan c.loop-at.sets.items (record { logs = c.new.result }) c.new.ensures c.loop-at.invariant.ready);
}
