use Rattle.std.proofs.Common.{rules, ◌≡◌, ◌∙◌, ap, sym, filter}
use Rattle.std.proofs.lemmas.Result.{on_ok_weaker}
use Rattle.lr_state.specs.After.{is_among, stays, with_new}
use Rattle.lr_state.proofs.After.{none_stamped}
use Rattle.lr_state.proofs.kept.bring_up.Goals as goal

pub returns : goal.returns
returns c = on_ok_weaker c.add_all_new.result (λ (e : c.add_all_new.new.table ≡ with_new c.args.kept.now c.args.now.now c.purge.new.self). e ∙ ap (with_new c.args.kept.now c.args.now.now) (purged ∙ sym (none_stamped c.args.now.now (filter (stays c.args.kept.now c.args.now.now) c.args.table.now)))) c.add_all_new.ensures
  where
    purged : c.purge.new.self ≡ filter (stays c.args.kept.now c.args.now.now) c.args.table.now
    purged = c.purge.ensures (is_among c.args.kept.now) (λ name b h. search (rules, c.in_ok-names.ensures name.now))
