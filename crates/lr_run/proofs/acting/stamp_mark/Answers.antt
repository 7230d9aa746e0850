use Rattle.std.proofs.Common.{◌≡◌, ◌∷◌, [], map, sym, subst}
use Rattle.lr_plan.specs.declared.mark.Mark.{Mark}
use Rattle.lr_plan.specs.Done.{rotated_logs}
use Rattle.lr_state.specs.After.{stamped}
use Rattle.lr_state.proofs.After.{none_stamped}
use Rattle.lr_run.proofs.acting.stamp_mark.Goals as goal

pub returns-in-Directory : goal.returns-in-Directory
returns-in-Directory c = subst (λ (m : Mark). c.args.table.now ≡ map (stamped (rotated_logs (m ∷ [])) c.args.now) c.args.table.now) (sym c.in-Directory.is) (sym (none_stamped c.args.now c.args.table.now))

pub returns-in-Created : goal.returns-in-Created
returns-in-Created c = subst (λ (m : Mark). c.args.table.now ≡ map (stamped (rotated_logs (m ∷ [])) c.args.now) c.args.table.now) (sym c.in-Created.is) (sym (none_stamped c.args.now c.args.table.now))
