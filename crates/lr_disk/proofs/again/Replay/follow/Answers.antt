use Rattle.std.proofs.Common.{sym, subst}
use Rattle.lr_rules.proofs.Results.{on_err}
use Rattle.lr_host.specs.World.{effect}
use Rattle.lr_disk.specs.State.{ShowsWorld}
use Rattle.lr_disk.proofs.again.Replay.follow.Goals as goal

pub invariant_of-self : goal.invariant_of-self
invariant_of-self c = (c.self.invariant.0, c.prepare.ensures.same c.self.invariant.0 c.self.invariant.1)

pub returns-in_err-prepare-clause-err : goal.returns-in_err-prepare-clause-err
returns-in_err-prepare-clause-err c = on_err c.from_residual.result _ (λ w shows. c.prepare.ensures.same w (subst (λ s. ShowsWorld s w) (sym c.self.view_is) shows))

pub apply-requires-clause-tree : goal.apply-requires-clause-tree
apply-requires-clause-tree c = (c.prepare.ensures.same c.self.invariant.0 c.self.invariant.1).tree

pub invariant_of-self-2 : goal.invariant_of-self-2
invariant_of-self-2 c = (effect c.self.invariant.0 c.args.entry.now, c.apply.ensures c.self.invariant.0 (c.prepare.ensures.same c.self.invariant.0 c.self.invariant.1))

pub returns-clause-ok : goal.returns-clause-ok
returns-clause-ok c = λ w shows. c.apply.ensures w (c.prepare.ensures.same w (subst (λ s. ShowsWorld s w) (sym c.self.view_is) shows))
