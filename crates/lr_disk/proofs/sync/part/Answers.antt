use Rattle.std.proofs.Common.{rules, ◌≡◌, ◌++◌, [], ap, ◌∙◌}
use Rattle.lr_disk.proofs.StepLemmas.{parted_bound, parted_rest}
use Rattle.lr_disk.proofs.sync.part.Goals as goal

pub returns-clause-bound : goal.returns-clause-bound
returns-clause-bound c =
    let none : c.pop.new.self.items ≡ [] = search rules in
    parted_bound c.args.dir.now c.args.changes.now.items c.loop-change.bound.items c.loop-change.changes.items (c.in_default.ensures.items ∙ ap (λ l. l ++ []) none) c.loop-change.invariant.bound

pub returns-clause-rest : goal.returns-clause-rest
returns-clause-rest c =
    let none : c.pop.new.self.items ≡ [] = search rules in
    parted_rest c.args.dir.now c.args.changes.now.items c.loop-change.bound.items c.loop-change.rest.items c.loop-change.changes.items (c.in_default.ensures.items ∙ ap (λ l. l ++ []) none) c.loop-change.invariant.rest
