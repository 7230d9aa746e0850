use Rattle.std.proofs.Common.{refl, subst, sym, arith}
use Rattle.lr_host.specs.World.{world, past, effect}
use Rattle.lr_host.specs.Fits.{Fits}
use Rattle.lr_disk.specs.State.{ShowsWorld}
use Rattle.lr_disk.proofs.JournalLemmas.{entered_disk, readied}
use Rattle.lr_disk.proofs.disk.Disk.enter.Goals as goal

pub invariant_of-self : goal.invariant_of-self
invariant_of-self c = readied c.self.inside.state c.make_ready.new.state c.self.inside.journal c.self.inside.journal.entries _ _ _ _ c.self.invariant refl c.make_ready.ensures.same c.make_ready.ensures.len c.make_ready.ensures.wider

pub invariant_of-self-in_err-add : goal.invariant_of-self-in_err-add
invariant_of-self-in_err-add c = readied c.self.inside.state c.make_ready.new.state c.self.inside.journal c.add.new.entries _ _ _ _ c.self.invariant c.in_err-add.ensures.1 c.make_ready.ensures.same c.make_ready.ensures.len c.make_ready.ensures.wider

pub apply-requires-clause-tree : goal.apply-requires-clause-tree
apply-requires-clause-tree c = (c.make_ready.ensures.same (world (past c.self.inside.journal)) c.self.invariant.shows).tree

pub invariant_of-self-2 : goal.invariant_of-self-2
invariant_of-self-2 c =
    entered_disk c.self.inside.state c.apply.new.state c.self.inside.journal c.add.new.entries c.args.entry _ _ _ _ _ c.self.invariant (subst (λ k. Fits (world (past k)) c.args.entry) (sym c.self.view_is) c.requires) c.in_ok-add.ensures
    (subst (λ e. ShowsWorld c.apply.new.state (effect (world (past c.self.inside.journal)) e)) (c.newest.ensures c.self.inside.journal.entries c.args.entry c.in_ok-add.ensures)
    (c.apply.ensures (world (past c.self.inside.journal)) (c.make_ready.ensures.same _ c.self.invariant.shows)))
    c.make_ready.ensures.len (let b = c.len-count.ensures in omega arith) c.in-Ok.ensures.room
