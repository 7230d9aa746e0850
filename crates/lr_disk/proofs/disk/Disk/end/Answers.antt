use Rattle.std.proofs.Common.{◌≡◌, true, sym, ap, subst, ◌∙◌, ◌++◌, [], ◌∷◌}
use Rattle.lr_host.specs.World.{world, past}
use Rattle.lr_disk.proofs.JournalLemmas.{ended}
use Rattle.lr_disk.proofs.disk.Disk.end.Goals as goal

pub invariant_of-self : goal.invariant_of-self
invariant_of-self c =
    let e = c.in-Err.ensures in
    ended c.self.inside.state c.self.inside.journal c.add_in_room.new.entries _ _ _ _ c.self.invariant (subst (λ k. (world (past k)).running ≡ true) (sym c.self.view_is) c.requires) (c.add_in_room.ensures.entries ∙ (ap (λ es. es ++ c.in-Err.entry ∷ []) e.1 ∙ ap (λ x. c.self.inside.journal.entries ++ x ∷ []) e.0)) c.add_in_room.ensures.empty

pub invariant_of-self-in_default : goal.invariant_of-self-in_default
invariant_of-self-in_default c = ended c.self.inside.state c.self.inside.journal c.add-added.new.entries _ _ _ _ c.self.invariant (subst (λ k. (world (past k)).running ≡ true) (sym c.self.view_is) c.requires) c.in_default.ensures c.self.invariant.empty
