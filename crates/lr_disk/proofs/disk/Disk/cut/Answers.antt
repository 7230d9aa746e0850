use Rattle.std.proofs.Common.{sym, ap, subst, ◌∙◌}
use Rattle.lr_host.specs.declared.entry.Entry.TheVariants as entry
use Rattle.lr_host.specs.World.{past}
use Rattle.lr_host.specs.Opening.{IsJournal}
use Rattle.lr_host.specs.Safe.{IsSafe}
use Rattle.lr_laws.proofs.Stated.{cut_safe}
use Rattle.lr_disk.specs.State.{with_entry}
use Rattle.lr_disk.proofs.JournalLemmas.{past_entry, on_match}
use Rattle.lr_disk.proofs.disk.Disk.cut.Goals as goal

pub returns-clause-safe : goal.returns-clause-safe
returns-clause-safe c =
    let e = entry.Cut c.args.kept.now c.args.lengths.now in
    let j = c.args.self.now in
    on_match _ _ _ c.leave.result c.leave.ensures (λ is s safe. subst (IsSafe s) (sym (ap past (is ∙ ap (with_entry j) c.in_ok-entry.ensures) ∙ past_entry j e))
    (cut_safe s (past j) e (subst (λ k. IsJournal (past k)) c.self.view_is c.self.invariant.journal) safe tt c.requires))
