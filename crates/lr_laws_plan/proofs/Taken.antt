-- A path that no writer is attached to and that the tool gives no name isn't taken, where nothing had it, or where the tool unlinked it.
use Rattle.std.proofs.Common.{◌≡◌, ◌≢◌, ◌⊎◌, ⊎_elim, refl, subst, List, ◌++◌, Some}
use Rattle.lr_rules.specs.declared.path.Path.{Path}
use Rattle.lr_host.specs.declared.entry.Entry.{Entry}
use Rattle.lr_host.specs.declared.entry.Entry.TheVariants.{Unlinks}
use Rattle.lr_host.specs.declared.journal.Journal.{Journal}
use Rattle.lr_host.specs.declared.thing.Thing.TheVariants as thing
use Rattle.lr_host.specs.Lists.{IsIn}
use Rattle.lr_host.specs.Told.{Each, Made}
use Rattle.lr_host.specs.World.{past, world, names}
use Rattle.lr_host.proofs.Lists.{in_append}
use Rattle.lr_host.proofs.Made.{made_on}
use Rattle.lr_host.proofs.Quiet.{since_before}
use Rattle.lr_host.proofs.Each.{each_last}
use Rattle.lr_acts.specs.Taken.{SparesPath, WasTaken, at_last}
use Rattle.lr_laws_family.proofs.Weaving.{each_in}
use Rattle.lr_laws_plan.proofs.Naming.{Avoids, Spared, made_same, still_nothing, still_gone}

pub never_taken : (x : Path) (j k : Journal) (es : List Entry) → Made (past j) es (past k) → Spared x (past j) (past k) → Each (Avoids x) es → (names (world (past j)) x ≡ thing.Nothing) ⊎ IsIn (Unlinks x) es → WasTaken x (Some j) (Some k) → ⊥
never_taken x j k es m s a start (at_last {es = olds} {fs = news} p first named rest spared) = named (⊎_elim
    (λ none. still_nothing x (past j) p olds first before avoided none)
    (λ gone. ⊎_elim (λ late. absurd (each_in (SparesPath x) news (Unlinks x) spared late refl)) (λ early. still_gone x (past j) p olds first before avoided early) (in_append (Unlinks x) news olds (subst (IsIn (Unlinks x)) same gone)))
    start)
  where
    same : es ≡ news ++ olds
    same = made_same (past j) (past k) es (news ++ olds) m (made_on (past j) p (past k) olds news first rest)

    before : Spared x (past j) p
    before = since_before (λ y. y ≢ x) (past j) p (past k) olds news first rest s

    avoided : Each (Avoids x) olds
    avoided = each_last (Avoids x) news olds (subst (Each (Avoids x)) same a)
