-- What changes no name and no byte keeps each set safe, though it begins a run.
use Rattle.lr_rules.specs.declared.rule.Way.TheVariants.{Rename}
use Rattle.lr_host.specs.declared.journal.Journal.{Journal}
use Rattle.std.specs.Prelude.{Option}
use Rattle.lr_host.specs.Opening.{IsJournal}
use Rattle.lr_host.specs.Quiet.{ChangeNothing, Quiet, here, wrote, looked}
use Rattle.lr_host.specs.Safe.{IsSafe, KeepsSafe}
use Rattle.lr_host.specs.Sets.{LogSet}
use Rattle.lr_host.specs.Steady.{IsSteady}
use Rattle.lr_host.specs.Told.{Left, not_told, is_told}
use Rattle.lr_host.specs.World.{Past, past}
use Rattle.lr_host.proofs.Quiet.{still_in_order, made_quiet, since_any, IsAny}
use Rattle.lr_laws.proofs.Stated.{writers_safe, quiet_safe}

-- behind each entry of the tool or of a writer
keeps : (s : LogSet) (p q : Past) → Quiet IsAny p q → IsJournal p → IsSafe s p → IsSteady s q → IsJournal q × IsSafe s q
keeps s p _ here journal safe steady = (journal, safe)
keeps s p _ (wrote {q = q} {e = e} more writers fits only) journal safe steady =
    let k = keeps s p q more journal safe steady.0 in ((k.0, fits), writers_safe Rename s q e (k.0, fits) k.1 writers steady)
keeps s p _ (looked {q = q} {e = e} more tools fits none) journal safe steady =
    let k = keeps s p q more journal safe steady.0 in ((k.0, fits), quiet_safe s q e (k.0, fits) k.1 (tools, none))

pub still_safe : (o n : Option Journal) → Left ChangeNothing o n → KeepsSafe o n
still_safe _ _ not_told = tt
still_safe _ _ (is_told {j = j} {k = k} {es = es} made still) = λ s journal safe steady.
    (keeps s (past j) (past k)
    (made_quiet IsAny (past j) (past k) es (since_any (past j) (past k) es made) made (still_in_order es still))
    journal safe steady).1
