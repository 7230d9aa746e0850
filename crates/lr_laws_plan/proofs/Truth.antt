-- What the looks of a run came to is true.
use Rattle.std.proofs.Common.{◌≡◌, Bool, List, ◌++◌, reverse, sym, subst}
use Rattle.std.proofs.lemmas.List.{reverse-reverse}
use Rattle.lr_rules.specs.declared.clock.Clock.{Clock}
use Rattle.lr_rules.specs.declared.path.Path.{Path}
use Rattle.lr_rules.specs.declared.rules.Rules.{Rules}
use Rattle.lr_host.specs.declared.entry.Entry.{Entry}
use Rattle.lr_host.specs.Opening.{IsJournal}
use Rattle.lr_host.specs.Quiet.{AreQuiet}
use Rattle.lr_host.specs.Told.{Made}
use Rattle.lr_host.specs.World.{Past}
use Rattle.lr_host.proofs.Made.{made_journal}
use Rattle.lr_looks.specs.Sights.{WordSight}
use Rattle.lr_state.proofs.Quiet.{state_quiet}
use Rattle.lr_laws.proofs.Lists.{made_prefix}
use Rattle.lr_run.specs.Saw.{ShowsStateFile, by_dir, by_none, ShowsSaw}
use Rattle.lr_run.specs.Work.{Work, run_entries, first_entries}
use Rattle.lr_laws_looks.specs.True.{AreTrue}
use Rattle.lr_laws_looks.proofs.All.{looks_true}
use Rattle.lr_laws_plan.specs.Truth.{WereTrue}
use Rattle.lr_laws_plan.proofs.Looking.{Looking, last_entries, run_looks}

-- the reading of the state changes nothing
pub file_quiet : (debug : Bool) (state : Path) (text : List _) (stale : Bool) (dir reads : List Entry) → ShowsStateFile debug state text stale dir reads → AreQuiet reads
file_quiet debug state text stale dir reads (by_dir saw t) = state_quiet state 65_536 t.sights reads t.shown
file_quiet debug state text stale dir reads (by_none dry saw empty none) = subst AreQuiet (sym none) tt

pub run_looks_true : (debug : Bool) (state : Path) (clock : Clock) (rules : Rules) (w : Work) (p q : Past) (es reads : List Entry) → Made p es q → IsJournal p → reverse es ≡ reads ++ run_entries debug state clock rules w → ShowsSaw debug state rules.sets w.saw w.dir w.reads w.looks
    → WereTrue rules.sets w.saw.words w.saw.sets (reads ++ first_entries debug state clock rules w) (w.reads ++ w.looks) p q
run_looks_true debug state clock rules w p q es reads made journal joined shows = record {
  at = l.at;
  looked = l.looked;
  since = l.since;
  between = l.between;
  until = made_prefix l.looked q (reverse (last_entries debug w)) l.until;
  are_true = subst (λ (sights : List WordSight). AreTrue rules.sets sights w.saw.sets l.at l.looked) (sym shows.sets.words_are)
      (looks_true rules w.saw.sets w.saw.faults w.reads w.looks (reverse (w.reads ++ w.looks)) l.at l.looked shows.sets.shown (made_journal p l.at (reverse (reads ++ first_entries debug state clock rules w)) l.since journal) l.between (reverse-reverse (w.reads ++ w.looks))
      (file_quiet debug state w.saw.text w.saw.stale w.dir w.reads shows.file));
}
  where
    l : Looking p q (reads ++ first_entries debug state clock rules w) (w.reads ++ w.looks) (last_entries debug w)
    l = run_looks debug state clock rules w p q es reads made joined
