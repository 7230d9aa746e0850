-- Each log of a plan is given by a word of its rule.
use Rattle.std.proofs.Common.{◌≡◌, Bool, List, ◌++◌, reverse, sym, subst}
use Rattle.std.proofs.lemmas.List.{reverse-append, reverse-reverse}
use Rattle.lr_rules.specs.declared.clock.Clock.{Clock}
use Rattle.lr_rules.specs.declared.path.Path.{Path}
use Rattle.lr_rules.specs.declared.rules.Rules.{Rules}
use Rattle.lr_host.specs.declared.entry.Entry.{Entry}
use Rattle.lr_host.specs.Lists.{IsIn}
use Rattle.lr_host.specs.Told.{Made}
use Rattle.lr_host.specs.World.{Past}
use Rattle.lr_host.proofs.Made.{Cut, cut}
use Rattle.lr_plan.specs.Asked.{Asked}
use Rattle.lr_plan.specs.Planned.{decision}
use Rattle.lr_laws_rotations.specs.Seen.{IsLogSeen}
use Rattle.lr_laws_rotations.specs.Target.{Target, GivesLog}
use Rattle.lr_laws_rotations.proofs.Given.{Stretch, stretch}
use Rattle.lr_laws_rotations.proofs.LogSeen.{log_among}
use Rattle.lr_laws_looks.proofs.Quiet.{whole_quiet}
use Rattle.lr_laws_looks.proofs.Seen.{targets_seen}
use Rattle.lr_run.specs.Logs.{IsGivenBy, AreGivenBy}
use Rattle.lr_run.specs.Rotated.{rotated_targets}
use Rattle.lr_run.specs.Saw.{ShowsSets}
use Rattle.lr_run.specs.Work.{Work, IsPlanOf, run_entries, first_entries}
use Rattle.lr_run.proofs.Turned.{logs_are}
use Rattle.lr_laws_plan.proofs.Looking.{Looking, last_entries, run_looks}

module _ (debug : Bool) (state : Path) (asked : Asked) (clock : Clock) (rules : Rules) (w : Work) (p q : Past) (es reads : List Entry) (made : Made p es q) (joined : reverse es ≡ reads ++ run_entries debug state clock rules w)
    (shows : ShowsSets state rules.sets w.saw w.looks) (planned : IsPlanOf rules.sets w.saw clock asked w.plan) where
  l : Looking p q (reads ++ first_entries debug state clock rules w) (w.reads ++ w.looks) (last_entries debug w)
  l = run_looks debug state clock rules w p q es reads made joined

  c : Cut l.at l.looked (reverse w.looks) (reverse w.reads)
  c = cut l.at l.looked (reverse (w.reads ++ w.looks)) (reverse w.looks) (reverse w.reads) (reverse-append w.reads w.looks) l.between

  given : (t : Target) → IsLogSeen rules clock w.looks t → IsGivenBy rules.sets t
  given t s = record {
    rule = s.given.rule;
    word = s.given.word;
    among = s.given.among;
    has = s.given.has;
    gives = at.is.gives at.from at.to (reverse at.part) at.made (sym (reverse-reverse at.part));
    naming_is = s.given.naming_is;
    count_is = s.given.count_is;
    maxage_is = s.given.maxage_is;
    way_is = s.given.way_is;
  }
    where
      at : Stretch c.mid (GivesLog rules.sets s.given.rule s.given.word t.log)
      at = stretch c.mid l.looked w.looks (GivesLog rules.sets s.given.rule s.given.word t.log) (whole_quiet rules.sets w.saw.sets w.saw.faults w.looks shows.shown) c.second s.given.given

  pub logs_given : AreGivenBy rules.sets w.plan
  logs_given = subst (λ (ts : List Target). (t : Target) → IsIn t ts → IsGivenBy rules.sets t) (logs_are rules.sets clock asked w planned)
      (λ t one. given t (log_among rules clock w.looks (rotated_targets rules.sets w.saw.table clock asked w.saw.sets) (targets_seen rules w.saw.sets w.saw.faults w.looks clock (decision w.saw.table clock.now asked.force) shows.shown) t one))
