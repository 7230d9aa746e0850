-- What a call saw is true of the disk.
use Rattle.std.proofs.Common.{◌≡◌, List, ◌++◌, reverse, Option, Some, sym, ap, ◌∙◌, subst, append_assoc}
use Rattle.std.specs.Prelude.{ℤ}
use Rattle.std.proofs.lemmas.List.{reverse-append, reverse-reverse}
use Rattle.std.proofs.lemmas.Option.{none-some, same_Some}
use Rattle.lr_host.specs.declared.entry.Entry.{Entry}
use Rattle.lr_host.specs.declared.journal.Journal.{Journal}
use Rattle.lr_host.specs.Lists.{IsIn}
use Rattle.lr_host.specs.Opening.{IsJournal}
use Rattle.lr_host.specs.Quiet.{AreQuiet, ChangeNothing}
use Rattle.lr_host.specs.Told.{Left, Made, WhereTold, not_told, is_told}
use Rattle.lr_host.specs.World.{Past, past}
use Rattle.lr_host.proofs.Lists.{in_back}
use Rattle.lr_host.proofs.Made.{Cut, cut}
use Rattle.lr_host.proofs.Quiet.{quiet_both, quiet_still, still_in_order}
use Rattle.lr_due.specs.declared.tz.Zone.{Zone}
use Rattle.lr_include.proofs.AllQuiet.{reads_quiet}
use Rattle.lr_looks.specs.Sights.{WordSight}
use Rattle.lr_laws_looks.specs.True.{AreTrue}
use Rattle.lr_laws_looks.proofs.All.{looks_true}
use Rattle.lr_clock.specs.Came.{WhereCame}
use Rattle.lr_report.specs.declared.outcome.Outcome.{Outcome}
use Rattle.lr_clock.proofs.Quiet.{clock_quiet}
use Rattle.lr_audited.specs.declared.line.Audit.{Audit}
use Rattle.lr_audit.specs.declared.words.Wanted.{Wanted}
use Rattle.lr_audit.specs.Came.{Came, call_entries, ShowsCame, CallEnds, no_clock, no_memory, audited}
use Rattle.lr_audit.specs.Truth.{AreTrueFiles, SawTruly}
use Rattle.lr_audit.proofs.Directories.{dirs_have_paths}
use Rattle.lr_audit.proofs.Still.{came_quiet}
use Rattle.lr_audit.proofs.Truly.{true_files}

module _ (w : Wanted) (zone : Zone) (seconds : ℤ) (c : Came) (p q : Past) (es : List Entry) (m : Made p es q) (journal : IsJournal p) (joined : reverse es ≡ call_entries c) (s : ShowsCame w zone seconds c) where
  abbrev front : List Entry
  front = c.of_clock ++ c.of_confs

  front_quiet : AreQuiet front
  front_quiet = quiet_both c.of_clock c.of_confs (clock_quiet zone seconds c.clock c.of_clock s.clock) (reads_quiet w.confs c.meaning c.of_confs s.confs.read)

  abbrev before : List Entry
  before = front ++ c.of_looks

  parts : reverse es ≡ before ++ c.of_files
  parts = joined ∙ (sym (append_assoc c.of_clock c.of_confs (c.of_looks ++ c.of_files)) ∙ sym (append_assoc front c.of_looks c.of_files))

  two : Cut p q (reverse c.of_files) (reverse before)
  two = cut p q es (reverse c.of_files) (reverse before) (sym (reverse-reverse es) ∙ (ap reverse parts ∙ reverse-append before c.of_files)) m

  looks : AreTrue c.rules.sets c.words c.looks.sets p two.mid
  looks = subst (λ (ws : List WordSight). AreTrue c.rules.sets ws c.looks.sets p two.mid) (sym s.confs.looks.words_are)
      (looks_true c.rules c.looks.sets c.look_faults front c.of_looks (reverse before) p two.mid s.confs.looks.shown journal two.first (reverse-reverse before) front_quiet)

  still : ChangeNothing es
  still = still_in_order es (quiet_still (reverse es) (subst AreQuiet (sym joined) (came_quiet w zone seconds c s)))

  files : AreTrueFiles c.dirs c.files c.file_faults p q
  files = true_files p q es m journal still c.dirs s.confs.saw.found c.file_faults c.of_files (λ e i. subst (IsIn e) (sym parts) (in_back e before c.of_files i)) s.confs.saw.shown c.files
      (dirs_have_paths c.rules.sets c.looks c.look_faults c.of_looks c.dirs s.confs.looks.shown s.confs.looks.kept_are s.confs.saw.are_dirs) s.confs.saw.order.same

  pub came_truly : SawTruly c p q
  came_truly = record { looked = two.mid; looks = looks; files = files }

pub ends_truly : (w : Wanted) (zone : Zone) (seconds : ℤ) (audit : Option Audit) (said : Outcome) (came : Option Came) (o n : Option Journal) → WhereTold o IsJournal → Left (CallEnds w zone seconds audit said came) o n → WhereCame came o n (λ c j k. SawTruly c (past j) (past k))
ends_truly w zone seconds audit said came _ _ disk not_told = λ c j k is told later. absurd (none-some j told)
ends_truly w zone seconds audit said came _ _ disk (is_told {j = j} {k = k} {es = es} m h) = λ c before after is told later.
    subst (λ (b : Journal). SawTruly c (past b) (past after)) (same_Some j before told) (subst (λ (a : Journal). SawTruly c (past j) (past a)) (same_Some k after later) (by h c is))
  where
    by : CallEnds w zone seconds audit said came (reverse es) → (c : Came) → came ≡ Some c → SawTruly c (past j) (past k)
    by (no_clock f none a e l) c is = absurd (none-some c (sym none ∙ is))
    by (no_memory none a e l) c is = absurd (none-some c (sym none ∙ is))
    by (audited d some a e s t) c is = subst (λ (x : Came). SawTruly x (past j) (past k)) (same_Some d c (sym some ∙ is)) (came_truly w zone seconds d (past j) (past k) es m disk t s)
