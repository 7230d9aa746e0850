-- The parts of an audit, one behind another.
use Rattle.std.proofs.Common.{◌≡◌, List, [], ◌++◌, Option, Result, Ok, Err, OnErr, sym, ap, ◌∙◌, subst}
use Rattle.std.specs.Prelude.{IfOk}
use Rattle.std.specs.Cmp.Lexicographic.{slice_cmp}
use Rattle.std.specs.Ordering.{nat_cmp}
use Rattle.std.specs.List.Sorted.{IsPermutation, IsSortedByKey}
use Rattle.lr_rules.specs.declared.clock.Clock.{Clock}
use Rattle.lr_rules.specs.declared.fault.Fault.{Fault}
use Rattle.lr_rules.specs.declared.path.Path.{Path}
use Rattle.lr_rules.specs.declared.rule.Rule.{Rule}
use Rattle.lr_host.specs.declared.entry.Entry.{Entry}
use Rattle.lr_host.specs.declared.journal.Journal.{Journal}
use Rattle.lr_host.specs.Quiet.{AreQuiet}
use Rattle.lr_host.specs.Told.{Left}
use Rattle.lr_host.proofs.Left.{left_as}
use Rattle.lr_plan.specs.declared.looks.Looks.{Looks}
use Rattle.lr_audited.specs.declared.line.Audit.{Audit}
use Rattle.lr_audited.specs.Audits.{IsAudit}
use Rattle.lr_audit.specs.Audits.{AddsSaw, Audits}
use Rattle.lr_audit.specs.Dirs.{asked_dirs, AreDirs}
use Rattle.lr_audit.specs.Files.{ShowsDirs, AddsFiles}
use Rattle.lr_audit.proofs.Filing.{dirs_quiet}

-- the files, put in order
pub saw_told : (looks : Looks) (dirs given none found files : List Path) (f g : List Fault) (o n : Option Journal) → AreDirs (asked_dirs looks) dirs → given ≡ dirs → none ≡ [] → Left (AddsFiles (ShowsDirs given) none found f g) o n
    → IsPermutation found files → IsSortedByKey (λ path. path) (slice_cmp nat_cmp) files → Left (AddsSaw looks files f g) o n
saw_told looks dirs given none found files f g o n are same_dirs empty l same up = left_as l (λ ts h. record {
  dirs = dirs;
  own = h.said;
  faults_are = h.faults_are;
  saw = record {
    are_dirs = are;
    found = found;
    shown = subst (λ (fs : List Path). ShowsDirs dirs fs h.said ts) (sym (h.files_are ∙ ap (λ (xs : List Path). xs ++ h.own) empty)) (subst (λ (ds : List Path). ShowsDirs ds h.own h.said ts) same_dirs h.shown);
    order = record { same = same; rising = up };
  };
})

pub saw_quiet : (looks : Looks) (files : List Path) (f g : List Fault) (ts : List Entry) → AddsSaw looks files f g ts → AreQuiet ts
saw_quiet looks files f g ts a = dirs_quiet a.dirs a.saw.found a.own ts a.saw.shown

pub audits_told : {E : Type 0} (r : Result Audit E) (rules : List Rule) (looks : Looks) (clock : Clock) (mailer : Path) (files given : List Path) (f g : List Fault) (o n : Option Journal) → given ≡ files → Left (AddsSaw looks files f g) o n → IfOk r (IsAudit rules looks clock mailer given)
    → IfOk r (λ audit. Left (Audits rules looks clock mailer audit f g) o n)
audits_told (Err e) rules looks clock mailer files given f g o n same l is = tt
audits_told (Ok a) rules looks clock mailer files given f g o n same l is = left_as l (λ ts h. record { files = files; adds = h; is_audit = subst (λ (fs : List Path). IsAudit rules looks clock mailer fs a) same is })

pub saw_lost : {T E : Type 0} (r : Result T E) (looks : Looks) (files : List Path) (f g : List Fault) (o n : Option Journal) → Left (AddsSaw looks files f g) o n → OnErr r (Left AreQuiet o n)
saw_lost (Ok x) looks files f g o n l = tt
saw_lost (Err e) looks files f g o n l = left_as l (λ ts h. saw_quiet looks files f g ts h)
