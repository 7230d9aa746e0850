-- What is told of a call.
use Rattle.std.proofs.Common.{◌≡◌, ◌⊎◌, ℕ, Bool, true, false, cond, ◌&&◌, bytes_eq, List, [], ◌∷◌, map, Option, Some, None, Result, refl, sym, ◌∙◌, subst}
use Rattle.std.specs.Prelude.{ℤ, Contains, IfOk, codes}
use Rattle.std.proofs.lemmas.Option.{none-some, same_Some}
use Rattle.lr_rules.specs.declared.fault.Fault.TheVariants as fault
use Rattle.lr_rules.specs.declared.memory.Memory.{Memory}
use Rattle.lr_rules.specs.declared.path.Path.{Path}
use Rattle.lr_rules.specs.Path.{cleaned}
use Rattle.lr_rules.specs.StatePath.{can_be_state}
use Rattle.lr_rules.proofs.Bools.{first_true, second_true}
use Rattle.lr_command.specs.Words.{has_state, may_be_path, state_by}
use Rattle.lr_host.specs.declared.journal.Journal.{Journal}
use Rattle.lr_host.specs.Quiet.{AreQuiet}
use Rattle.lr_host.specs.Opening.{IsJournal}
use Rattle.lr_host.specs.Told.{Counts, Left, Rose, WhereTold}
use Rattle.lr_host.proofs.Left.{left_as, left_first}
use Rattle.lr_due.specs.declared.tz.Zone.{Zone}
use Rattle.lr_clock.specs.Clock.{IsClocked}
use Rattle.lr_report.specs.declared.outcome.Outcome.{Outcome}
use Rattle.lr_report.specs.declared.outcome.Outcome.TheVariants.{Done, BadWords, Held, OutOfMemory}
use Rattle.lr_report.specs.declared.outcome.Report.{Report}
use Rattle.lr_report.specs.Outcome.{outcome_text}
use Rattle.lr_report.specs.Puts.{Took, TookPart}
use Rattle.lr_report.specs.Reported.{AreReported}
use Rattle.lr_audited.specs.declared.line.Audit.{Audit}
use Rattle.lr_audit.specs.declared.told.Told.{Told}
use Rattle.lr_audit.specs.declared.words.Wanted.{Wanted}
use Rattle.lr_audit.specs.Came.{answer_of, audit_told, CallEnds, CallShows, not_read, read}
use Rattle.lr_audit.specs.Internal.{CameTo}
use Rattle.lr_audit.specs.Says.{said_text, with_out, PrintsAnswer, WhereDone, AuditSays}
use Rattle.lr_audit.specs.Words.{are_names, wanted, wanted_behind, wanted_by}
use Rattle.lr_audit.proofs.Answering.{line_answers, where_done, not_bad, out_rose}
use Rattle.lr_audit.proofs.Seeing.{ends_truly}
use Rattle.lr_audit.proofs.Still.{ends_quiet}

pub none_of : (o : Option Wanted) (w : Wanted) → o ≡ None → o ≡ Some w → ⊥
none_of o w none some = none-some w (sym none ∙ some)

-- the state file of what is wanted can have its path
by_fits : (here : Path) (file : Option (List ℕ)) (confs : List (List ℕ)) (w : Wanted) (b : Bool) → (has_state here file && are_names here confs) ≡ b → cond b (Some (record { state = state_by here file; confs = map (cleaned here) confs })) None ≡ Some w → can_be_state w.state ≡ true
by_fits here file confs w false e is = absurd (none-some w is)
by_fits here file confs w true e is = subst (λ (v : Wanted). can_be_state v.state ≡ true) (same_Some _ w is) (second_true (may_be_path here file) (can_be_state (state_by here file)) (first_true (has_state here file) (are_names here confs) e))

behind_fits : (here : Path) (words : List (List ℕ)) (w : Wanted) → wanted_behind here words ≡ Some w → can_be_state w.state ≡ true
behind_fits here [] w is = absurd (none-some w is)
behind_fits here (file ∷ confs) w is = by_fits here (Some file) confs w (has_state here (Some file) && are_names here confs) refl is

pub wanted_fits : (here : Path) (words : List (List ℕ)) (w : Wanted) → wanted here words ≡ Some w → can_be_state w.state ≡ true
wanted_fits here [] w is = absurd (none-some w is)
wanted_fits here (word ∷ words) w is = go (bytes_eq word (codes "-s")) is
  where
    go : (b : Bool) → cond b (wanted_behind here words) (wanted_by here None (word ∷ words)) ≡ Some w → can_be_state w.state ≡ true
    go true e = behind_fits here words w e
    go false e = by_fits here None (word ∷ words) w (has_state here None && are_names here (word ∷ words)) refl e

-- no report was answered
pub none_done : (outcome said : Outcome) (P : Report → Type 0) → outcome ≡ said → ((report : Report) → said ≡ Done report → ⊥) → WhereDone outcome P
none_done outcome said P same none = λ report e. absurd (none report (sym same ∙ e))

pub says_nothing : (here : Path) (words : List (List ℕ)) (zone : Zone) (seconds : ℤ) (outcome said : Outcome) (j : Option Journal) (counted counts : Counts) (x y : Option (List ℕ)) (low high : ℕ) → (said ≡ BadWords) ⊎ (said ≡ OutOfMemory) → with_out said ≡ said → ((report : Report) → said ≡ Done report → ⊥) → outcome ≡ said
    → TookPart (outcome_text said) x y → Took (outcome_text said) x y ⊎ Rose low high → AuditSays here words zone seconds outcome j j counted counts x y low high
says_nothing here words zone seconds outcome said j counted counts x y low high which line none same part whole = record {
  came = None;
  audit = None;
  said = said;
  shown = left_first (CallShows here words zone seconds None said None) j (not_read refl refl which refl);
  truly = λ c before after is told later. absurd (none-some c is);
  clock = λ report e. absurd (none report e);
  counted_are = λ report e. absurd (none report e);
  answers = line_answers said outcome x y low high line same part whole;
}

pub says_so : (here : Path) (words : List (List ℕ)) (zone : Zone) (s seconds : ℤ) → s ≡ seconds → (w : Wanted) (r : Result Told Memory) (outcome : Outcome) (o n : Option Journal) (counted counts : Counts) (x y : Option (List ℕ)) (low high : ℕ) → WhereTold o IsJournal → wanted here words ≡ Some w → CameTo (CallEnds w zone s (audit_told r) (answer_of r)) o n
    → IfOk r (λ told. IsClocked zone s told.notices told.faults.items) → IfOk r (λ told. AreReported told.faults.items counted counts) → PrintsAnswer (said_text (audit_told r) (answer_of r)) (answer_of r) outcome x y low high → AuditSays here words zone seconds outcome o n counted counts x y low high
says_so here words zone s seconds same w r outcome o n counted counts x y low high disk is t clocked reported answers = subst (λ (z : ℤ). AuditSays here words zone z outcome o n counted counts x y low high) same (record {
  came = t.came;
  audit = audit_told r;
  said = answer_of r;
  shown = left_as t.left (λ ts h. read w is h);
  truly = ends_truly w zone s (audit_told r) (answer_of r) t.came o n disk t.left;
  clock = where_done r (λ ns fs. IsClocked zone s ns fs) clocked;
  counted_are = where_done r (λ ns fs. AreReported fs counted counts) reported;
  answers = answers;
})

pub left_quiet : (w : Wanted) (zone : Zone) (seconds : ℤ) (audit : Option Audit) (said : Outcome) (o n : Option Journal) → CameTo (CallEnds w zone seconds audit said) o n → Left AreQuiet o n
left_quiet w zone seconds audit said o n t = left_as t.left (λ ts h. ends_quiet w zone seconds audit said t.came ts h)

pub ends_out : (r : Result Told Memory) (text : List ℕ) (outcome : Outcome) (k l : Counts) (x y : Option (List ℕ)) (low high : ℕ) → IfOk r (λ told. AreReported told.faults.items k l) → PrintsAnswer text (answer_of r) outcome x y low high → WhereDone outcome (λ report. Contains report.faults fault.Out → Rose low high)
ends_out r text outcome k l x y low high reported answers = out_rose text (answer_of r) outcome x y low high answers (λ report e. (where_done r (λ ns fs. AreReported fs k l) reported report e).no_out)

pub ends_not : (r : Result Told Memory) (text : List ℕ) (outcome : Outcome) (x y : Option (List ℕ)) (low high : ℕ) → PrintsAnswer text (answer_of r) outcome x y low high → (outcome ≡ BadWords → ⊥) × (outcome ≡ Held → ⊥)
ends_not r text outcome x y low high answers = not_bad r text outcome x y low high answers
