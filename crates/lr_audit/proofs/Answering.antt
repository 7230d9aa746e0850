-- What a call prints, and so answers.
use Rattle.std.proofs.Common.{◌≡◌, ◌⊎◌, inl, inr, ℕ, List, Option, None, Result, Ok, Err, OnOk, OnErr, refl, sym, ap, ◌∙◌, subst}
use Rattle.std.specs.Prelude.{Contains, IfOk}
use Rattle.lr_rules.specs.declared.fault.Fault.{Fault}
use Rattle.lr_rules.specs.declared.fault.Fault.TheVariants as fault
use Rattle.lr_rules.specs.declared.fault.Notice.{Notice}
use Rattle.lr_rules.specs.declared.memory.Memory.{Memory}
use Rattle.lr_host.specs.declared.sink.SinkFault.{SinkFault}
use Rattle.lr_host.specs.Told.{Rose}
use Rattle.lr_report.specs.declared.outcome.Outcome.{Outcome}
use Rattle.lr_report.specs.declared.outcome.Outcome.TheVariants.{BadWords, Held, OutOfMemory}
use Rattle.lr_report.specs.Outcome.{outcome_text}
use Rattle.lr_report.specs.Puts.{Took, TookPart}
use Rattle.lr_report.specs.Reported.{HasNoOut}
use Rattle.lr_report.proofs.Reported.{no_out_among, notices_in, faults_in}
use Rattle.lr_shown.specs.Puts.{Puts}
use Rattle.lr_audit.specs.declared.told.Told.{Told}
use Rattle.lr_audit.specs.Came.{answer_of, audit_told}
use Rattle.lr_audit.specs.Says.{said_text, with_out, PrintsAnswer, whole, broken_off, WhereDone}

pub report_answers : (put : Result (Unit {0}) SinkFault) (text : List ℕ) (said outcome : Outcome) (x y : Option (List ℕ)) (low high : ℕ) → Puts text put x y low high → OnOk put (outcome ≡ said) → OnErr put (outcome ≡ with_out said) → PrintsAnswer text said outcome x y low high
report_answers (Ok u) text said outcome x y low high p same out = whole same p.whole
report_answers (Err e) text said outcome x y low high p same out = broken_off out p.part p.cause

-- an outcome of one line
pub line_answers : (said outcome : Outcome) (x y : Option (List ℕ)) (low high : ℕ) → with_out said ≡ said → outcome ≡ said → TookPart (outcome_text said) x y → Took (outcome_text said) x y ⊎ Rose low high → PrintsAnswer (said_text None said) said outcome x y low high
line_answers said outcome x y low high line same part (inl took) = whole same took
line_answers said outcome x y low high line same part (inr rose) = broken_off (same ∙ sym line) part rose

pub memory_answers : (run : Result Told Memory) (e : Memory) (outcome : Outcome) (x y : Option (List ℕ)) (low high : ℕ) → run ≡ Err e → outcome ≡ OutOfMemory → TookPart (outcome_text OutOfMemory) x y → Took (outcome_text OutOfMemory) x y ⊎ Rose low high → PrintsAnswer (said_text (audit_told run) (answer_of run)) (answer_of run) outcome x y low high
memory_answers run e outcome x y low high is same part whole_ = subst (λ (r : Result Told Memory). PrintsAnswer (said_text (audit_told r) (answer_of r)) (answer_of r) outcome x y low high) (sym is) (line_answers OutOfMemory outcome x y low high refl same part whole_)

-- ---- what the answer tells

pub where_done : (r : Result Told Memory) (P : List Notice → List Fault → Type 0) → IfOk r (λ told. P told.notices told.faults.items) → WhereDone (answer_of r) (λ report. P report.notices report.faults)
where_done (Err e) P h = λ report e. absurd (cc)
where_done (Ok told) P h = λ report e. subst (λ (ns : List Notice). P ns report.faults) (ap notices_in e) (subst (λ (fs : List Fault). P told.notices fs) (ap faults_in e) h)

-- it is neither of the outcomes that aren't answered
pub not_bad : (r : Result Told Memory) (text : List ℕ) (outcome : Outcome) (x y : Option (List ℕ)) (low high : ℕ) → PrintsAnswer text (answer_of r) outcome x y low high → (outcome ≡ BadWords → ⊥) × (outcome ≡ Held → ⊥)
not_bad (Ok told) text outcome x y low high (whole same took) = ((λ e. absurd (cc)), (λ e. absurd (cc)))
not_bad (Ok told) text outcome x y low high (broken_off same part rose) = ((λ e. absurd (cc)), (λ e. absurd (cc)))
not_bad (Err w) text outcome x y low high (whole same took) = ((λ e. absurd (cc)), (λ e. absurd (cc)))
not_bad (Err w) text outcome x y low high (broken_off same part rose) = ((λ e. absurd (cc)), (λ e. absurd (cc)))

pub out_rose : (text : List ℕ) (said outcome : Outcome) (x y : Option (List ℕ)) (low high : ℕ) → PrintsAnswer text said outcome x y low high → WhereDone said (λ report. HasNoOut report.faults) → WhereDone outcome (λ report. Contains report.faults fault.Out → Rose low high)
out_rose text said outcome x y low high (broken_off same part rose) none = λ report e c. rose
out_rose text said outcome x y low high (whole same took) none = λ report e c. absurd (no_out_among report.faults (none report (sym same ∙ e)) c)
