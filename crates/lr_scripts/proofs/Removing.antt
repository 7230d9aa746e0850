-- What a removal leaves.
use Rattle.std.proofs.Common.{◌≡◌, ◌⊎◌, inl, inr, sym, ap, subst, ◌∙◌, List, [], ◌∷◌, ◌++◌, Option, Some, None}
use Rattle.std.specs.Prelude.{filter}
use Rattle.lr_rules.specs.declared.fault.CallKind.{CallKind}
use Rattle.lr_rules.specs.declared.fault.Phase.{Phase}
use Rattle.lr_rules.specs.declared.fault.Phase.TheVariants as phase
use Rattle.lr_host.specs.declared.entry.Entry.{Entry}
use Rattle.lr_host.specs.declared.entry.Entry.TheVariants as entry
use Rattle.lr_host.specs.declared.journal.Journal.{Journal}
use Rattle.lr_host.specs.Told.{Counts, Left, Are, Can}
use Rattle.lr_host.specs.Steps.{CanAll, is_change}
use Rattle.lr_host.proofs.Left.{left_as, left_both, are_on, can_part, can_first, can_rest}
use Rattle.lr_scripts.specs.declared.command.Bad.{Bad}
use Rattle.lr_scripts.specs.declared.command.Bad.TheVariants as bad
use Rattle.lr_scripts.specs.declared.command.Command.{Command}
use Rattle.lr_scripts.specs.declared.removal.Removal.{Removal}
use Rattle.lr_scripts.specs.Programs.{runs_of, MaybeRefused, RunCause, MaybeCause}
use Rattle.lr_scripts.specs.Removals.{steps_of_removal, AtPreremove, AtMail, AtUnlink, RemovalRefused}

-- What fits behind the calls so far.
pub mail_fits : (removal : Removal) (pre mail : Option Command) {o m : Option Journal} → pre ≡ removal.preremove → mail ≡ removal.mail
    → CanAll o (steps_of_removal removal) → Left (Are (runs_of pre)) o m → CanAll m (runs_of mail)
mail_fits removal pre mail {m = m} a b can left = subst (λ c. CanAll m (runs_of c)) (sym b)
    (can_part (runs_of removal.mail) (entry.Unlinks removal.path ∷ [])
    (can_rest (runs_of removal.preremove) (runs_of removal.mail ++ entry.Unlinks removal.path ∷ []) can left (λ ts t. ap (filter is_change) (t ∙ ap runs_of a))))

pub unlink_fits : (removal : Removal) (pre mail : Option Command) {o m n : Option Journal} → pre ≡ removal.preremove → mail ≡ removal.mail
    → CanAll o (steps_of_removal removal) → Left (Are (runs_of pre)) o m → Left (Are (runs_of mail)) m n → Can n (entry.Unlinks removal.path)
unlink_fits removal pre mail a b can left further = can_first (entry.Unlinks removal.path) []
    (can_rest (runs_of removal.mail) (entry.Unlinks removal.path ∷ [])
    (can_rest (runs_of removal.preremove) (runs_of removal.mail ++ entry.Unlinks removal.path ∷ []) can left (λ ts t. ap (filter is_change) (t ∙ ap runs_of a)))
    further (λ ts t. ap (filter is_change) (t ∙ ap runs_of b)))

-- The whole.
pub removed : (removal : Removal) (pre mail : Option Command) {o m n q : Option Journal} → pre ≡ removal.preremove → mail ≡ removal.mail
    → Left (Are (runs_of pre)) o m → Left (Are (runs_of mail)) m n → Left (λ ts. ts ≡ entry.Unlinks removal.path ∷ []) n q → Left (Are (steps_of_removal removal)) o q
removed removal pre mail a b first second third =
    are_on (left_as first (λ ts t. t ∙ ap runs_of a)) (are_on (left_as second (λ ts t. t ∙ ap runs_of b)) third)

-- Where it breaks off.
cause_of : (told : Phase) (o : Option Command) (why : Bad) (before now : Counts) → MaybeCause told o why before now → RunCause told why before now
cause_of told None why before now cause = absurd cause
cause_of told (Some command) why before now cause = cause

at_preremove : (removal : Removal) (why : Bad) (ts : List Entry) (before now : Counts) → RunCause phase.Preremove why before now → AtPreremove removal why ts → RemovalRefused removal why ts
at_preremove removal (bad.Script p end) ts before now cause r =
    subst (λ (q : Phase). RemovalRefused removal (bad.Script q end) ts) (sym cause.0) (subst (λ (q : Phase). AtPreremove removal (bad.Script q end) ts) cause.0 r)
at_preremove removal (bad.Call kind) ts before now cause r =
    subst (λ (k : CallKind). RemovalRefused removal (bad.Call k) ts) (sym cause.0) (inl (subst (λ (k : CallKind). AtPreremove removal (bad.Call k) ts) cause.0 r))
at_preremove removal bad.Memory ts before now cause r = inl r

at_mail : (removal : Removal) (why : Bad) (ts : List Entry) (before now : Counts) → RunCause phase.Mail why before now → AtMail removal why ts → RemovalRefused removal why ts
at_mail removal (bad.Script p end) ts before now cause r =
    subst (λ (q : Phase). RemovalRefused removal (bad.Script q end) ts) (sym cause.0) (subst (λ (q : Phase). AtMail removal (bad.Script q end) ts) cause.0 r)
at_mail removal (bad.Call kind) ts before now cause r =
    subst (λ (k : CallKind). RemovalRefused removal (bad.Call k) ts) (sym cause.0) (inr (subst (λ (k : CallKind). AtMail removal (bad.Call k) ts) cause.0 r))
at_mail removal bad.Memory ts before now cause r = inr r

pub preremove_refused : (removal : Removal) (pre : Option Command) (why : Bad) (before now : Counts) {o n : Option Journal} → pre ≡ removal.preremove
    → MaybeCause phase.Preremove pre why before now → Left (MaybeRefused pre why) o n → Left (RemovalRefused removal why) o n
preremove_refused removal pre why before now a cause l = left_as l (λ ts r. at_preremove removal why ts before now (cause_of phase.Preremove pre why before now cause) (subst (λ c. MaybeRefused c why ts) a r))

pub mail_refused : (removal : Removal) (pre mail : Option Command) (why : Bad) (before now : Counts) {o m n : Option Journal} → pre ≡ removal.preremove → mail ≡ removal.mail
    → MaybeCause phase.Mail mail why before now → Left (Are (runs_of pre)) o m → Left (MaybeRefused mail why) m n → Left (RemovalRefused removal why) o n
mail_refused removal pre mail why before now a b cause first l =
    left_as (left_both (left_as first (λ ts t. t ∙ ap runs_of a)) (left_as l (λ ts r. subst (λ c. MaybeRefused c why ts) b r))) (λ ts r. at_mail removal why ts before now (cause_of phase.Mail mail why before now cause) r)

pub unlink_failed : (removal : Removal) (pre mail : Option Command) {o m n q : Option Journal} → pre ≡ removal.preremove → mail ≡ removal.mail
    → Left (Are (runs_of pre)) o m → Left (Are (runs_of mail)) m n → Left (λ ts. (ts ≡ []) ⊎ (ts ≡ entry.Unlinks removal.path ∷ [])) n q → Left (AtUnlink removal) o q
unlink_failed removal pre mail a b first second third =
    left_both (are_on (left_as first (λ ts t. t ∙ ap runs_of a)) (left_as second (λ ts t. t ∙ ap runs_of b))) third
