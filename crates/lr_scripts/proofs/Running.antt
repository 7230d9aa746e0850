-- What running a program leaves.
use Rattle.std.proofs.Common.{◌≡◌, ◌≢◌, ◌⊎◌, inl, inr, ⊎_elim, pos, ap, ◌∙◌, List, [], ◌∷◌, Option}
use Rattle.lr_rules.specs.declared.path.Path.{Path}
use Rattle.lr_rules.specs.declared.text.Text.{Text}
use Rattle.lr_rules.specs.declared.fault.CallKind.{CallKind}
use Rattle.lr_rules.specs.declared.fault.Ended.{Ended}
use Rattle.lr_rules.specs.declared.fault.Ended.TheVariants as ended
use Rattle.lr_rules.specs.declared.fault.Phase.{Phase}
use Rattle.lr_host.specs.declared.entry.Entry.TheVariants as entry
use Rattle.lr_host.specs.declared.journal.Journal.{Journal}
use Rattle.lr_host.specs.Told.{Left, Are}
use Rattle.lr_host.proofs.Left.{left_as}
use Rattle.lr_scripts.specs.declared.command.Bad.TheVariants as bad
use Rattle.lr_scripts.specs.declared.command.Command.{Command}
use Rattle.lr_scripts.specs.Programs.{runs, RunRefused}

-- the entry, by the arguments that the call was given
runs_with : (command : Command) (args : List Text) (input : Option Path) → args ≡ command.args → input ≡ command.input → (end : Ended) → entry.Runs command.program args input end ≡ runs command end
runs_with command args input a i end = ap (λ xs. entry.Runs command.program xs input end) a ∙ ap (λ x. entry.Runs command.program command.args x end) i

pub ran_well : (command : Command) (args : List Text) (input : Option Path) {end : Ended} {o n : Option Journal} → args ≡ command.args → input ≡ command.input → end ≡ ended.Exit (pos 0)
    → Left (λ ts. ts ≡ entry.Runs command.program args input end ∷ []) o n → Left (Are (runs command (ended.Exit (pos 0)) ∷ [])) o n
ran_well command args input {end} a i zero l = left_as l (λ ts is. is ∙ ap (λ e. e ∷ []) (runs_with command args input a i end ∙ ap (runs command) zero))

pub ran_badly : (command : Command) (args : List Text) (input : Option Path) (phase : Phase) {end : Ended} {o n : Option Journal} → args ≡ command.args → input ≡ command.input → end ≢ ended.Exit (pos 0)
    → Left (λ ts. ts ≡ entry.Runs command.program args input end ∷ []) o n → Left (RunRefused command (bad.Script phase end)) o n
ran_badly command args input phase {end} a i not_zero l = left_as l (λ ts is. (not_zero, is ∙ ap (λ e. e ∷ []) (runs_with command args input a i end)))

pub may_have_run : (command : Command) (args : List Text) (input : Option Path) (kind : CallKind) {o n : Option Journal} → args ≡ command.args → input ≡ command.input
    → Left (λ ts. (ts ≡ []) ⊎ ((end : Ended) × (ts ≡ entry.Runs command.program args input end ∷ []))) o n → Left (RunRefused command (bad.Call kind)) o n
may_have_run command args input kind a i l = left_as l (λ ts r. ⊎_elim (λ none. inl none) (λ one. inr (one.0, one.1 ∙ ap (λ e. e ∷ []) (runs_with command args input a i one.0))) r)
