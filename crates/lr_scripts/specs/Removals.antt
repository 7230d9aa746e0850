-- The removal of a file: its entries, and where it breaks off.
use Rattle.std.specs.Prelude.{◌≡◌, ◌⊎◌, List, [], ◌∷◌, ◌++◌}
use Rattle.lr_rules.specs.declared.fault.CallKind.TheVariants as call
use Rattle.lr_rules.specs.declared.fault.Phase.TheVariants as phase
use Rattle.lr_host.specs.declared.entry.Entry.{Entry}
use Rattle.lr_host.specs.declared.entry.Entry.TheVariants as entry
use Rattle.lr_host.specs.Told.{Counts, Rose, Then, Are}
use Rattle.lr_scripts.specs.declared.command.Bad.{Bad}
use Rattle.lr_scripts.specs.declared.command.Bad.TheVariants as bad
use Rattle.lr_scripts.specs.declared.removal.Removal.{Removal}
use Rattle.lr_scripts.specs.Programs.{runs_of, MaybeRefused, MaybeCause}

-- the entries of a removal: of each program that there is, ended with 0, and then of the unlink
abbrev pub steps_of_removal : Removal → List Entry
steps_of_removal removal = runs_of removal.preremove ++ (runs_of removal.mail ++ entry.Unlinks removal.path ∷ [])

-- the preremove was refused
abbrev pub AtPreremove : Removal → Bad → List Entry → Type 0
AtPreremove removal why ts = MaybeRefused removal.preremove why ts

-- the preremove ended with 0 where there is one, and the mail was refused
abbrev pub AtMail : Removal → Bad → List Entry → Type 0
AtMail removal why ts = Then (Are (runs_of removal.preremove)) (MaybeRefused removal.mail why) ts

-- both ended with 0 where there are any, and the unlink failed: its entry stands or not
abbrev pub AtUnlink : Removal → List Entry → Type 0
AtUnlink removal ts = Then (Are (runs_of removal.preremove ++ runs_of removal.mail))
    (λ us. (us ≡ []) ⊎ (us ≡ entry.Unlinks removal.path ∷ [])) ts

-- What a refused removal leaves: the entries of the calls before the refused one, and what that one leaves.
abbrev pub RemovalRefused : Removal → Bad → List Entry → Type 0
RemovalRefused removal (bad.Script phase.Preremove end) ts = AtPreremove removal (bad.Script phase.Preremove end) ts
RemovalRefused removal (bad.Script phase.Mail end) ts = AtMail removal (bad.Script phase.Mail end) ts
RemovalRefused removal (bad.Script _ end) ts = ⊥
RemovalRefused removal (bad.Call call.Run) ts = AtPreremove removal (bad.Call call.Run) ts ⊎ AtMail removal (bad.Call call.Run) ts
RemovalRefused removal (bad.Call call.Unlink) ts = AtUnlink removal ts
RemovalRefused removal (bad.Call _) ts = ⊥
RemovalRefused removal bad.Memory ts = AtPreremove removal bad.Memory ts ⊎ AtMail removal bad.Memory ts

-- Why a removal is refused: for the cause of one of its programs, or since the unlink failed, and faults rose.
abbrev pub RemovalCause : Removal → Bad → Counts → Counts → Type 0
RemovalCause removal (bad.Call call.Unlink) before now = Rose before.faults now.faults
RemovalCause removal why before now = MaybeCause phase.Preremove removal.preremove why before now
    ⊎ MaybeCause phase.Mail removal.mail why before now
