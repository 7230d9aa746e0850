-- What the faults of a run tell that its acts met.
use Rattle.std.specs.Prelude.{◌≡◌, List}
use Rattle.lr_rules.specs.declared.fault.Fault.{Fault}
use Rattle.lr_rules.specs.declared.fault.Fault.TheVariants as fault
use Rattle.lr_rules.specs.declared.path.Path.{Path}
use Rattle.lr_host.specs.Counted.{calls_in, bad_scripts_in}
use Rattle.lr_host.specs.Lists.{IsIn}
use Rattle.lr_run.specs.Copied.{NoneOfCopy}

-- none tells that another kind of thing stood at the path of one of these directories
abbrev pub IsNoOther : List Path → List Fault → Type 0
IsNoOther dirs faults = (dir : Path) → IsIn dir dirs → IsIn (fault.NotFile dir) faults → ⊥

-- By these faults of its own, a run whose plan makes these directories met nothing that stopped its acts: none tells of a call that
-- failed, of a program that ended badly, of a copy that broke off, or that a directory couldn't be made since something else had
-- its path.
pub record MetNothing (dirs : List Path) (faults : List Fault) : Type 0 where
  pub no_call : calls_in faults ≡ 0
  pub no_end : bad_scripts_in faults ≡ 0
  pub no_copy : NoneOfCopy faults
  pub no_other : IsNoOther dirs faults
