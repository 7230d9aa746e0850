-- The writing of the state runs no program, makes no directory and looks at nothing.
use Rattle.std.proofs.Common.{◌≡◌, ℕ, Bool, false, List, [], refl}
use Rattle.lr_rules.specs.declared.fault.Fault.{Fault}
use Rattle.lr_rules.specs.declared.path.Path.{Path}
use Rattle.lr_host.specs.declared.entry.Entry.{Entry}
use Rattle.lr_host.specs.declared.entry.Entry.TheVariants as entry
use Rattle.lr_host.proofs.Each.{each_as, none_pass}
use Rattle.lr_plan.specs.Course.{Course}
use Rattle.lr_plan.specs.Steps.{state_steps}
use Rattle.lr_run.proofs.Stating.{IsWrite, IsWriting, state_writing}
use Rattle.lr_laws_fixed.proofs.Ends.{shows_end, ends_in}

no_end : (e : Entry) → IsWrite e → shows_end e ≡ false
no_end (entry.Runs program args input end) i = absurd i
no_end (entry.MakesDir path mode) i = absurd i
no_end (entry.Look path seen) i = absurd i
no_end _ i = refl

pub state_ends_none : (state : Path) (stale : Bool) (dirs : List Path) (text : List ℕ) (fs : List Fault) (ts : List Entry) → Course (state_steps state stale dirs text) [] fs ts → ends_in ts ≡ []
state_ends_none state stale dirs text fs ts h = none_pass shows_end ts (each_as (IsWriting state) (λ e. shows_end e ≡ false) ts (λ e i. no_end e i.0) (state_writing state stale dirs text fs ts h))
