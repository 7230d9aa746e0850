-- How a listed call fails.
use Rattle.std.specs.Prelude.{Bool, true, false, not, List, filter, Option, Some, None}
use Rattle.lr_memhost.specs.declared.act.Failing.{Failing}
use Rattle.lr_memhost.specs.declared.act.How.{How}
use Rattle.lr_memhost.specs.declared.act.How.TheVariants as how

-- the host is down behind it
abbrev pub downs : Option How → Bool
downs (Some how.Stop) = true
downs _ = false

-- a call that is no append does nothing
abbrev pub idles : Option How → Bool
idles None = false
idles (Some how.WithEffect) = false
idles _ = true

-- the calls that are to fail, without those that stop the machine
abbrev pub without_stops : List Failing → List Failing
without_stops fs = filter (λ f. not (downs (Some f.how))) fs
