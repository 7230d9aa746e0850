-- The faults of a reading tell of no script, and of nothing around a run.
use Rattle.std.proofs.Common.{◌≡◌, ◌+◌, List, arith, [], ◌∷◌, refl}
use Rattle.std.specs.List.{AllByRecursion as Every}
use Rattle.lr_rules.specs.declared.fault.Fault.{Fault}
use Rattle.lr_rules.specs.declared.fault.CallKind.TheVariants as call
use Rattle.lr_rules.specs.declared.fault.Fault.TheVariants as fault
use Rattle.lr_host.specs.Counted.{bad_scripts_in, NoneAround}
use Rattle.lr_include.specs.Readers.{IsConfOrCall}

pub no_more : (fs : List Fault) → bad_scripts_in fs ≡ 0 → 0 + bad_scripts_in fs ≡ 0
no_more fs z = omega (arith, z)

pub none_scripted : (fs : List Fault) → Every IsConfOrCall fs → (bad_scripts_in fs ≡ 0) × NoneAround fs
none_scripted [] h = (refl, tt)
none_scripted (fault.Conf file line kind ∷ fs) h = (no_more fs (none_scripted fs h.1).0, ((λ x. x), (none_scripted fs h.1).1))
none_scripted (fault.Call call.Look path ∷ fs) h = (no_more fs (none_scripted fs h.1).0, ((λ x. x), (none_scripted fs h.1).1))
none_scripted (fault.Call call.List path ∷ fs) h = (no_more fs (none_scripted fs h.1).0, ((λ x. x), (none_scripted fs h.1).1))
none_scripted (fault.Call call.Read path ∷ fs) h = (no_more fs (none_scripted fs h.1).0, ((λ x. x), (none_scripted fs h.1).1))
none_scripted (_ ∷ fs) h = absurd h.0
