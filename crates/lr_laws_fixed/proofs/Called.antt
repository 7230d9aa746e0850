-- One fault, and whether a call failed.
use Rattle.std.proofs.Common.{◌≡◌, ◌+◌, List, [], ◌∷◌, ap, arith}
use Rattle.lr_rules.specs.declared.fault.Fault.{Fault}
use Rattle.lr_host.specs.Counted.{call_in, calls_in}

-- one failed call isn't none
pub one_called : (own : List Fault) (f : Fault) → own ≡ f ∷ [] → call_in f ≡ 1 → calls_in own ≡ 0 → ⊥
one_called own f e one z = let a : calls_in own ≡ call_in f + 0 = ap calls_in e in omega (arith, a, one, z)

-- where no call failed, the one fault is none
pub one_uncalled : (own : List Fault) (f : Fault) → own ≡ f ∷ [] → calls_in own ≡ 0 → call_in f ≡ 0
one_uncalled own f e z = let a : calls_in own ≡ call_in f + 0 = ap calls_in e in omega (arith, a, z)

-- a fault that is a failed call isn't none
pub no_call : (f g : Fault) → f ≡ g → call_in g ≡ 1 → call_in f ≡ 0 → ⊥
no_call f g e one z = let a : call_in f ≡ call_in g = ap call_in e in omega (arith, a, one, z)
