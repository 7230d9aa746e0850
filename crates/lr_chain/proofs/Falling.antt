-- Lists of members' places, the highest first.
use Rattle.std.proofs.Common.{ℕ, List, reverse, subst}
use Rattle.std.proofs.lemmas.List.{reverse-reverse}
use Rattle.std.specs.List.Sorted.{IsStrictlyIncreasing}
use Rattle.std.proofs.lemmas.List.Kept.{AllPairs-from_increasing}
use Rattle.lr_family.proofs.Numbers.{Falls, falls_reverse}

-- places that rise where they are turned round fall
pub falls_all : (ks : List ℕ) → IsStrictlyIncreasing (reverse ks) → Falls ks
falls_all ks h = subst Falls (reverse-reverse ks) (falls_reverse (reverse ks) (AllPairs-from_increasing (reverse ks) h))
