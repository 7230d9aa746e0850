use Rattle.std.proofs.Common.{◌≡◌, ℕ, ◌<◌, ◌==◌, count_by}
use Rattle.lr_disk.proofs.valid.are_named.Given as goal

abbrev pub invariant-loop-identity : goal.invariant-loop-identity
invariant-loop-identity l = (g : ℕ) → g < l.identity → count_by (λ n. n.1 == g) l.names ≡ 1
