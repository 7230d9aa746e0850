-- The counts that rules can have, and serial numbers.
use Rattle.std.proofs.Common.{◌≡◌, true, arith, inl, inr, ℕ, ◌≤◌}
use Rattle.std.proofs.lemmas.Bool.Decides.{nat_tests}
use Rattle.lr_rules.specs.declared.rule.Count.{Count}
use Rattle.lr_rules.specs.Limits.{is_count, IsCount}
use Rattle.lr_rules.specs.declared.rule.Count.TheVariants as count
use Rattle.lr_rules.specs.declared.rule.Format.{Format}
use Rattle.lr_rules.specs.Dated.{IsSerial}

pub count_small : (c : Count) → is_count c ≡ true → IsCount c
count_small (count.Keep n) h = grind (arith, nat_tests)
count_small count.Always h = tt

pub serial_small : (f : Format) (k : ℕ) → IsSerial f k → k ≤ 4294967295
serial_small f k (inl zero) = omega arith
serial_small f k (inr some) = some.1
