use Rattle.std.proofs.Common.{◌-◌, ◌+◌, ◌<◌, ◌≤◌, ◌^◌, ℕ, length}
use Rattle.lr_tables.specs.Table.{IsRowOf}
use Rattle.lr_tables.proofs.Rising.{Within}
use Rattle.lr_tables.proofs.keyed.place.Given as goal

abbrev pub invariant-loop-low : goal.invariant-loop-low
invariant-loop-low g l = record {
  within : (l.low ≤ l.high) × (l.high ≤ length l.rows);
  left : (i : ℕ) → i < l.low → IsRowOf l.rows l.word i → ⊥;
  right : (i : ℕ) → l.high ≤ i → IsRowOf l.rows l.word i → ⊥;
  few : (d : ℕ) → length l.rows < 2 ^ d → Within (l.high - l.low) (d + l.fn.steps) l.steps;
  onward : l.fn.steps ≤ l.steps;
}

abbrev pub decreases-loop-low : goal.decreases-loop-low
decreases-loop-low g l = l.high - l.low
