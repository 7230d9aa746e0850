use Rattle.std.proofs.Common.{◌≡◌, ◌-◌, ◌^◌, ℕ, List, take, min, length, is_some}
use Rattle.lr_state.specs.Table.{moment_of}
use Rattle.lr_state.specs.After.{is_among}
use Rattle.lr_state.specs.Measured.{measured_text}
use Rattle.lr_state.proofs.measured.fits.Given as goal

abbrev pub invariant-loop-log : goal.invariant-loop-log
invariant-loop-log l = record {
  names : (q : List ℕ) → is_some (moment_of l.counted q) ≡ is_among (take l.log-index l.due) q;
  measured : l.len ≡ min (2 ^ 64 - 1) (length (measured_text (take l.log-index l.due) l.now l.table));
}
