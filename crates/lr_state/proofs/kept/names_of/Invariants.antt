use Rattle.std.proofs.Common.{◌≡◌, ℕ, List, take, is_some}
use Rattle.lr_state.specs.Table.{moment_of}
use Rattle.lr_state.specs.After.{is_among}
use Rattle.lr_state.proofs.kept.names_of.Given as goal

abbrev pub invariant-loop-log : goal.invariant-loop-log
invariant-loop-log l = record { names : (q : List ℕ) → is_some (moment_of l.names q) ≡ is_among (take l.log-index l.logs) q }
