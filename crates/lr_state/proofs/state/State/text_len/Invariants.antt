use Rattle.std.proofs.Common.{◌≡◌, ◌+◌, ◌-◌, ◌^◌, min, length, take}
use Rattle.std.specs.List.{flat_map}
use Rattle.lr_state.specs.Written.{entry_line}
use Rattle.lr_state.proofs.state.State.text_len.Given as goal

abbrev pub invariant-loop-k : goal.invariant-loop-k
invariant-loop-k l = l.len ≡ min (2 ^ 64 - 1) (29 + length (flat_map entry_line (take l.k l.self)))
