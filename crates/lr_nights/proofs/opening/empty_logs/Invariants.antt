use Rattle.std.proofs.Common.{◌≡◌, [], replicate}
use Rattle.lr_nights.specs.Opening.{file_of}
use Rattle.lr_nights.proofs.opening.empty_logs.Given as goal

abbrev pub invariant-loop-log : goal.invariant-loop-log
invariant-loop-log l = l.files.items ≡ replicate l._log (file_of [])
