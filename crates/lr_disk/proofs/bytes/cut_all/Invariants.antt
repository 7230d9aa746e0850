use Rattle.std.proofs.Common.{◌≡◌, ◌<◌, ◌≤◌, ℕ, length}
use Rattle.lr_host.specs.World.{length_of}
use Rattle.lr_disk.specs.State.{file_with, cut_file}
use Rattle.lr_disk.proofs.bytes.cut_all.Given as goal

abbrev pub invariant-loop-i : goal.invariant-loop-i
invariant-loop-i l = record {
  size : length l.files ≡ length l.fn.files;
  cut : (id : ℕ) → id < l.i → file_with l.files id ≡ cut_file (length_of l.lengths id) (file_with l.fn.files id);
  rest : (id : ℕ) → l.i ≤ id → file_with l.files id ≡ file_with l.fn.files id;
}
