use Rattle.std.proofs.Common.{◌≡◌, take, map}
use Rattle.lr_disk.specs.State.{as_open}
use Rattle.lr_disk.proofs.opened.copy_files.Given as goal

abbrev pub invariant-loop-file : goal.invariant-loop-file
invariant-loop-file l = map as_open l.files.items ≡ take l.file-index l.opened
