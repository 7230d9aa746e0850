use Rattle.std.proofs.Common.{◌≡◌, take}
use Rattle.lr_audit.specs.Files.{paths_of_names}
use Rattle.lr_audit.proofs.files.paths_in.Given as goal

abbrev pub invariant-loop-name : goal.invariant-loop-name
invariant-loop-name l = record { paths : l.paths.items ≡ paths_of_names l.dir (take l.name-index l.names) }
