use Rattle.std.proofs.Common.{◌≡◌, ◌++◌, take, map}
use Rattle.lr_disk.proofs.opened.add_paths.Given as goal

abbrev pub invariant-loop-path : goal.invariant-loop-path
invariant-loop-path l = l.names.items ≡ l.fn.names.items ++ map (λ p. (p, l.thing)) (take l.path-index l.paths)
