use Rattle.std.proofs.Common.{◌≡◌, ◌++◌, map, drop}
use Rattle.lr_include.specs.Stages.{line_ask}
use Rattle.lr_include.proofs.all.asks_of.Given as goal

abbrev pub invariant-loop-path : goal.invariant-loop-path
invariant-loop-path l = l.todo.items ++ map line_ask (drop l.path-index l.paths) ≡ map line_ask l.paths
