use Rattle.std.proofs.Common.{◌≡◌, ◌++◌, take, map}
use Rattle.lr_host.specs.declared.thing.Thing.TheVariants as thing
use Rattle.lr_disk.proofs.opened.add_files.Given as goal

abbrev pub invariant-loop-name : goal.invariant-loop-name
invariant-loop-name l = l.names.items ≡ l.fn.names.items ++ map (λ n. (n.0, thing.File n.1)) (take l.name-index l.named)
