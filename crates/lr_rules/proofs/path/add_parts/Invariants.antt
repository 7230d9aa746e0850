use Rattle.std.proofs.Common.{◌≡◌, ◌++◌, map}
use Rattle.lr_rules.specs.Path.{behind_slashes}
use Rattle.lr_rules.proofs.path.add_parts.Given as goal

abbrev pub invariant-loop-part : goal.invariant-loop-part
invariant-loop-part l = l.into.items ≡ l.initial.into.items ++ behind_slashes (map (λ x. x.now) l.yielded)
