use Rattle.std.proofs.Common.{◌≡◌, map}
use Rattle.lr_glob.proofs.lead.parts_of.Given as goal

abbrev pub invariant-loop-part : goal.invariant-loop-part
invariant-loop-part l = l.parts.items ≡ map (λ x. x.now) l.yielded
