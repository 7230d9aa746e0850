use Rattle.std.proofs.Common.{◌≡◌, ◌++◌, map, take}
use Rattle.lr_cat.proofs.seeing.add_paths.Given as goal

abbrev pub invariant-loop-member : goal.invariant-loop-member
invariant-loop-member l = l.files.items ≡ l.initial.files.items ++ map (λ m. m.path) (take l.member-index l.members)
