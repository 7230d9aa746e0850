use Rattle.std.proofs.Common.{◌≡◌, ◌++◌, length, map}
use Rattle.std.specs.Vec.Iter.{into_iter_items, into_iter_len}
use Rattle.lr_scripts.specs.Commands.{with_programs}
use Rattle.lr_scripts.proofs.programs.with_programs.Given as goal

abbrev pub invariant-loop-removal : goal.invariant-loop-removal
invariant-loop-removal l = record {
  all : l.yielded ++ into_iter_items l.removal-iterator ≡ into_iter_items l.initial.removal-iterator;
  long : into_iter_len l.removal-iterator ≡ length (into_iter_items l.removal-iterator);
  made : l.dressed.items ≡ map (with_programs l.rule l.mailer l.log) l.yielded;
}
