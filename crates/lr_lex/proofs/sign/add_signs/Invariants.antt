use Rattle.std.proofs.Common.{◌≡◌, ◌++◌, ◌-◌, ◌≤◌, length, drop}
use Rattle.lr_lex.specs.Signs.{signs, left_open}
use Rattle.lr_lex.proofs.sign.add_signs.Given as goal

abbrev pub invariant-loop-i : goal.invariant-loop-i
invariant-loop-i l = record {
  within : l.i ≤ length l.line;
  size : length l.into ≡ l.i;
  signs : l.into ++ signs l.names l.quote (drop l.i l.line) ≡ signs l.names 0 l.line;
  quote : left_open l.quote (drop l.i l.line) ≡ left_open 0 l.line;
}

abbrev pub decreases-loop-i : goal.decreases-loop-i
decreases-loop-i l = length l.line - l.i
