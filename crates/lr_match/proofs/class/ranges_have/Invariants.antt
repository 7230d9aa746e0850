use Rattle.std.proofs.Common.{◌≡◌, ◌≤◌, ◌+◌, ◌*◌, length}
use Rattle.std.specs.Str.{chars}
use denote.Shadow.{shadow}
use denote.Text.{Utf8}
use Rattle.lr_rules.specs.Match.{ranges_have}
use Rattle.lr_match.specs.Classes.{before_close}
use Rattle.lr_match.proofs.class.ranges_have.Given as goal

abbrev pub invariant-loop-from : goal.invariant-loop-from
invariant-loop-from g l = record {
  text : shadow (Utf8 l.left);
  has : ranges_have (before_close (chars l.signs)) l.c ≡ ranges_have (before_close (chars l.left)) l.c;
  few : l.steps + 3 * length (before_close (chars l.left)) ≤ l.fn.steps + 3 * length (before_close (chars l.signs));
}

abbrev pub decreases-loop-from : goal.decreases-loop-from
decreases-loop-from g l = length (chars l.left)
