use Rattle.std.proofs.Common.{◌≡◌, ◌++◌, ◌-◌, ◌<◌, ◌≤◌, length, take}
use Rattle.lr_lex.specs.Items.{body, ended, behind_script, script_text}
use Rattle.lr_lex.specs.Scanning.{lines_from}
use Rattle.lr_lex.proofs.script.read_script.Given as goal

abbrev pub invariant-loop-here : goal.invariant-loop-here
invariant-loop-here l = record {
  size : length l.here.rest.now ≤ length l.from.rest.now;
  whole : l.from.rest.now ≡ take (length l.from.rest.now - length l.here.rest.now) l.from.rest.now ++ l.here.rest.now;
  text : 0 < length l.here.rest.now → take (length l.from.rest.now - length l.here.rest.now) l.from.rest.now ++ script_text (body (lines_from l.here)) ≡ script_text (body (lines_from l.from));
  ends : ended (lines_from l.here) ≡ ended (lines_from l.from);
  behind : behind_script (lines_from l.here) ≡ behind_script (lines_from l.from);
}

abbrev pub decreases-loop-here : goal.decreases-loop-here
decreases-loop-here l = length l.here.rest.now
