use Rattle.std.proofs.Common.{◌+◌, ◌≤◌, [], option_map}
use Rattle.lr_state.specs.Grammar.{StateSaid, LinesSay, lines_behind}
use Rattle.lr_state.specs.Reading.{seen}
use Rattle.lr_state.proofs.Left.{left_len}
use Rattle.lr_state.proofs.text.read_lines.Given as goal

abbrev pub invariant-loop-left : goal.invariant-loop-left
invariant-loop-left l = record {
  room : l.number + left_len l.left ≤ 67_108_864 + 4;
  onward : (said : StateSaid) → LinesSay l.number l.state (lines_behind (option_map seen l.left)) said → LinesSay 2 [] (lines_behind (option_map seen l.text)) said;
  back : (said : StateSaid) → LinesSay 2 [] (lines_behind (option_map seen l.text)) said → LinesSay l.number l.state (lines_behind (option_map seen l.left)) said;
}

abbrev pub decreases-loop-left : goal.decreases-loop-left
decreases-loop-left l = left_len l.left
