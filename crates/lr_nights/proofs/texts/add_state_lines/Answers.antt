use Rattle.std.proofs.Common.{◌+◌, ◌∙◌, suc, arith, sym}
use Rattle.std.proofs.lemmas.List.{append-nil}
use Rattle.lr_nights.specs.Opening.{state_line, state_lines_from}
use Rattle.lr_nights.proofs.Fronts.{moved}
use Rattle.lr_nights.proofs.texts.add_state_lines.Goals as goal

pub loop-log-preserved : goal.loop-log-preserved
loop-log-preserved c = λ left e. rw c.in_ok-add_state_line.ensures (moved c.loop-log.text.items (state_line c.loop-log.log) (state_lines_from (c.loop-log.log + 1) left) _ (c.loop-log.invariant (suc left) (omega arith)))

pub returns : goal.returns
returns c = sym (append-nil c.loop-log.text.items) ∙ c.loop-log.invariant 0 (omega arith)
