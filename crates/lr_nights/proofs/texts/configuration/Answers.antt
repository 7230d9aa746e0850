use Rattle.std.proofs.Common.{◌+◌, ◌∙◌, suc, arith, sym}
use Rattle.std.proofs.lemmas.List.{append-nil}
use Rattle.lr_nights.specs.Draws.{behind_two}
use Rattle.lr_nights.specs.Opening.{definition, definitions_from}
use Rattle.lr_nights.proofs.Fronts.{moved}
use Rattle.lr_nights.proofs.texts.configuration.Goals as goal

pub loop-log-preserved : goal.loop-log-preserved
loop-log-preserved c = λ left e. rw (c.in_ok-add_definition.ensures.text, c.in_ok-add_definition.ensures.next) (moved c.loop-log.text.items (definition c.loop-log.log c.loop-log.x) (definitions_from (c.loop-log.log + 1) left (behind_two c.loop-log.x)) _ (c.loop-log.invariant (suc left) (omega arith)))

pub returns : goal.returns
returns c = sym (append-nil c.loop-log.text.items) ∙ c.loop-log.invariant 0 (omega arith)
