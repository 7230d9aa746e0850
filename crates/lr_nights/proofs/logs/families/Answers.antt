use Rattle.std.proofs.Common.{◌∙◌, suc, arith, sym}
use Rattle.std.proofs.lemmas.List.{append-nil}
use Rattle.lr_nights.specs.Summary.{logs_of}
use Rattle.lr_nights.proofs.LogLemmas.{one_more_log, all_numbered}
use Rattle.lr_nights.proofs.logs.families.Goals as goal

pub loop-log-preserved : goal.loop-log-preserved
loop-log-preserved c = record {
  logs = λ left e. rw c.in_ok-push.ensures.items (one_more_log c.loop-log.families.items c.in_ok-family_of.field-0 c.loop-log.log left _ c.in_ok-family_of.ensures (c.loop-log.invariant.logs (suc left) (omega arith)));
  numbered = rw c.in_ok-push.ensures.items (all_numbered c.loop-log.families.items c.in_ok-family_of.field-0 c.loop-log.log c.in_ok-family_of.ensures c.loop-log.invariant.numbered);
}

pub returns-clause-logs : goal.returns-clause-logs
returns-clause-logs c = sym (append-nil (logs_of c.loop-log.families.items)) ∙ c.loop-log.invariant.logs 0 (omega arith)

pub returns-clause-numbered : goal.returns-clause-numbered
returns-clause-numbered c = c.loop-log.invariant.numbered
