use Rattle.std.proofs.Common.{rules, map}
use Rattle.std.specs.List.{concat}
use Rattle.lr_report.specs.Lines.{line, notice_text}
use Rattle.lr_report.proofs.PutLemmas.{took_value, part_value, part_whole, all_values}
use Rattle.lr_report.proofs.lines.put_notices.Goals as goal

pub returns-in_err-put_notice-clause-part : goal.returns-in_err-put_notice-clause-part
returns-in_err-put_notice-clause-part g c =
    part_value (λ n. line (notice_text n)) c.args.notices.now c.loop-notice.notice-index c.notice-item.result _ _ _ c.notice-item.is c.loop-notice-test.true c.loop-notice.invariant.taken c.put_notice.ensures.part

pub loop-notice-preserved : goal.loop-notice-preserved
loop-notice-preserved g c = record {
  taken = took_value (λ n. line (notice_text n)) c.args.notices.now c.loop-notice.notice-index c.notice-item.result _ _ _ c.notice-item.is c.loop-notice-test.true c.loop-notice.invariant.taken c.in_ok-put_notice.ensures.whole;
  counts = search rules;
}

pub returns-clause-part : goal.returns-clause-part
returns-clause-part g c = part_whole (concat (map (λ x. line (notice_text x)) c.args.notices.now)) (g.K.Sink.taken c.args.out.now) (g.K.Sink.taken c.loop-notice.out) (all_values (λ x. line (notice_text x)) c.args.notices.now c.loop-notice.notice-index _ _ (search (rules, c.loop-notice-test.false)) c.loop-notice.invariant.taken)
