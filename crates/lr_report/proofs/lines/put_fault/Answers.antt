use Rattle.lr_report.proofs.PutLemmas.{part_first, two_parts, three_parts, three_whole, when_ok}
use Rattle.lr_report.proofs.lines.put_fault.Goals as goal

pub returns-in_err-put_one-clause-part : goal.returns-in_err-put_one-clause-part
returns-in_err-put_one-clause-part g c = part_first _ _ _ _ c.put_one.ensures.part

pub returns-in_err-put_text-clause-part : goal.returns-in_err-put_text-clause-part
returns-in_err-put_text-clause-part g c = two_parts _ _ _ _ _ _ c.in_ok-put_one.ensures.whole c.put_text.ensures.part

pub returns-clause-whole : goal.returns-clause-whole
returns-clause-whole g c =
    when_ok c.put_one-2.result _ _ c.put_one-2.ensures.whole (three_whole _ _ _ _ _ _ _ c.in_ok-put_one.ensures.whole c.in_ok-put_text.ensures.whole)

pub returns-clause-part : goal.returns-clause-part
returns-clause-part g c = three_parts _ _ _ _ _ _ _ c.in_ok-put_one.ensures.whole c.in_ok-put_text.ensures.whole c.put_one-2.ensures.part
