use Rattle.std.proofs.Common.{ap, subst, [], ◌++◌, codes}
use Rattle.lr_report.specs.Puts.{Took}
use Rattle.lr_report.proofs.PutLemmas.{part_first, part_on, took_on, part_as, two_parts, when_ok}
use Rattle.lr_report.proofs.lines.put_passed.Goals as goal

pub returns-in_err-put_one-clause-part : goal.returns-in_err-put_one-clause-part
returns-in_err-put_one-clause-part g c = part_first _ _ _ _ c.put_one.ensures.part

pub returns-in_err-put_place-clause-part : goal.returns-in_err-put_place-clause-part
returns-in_err-put_place-clause-part g c = two_parts _ _ _ _ _ _ c.in_ok-put_one.ensures.whole c.put_place.ensures.part

pub returns-clause-whole : goal.returns-clause-whole
returns-clause-whole g c =
    when_ok c.put_two.result _ _ c.put_two.ensures.whole
    (λ last. took_on _ _ _ _ _ c.in_ok-put_one.ensures.whole (took_on _ _ _ _ _ c.in_ok-put_place.ensures.whole (subst (λ w. Took (w ++ (codes " passed over" ++ [])) (g.K.Sink.taken c.put_place.new.out) (g.K.Sink.taken c.put_two.new.out)) c.passed_by.ensures last)))

pub returns-clause-part : goal.returns-clause-part
returns-clause-part g c =
    part_on _ _ _ _ _ c.in_ok-put_one.ensures.whole (part_on _ _ _ _ _ c.in_ok-put_place.ensures.whole (part_as _ _ _ _ (ap (λ w. w ++ (codes " passed over" ++ [])) c.passed_by.ensures) c.put_two.ensures.part))
