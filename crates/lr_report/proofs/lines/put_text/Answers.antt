use Rattle.std.proofs.Common.{ap, sym, ◌∙◌, [], ◌∷◌, codes}
use Rattle.std.specs.List.{concat}
use Rattle.lr_report.specs.Lines.{fault_text}
use Rattle.lr_report.proofs.PutLemmas.{whole_as, part_as}
use Rattle.lr_report.proofs.lines.put_text.Goals as goal

pub returns-in-Missing-clause-whole : goal.returns-in-Missing-clause-whole
returns-in-Missing-clause-whole g c = whole_as c.put_two-in-Missing.result _ _ _ _ (ap (λ w. concat (w ∷ codes ": no such log" ∷ [])) c.bytes.ensures.bytes ∙ ap fault_text (sym c.in-Missing.is)) c.put_two-in-Missing.ensures.whole

pub returns-in-Missing-clause-part : goal.returns-in-Missing-clause-part
returns-in-Missing-clause-part g c = part_as _ _ _ _ (ap (λ w. concat (w ∷ codes ": no such log" ∷ [])) c.bytes.ensures.bytes ∙ ap fault_text (sym c.in-Missing.is)) c.put_two-in-Missing.ensures.part

pub returns-in-NoDir-clause-whole : goal.returns-in-NoDir-clause-whole
returns-in-NoDir-clause-whole g c = whole_as c.put_two-in-NoDir.result _ _ _ _ (ap (λ w. concat (w ∷ codes ": no directory" ∷ [])) c.bytes-in-NoDir.ensures.bytes ∙ ap fault_text (sym c.in-NoDir.is)) c.put_two-in-NoDir.ensures.whole

pub returns-in-NoDir-clause-part : goal.returns-in-NoDir-clause-part
returns-in-NoDir-clause-part g c = part_as _ _ _ _ (ap (λ w. concat (w ∷ codes ": no directory" ∷ [])) c.bytes-in-NoDir.ensures.bytes ∙ ap fault_text (sym c.in-NoDir.is)) c.put_two-in-NoDir.ensures.part

pub returns-in-Duplicate-clause-whole : goal.returns-in-Duplicate-clause-whole
returns-in-Duplicate-clause-whole g c = whole_as c.put_two-in-Duplicate.result _ _ _ _ (ap (λ w. concat (w ∷ codes ": defined twice" ∷ [])) c.bytes-in-Duplicate.ensures.bytes ∙ ap fault_text (sym c.in-Duplicate.is)) c.put_two-in-Duplicate.ensures.whole

pub returns-in-Duplicate-clause-part : goal.returns-in-Duplicate-clause-part
returns-in-Duplicate-clause-part g c = part_as _ _ _ _ (ap (λ w. concat (w ∷ codes ": defined twice" ∷ [])) c.bytes-in-Duplicate.ensures.bytes ∙ ap fault_text (sym c.in-Duplicate.is)) c.put_two-in-Duplicate.ensures.part

pub returns-in-Taken-clause-whole : goal.returns-in-Taken-clause-whole
returns-in-Taken-clause-whole g c = whole_as c.put_two-in-Taken.result _ _ _ _ (ap (λ w. concat (w ∷ codes ": name is taken" ∷ [])) c.bytes-in-Taken.ensures.bytes ∙ ap fault_text (sym c.in-Taken.is)) c.put_two-in-Taken.ensures.whole

pub returns-in-Taken-clause-part : goal.returns-in-Taken-clause-part
returns-in-Taken-clause-part g c = part_as _ _ _ _ (ap (λ w. concat (w ∷ codes ": name is taken" ∷ [])) c.bytes-in-Taken.ensures.bytes ∙ ap fault_text (sym c.in-Taken.is)) c.put_two-in-Taken.ensures.part

pub returns-in-Unfinished-clause-whole : goal.returns-in-Unfinished-clause-whole
returns-in-Unfinished-clause-whole g c = whole_as c.put_two-in-Unfinished.result _ _ _ _ (ap (λ w. concat (w ∷ codes ": taken up again" ∷ [])) c.bytes-in-Unfinished.ensures.bytes ∙ ap fault_text (sym c.in-Unfinished.is)) c.put_two-in-Unfinished.ensures.whole

pub returns-in-Unfinished-clause-part : goal.returns-in-Unfinished-clause-part
returns-in-Unfinished-clause-part g c = part_as _ _ _ _ (ap (λ w. concat (w ∷ codes ": taken up again" ∷ [])) c.bytes-in-Unfinished.ensures.bytes ∙ ap fault_text (sym c.in-Unfinished.is)) c.put_two-in-Unfinished.ensures.part

pub returns-in-TooHigh-clause-whole : goal.returns-in-TooHigh-clause-whole
returns-in-TooHigh-clause-whole g c = whole_as c.put_two-in-TooHigh.result _ _ _ _ (ap (λ w. concat (w ∷ codes ": number is too high" ∷ [])) c.bytes-in-TooHigh.ensures.bytes ∙ ap fault_text (sym c.in-TooHigh.is)) c.put_two-in-TooHigh.ensures.whole

pub returns-in-TooHigh-clause-part : goal.returns-in-TooHigh-clause-part
returns-in-TooHigh-clause-part g c = part_as _ _ _ _ (ap (λ w. concat (w ∷ codes ": number is too high" ∷ [])) c.bytes-in-TooHigh.ensures.bytes ∙ ap fault_text (sym c.in-TooHigh.is)) c.put_two-in-TooHigh.ensures.part

pub returns-in-LongName-clause-whole : goal.returns-in-LongName-clause-whole
returns-in-LongName-clause-whole g c = whole_as c.put_two-in-LongName.result _ _ _ _ (ap (λ w. concat (w ∷ codes ": name is too long" ∷ [])) c.bytes-in-LongName.ensures.bytes ∙ ap fault_text (sym c.in-LongName.is)) c.put_two-in-LongName.ensures.whole

pub returns-in-LongName-clause-part : goal.returns-in-LongName-clause-part
returns-in-LongName-clause-part g c = part_as _ _ _ _ (ap (λ w. concat (w ∷ codes ": name is too long" ∷ [])) c.bytes-in-LongName.ensures.bytes ∙ ap fault_text (sym c.in-LongName.is)) c.put_two-in-LongName.ensures.part

pub returns-in-TooLong-clause-whole : goal.returns-in-TooLong-clause-whole
returns-in-TooLong-clause-whole g c = whole_as c.put_two-in-TooLong.result _ _ _ _ (ap (λ w. concat (w ∷ codes ": file is too long" ∷ [])) c.bytes-in-TooLong.ensures.bytes ∙ ap fault_text (sym c.in-TooLong.is)) c.put_two-in-TooLong.ensures.whole

pub returns-in-TooLong-clause-part : goal.returns-in-TooLong-clause-part
returns-in-TooLong-clause-part g c = part_as _ _ _ _ (ap (λ w. concat (w ∷ codes ": file is too long" ∷ [])) c.bytes-in-TooLong.ensures.bytes ∙ ap fault_text (sym c.in-TooLong.is)) c.put_two-in-TooLong.ensures.part

pub returns-in-Zone-clause-whole : goal.returns-in-Zone-clause-whole
returns-in-Zone-clause-whole g c = whole_as c.put_two.result _ _ _ _ (ap (λ w. concat (codes "time zone: " ∷ w ∷ [])) c.zone_name.ensures ∙ ap fault_text (sym c.in-Zone.is)) c.put_two.ensures.whole

pub returns-in-State-clause-whole : goal.returns-in-State-clause-whole
returns-in-State-clause-whole g c = whole_as c.put_state.result _ _ _ _ (ap fault_text (sym c.in-State.is)) c.put_state.ensures.whole

pub returns-in-Out-clause-whole : goal.returns-in-Out-clause-whole
returns-in-Out-clause-whole g c = whole_as c.put_one-in-Out.result _ _ _ _ (ap fault_text (sym c.in-Out.is)) c.put_one-in-Out.ensures.whole

pub returns-in-Out-clause-part : goal.returns-in-Out-clause-part
returns-in-Out-clause-part g c = part_as _ _ _ _ (ap fault_text (sym c.in-Out.is)) c.put_one-in-Out.ensures.part
