use Rattle.std.proofs.Common.{refl, inl, inr, rules}
use Rattle.lr_host.proofs.Left.{left_as}
use Rattle.lr_acts.proofs.Taking.{taken_now}
use Rattle.lr_acts.proofs.calls.take_file.Goals as goal

pub returns-in-Ok-true-clause-told : goal.returns-in-Ok-true-clause-told
returns-in-Ok-true-clause-told g c = (rw c.in-Ok-true.field-0-test at c.in-Ok-true.ensures.told)

pub returns-in-Ok-false-clause-told : goal.returns-in-Ok-false-clause-told
returns-in-Ok-false-clause-told g c = left_as (rw c.in-Ok-false.field-0-test at c.in-Ok-false.ensures.told) (λ ts t. inr (refl, t))

pub returns-in-Err-clause-told : goal.returns-in-Err-clause-told
returns-in-Err-clause-told g c = left_as c.in-Err.ensures.told (λ ts t. inl (refl, t))

pub returns-in-Ok-false-clause-cause : goal.returns-in-Ok-false-clause-cause
returns-in-Ok-false-clause-cause g c = taken_now c.args.path (rw c.in-Ok-false.field-0-test at c.in-Ok-false.ensures.told) (c.make_new.ensures.named (search rules))
