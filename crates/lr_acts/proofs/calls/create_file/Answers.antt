use Rattle.std.proofs.Common.{refl, inl, inr, rules}
use Rattle.lr_host.proofs.Left.{left_as}
use Rattle.lr_acts.proofs.Naming.{file_made}
use Rattle.lr_acts.proofs.calls.create_file.Goals as goal

pub returns-in-Ok-true-clause-told : goal.returns-in-Ok-true-clause-told
returns-in-Ok-true-clause-told g c = left_as (rw c.in-Ok-true.field-0-test at c.in-Ok-true.ensures.told) (λ ts t. inr t)

pub returns-in-Ok-false-clause-told : goal.returns-in-Ok-false-clause-told
returns-in-Ok-false-clause-told g c = left_as (rw c.in-Ok-false.field-0-test at c.in-Ok-false.ensures.told) (λ ts t. inl t)

pub returns-in-Err-clause-told : goal.returns-in-Err-clause-told
returns-in-Err-clause-told g c = left_as c.in-Err.ensures.told (λ ts t. (refl, t))

pub returns-in-Ok-true-clause-named : goal.returns-in-Ok-true-clause-named
returns-in-Ok-true-clause-named g c = file_made c.args.path c.args.mode (rw c.in-Ok-true.field-0-test at c.in-Ok-true.ensures.told)

pub returns-in-Ok-false-clause-named : goal.returns-in-Ok-false-clause-named
returns-in-Ok-false-clause-named g c = c.make_new.ensures.named (search rules)
