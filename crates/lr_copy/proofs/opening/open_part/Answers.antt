use Rattle.std.proofs.Common.{refl, ◌∙◌, ap, ◌++◌, append-nil}
use Rattle.lr_host.proofs.Left.{left_as, left_then, left_both, are_on}
use Rattle.lr_copy.proofs.Places.{can_make, is_made}
use Rattle.lr_copy.proofs.opening.open_part.Goals as goal

pub make_new-requires : goal.make_new-requires
make_new-requires g c = can_make c.args.job.now c.requires.paths c.in_default.ensures.next

pub returns-in-Ok-true-clause-told : goal.returns-in-Ok-true-clause-told
returns-in-Ok-true-clause-told g c = are_on c.in_default.ensures.told (rw c.in-Ok-true.field-0-test at c.in-Ok-true.ensures.told)

pub returns-in-Ok-true-clause-next : goal.returns-in-Ok-true-clause-next
returns-in-Ok-true-clause-next g c = is_made c.args.job.now c.in_default.ensures.next (rw c.in-Ok-true.field-0-test at c.in-Ok-true.ensures.told)

pub returns-in-Ok-false-clause-refused : goal.returns-in-Ok-false-clause-refused
returns-in-Ok-false-clause-refused g c = left_then c.in_default.ensures.told (rw c.in-Ok-false.field-0-test at c.in-Ok-false.ensures.told) (λ ts us a b. (refl, ap (λ vs. ts ++ vs) b ∙ (append-nil ts ∙ a)))

pub returns-in-Err-make_new-clause-refused : goal.returns-in-Err-make_new-clause-refused
returns-in-Err-make_new-clause-refused g c = left_as (left_both c.in_default.ensures.told c.in-Err-make_new.ensures.told) (λ ts h. (refl, h))
