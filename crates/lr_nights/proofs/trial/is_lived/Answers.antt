use Rattle.std.proofs.Common.{List, All, subst}
use Rattle.lr_host.specs.declared.entry.Entry.{Entry}
use Rattle.lr_nights.specs.Month.{HasStartAt}
use Rattle.lr_nights.proofs.trial.is_lived.Goals as goal

pub returns-then-has_starts-clause-nights : goal.returns-then-has_starts-clause-nights
returns-then-has_starts-clause-nights c = λ _. subst (λ (es : List Entry). All (λ night. HasStartAt night.seconds es) c.args.nights.now) c.as_slice-entries.ensures (c.has_starts.ensures c.if-has_starts.true)
