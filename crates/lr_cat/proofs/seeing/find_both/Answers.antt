use Rattle.std.proofs.Common.{inl, Some}
use Rattle.lr_host.proofs.Left.{left_as, left_both}
use Rattle.lr_cat.proofs.Standing.{can_on, cause_from, second_not}
use Rattle.lr_cat.proofs.seeing.find_both.Goals as goal

pub returns-in-Ok-find-clause-told : goal.returns-in-Ok-find-clause-told
returns-in-Ok-find-clause-told g c = left_both c.in-Ok.ensures.told c.in-Ok-find.ensures.told

pub returns-in-Ok-find-clause-can_aside : goal.returns-in-Ok-find-clause-can_aside
returns-in-Ok-find-clause-can_aside g c = can_on c.in-Ok.aside (Some c.args.log) c.in-Ok-find.log c.in-Ok.ensures.can c.in-Ok-find.ensures.told

pub returns-in-Err-find-clause-stopped : goal.returns-in-Err-find-clause-stopped
returns-in-Err-find-clause-stopped g c = second_not c.args.aside c.args.log c.in-Ok.aside c.in-Err-find.fault c.in-Ok.ensures.told c.in-Err-find.ensures.stopped

pub returns-in-Err-find-clause-cause : goal.returns-in-Err-find-clause-cause
returns-in-Err-find-clause-cause g c = λ puts later. cause_from c.in-Err-find.fault (g.H.Host.counts c.args.host.now) (g.H.Host.counts c.find.new.host) (g.H.Host.counts c.find-in-Ok.new.host) puts later c.in-Ok.ensures.counts.0.0 (c.in-Err-find.ensures.cause puts later)

pub returns-in-Err-clause-stopped : goal.returns-in-Err-clause-stopped
returns-in-Err-clause-stopped g c = left_as c.in-Err.ensures.stopped (λ ts h. inl h)
