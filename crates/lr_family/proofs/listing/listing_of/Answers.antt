use Rattle.std.proofs.Common.{inl, refl, true, false}
use Rattle.lr_host.proofs.Left.{left_first}
use Rattle.lr_family.specs.declared.directory.DirStop.TheVariants as stopped
use Rattle.lr_family.specs.declared.stand.StandStop.TheVariants as stop
use Rattle.lr_family.specs.Listed.{NotListed}
use Rattle.lr_family.proofs.Whole.{there_told, there_stopped, none_told, none_stopped, no_dir, no_look, seen_as, stopped_as}
use Rattle.lr_family.proofs.listing.listing_of.Goals as goal

pub returns-in_default-clause-stopped : goal.returns-in_default-clause-stopped
returns-in_default-clause-stopped g c = left_first (NotListed c.args.dir.now stop.Memory) _ (inl refl)

pub returns-in-Ok-true-clause-told : goal.returns-in-Ok-true-clause-told
returns-in-Ok-true-clause-told g c = there_told (λ l. l.dir) (λ l. l.there) (λ l. l.parent) (λ l. l.names) c.args.dir.now c.in-Ok.dir c.list_there.result _ c.in-Ok.ensures
    (seen_as c.in-Ok.dir c.in-Ok-true.field-0 true c.in-Ok-true.field-0-test c.in-Ok-true.ensures.told) c.list_there.ensures.told c.list_there.ensures.there

pub returns-in-Ok-true-clause-stopped : goal.returns-in-Ok-true-clause-stopped
returns-in-Ok-true-clause-stopped g c = there_stopped c.args.dir.now c.in-Ok.dir c.list_there.result _ c.in-Ok.ensures (seen_as c.in-Ok.dir c.in-Ok-true.field-0 true c.in-Ok-true.field-0-test c.in-Ok-true.ensures.told) c.list_there.ensures.stopped

pub returns-in-Ok-false-clause-told : goal.returns-in-Ok-false-clause-told
returns-in-Ok-false-clause-told g c = none_told (λ l. l.dir) (λ l. l.there) (λ l. l.parent) (λ l. l.names) c.args.dir.now c.in-Ok.dir c.list_none.result _ c.in-Ok.ensures
    (seen_as c.in-Ok.dir c.in-Ok-false.field-0 false c.in-Ok-false.field-0-test c.in-Ok-false.ensures.told) c.list_none.ensures.told c.list_none.ensures.missing

pub returns-in-Ok-false-clause-stopped : goal.returns-in-Ok-false-clause-stopped
returns-in-Ok-false-clause-stopped g c = none_stopped c.args.dir.now c.in-Ok.dir c.list_none.result _ c.in-Ok.ensures (seen_as c.in-Ok.dir c.in-Ok-false.field-0 false c.in-Ok-false.field-0-test c.in-Ok-false.ensures.told) c.list_none.ensures.stopped

pub returns-in-Err-Call-clause-stopped : goal.returns-in-Err-Call-clause-stopped
returns-in-Err-Call-clause-stopped g c = no_look c.args.dir.now c.in-Ok.dir c.in-Ok.ensures (stopped_as c.in-Ok.dir c.in-Err-Call.field-0 stopped.Call c.in-Err-Call.field-0-is c.in-Err-Call.ensures.stopped)

pub returns-in-Err-NotDir-clause-stopped : goal.returns-in-Err-NotDir-clause-stopped
returns-in-Err-NotDir-clause-stopped g c = no_dir c.args.dir.now c.in-Ok.dir c.in-Ok.ensures (stopped_as c.in-Ok.dir c.in-Err-NotDir.field-0 stopped.NotDir c.in-Err-NotDir.field-0-is c.in-Err-NotDir.ensures.stopped)
