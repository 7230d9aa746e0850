use Rattle.std.proofs.Common.{inl, refl}
use Rattle.lr_host.proofs.Left.{left_first}
use Rattle.lr_family.specs.declared.stand.StandStop.TheVariants as stop
use Rattle.lr_family.specs.Parts.{ShowsNoParts}
use Rattle.lr_family.proofs.PartLooks.{among_told, among_stopped}
use Rattle.lr_family.proofs.parts.parts_among.Goals as goal

pub returns-in_default-clause-stopped : goal.returns-in_default-clause-stopped
returns-in_default-clause-stopped g c = left_first (ShowsNoParts c.args.naming.now c.args.names.now stop.Memory) _ (inl (refl, refl))

pub returns-in-Ok-look_at_parts-clause-told : goal.returns-in-Ok-look_at_parts-clause-told
returns-in-Ok-look_at_parts-clause-told g c = among_told c.args.naming.now c.args.names.now c.in-Ok.paths.items c.in-Ok-look_at_parts.parts.items c.from_vec.result c.in-Ok.ensures c.from_vec.ensures c.in-Ok-look_at_parts.ensures.told

pub returns-in-Err-clause-stopped : goal.returns-in-Err-clause-stopped
returns-in-Err-clause-stopped g c = among_stopped c.args.naming.now c.args.names.now c.in-Ok.paths.items c.in-Err.stop c.in-Ok.ensures c.in-Err.ensures.stopped
