use Rattle.std.proofs.Common.{[], ◌∷◌, refl, sym, ap, ◌∙◌}
use Rattle.lr_host.specs.declared.entry.Entry.TheVariants as entry
use Rattle.lr_host.proofs.Left.{left_first, left_as}
use Rattle.lr_family.specs.declared.stand.StandStop.TheVariants as stop
use Rattle.lr_family.specs.Directory.{ParentStopped}
use Rattle.lr_family.proofs.directory.parent_there.Goals as goal

pub returns-in_default-clause-stopped : goal.returns-in_default-clause-stopped
returns-in_default-clause-stopped g c = left_first (ParentStopped c.args.dir.now stop.Memory) _ refl

pub returns-in-Ok-look-clause-told : goal.returns-in-Ok-look-clause-told
returns-in-Ok-look-clause-told g c = left_as c.in-Ok-look.ensures.told (λ ts t. record { seen = c.in-Ok-look.look; is = sym c.shows_dir.ensures; look = t ∙ ap (λ x. entry.Look x c.in-Ok-look.look ∷ []) c.in-Ok.ensures.0 })

pub returns-in-Err-clause-stopped : goal.returns-in-Err-clause-stopped
returns-in-Err-clause-stopped g c = left_as c.in-Err.ensures.told (λ ts t. (refl, c.in-Ok.ensures.0, t))
