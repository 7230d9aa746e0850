-- The log's path names a file where steps rename it.
use Rattle.std.proofs.Common.{◌≢◌, List, [], ◌∷◌, ◌++◌}
use Rattle.lr_rules.specs.declared.path.Path.{Path}
use Rattle.lr_host.specs.declared.entry.Entry.{Entry}
use Rattle.lr_host.specs.declared.entry.Entry.TheVariants.{Renames}
use Rattle.lr_host.specs.World.{Names}
use Rattle.lr_host.specs.Sets.{LogSet}
use Rattle.lr_host.specs.Told.{Each}
use Rattle.lr_laws.specs.Rotation.{LogFits}

-- it doesn't rename the log
abbrev pub IsNoRename : LogSet → Entry → Type 0
IsNoRename s e = (to : Path) → e ≢ Renames s.log to

-- such steps more
pub log_fits_on : (s : LogSet) (m : Names) (new old : List Entry) → Each (IsNoRename s) new → LogFits s m old → LogFits s m (new ++ old)
log_fits_on s m [] old none fits = fits
log_fits_on s m (e ∷ new) old none fits = (log_fits_on s m new old none.1 fits, λ to is. absurd (none.0 to is))

-- and a first part of the steps
pub log_fits_first : (s : LogSet) (m : Names) (new old : List Entry) → LogFits s m (new ++ old) → LogFits s m old
log_fits_first s m [] old fits = fits
log_fits_first s m (e ∷ new) old fits = log_fits_first s m new old fits.0
