-- What an answer tells besides its notices.
use Rattle.std.specs.Prelude.{List, [], ◌∷◌}
use Rattle.lr_rules.specs.declared.path.Path.{Path}
use Rattle.lr_rules.specs.declared.fault.ConfKind.TheVariants as kind
use Rattle.lr_rules.specs.declared.fault.Fault.{Fault}
use Rattle.lr_conf.specs.declared.stop.Include.{Include}
use Rattle.lr_conf.specs.declared.stop.LayerStop.{LayerStop}
use Rattle.lr_conf.specs.declared.stop.LayerStop.TheVariants as stop
use Rattle.lr_conf.specs.Meaning.{conf}

-- its faults
abbrev pub layer_faults : Path → LayerStop → List Fault
layer_faults file (stop.Conf at k) = conf file k at ∷ []
layer_faults file (stop.NoBraceAnd first at k) = conf file kind.NoBrace first ∷ conf file k at ∷ []
layer_faults file (stop.NoBraceThen first include) = conf file kind.NoBrace first ∷ []
layer_faults file stop.Memory = []

-- the file for which it asks
abbrev pub include_of : LayerStop → List Include
include_of (stop.NoBraceThen first include) = include ∷ []
include_of s = []
