-- What a layer gives.
use Rattle.std.specs.Prelude.{List, Option, Result}
use Rattle.lr_rules.specs.declared.path.Path.{Path}
use Rattle.lr_conf.specs.declared.layer.Layer.{Layer}
use Rattle.lr_conf.specs.declared.stop.Include.{Include}
use Rattle.lr_conf.specs.declared.stop.LayerStop.{LayerStop}
use Rattle.lr_match.specs.declared.taboo.Taboo.{Taboo}
use Rattle.lr_conf.specs.Meaning.{ConfLine, Meaning}
use Rattle.lr_conf.specs.Internal.Draft.{coming_from, asking_from, banning_from, TookIn, AsksIn, BansIn, AlikeIn, PassesIn}
use Rattle.lr_conf.specs.Internal.Draft.{files_of, file_of_draft}

-- what is kept, and what lines give from then on
abbrev pub coming : Layer → List ConfLine → Meaning
coming k lines = coming_from k.draft lines

-- the files that lines ask for from then on
abbrev pub asking : Layer → List ConfLine → List Include
asking k lines = asking_from k.draft lines

-- the taboo list behind lines from then on
abbrev pub banning : Layer → List ConfLine → Taboo
banning k lines = banning_from k.draft lines

-- What a call answered that took a line, and how lines go on behind it.
abbrev pub LayerTook : Layer → Layer → Path → ConfLine → Result (Option Include) LayerStop → Type 0
LayerTook old new file e r = TookIn old.draft new.draft file e r

-- The file for which the answer asks is the one of the line.
abbrev pub Asks : Layer → Layer → ConfLine → Result (Option Include) LayerStop → Type 0
Asks old new e r = AsksIn old.draft new.draft e r

-- The taboo list is the one behind the line.
abbrev pub Bans : Layer → Layer → ConfLine → Result (Option Include) LayerStop → Type 0
Bans old new e r = BansIn old.draft new.draft e r

-- What lines that come ask for and make taboo stays as it was.
abbrev pub Alike : Layer → Layer → Type 0
Alike old new = AlikeIn old.draft new.draft

-- The line asks for nothing and makes nothing taboo.
abbrev pub LayerPasses : Layer → Layer → ConfLine → Type 0
LayerPasses old new e = PassesIn old.draft new.draft e

-- the files that were entered and not left, and the last of them, which is read
abbrev pub entered : Layer → List Path
entered k = files_of k.draft

abbrev pub file_of_layer : Layer → Path
file_of_layer k = file_of_draft k.draft
