-- The renames and unlinks of a rotation that is ready.
use Rattle.std.specs.Prelude.{List, ◌∷◌, ◌++◌, map}
use Rattle.lr_host.specs.declared.entry.Entry.{Entry}
use Rattle.lr_host.specs.declared.entry.Entry.TheVariants.{Renames, Unlinks}
use Rattle.lr_scripts.specs.declared.removal.Removal.{Removal}
use Rattle.lr_chain.specs.declared.ready.Ready.{Ready}
use Rattle.lr_chain.specs.Ready.{shift_of}

-- the unlinks of these removals
abbrev pub unlinks : List Removal → List Entry
unlinks removals = map (λ r. Unlinks r.path) removals

-- The steps of the rotation, in order: the leftovers are unlinked, the members are moved, the log comes to its target, and those
-- are unlinked that go behind that.
abbrev pub bare_steps : Ready → List Entry
bare_steps ready = unlinks ready.leftovers ++ (shift_of ready ++ Renames ready.log ready.target ∷ unlinks ready.retire)
