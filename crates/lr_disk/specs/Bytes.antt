-- What a disk gives of a file's bytes.
use Rattle.std.specs.Prelude.{◌≡◌, ℕ, ◌-◌, min, List, length}
use Rattle.lr_host.specs.declared.thing.Thing.{Thing}
use Rattle.lr_host.specs.declared.thing.Thing.TheVariants as thing
use Rattle.lr_host.specs.World.{World}

-- a read of what a path names gives so many bytes: all that there are from the place on, as far as there is room
abbrev pub GivesAll : World → Thing → ℕ → ℕ → ℕ → Type 0
GivesAll w (thing.File g) from room count = count ≡ min room (length (w.files g).bytes - from)
GivesAll w _ from room count = ⊥

-- these are the bytes of the file that is named
abbrev pub HasBytes : World → Thing → List ℕ → Type 0
HasBytes w (thing.File g) bytes = bytes ≡ (w.files g).bytes
HasBytes w _ bytes = ⊥
