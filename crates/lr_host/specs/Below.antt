-- Which files names and changes may name: those whose identities are below a number.
use Rattle.std.specs.Prelude.{◌≡◌, ℕ, ◌<◌, List, [], ◌∷◌}
use Rattle.lr_rules.specs.declared.path.Path.{Path}
use Rattle.lr_host.specs.declared.thing.Thing.TheVariants as thing
use Rattle.lr_host.specs.World.{Names, Change, Puts}

-- what the names name is below it
abbrev pub NamesBelow : ℕ → Names → Type 0
NamesBelow d n = (x : Path) (g : ℕ) → n x ≡ thing.File g → g < d

-- what the change puts is below it
abbrev pub IsBelow : ℕ → Change → Type 0
IsBelow d (Puts x (thing.File g)) = g < d
IsBelow d _ = Unit {0}

abbrev pub AllBelow : ℕ → List Change → Type 0
AllBelow d [] = Unit {0}
AllBelow d (c ∷ cs) = IsBelow d c × AllBelow d cs
