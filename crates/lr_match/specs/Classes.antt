-- The signs of a class, as they stand before its `]`.
use Rattle.std.specs.Prelude.{◌≡◌, ℕ, Bool, true, false, List, [], ◌∷◌, drop, if◌then◌else◌}
use Rattle.std.specs.List.{list_any}
use Rattle.lr_rules.specs.Match.{is_close}

-- the characters before the first `]`
abbrev pub before_close : List ℕ → List ℕ
before_close [] = []
before_close (c ∷ cs) = if is_close c then [] else c ∷ before_close cs

-- the signs of a class that begins here: the first, which may be a `]`, and those before the next `]`
abbrev pub signs_of : List ℕ → List ℕ
signs_of [] = []
signs_of (c ∷ cs) = c ∷ before_close cs

-- whether a `!` stands first, and what stands behind it; all where none does
abbrev pub TurnedClass : List ℕ → Bool → List ℕ → Type 0
TurnedClass text true rest = text ≡ 33 ∷ rest
TurnedClass text false rest = (rest ≡ text) × ((signs : List ℕ) → text ≡ 33 ∷ signs → ⊥)

-- no class begins in the text: no `]` stands behind its first two characters
abbrev pub HasNoClass : List ℕ → Type 0
HasNoClass text = list_any is_close (drop 2 text) ≡ false

-- so many steps may still go to a search for a `]` that isn't there
abbrev pub spare : Bool → ℕ → ℕ
spare true m = m
spare false m = 0
