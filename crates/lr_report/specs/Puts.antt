-- What puts gave a sink.
use Rattle.std.specs.Prelude.{◌≡◌, ◌++◌, ℕ, List, take, Option}
use Rattle.std.specs.Option.{option_map}

-- Where the sink tells what it took, this text came behind what it had.
abbrev pub Took : List ℕ → Option (List ℕ) → Option (List ℕ) → Type 0
Took text before after = after ≡ option_map (λ bytes. bytes ++ text) before

-- A first part of this text came.
abbrev pub TookPart : List ℕ → Option (List ℕ) → Option (List ℕ) → Type 0
TookPart text before after = (count : ℕ) × Took (take count text) before after
