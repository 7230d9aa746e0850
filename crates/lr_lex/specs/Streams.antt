-- What a stream has still to give.
use Rattle.std.specs.Prelude.{◌≡◌, ℕ, Bool, true, false, List, [], ◌∷◌, Option, Some, None, Result, Ok, Err}
use Rattle.lr_lex.specs.declared.item.Item.{Item}
use Rattle.lr_lex.specs.declared.item.LexFault.{LexFault}
use Rattle.lr_lex.specs.Items.{Told}
use Rattle.lr_lex.specs.Lexing.{ByKind}
use Rattle.lr_lex.specs.declared.stream.Stream.{Stream}
use Rattle.lr_lex.specs.Holding.{IsHeld, coming, rest_of, size_of}

-- What it holds begins a line, or the script whose whole lines it holds; so it is of each stream, from `new` on.
abbrev pub StreamStands : Stream → Type 0
StreamStands s = IsHeld s.held

-- the items and faults that are still to come, where these bytes follow: those of all bytes given and these, less what was given
-- back
abbrev pub still : Stream → List ℕ → List Told
still s more = coming s.held more

-- so many bytes were given; behind the last item or fault of all there may be fewer
abbrev pub given : Stream → ℕ
given s = size_of s.held

-- these may follow: behind the close nothing
abbrev pub MayComeBehind : Bool → List ℕ → Type 0
MayComeBehind true more = more ≡ []
MayComeBehind false more = Unit {0}

-- nothing is whole: behind the close nothing is left; before it all bytes were looked at, and are the whole lines of a script that
-- hasn't ended, if one has begun, and a line without its newline
abbrev pub HoldsNone : Stream → Bool → Type 0
HoldsNone s true = still s [] ≡ []
HoldsNone s false = rest_of s.held ≡ []

-- The answer is the first that was to come, whatever follows, and the others are still to come; none where nothing is whole; after
-- want of memory all is still to come.
abbrev pub StreamGives : Stream → Stream → Result (Option Item) LexFault → Type 0
StreamGives old new (Ok None) = ((more : List ℕ) → MayComeBehind old.closed more → still old more ≡ still new more)
    × HoldsNone new old.closed
    × (new.closed ≡ old.closed)
StreamGives old new (Ok (Some i)) = ((more : List ℕ) → MayComeBehind old.closed more → still old more ≡ Ok i ∷ still new more)
    × (new.closed ≡ old.closed)
StreamGives old new (Err f) = ByKind f.kind ((more : List ℕ) → MayComeBehind old.closed more → still old more ≡ still new more)
    ((more : List ℕ) → MayComeBehind old.closed more → still old more ≡ Err f ∷ still new more) × (new.closed ≡ old.closed)
