-- How far a pattern goes along a name before its next `*`.
use Rattle.std.specs.Prelude.{◌<◌, ◌≤◌, ◌+◌, ◌*◌, ℕ, false, List, ◌∷◌, length}
use Rattle.std.specs.Str.{chars}
use Rattle.lr_rules.specs.Match.{Matches, EndsWith}
use Rattle.lr_match.specs.Classes.{HasNoClass}
use Rattle.lr_match.specs.declared.walk.Reached.{Reached}
use Rattle.lr_match.specs.declared.walk.Reached.TheVariants as reached

-- a last part of the name is matched
pub record MatchesEnd (pattern name : List ℕ) : Type 0 where
  pub end : List ℕ
  pub ends : EndsWith name end
  pub matched : Matches false pattern end

-- The first pattern matches the first name exactly where the second does the second; and where it matches a last part of the one,
-- so does the second of the other.
pub record MatchLeadsTo (pattern name behind left : List ℕ) : Type 0 where
  pub on : Matches false pattern name → Matches false behind left
  pub back : Matches false behind left → Matches false pattern name
  pub ends : MatchesEnd pattern name → MatchesEnd behind left

-- It was matched to its end; to a `*`; or not at all.
abbrev pub Reaches : List ℕ → List ℕ → Reached → Type 0
Reaches pattern name reached.End = Matches false pattern name
Reaches pattern name (reached.Run behind left) = MatchLeadsTo pattern name (42 ∷ chars behind.now) (chars left.now)
    × (length (chars behind.now) < length pattern) × (length (chars left.now) ≤ length name)
Reaches pattern name reached.Stuck = Matches false pattern name → ⊥

-- no class begins in what stands behind the `*`
abbrev pub HasNoClassLeft : Reached → Type 0
HasNoClassLeft (reached.Run behind left) = HasNoClass (chars behind.now)
HasNoClassLeft _ = Unit {0}

-- how long what stands behind the `*` is
abbrev pub length_left : Reached → ℕ
length_left (reached.Run behind left) = length (chars behind.now)
length_left _ = 0

-- more steps than one try of a pattern of this length takes
abbrev pub reach_steps : ℕ → ℕ
reach_steps m = 7 * m + 5
