-- The runs of a journal, and the rotations that they begin.
use Rattle.std.specs.Prelude.{ℕ, ◌+◌, Bool, false, cond, not, ◌||◌, ◌&&◌, Any, List, [], Option, Some, None}
use Rattle.lr_rules.specs.declared.path.Path.{Path}
use Rattle.lr_rules.specs.declared.rule.Rule.{Rule}
use Rattle.lr_rules.specs.Match.{RuleGives}
use Rattle.lr_host.specs.declared.entry.Entry.{Entry}
use Rattle.lr_host.specs.declared.entry.Entry.TheVariants.{Starts, Renames, Makes, Unlinks}
use Rattle.lr_host.specs.World.{Past, Opens, ◌▸◌, world, names}
use Rattle.lr_host.specs.Fits.{IsFileAt}
use Rattle.lr_host.specs.Sets.{LogSet, in_set}

-- the rules of the run: none before the first start
abbrev pub rules_of : Past → List Rule
rules_of (Opens o) = []
rules_of (p ▸ Starts state now rules) = rules.sets
rules_of (p ▸ _) = rules_of p

-- the state file's path in the run
abbrev pub state_of : Past → Option Path
state_of (Opens o) = None
state_of (p ▸ Starts state now rules) = Some state
state_of (p ▸ _) = state_of p

-- one of the rules gives the path and has P
abbrev pub SomeRule : List Rule → Path → (Rule → Type 0) → Type 0
SomeRule rules x P = Any (λ r. RuleGives r x × P r) rules

-- the path named a file as the run began
abbrev pub StoodAtStart : Path → Past → Type 0
StoodAtStart x (Opens o) = ⊥
StoodAtStart x (p ▸ Starts state now rules) = IsFileAt (names (world p)) x
StoodAtStart x (p ▸ _) = StoodAtStart x p

-- a rename, an unlink or a make on the log or a member
abbrev pub turns : LogSet → Entry → Bool
turns s (Renames from to) = in_set s from || in_set s to
turns s (Unlinks x) = in_set s x
turns s (Makes x mode) = in_set s x
turns s _ = false

-- the run has begun a rotation of the set
abbrev pub has_begun : LogSet → Past → Bool
has_begun s (Opens o) = false
has_begun s (p ▸ Starts state now rules) = false
has_begun s (p ▸ e) = has_begun s p || turns s e

-- how many runs so far began a rotation of the set
abbrev pub rotations : LogSet → Past → ℕ
rotations s (Opens o) = 0
rotations s (p ▸ e) = rotations s p + cond (turns s e && not (has_begun s p)) 1 0
