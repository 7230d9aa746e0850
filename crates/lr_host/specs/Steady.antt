-- What must hold of a journal so that a set is safe in it, besides what the tool does.
use Rattle.std.specs.Prelude.{◌≡◌, ◌≢◌, All, true, Some, None}
use Rattle.lr_rules.specs.declared.path.Path.{Path}
use Rattle.lr_rules.specs.declared.rule.Way.{Way}
use Rattle.lr_rules.specs.declared.rule.Way.TheVariants.{Rename}
use Rattle.lr_rules.specs.Match.{WordGives, RuleGives, is_wildcard}
use Rattle.lr_rules.specs.Names.{naming_of, IsName, Meet}
use Rattle.lr_rules.specs.StatePath.{state_part, state_lock}
use Rattle.lr_host.specs.declared.entry.Entry.{Entry}
use Rattle.lr_host.specs.declared.entry.Entry.TheVariants.{Attach}
use Rattle.lr_host.specs.World.{Past, Opens, ◌▸◌, world, names}
use Rattle.lr_host.specs.Fits.{IsFileAt}
use Rattle.lr_host.specs.Sets.{LogSet}
use Rattle.lr_host.specs.Runs.{rules_of, state_of, StoodAtStart}

-- The path is a member of the set that only wildcards give, each of which gives the log too, and the log named a file as the run
-- began: the run passes it over.
pub record IsPassedOver (s : LogSet) (p : Past) (x : Path) : Type 0 where
  pub member : s.key x ≡ None → ⊥
  pub wildcards : All (λ r. All (λ word. WordGives word x → (is_wildcard word ≡ true) × WordGives word s.log) r.words) (rules_of p)
  pub log_stood : StoodAtStart s.log p

-- The set is steady at this moment of a run, for logs that are rotated in this way.
pub record IsSteadyAtBy (way : Way) (s : LogSet) (p : Past) : Type 0 where
  -- each rule that gives the log rotates it in this way and gives it this naming
  pub rules : All (λ r. RuleGives r s.log → (r.way ≡ way) × (naming_of r s.log ≡ s.naming)) (rules_of p)
  -- any two such rules agree in count and age
  pub agree : All (λ r. All (λ q. RuleGives r s.log → RuleGives q s.log → (r.count ≡ q.count) × (r.maxage ≡ q.maxage)) (rules_of p))
      (rules_of p)
  -- the set meets no path of the state
  pub state : (x : Path) → state_of p ≡ Some x → IsName s.log s.naming x → ⊥
  pub new_state : (x : Path) → state_of p ≡ Some x → IsName s.log s.naming (state_part x) → ⊥
  pub lock : (x : Path) → state_of p ≡ Some x → IsName s.log s.naming (state_lock x) → ⊥
  -- it meets no set of another log that a rule gives and that names a file now, but for members that the run passes over
  pub apart : (x : Path) → x ≢ s.log → IsFileAt (names (world p)) x
      → All (λ r. RuleGives r x → Meet s.log s.naming x (naming_of r x) → IsPassedOver s p x) (rules_of p)

-- so for logs that are rotated by rename
abbrev pub IsSteadyAt : LogSet → Past → Type 0
IsSteadyAt s p = IsSteadyAtBy Rename s p

-- where the entry attaches a writer, it is to such a path
abbrev pub AttachesOnly : (Path → Type 0) → Entry → Type 0
AttachesOnly P (Attach writer x at) = P x
AttachesOnly P _ = Unit {0}

-- each writer was attached to such a path
abbrev pub AttachedOnly : (Path → Type 0) → Past → Type 0
AttachedOnly P (Opens o) = Unit {0}
AttachedOnly P (p ▸ e) = AttachedOnly P p × AttachesOnly P e

-- the path is no member's
abbrev pub IsKeyless : LogSet → Path → Type 0
IsKeyless s x = s.key x ≡ None

-- the entry attaches no writer to a member
abbrev pub AttachesNoMember : LogSet → Entry → Type 0
AttachesNoMember s e = AttachesOnly (IsKeyless s) e

-- no writer was attached to a member
abbrev pub NoneAttached : LogSet → Past → Type 0
NoneAttached s p = AttachedOnly (IsKeyless s) p

-- The set is steady at each moment, for logs that are rotated in this way, and no writer is attached to a member.
abbrev pub IsSteadyBy : Way → LogSet → Past → Type 0
IsSteadyBy way s (Opens o) = Unit {0}
IsSteadyBy way s (p ▸ e) = IsSteadyBy way s p × IsSteadyAtBy way s (p ▸ e) × AttachesNoMember s e

-- so for logs that are rotated by rename
abbrev pub IsSteady : LogSet → Past → Type 0
IsSteady s p = IsSteadyBy Rename s p
