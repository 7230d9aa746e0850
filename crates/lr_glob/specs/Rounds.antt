-- What the parts of a word came to, one after another.
use Rattle.std.specs.Prelude.{◌≡◌, Bool, true, false, List, [], ◌∷◌, ℕ, map, flat_map}
use Rattle.lr_rules.specs.declared.path.Path.{Path}
use Rattle.lr_rules.specs.Match.{is_wildcard, literal_path}
use Rattle.lr_host.specs.declared.entry.Entry.{Entry}
use Rattle.lr_glob.specs.Gathers.{Gathers}
use Rattle.lr_glob.specs.Parts.{JoinOf, PickOf}
use Rattle.lr_glob.specs.Visits.{WordVisit, visit_names, visit_entries}

-- What a part came to: nothing had to be asked for, or each directory was visited.
pub data Round : Type 0 where
  Went : Round
  Asked : List WordVisit → Round

abbrev pub round_entries : Round → List Entry
round_entries Went = []
round_entries (Asked visits) = flat_map visit_entries visits

-- what the names that were listed at a visit give
abbrev pub Picks : List ℕ → WordVisit → List Path → Type 0
Picks part v paths = Gathers (PickOf part v.dir) (visit_names v) paths

-- The part leads from these paths to those, by what the round gave: a wildcard to the names that it matches in each of them,
-- another to its one name in each.
abbrev pub FollowsBy : Bool → List ℕ → List Path → Round → List Path → Type 0
FollowsBy true part dirs (Asked visits) paths = (map (λ v. v.dir) visits ≡ dirs) × Gathers (Picks part) visits paths
FollowsBy false part dirs Went paths = Gathers (λ dir its. JoinOf dir (literal_path part) its) dirs paths
FollowsBy _ part dirs _ paths = ⊥

abbrev pub FollowsPart : List ℕ → List Path → Round → List Path → Type 0
FollowsPart part dirs round paths = FollowsBy (is_wildcard part) part dirs round paths

-- The parts lead from these paths to those, one after another.
pub data Leads : List (List ℕ) → List Path → List Round → List Path → Type 0 where
  there : (dirs : List Path) → Leads [] dirs [] dirs
  on : (part : List ℕ) (parts : List (List ℕ)) (dirs between paths : List Path) (round : Round) (rounds : List Round)
      → FollowsPart part dirs round between → Leads parts between rounds paths → Leads (part ∷ parts) dirs (round ∷ rounds) paths

-- One part was followed; all of them were.
pub record Followed (part : List ℕ) (dirs paths : List Path) (ts : List Entry) : Type 0 where
  pub round : Round
  pub follows : FollowsPart part dirs round paths
  pub entries : ts ≡ round_entries round

pub record Led (parts : List (List ℕ)) (dirs paths : List Path) (ts : List Entry) : Type 0 where
  pub rounds : List Round
  pub leads : Leads parts dirs rounds paths
  pub entries : ts ≡ flat_map round_entries rounds
