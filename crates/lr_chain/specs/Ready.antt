-- The parts of a ready rotation of numbered members, and the steps of a ready one.
use Rattle.std.specs.Prelude.{◌≡◌, ◌≤◌, ◌+◌, ◌==◌, ℕ, Bool, false, List, [], ◌∷◌, ◌++◌, map, All, Option, Some, None}
use Rattle.std.specs.List.{flat_map, list_any}
use Rattle.lr_rules.specs.declared.path.Path.{Path}
use Rattle.lr_rules.specs.declared.rule.Count.{Count}
use Rattle.lr_rules.specs.declared.rule.Count.TheVariants as count
use Rattle.lr_rules.specs.declared.rule.Make.{Make}
use Rattle.lr_rules.specs.declared.rule.Naming.{Naming}
use Rattle.lr_rules.specs.Path.{joined}
use Rattle.lr_host.specs.declared.entry.Entry.{Entry}
use Rattle.lr_host.specs.declared.entry.Entry.TheVariants.{Renames, MakesDir}
use Rattle.lr_host.specs.Told.{Then}
use Rattle.lr_family.specs.declared.stand.Member.{Member}
use Rattle.lr_family.specs.Named.{member_name}
use Rattle.lr_family.specs.Spots.{path_at}
use Rattle.lr_family.specs.Stands.{number_in}
use Rattle.lr_scripts.specs.declared.removal.Removal.{Removal}
use Rattle.lr_scripts.specs.Removals.{steps_of_removal}
use Rattle.lr_chain.specs.declared.ready.Move.{Move}
use Rattle.lr_chain.specs.declared.ready.Ready.{Ready}
use Rattle.lr_chain.specs.Directory.{DirMade}
use Rattle.lr_chain.specs.Rotation.{is_left, leftovers, kept, retired}

-- the removal of the member at this place: its unlink alone
abbrev pub removal_at : Naming → ℕ → Removal
removal_at n place = record { path = path_at n place; preremove = None; mail = None }

abbrev pub move_from : Naming → ℕ → Move
move_from n place = record { from = path_at n place; to = path_at n (place + 1) }

-- the log's way alone, and whether it is made anew behind that
abbrev pub at_rest : Path → Naming → Make → Ready
at_rest log n anew = record { leftovers = []; dir = None; moves = []; log = log; target = path_at n 0; make = anew; retire = [] }

-- the same rotation, by which this directory is made, or none
abbrev pub with_dir : Option (Path × Option ℕ) → Ready → Ready
with_dir dir ready = record {
  leftovers = ready.leftovers;
  dir = dir;
  moves = ready.moves;
  log = ready.log;
  target = ready.target;
  make = ready.make;
  retire = ready.retire;
}

-- with what is to be done with the members at these places, of which those that come from the second go
abbrev pub with_members : Naming → Count → List ℕ → List ℕ → Ready → Ready
with_members n c places from ready = record {
  leftovers = map (removal_at n) (leftovers c places);
  dir = ready.dir;
  moves = map (move_from n) (kept c places);
  log = ready.log;
  target = ready.target;
  make = ready.make;
  retire = map (removal_at n) (retired c from);
}

-- these places have names; so have those behind them of members that are moved
abbrev pub HaveNames : Naming → List ℕ → Type 0
HaveNames n places = All (λ place. n.start + place ≤ 4294967295) places

abbrev pub HaveNext : Naming → Count → List ℕ → Type 0
HaveNext n c places = All (λ place. is_left c place ≡ false → n.start + (place + 1) ≤ 4294967295) places

-- the members that come from these places have names behind the moves
abbrev pub HaveNewNames : Naming → List ℕ → Type 0
HaveNewNames n from = All (λ place. n.start + (place + 1) ≤ 4294967295) from

-- the member has the highest number that there is
abbrev pub is_highest : Naming → Member → Bool
is_highest n m = n.start + number_in m.place == 4294967295

-- the path of a member with that number
abbrev pub highest_path : Naming → Path
highest_path n = joined n.dir (member_name n 4294967295)

-- with all members kept, none of them has it
abbrev pub NoneTooHigh : Naming → Count → List Member → Type 0
NoneTooHigh n c members = c ≡ count.Always → list_any (is_highest n) members ≡ false

-- ---- the steps of a ready rotation

abbrev pub move_step : Move → Entry
move_step m = Renames m.from m.to

abbrev pub shift_of : Ready → List Entry
shift_of ready = map move_step ready.moves

abbrev pub turn_of : Ready → List Entry
turn_of ready = shift_of ready ++ Renames ready.log ready.target ∷ []

abbrev pub removals_of : List Removal → List Entry
removals_of list = flat_map steps_of_removal list

-- all of its steps, its directory aside: the leftovers go, the members move, the log goes to its target, and those behind it go
abbrev pub ready_steps : Ready → List Entry
ready_steps ready = removals_of ready.leftovers ++ (turn_of ready ++ removals_of ready.retire)

-- ---- the directory of a ready rotation, where one is to be made

-- the call that makes it, as it is asked for
abbrev pub dir_calls : Option (Path × Option ℕ) → List Entry
dir_calls None = []
dir_calls (Some (dir, mode)) = MakesDir dir mode ∷ []

-- entries of this kind, behind those of the directory
abbrev pub BehindDir : Option (Path × Option ℕ) → (List Entry → Type 0) → List Entry → Type 0
BehindDir None P = P
BehindDir (Some (dir, mode)) P = Then (DirMade dir mode) P
