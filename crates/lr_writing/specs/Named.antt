-- When the state's path gets its new file.
use Rattle.std.specs.Prelude.{◌≡◌, ◌≢◌, ℕ, List, [], ◌∷◌, ◌++◌, map, Some}
use Rattle.lr_rules.specs.declared.path.Path.{Path}
use Rattle.lr_rules.specs.Path.{parent_of}
use Rattle.lr_rules.specs.StatePath.{state_part}
use Rattle.lr_host.specs.declared.entry.Entry.{Entry}
use Rattle.lr_host.specs.declared.entry.Entry.TheVariants.{Renames, Makes, Appends, Truncates, Unlinks, SyncsFile, SyncsDir}
use Rattle.lr_host.specs.declared.entry.Entry.TheVariants.{MakesDir}
use Rattle.lr_host.specs.Told.{Each, Maybe}
use Rattle.lr_host.specs.Appending.{Appended}

-- an entry of the tool that changes neither what the path names nor the bytes of a file at that path
abbrev pub Spares : Path → Entry → Type 0
Spares x (Renames from to) = (from ≢ x) × (to ≢ x)
Spares x (Makes y mode) = y ≢ x
Spares x (Appends y piece) = y ≢ x
Spares x (Truncates y) = y ≢ x
Spares x (Unlinks y) = y ≢ x
Spares x (MakesDir y mode) = y ≢ x
Spares x _ = Unit {0}

-- Behind these entries the part file has the text, durably, and the name changes in the directories are durable: an old file was
-- unlinked or there was none; then the new one was made, got the text in pieces, and was synced; and each directory was.
pub record IsTextReady (state : Path) (dirs : List Path) (text : List ℕ) (before : List Entry) : Type 0 where
  pub cleared : List Entry
  pub pieces : List Entry
  pub before_is : before ≡ cleared ++ (Makes (state_part state) (Some 416) ∷
      (pieces ++ (SyncsFile (state_part state) ∷ map SyncsDir dirs)))
  pub cleared_is : Maybe (Unlinks (state_part state)) cleared
  pub text_is : Appended (state_part state) text pieces

-- The state's path got a part file that was ready, by the one entry that touches it, and that is durable.
pub record StateIsNamed (state : Path) (dirs : List Path) (text : List ℕ) (ts : List Entry) : Type 0 where
  pub before : List Entry
  pub ts_are : ts ≡ before ++ (Renames (state_part state) state ∷ SyncsDir (parent_of state) ∷ [])
  pub ready : IsTextReady state dirs text before
  pub spared : Each (Spares state) before

-- The state's path was spared; or one entry touches it, the rename of a part file that was ready, and behind it comes the sync of
-- the directory, if anything.
pub data NamedLast (state : Path) (dirs : List Path) (text : List ℕ) (ts : List Entry) : Type 0 where
  not_named : Each (Spares state) ts → NamedLast state dirs text ts
  named : (before after : List Entry) → ts ≡ before ++ (Renames (state_part state) state ∷ after)
      → IsTextReady state dirs text before
      → Each (Spares state) before → Maybe (SyncsDir (parent_of state)) after → NamedLast state dirs text ts
