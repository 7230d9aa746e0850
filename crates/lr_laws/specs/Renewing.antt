-- What a tool leaves that writes its state last.
use Rattle.std.specs.Prelude.{◌≡◌, ◌⊎◌, ℕ, false, List, ◌∷◌, ◌++◌, map, Option}
use Rattle.std.specs.List.{flat_map}
use Rattle.lr_rules.specs.declared.path.Path.{Path}
use Rattle.lr_rules.specs.Path.{parent_of}
use Rattle.lr_rules.specs.StatePath.{state_part}
use Rattle.lr_host.specs.declared.thing.Thing.TheVariants as thing
use Rattle.lr_host.specs.declared.entry.Entry.{Entry}
use Rattle.lr_host.specs.declared.entry.Entry.TheVariants.{Makes, Appends, SyncsFile, SyncsDir, Renames}
use Rattle.lr_host.specs.Lists.{IsIn}
use Rattle.lr_host.specs.Quiet.{is_disk_change}
use Rattle.lr_host.specs.Told.{Each}
use Rattle.lr_host.specs.World.{Past, world, names}
use Rattle.lr_laws.specs.Follow.{changed_paths}
use Rattle.lr_laws.specs.StateWhole.{renamed_paths}

-- the entry changes neither what the path names nor bytes of a file at that path
abbrev pub LeavesAlone : Path → Entry → Type 0
LeavesAlone x e = IsIn x (changed_paths e) → ⊥

-- each path whose name the entry changes is the part file's, or stands right in one of these directories
abbrev pub IsWithinDirs : Path → List Path → Entry → Type 0
IsWithinDirs part dirs e = (x : Path) → IsIn x (renamed_paths e) → (x ≡ part) ⊎ IsIn (parent_of x) dirs

-- Behind changes in these directories alone, none of which is of the state, the part file was made, got the text in pieces, and was
-- synced; each of the directories was synced; then the part file got the state's path, and behind that nothing was changed.
pub record Renews (state : Path) (dirs : List Path) (text : List ℕ) (ts : List Entry) : Type 0 where
  pub front : List Entry
  pub mode : Option ℕ
  pub pieces : List (List ℕ)
  pub after : List Entry
  pub ts_are : ts ≡ front ++ (Makes (state_part state) mode ∷
      (map (Appends (state_part state)) pieces ++ (SyncsFile (state_part state) ∷
      (map SyncsDir dirs ++ (Renames (state_part state) state ∷ after)))))
  pub aside : Each (LeavesAlone state) front
  pub within : Each (IsWithinDirs (state_part state) dirs) front
  pub text_is : flat_map (λ piece. piece) pieces ≡ text
  pub nothing_more : Each (λ e. is_disk_change e ≡ false) after

-- The state was left alone; or it was renewed so, with one of these texts.
pub data MayRenew (state : Path) (IsText : List ℕ → Type 0) (ts : List Entry) : Type 0 where
  left_alone : Each (LeavesAlone state) ts → MayRenew state IsText ts
  renewed : (dirs : List Path) (text : List ℕ) → IsText text → Renews state dirs text ts → MayRenew state IsText ts

-- It was renewed so, and behind that the state's directory was synced.
pub record IsWritten (state : Path) (dirs : List Path) (text : List ℕ) (ts : List Entry) : Type 0 where
  pub renews : Renews state dirs text ts
  pub earlier : List Entry
  pub later : List Entry
  pub after_is : renews.after ≡ earlier ++ (SyncsDir (parent_of state) ∷ later)

-- The path names a file with these bytes.
pub record HasText (x : Path) (text : List ℕ) (p : Past) : Type 0 where
  pub file : ℕ
  pub named : names (world p) x ≡ thing.File file
  pub bytes : ((world p).files file).bytes ≡ text
