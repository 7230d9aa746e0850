-- Looks that are true of the disk: what stood at the first moment is among what they saw, and nothing else is but what came up to
-- the second.
use Rattle.std.specs.Prelude.{◌≡◌, ◌≢◌, ℕ, true, false, List, [], ◌∷◌, Option, Some, None, Ok, slice_get}
use Rattle.lr_rules.specs.declared.path.Path.{Path}
use Rattle.lr_rules.specs.declared.rule.Naming.{Naming}
use Rattle.lr_rules.specs.declared.rule.Rule.{Rule}
use Rattle.lr_rules.specs.Match.{WordGives, is_wildcard, literal_path}
use Rattle.lr_rules.specs.Names.{aside_path}
use Rattle.lr_rules.specs.Path.{path_fault}
use Rattle.lr_host.specs.declared.thing.Kind.TheVariants as kind
use Rattle.lr_host.specs.declared.thing.Seen.{Seen}
use Rattle.lr_host.specs.declared.thing.Thing.TheVariants as thing
use Rattle.lr_host.specs.Fits.{IsFileAt}
use Rattle.lr_host.specs.Lists.{IsIn}
use Rattle.lr_host.specs.Looks.{IsFile}
use Rattle.lr_host.specs.World.{Past, world, names}
use Rattle.lr_family.specs.declared.stand.Member.{Member}
use Rattle.lr_family.specs.declared.stand.Stand.{Stand}
use Rattle.lr_family.specs.Parts.{IsMember, IsMembersPart}
use Rattle.lr_glob.specs.declared.found.Found.{Found as Match}
use Rattle.lr_laws_looks.specs.Finds.{FindsFile, StoodOrCame}
use Rattle.lr_plan.specs.declared.looks.LogLook.{LogLook}
use Rattle.lr_plan.specs.declared.looks.SetLooks.{SetLooks}
use Rattle.lr_looks.specs.Asked.{AskedWord, asked_by}
use Rattle.lr_looks.specs.Sights.{WordSight}

-- What a word came to.
pub record IsTrueWord (w : AskedWord) (matches : List Match) (before behind : Past) : Type 0 where
  -- each regular file that the word gives and that stood
  pub files : (x : Path) → path_fault x ≡ None → IsFileAt (names (world before)) x → WordGives w.text x → FindsFile x matches
  -- of a literal word whatever stood at its one path
  pub literal : is_wildcard w.text ≡ false → path_fault (literal_path w.text) ≡ None
      → names (world before) (literal_path w.text) ≢ thing.Nothing
      → (m : Match) × (matches ≡ m ∷ []) × (m.path ≡ literal_path w.text)
  -- each file among them stood, or a writer was attached to its path since
  pub came : (m : Match) → IsIn m matches → m.seen.kind ≡ kind.File → StoodOrCame m.path before behind

-- One of the members has the path.
abbrev pub HasMember : List Member → Path → Type 0
HasMember members x = (m : Member) × IsIn m members × (m.path ≡ x)

-- What stands of a family.
pub record IsTrueFamily (n : Naming) (stand : Stand) (before behind : Past) : Type 0 where
  -- each member that stood, numbered or dated, and each part file of a member
  pub members : (x : Path) → IsMember n x → IsFileAt (names (world before)) x → HasMember stand.members x
  pub parts : (x : Path) → IsMembersPart n x → IsFileAt (names (world before)) x → IsIn x stand.parts
  -- each of them stood, or a writer was attached to its path since
  pub member_came : (m : Member) → IsIn m stand.members → StoodOrCame m.path before behind
  pub part_came : (x : Path) → IsIn x stand.parts → StoodOrCame x before behind

-- What was seen where a log waits that is set aside.
pub record IsTrueAside (log : Path) (tmp : Option Seen) (before behind : Past) : Type 0 where
  -- what stood there was seen, a file as one
  pub stood : names (world before) (aside_path log) ≢ thing.Nothing → tmp ≢ None
  pub file : IsFileAt (names (world before)) (aside_path log) → IsFile tmp
  -- a file that was seen stood, or a writer was attached to its path since
  pub came : IsFile tmp → StoodOrCame (aside_path log) before behind

-- So is what looks came to, by what they saw at the words of these rules, and by the logs that they looked at whole: at each word,
-- and at each family, that no fault passed over, and where each of these logs waits whose rule sets it aside.
pub record AreTrue (rules : List Rule) (sights : List WordSight) (sets : List SetLooks) (before behind : Past) : Type 0 where
  pub words : (place : ℕ) (w : AskedWord) (matches : List Match) → slice_get (asked_by rules) place ≡ Some w
      → slice_get sights place ≡ Some (Ok matches) → IsTrueWord w matches before behind
  pub families : (set : SetLooks) (look : LogLook) → IsIn set sets → IsIn look set.logs
      → IsTrueFamily look.family.naming look.stand before behind
  pub aside : (set : SetLooks) (look : LogLook) → IsIn set sets → IsIn look set.logs → look.family.naming.aside ≡ true
      → IsTrueAside look.path look.tmp before behind
