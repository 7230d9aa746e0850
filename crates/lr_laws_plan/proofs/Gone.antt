-- Where a family's directory wasn't there, a look saw nothing at its path.
use Rattle.std.proofs.Common.{◌≡◌, false, List, [], None}
use Rattle.lr_rules.specs.declared.path.Path.{Path}
use Rattle.lr_host.specs.declared.entry.Entry.{Entry}
use Rattle.lr_host.specs.declared.entry.Entry.TheVariants as entry
use Rattle.lr_host.specs.Lists.{IsIn}
use Rattle.lr_family.specs.declared.listing.Listing.{Listing}
use Rattle.lr_looks.specs.Families.{FamilySight, ShowFamilies, LookedLog, looked_of}
use Rattle.lr_looks.specs.Found.{FoundLog}
use Rattle.lr_laws_looks.proofs.SeenListed.{all_told}

-- a look saw nothing at the path
abbrev pub IsGone : List Entry → Path → Type 0
IsGone all dir = IsIn (entry.Look dir None) all

-- of each log that was looked at whole
pub all_gone : (fs : List FoundLog) (after : List Listing) (ss : List FamilySight) (ts : List Entry) → ShowFamilies [] fs after ss ts → (x : LookedLog) → IsIn x (looked_of fs ss) → x.stand.there ≡ false → IsGone ts x.naming.dir
all_gone fs after ss ts h x i there = ((all_told ts fs after ss ts (λ e j. j) h x i).1 there).look
