-- How the log and the members of a rotation that is made ready stand under the names of a disk, be its names numbers or dates, and
-- what it makes of them.
use Rattle.std.specs.Prelude.{ℕ, List, reverse, Option, Some, None}
use Rattle.lr_rules.specs.declared.clock.Clock.{Clock}
use Rattle.lr_rules.specs.declared.path.Path.{Path}
use Rattle.lr_rules.specs.declared.rule.Count.{Count}
use Rattle.lr_rules.specs.declared.rule.Format.{Format}
use Rattle.lr_rules.specs.declared.rule.Make.{Make}
use Rattle.lr_rules.specs.declared.rule.Naming.{Naming}
use Rattle.lr_rules.specs.Path.{parent_of}
use Rattle.lr_host.specs.Fits.{IsDirectoryAt}
use Rattle.lr_host.specs.Steps.{changes_of, FitAll}
use Rattle.lr_host.specs.World.{Names, names_after}
use Rattle.lr_family.specs.declared.stand.Member.{Member}
use Rattle.lr_chain.specs.DatedReady.{dated_target, all_by}
use Rattle.lr_chain.specs.DatedTurning.{StandSo as StandDated, IsDatedTurned}
use Rattle.lr_chain.specs.Prepared.{ready_of}
use Rattle.lr_chain.specs.Ready.{ready_steps}
use Rattle.lr_chain.specs.Rotation.{places_of, going}
use Rattle.lr_chain.specs.Standing.{StandSo as StandNumbered}
use Rattle.lr_chain.specs.Turning.{IsChainTurned}

-- The log is a regular file, these members are regular files in their order, and no other member of the family names anything: by
-- the format of the dates, where there is one.
abbrev pub StandBy : Option Format → Path → Naming → Option ℕ → Clock → List Member → Names → Type 0
StandBy None log n maxage clock members names = StandNumbered log n (places_of members) names
StandBy (Some format) log n maxage clock members names = StandDated n log (dated_target n clock members)
    (all_by n maxage clock members) names

-- The family was turned: the log's file and those of the members are where they belong, less those that the count leaves no room
-- for or that were too old; each other path names what it named.
abbrev pub AreTurnedBy : Option Format → Path → Naming → Count → Option ℕ → Clock → List Member → Names → Names → Type 0
AreTurnedBy None log n c maxage clock members before after =
    IsChainTurned log n c (going c maxage clock.now.seconds members) before after
AreTurnedBy (Some format) log n c maxage clock members before after =
    IsDatedTurned n log (dated_target n clock members) c (all_by n maxage clock members) before after

-- wherever they stand so, and the target's directory is there, the steps of what is ready fit one after another
abbrev pub FitsWhereTheyStand : Path → Naming → Count → Option ℕ → Clock → Make → List Member → Type 0
FitsWhereTheyStand log n c maxage clock anew members = (names : Names)
    → IsDirectoryAt names (parent_of (ready_of log n c maxage clock anew members).target)
    → StandBy n.dated log n maxage clock members names → FitAll names
    (reverse (ready_steps (ready_of log n c maxage clock anew members)))

-- and turn the family
abbrev pub ReadyTurnsFamily : Path → Naming → Count → Option ℕ → Clock → Make → List Member → Type 0
ReadyTurnsFamily log n c maxage clock anew members = (names : Names) → StandBy n.dated log n maxage clock members names
    → AreTurnedBy n.dated log n c maxage clock members names
    (names_after names (changes_of (reverse (ready_steps (ready_of log n c maxage clock anew members)))))
