-- The rotation of a family, be its names numbers or dates, as a function of what the rule keeps, of the clock, and of the members
-- that stand.
use Rattle.std.specs.Prelude.{ℕ, ℤ, List, Option, Some, None}
use Rattle.lr_rules.specs.declared.clock.Clock.{Clock}
use Rattle.lr_rules.specs.declared.path.Path.{Path}
use Rattle.lr_rules.specs.declared.rule.Count.{Count}
use Rattle.lr_rules.specs.declared.rule.Format.{Format}
use Rattle.lr_rules.specs.declared.rule.Make.{Make}
use Rattle.lr_rules.specs.declared.rule.Naming.{Naming}
use Rattle.lr_family.specs.declared.stand.Member.{Member}
use Rattle.lr_chain.specs.declared.ready.Ready.{Ready}
use Rattle.lr_chain.specs.DatedReady.{dated_ready}
use Rattle.lr_chain.specs.Ready.{at_rest, with_members}
use Rattle.lr_chain.specs.Rotation.{places_of, going}

-- To the first of the numbered places: those leftovers go first for which the count leaves no room, the others move one place on,
-- the log comes, and those go that the count leaves no room for then, or that are too old at this moment.
abbrev pub numbered_ready : Path → Naming → Count → Option ℕ → ℤ → Make → List Member → Ready
numbered_ready log n c maxage now anew members = with_members n c (places_of members) (going c maxage now members)
    (at_rest log n anew)

-- by the format of the dates, where there is one
abbrev pub ready_by : Option Format → Path → Naming → Count → Option ℕ → Clock → Make → List Member → Ready
ready_by None log n c maxage clock anew members = numbered_ready log n c maxage clock.now.seconds anew members
ready_by (Some format) log n c maxage clock anew members = dated_ready log n c maxage clock anew members

-- The rotation, with all its paths: to the first of the numbered places, or to the clock's stamp. No directory is made by it.
abbrev pub ready_of : Path → Naming → Count → Option ℕ → Clock → Make → List Member → Ready
ready_of log n c maxage clock anew members = ready_by n.dated log n c maxage clock anew members
