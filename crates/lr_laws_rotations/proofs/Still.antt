-- Entries over which a run stays the same, and begins no rotation of a set.
use Rattle.std.proofs.Common.{◌≡◌, Bool, true, false, ◌||◌, refl, ◌∙◌, List, reverse}
use Rattle.std.proofs.lemmas.Bool.{or_from}
use Rattle.lr_host.specs.declared.entry.Entry.{Entry}
use Rattle.lr_host.specs.declared.entry.Entry.TheVariants as entry
use Rattle.lr_host.specs.World.{Past, ◌▸◌}
use Rattle.lr_host.specs.Told.{Each, IsWriters, Made, at_first, by_writer, by_tool}
use Rattle.lr_host.specs.Opening.{IsJournal}
use Rattle.lr_host.specs.Sets.{LogSet, in_set}
use Rattle.lr_host.specs.Runs.{rules_of, has_begun}
use Rattle.lr_host.specs.Safe.{IsSafe}
use Rattle.lr_host.specs.Steady.{NoneAttached}
use Rattle.lr_host.proofs.Each.{each_reverse, each_as}
use Rattle.lr_host.specs.Quiet.{IsQuiet, AreQuiet}
use Rattle.lr_laws.specs.Rotation.{IsAside}
use Rattle.lr_laws.proofs.Calls.{aside_walked, passed_aside}
use Rattle.lr_laws.proofs.Reach.{reach_set}

quiet_aside : (s : LogSet) (es : List Entry) → AreQuiet es → Each (IsAside s) es
quiet_aside s es quiet = each_as IsQuiet (IsAside s) es (λ e i. passed_aside s e i.0 i.1) quiet

pub quiet_safe_on : (s : LogSet) (p q : Past) (es : List Entry) → AreQuiet es → IsJournal p → IsSafe s p → Made p (reverse es) q → NoneAttached s q → IsSafe s q
quiet_safe_on s p q es quiet j safe m none = aside_walked s p q (reverse es) j safe m (quiet_aside s (reverse es) (each_reverse IsQuiet es quiet)) none

-- the run is the same, and has begun no rotation
pub record IsStill (s : LogSet) (p q : Past) : Type 0 where
  pub rules : rules_of q ≡ rules_of p
  pub begun : has_begun s p ≡ false → has_begun s q ≡ false

passed : (b : Bool) → b ≡ false → (b || false) ≡ false
passed true h = absurd (cc)
passed false h = refl

wrote_still : (s : LogSet) (p : Past) (e : Entry) → IsWriters e → IsStill s p (p ▸ e)
wrote_still s p (entry.Attach writer x at) i = record { rules = refl; begun = passed (has_begun s p) }
wrote_still s p (entry.Feed writer bytes at) i = record { rules = refl; begun = passed (has_begun s p) }
wrote_still s p (entry.Flush writer) i = record { rules = refl; begun = passed (has_begun s p) }
wrote_still s p (entry.Detach writer) i = record { rules = refl; begun = passed (has_begun s p) }
wrote_still s p _ i = absurd i

pub still_on : (s : LogSet) (p q r : Past) → IsStill s p q → IsStill s q r → IsStill s p r
still_on s p q r a b = record { rules = b.rules ∙ a.rules; begun = λ h. b.begun (a.begun h) }

-- ---- entries aside

aside_still : (s : LogSet) (p : Past) (e : Entry) → IsAside s e → IsStill s p (p ▸ e)
aside_still s p (entry.Renames from to) out = record { rules = refl; begun = λ h. or_from (has_begun s p) (in_set s from || in_set s to) h (or_from (in_set s from) (in_set s to) (reach_set s from out.0) (reach_set s to out.1)) }
aside_still s p (entry.Unlinks x) out = record { rules = refl; begun = λ h. or_from (has_begun s p) (in_set s x) h (reach_set s x out) }
aside_still s p (entry.Makes x mode) out = record { rules = refl; begun = λ h. or_from (has_begun s p) (in_set s x) h (reach_set s x out) }
aside_still s p (entry.Starts state now rules) out = absurd out
aside_still s p (entry.Attach writer x at) out = absurd out
aside_still s p (entry.Feed writer bytes at) out = absurd out
aside_still s p (entry.Flush writer) out = absurd out
aside_still s p (entry.Detach writer) out = absurd out
aside_still s p (entry.Cut kept lengths) out = absurd out
aside_still s p entry.Ends out = record { rules = refl; begun = passed (has_begun s p) }
aside_still s p (entry.Look x seen) out = record { rules = refl; begun = passed (has_begun s p) }
aside_still s p (entry.List dir listed) out = record { rules = refl; begun = passed (has_begun s p) }
aside_still s p (entry.Reads x from bytes) out = record { rules = refl; begun = passed (has_begun s p) }
aside_still s p (entry.Appends x bytes) out = record { rules = refl; begun = passed (has_begun s p) }
aside_still s p (entry.Truncates x) out = record { rules = refl; begun = passed (has_begun s p) }
aside_still s p (entry.SyncsFile x) out = record { rules = refl; begun = passed (has_begun s p) }
aside_still s p (entry.SyncsDir x) out = record { rules = refl; begun = passed (has_begun s p) }
aside_still s p (entry.MakesDir x mode) out = record { rules = refl; begun = passed (has_begun s p) }
aside_still s p (entry.Runs program args input ended) out = record { rules = refl; begun = passed (has_begun s p) }

pub made_aside : (s : LogSet) (p q : Past) (es : List Entry) → Made p es q → Each (IsAside s) es → IsStill s p q
made_aside s p _ _ at_first out = record { rules = refl; begun = λ h. h }
made_aside s p _ es (by_writer {q = q} {e = e} m i f) out = still_on s p q (q ▸ e) (made_aside s p q es m out) (wrote_still s q e i)
made_aside s p _ _ (by_tool {es = es} {q = q} {e = e} m i f) out = still_on s p q (q ▸ e) (made_aside s p q es m out.1) (aside_still s q e out.0)

-- entries that change nothing lie aside
pub made_still : (s : LogSet) (p q : Past) (es : List Entry) → Made p es q → AreQuiet es → IsStill s p q
made_still s p q es m quiet = made_aside s p q es m (quiet_aside s es quiet)
