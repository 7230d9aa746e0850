-- The look where a log waits that is set aside.
use Rattle.std.proofs.Common.{◌≡◌, inl, inr, Bool, true, false, [], ◌∷◌, Option, None, Result, Ok, Err, OnErr, refl, sym, ap, ◌∙◌, subst}
use Rattle.std.specs.Prelude.{IfOk, IfErr}
use Rattle.lr_rules.specs.declared.fault.CallKind.TheVariants as call
use Rattle.lr_rules.specs.declared.path.Path.{Path}
use Rattle.lr_rules.specs.Names.{aside_path}
use Rattle.lr_host.specs.declared.thing.Seen.{Seen}
use Rattle.lr_host.specs.declared.entry.Entry.TheVariants as entry
use Rattle.lr_host.specs.declared.journal.Journal.{Journal}
use Rattle.lr_host.specs.Told.{Left, Are}
use Rattle.lr_host.proofs.Left.{left_as, left_first}
use Rattle.lr_family.specs.declared.stand.StandStop.{StandStop}
use Rattle.lr_family.specs.declared.stand.StandStop.TheVariants as stop
use Rattle.lr_looks.specs.Families.{ShowsAside, ShowsNoAside}

-- a log of another way
pub none_aside : (aside : Bool) (log : Path) {o : Option Journal} → aside ≡ false → Left (ShowsAside aside log None) o o
none_aside aside log {o} is = subst (λ b. Left (ShowsAside b log None) o o) (sym is) (left_first (ShowsAside false log None) o (refl, refl))

-- there was no memory for the path
pub unmade_aside : (aside : Bool) (log : Path) {o : Option Journal} → aside ≡ true → Left (ShowsNoAside aside log stop.Memory) o o
unmade_aside aside log {o} is = subst (λ b. Left (ShowsNoAside b log stop.Memory) o o) (sym is) (left_first (ShowsNoAside true log stop.Memory) o (inr refl, refl))

-- what the look saw
pub seen_aside : (aside : Bool) (log path : Path) (r : Result (Option Seen) StandStop) (o p : Option Journal) → aside ≡ true → path ≡ aside_path log
    → IfOk r (λ seen. Left (Are (entry.Look path seen ∷ [])) o p) → IfOk r (λ tmp. Left (ShowsAside aside log tmp) o p)
seen_aside aside log path (Ok seen) o p is e told =
    left_as told (λ ts h. subst (λ b. ShowsAside b log seen ts) (sym is) (subst (λ (x : Path). ts ≡ entry.Look x seen ∷ []) e h))
seen_aside aside log path (Err why) o p is e told = tt

-- or it failed
pub failed_aside : (aside : Bool) (log path : Path) (r : Result (Option Seen) StandStop) (o p : Option Journal) → aside ≡ true → path ≡ aside_path log
    → OnErr r (Left (Are []) o p) → IfErr r (λ why. why ≡ stop.Call call.Look path) → IfErr r (λ why. Left (ShowsNoAside aside log why) o p)
failed_aside aside log path (Ok seen) o p is e none why = tt
failed_aside aside log path (Err x) o p is e none why =
    left_as none (λ ts h. subst (λ b. ShowsNoAside b log x ts) (sym is) (inl (why ∙ ap (stop.Call call.Look) e), h))
