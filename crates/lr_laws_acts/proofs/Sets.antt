-- The steps of definitions whose logs don't meet fit, wherever those before them ended.
use Rattle.std.proofs.Common.{ℕ, inl, inr, sym, subst, Bool, true, false, Option, List, [], ◌∷◌, ◌++◌, map}
use Rattle.std.specs.Prelude.{filter}
use Rattle.std.specs.List.{flat_map}
use Rattle.lr_rules.specs.declared.fault.Phase.TheVariants as phase
use Rattle.lr_host.specs.declared.journal.Journal.{Journal}
use Rattle.lr_host.specs.Lists.{IsIn}
use Rattle.lr_host.specs.Steps.{is_naming}
use Rattle.lr_plan.specs.declared.plan.LogPlan.{LogPlan}
use Rattle.lr_plan.specs.declared.plan.SetPlan.{SetPlan}
use Rattle.lr_plan.specs.Steps.{by_logs, steps_of_set}
use Rattle.lr_plan.specs.Asking.{LeadsTo, CanSet, CanSets}
use Rattle.lr_plan.specs.Done.{SetDone}
use Rattle.lr_rules.specs.declared.path.Path.{Path}
use Rattle.lr_host.specs.declared.entry.Entry.{Entry}
use Rattle.lr_host.specs.declared.entry.Entry.TheVariants as entry
use Rattle.lr_host.specs.Told.{Each}
use Rattle.lr_laws_rotations.specs.AllTurns.{AlsoDoes}
use Rattle.lr_laws_rotations.specs.Target.{Target}
use Rattle.lr_laws_acts.specs.Fitting.{AreFit, NoneMeets, DontMeet, SetReadsOwn, ReadOnlyOwn}
use Rattle.lr_laws_acts.specs.Parts.{takes_name, MakesOne, parts_of_set}
use Rattle.lr_laws_acts.specs.Planned.{AreReadyFor, HaveLogs}
use Rattle.lr_laws_acts.proofs.Parting.{set_parts, all_parts, made_by}
use Rattle.lr_laws_acts.proofs.Planning.{OfMakings, own_makings, AllLogs, set_is, set_out}
use Rattle.lr_laws_acts.proofs.Shared.{can_shared}
use Rattle.lr_laws_acts.proofs.Fits.{Avoids, NamesOf, naming_avoids, made_far, can_each, unchanged, program_changes, program_can, fit_later, rotation_far}

can_set : (set : SetPlan) (ts : List Target) {o : Option Journal} → SetReadsOwn set → AreReadyFor ts set.logs → AreFit o ts → DontMeet ts → CanSet o (steps_of_set set)
can_set set ts {o} q r fits dont = go set.shared set.logs
  where
    go : (shared : Bool) (logs : List LogPlan) → CanSet o (by_logs shared logs set)
    go shared [] = record { first = tt; each = λ now leads. tt; last = λ now later a b. tt }
    go true (log ∷ logs) = record { first = can_shared set ts o q.first q.pre q.post q.last q.logs r fits dont; each = λ now leads. tt; last = λ now later a b. tt }
    go false (log ∷ logs) = record {
      first = program_can phase.First set.first o q.first;
      each = λ now leads. can_each now ts set.logs r q.logs (unchanged ts fits leads.2 (λ us c. program_changes phase.First set.first leads.0 leads.1 us c)) dont;
      last = λ now later a b. program_can phase.Last set.last later q.last;
    }

-- ---- all definitions

fits_split : (o : Option Journal) (xs ys : List Target) → AreFit o (xs ++ ys) → AreFit o xs × AreFit o ys
fits_split o [] ys f = (tt, f)
fits_split o (x ∷ xs) ys f = let r = fits_split o xs ys f.1 in ((f.0, r.0), r.1)

none_parts : (t : Target) (xs ys : List Target) → NoneMeets t (xs ++ ys) → NoneMeets t xs × NoneMeets t ys
none_parts t [] ys n = (tt, n)
none_parts t (x ∷ xs) ys n = let r = none_parts t xs ys n.1 in ((n.0, r.0), r.1)

dont_split : (xs ys : List Target) → DontMeet (xs ++ ys) → DontMeet xs × DontMeet ys
dont_split [] ys d = (tt, d)
dont_split (x ∷ xs) ys d = let r = dont_split xs ys d.1 in (((none_parts x xs ys d.0).0, r.0), r.1)

-- of each of the first, that none of the second meets it
abbrev NoneBehind : List Target → List Target → Type 0
NoneBehind [] ys = Unit {0}
NoneBehind (x ∷ xs) ys = NoneMeets x ys × NoneBehind xs ys

none_behind : (xs ys : List Target) → DontMeet (xs ++ ys) → NoneBehind xs ys
none_behind [] ys d = tt
none_behind (x ∷ xs) ys d = ((none_parts x xs ys d.0).1, none_behind xs ys d.1)

far_all : (o : Option Journal) (g : List Target) (x : Target) (ys : List Target) → AreFit o g → NoneBehind g (x ∷ ys) → AllLogs (Avoids (NamesOf x)) g
far_all o [] x ys fits n = tt
far_all o (t ∷ g) x ys fits n = (rotation_far x t fits.0 n.0.0, far_all o g x ys fits.1 n.1)

-- nor is the directory that one of them makes
none_made : (o : Option Journal) (g : List Target) (x : Target) (ys : List Target) → AreFit o g → NoneBehind g (x ∷ ys) → (y : Path) (mode : Option ℕ) → ((t : Target) × IsIn t g × AlsoDoes t (entry.MakesDir y mode)) → NamesOf x y → ⊥
none_made o [] x ys fits n y mode h i = absurd h.1
none_made o (t ∷ g) x ys fits n y mode (u, inl is, also) i = made_far x t fits.0.names n.0.0 y mode (subst (λ (v : Target). AlsoDoes v (entry.MakesDir y mode)) (sym is) also) i
none_made o (t ∷ g) x ys fits n y mode (u, inr j, also) i = none_made o g x ys fits.1 n.1 y mode (u, j, also) i

behind_less : (g : List Target) (x : Target) (ys : List Target) → NoneBehind g (x ∷ ys) → NoneBehind g ys
behind_less [] x ys n = tt
behind_less (t ∷ g) x ys n = (n.0.1, behind_less g x ys n.1)

set_later : (o m : Option Journal) (set : SetPlan) (g ys : List Target) → AreReadyFor g set.logs → AreFit o g → NoneBehind g ys → AreFit o ys → LeadsTo (SetDone (steps_of_set set)) o m → AreFit m ys
set_later o m set g [] r fits n later leads = tt
set_later o m set g (x ∷ ys) r fits n later leads = (
  fit_later x later.0 leads.2 (λ us d. set_avoids us d),
  set_later o m set g ys r fits (behind_less g x ys n) later.1 leads,
)
  where
    made : OfMakings (MakesOne g) g
    made = own_makings g g (λ t i. i)

    set_avoids : (us : List Entry) → SetDone (steps_of_set set) leads.0 leads.1 us → Each (Avoids (NamesOf x)) (filter is_naming us)
    set_avoids us d =
        let b = set_parts (MakesOne g) (steps_of_set set) leads.0 leads.1 us (set_is (MakesOne g) set g made r).1 d in
        naming_avoids (NamesOf x) (MakesOne g) us
        (all_parts (Avoids (NamesOf x)) (parts_of_set (steps_of_set set)) (filter takes_name us) (set_out (Avoids (NamesOf x)) g (parts_of_set (steps_of_set set)) (set_is (MakesOne g) set g made r).0 (far_all o g x ys fits n)) b.first)
        b.only (λ y mode h i. none_made o g x ys fits n y mode (made_by g (entry.MakesDir y mode) h) i)

pub can_sets : (o : Option Journal) (groups : List (List Target)) (sets : List SetPlan) → HaveLogs groups sets → ReadOnlyOwn sets → AreFit o (flat_map (λ ts. ts) groups) → DontMeet (flat_map (λ ts. ts) groups) → CanSets o (map steps_of_set sets)
can_sets o [] [] h q fits dont = tt
can_sets o [] (s ∷ sets) h q fits dont = absurd h
can_sets o (g ∷ gs) [] h q fits dont = absurd h
can_sets o (g ∷ gs) (s ∷ sets) h q fits dont = (
  can_set s g q.0 h.0 (fits_split o g (flat_map (λ ts. ts) gs) fits).0 (dont_split g (flat_map (λ ts. ts) gs) dont).0,
  λ m leads. can_sets m gs sets h.1 q.1 (set_later o m s g (flat_map (λ ts. ts) gs) h.0 (fits_split o g (flat_map (λ ts. ts) gs) fits).0 (none_behind g (flat_map (λ ts. ts) gs) dont) (fits_split o g (flat_map (λ ts. ts) gs) fits).1 leads)
      (dont_split g (flat_map (λ ts. ts) gs) dont).1,
)
