-- The steps of logs that share their scripts fit: all rotations, and then all retirements.
use Rattle.std.proofs.Common.{◌≡◌, ◌⊎◌, inl, inr, ⊎_elim, refl, sym, ◌∙◌, ap, subst, Option, List, [], ◌∷◌, ◌++◌, append_assoc}
use Rattle.std.specs.Prelude.{filter}
use Rattle.std.specs.List.{flat_map}
use Rattle.lr_rules.specs.declared.fault.Phase.TheVariants as phase
use Rattle.lr_rules.specs.Names.{Meet}
use Rattle.lr_host.specs.declared.entry.Entry.{Entry}
use Rattle.lr_host.specs.declared.journal.Journal.{Journal}
use Rattle.lr_host.specs.Lists.{IsIn}
use Rattle.lr_host.specs.Told.{Each, Left}
use Rattle.lr_host.specs.Steps.{is_naming}
use Rattle.lr_host.proofs.Each.{each_append, each_first, each_last}
use Rattle.lr_host.proofs.Left.{left_first, left_then}
use Rattle.lr_plan.specs.declared.plan.LogPlan.{LogPlan}
use Rattle.lr_plan.specs.declared.plan.SetPlan.{SetPlan}
use Rattle.lr_plan.specs.declared.step.Step.{Step}
use Rattle.lr_plan.specs.Steps.{program, shared_steps}
use Rattle.lr_plan.specs.Steps as steps
use Rattle.lr_plan.specs.Asking.{CanMake}
use Rattle.lr_laws_rotations.specs.Calls.{CanCalls}
use Rattle.lr_laws_rotations.specs.AllTurns.{AlsoDoes}
use Rattle.lr_laws_rotations.specs.Apart.{HasNames}
use Rattle.lr_laws_rotations.specs.Target.{Target}
use Rattle.lr_laws_acts.specs.Fitting.{IsFit, AreFit, NoneMeets, DontMeet, ReadOwn, ReadsNothing}
use Rattle.lr_laws_acts.specs.Parts.{takes_name, change_of, changes_by, ArePlain, MakesOnly}
use Rattle.lr_laws_acts.specs.Planned.{IsReadyFor, AreReadyFor}
use Rattle.lr_laws_acts.proofs.Parting.{went_changes, went_only, joined_changes}
use Rattle.lr_laws_acts.proofs.Halves.{front_of, back_of, halves, back_calls}
use Rattle.lr_laws_acts.proofs.Planning.{front_is, back_is, front_plain, back_plain, program_none, program_plain}
use Rattle.lr_laws_acts.proofs.Fits.{Avoids, NamesOf, AllSucceed, Asks, asks_for, Never, none_named, naming_avoids, made_far, can_far, front_then, back_can, back_asks, rotation_far, fit_later, program_can, unchanged}

-- ---- one list behind another

can_on : (xs ys : List Step) {o : Option Journal} → CanMake o xs → ((m : Option Journal) → Left (AllSucceed xs) o m → CanMake m ys) → CanMake o (xs ++ ys)
can_on [] ys {o} can f = f o (left_first (AllSucceed []) o refl)
can_on (x ∷ xs) ys {o} can f = (can.0, λ m l. can_on xs ys (can.1 m l) (λ k l'. f k (left_then l l' (λ ts us p q. record { front = ts; back = us; joined = refl; first = p; second = q }))))

-- these names went, and of what was made besides P holds
record Went (P : Entry → Type 0) (steps ts : List Entry) : Type 0 where
  are : filter takes_name ts ≡ steps
  only : Each (MakesOnly P) ts

went_all : (P : Entry → Type 0) (ss : List Step) (ts : List Entry) → ArePlain P ss → AllSucceed ss ts → Went P (changes_by ss) ts
went_all P [] ts plain w = record { are = ap (filter takes_name) w; only = subst (Each (MakesOnly P)) (sym w) tt }
went_all P (s ∷ ss) ts plain w = let rest = went_all P ss w.back plain.1 w.second in record {
  are = joined_changes ts w.front w.back w.joined ∙ (ap (λ us. us ++ filter takes_name w.back) (went_changes P s w.front plain.0 w.first) ∙ ap (λ us. change_of s ++ us) rest.are);
  only = subst (Each (MakesOnly P)) (sym w.joined) (each_append (MakesOnly P) w.front w.back (went_only P s w.front plain.0 w.first) rest.only);
}

-- ---- what is left of one log

record HasBack (told : Option Journal) (t : Target) : Type 0 where
  names : HasNames t
  asks : Each (Asks (NamesOf t)) (back_calls t)
  far_from : (x : Target) → (Meet x.log x.naming t.log t.naming → ⊥) → Each (Avoids (NamesOf x)) (back_of t)
  fits : CanCalls told (back_calls t)

front_far : (o : Option Journal) (x t : Target) → IsFit o t → (Meet x.log x.naming t.log t.naming → ⊥) → Each (Avoids (NamesOf x)) (front_of t)
front_far o x t fit apart = each_first (Avoids (NamesOf x)) (front_of t) (back_of t) (subst (Each (Avoids (NamesOf x))) (sym (halves t)) (rotation_far x t fit apart))

-- behind its rotation
back_left : (o m : Option Journal) (t : Target) → IsFit o t → CanCalls m (back_calls t) → HasBack m t
back_left o m t fit can = record {
  names = fit.names;
  asks = back_asks t fit.names;
  far_from = λ x apart. each_last (Avoids (NamesOf x)) (front_of t) (back_of t) (subst (Each (Avoids (NamesOf x))) (sym (halves t)) (rotation_far x t fit apart));
  fits = can;
}

back_later : (x : Target) {P : List Entry → Type 0} {o m : Option Journal} → HasBack o x → Left P o m → ((ts : List Entry) → P ts → Each (Avoids (NamesOf x)) (filter is_naming ts)) → HasBack m x
back_later x b left f = record { names = b.names; asks = b.asks; far_from = b.far_from; fits = can_far (NamesOf x) (back_calls x) (asks_for (NamesOf x) (back_calls x) b.asks) b.fits left f }

turned_about : (x t : Target) → (Meet x.log x.naming t.log t.naming → ⊥) → Meet t.log t.naming x.log x.naming → ⊥
turned_about x t f m = f (m.0, ⊎_elim (λ a. inr (a.1, a.0)) (λ b. inl (b.1, b.0)) m.1)

-- the rotation's own steps leave the names of a set alone that it doesn't meet
front_avoids : (o : Option Journal) (x t : Target) (log : LogPlan) (ts : List Entry) → IsFit o t → (Meet x.log x.naming t.log t.naming → ⊥) → IsReadyFor t log → AllSucceed (steps.rotation_of log) ts → Each (Avoids (NamesOf x)) (filter is_naming ts)
front_avoids o x t log ts fit apart r w =
    let all = went_all (AlsoDoes t) (steps.rotation_of log) ts (front_plain (AlsoDoes t) t log (λ e also. also) r) w in
    naming_avoids (NamesOf x) (AlsoDoes t) ts (subst (Each (Avoids (NamesOf x))) (sym (all.are ∙ front_is t log r)) (front_far o x t fit apart)) all.only (made_far x t fit.names apart)

back_avoids : (x t : Target) (log : LogPlan) (ts : List Entry) → HasNames t → (Meet x.log x.naming t.log t.naming → ⊥) → Each (Avoids (NamesOf x)) (back_of t) → IsReadyFor t log → AllSucceed (steps.retirement_of log) ts → Each (Avoids (NamesOf x)) (filter is_naming ts)
back_avoids x t log ts names apart far r w =
    let all = went_all (AlsoDoes t) (steps.retirement_of log) ts (back_plain (AlsoDoes t) t log (λ e also. also) r) w in
    naming_avoids (NamesOf x) (AlsoDoes t) ts (subst (Each (Avoids (NamesOf x))) (sym (all.are ∙ back_is t log r)) far) all.only (made_far x t names apart)

none_in : (t : Target) (xs : List Target) (x : Target) → NoneMeets t xs → IsIn x xs → Meet x.log x.naming t.log t.naming → ⊥
none_in t [] x n i = absurd i
none_in t (y ∷ ys) x n (inl is) = subst (λ (z : Target). Meet z.log z.naming t.log t.naming → ⊥) is n.0
none_in t (y ∷ ys) x n (inr i) = none_in t ys x n.1 i

fits_later : (o m : Option Journal) (t : Target) (xs : List Target) {P : List Entry → Type 0} → NoneMeets t xs → AreFit o xs → Left P o m → ((x : Target) → (Meet x.log x.naming t.log t.naming → ⊥) → (ts : List Entry) → P ts → Each (Avoids (NamesOf x)) (filter is_naming ts)) → AreFit m xs
fits_later o m t [] n fits left f = tt
fits_later o m t (x ∷ xs) n fits left f = (fit_later x fits.0 left (f x n.0), fits_later o m t xs n.1 fits.1 left f)

-- ---- all rotations, and then the rest

fronts_can : (rest : List Step) (o : Option Journal) (ts : List Target) (logs : List LogPlan) (gone : List Target) → AreReadyFor ts logs → ReadOwn logs → AreFit o ts → DontMeet ts
    → ((d : Target) → IsIn d gone → (t : Target) → IsIn t ts → Meet d.log d.naming t.log t.naming → ⊥) → ((d : Target) → IsIn d gone → HasBack o d)
    → ((m : Option Journal) → ((x : Target) → IsIn x ts ⊎ IsIn x gone → HasBack m x) → CanMake m rest) → CanMake o (flat_map steps.rotation_of logs ++ rest)
fronts_can rest o [] [] gone r q fits dont apart done k = k o (λ x i. ⊎_elim (λ none. absurd none) (λ j. done x j) i)
fronts_can rest o [] (log ∷ logs) gone r q fits dont apart done k = absurd r
fronts_can rest o (t ∷ ts) [] gone r q fits dont apart done k = absurd r
fronts_can rest o (t ∷ ts) (log ∷ logs) gone r q fits dont apart done k =
    subst (CanMake o) (sym (append_assoc (steps.rotation_of log) (flat_map steps.rotation_of logs) rest))
    (front_then t log (flat_map steps.rotation_of logs ++ rest) r.0 q.0 fits.0.anew fits.0.fits
    (λ m l can. fronts_can rest m ts logs (t ∷ gone) r.1 q.1
    (fits_later o m t ts dont.0 fits.1 l (λ x ne us w. front_avoids o x t log us fits.0 ne r.0 w)) dont.1
    (λ d j x i. ⊎_elim (λ is. subst (λ (z : Target). Meet z.log z.naming x.log x.naming → ⊥) is (turned_about x t (none_in t ts x dont.0 i))) (λ old. apart d old x (inr i)) j)
    (λ d j. ⊎_elim (λ is. subst (HasBack m) is (back_left o m t fits.0 can))
    (λ old. back_later d (done d old) l (λ us w. front_avoids o d t log us fits.0 (apart d old t (inl refl)) r.0 w)) j)
    (λ n h. k n (λ x i. h x (⊎_elim (λ a. ⊎_elim (λ is. inr (inl is)) (λ b. inl b) a) (λ j. inr (inr j)) i)))))

backs_can : (rest : List Step) (o : Option Journal) (ts : List Target) (logs : List LogPlan) → AreReadyFor ts logs → ReadOwn logs → DontMeet ts → ((x : Target) → IsIn x ts → HasBack o x)
    → ((m : Option Journal) → CanMake m rest) → CanMake o (flat_map steps.retirement_of logs ++ rest)
backs_can rest o [] [] r q dont h k = k o
backs_can rest o [] (log ∷ logs) r q dont h k = absurd r
backs_can rest o (t ∷ ts) [] r q dont h k = absurd r
backs_can rest o (t ∷ ts) (log ∷ logs) r q dont h k =
    subst (CanMake o) (sym (append_assoc (steps.retirement_of log) (flat_map steps.retirement_of logs) rest))
    (can_on (steps.retirement_of log) (flat_map steps.retirement_of logs ++ rest) (back_can o t log r.0 q.0 (h t (inl refl)).fits)
    (λ m l. backs_can rest m ts logs r.1 q.1 dont.1
    (λ x i. back_later x (h x (inr i)) l (λ us w. (let apart = none_in t ts x dont.0 i in let own = h t (inl refl) in back_avoids x t log us own.names apart (own.far_from x apart) r.0 w))) k))

-- ---- a definition with shared scripts

program_still : (p : _) (c : _) (us : List Entry) → AllSucceed (program p c) us → filter is_naming us ≡ []
program_still p c us w = let all = went_all Never (program p c) us (program_plain Never p c) w in none_named us (all.are ∙ program_none p c) all.only

pub can_shared : (set : SetPlan) (ts : List Target) (o : Option Journal) → ReadsNothing set.first → ReadsNothing set.pre → ReadsNothing set.post → ReadsNothing set.last → ReadOwn set.logs → AreReadyFor ts set.logs → AreFit o ts → DontMeet ts → CanMake o (shared_steps set)
can_shared set ts o first pre post last q r fits dont =
    can_on (program phase.First set.first) _ (program_can phase.First set.first o first)
    (λ a la. can_on (program phase.Pre set.pre) _ (program_can phase.Pre set.pre a pre)
    (λ b lb. fronts_can (program phase.Post set.post ++ (flat_map steps.retirement_of set.logs ++ program phase.Last set.last)) b ts set.logs [] r q
    (unchanged ts (unchanged ts fits la (λ us w. program_still phase.First set.first us w)) lb (λ us w. program_still phase.Pre set.pre us w)) dont (λ d j t i. absurd j) (λ d j. absurd j)
    (λ c h. can_on (program phase.Post set.post) _ (program_can phase.Post set.post c post)
    (λ d ld. backs_can (program phase.Last set.last) d ts set.logs r q dont
    (λ x i. back_later x (h x (inl i)) ld (λ us w. subst (Each (Avoids (NamesOf x))) (sym (program_still phase.Post set.post us w)) tt))
    (λ e. program_can phase.Last set.last e last)))))
