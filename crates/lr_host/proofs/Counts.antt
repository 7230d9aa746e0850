-- Faults that are added, and how calls went, one part behind another.
use Rattle.std.proofs.Common.{◌≡◌, ◌≤◌, ◌+◌, ℕ, List, [], ◌∷◌, ◌++◌, Result, Ok, Err, OnOk, refl, sym, ap, ◌∙◌, subst, arith, append_assoc}
use Rattle.std.proofs.lemmas.List.{append-nil}
use Rattle.lr_rules.specs.declared.fault.CallKind.{CallKind}
use Rattle.lr_rules.specs.declared.fault.Ended.{Ended}
use Rattle.lr_rules.specs.declared.fault.Fault.{Fault}
use Rattle.lr_rules.specs.declared.fault.Fault.TheVariants as fault
use Rattle.lr_rules.specs.declared.fault.Phase.{Phase}
use Rattle.lr_rules.specs.declared.path.Path.{Path}
use Rattle.lr_host.specs.Told.{Counts, NoneFell, Onward, Rose}
use Rattle.lr_host.specs.Counted.{calls_in, bad_scripts_in, NoneAround, RoseBy, AreCounted, AddsFaults, Went, WentBy}

pub none_more : (n : ℕ) → 0 + n ≡ n
none_more n = omega arith

pub calls_on : (xs ys : List Fault) → calls_in (xs ++ ys) ≡ calls_in xs + calls_in ys
calls_on [] ys = sym (none_more (calls_in ys))
calls_on (x ∷ xs) ys = let e : calls_in (xs ++ ys) ≡ calls_in xs + calls_in ys = calls_on xs ys in omega (arith, e)

pub scripts_on : (xs ys : List Fault) → bad_scripts_in (xs ++ ys) ≡ bad_scripts_in xs + bad_scripts_in ys
scripts_on [] ys = sym (none_more (bad_scripts_in ys))
scripts_on (x ∷ xs) ys = let e : bad_scripts_in (xs ++ ys) ≡ bad_scripts_in xs + bad_scripts_in ys = scripts_on xs ys in omega (arith, e)

pub none_around_on : (xs ys : List Fault) → NoneAround xs → NoneAround ys → NoneAround (xs ++ ys)
none_around_on [] ys h g = g
none_around_on (x ∷ xs) ys h g = (h.0, none_around_on xs ys h.1 g)

pub rose_on : (a b c m n : ℕ) → RoseBy m a b → RoseBy n b c → RoseBy (m + n) a c
rose_on a b c m n e f = omega (arith, e, f)

pub counted_on : (xs ys : List Fault) (k l m : Counts) → AreCounted xs k l → AreCounted ys l m → AreCounted (xs ++ ys) k m
counted_on xs ys k l m x y = record {
  calls = subst (λ n. RoseBy n k.faults m.faults) (sym (calls_on xs ys)) (rose_on k.faults l.faults m.faults (calls_in xs) (calls_in ys) x.calls y.calls);
  scripts = subst (λ n. RoseBy n k.bad_ends m.bad_ends) (sym (scripts_on xs ys)) (rose_on k.bad_ends l.bad_ends m.bad_ends (bad_scripts_in xs) (bad_scripts_in ys) x.scripts y.scripts);
  none_around = none_around_on xs ys x.none_around y.none_around;
}

pub counted_none : (k : Counts) → AreCounted [] k k
counted_none k = record { calls = omega arith; scripts = omega arith; none_around = tt }

pub adds_on : (a b c : List Fault) (k l m : Counts) → AddsFaults a b k l → AddsFaults b c l m → AddsFaults a c k m
adds_on a b c k l m x y = record {
  added = x.added ++ y.added;
  after_is = y.after_is ∙ (ap (λ fs. fs ++ y.added) x.after_is ∙ append_assoc a x.added y.added);
  are_counted = counted_on x.added y.added k l m x.are_counted y.are_counted;
}

pub adds_none : (a : List Fault) (k : Counts) → AddsFaults a a k k
adds_none a k = record { added = []; after_is = sym (append-nil a); are_counted = counted_none k }

-- ---- faults that no count tells of

-- neither a failed call, nor a script, nor one of the clock, the zone or the output
pub record AreFree (added : List Fault) : Type 0 where
  pub calls : calls_in added ≡ 0
  pub scripts : bad_scripts_in added ≡ 0
  pub none_around : NoneAround added

pub free_none : AreFree []
free_none = record { calls = refl; scripts = refl; none_around = tt }

pub free_on : (xs ys : List Fault) → AreFree xs → AreFree ys → AreFree (xs ++ ys)
free_on xs ys h g = record {
  calls = calls_on xs ys ∙ (let a = h.calls in let b = g.calls in omega (arith, a, b));
  scripts = scripts_on xs ys ∙ (let a = h.scripts in let b = g.scripts in omega (arith, a, b));
  none_around = none_around_on xs ys h.none_around g.none_around;
}

pub counted_free : (added : List Fault) (k l : Counts) → AreFree added → NoneFell k l → AreCounted added k l
counted_free added k l h f = record {
  calls = (let z = h.calls in let le : k.faults ≤ l.faults = f.0 in omega (arith, z, le));
  scripts = (let z = h.scripts in let le : k.bad_ends ≤ l.bad_ends = f.1 in omega (arith, z, le));
  none_around = h.none_around;
}

pub adds_free : (a b added : List Fault) (k l : Counts) → b ≡ a ++ added → AreFree added → NoneFell k l → AddsFaults a b k l
adds_free a b added k l e h f = record { added = added; after_is = e; are_counted = counted_free added k l h f }

-- ---- one fault

pub counted_call : (kind : CallKind) (path : Path) (k l : Counts) → Rose k.faults l.faults → NoneFell k l → AreCounted (fault.Call kind path ∷ []) k l
counted_call kind path k l r f = record {
  calls = r;
  scripts = (let le : k.bad_ends ≤ l.bad_ends = f.1 in omega (arith, le));
  none_around = ((λ h. h), tt);
}

pub counted_script : (phase : Phase) (on : List ℕ) (end : Ended) (k l : Counts) → Rose k.bad_ends l.bad_ends → NoneFell k l → AreCounted (fault.Script phase on end ∷ []) k l
counted_script phase on end k l r f = record {
  calls = (let le : k.faults ≤ l.faults = f.0 in omega (arith, le));
  scripts = r;
  none_around = ((λ h. h), tt);
}

pub adds_call : (a b : List Fault) (kind : CallKind) (path : Path) (k l : Counts) → b ≡ a ++ fault.Call kind path ∷ [] → Rose k.faults l.faults → NoneFell k l → AddsFaults a b k l
adds_call a b kind path k l e r f = record { added = fault.Call kind path ∷ []; after_is = e; are_counted = counted_call kind path k l r f }

-- ---- how calls went

pub onward_same : (k : Counts) → Onward k k
onward_same k = ((omega arith, omega arith, omega arith), refl)

pub onward_on : (k l m : Counts) → Onward k l → Onward l m → Onward k m
onward_on k l m x y = ((omega (arith, x.0.0, y.0.0), omega (arith, x.0.1, y.0.1), omega (arith, x.0.2, y.0.2)), y.1 ∙ x.1)

-- no call was made, and nothing added
pub went_none : (a : List Fault) (k : Counts) → Went a a k k
went_none a k = record { adds = adds_none a k; onward = onward_same k }

-- nothing was added
pub went_same : (a : List Fault) (k l : Counts) → Onward k l → Went a a k l
went_same a k l h = record { adds = adds_free a a [] k l (sym (append-nil a)) free_none h.0; onward = h }

-- faults were added that no count tells of
pub went_free : (a b added : List Fault) (k l : Counts) → b ≡ a ++ added → AreFree added → Onward k l → Went a b k l
went_free a b added k l e f h = record { adds = adds_free a b added k l e f h.0; onward = h }

-- a failed call was added
pub went_call : (a b : List Fault) (kind : CallKind) (path : Path) (k l : Counts)
    → b ≡ a ++ fault.Call kind path ∷ [] → Rose k.faults l.faults → Onward k l → Went a b k l
went_call a b kind path k l e r h = record { adds = adds_call a b kind path k l e r h.0; onward = h }

-- one call went so, and then another
pub went_on : (a b c : List Fault) (k l m : Counts) → Went a b k l → Went b c l m → Went a c k m
went_on a b c k l m x y = record { adds = adds_on a b c k l m x.adds y.adds; onward = onward_on k l m x.onward y.onward }

-- one went so, and then another by its result
pub went_then : {T E : Type 0} (r : Result T E) (a b c : List Fault) (k l m : Counts)
    → Went a b k l → WentBy r b c l m → WentBy r a c k m
went_then (Ok x) a b c k l m p q = went_on a b c k l m p q
went_then (Err x) a b c k l m p q = onward_on k l m p.onward q

-- behind a call that adds nothing
pub went_behind : {T E : Type 0} (r : Result T E) (a b : List Fault) (k l m : Counts)
    → Onward k l → WentBy r a b l m → WentBy r a b k m
went_behind r a b k l m h q = went_then r a a b k l m (went_same a k l h) q

-- nothing was added, however the call ended
pub went_only : {T E : Type 0} (r : Result T E) (a : List Fault) (k l : Counts) → Onward k l → WentBy r a a k l
went_only (Ok x) a k l h = went_same a k l h
went_only (Err x) a k l h = h

-- so it went by what is known where the call ended well
pub went_where : {T E P : Type 0} (r : Result T E) (a b : List Fault) (k l : Counts)
    → (P → Went a b k l) → OnOk r P → Onward k l → WentBy r a b k l
went_where (Ok x) a b k l f p h = f p
went_where (Err x) a b k l f p h = h

-- by what a call added where it ended well
pub went_as : {T E : Type 0} (r : Result T E) (a b : List Fault) (k l : Counts)
    → OnOk r (AddsFaults a b k l) → Onward k l → WentBy r a b k l
went_as (Ok x) a b k l p h = record { adds = p; onward = h }
went_as (Err x) a b k l p h = h

-- in any case no count fell
pub went_onward : {T E : Type 0} (r : Result T E) (a b : List Fault) (k l : Counts) → WentBy r a b k l → Onward k l
went_onward (Ok x) a b k l h = h.onward
went_onward (Err x) a b k l h = h
