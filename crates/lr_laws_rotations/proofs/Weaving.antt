-- Entries woven into others.
use Rattle.std.proofs.Common.{◌≡◌, ◌⊎◌, inl, inr, ℕ, Bool, true, false, refl, sym, ◌∙◌, ap, subst, Option, Some, None, is_some, List, ◌∷◌, ◌<◌, ℤ, pos}
use Rattle.lr_rules.specs.declared.path.Path.{Path}
use Rattle.lr_rules.proofs.Bools.{not_both}
use Rattle.lr_host.specs.declared.thing.Thing.TheVariants as thing
use Rattle.lr_host.specs.declared.entry.Entry.{Entry}
use Rattle.lr_host.specs.declared.entry.Entry.TheVariants as entry
use Rattle.lr_host.specs.declared.entry.Entry.TheVariants.{Renames, Unlinks, Makes, MakesDir}
use Rattle.lr_host.specs.World.{Names, put, names_after, Past, world, names}
use Rattle.lr_host.specs.Steps.{changes_of}
use Rattle.lr_host.specs.Sets.{LogSet, is_unplaced, in_reach}
use Rattle.lr_host.proofs.Names.{put_other}
use Rattle.lr_laws.specs.Rotation.{IsAside, IsTurn, straight, put_aside, taken_up, IsStep, limit_by, limit_after, IsRotation, LogFits}
use Rattle.lr_laws.proofs.Reach.{unplaced_reach, keyed_reach, reach_unplaced, reach_keyless}
use Rattle.lr_laws_family.specs.Beside.{MakesAt}
use Rattle.lr_laws_family.specs.Weave.{Weave, none, own, other}
use Rattle.lr_laws_family.proofs.Weaving.{both_put}

-- ---- entries outside of a set

-- the entry lies aside, and makes no directory at a path of the set
abbrev pub IsApart : LogSet → Entry → Type 0
IsApart s (MakesDir x mode) = in_reach s x ≡ false
IsApart s e = IsAside s e

pub apart_aside : (s : LogSet) (e : Entry) → IsApart s e → IsAside s e
apart_aside s (MakesDir x mode) out = tt
apart_aside s (Renames from to) out = out
apart_aside s (Unlinks x) out = out
apart_aside s (Makes x mode) out = out
apart_aside s (entry.Appends x bytes) out = out
apart_aside s (entry.Truncates x) out = out
apart_aside s (entry.Starts state now rules) out = out
apart_aside s (entry.Attach writer x at) out = out
apart_aside s (entry.Feed writer bytes at) out = out
apart_aside s (entry.Flush writer) out = out
apart_aside s (entry.Detach writer) out = out
apart_aside s (entry.Cut kept lengths) out = out
apart_aside s _ out = tt

-- ---- the names of a set, under its own steps alone and under all

abbrev pub AreAlike : LogSet → Names → Names → Type 0
AreAlike s n n' = (y : Path) → in_reach s y ≡ true → n y ≡ n' y

pub apart_alike : (s : LogSet) (n : Names) (es : List Entry) (e : Entry) → IsApart s e → AreAlike s (names_after n (changes_of es)) (names_after n (changes_of (e ∷ es)))
apart_alike s n es (Renames from to) out = λ y i.
    sym (put_other (put (names_after n (changes_of es)) from thing.Nothing) to y (names_after n (changes_of es) from) (λ same. not_both (in_reach s y) i (ap (in_reach s) same ∙ out.1))
    ∙ put_other (names_after n (changes_of es)) from y thing.Nothing (λ same. not_both (in_reach s y) i (ap (in_reach s) same ∙ out.0)))
apart_alike s n es (Unlinks x) out = λ y i. sym (put_other (names_after n (changes_of es)) x y thing.Nothing (λ same. not_both (in_reach s y) i (ap (in_reach s) same ∙ out)))
apart_alike s n es (MakesDir x mode) out = λ y i. sym (put_other (names_after n (changes_of es)) x y thing.Directory (λ same. not_both (in_reach s y) i (ap (in_reach s) same ∙ out)))
apart_alike s n es _ out = λ y i. refl

pub logged : (s : LogSet) → in_reach s s.log ≡ true
logged s = unplaced_reach s s.log (inl refl)

-- what turns is the log, or what waits aside
pub turn_from : (s : LogSet) (n : Names) (newest : ℤ) (from to : Path) → IsTurn s n newest from to → in_reach s from ≡ true
turn_from s n newest from to (straight at_log pt) = unplaced_reach s from (inl at_log)
turn_from s n newest from to (put_aside at_log a) = unplaced_reach s from (inl at_log)
turn_from s n newest from to (taken_up a file pt) = unplaced_reach s from (inr a)

-- it goes to a path that the set reaches
pub turn_to : (s : LogSet) (n : Names) (newest : ℤ) (from to : Path) → IsTurn s n newest from to → in_reach s to ≡ true
turn_to s n newest from to (straight at_log pt) = keyed_reach s to newest pt
turn_to s n newest from to (put_aside at_log a) = unplaced_reach s to (inr a)
turn_to s n newest from to (taken_up a file pt) = keyed_reach s to newest pt

-- the same under names that are alike
pub turn_as : (s : LogSet) (n n' : Names) (newest : ℤ) (from to : Path) → AreAlike s n n' → IsTurn s n newest from to → IsTurn s n' newest from to
turn_as s n n' newest from to alike (straight at_log pt) = straight at_log pt
turn_as s n n' newest from to alike (put_aside at_log a) = put_aside at_log a
turn_as s n n' newest from to alike (taken_up a file pt) = taken_up a (file.0, sym (alike from (unplaced_reach s from (inr a))) ∙ file.1) pt

from_in : (s : LogSet) (p : Past) (l : ℕ) (n : Names) (from to : Path) → IsStep s p l n (Renames from to) → in_reach s from ≡ true
from_in s p l n from to (free, inl (k, lt, pf, pt)) = keyed_reach s from (pos k) pf
from_in s p l n from to (free, inr turn) = turn_from s n (pos 0) from to turn

own_alike : (s : LogSet) (p : Past) (l : ℕ) (n : Names) (os es : List Entry) (e : Entry) → IsAside s e ⊎ IsStep s p l (names_after n (changes_of os)) e → AreAlike s (names_after n (changes_of os)) (names_after n (changes_of es))
    → AreAlike s (names_after n (changes_of (e ∷ os))) (names_after n (changes_of (e ∷ es)))
own_alike s p l n os es (Renames from to) (inl out) alike = λ y i.
    sym (apart_alike s n os (Renames from to) out y i) ∙ (alike y i ∙ apart_alike s n es (Renames from to) out y i)
own_alike s p l n os es (Renames from to) (inr st) alike = λ y i.
    both_put to y (names_after n (changes_of os) from) (names_after n (changes_of es) from) (put (names_after n (changes_of os)) from thing.Nothing) (put (names_after n (changes_of es)) from thing.Nothing)
    (alike from (from_in s p l (names_after n (changes_of os)) from to st)) (both_put from y thing.Nothing thing.Nothing (names_after n (changes_of os)) (names_after n (changes_of es)) refl (alike y i))
own_alike s p l n os es (Unlinks x) st alike = λ y i. both_put x y thing.Nothing thing.Nothing (names_after n (changes_of os)) (names_after n (changes_of es)) refl (alike y i)
own_alike s p l n os es (MakesDir x mode) st alike = λ y i. both_put x y thing.Directory thing.Directory (names_after n (changes_of os)) (names_after n (changes_of es)) refl (alike y i)
own_alike s p l n os es _ st alike = alike

-- ---- limits

out_limit : (o : Option ℤ) (b : Bool) (l : ℕ) → is_some o ≡ false → b ≡ false → limit_by o b l ≡ l
out_limit (Some k) b l p q = absurd (cc)
out_limit None true l p q = absurd (cc)
out_limit None false l p q = refl

apart_limit : (s : LogSet) (limit : ℕ) (es : List Entry) (e : Entry) → IsApart s e → limit_after s limit (e ∷ es) ≡ limit_after s limit es
apart_limit s limit es (Renames from to) out = out_limit (s.key from) (is_unplaced s from) (limit_after s limit es) (reach_keyless s from out.0) (reach_unplaced s from out.0)
apart_limit s limit es _ out = refl

own_limit : (s : LogSet) (limit : ℕ) (os es : List Entry) (e : Entry) → limit_after s limit os ≡ limit_after s limit es → limit_after s limit (e ∷ os) ≡ limit_after s limit (e ∷ es)
own_limit s limit os es (Renames from to) same = ap (limit_by (s.key from) (is_unplaced s from)) same
own_limit s limit os es _ same = same

-- ---- a rotation with others between its steps

step_as : (s : LogSet) (p : Past) (l l' : ℕ) (n n' : Names) (e : Entry) → l ≡ l' → AreAlike s n n' → IsStep s p l n e → IsStep s p l' n' e
step_as s p l l' n n' (Renames from to) same alike (free, inl (k, lt, pf, pt)) = (sym (alike to (keyed_reach s to _ pt)) ∙ free, inl (k, subst (λ m. k < m) same lt, pf, pt))
step_as s p l l' n n' (Renames from to) same alike (free, inr turn) = (sym (alike to (turn_to s n (pos 0) from to turn)) ∙ free, inr (turn_as s n n' (pos 0) from to alike turn))
step_as s p l l' n n' (Unlinks x) same alike (inl a) = inl a
step_as s p l l' n n' (Unlinks x) same alike (inr (k, pl, inl count)) = inr (k, pl, inl count)
step_as s p l l' n n' (Unlinks x) same alike (inr (k, pl, inr old)) = inr (k, pl, inr (λ g is. old g (alike x (keyed_reach s x (pos k) pl) ∙ is)))
step_as s p l l' n n' (Makes x mode) same alike st = st
step_as s p l l' n n' _ same alike st = absurd st

pub record IsWoven (s : LogSet) (p : Past) (limit : ℕ) (os es : List Entry) : Type 0 where
  pub rotation : IsRotation s p limit es
  pub fits : LogFits s (names (world p)) es
  pub limits : limit_after s limit os ≡ limit_after s limit es
  pub alike : AreAlike s (names_after (names (world p)) (changes_of os)) (names_after (names (world p)) (changes_of es))

-- the entry is apart, or makes the set's log anew
abbrev pub IsApartOrMakes : LogSet → Entry → Type 0
IsApartOrMakes s e = IsApart s e ⊎ MakesAt s.log e

-- the making of the log is a step of the rotation, and changes no name that the rotation asks for
anew_more : (s : LogSet) (p : Past) (limit : ℕ) (os es : List Entry) (e : Entry) → MakesAt s.log e → IsWoven s p limit os es → IsWoven s p limit os (e ∷ es)
anew_more s p limit os es (Makes x mode) is k = record { rotation = (k.rotation, inr is); fits = (k.fits, λ to renames. absurd (cc)); limits = k.limits; alike = k.alike }
anew_more s p limit os es _ is k = absurd is

pub woven : (s : LogSet) (p : Past) (limit : ℕ) (os es : List Entry) → Weave (IsApartOrMakes s) os es → IsRotation s p limit os → LogFits s (names (world p)) os → IsWoven s p limit os es
woven s p limit _ _ none rot fit = record { rotation = tt; fits = tt; limits = refl; alike = λ y i. refl }
woven s p limit _ _ (own {steps = os} {all = es} e w) rot fit = more (woven s p limit os es w rot.0 fit.0)
  where
    n : Names
    n = names (world p)

    step : (k : IsWoven s p limit os es) → IsAside s e ⊎ IsStep s p (limit_after s limit os) (names_after n (changes_of os)) e → IsAside s e ⊎ IsStep s p (limit_after s limit es) (names_after n (changes_of es)) e
    step k (inl out) = inl out
    step k (inr st) = inr (step_as s p (limit_after s limit os) (limit_after s limit es) (names_after n (changes_of os)) (names_after n (changes_of es)) e k.limits k.alike st)

    more : IsWoven s p limit os es → IsWoven s p limit (e ∷ os) (e ∷ es)
    more k = record {
      rotation = (k.rotation, step k rot.1);
      fits = (k.fits, λ to is. let f = fit.1 to is in (f.0, sym (k.alike s.log (logged s)) ∙ f.1));
      limits = own_limit s limit os es e k.limits;
      alike = own_alike s p (limit_after s limit os) n os es e rot.1 k.alike;
    }
woven s p limit os _ (other {all = es} e (inr anew) w) rot fit = anew_more s p limit os es e anew (woven s p limit os es w rot fit)
woven s p limit os _ (other {all = es} e (inl out) w) rot fit = more (woven s p limit os es w rot fit)
  where
    n : Names
    n = names (world p)

    none_to : (e : Entry) → IsApart s e → (to : Path) → e ≡ Renames s.log to → ⊥
    none_to e out to is = let o = subst (IsApart s) is out in not_both (in_reach s s.log) (logged s) o.0

    more : IsWoven s p limit os es → IsWoven s p limit os (e ∷ es)
    more k = record {
      rotation = (k.rotation, inl (apart_aside s e out));
      fits = (k.fits, λ to is. absurd (none_to e out to is));
      limits = k.limits ∙ sym (apart_limit s limit es e out);
      alike = λ y i. k.alike y i ∙ apart_alike s n es e out y i;
    }
