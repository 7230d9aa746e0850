-- The steps of a dated rotation, with others between.
use Rattle.std.proofs.Common.{◌≡◌, ◌⊎◌, inl, inr, Bool, true, false, cond, ◌||◌, refl, sym, ◌∙◌, ap, subst, is_some, List, [], ◌∷◌, ◌++◌, ℤ}
use Rattle.lr_rules.specs.declared.path.Path.{Path}
use Rattle.lr_host.specs.declared.thing.Thing.TheVariants as thing
use Rattle.lr_host.specs.declared.entry.Entry.{Entry}
use Rattle.lr_host.specs.declared.entry.Entry.TheVariants as entry
use Rattle.lr_host.specs.declared.entry.Entry.TheVariants.{Renames, Unlinks, Makes, MakesDir}
use Rattle.lr_host.specs.World.{Names, Change, put, names_after, Past, world, names}
use Rattle.lr_host.specs.Steps.{changes_of, is_change}
use Rattle.lr_host.specs.Sets.{LogSet, in_reach, AreLaterMembers}
use Rattle.lr_host.specs.Told.{Made, at_first, by_writer, by_tool}
use Rattle.lr_host.proofs.Left.{changes_filter}
use Rattle.lr_laws.proofs.Calls.{passed_aside}
use Rattle.std.specs.Prelude.{filter}
use Rattle.lr_rules.proofs.Bools.{not_both}
use Rattle.lr_laws.specs.Rotation.{IsAside, LogFits}
use Rattle.lr_laws.specs.DatedRotation.{turned_behind, IsDatedStep, IsDatedRotationBy}
use Rattle.lr_laws.proofs.DatedAside.{aside_turned}
use Rattle.lr_laws.proofs.Reach.{keyed_reach}
use Rattle.lr_laws_family.specs.Beside.{MakesAt}
use Rattle.lr_laws_family.specs.Weave.{Weave, none, own, other}
use Rattle.lr_laws_family.proofs.Weaving.{both_put}
use Rattle.lr_laws_rotations.proofs.Weaving.{AreAlike, logged, turn_from, turn_to, turn_as, IsApart, IsApartOrMakes, apart_aside, apart_alike}
use Rattle.lr_laws_rotations.specs.BesideSets.{MakesNoDir, IsBesideSet}

-- ---- entries beside the set

pub apart_of : (s : LogSet) (e : Entry) → IsAside s e → MakesNoDir s e → IsApart s e
apart_of s (MakesDir x mode) out no_dir = no_dir
apart_of s (Renames from to) out no_dir = out
apart_of s (Unlinks x) out no_dir = out
apart_of s (Makes x mode) out no_dir = out
apart_of s (entry.Appends x bytes) out no_dir = out
apart_of s (entry.Truncates x) out no_dir = out
apart_of s (entry.Starts state now rules) out no_dir = out
apart_of s (entry.Attach writer x at) out no_dir = out
apart_of s (entry.Feed writer bytes at) out no_dir = out
apart_of s (entry.Flush writer) out no_dir = out
apart_of s (entry.Detach writer) out no_dir = out
apart_of s (entry.Cut kept lengths) out no_dir = out
apart_of s _ out no_dir = tt

pub beside_apart : (s : LogSet) (e : Entry) → IsBesideSet s e → IsApartOrMakes s e
beside_apart s e (inl out) = inl (apart_of s e out.0 out.1)
beside_apart s e (inr anew) = inr anew

-- ---- the names of the set, under its own steps alone and under all

renames_alike : (s : LogSet) (n n' : Names) (from to : Path) → in_reach s from ≡ true → AreAlike s n n' → AreAlike s (put (put n from thing.Nothing) to (n from)) (put (put n' from thing.Nothing) to (n' from))
renames_alike s n n' from to inside alike = λ y i.
    both_put to y (n from) (n' from) (put n from thing.Nothing) (put n' from thing.Nothing) (alike from inside) (both_put from y thing.Nothing thing.Nothing n n' refl (alike y i))

own_alike : (s : LogSet) (p : Past) (newest : ℤ) (n : Names) (b : Bool) (os es : List Entry) (e : Entry) → IsAside s e ⊎ IsDatedStep s p newest (names_after n (changes_of os)) b e → AreAlike s (names_after n (changes_of os)) (names_after n (changes_of es))
    → AreAlike s (names_after n (changes_of (e ∷ os))) (names_after n (changes_of (e ∷ es)))
own_alike s p newest n b os es (Renames from to) (inl out) alike = λ y i.
    sym (apart_alike s n os (Renames from to) out y i) ∙ (alike y i ∙ apart_alike s n es (Renames from to) out y i)
own_alike s p newest n b os es (Renames from to) (inr st) alike = renames_alike s (names_after n (changes_of os)) (names_after n (changes_of es)) from to (turn_from s (names_after n (changes_of os)) newest from to st.2) alike
own_alike s p newest n b os es (Unlinks x) st alike = λ y i. both_put x y thing.Nothing thing.Nothing (names_after n (changes_of os)) (names_after n (changes_of es)) refl (alike y i)
own_alike s p newest n b os es (MakesDir x mode) st alike = λ y i. both_put x y thing.Directory thing.Directory (names_after n (changes_of os)) (names_after n (changes_of es)) refl (alike y i)
own_alike s p newest n b os es _ st alike = alike

-- ---- whether a member got a file

own_turned : (s : LogSet) (first : Bool) (os es : List Entry) (e : Entry) → turned_behind s first os ≡ turned_behind s first es → turned_behind s first (e ∷ os) ≡ turned_behind s first (e ∷ es)
own_turned s first os es (Renames from to) same = ap (λ (b : Bool). is_some (s.key to) || b) same
own_turned s first os es _ same = same

-- ---- a rotation with others between its steps

later_alike : (s : LogSet) (n n' : Names) (t : ℤ) (ys : List Path) → AreAlike s n n' → AreLaterMembers s.key n t ys → AreLaterMembers s.key n' t ys
later_alike s n n' t [] alike h = tt
later_alike s n n' t (y ∷ ys) alike h = (((h.0.0.0, sym (alike y (keyed_reach s y h.0.1.0 h.0.1.1)) ∙ h.0.0.1), h.0.1), later_alike s n n' t ys alike h.1)

step_as : (s : LogSet) (p : Past) (newest : ℤ) (b b' : Bool) (n n' : Names) (e : Entry) → b ≡ b' → AreAlike s n n' → IsDatedStep s p newest n b e → IsDatedStep s p newest n' b' e
step_as s p newest b b' n n' (Renames from to) same alike (unturned, free, turn) = (sym same ∙ unturned, sym (alike to (turn_to s n newest from to turn)) ∙ free, turn_as s n n' newest from to alike turn)
step_as s p newest b b' n n' (Unlinks x) same alike (inl a) = inl a
step_as s p newest b b' n n' (Unlinks x) same alike (inr (turned, k, is, inl l)) = inr (
  sym same ∙ turned,
  k,
  is,
  inl (record { count = l.count; rule = l.rule; later = l.later; distinct = l.distinct; each = later_alike s n n' k l.later alike l.each; enough = l.enough }),
)
step_as s p newest b b' n n' (Unlinks x) same alike (inr (turned, k, is, inr old)) = inr (sym same ∙ turned, k, is, inr (λ g names_it. old g (alike x (keyed_reach s x k is) ∙ names_it)))
step_as s p newest b b' n n' (Makes x mode) same alike st = st
step_as s p newest b b' n n' _ same alike st = absurd st

pub record IsDatedWoven (s : LogSet) (p : Past) (newest : ℤ) (first : Bool) (os es : List Entry) : Type 0 where
  pub rotation : IsDatedRotationBy s p newest first es
  pub fits : LogFits s (names (world p)) es
  pub turned : turned_behind s first os ≡ turned_behind s first es
  pub alike : AreAlike s (names_after (names (world p)) (changes_of os)) (names_after (names (world p)) (changes_of es))

-- the making of the log is a step of the rotation, and changes no name that the rotation asks for
anew_more : (s : LogSet) (p : Past) (newest : ℤ) (first : Bool) (os es : List Entry) (e : Entry) → MakesAt s.log e → IsDatedWoven s p newest first os es → IsDatedWoven s p newest first os (e ∷ es)
anew_more s p newest first os es (Makes x mode) is k = record { rotation = (k.rotation, inr is); fits = (k.fits, λ to renames. absurd (cc)); turned = k.turned; alike = k.alike }
anew_more s p newest first os es _ is k = absurd is

-- what lies apart renames no log
none_to : (s : LogSet) (e : Entry) → IsApart s e → (to : Path) → e ≡ Renames s.log to → ⊥
none_to s e out to is = not_both (in_reach s s.log) (logged s) (subst (IsApart s) is out).0

apart_more : (s : LogSet) (p : Past) (newest : ℤ) (first : Bool) (os es : List Entry) (e : Entry) → IsApart s e → IsDatedWoven s p newest first os es → IsDatedWoven s p newest first os (e ∷ es)
apart_more s p newest first os es e out k = record {
  rotation = (k.rotation, inl (apart_aside s e out));
  fits = (k.fits, λ to is. absurd (none_to s e out to is));
  turned = k.turned ∙ sym (aside_turned s first e es (apart_aside s e out));
  alike = λ y i. k.alike y i ∙ apart_alike s (names (world p)) es e out y i;
}

pub dated_woven : (s : LogSet) (p : Past) (newest : ℤ) (first : Bool) (os es : List Entry) → Weave (IsApartOrMakes s) os es → IsDatedRotationBy s p newest first os → LogFits s (names (world p)) os → IsDatedWoven s p newest first os es
dated_woven s p newest first _ _ none rot fit = record { rotation = tt; fits = tt; turned = refl; alike = λ y i. refl }
dated_woven s p newest first _ _ (own {steps = os} {all = es} e w) rot fit = more (dated_woven s p newest first os es w rot.0 fit.0)
  where
    n : Names
    n = names (world p)

    step : (k : IsDatedWoven s p newest first os es) → IsAside s e ⊎ IsDatedStep s p newest (names_after n (changes_of os)) (turned_behind s first os) e → IsAside s e ⊎ IsDatedStep s p newest (names_after n (changes_of es)) (turned_behind s first es) e
    step k (inl out) = inl out
    step k (inr st) = inr (step_as s p newest (turned_behind s first os) (turned_behind s first es) (names_after n (changes_of os)) (names_after n (changes_of es)) e k.turned k.alike st)

    more : IsDatedWoven s p newest first os es → IsDatedWoven s p newest first (e ∷ os) (e ∷ es)
    more k = record {
      rotation = (k.rotation, step k rot.1);
      fits = (k.fits, λ to is. let f = fit.1 to is in (f.0, sym (k.alike s.log (logged s)) ∙ f.1));
      turned = own_turned s first os es e k.turned;
      alike = own_alike s p newest n (turned_behind s first os) os es e rot.1 k.alike;
    }
dated_woven s p newest first os _ (other {all = es} e (inr anew) w) rot fit = anew_more s p newest first os es e anew (dated_woven s p newest first os es w rot fit)
dated_woven s p newest first os _ (other {all = es} e (inl out) w) rot fit = apart_more s p newest first os es e out (dated_woven s p newest first os es w rot fit)

-- ---- the entries of the walk are the tool's

pub turned_filter : (s : LogSet) (first : Bool) (es : List Entry) → turned_behind s first (filter is_change es) ≡ turned_behind s first es
turned_filter s first [] = refl
turned_filter s first (e ∷ es) = go (is_change e) refl (turned_filter s first es)
  where
    over : (e : Entry) → turned_behind s first (filter is_change es) ≡ turned_behind s first es → turned_behind s first (e ∷ filter is_change es) ≡ turned_behind s first (e ∷ es)
    over (entry.Renames from to) r = ap (λ (b : Bool). is_some (s.key to) || b) r
    over _ r = r

    passed : (e : Entry) → is_change e ≡ false → turned_behind s first (e ∷ es) ≡ turned_behind s first es
    passed (entry.Renames from to) h = absurd (cc)
    passed _ h = refl

    go : (b : Bool) → is_change e ≡ b → turned_behind s first (filter is_change es) ≡ turned_behind s first es → turned_behind s first (cond b (e ∷ filter is_change es) (filter is_change es)) ≡ turned_behind s first (e ∷ es)
    go true h r = over e r
    go false h r = r ∙ sym (passed e h)

pub rotation_filter : (s : LogSet) (newest : ℤ) (first : Bool) (p q : Past) (es : List Entry) → Made p es q → IsDatedRotationBy s p newest first (filter is_change es) → IsDatedRotationBy s p newest first es
rotation_filter s newest first p _ _ at_first r = tt
rotation_filter s newest first p _ es (by_writer {q = q} m i f) r = rotation_filter s newest first p q es m r
rotation_filter s newest first p _ _ (by_tool {es = es} {q = q} {e = e} m i f) r = go (rotation_filter s newest first p q es m) (is_change e) refl r
  where
    go : (IsDatedRotationBy s p newest first (filter is_change es) → IsDatedRotationBy s p newest first es) → (b : Bool) → is_change e ≡ b → IsDatedRotationBy s p newest first (cond b (e ∷ filter is_change es) (filter is_change es)) → IsDatedRotationBy s p newest first (e ∷ es)
    go further true h r = (
      further r.0,
      subst (λ (b : Bool). IsAside s e ⊎ IsDatedStep s p newest (names_after (names (world p)) (changes_of es)) b e) (turned_filter s first es)
          (subst (λ (cs : List Change). IsAside s e ⊎ IsDatedStep s p newest (names_after (names (world p)) cs) (turned_behind s first (filter is_change es)) e) (changes_filter es) r.1),
    )
    go further false h r = (further r, inl (passed_aside s e i h))

pub later_rotation : (s : LogSet) (p : Past) (newest : ℤ) (first : Bool) (new es : List Entry) → IsDatedRotationBy s p newest first (new ++ es) → IsDatedRotationBy s p newest first es
later_rotation s p newest first [] es r = r
later_rotation s p newest first (e ∷ new) es r = later_rotation s p newest first new es r.0
