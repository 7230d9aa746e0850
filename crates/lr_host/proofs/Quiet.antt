-- Where the tool changes nothing of the disk, what a look saw still stands, and what stands stood before, besides files that writers make.
use Rattle.std.proofs.Common.{◌≡◌, ◌⊎◌, inl, inr, ⊎_elim, ℕ, ◌+◌, ◌≤◌, Bool, true, false, cond, refl, sym, ◌∙◌, ap, subst, arith, List, [], ◌∷◌, ◌++◌, reverse, Option}
use Rattle.std.specs.Prelude.{filter}
use Rattle.std.proofs.lemmas.List.{reverse-reverse}
use Rattle.std.proofs.lemmas.List.Elements.{filter-append}
use Rattle.lr_rules.specs.declared.path.Path.{Path}
use Rattle.lr_host.specs.declared.entry.Entry.{Entry}
use Rattle.lr_host.specs.declared.entry.Entry.TheVariants as entry
use Rattle.lr_host.specs.Lists.{IsIn}
use Rattle.lr_host.specs.World.{Past, Opens, ◌▸◌, world, names}
use Rattle.lr_host.specs.Fits.{Fits}
use Rattle.lr_host.specs.Told.{IsTools, IsWriters, Made, at_first, by_writer, by_tool, Then}
use Rattle.lr_host.specs.Steps.{is_change}
use Rattle.lr_host.specs.Steady.{AttachesOnly, AttachedOnly}
use Rattle.lr_host.specs.Quiet.{is_disk_change, ChangeNothing, IsQuiet, AreQuiet, AttachedOnlySince, from_here, further, Quiet, here, wrote, looked}
use Rattle.lr_host.proofs.Each.{each_append, each_as, none_pass, none_passed, filter_reverse}
use Rattle.lr_host.proofs.Made.{made_on}
use Rattle.lr_host.proofs.More.{IsMore, more_on, wrote_names, attach_names}
use Rattle.lr_host.proofs.Places.{synced_names}
use Rattle.lr_host.specs.Looks.{Sees}
use Rattle.lr_host.specs.declared.thing.Seen.{Seen}

-- ---- entries that change nothing

-- what changes the disk is a change
pub no_disk_change : (e : Entry) → is_change e ≡ false → is_disk_change e ≡ false
no_disk_change (entry.Renames from to) h = absurd (cc)
no_disk_change (entry.Makes x mode) h = absurd (cc)
no_disk_change (entry.Appends x bytes) h = absurd (cc)
no_disk_change (entry.Truncates x) h = absurd (cc)
no_disk_change (entry.Unlinks x) h = absurd (cc)
no_disk_change (entry.MakesDir x mode) h = absurd (cc)
no_disk_change _ h = refl

pub disk_of_changes : (es : List Entry) → filter is_disk_change (filter is_change es) ≡ filter is_disk_change es
disk_of_changes [] = refl
disk_of_changes (e ∷ es) = go (is_change e) refl (disk_of_changes es)
  where
    none : (b : Bool) → b ≡ false → cond b (e ∷ filter is_disk_change es) (filter is_disk_change es) ≡ filter is_disk_change es
    none true h = absurd (cc)
    none false h = refl

    both : (b : Bool) (xs : List Entry) → xs ≡ filter is_disk_change es → cond b (e ∷ xs) xs ≡ cond b (e ∷ filter is_disk_change es) (filter is_disk_change es)
    both true xs r = ap (λ ys. e ∷ ys) r
    both false xs r = r

    go : (b : Bool) → is_change e ≡ b → filter is_disk_change (filter is_change es) ≡ filter is_disk_change es → filter is_disk_change (cond b (e ∷ filter is_change es) (filter is_change es)) ≡ filter is_disk_change (e ∷ es)
    go true h r = both (is_disk_change e) (filter is_disk_change (filter is_change es)) r
    go false h r = r ∙ sym (none (is_disk_change e) (no_disk_change e h))

pub quiet_changes : (ts : List Entry) → AreQuiet ts → filter is_change ts ≡ []
quiet_changes ts q = none_pass is_change ts (each_as IsQuiet (λ e. is_change e ≡ false) ts (λ e i. i.1) q)

pub quiet_still : (ts : List Entry) → AreQuiet ts → ChangeNothing ts
quiet_still ts q = none_pass is_disk_change ts (each_as IsQuiet (λ e. is_disk_change e ≡ false) ts (λ e i. no_disk_change e i.1) q)

pub quiet_both : (xs ys : List Entry) → AreQuiet xs → AreQuiet ys → AreQuiet (xs ++ ys)
quiet_both xs ys a b = each_append IsQuiet xs ys a b

pub then_quiet : {P Q : List Entry → Type 0} (ts : List Entry) → ((us : List Entry) → P us → AreQuiet us) → ((us : List Entry) → Q us → AreQuiet us) → Then P Q ts → AreQuiet ts
then_quiet ts f g t = subst AreQuiet (sym t.joined) (quiet_both t.front t.back (f t.front t.first) (g t.back t.second))

pub sees_quiet : {P : Option Seen → Type 0} (x : Path) (ts : List Entry) → Sees x P ts → AreQuiet ts
sees_quiet x ts s = subst AreQuiet (sym s.look) ((tt, refl), tt)

pub still_both : (xs ys : List Entry) → ChangeNothing xs → ChangeNothing ys → ChangeNothing (xs ++ ys)
still_both xs ys a b = filter-append is_disk_change xs ys ∙ (ap (λ us. us ++ filter is_disk_change ys) a ∙ b)

pub then_still : (P Q : List Entry → Type 0) (ts : List Entry) → ((us : List Entry) → P us → ChangeNothing us) → ((us : List Entry) → Q us → ChangeNothing us) → Then P Q ts → ChangeNothing ts
then_still P Q ts p q t = subst ChangeNothing (sym t.joined) (still_both t.front t.back (p t.front t.first) (q t.back t.second))

pub still_reverse : (es : List Entry) → ChangeNothing es → ChangeNothing (reverse es)
still_reverse es h = filter_reverse is_disk_change es ∙ ap reverse h

pub still_in_order : (es : List Entry) → ChangeNothing (reverse es) → ChangeNothing es
still_in_order es h = sym (reverse-reverse (filter is_disk_change es)) ∙ ap reverse (sym (filter_reverse is_disk_change es) ∙ h)

-- it leaves each name
pub looked_names : (p : Past) (e : Entry) (y : Path) → IsTools e → is_disk_change e ≡ false → names (world (p ▸ e)) y ≡ names (world p) y
looked_names p (entry.Renames from to) y i h = absurd (cc)
looked_names p (entry.Makes x mode) y i h = absurd (cc)
looked_names p (entry.Appends x bytes) y i h = absurd (cc)
looked_names p (entry.Truncates x) y i h = absurd (cc)
looked_names p (entry.Unlinks x) y i h = absurd (cc)
looked_names p (entry.MakesDir x mode) y i h = absurd (cc)
looked_names p (entry.Attach writer x at) y i h = absurd i
looked_names p (entry.Cut kept lengths) y i h = absurd i
looked_names p (entry.SyncsDir x) y i h = synced_names (world p) x y
looked_names p _ y i h = refl

-- ---- where writers are attached

pub attaches_as : (P Q : Path → Type 0) (e : Entry) → ((x : Path) → P x → Q x) → AttachesOnly P e → AttachesOnly Q e
attaches_as P Q (entry.Attach writer x at) f a = f x a
attaches_as P Q _ f a = tt

pub since_as : (P Q : Path → Type 0) (p q : Past) → ((x : Path) → P x → Q x) → AttachedOnlySince P p q → AttachedOnlySince Q p q
since_as P Q p _ f from_here = from_here
since_as P Q p _ f (further {q = q} {e = e} a h) = further (since_as P Q p q f a) (attaches_as P Q e f h)

-- of all of a journal, so of what came since
pub since_of : (P : Path → Type 0) (p q : Past) (es : List Entry) → Made p es q → AttachedOnly P q → AttachedOnlySince P p q
since_of P p _ _ at_first a = from_here
since_of P p _ es (by_writer {q = q} m i f) a = further (since_of P p q es m a.0) a.1
since_of P p _ _ (by_tool {es = es} {q = q} m i f) a = further (since_of P p q es m a.0) a.1

-- to any path at all
abbrev pub IsAny : Path → Type 0
IsAny x = Unit {0}

pub since_any : (p q : Past) (es : List Entry) → Made p es q → AttachedOnlySince IsAny p q
since_any p _ _ at_first = from_here
since_any p _ es (by_writer {q = q} {e = e} m i f) = further (since_any p q es m) (any e)
  where
    any : (e : Entry) → AttachesOnly IsAny e
    any (entry.Attach writer x at) = tt
    any _ = tt
since_any p _ _ (by_tool {es = es} {q = q} {e = e} m i f) = further (since_any p q es m) (any e)
  where
    any : (e : Entry) → AttachesOnly IsAny e
    any (entry.Attach writer x at) = tt
    any _ = tt

-- how many entries there are
abbrev pub size : Past → ℕ
size (Opens o) = 0
size (p ▸ e) = size p + 1

-- what goes on isn't shorter
pub made_size : (p q : Past) (es : List Entry) → Made p es q → size p ≤ size q
made_size p _ _ at_first = omega arith
made_size p _ es (by_writer {q = q} m i f) = let r = made_size p q es m in omega arith
made_size p _ _ (by_tool {es = es} {q = q} m i f) = let r = made_size p q es m in omega arith

last_attached : (P : Path → Type 0) (p r q : Past) (e : Entry) → AttachedOnlySince P p r → r ≡ q ▸ e → (p ≡ q ▸ e → ⊥) → AttachedOnlySince P p q × AttachesOnly P e
last_attached P p _ q e from_here is other = absurd (other is)
last_attached P p _ q e (further {q = r} {e = d} n f) is other = (subst (AttachedOnlySince P p) before n, subst (AttachesOnly P) last f)
  where
    before : r ≡ q
    before = cc

    last : d ≡ e
    last = cc

-- before the last entry, and of it
pub before_last : (P : Path → Type 0) (p q : Past) (e : Entry) (es : List Entry) → Made p es q → AttachedOnlySince P p (q ▸ e) → AttachedOnlySince P p q × AttachesOnly P e
before_last P p q e es m n = last_attached P p (q ▸ e) q e n refl (λ same. let a = made_size p q es m in let b : size p ≡ size q + 1 = ap size same in omega arith)

-- up to a moment on the way, and since it
pub since_before : (P : Path → Type 0) (p r q : Past) (old new : List Entry) → Made p old r → Made r new q → AttachedOnlySince P p q → AttachedOnlySince P p r
since_before P p r _ old _ first at_first n = n
since_before P p r _ old new first (by_writer {q = q} {e = e} m i f) n = since_before P p r q old new first m (before_last P p q e (new ++ old) (made_on p r q old new first m) n).0
since_before P p r _ old _ first (by_tool {es = new} {q = q} {e = e} m i f) n = since_before P p r q old new first m (before_last P p q e (new ++ old) (made_on p r q old new first m) n).0

pub since_behind : (P : Path → Type 0) (p r q : Past) (old new : List Entry) → Made p old r → Made r new q → AttachedOnlySince P p q → AttachedOnlySince P r q
since_behind P p r _ old _ first at_first n = from_here
since_behind P p r _ old new first (by_writer {q = q} {e = e} m i f) n =
    let b = before_last P p q e (new ++ old) (made_on p r q old new first m) n in
    further (since_behind P p r q old new first m b.0) b.1
since_behind P p r _ old _ first (by_tool {es = new} {q = q} {e = e} m i f) n =
    let b = before_last P p q e (new ++ old) (made_on p r q old new first m) n in
    further (since_behind P p r q old new first m b.0) b.1

-- ---- the names over a quiet stretch

pub quiet_more : (P : Path → Type 0) (p q : Past) → Quiet P p q → IsMore (names (world p)) (names (world q))
quiet_more P p _ here = λ y. inl refl
quiet_more P p _ (wrote {q = q} {e = e} w i f none) = more_on (names (world p)) (names (world q)) (names (world (q ▸ e))) (quiet_more P p q w) (λ y. wrote_names q e y i)
quiet_more P p _ (looked {q = q} {e = e} w i f h) = more_on (names (world p)) (names (world q)) (names (world (q ▸ e))) (quiet_more P p q w) (λ y. inl (looked_names q e y i h))

-- a path that no writer is attached to names what it named
pub wrote_same : (P : Path → Type 0) (p : Past) (e : Entry) (y : Path) → IsWriters e → AttachesOnly P e → (P y → ⊥) → names (world (p ▸ e)) y ≡ names (world p) y
wrote_same P p (entry.Attach v x at) y i only other = ⊎_elim (λ same. same) (λ new. absurd (other (subst P new.0 only))) (attach_names (world p) v x y at)
wrote_same P p (entry.Feed v bytes at) y i only other = refl
wrote_same P p (entry.Flush v) y i only other = refl
wrote_same P p (entry.Detach v) y i only other = refl
wrote_same P p _ y i only other = absurd i

pub quiet_same : (P : Path → Type 0) (p q : Past) (y : Path) → Quiet P p q → (P y → ⊥) → names (world q) y ≡ names (world p) y
quiet_same P p _ y here other = refl
quiet_same P p _ y (wrote {q = q} {e = e} w i f only) other = wrote_same P q e y i only other ∙ quiet_same P p q y w other
quiet_same P p _ y (looked {q = q} {e = e} w i f h) other = looked_names q e y i h ∙ quiet_same P p q y w other

-- ---- the moment of an entry

pub made_quiet : (P : Path → Type 0) (p q : Past) (es : List Entry) → AttachedOnlySince P p q → Made p es q → ChangeNothing es → Quiet P p q
made_quiet P p _ _ n at_first h = here
made_quiet P p _ es n (by_writer {q = q} {e = e} m i f) h = let b = before_last P p q e es m n in wrote (made_quiet P p q es b.0 m h) i f b.1
made_quiet P p _ _ n (by_tool {es = es} {q = q} {e = e} m i f) h =
    let b = before_last P p q e es m n in
    let s = none_passed is_disk_change e es h in
    looked (made_quiet P p q es b.0 m s.1) i f s.0

-- One of the tool's entries, where the tool changed nothing: what was just before it, and that all was quiet up to then and since.
pub record Moment (P : Path → Type 0) (p q : Past) (e : Entry) : Type 0 where
  pub at : Past
  pub since : Quiet P p at
  pub fits : Fits (world at) e
  pub until : Quiet P at q

pub moment : (P : Path → Type 0) (p q : Past) (e : Entry) (es : List Entry) → AttachedOnlySince P p q → Made p es q → ChangeNothing es → IsIn e es → Moment P p q e
moment P p _ e _ n at_first h i = absurd i
moment P p _ e es n (by_writer {q = q} {e = d} m w f) h i =
    let b = before_last P p q d es m n in
    let r = moment P p q e es b.0 m h i in
    record { at = r.at; since = r.since; fits = r.fits; until = wrote r.until w f b.1 }
moment P p _ e _ n (by_tool {es = es} {q = q} {e = d} m w f) h i = go (λ there. moment P p q e es b.0 m s.1 there) i
  where
    b : AttachedOnlySince P p q × AttachesOnly P d
    b = before_last P p q d es m n

    s : (is_disk_change d ≡ false) × (filter is_disk_change es ≡ [])
    s = none_passed is_disk_change d es h

    go : (IsIn e es → Moment P p q e) → (d ≡ e) ⊎ IsIn e es → Moment P p (q ▸ d) e
    go rest (inl same) = record { at = q; since = made_quiet P p q es b.0 m s.1; fits = subst (Fits (world q)) same f; until = looked here w f s.0 }
    go rest (inr there) = let r = rest there in record { at = r.at; since = r.since; fits = r.fits; until = looked r.until w f s.0 }

pub none_still : (ts : List Entry) → ts ≡ [] → ChangeNothing ts
none_still ts e = subst ChangeNothing (sym e) refl
