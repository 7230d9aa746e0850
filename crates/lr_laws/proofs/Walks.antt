-- What holds on over the entries of a tool and of writers between.
use Rattle.std.proofs.Common.{◌≡◌, ◌≢◌, inl, inr, ⊎_elim, ◌≤◌, ◌<◌, ℕ, refl, sym, ◌∙◌, ap, subst, arith, List, [], false}
use Rattle.lr_rules.specs.declared.path.Path.{Path}
use Rattle.lr_host.specs.declared.thing.Thing.{Thing}
use Rattle.lr_host.specs.declared.thing.Thing.TheVariants as thing
use Rattle.lr_host.specs.declared.entry.Entry.{Entry}
use Rattle.lr_host.specs.declared.entry.Entry.TheVariants as entry
use Rattle.lr_host.specs.Fits.{Fits}
use Rattle.lr_host.specs.Lists.{IsIn}
use Rattle.lr_host.specs.Quiet.{is_disk_change, AttachedOnlySince}
use Rattle.lr_host.specs.Steady.{AttachesOnly}
use Rattle.lr_host.specs.Told.{Each, IsTools, IsWriters, Made, at_first, by_writer, by_tool}
use Rattle.lr_host.specs.World.{Past, ◌▸◌, world, Names, names, put, Change, Puts, changed, step}
use Rattle.lr_host.proofs.Closed.{untouched}
use Rattle.lr_host.proofs.More.{attach_names}
use Rattle.lr_host.proofs.Names.{put_other}
use Rattle.lr_host.proofs.Places.{synced_names}
use Rattle.lr_host.proofs.Quiet.{size, before_last}
use Rattle.lr_laws.proofs.Disk.{AgreeOn, drawn_grows}
use Rattle.lr_laws.specs.StateWhole.{renamed_paths, LeftAs, by_last, still, StandsAs}
use Rattle.lr_laws.proofs.Files.{IsGuarded, IsSynced, LeavesFile, writer_guards, tool_guards, writer_synced, tool_synced}
use Rattle.lr_laws.proofs.Leaving.{Lasts, lasts_on, IsWritten, makes_new, written, tool_touches, no_change, agreed}
use Rattle.lr_laws.proofs.Lists.{prefix_size}

pub made_drawn : (p q : Past) (es : List Entry) → Made p es q → (world p).drawn ≤ (world q).drawn
made_drawn p _ _ at_first = omega arith
made_drawn p _ es (by_writer {q = q} {e = e} m i f) = let r = made_drawn p q es m in let s = drawn_grows (world q) (step (world q) e) in omega (arith, r, s)
made_drawn p _ _ (by_tool {es = es} {q = q} {e = e} m i f) = let r = made_drawn p q es m in let s = drawn_grows (world q) (step (world q) e) in omega (arith, r, s)

-- ---- the last change of a path

-- a writer changes no name of the tool's
none_written : (e : Entry) (x : Path) → IsWriters e → IsIn x (renamed_paths e) → ⊥
none_written (entry.Attach v y at) x i n = n
none_written (entry.Feed v bytes at) x i n = n
none_written (entry.Flush v) x i n = n
none_written (entry.Detach v) x i n = n
none_written _ x i n = i

-- the tool leaves the name of a path that it doesn't change
pub tool_same : (q : Past) (e : Entry) (x : Path) → IsTools e → (IsIn x (renamed_paths e) → ⊥) → names (world (q ▸ e)) x ≡ names (world q) x
tool_same q (entry.Renames from to) x i n = put_other (put (names (world q)) from thing.Nothing) to x (names (world q) from) (λ e. n (inr (inl (sym e)))) ∙ put_other (names (world q)) from x thing.Nothing (λ e. n (inl (sym e)))
tool_same q (entry.Makes y mode) x i n = put_other (names (world q)) y x (thing.File (world q).drawn) (λ e. n (inl (sym e)))
tool_same q (entry.Unlinks y) x i n = put_other (names (world q)) y x thing.Nothing (λ e. n (inl (sym e)))
tool_same q (entry.MakesDir y mode) x i n = put_other (names (world q)) y x thing.Directory (λ e. n (inl (sym e)))
tool_same q (entry.SyncsDir y) x i n = synced_names (world q) y x
tool_same q (entry.Attach v y at) x i n = absurd i
tool_same q (entry.Cut kept lengths) x i n = absurd i
tool_same q _ x i n = refl

pub data LeftLast (p : Past) (x : Path) (t : Thing) (d : ℕ) (q : Past) (e : Entry) : Type 0 where
  now_left : IsIn x (renamed_paths e) → names (world (q ▸ e)) x ≡ t → (world (q ▸ e)).drawn ≡ d → LeftLast p x t d q e
  left_before : LeftAs p x t d q → (IsIn x (renamed_paths e) → ⊥) → LeftLast p x t d q e

pub left_last : (p : Past) (x : Path) (t : Thing) (d : ℕ) (r q : Past) (e : Entry) → LeftAs p x t d r → r ≡ q ▸ e → LeftLast p x t d q e
left_last p x t d _ q e (by_last {q = r} {e = f} i n is drawn) same = now_left (subst (λ (g : Entry). IsIn x (renamed_paths g)) last n) (ap (λ (v : Past). names (world v) x) (sym same) ∙ is) (ap (λ (v : Past). (world v).drawn) (sym same) ∙ drawn)
  where
    last : f ≡ e
    last = cc
left_last p x t d _ q e (still {q = r} {e = f} l n) same = left_before (subst (LeftAs p x t d) first l) (subst (λ (g : Entry). IsIn x (renamed_paths g) → ⊥) last n)
  where
    first : r ≡ q
    first = cc

    last : f ≡ e
    last = cc

left_longer : (p : Past) (x : Path) (t : Thing) (d : ℕ) (q : Past) → LeftAs p x t d q → size p < size q
left_longer p x t d _ (by_last {q = q} i n is drawn) = let r = prefix_size p q i in omega arith
left_longer p x t d _ (still {q = q} l n) = let r = left_longer p x t d q l in omega arith

never_left : (p : Past) (x : Path) (t : Thing) (d : ℕ) → LeftAs p x t d p → ⊥
never_left p x t d l = absurd (let r = left_longer p x t d p l in omega (arith, r))

-- what was left stands, but for files that were made
wrote_stands : (q : Past) (e : Entry) (x : Path) (d : ℕ) (t : Thing) → IsWriters e → d ≤ (world q).drawn → StandsAs d t (names (world q) x) → StandsAs d t (names (world (q ▸ e)) x)
wrote_stands q (entry.Attach v y at) x d t i le h = ⊎_elim (λ same. subst (λ (u : Thing). StandsAs d t u) (sym same) h) (λ new. inr (⊎_elim (λ is. sym is ∙ new.1) (λ a. a.0) h, ((world q).drawn, new.2, le))) (attach_names (world q) v y x at)
wrote_stands q (entry.Feed v bytes at) x d t i le h = h
wrote_stands q (entry.Flush v) x d t i le h = h
wrote_stands q (entry.Detach v) x d t i le h = h
wrote_stands q _ x d t i le h = absurd i

-- no more were drawn by then than by now
pub left_drawn : (p q : Past) (es : List Entry) (x : Path) (t : Thing) (d : ℕ) → Made p es q → LeftAs p x t d q → d ≤ (world q).drawn
left_drawn p _ _ x t d at_first l = absurd (never_left p x t d l)
left_drawn p _ es x t d (by_writer {q = q} {e = e} m i f) l = go (λ l. left_drawn p q es x t d m l) (left_last p x t d (q ▸ e) q e l refl)
  where
    go : (LeftAs p x t d q → d ≤ (world q).drawn) → LeftLast p x t d q e → d ≤ (world (q ▸ e)).drawn
    go rest (now_left n is drawn) = absurd (none_written e x i n)
    go rest (left_before k n) = let r = rest k in let s = drawn_grows (world q) (step (world q) e) in omega (arith, r, s)
left_drawn p _ _ x t d (by_tool {es = es} {q = q} {e = e} m i f) l = go (λ l. left_drawn p q es x t d m l) (left_last p x t d (q ▸ e) q e l refl)
  where
    go : (LeftAs p x t d q → d ≤ (world q).drawn) → LeftLast p x t d q e → d ≤ (world (q ▸ e)).drawn
    go rest (now_left n is drawn) = omega (arith, drawn)
    go rest (left_before k n) = let r = rest k in let s = drawn_grows (world q) (step (world q) e) in omega (arith, r, s)

pub stands_now : (p q : Past) (es : List Entry) (x : Path) (t : Thing) (d : ℕ) → Made p es q → LeftAs p x t d q → StandsAs d t (names (world q) x)
stands_now p _ _ x t d at_first l = absurd (never_left p x t d l)
stands_now p _ es x t d (by_writer {q = q} {e = e} m i f) l = go (λ l. stands_now p q es x t d m l) (left_last p x t d (q ▸ e) q e l refl)
  where
    go : (LeftAs p x t d q → StandsAs d t (names (world q) x)) → LeftLast p x t d q e → StandsAs d t (names (world (q ▸ e)) x)
    go rest (now_left n is drawn) = absurd (none_written e x i n)
    go rest (left_before k n) = wrote_stands q e x d t i (left_drawn p q es x t d m k) (rest k)
stands_now p _ _ x t d (by_tool {es = es} {q = q} {e = e} m i f) l = go (λ l. stands_now p q es x t d m l) (left_last p x t d (q ▸ e) q e l refl)
  where
    go : (LeftAs p x t d q → StandsAs d t (names (world q) x)) → LeftLast p x t d q e → StandsAs d t (names (world (q ▸ e)) x)
    go rest (now_left n is drawn) = inl is
    go rest (left_before k n) = subst (λ (u : Thing). StandsAs d t u) (sym (tool_same q e x i n)) (rest k)

-- the entry changes no name
abbrev pub NamesNone : Entry → Type 0
NamesNone e = renamed_paths e ≡ []

-- an entry that changes nothing of the disk
pub calm_entry : (x : Path) (e : Entry) → is_disk_change e ≡ false → LeavesFile x e × NamesNone e
calm_entry x (entry.Renames from to) h = absurd (cc)
calm_entry x (entry.Makes y mode) h = absurd (cc)
calm_entry x (entry.Unlinks y) h = absurd (cc)
calm_entry x (entry.MakesDir y mode) h = absurd (cc)
calm_entry x (entry.Appends y piece) h = absurd (cc)
calm_entry x (entry.Truncates y) h = absurd (cc)
calm_entry x _ h = (tt, refl)

-- it was left so before entries that change no name
pub left_since : (p r q : Past) (es : List Entry) (x : Path) (t : Thing) (d : ℕ) → Made r es q → Each NamesNone es → LeftAs p x t d q → LeftAs p x t d r
left_since p r _ _ x t d at_first a l = l
left_since p r _ es x t d (by_writer {q = q} {e = e} m i f) a l = go (λ l. left_since p r q es x t d m a l) (left_last p x t d (q ▸ e) q e l refl)
  where
    go : (LeftAs p x t d q → LeftAs p x t d r) → LeftLast p x t d q e → LeftAs p x t d r
    go rest (now_left n is drawn) = absurd (none_written e x i n)
    go rest (left_before k n) = rest k
left_since p r _ _ x t d (by_tool {es = es} {q = q} {e = e} m i f) a l = go (λ l. left_since p r q es x t d m a.1 l) (left_last p x t d (q ▸ e) q e l refl)
  where
    go : (LeftAs p x t d q → LeftAs p x t d r) → LeftLast p x t d q e → LeftAs p x t d r
    go rest (now_left n is drawn) = absurd (let i : IsIn x [] = subst (λ (xs : List Path). IsIn x xs) a.0 n in i)
    go rest (left_before k n) = rest k

-- what holds of all paths that entries change holds of each that was left
pub left_of : (R : Path → Type 0) (p q : Past) (es : List Entry) (x : Path) (t : Thing) (d : ℕ) → Made p es q → Each (λ e. (y : Path) → IsIn y (renamed_paths e) → R y) es → LeftAs p x t d q → R x
left_of R p _ _ x t d at_first a l = absurd (never_left p x t d l)
left_of R p _ es x t d (by_writer {q = q} {e = e} m i f) a l = go (λ l. left_of R p q es x t d m a l) (left_last p x t d (q ▸ e) q e l refl)
  where
    go : (LeftAs p x t d q → R x) → LeftLast p x t d q e → R x
    go rest (now_left n is drawn) = absurd (none_written e x i n)
    go rest (left_before k n) = rest k
left_of R p _ _ x t d (by_tool {es = es} {q = q} {e = e} m i f) a l = go (λ l. left_of R p q es x t d m a.1 l) (left_last p x t d (q ▸ e) q e l refl)
  where
    go : (LeftAs p x t d q → R x) → LeftLast p x t d q e → R x
    go rest (now_left n is drawn) = a.0 x n
    go rest (left_before k n) = rest k

-- ---- the names that cuts may leave

-- it goes on over a file that a writer makes at such a path
abbrev pub AllowsNew : (Path → Type 0) → ℕ → (Names → Type 0) → Type 0
AllowsNew P d Q = (m : Names) (x : Path) (f : ℕ) → P x → m x ≡ thing.Nothing → d ≤ f → Q m → Q (put m x (thing.File f))

lasts_written : (P : Path → Type 0) (d : ℕ) (Q : Names → Type 0) (q : Past) (e : Entry) → AllowsNew P d Q → IsWriters e → Fits (world q) e → AttachesOnly P e → d ≤ (world q).drawn → Lasts Q q → Lasts Q (q ▸ e)
lasts_written P d Q q e new i f only le h = lasts_on Q Q q e f (λ n a. a) (λ c m s ag is. go c m ag is (written (world q) e c i s)) h
  where
    go : (c : Change) (m : Names) → AgreeOn c m (names (world q)) → Q m → IsWritten (world q) e c → Q (changed c m)
    go c m ag is (makes_new v x at same made none) = subst (λ (b : Change). Q (changed b m)) (sym made) (new m x (world q).drawn here (agreed (Puts x (thing.File (world q).drawn)) m (names (world q)) (subst (λ (b : Change). AgreeOn b m (names (world q))) made ag) x refl ∙ none) le is)
      where
        here : P x
        here = subst (AttachesOnly P) same only

pub calm_walk : (P : Path → Type 0) (d : ℕ) (Q : Names → Type 0) (p q : Past) (es : List Entry) → AllowsNew P d Q → Made p es q → AttachedOnlySince P p q → Each NamesNone es → d ≤ (world p).drawn → Lasts Q p → Lasts Q q
calm_walk P d Q p _ _ new at_first only a le h = h
calm_walk P d Q p _ es new (by_writer {q = q} {e = e} m i f) only a le h =
    let b = before_last P p q e es m only in
    lasts_written P d Q q e new i f b.1 (let r = made_drawn p q es m in omega (arith, r, le)) (calm_walk P d Q p q es new m b.0 a le h)
calm_walk P d Q p _ _ new (by_tool {es = es} {q = q} {e = e} m i f) only a le h =
    let b = before_last P p q e es m only in
    lasts_on Q Q q e f (λ n a. a) (λ c m s ag is. absurd (no_change (world q) e c i a.0 s)) (calm_walk P d Q p q es new m b.0 a.1 le h)

-- what one path names, while neither the tool nor a writer changes that
pub named_walk : (P : Path → Type 0) (x : Path) (t : Thing) (p q : Past) (es : List Entry) → ((y : Path) → P y → y ≢ x) → Made p es q → AttachedOnlySince P p q → Each (λ e. IsIn x (renamed_paths e) → ⊥) es → Lasts (λ n. n x ≡ t) p → Lasts (λ n. n x ≡ t) q
named_walk P x t p _ _ far at_first only a h = h
named_walk P x t p _ es far (by_writer {q = q} {e = e} m i f) only a h =
    let b = before_last P p q e es m only in
    lasts_written P 0 (λ n. n x ≡ t) q e (λ m y g at none le is. put_other m y x (thing.File g) (λ same. far y at (sym same)) ∙ is) i f b.1 (omega arith) (named_walk P x t p q es far m b.0 a h)
named_walk P x t p _ _ far (by_tool {es = es} {q = q} {e = e} m i f) only a h =
    let b = before_last P p q e es m only in
    lasts_on (λ n. n x ≡ t) (λ n. n x ≡ t) q e f (λ n a. a) (λ c m s ag is. untouched c m x (λ touch. a.0 (tool_touches (world q) e c x i s touch)) ∙ is) (named_walk P x t p q es far m b.0 a.1 h)

-- ---- a file

abbrev pub IsSafeFile : Path → ℕ → List ℕ → Past → Type 0
IsSafeFile x g bytes p = IsGuarded x g bytes (world p) × IsSynced g bytes (world p)

-- attached elsewhere
pub far_attached : (P : Path → Type 0) (x : Path) (e : Entry) → ((y : Path) → P y → y ≢ x) → AttachesOnly P e → AttachesOnly (λ y. y ≢ x) e
far_attached P x (entry.Attach v y at) far a = far y a
far_attached P x _ far a = tt

pub safe_walk : (P : Path → Type 0) (x : Path) (g : ℕ) (bytes : List ℕ) (p q : Past) (es : List Entry) → ((y : Path) → P y → y ≢ x) → Made p es q → AttachedOnlySince P p q → Each (LeavesFile x) es → IsSafeFile x g bytes p → IsSafeFile x g bytes q
safe_walk P x g bytes p _ _ far at_first only a h = h
safe_walk P x g bytes p _ es far (by_writer {q = q} {e = e} m i f) only a h =
    let b = before_last P p q e es m only in let r = safe_walk P x g bytes p q es far m b.0 a h in
    (writer_guards q x g bytes r.0 e i (far_attached P x e far b.1), writer_synced q x g bytes r.0 r.1 e i)
safe_walk P x g bytes p _ _ far (by_tool {es = es} {q = q} {e = e} m i f) only a h =
    let b = before_last P p q e es m only in let r = safe_walk P x g bytes p q es far m b.0 a.1 h in
    (tool_guards q x g bytes r.0 e i a.0, tool_synced q x g bytes r.0 r.1 e i a.0)
