-- A path that names nothing at first, that no writer is attached to, and to which the tool gives no file, names nothing or a directory at each moment.
use Rattle.std.proofs.Common.{◌≡◌, ◌≢◌, ◌⊎◌, inl, inr, ⊎_elim, Bool, true, false, cond, bytes_eq, refl, sym, subst, List, ◌++◌, Some, None}
use Rattle.lr_rules.specs.declared.path.Path.{Path}
use Rattle.lr_host.specs.declared.entry.Entry.{Entry}
use Rattle.lr_host.specs.declared.entry.Entry.TheVariants.{Attach, Cut, Look, Renames, Makes, Unlinks, MakesDir, SyncsDir}
use Rattle.lr_host.specs.declared.thing.Kind.TheVariants as kind
use Rattle.lr_host.specs.declared.thing.Seen.{Seen}
use Rattle.lr_host.specs.declared.thing.Thing.{Thing}
use Rattle.lr_host.specs.declared.thing.Thing.TheVariants as thing
use Rattle.lr_host.specs.Fits.{SeesThing}
use Rattle.lr_host.specs.Lists.{IsIn}
use Rattle.lr_host.specs.Told.{Each, IsTools, Made, at_first, by_writer, by_tool}
use Rattle.lr_host.specs.World.{Past, ◌▸◌, World, world, names}
use Rattle.lr_host.proofs.Lists.{in_front, in_back}
use Rattle.lr_host.proofs.Made.{made_on}
use Rattle.lr_host.proofs.Places.{synced_names}
use Rattle.lr_host.proofs.Quiet.{before_last, since_before, wrote_same}
use Rattle.lr_host.proofs.Each.{each_last}
use Rattle.lr_laws_plan.proofs.Long.{At, made_at}
use Rattle.lr_laws_plan.proofs.Naming.{Spared, avoided, made_same}

-- ---- one entry

-- the entry gives the path no file
abbrev pub GivesNoFile : Path → Entry → Type 0
GivesNoFile x (Renames from to) = to ≡ x → ⊥
GivesNoFile x (Makes y mode) = y ≡ x → ⊥
GivesNoFile x _ = Unit {0}

abbrev pub IsNothingOrDir : Thing → Type 0
IsNothingOrDir t = (t ≡ thing.Nothing) ⊎ (t ≡ thing.Directory)

-- so the path names behind it what it named, or nothing, or a directory
given_none : (p : Past) (e : Entry) (x : Path) → IsTools e → GivesNoFile x e → (names (world (p ▸ e)) x ≡ names (world p) x) ⊎ IsNothingOrDir (names (world (p ▸ e)) x)
given_none p (Renames from to) x i g = ⊎_elim (λ none. inr (inl none)) (λ same. inl same) (avoided p (Renames from to) x i g)
given_none p (Makes y mode) x i g = ⊎_elim (λ none. inr (inl none)) (λ same. inl same) (avoided p (Makes y mode) x i g)
given_none p (Unlinks y) x i g = ⊎_elim (λ none. inr (inl none)) (λ same. inl same) (avoided p (Unlinks y) x i tt)
given_none p (MakesDir y mode) x i g = made (bytes_eq y x)
  where
    made : (b : Bool) → (cond b thing.Directory (names (world p) x) ≡ names (world p) x) ⊎ IsNothingOrDir (cond b thing.Directory (names (world p) x))
    made true = inr (inr refl)
    made false = inl refl
given_none p (SyncsDir y) x i g = inl (synced_names (world p) y x)
given_none p (Attach writer y at) x i g = absurd i
given_none p (Cut kept lengths) x i g = absurd i
given_none p _ x i g = inl refl

-- ---- all of them

still_none_or_dir : (x : Path) (p q : Past) (es : List Entry) → Made p es q → Spared x p q → Each (GivesNoFile x) es → IsNothingOrDir (names (world p) x) → IsNothingOrDir (names (world q) x)
still_none_or_dir x p _ _ at_first s g first = first
still_none_or_dir x p _ es (by_writer {q = q} {e = e} m i f) s g first =
    let b = before_last (λ y. y ≢ x) p q e es m s in
    subst IsNothingOrDir (sym (wrote_same (λ y. y ≢ x) q e x i b.1 (λ no. no refl))) (still_none_or_dir x p q es m b.0 g first)
still_none_or_dir x p _ _ (by_tool {es = es} {q = q} {e = e} m i f) s g first =
    let b = before_last (λ y. y ≢ x) p q e es m s in
    ⊎_elim (λ same. subst IsNothingOrDir (sym same) (still_none_or_dir x p q es m b.0 g.1 first)) (λ new. new) (given_none q e x i g.0)

-- One of these looks saw something there that is no directory.
pub record SawOther (x : Path) (ts : List Entry) : Type 0 where
  pub seen : Seen
  pub other : seen.kind ≢ kind.Dir
  pub look : IsIn (Look x (Some seen)) ts

pub other_front : (x : Path) (xs ys : List Entry) → SawOther x xs → SawOther x (xs ++ ys)
other_front x xs ys s = record { seen = s.seen; other = s.other; look = in_front (Look x (Some s.seen)) xs ys s.look }

pub other_back : (x : Path) (xs ys : List Entry) → SawOther x ys → SawOther x (xs ++ ys)
other_back x xs ys s = record { seen = s.seen; other = s.other; look = in_back (Look x (Some s.seen)) xs ys s.look }

sees_dir : (w : World) (t : Thing) (seen : Seen) → IsNothingOrDir t → SeesThing w t (Some seen) → seen.kind ≡ kind.Dir
sees_dir w t seen (inl none) s = let clash : Some seen ≡ None = subst (λ (u : Thing). SeesThing w u (Some seen)) none s in absurd (cc)
sees_dir w t seen (inr dir) s = subst (λ (u : Thing). SeesThing w u (Some seen)) dir s

-- no look sees such a thing
pub never_other : (x : Path) (p q : Past) (es : List Entry) → Made p es q → Spared x p q → Each (GivesNoFile x) es → names (world p) x ≡ thing.Nothing → SawOther x es → ⊥
never_other x p q es m s given none saw = saw.other (sees_dir (world a.mid) (names (world a.mid) x) saw.seen (still_none_or_dir x p a.mid a.old a.first before first (inl none)) a.fits)
  where
    a : At p q (Look x (Some saw.seen))
    a = made_at p q es (Look x (Some saw.seen)) m saw.look

    before : Spared x p a.mid
    before = since_before (λ y. y ≢ x) p a.mid q a.old a.new a.first a.second s

    first : Each (GivesNoFile x) a.old
    first = each_last (GivesNoFile x) a.new a.old (subst (Each (GivesNoFile x)) (made_same p q es (a.new ++ a.old) m (made_on p a.mid q a.old a.new a.first a.second)) given)
