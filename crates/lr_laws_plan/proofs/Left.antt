-- A path that the tool's changes spare is left alone.
use Rattle.std.proofs.Common.{◌≡◌, ◌≢◌, ◌⊎◌, inl, inr, ⊎_elim, ◌+◌, ◌<◌, ◌≤◌, ℕ, Bool, true, false, cond, nat_le, leb-true, refl, sym, ◌∙◌, ap, subst, arith, List, [], ◌∷◌, ◌++◌, drop, length}
use Rattle.std.specs.Prelude.{filter}
use Rattle.std.specs.List.{flat_map}
use Rattle.lr_rules.specs.declared.path.Path.{Path}
use Rattle.lr_host.specs.declared.thing.Thing.TheVariants as thing
use Rattle.lr_host.specs.declared.entry.Entry.{Entry}
use Rattle.lr_host.specs.declared.entry.Entry.TheVariants as entry
use Rattle.lr_host.specs.Lists.{IsIn}
use Rattle.lr_host.specs.Opening.{IsJournal}
use Rattle.lr_host.specs.Quiet.{is_disk_change, AttachedOnlySince}
use Rattle.lr_host.specs.Told.{Each, Made, at_first, by_writer, by_tool}
use Rattle.lr_host.specs.World.{Past, ◌▸◌, world, names}
use Rattle.lr_host.proofs.Lists.{in_front, in_back, in_append}
use Rattle.lr_host.proofs.Looked.{nothing_no_file}
use Rattle.lr_host.proofs.Made.{made_journal}
use Rattle.lr_host.proofs.Quiet.{looked_names, before_last, wrote_same}
use Rattle.lr_laws.specs.Follow.{changed_paths}
use Rattle.lr_laws.specs.Renewing.{LeavesAlone}
use Rattle.lr_laws.proofs.Parts.{named_drawn, named_once}
use Rattle.lr_laws_family.specs.Moments.{fed}
use Rattle.lr_laws_family.specs.Beside.{IsOn, IsAtNone, IsNeverAt, not_here, nor_then}
use Rattle.lr_laws_family.proofs.Fed.{IsTurnOrMake, fed_bytes}
use Rattle.lr_laws_family.proofs.OrMade.{Spares, spared_names, spared_or_made}
use Rattle.lr_laws_plan.specs.Left.{IsLeftAlone}

-- ---- what spares the path

spares_one : (x : Path) (e : Entry) → is_disk_change e ≡ true → LeavesAlone x e → Spares x e
spares_one x (entry.Renames from to) h a = (λ e. a (inl (sym e)), λ e. a (inr (inl (sym e))))
spares_one x (entry.Makes y mode) h a = λ e. a (inl (sym e))
spares_one x (entry.MakesDir y mode) h a = λ e. a (inl (sym e))
spares_one x (entry.Unlinks y) h a = λ e. a (inl (sym e))
spares_one x (entry.Appends y bytes) h a = tt
spares_one x (entry.Truncates y) h a = tt
spares_one x _ h a = absurd (cc)

spares_all : (x : Path) (es : List Entry) → Each (LeavesAlone x) (filter is_disk_change es) → Each (Spares x) (filter is_disk_change es)
spares_all x [] a = tt
spares_all x (e ∷ es) a = go (is_disk_change e) refl (λ b. spares_all x es b) a
  where
    go : (b : Bool) → is_disk_change e ≡ b → (Each (LeavesAlone x) (filter is_disk_change es) → Each (Spares x) (filter is_disk_change es)) → Each (LeavesAlone x) (cond b (e ∷ filter is_disk_change es) (filter is_disk_change es)) → Each (Spares x) (cond b (e ∷ filter is_disk_change es) (filter is_disk_change es))
    go true h rest a = (spares_one x e h a.0, rest a.1)
    go false h rest a = rest a

-- the paths that they change don't have it
far : (x y : Path) (es : List Entry) → Each (LeavesAlone x) es → IsIn y (flat_map changed_paths es) → y ≢ x
far x y [] a i same = i
far x y (e ∷ es) a i same = ⊎_elim (λ h. a.0 (subst (λ (z : Path). IsIn z (changed_paths e)) same h)) (λ h. far x y es a.1 h same) (in_append y (changed_paths e) (flat_map changed_paths es) i)

-- ---- each change is on the paths that it changes

on_one : (paths : List Path) (e : Entry) → is_disk_change e ≡ true → ((y : Path) → IsIn y (changed_paths e) → IsIn y paths) → IsTurnOrMake e ⊎ IsOn paths e
on_one paths (entry.Renames from to) h f = inl tt
on_one paths (entry.Makes y mode) h f = inl tt
on_one paths (entry.Unlinks y) h f = inl tt
on_one paths (entry.MakesDir y mode) h f = inr (f y (inl refl))
on_one paths (entry.Appends y bytes) h f = inr (f y (inl refl))
on_one paths (entry.Truncates y) h f = inr (f y (inl refl))
on_one paths _ h f = absurd (cc)

on_all : (paths : List Path) (es : List Entry) → ((y : Path) → IsIn y (flat_map changed_paths (filter is_disk_change es)) → IsIn y paths) → Each (λ e. IsTurnOrMake e ⊎ IsOn paths e) (filter is_disk_change es)
on_all paths [] f = tt
on_all paths (e ∷ es) f = go (is_disk_change e) refl (λ g. on_all paths es g) f
  where
    go : (b : Bool) → is_disk_change e ≡ b → (((y : Path) → IsIn y (flat_map changed_paths (filter is_disk_change es)) → IsIn y paths) → Each (λ e. IsTurnOrMake e ⊎ IsOn paths e) (filter is_disk_change es))
        → ((y : Path) → IsIn y (flat_map changed_paths (cond b (e ∷ filter is_disk_change es) (filter is_disk_change es))) → IsIn y paths) → Each (λ e. IsTurnOrMake e ⊎ IsOn paths e) (cond b (e ∷ filter is_disk_change es) (filter is_disk_change es))
    go true h rest f = (on_one paths e h (λ y i. f y (in_front y (changed_paths e) (flat_map changed_paths (filter is_disk_change es)) i)), rest (λ y i. f y (in_back y (changed_paths e) (flat_map changed_paths (filter is_disk_change es)) i)))
    go false h rest f = rest f

-- ---- over all entries

-- what a path names to which no writer is attached
same_walk : (x : Path) (p q : Past) (es : List Entry) → Made p es q → Each (Spares x) (filter is_disk_change es) → AttachedOnlySince (λ y. y ≢ x) p q → names (world q) x ≡ names (world p) x
same_walk x p _ _ at_first s only = refl
same_walk x p _ es (by_writer {q = q} {e = e} m i f) s only = let b = before_last (λ y. y ≢ x) p q e es m only in wrote_same (λ y. y ≢ x) q e x i b.1 (λ ne. ne refl) ∙ same_walk x p q es m s b.0
same_walk x p _ _ (by_tool {es = es} {q = q} {e = e} m i f) s only = go (λ r. same_walk x p q es m r (before_last (λ y. y ≢ x) p q e es m only).0) (is_disk_change e) refl s
  where
    go : (Each (Spares x) (filter is_disk_change es) → names (world q) x ≡ names (world p) x) → (b : Bool) → is_disk_change e ≡ b → Each (Spares x) (cond b (e ∷ filter is_disk_change es) (filter is_disk_change es)) → names (world (q ▸ e)) x ≡ names (world p) x
    go rest true h s = spared_names q e x s.0 ∙ rest s.1
    go rest false h s = looked_names q e x i h ∙ rest s

-- the file that it named is at no path that is changed
module _ (x : Path) (g : ℕ) (paths : List Path) (apart : (y : Path) → IsIn y paths → y ≢ x) (p : Past) (j : IsJournal p) (named : names (world p) x ≡ thing.File g) where
  still_named : (q : Past) (es : List Entry) → Made p es q → Each (Spares x) (filter is_disk_change es) → names (world q) x ≡ thing.File g
  still_named q es m s = ⊎_elim (λ same. same ∙ named) (λ new. absurd (nothing_no_file (names (world p) x) g new.0 named)) (spared_or_made p q es x m s)

  at_none : (q : Past) (es : List Entry) → Made p es q → Each (Spares x) (filter is_disk_change es) → IsAtNone paths q g
  at_none q es m s = λ y i is. apart y i (named_once q y x g (made_journal p q es m j) is (still_named q es m s))

  never_at : (q : Past) (es : List Entry) → Made p es q → Each (Spares x) (filter is_disk_change es) → IsNeverAt paths g p q
  never_at _ _ at_first s = not_here (at_none p [] at_first tt)
  never_at _ es (by_writer {q = q} {e = e} m i f) s = nor_then (never_at q es m s) (at_none (q ▸ e) es (by_writer m i f) s)
  never_at _ _ (by_tool {es = es} {q = q} {e = e} m i f) s = nor_then (never_at q es m (spares_before (is_disk_change e) s)) (at_none (q ▸ e) (e ∷ es) (by_tool m i f) s)
    where
      spares_before : (b : Bool) → Each (Spares x) (cond b (e ∷ filter is_disk_change es) (filter is_disk_change es)) → Each (Spares x) (filter is_disk_change es)
      spares_before true s = s.1
      spares_before false s = s

-- the file was there, so it isn't new
old_bytes : (d g : ℕ) (bytes : List ℕ) → g < d → cond (nat_le (d + 1) (g + 1)) [] bytes ≡ bytes
old_bytes d g bytes lt = go (nat_le (d + 1) (g + 1)) refl
  where
    go : (b : Bool) → nat_le (d + 1) (g + 1) ≡ b → cond b [] bytes ≡ bytes
    go true e = absurd (let le : d + 1 ≤ g + 1 = leb-true (d + 1) (g + 1) e in omega (arith, lt, le))
    go false e = refl

pub left_alone : (p q : Past) (es : List Entry) (x : Path) → Made p es q → IsJournal p → Each (LeavesAlone x) (filter is_disk_change es) → IsLeftAlone p q x
left_alone p q es x m j a = record {
  stands = spared_or_made p q es x m spares;
  same = λ only. same_walk x p q es m spares only;
  bytes = λ g named. fed_bytes paths g p q es j m (on_all paths es (λ y i. i)) (never_at x g paths (λ y i. far x y (filter is_disk_change es) a i) p j named q es m spares)
      ∙ ap (λ bytes. bytes ++ drop (length (fed p g)) (fed q g)) (old_bytes (world p).drawn g ((world p).files g).bytes (named_drawn p x g j named));
}
  where
    spares : Each (Spares x) (filter is_disk_change es)
    spares = spares_all x es a

    paths : List Path
    paths = flat_map changed_paths (filter is_disk_change es)
