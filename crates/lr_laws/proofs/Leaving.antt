-- What holds of the names that a cut may leave, and what follows from it behind an entry, where its own change gives that too.
use Rattle.std.proofs.Common.{◌≡◌, ◌⊎◌, inl, inr, ⊎_elim, ◌≤◌, ℕ, refl, sym, ◌∙◌, ap, subst, List, [], ◌∷◌}
use Rattle.lr_rules.specs.declared.path.Path.{Path}
use Rattle.lr_host.specs.declared.thing.Thing.{Thing}
use Rattle.lr_host.specs.declared.thing.Thing.TheVariants as thing
use Rattle.lr_host.specs.declared.entry.Entry.{Entry}
use Rattle.lr_host.specs.declared.entry.Entry.TheVariants as entry
use Rattle.lr_host.specs.Fits.{Fits}
use Rattle.lr_host.specs.Kept.{Leaves}
use Rattle.lr_host.specs.Lists.{IsIn}
use Rattle.lr_host.specs.Told.{IsTools, IsWriters}
use Rattle.lr_host.specs.World.{Past, ◌▸◌, World, world, Names, names, Change, Puts, Moves, Drops, changed, Stays, Adds, Settles, step, making, put}
use Rattle.lr_host.proofs.Closed.{Touches, touches_or_not, changed_alike}
use Rattle.lr_host.proofs.Names.{put_here, put_other}
use Rattle.lr_laws.proofs.Disk.{AgreeOn, LeftBy, as_it_was, taken_back, kept_too, by_cut, fits_closed, left_by}
use Rattle.lr_laws.specs.StateWhole.{renamed_paths, StandsAs}

-- whatever a cut leaves now, Q holds of the names
abbrev pub Lasts : (Names → Type 0) → Past → Type 0
Lasts Q p = (n : Names) (undone : List Change) → Leaves p n undone → Q n

pub lasts_on : (Q R : Names → Type 0) (p : Past) (e : Entry) → Fits (world p) e → ((n : Names) → Q n → R n) → ((c : Change) (m : Names) → step (world p) e ≡ Adds c → AgreeOn c m (names (world p)) → Q m → R (changed c m)) → Lasts Q p → Lasts R (p ▸ e)
lasts_on Q R p e f same own h n undone l = go (left_by (world p) e n undone (fits_closed (world p) e f) l)
  where
    go : LeftBy (world p) (step (world p) e) n undone → R n
    go (as_it_was still k) = same n (h n undone k)
    go (taken_back c older a q k) = same n (h n older k)
    go (kept_too c m a q k ag) = subst R (sym q) (own c m a ag (h m undone k))
    go (by_cut kept older a q still k) = same n (h n older k)

-- ---- the change of an entry

-- a writer makes a file where nothing was
pub data IsWritten (w : World) (e : Entry) (c : Change) : Type 0 where
  makes_new : (v : ℕ) (x : Path) (at : _) → e ≡ entry.Attach v x at → c ≡ Puts x (thing.File w.drawn) → names w x ≡ thing.Nothing → IsWritten w e c

not_added : (c : Change) → Stays ≡ Adds c → ⊥
not_added c e = cc

added : (c d : Change) → Adds c ≡ Adds d → c ≡ d
added c d e = cc

pub written : (w : World) (e : Entry) (c : Change) → IsWriters e → step w e ≡ Adds c → IsWritten w e c
written w (entry.Attach v x at) c i s = go (names w x) refl s
  where
    go : (t : Thing) → names w x ≡ t → making t x w.drawn ≡ Adds c → IsWritten w (entry.Attach v x at) c
    go thing.Nothing none s = makes_new v x at refl (sym (added (Puts x (thing.File w.drawn)) c s)) none
    go (thing.File f) none s = absurd (not_added c s)
    go thing.Directory none s = absurd (not_added c s)
    go thing.Other none s = absurd (not_added c s)
written w (entry.Feed v bytes at) c i s = absurd (not_added c s)
written w (entry.Flush v) c i s = absurd (not_added c s)
written w (entry.Detach v) c i s = absurd (not_added c s)
written w _ c i s = absurd i

-- the paths of the tool's change are those whose names it changes
pub tool_touches : (w : World) (e : Entry) (c : Change) (y : Path) → IsTools e → step w e ≡ Adds c → Touches c y → IsIn y (renamed_paths e)
tool_touches w (entry.Renames from to) c y i s t = go (subst (λ (d : Change). Touches d y) (sym (added (Moves from to) c s)) t)
  where
    go : (from ≡ y) ⊎ (to ≡ y) → IsIn y (from ∷ to ∷ [])
    go (inl e) = inl e
    go (inr e) = inr (inl e)
tool_touches w (entry.Makes x mode) c y i s t = let k : x ≡ y = subst (λ (d : Change). Touches d y) (sym (added (Puts x (thing.File w.drawn)) c s)) t in inl k
tool_touches w (entry.Unlinks x) c y i s t = let k : x ≡ y = subst (λ (d : Change). Touches d y) (sym (added (Drops x) c s)) t in inl k
tool_touches w (entry.MakesDir x mode) c y i s t = let k : x ≡ y = subst (λ (d : Change). Touches d y) (sym (added (Puts x thing.Directory) c s)) t in inl k
tool_touches w (entry.SyncsDir x) c y i s t = absurd (let e : Settles x ≡ Adds c = s in cc)
tool_touches w (entry.Starts state now rules) c y i s t = absurd (not_added c s)
tool_touches w entry.Ends c y i s t = absurd (not_added c s)
tool_touches w (entry.Look x seen) c y i s t = absurd (not_added c s)
tool_touches w (entry.List dir listed) c y i s t = absurd (not_added c s)
tool_touches w (entry.Reads x from piece) c y i s t = absurd (not_added c s)
tool_touches w (entry.Appends x piece) c y i s t = absurd (not_added c s)
tool_touches w (entry.Truncates x) c y i s t = absurd (not_added c s)
tool_touches w (entry.SyncsFile x) c y i s t = absurd (not_added c s)
tool_touches w (entry.Runs program args input ended) c y i s t = absurd (not_added c s)
tool_touches w _ c y i s t = absurd i

-- an entry of the tool that changes no name has no change
pub no_change : (w : World) (e : Entry) (c : Change) → IsTools e → renamed_paths e ≡ [] → step w e ≡ Adds c → ⊥
no_change w (entry.Renames from to) c i r s = cc
no_change w (entry.Makes x mode) c i r s = cc
no_change w (entry.Unlinks x) c i r s = cc
no_change w (entry.MakesDir x mode) c i r s = cc
no_change w (entry.SyncsDir x) c i r s = let e : Settles x ≡ Adds c = s in cc
no_change w (entry.Attach v x at) c i r s = i
no_change w (entry.Cut kept lengths) c i r s = i
no_change w (entry.Feed v bytes at) c i r s = i
no_change w (entry.Flush v) c i r s = i
no_change w (entry.Detach v) c i r s = i
no_change w (entry.Starts state now rules) c i r s = not_added c s
no_change w entry.Ends c i r s = not_added c s
no_change w (entry.Look x seen) c i r s = not_added c s
no_change w (entry.List dir listed) c i r s = not_added c s
no_change w (entry.Reads x from piece) c i r s = not_added c s
no_change w (entry.Appends x piece) c i r s = not_added c s
no_change w (entry.Truncates x) c i r s = not_added c s
no_change w (entry.SyncsFile x) c i r s = not_added c s
no_change w (entry.Runs program args input ended) c i r s = not_added c s

-- names that agree on the paths of a change
pub agreed : (c : Change) (m n : Names) → AgreeOn c m n → (y : Path) → Touches c y → m y ≡ n y
agreed (Puts x t) m n a y e = subst (λ (z : Path). m z ≡ n z) e a
agreed (Drops x) m n a y e = subst (λ (z : Path). m z ≡ n z) e a
agreed (Moves from to) m n a y (inl e) = subst (λ (z : Path). m z ≡ n z) e a.0
agreed (Moves from to) m n a y (inr e) = subst (λ (z : Path). m z ≡ n z) e a.1

-- so what the change leaves at its paths is the same
pub alike : (c : Change) (m n : Names) → AgreeOn c m n → (y : Path) → Touches c y → changed c m y ≡ changed c n y
alike c m n a y t = changed_alike c m n y (agreed c m n a) (agreed c m n a y t)

-- ---- paths that stand as they were left

-- a file that is made where there was nothing changes nothing of that
pub stands_made : (d f : ℕ) (left : Thing) (m : Names) (x y : Path) → m x ≡ thing.Nothing → d ≤ f → StandsAs d left (m y) → StandsAs d left (put m x (thing.File f) y)
stands_made d f left m x y none le h = go (touches_or_not (Drops x) y)
  where
    nothing_left : x ≡ y → left ≡ thing.Nothing
    nothing_left e = ⊎_elim (λ is. sym is ∙ (ap m (sym e) ∙ none)) (λ new. new.0) h

    go : (x ≡ y) ⊎ (x ≡ y → ⊥) → StandsAs d left (put m x (thing.File f) y)
    go (inl e) = inr (nothing_left e, (f, put_here m x y (thing.File f) (sym e), le))
    go (inr far) = subst (λ (t : Thing). StandsAs d left t) (sym (put_other m x y (thing.File f) (λ e. far (sym e)))) h
