-- What is named in a journal stands in a directory, where its path is its directory and its last part: whatever entries name besides.
use Rattle.std.proofs.Common.{◌≡◌, ◌≢◌, ◌⊎◌, inl, inr, ℕ, refl, sym, ◌∙◌, ap, subst, List, [], ◌∷◌}
use Rattle.lr_rules.specs.declared.path.Path.{Path}
use Rattle.lr_rules.specs.Path.{parent_of}
use Rattle.lr_host.specs.declared.thing.Thing.{Thing}
use Rattle.lr_host.specs.declared.thing.Thing.TheVariants as thing
use Rattle.lr_host.specs.declared.entry.Entry.{Entry}
use Rattle.lr_host.specs.declared.entry.Entry.TheVariants.{Attach, Renames, Makes, MakesDir, Unlinks}
use Rattle.lr_host.specs.World.{Names, names_after, put, Change, Puts, Moves, Drops, changed, kept_at, undone_at, settled, MayLeave, NameStep, Stays, Adds, Settles, Keeps, making, step, World, names, durable_after, pending_after, Past, Opens, ◌▸◌, world}
use Rattle.lr_host.specs.Fits.{Fits, IsFileAt, IsDirectoryAt}
use Rattle.lr_host.specs.Opening.{IsJournal}
use Rattle.lr_host.specs.Kept.{Leaves}
use Rattle.lr_host.proofs.Names.{put_here, put_other}
use Rattle.lr_host.proofs.Closed.{Touches, touches_or_not, Splits, with_next, without_next, IsApart, apart_none, kept_names, untouched, all_closed}
use Rattle.lr_host.proofs.Places.{IsSplit, split_of, splits, leaves_of, bound, synced_names}
use Rattle.lr_host.proofs.Looked.{nothing_no_file, file_no_dir, nothing_no_dir}
use Rattle.lr_laws.specs.Rooted.{IsParted}
use Rattle.lr_laws.proofs.Disk.{fits_closed, LeftBy, as_it_was, taken_back, kept_too, by_cut, left_by}
use Rattle.lr_laws.proofs.RootedLaw.{inside_parent, LastMakes, others_make, none_touches, stand_after}

-- each such path that names something stands in a directory
abbrev PartedStand : Names → Type 0
PartedStand n = (x : Path) → IsParted x → n x ≢ thing.Nothing → n (parent_of x) ≡ thing.Directory

-- ---- what a change that fits finds

data Fitted (n : Names) : Change → Type 0 where
  puts : {x : Path} {t : Thing} → n x ≡ thing.Nothing → n (parent_of x) ≡ thing.Directory → Fitted n (Puts x t)
  moves : {from to : Path} {g : ℕ} → n from ≡ thing.File g → n to ≢ thing.Directory → n (parent_of to) ≡ thing.Directory → from ≢ to → Fitted n (Moves from to)
  drops : {x : Path} {g : ℕ} → n x ≡ thing.File g → Fitted n (Drops x)

fitted : (w : World) (e : Entry) (c : Change) → Fits w e → step w e ≡ Adds c → Fitted (names w) c
fitted w (Renames from to) c f q = subst (Fitted (names w)) same (moves f.0.1 f.1 f.3 f.4)
  where
    same : Moves from to ≡ c
    same = cc
fitted w (Makes x mode) c f q = subst (Fitted (names w)) same (puts f.1 f.0)
  where
    same : Puts x (thing.File w.drawn) ≡ c
    same = cc
fitted w (MakesDir x mode) c f q = subst (Fitted (names w)) same (puts f.1 f.0)
  where
    same : Puts x thing.Directory ≡ c
    same = cc
fitted w (Unlinks x) c f q = subst (Fitted (names w)) same (drops f.1)
  where
    same : Drops x ≡ c
    same = cc
fitted w (Attach writer x at) c f q = go (names w x) refl q f.0
  where
    go : (t : Thing) → names w x ≡ t → making t x w.drawn ≡ Adds c → IsFileAt (names w) x ⊎ ((names w x ≡ thing.Nothing) × IsDirectoryAt (names w) (parent_of x)) → Fitted (names w) c
    go thing.Nothing r q (inl named) = absurd (nothing_no_file (names w x) named.0 r named.1)
    go thing.Nothing r q (inr free) = subst (Fitted (names w)) same (puts free.0 free.1)
      where
        same : Puts x (thing.File w.drawn) ≡ c
        same = cc
    go (thing.File g) r q s = absurd (cc)
    go thing.Directory r q s = absurd (cc)
    go thing.Other r q s = absurd (cc)
fitted w _ c f q = absurd (cc)

-- a change that fits leaves each directory, and makes one at its own path alone
keeps_directory : (n m : Names) (c : Change) (d : Path) → Fitted n c → ((x : Path) → Touches c x → m x ≡ n x) → m d ≡ thing.Directory → changed c m d ≡ thing.Directory
keeps_directory n m c d f ag is = untouched c m d (go c f ag) ∙ is
  where
    go : (c : Change) → Fitted n c → ((x : Path) → Touches c x → m x ≡ n x) → Touches c d → ⊥
    go _ (puts {x = x} free dir) ag t = nothing_no_dir (m d) (ag d t ∙ (ap n (sym t) ∙ free)) is
    go _ (moves {from = from} {to = to} {g = g} file not_dir dir other) ag (inl t) = file_no_dir (m d) g (ag d (inl t) ∙ (ap n (sym t) ∙ file)) is
    go _ (moves {from = from} {to = to} file not_dir dir other) ag (inr t) = not_dir (ap n t ∙ (sym (ag d (inr t)) ∙ is))
    go _ (drops {x = x} {g = g} file) ag t = file_no_dir (m d) g (ag d t ∙ (ap n (sym t) ∙ file)) is

directory_before : (n : Names) (c : Change) (d : Path) → Fitted n c → changed c n d ≡ thing.Directory → (Touches c d → c ≡ Puts d thing.Directory) × ((Touches c d → ⊥) → n d ≡ thing.Directory)
directory_before n c d f is = (λ t. made c f is t, λ nt. sym (untouched c n d nt) ∙ is)
  where
    made : (c : Change) → Fitted n c → changed c n d ≡ thing.Directory → Touches c d → c ≡ Puts d thing.Directory
    made _ (puts {x = x} {t = t} free dir) is s = let e : t ≡ thing.Directory = sym (put_here n x d t (sym s)) ∙ is in cc
    made _ (moves {from = from} {to = to} {g = g} file not_dir dir other) is (inr s) = absurd (file_no_dir (n from) g file (sym (put_here (put n from thing.Nothing) to d (n from) (sym s)) ∙ is))
    made _ (moves {from = from} {to = to} {g = g} file not_dir dir other) is (inl s) =
        absurd (nothing_no_dir (changed (Moves from to) n d) (put_other (put n from thing.Nothing) to d (n from) (λ same. other (s ∙ same)) ∙ put_here n from d thing.Nothing (sym s)) is)
    made _ (drops {x = x} file) is s = absurd (nothing_no_dir (changed (Drops x) n d) (put_here n x d thing.Nothing (sym s)) is)

-- ---- each moment

record IsRooted (p : Past) : Type 0 where
  stand : (n : Names) (undone : List Change) → Leaves p n undone → PartedStand n
  made : (d : Path) → names (world p) d ≡ thing.Directory → LastMakes d (world p).pending

-- a change that is kept, under the names that it finds
stands_kept : (w : World) (c : Change) (held undone : List Change) → Fitted (names w) c → ((d : Path) → names w d ≡ thing.Directory → LastMakes d w.pending) → Splits w.pending held undone → IsApart c undone
    → PartedStand (names_after w.durable held) → PartedStand (changed c (names_after w.durable held))
stands_kept w c held undone f made p a stand x parted named = go c f a named (touches_or_not c x)
  where
    agree : (c : Change) → IsApart c undone → (y : Path) → Touches c y → names_after w.durable held y ≡ names w y
    agree c a y t = kept_names w.durable w.pending held undone y p (apart_none c undone y t a)

    parent : (c : Change) → IsApart c undone → Touches c x → names w (parent_of x) ≡ thing.Directory → names_after w.durable held (parent_of x) ≡ thing.Directory
    parent c a t dir = kept_names w.durable w.pending held undone (parent_of x) p (none_touches (parent_of x) x c w.pending held undone t (inside_parent x parted) p (made (parent_of x) dir) a) ∙ dir

    keeps : (c : Change) → Fitted (names w) c → IsApart c undone → names_after w.durable held (parent_of x) ≡ thing.Directory → changed c (names_after w.durable held) (parent_of x) ≡ thing.Directory
    keeps c f a is = keeps_directory (names w) (names_after w.durable held) c (parent_of x) f (agree c a) is

    go : (c : Change) → Fitted (names w) c → IsApart c undone → changed c (names_after w.durable held) x ≢ thing.Nothing → Touches c x ⊎ (Touches c x → ⊥) → changed c (names_after w.durable held) (parent_of x) ≡ thing.Directory
    go c f a named (inr nt) = keeps c f a (stand x parted (λ none. named (untouched c (names_after w.durable held) x nt ∙ none)))
    go _ (puts {x = y} {t = t} free dir) a named (inl s) = keeps (Puts y t) (puts free dir) a (parent (Puts y t) a s (subst (λ z. names w (parent_of z) ≡ thing.Directory) s dir))
    go _ (moves {from = from} {to = to} file not_dir dir other) a named (inl (inr s)) = keeps (Moves from to) (moves file not_dir dir other) a (parent (Moves from to) a (inr s) (subst (λ z. names w (parent_of z) ≡ thing.Directory) s dir))
    go _ (moves {from = from} {to = to} file not_dir dir other) a named (inl (inl s)) =
        absurd (named (put_other (put (names_after w.durable held) from thing.Nothing) to x (names_after w.durable held from) (λ same. other (s ∙ same)) ∙ put_here (names_after w.durable held) from x thing.Nothing (sym s)))
    go _ (drops {x = y} file) a named (inl s) = absurd (named (put_here (names_after w.durable held) y x thing.Nothing (sym s)))

module _ (p : Past) (e : Entry) (f : Fits (world p) e) (h : IsRooted p) where
  stand_adds : (c : Change) → step (world p) e ≡ Adds c → (held undone : List Change) → Splits (c ∷ (world p).pending) held undone → PartedStand (names_after (world p).durable held)
  stand_adds c q _ undone (with_next {held = held} s a) = stands_kept (world p) c held undone (fitted (world p) e c f q) h.made s a (h.stand (names_after (world p).durable held) undone (leaves_of (world p).durable (world p).pending held undone s))
  stand_adds c q held _ (without_next {others = others} s) = h.stand (names_after (world p).durable held) others (leaves_of (world p).durable (world p).pending held others s)

  stand_on : (n : Names) (undone : List Change) → Leaves (p ▸ e) n undone → PartedStand n
  stand_on n undone l = go (left_by (world p) e n undone (fits_closed (world p) e f) l)
    where
      adds : (c : Change) → step (world p) e ≡ Adds c → PartedStand n
      adds c q = by (split_of (world p).durable (c ∷ (world p).pending) n undone (subst (λ st. MayLeave (durable_after (world p) st) (pending_after (world p) st) n undone) q l))
        where
          by : IsSplit (world p).durable (c ∷ (world p).pending) n undone → PartedStand n
          by r = subst PartedStand r.names (stand_adds c q r.held undone r.split)

      go : LeftBy (world p) (step (world p) e) n undone → PartedStand n
      go (as_it_was same k) = h.stand n undone k
      go (taken_back c older q t k) = h.stand n older k
      go (by_cut kept older q t same k) = h.stand n older k
      go (kept_too c m q same k ag) = adds c q

  made_step : (st : NameStep) → step (world p) e ≡ st → (d : Path) → names_after (durable_after (world p) st) (pending_after (world p) st) d ≡ thing.Directory → LastMakes d (pending_after (world p) st)
  made_step Stays q d is = h.made d is
  made_step (Adds c) q d is = go (directory_before (names (world p)) c d (fitted (world p) e c f q) is)
    where
      go : (Touches c d → c ≡ Puts d thing.Directory) × ((Touches c d → ⊥) → names (world p) d ≡ thing.Directory) → LastMakes d (c ∷ (world p).pending)
      go r = (r.0, λ nt. h.made d (r.1 nt))
  made_step (Settles dir) q d is = others_make d (world p).pending (kept_at (settled dir [] (world p).pending) (world p).pending) (undone_at (settled dir [] (world p).pending) (world p).pending)
      (splits (settled dir [] (world p).pending) (world p).pending (bound dir [] (world p).pending).closed) (h.made d (sym (synced_names (world p) dir d) ∙ is))
  made_step (Keeps places) q d is = tt

  rooted_on : IsRooted (p ▸ e)
  rooted_on = record { stand = stand_on; made = λ d is. made_step (step (world p) e) refl d is }

rooted : (p : Past) → IsJournal p → IsRooted p
rooted (Opens o) j = record { stand = λ n undone l x parted named. stand_after (Opens o) j tt n undone l x named; made = λ d is. tt }
rooted (p ▸ e) j = rooted_on p e j.1 (rooted p j.0)

-- what such a path names stands in a directory
pub stands_in : (p : Past) (x : Path) → IsJournal p → IsParted x → names (world p) x ≢ thing.Nothing → names (world p) (parent_of x) ≡ thing.Directory
stands_in p x j parted named = (rooted p j).stand (names (world p)) [] (leaves_of (world p).durable (world p).pending (world p).pending [] (all_closed (world p).pending)) x parted named
