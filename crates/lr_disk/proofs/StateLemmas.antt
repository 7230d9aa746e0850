-- When the state in memory goes on being a world.
use Rattle.std.proofs.Common.{◌≡◌, ℕ, zero, suc, ◌+◌, ◌<◌, ◌≤◌, Bool, true, false, cond, List, [], ◌∷◌, ◌++◌, length, get_or, map, Option, Some, None, refl, sym, ◌∙◌, ap, subst, arith, nat_eq, length-append}
use Rattle.std.specs.Prelude.{slice_set, slice_get, ℤ}
use Rattle.std.proofs.lemmas.List.{length-map, map-set, get_or-set_same, get_or-set_other, get_or-map}
use Rattle.lr_rules.specs.declared.path.Path.{Path}
use Rattle.lr_host.specs.declared.thing.Thing.{Thing}
use Rattle.lr_host.specs.declared.thing.Thing.TheVariants as thing
use Rattle.lr_host.specs.declared.entry.Entry.{Entry}
use Rattle.lr_host.specs.declared.entry.Entry.TheVariants as entry
use Rattle.lr_host.specs.World.{World, File, Change, Puts, Moves, Drops, changed, names, names_after, names_kept, kept_at, undone_at, settled, effect, length_of, makes, making, attached, drawn_after, durable_after, pending_after}
use Rattle.lr_host.specs.Below.{NamesBelow, IsBelow, AllBelow}
use Rattle.lr_host.specs.Told.{IsTools}
use Rattle.lr_host.proofs.Below.{after_below, kept_below, undone_below, all_more}
use Rattle.lr_host.proofs.Closed.{changed_alike}
use Rattle.lr_host.proofs.Places.{synced_names}
use Rattle.lr_disk.specs.declared.state.State.{State}
use Rattle.lr_disk.specs.declared.file.MemFile.{MemFile}
use Rattle.lr_disk.specs.Names.{named_in}
use Rattle.lr_disk.specs.Pending.{pending_of}
use Rattle.lr_disk.specs.Tree.{IsTree, IsSameTree, CanChange, IsChanged, IsSynced, IsTreeLeft}
use Rattle.lr_disk.specs.Lengths.{names_left}
use Rattle.lr_disk.specs.State.{ShowsWorld, EntryHasRoom, CanDraw, IsFiled, as_file, no_file, file_with, hold_in, cut_file, made_world}
use Rattle.lr_disk.proofs.PairLemmas.{numbers_tell}
use Rattle.lr_disk.proofs.StepLemmas.{names_alike}
use Rattle.lr_disk.proofs.TreeLemmas.{same_self}

abbrev same_file : File → File → Type 0
same_file f g = f ≡ g

-- worlds with the same names
alike_names : (w v : World) → v.durable ≡ w.durable → v.pending ≡ w.pending → (x : Path) → names v x ≡ names w x
alike_names w v durable pending x = ap (λ d. names_after d v.pending x) durable ∙ ap (λ p. names_after w.durable p x) pending

-- what a cut leaves of the names
pub left_names : (s : State) (w : World) (kept : List ℕ) → ShowsWorld s w → (x : Path) → names_left s kept x ≡ names_kept w kept x
left_names s w kept shows x =
    ap (λ cs. names_after (named_in s.tree.durable.items) (kept_at kept cs) x) shows.changes ∙ names_alike (kept_at kept w.pending) (named_in s.tree.durable.items) w.durable x shows.durable

pub left_below : (w : World) (kept : List ℕ) → NamesBelow w.drawn w.durable → AllBelow w.drawn w.pending → NamesBelow w.drawn (names_kept w kept)
left_below w kept below pending = after_below w.drawn w.durable (kept_at kept w.pending) (kept_below w.drawn kept w.pending pending) below

-- the same world
pub shows_kept : (s t : State) (w : World) → ShowsWorld s w → IsSameTree s.tree t.tree → map as_file t.files.items ≡ map as_file s.files.items → ((v : ℕ) → hold_in t.holds.items v ≡ hold_in s.holds.items v) → t.moment ≡ s.moment → ShowsWorld t w
shows_kept s t w shows same files holds now = record {
  tree = same.tree;
  named = λ x. same.named x ∙ shows.named x;
  durable = λ x. same.durable x ∙ shows.durable x;
  changes = ap pending_of same.changes ∙ shows.changes;
  drawn = sym (length-map t.files.items as_file) ∙ (ap length files ∙ (length-map s.files.items as_file ∙ shows.drawn));
  files = λ id lt. ap (λ fs. get_or fs id no_file) files ∙ shows.files id lt;
  holds = λ v. holds v ∙ shows.holds v;
  below = shows.below;
  below_durable = shows.below_durable;
  below_pending = shows.below_pending;
  unmade = shows.unmade;
  now = now ∙ shows.now;
}

-- the same names
pub same_names : (s : State) (w : World) → ShowsWorld s w → IsSameTree s.tree s.tree
same_names s w shows = same_self s.tree shows.tree

pub set_same : (fs : List MemFile) (k : ℕ) (x y : MemFile) → x ≡ get_or fs k x → as_file y ≡ as_file x → map as_file (slice_set fs k y) ≡ map as_file fs
set_same [] k x y is e = refl
set_same (f ∷ fs) zero x y is e = ap (λ a. a ∷ map as_file fs) (e ∙ ap as_file is)
set_same (f ∷ fs) (suc k) x y is e = ap (λ rest. as_file f ∷ rest) (set_same fs k x y is e)

-- the file at the place changed, and the others as they were
pub set_here : (fs : List MemFile) (k : ℕ) (y : MemFile) → k < length fs → file_with (slice_set fs k y) k ≡ as_file y
set_here fs k y lt = ap (λ l. get_or l k no_file) (map-set as_file fs k y) ∙ get_or-set_same (map as_file fs) k (as_file y) no_file (let e = length-map fs as_file in omega arith)

pub set_there : (fs : List MemFile) (k id : ℕ) (y : MemFile) → (id ≡ k → ⊥) → file_with (slice_set fs k y) id ≡ file_with fs id
set_there fs k id y ne = ap (λ l. get_or l id no_file) (map-set as_file fs k y) ∙ get_or-set_other (map as_file fs) k id (as_file y) no_file ne

pub file_here : (fs : List MemFile) (k : ℕ) (x : MemFile) → k < length fs → x ≡ get_or fs k x → file_with fs k ≡ as_file x
file_here fs k x lt is = get_or-map as_file fs k x no_file lt ∙ ap as_file (sym is)

pub get_set : (fs : List MemFile) (k : ℕ) (y x : MemFile) → k < length fs → slice_get (slice_set fs k y) k ≡ Some x → x ≡ y
get_set [] k y x lt h = absurd (omega arith)
get_set (f ∷ fs) zero y x lt h = cc
get_set (f ∷ fs) (suc k) y x lt h = get_set fs k y x (omega arith) h

pub get_none : (fs : List MemFile) (k : ℕ) (x : MemFile) → length fs ≤ k → slice_get fs k ≡ Some x → ⊥
get_none [] k x le h = cc
get_none (f ∷ fs) zero x le h = omega arith
get_none (f ∷ fs) (suc k) x le h = get_none fs k x (omega arith) h

pub length_set : (fs : List MemFile) (k : ℕ) (y : MemFile) → length (slice_set fs k y) ≡ length fs
length_set [] k y = refl
length_set (f ∷ fs) zero y = refl
length_set (f ∷ fs) (suc k) y = ap suc (length_set fs k y)

-- A file made by a writer.
file_last : (fs : List MemFile) (f : MemFile) → file_with (fs ++ f ∷ []) (length fs) ≡ as_file f
file_last [] f = refl
file_last (g ∷ fs) f = file_last fs f

file_before : (fs : List MemFile) (f : MemFile) (id : ℕ) → id < length fs → file_with (fs ++ f ∷ []) id ≡ file_with fs id
file_before [] f id lt = absurd (omega arith)
file_before (g ∷ fs) f zero lt = refl
file_before (g ∷ fs) f (suc id) lt = file_before fs f id (omega arith)

-- one file changed
pub set_filed : (fs gs : List MemFile) (k : ℕ) (f : File → File) (x y : MemFile) → gs ≡ slice_set fs k y → k < length fs → x ≡ get_or fs k x → as_file y ≡ f (as_file x)
    → (id : ℕ) → id < length fs → file_with gs id ≡ cond (nat_eq k id) (f (file_with fs id)) (file_with fs id)
set_filed fs gs k f x y set lt is made id within = ap (λ l. file_with l id) set ∙ go (nat_eq k id) refl
  where
    go : (b : Bool) → nat_eq k id ≡ b → file_with (slice_set fs k y) id ≡ cond b (f (file_with fs id)) (file_with fs id)
    go true e = subst (λ j. file_with (slice_set fs k y) j ≡ f (file_with fs j)) ((numbers_tell k id).0 e) (set_here fs k y lt ∙ (made ∙ ap f (sym (file_here fs k x lt is))))
    go false e = set_there fs k id y (λ same. let t : nat_eq k id ≡ true = (numbers_tell k id).1 (sym same) in cc)

pub filed_one : (s t : State) (k : ℕ) (f : File → File) (x y : MemFile) → t.tree ≡ s.tree → t.holds.items ≡ s.holds.items → t.moment ≡ s.moment
    → t.files.items ≡ slice_set s.files.items k y → k < length s.files.items → x ≡ get_or s.files.items k x → as_file y ≡ f (as_file x) → IsFiled f (Some k) s t
filed_one s t k f x y tree holds now set lt is made = record {
  tree = tree;
  holds = holds;
  now = now;
  size = ap length set ∙ length_set s.files.items k y;
  files = set_filed s.files.items t.files.items k f x y set lt is made;
}

pub filed_as : (s t : State) (o : Option ℕ) (k : ℕ) (f : File → File) (x y : MemFile) → o ≡ Some k → t.tree ≡ s.tree → t.holds.items ≡ s.holds.items → t.moment ≡ s.moment
    → t.files.items ≡ slice_set s.files.items k y → k < length s.files.items → x ≡ get_or s.files.items k x → as_file y ≡ f (as_file x) → IsFiled f o s t
filed_as s t o k f x y some tree holds now set lt is made = subst (λ p. IsFiled f p s t) (sym some) (filed_one s t k f x y tree holds now set lt is made)

-- A directory was synced.
pub shows_settled : (s t : State) (w : World) (dir : Path) → ShowsWorld s w → IsSynced dir s.tree t.tree → t.files.items ≡ s.files.items → t.holds.items ≡ s.holds.items → t.moment ≡ s.moment → ShowsWorld t (effect w (entry.SyncsDir dir))
shows_settled s t w dir shows y files holds now = record {
  tree = y.tree;
  named = λ x. ap (λ ns. named_in ns x) y.named ∙ (shows.named x ∙ sym (synced_names w dir x));
  durable = λ x. y.durable x ∙ (ap (λ cs. names_after (named_in s.tree.durable.items) (kept_at (settled dir [] cs) cs) x) shows.changes
      ∙ names_alike (kept_at (settled dir [] w.pending) w.pending) (named_in s.tree.durable.items) w.durable x shows.durable);
  changes = y.changes ∙ ap (λ cs. undone_at (settled dir [] cs) cs) shows.changes;
  drawn = ap length files ∙ shows.drawn;
  files = λ id lt. ap (λ l. file_with l id) files ∙ shows.files id lt;
  holds = λ v. ap (λ hs. hold_in hs v) holds ∙ shows.holds v;
  below = λ x g e. shows.below x g (sym (synced_names w dir x) ∙ e);
  below_durable = left_below w (settled dir [] w.pending) shows.below_durable shows.below_pending;
  below_pending = undone_below w.drawn (settled dir [] w.pending) w.pending shows.below_pending;
  unmade = shows.unmade;
  now = now ∙ shows.now;
}

-- One change of names.
pub shows_changed : (c : Change) (s t : State) (w v : World) → ShowsWorld s w → IsChanged c s.tree t.tree → v.durable ≡ w.durable → v.pending ≡ c ∷ w.pending → w.drawn ≤ v.drawn → IsBelow v.drawn c
    → length t.files.items ≡ v.drawn → ((id : ℕ) → id < v.drawn → file_with t.files.items id ≡ v.files id) → ((u : ℕ) → hold_in t.holds.items u ≡ v.holds u) → t.moment ≡ v.now
    → ((id : ℕ) → v.drawn ≤ id → (v.files id).mode ≡ None) → ShowsWorld t v
shows_changed c s t w v shows i durable pending le below size files holds now unmade = record {
  tree = i.tree;
  named = λ y. i.named y ∙ (changed_alike c (named_in s.tree.names.items) (names w) y (λ x t. shows.named x) (shows.named y) ∙ sym (names_are y));
  durable = λ x. ap (λ ns. named_in ns x) i.durable ∙ (shows.durable x ∙ sym (ap (λ d. d x) durable));
  changes = i.changes ∙ (ap (λ cs. c ∷ cs) shows.changes ∙ sym pending);
  drawn = size;
  files = files;
  holds = holds;
  below = after_below v.drawn v.durable v.pending below_changes below_names;
  below_durable = below_names;
  below_pending = below_changes;
  unmade = unmade;
  now = now;
}
  where
    names_are : (y : Path) → names v y ≡ changed c (names w) y
    names_are y = ap (λ d. names_after d v.pending y) durable ∙ ap (λ p. names_after w.durable p y) pending

    more : (g : ℕ) → g < w.drawn → g < v.drawn
    more g lt = omega arith

    below_names : NamesBelow v.drawn v.durable
    below_names x g e = more g (shows.below_durable x g (sym (ap (λ d. d x) durable) ∙ e))

    below_changes : AllBelow v.drawn v.pending
    below_changes = subst (AllBelow v.drawn) (sym pending) (below, all_more w.drawn v.drawn w.pending le shows.below_pending)

-- a change of names alone
shows_named : (c : Change) (s t : State) (w v : World) → ShowsWorld s w → IsChanged c s.tree t.tree → v.durable ≡ w.durable → v.pending ≡ c ∷ w.pending → v.drawn ≡ w.drawn → IsBelow w.drawn c
    → ((id : ℕ) → v.files id ≡ w.files id) → ((u : ℕ) → v.holds u ≡ w.holds u) → v.now ≡ w.now
    → t.files.items ≡ s.files.items → t.holds.items ≡ s.holds.items → t.moment ≡ s.moment → ShowsWorld t v
shows_named c s t w v shows i durable pending drawn below files holds now files_same holds_same now_same =
    shows_changed c s t w v shows i durable pending (omega arith) (subst (λ d. IsBelow d c) (sym drawn) below) (ap length files_same ∙ (shows.drawn ∙ sym drawn))
    (λ id lt. ap (λ l. file_with l id) files_same ∙ (shows.files id (subst (λ n. id < n) drawn lt) ∙ sym (files id))) (λ u. ap (λ hs. hold_in hs u) holds_same ∙ (shows.holds u ∙ sym (holds u))) (now_same ∙ (shows.now ∙ sym now))
    (λ id le. ap (λ f. f.mode) (files id) ∙ shows.unmade id (subst (λ n. n ≤ id) drawn le))

none_more : (n : ℕ) → n + 0 ≡ n
none_more n = omega arith

pub shows_moved : (s t : State) (w : World) (from to : Path) → ShowsWorld s w → IsChanged (Moves from to) s.tree t.tree
    → t.files.items ≡ s.files.items → t.holds.items ≡ s.holds.items → t.moment ≡ s.moment → ShowsWorld t (effect w (entry.Renames from to))
shows_moved s t w from to shows i files holds now =
    shows_named (Moves from to) s t w (effect w (entry.Renames from to)) shows i refl refl (none_more w.drawn) tt (λ id. refl) (λ u. refl) refl files holds now

pub shows_unlinked : (s t : State) (w : World) (x : Path) → ShowsWorld s w → IsChanged (Drops x) s.tree t.tree
    → t.files.items ≡ s.files.items → t.holds.items ≡ s.holds.items → t.moment ≡ s.moment → ShowsWorld t (effect w (entry.Unlinks x))
shows_unlinked s t w x shows i files holds now =
    shows_named (Drops x) s t w (effect w (entry.Unlinks x)) shows i refl refl (none_more w.drawn) tt (λ id. refl) (λ u. refl) refl files holds now

pub shows_directory : (s t : State) (w : World) (x : Path) (mode : Option ℕ) → ShowsWorld s w → IsChanged (Puts x thing.Directory) s.tree t.tree
    → t.files.items ≡ s.files.items → t.holds.items ≡ s.holds.items → t.moment ≡ s.moment → ShowsWorld t (effect w (entry.MakesDir x mode))
shows_directory s t w x mode shows i files holds now =
    shows_named (Puts x thing.Directory) s t w (effect w (entry.MakesDir x mode)) shows i refl refl (none_more w.drawn) tt (λ id. refl) (λ u. refl) refl files holds now

-- A file made.
pub shows_made : (s t : State) (w : World) (x : Path) (at : ℤ) (mode : Option ℕ) (f : MemFile) → ShowsWorld s w → IsChanged (Puts x (thing.File (length s.files.items))) s.tree t.tree
    → t.files.items ≡ s.files.items ++ f ∷ [] → as_file f ≡ record { bytes = []; synced = 0; mtime = at; mode = mode } → t.holds.items ≡ s.holds.items → t.moment ≡ s.moment → ShowsWorld t (made_world w x at mode)
shows_made s t w x at mode f shows i files new holds now =
    shows_changed (Puts x (thing.File w.drawn)) s t w (made_world w x at mode) shows
    (subst (λ d. IsChanged (Puts x (thing.File d)) s.tree t.tree) shows.drawn i) refl refl (omega arith) (next w.drawn)
    (ap length files ∙ (length-append s.files.items (f ∷ []) ∙ ap (λ n. n + 1) shows.drawn)) (λ id lt. ap (λ fs. file_with fs id) files ∙ by_test id lt (nat_eq w.drawn id) refl) (λ u. ap (λ hs. hold_in hs u) holds ∙ shows.holds u) (now ∙ shows.now)
    (λ id le. not_drawn id le (nat_eq w.drawn id) refl)
  where
    next : (d : ℕ) → d < d + 1
    next d = omega arith

    by_test : (id : ℕ) → id < w.drawn + 1 → (b : Bool) → nat_eq w.drawn id ≡ b → same_file (file_with (s.files.items ++ f ∷ []) id) (record { bytes = cond b [] (w.files id).bytes; synced = cond b 0 (w.files id).synced; mtime = cond b at (w.files id).mtime; mode = cond b mode (w.files id).mode })
    by_test id lt true e =
        let drawn : id ≡ length s.files.items = sym ((numbers_tell w.drawn id).0 e) ∙ sym shows.drawn in
        ap (λ j. file_with (s.files.items ++ f ∷ []) j) drawn ∙ (file_last s.files.items f ∙ new)
    by_test id lt false e =
        let ne : id ≡ w.drawn → ⊥ = λ same. (let t : nat_eq w.drawn id ≡ true = (numbers_tell w.drawn id).1 (sym same) in cc) in
        let below : id < w.drawn = less id lt ne in
        file_before s.files.items f id (subst (λ n. id < n) (sym shows.drawn) below) ∙ shows.files id below
      where
        less : (id : ℕ) → id < w.drawn + 1 → (id ≡ w.drawn → ⊥) → id < w.drawn
        less id lt ne = omega arith

    not_drawn : (id : ℕ) → w.drawn + 1 ≤ id → (b : Bool) → nat_eq w.drawn id ≡ b → cond b mode (w.files id).mode ≡ None
    not_drawn id le true e = absurd (let same : w.drawn ≡ id = (numbers_tell w.drawn id).0 e in omega arith)
    not_drawn id le false e = shows.unmade id (omega arith)

-- a writer holds something else
pub shows_holding : (s t : State) (w : World) (writer : ℕ) (o : Option ℕ) → ShowsWorld s w → t.tree ≡ s.tree → t.files.items ≡ s.files.items → t.moment ≡ s.moment
    → ((v : ℕ) → hold_in t.holds.items v ≡ cond (nat_eq writer v) o (hold_in s.holds.items v))
    → ShowsWorld t (record { files = w.files; drawn = w.drawn; durable = w.durable; pending = w.pending; holds = λ v. cond (nat_eq writer v) o (w.holds v); now = w.now; running = w.running })
shows_holding s t w writer o shows tree files now holds = record {
  tree = subst IsTree (sym tree) shows.tree;
  named = λ x. ap (λ r. named_in r.names.items x) tree ∙ shows.named x;
  durable = λ x. ap (λ r. named_in r.durable.items x) tree ∙ shows.durable x;
  changes = ap (λ r. pending_of r.changes.items) tree ∙ shows.changes;
  drawn = ap length files ∙ shows.drawn;
  files = λ id lt. ap (λ l. file_with l id) files ∙ shows.files id lt;
  holds = λ v. holds v ∙ ap (λ h. cond (nat_eq writer v) o h) (shows.holds v);
  below = shows.below;
  below_durable = shows.below_durable;
  below_pending = shows.below_pending;
  unmade = shows.unmade;
  now = now ∙ shows.now;
}

-- the world behind an attach, by what the path named
abbrev attached_world : World → ℕ → Path → ℤ → Thing → World
attached_world w writer x at t = record {
  files = λ id. record { bytes = cond (makes (making t x w.drawn) id) [] (w.files id).bytes; synced = cond (makes (making t x w.drawn) id) 0 (w.files id).synced; mtime = cond (makes (making t x w.drawn) id) at (w.files id).mtime; mode = (w.files id).mode };
  drawn = drawn_after w (making t x w.drawn);
  durable = durable_after w (making t x w.drawn);
  pending = pending_after w (making t x w.drawn);
  holds = λ v. cond (nat_eq writer v) (attached t w.drawn) (w.holds v);
  now = w.now;
  running = w.running;
}

pub shows_attached : (s t : State) (w : World) (writer : ℕ) (x : Path) (at : ℤ) (g : ℕ) → named_in s.tree.names.items x ≡ thing.File g → ShowsWorld s w → t.tree ≡ s.tree → t.files.items ≡ s.files.items → t.moment ≡ s.moment
    → ((v : ℕ) → hold_in t.holds.items v ≡ cond (nat_eq writer v) (Some g) (hold_in s.holds.items v)) → ShowsWorld t (effect w (entry.Attach writer x at))
shows_attached s t w writer x at g is shows tree files now holds =
    subst (λ thing. ShowsWorld t (attached_world w writer x at thing)) (sym (sym (shows.named x) ∙ is)) (shows_holding s t w writer (Some g) shows tree files now holds)

pub shows_unattached : (s t : State) (w : World) (writer : ℕ) (x : Path) (at : ℤ) (a : Thing) → named_in s.tree.names.items x ≡ a → (a ≡ thing.Nothing → ⊥) → ((g : ℕ) → a ≡ thing.File g → ⊥) → ShowsWorld s w → t.tree ≡ s.tree → t.files.items ≡ s.files.items → t.moment ≡ s.moment
    → ((v : ℕ) → hold_in t.holds.items v ≡ cond (nat_eq writer v) None (hold_in s.holds.items v)) → ShowsWorld t (effect w (entry.Attach writer x at))
shows_unattached s t w writer x at thing.Directory is none stays shows tree files now holds =
    subst (λ thing. ShowsWorld t (attached_world w writer x at thing)) (sym (sym (shows.named x) ∙ is)) (shows_holding s t w writer None shows tree files now holds)
shows_unattached s t w writer x at thing.Other is none stays shows tree files now holds =
    subst (λ thing. ShowsWorld t (attached_world w writer x at thing)) (sym (sym (shows.named x) ∙ is)) (shows_holding s t w writer None shows tree files now holds)
shows_unattached s t w writer x at thing.Nothing is none stays shows tree files now holds = absurd (none refl)
shows_unattached s t w writer x at (thing.File g) is none stays shows tree files now holds = absurd (stays g refl)

-- a writer made a file
pub shows_drawn : (s r t : State) (w : World) (writer : ℕ) (x : Path) (at : ℤ) → named_in s.tree.names.items x ≡ thing.Nothing → ShowsWorld s w → ShowsWorld r (made_world w x at None) → t.tree ≡ r.tree → t.files.items ≡ r.files.items → t.moment ≡ r.moment
    → ((v : ℕ) → hold_in t.holds.items v ≡ cond (nat_eq writer v) (Some (length s.files.items)) (hold_in r.holds.items v)) → ShowsWorld t (effect w (entry.Attach writer x at))
shows_drawn s r t w writer x at is shows made tree files now holds =
    subst (λ thing. ShowsWorld t (attached_world w writer x at thing)) (sym (sym (shows.named x) ∙ is)) (as_attached (shows_holding r t (made_world w x at None) writer (Some w.drawn) made tree files now (λ v. holds v ∙ ap (λ d. cond (nat_eq writer v) (Some d) (hold_in r.holds.items v)) shows.drawn)))
  where
    same_mode : (id : ℕ) (b : Bool) → nat_eq w.drawn id ≡ b → same_file (record { bytes = cond b [] (w.files id).bytes; synced = cond b 0 (w.files id).synced; mtime = cond b at (w.files id).mtime; mode = cond b None (w.files id).mode }) (record { bytes = cond b [] (w.files id).bytes; synced = cond b 0 (w.files id).synced; mtime = cond b at (w.files id).mtime; mode = (w.files id).mode })
    same_mode id true e = ap (λ m. no_mode m) (sym (shows.unmade id (let same : w.drawn ≡ id = (numbers_tell w.drawn id).0 e in omega arith)))
      where
        no_mode : Option ℕ → File
        no_mode m = record { bytes = []; synced = 0; mtime = at; mode = m }
    same_mode id false e = refl

    as_attached : ShowsWorld t (record { files = (made_world w x at None).files; drawn = w.drawn + 1; durable = w.durable; pending = Puts x (thing.File w.drawn) ∷ w.pending; holds = λ v. cond (nat_eq writer v) (Some w.drawn) (w.holds v); now = w.now; running = w.running }) → ShowsWorld t (attached_world w writer x at thing.Nothing)
    as_attached m = record {
      tree = m.tree;
      named = m.named;
      durable = m.durable;
      changes = m.changes;
      drawn = m.drawn;
      files = λ id lt. m.files id lt ∙ same_mode id (nat_eq w.drawn id) refl;
      holds = m.holds;
      below = m.below;
      below_durable = m.below_durable;
      below_pending = m.below_pending;
      unmade = λ id le. shows.unmade id (omega arith);
      now = m.now;
    }

-- a run begins
pub shows_begun : (s t : State) (w : World) (state : Path) (now : _) (rules : _) → ShowsWorld s w → t.tree ≡ s.tree → t.files.items ≡ s.files.items → t.holds.items ≡ s.holds.items → t.moment ≡ (effect w (entry.Starts state now rules)).now → ShowsWorld t (effect w (entry.Starts state now rules))
shows_begun s t w state now rules shows tree files holds moment = record {
  tree = subst IsTree (sym tree) shows.tree;
  named = λ x. ap (λ r. named_in r.names.items x) tree ∙ shows.named x;
  durable = λ x. ap (λ r. named_in r.durable.items x) tree ∙ shows.durable x;
  changes = ap (λ r. pending_of r.changes.items) tree ∙ shows.changes;
  drawn = ap length files ∙ shows.drawn;
  files = λ id lt. ap (λ l. file_with l id) files ∙ shows.files id lt;
  holds = λ v. ap (λ hs. hold_in hs v) holds ∙ shows.holds v;
  below = shows.below;
  below_durable = shows.below_durable;
  below_pending = shows.below_pending;
  unmade = shows.unmade;
  now = moment;
}

-- The machine stops.
pub shows_cut : (s t : State) (w : World) (kept : List ℕ) (lengths : List (ℕ × ℕ)) → ShowsWorld s w → IsTreeLeft kept s.tree t.tree → t.holds.items ≡ [] → length t.files.items ≡ length s.files.items
    → ((id : ℕ) → id < length s.files.items → file_with t.files.items id ≡ cut_file (length_of lengths id) (file_with s.files.items id)) → t.moment ≡ s.moment → ShowsWorld t (effect w (entry.Cut kept lengths))
shows_cut s t w kept lengths shows l holds size files now = record {
  tree = l.tree;
  named = λ x. l.named x ∙ (l.durable x ∙ left_names s w kept shows x);
  durable = λ x. l.durable x ∙ left_names s w kept shows x;
  changes = ap pending_of l.changes;
  drawn = size ∙ shows.drawn;
  files = λ id lt. files id (subst (λ n. id < n) (sym shows.drawn) lt) ∙ ap (cut_file (length_of lengths id)) (shows.files id lt);
  holds = λ v. ap (λ hs. hold_in hs v) holds;
  below = left_below w kept shows.below_durable shows.below_pending;
  below_durable = left_below w kept shows.below_durable shows.below_pending;
  below_pending = tt;
  unmade = shows.unmade;
  now = now ∙ shows.now;
}

-- the entries that change nothing that is in memory
pub shows_still : (s : State) (w v : World) → ShowsWorld s w → v.drawn ≡ w.drawn → ((id : ℕ) → v.files id ≡ w.files id) → ((u : ℕ) → v.holds u ≡ w.holds u) → v.now ≡ w.now → v.durable ≡ w.durable → v.pending ≡ w.pending → ShowsWorld s v
shows_still s w v shows drawn files holds now durable pending = record {
  tree = shows.tree;
  named = λ x. shows.named x ∙ sym (alike_names w v durable pending x);
  durable = λ x. shows.durable x ∙ sym (ap (λ d. d x) durable);
  changes = shows.changes ∙ sym pending;
  drawn = shows.drawn ∙ sym drawn;
  files = λ id lt. shows.files id (subst (λ n. id < n) drawn lt) ∙ sym (files id);
  holds = λ u. shows.holds u ∙ sym (holds u);
  below = λ x g e. subst (λ n. g < n) (sym drawn) (shows.below x g (sym (alike_names w v durable pending x) ∙ e));
  below_durable = subst (λ n. NamesBelow n v.durable) (sym drawn) (subst (NamesBelow w.drawn) (sym durable) shows.below_durable);
  below_pending = subst (λ n. AllBelow n v.pending) (sym drawn) (subst (AllBelow w.drawn) (sym pending) shows.below_pending);
  unmade = λ id le. ap (λ f. f.mode) (files id) ∙ shows.unmade id (subst (λ n. n ≤ id) drawn le);
  now = shows.now ∙ sym now;
}

pub shows_rest : (s : State) (w : World) (e : Entry) → IsTools e → ShowsWorld s w
    → ((x : Path) (now : _) (rules : _) → e ≡ entry.Starts x now rules → ⊥) → ((from to : Path) → e ≡ entry.Renames from to → ⊥) → ((x : Path) (mode : Option ℕ) → e ≡ entry.Makes x mode → ⊥) → ((x : Path) (bytes : List ℕ) → e ≡ entry.Appends x bytes → ⊥)
    → ((x : Path) → e ≡ entry.Truncates x → ⊥) → ((x : Path) → e ≡ entry.Unlinks x → ⊥) → ((x : Path) → e ≡ entry.SyncsFile x → ⊥) → ((x : Path) → e ≡ entry.SyncsDir x → ⊥) → ((x : Path) (mode : Option ℕ) → e ≡ entry.MakesDir x mode → ⊥) → ShowsWorld s (effect w e)
shows_rest s w (entry.Look x seen) t shows n1 n2 n3 n4 n5 n6 n7 n8 n9 = shows_still s w (effect w (entry.Look x seen)) shows refl (λ id. refl) (λ u. refl) refl refl refl
shows_rest s w (entry.List dir listed) t shows n1 n2 n3 n4 n5 n6 n7 n8 n9 = shows_still s w (effect w (entry.List dir listed)) shows refl (λ id. refl) (λ u. refl) refl refl refl
shows_rest s w (entry.Reads x from piece) t shows n1 n2 n3 n4 n5 n6 n7 n8 n9 = shows_still s w (effect w (entry.Reads x from piece)) shows refl (λ id. refl) (λ u. refl) refl refl refl
shows_rest s w entry.Ends t shows n1 n2 n3 n4 n5 n6 n7 n8 n9 = shows_still s w (effect w entry.Ends) shows refl (λ id. refl) (λ u. refl) refl refl refl
shows_rest s w (entry.Runs program args input ended) t shows n1 n2 n3 n4 n5 n6 n7 n8 n9 = shows_still s w (effect w (entry.Runs program args input ended)) shows refl (λ id. refl) (λ u. refl) refl refl refl
shows_rest s w (entry.Starts x now rules) t shows n1 n2 n3 n4 n5 n6 n7 n8 n9 = absurd (n1 x now rules refl)
shows_rest s w (entry.Renames from to) t shows n1 n2 n3 n4 n5 n6 n7 n8 n9 = absurd (n2 from to refl)
shows_rest s w (entry.Makes x mode) t shows n1 n2 n3 n4 n5 n6 n7 n8 n9 = absurd (n3 x mode refl)
shows_rest s w (entry.Appends x bytes) t shows n1 n2 n3 n4 n5 n6 n7 n8 n9 = absurd (n4 x bytes refl)
shows_rest s w (entry.Truncates x) t shows n1 n2 n3 n4 n5 n6 n7 n8 n9 = absurd (n5 x refl)
shows_rest s w (entry.Unlinks x) t shows n1 n2 n3 n4 n5 n6 n7 n8 n9 = absurd (n6 x refl)
shows_rest s w (entry.SyncsFile x) t shows n1 n2 n3 n4 n5 n6 n7 n8 n9 = absurd (n7 x refl)
shows_rest s w (entry.SyncsDir x) t shows n1 n2 n3 n4 n5 n6 n7 n8 n9 = absurd (n8 x refl)
shows_rest s w (entry.MakesDir x mode) t shows n1 n2 n3 n4 n5 n6 n7 n8 n9 = absurd (n9 x mode refl)
shows_rest s w _ t shows n1 n2 n3 n4 n5 n6 n7 n8 n9 = absurd t

-- an entry that was given is this one
pub renames_is : (s t : State) (w : World) (e : Entry) (from to : Path) → e ≡ entry.Renames from to → ShowsWorld s w → EntryHasRoom s e → ((c : Change) → CanChange s.tree c → IsChanged c s.tree t.tree)
    → t.files.items ≡ s.files.items → t.holds.items ≡ s.holds.items → t.moment ≡ s.moment → ShowsWorld t (effect w e)
renames_is s t w e from to is shows ready done files holds now = subst (λ d. ShowsWorld t (effect w d)) (sym is) (shows_moved s t w from to shows (done (Moves from to) (subst (EntryHasRoom s) is ready)) files holds now)

pub unlinks_is : (s t : State) (w : World) (e : Entry) (x : Path) → e ≡ entry.Unlinks x → ShowsWorld s w → EntryHasRoom s e → ((c : Change) → CanChange s.tree c → IsChanged c s.tree t.tree)
    → t.files.items ≡ s.files.items → t.holds.items ≡ s.holds.items → t.moment ≡ s.moment → ShowsWorld t (effect w e)
unlinks_is s t w e x is shows ready done files holds now = subst (λ d. ShowsWorld t (effect w d)) (sym is) (shows_unlinked s t w x shows (done (Drops x) (subst (EntryHasRoom s) is ready)) files holds now)

pub directory_is : (s t : State) (w : World) (e : Entry) (x : Path) (mode : Option ℕ) → e ≡ entry.MakesDir x mode → ShowsWorld s w → EntryHasRoom s e → ((c : Change) → CanChange s.tree c → IsChanged c s.tree t.tree)
    → t.files.items ≡ s.files.items → t.holds.items ≡ s.holds.items → t.moment ≡ s.moment → ShowsWorld t (effect w e)
directory_is s t w e x mode is shows ready done files holds now = subst (λ d. ShowsWorld t (effect w d)) (sym is) (shows_directory s t w x mode shows (done (Puts x thing.Directory) (subst (EntryHasRoom s) is ready)) files holds now)

pub settles_is : (s t : State) (w : World) (e : Entry) (x : Path) → e ≡ entry.SyncsDir x → ShowsWorld s w → IsSynced x s.tree t.tree
    → t.files.items ≡ s.files.items → t.holds.items ≡ s.holds.items → t.moment ≡ s.moment → ShowsWorld t (effect w e)
settles_is s t w e x is shows done files holds now = subst (λ d. ShowsWorld t (effect w d)) (sym is) (shows_settled s t w x shows done files holds now)

pub starts_is : (s t : State) (w : World) (e : Entry) (state : Path) (now : _) (rules : _) → e ≡ entry.Starts state now rules → ShowsWorld s w → t.tree ≡ s.tree → t.files.items ≡ s.files.items → t.holds.items ≡ s.holds.items → t.moment ≡ now.seconds → ShowsWorld t (effect w e)
starts_is s t w e state now rules is shows tree files holds moment = subst (λ d. ShowsWorld t (effect w d)) (sym is) (shows_begun s t w state now rules shows tree files holds moment)

pub makes_is : (s t : State) (w : World) (e : Entry) (x : Path) (mode : Option ℕ) → e ≡ entry.Makes x mode → ShowsWorld s w → EntryHasRoom s e → ((v : World) (y : Path) → CanDraw s y → ShowsWorld s v → ShowsWorld t (made_world v y s.moment mode)) → ShowsWorld t (effect w e)
makes_is s t w e x mode is shows ready made = subst (λ d. ShowsWorld t (effect w d)) (sym is) (subst (λ at. ShowsWorld t (made_world w x at mode)) shows.now (made w x (subst (EntryHasRoom s) is ready) shows))
