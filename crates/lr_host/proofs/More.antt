-- Names that differ by files alone that writers made: what fits the first fits the second.
use Rattle.std.proofs.Common.{◌≡◌, ◌≢◌, ◌⊎◌, inl, inr, ⊎_elim, ℕ, Bool, true, false, cond, refl, sym, ◌∙◌, ap, Option, Some, None, bytes_eq}
use Rattle.std.proofs.lemmas.Slice.Eq.{bytes_eq-Decides}
use Rattle.lr_rules.specs.Path.{parent_of}
use Rattle.lr_rules.specs.declared.path.Path.{Path}
use Rattle.lr_host.specs.declared.thing.Thing.{Thing}
use Rattle.lr_host.specs.declared.thing.Thing.TheVariants as thing
use Rattle.lr_host.specs.declared.entry.Entry.{Entry}
use Rattle.lr_host.specs.declared.entry.Entry.TheVariants as entry
use Rattle.lr_host.specs.declared.entry.Entry.TheVariants.{Attach, Feed, Flush, Detach, Renames, Makes, MakesDir, Appends, Truncates, Unlinks}
use Rattle.lr_host.specs.World.{Names, put, World, names, names_after, NameStep, durable_after, pending_after, effect, making, Past, ◌▸◌, world, Puts, Moves, Drops, changed}
use Rattle.lr_host.specs.Fits.{IsFileAt, MaybeFileAt, IsDirectoryAt}
use Rattle.lr_host.specs.Told.{IsWriters, CanCall}
use Rattle.lr_host.proofs.Names.{put_here, put_other}
use Rattle.lr_host.proofs.Looked.{nothing_no_file, nothing_no_dir, file_no_dir}

-- the second names at this path what the first do, or a file where they name nothing
abbrev pub IsMoreAt : Path → Names → Names → Type 0
IsMoreAt y n n' = (n' y ≡ n y) ⊎ ((n y ≡ thing.Nothing) × IsFileAt n' y)

-- names that differ by files alone that writers made
abbrev pub IsMore : Names → Names → Type 0
IsMore n n' = (y : Path) → IsMoreAt y n n'

-- a path that names a file names that file still
pub file_at : (n n' : Names) (x : Path) → IsMoreAt x n n' → IsFileAt n x → n' x ≡ n x
file_at n n' x h f = ⊎_elim (λ same. same) (λ new. absurd (nothing_no_file (n x) f.0 new.0 f.1)) h

pub file_same : (n n' : Names) (x : Path) → IsMore n n' → IsFileAt n x → n' x ≡ n x
file_same n n' x h f = file_at n n' x (h x) f

pub moved_at : (n n' : Names) (x z y : Path) → n' x ≡ n x → IsMoreAt y n n' → IsMoreAt y (changed (Moves x z) n) (changed (Moves x z) n')
moved_at n n' x z y same h = at_to (bytes_eq z y)
  where
    at_from : (b : Bool) → (cond b thing.Nothing (n' y) ≡ cond b thing.Nothing (n y)) ⊎ ((cond b thing.Nothing (n y) ≡ thing.Nothing) × ((g : ℕ) × (cond b thing.Nothing (n' y) ≡ thing.File g)))
    at_from true = inl refl
    at_from false = h

    at_to : (b : Bool) → (cond b (n' x) (put n' x thing.Nothing y) ≡ cond b (n x) (put n x thing.Nothing y)) ⊎ ((cond b (n x) (put n x thing.Nothing y) ≡ thing.Nothing) × ((g : ℕ) × (cond b (n' x) (put n' x thing.Nothing y) ≡ thing.File g)))
    at_to true = inl same
    at_to false = at_from (bytes_eq x y)

pub put_at : (n n' : Names) (x : Path) (t : Thing) (y : Path) → IsMoreAt y n n' → IsMoreAt y (put n x t) (put n' x t)
put_at n n' x t y h = go (bytes_eq x y)
  where
    go : (b : Bool) → (cond b t (n' y) ≡ cond b t (n y)) ⊎ ((cond b t (n y) ≡ thing.Nothing) × ((g : ℕ) × (cond b t (n' y) ≡ thing.File g)))
    go true = inl refl
    go false = h

pub more_at_on : (n n' n'' : Names) (y : Path) → IsMoreAt y n n' → IsMoreAt y n' n'' → IsMoreAt y n n''
more_at_on n n' n'' y (inl p) (inl q) = inl (q ∙ p)
more_at_on n n' n'' y (inl p) (inr q) = inr (sym p ∙ q.0, q.1)
more_at_on n n' n'' y (inr p) (inl q) = inr (p.0, (p.1.0, q ∙ p.1.1))
more_at_on n n' n'' y (inr p) (inr q) = inr (p.0, q.1)

pub moved_more : (n n' : Names) (x z : Path) → IsFileAt n x → IsMore n n' → IsMore (changed (Moves x z) n) (changed (Moves x z) n')
moved_more n n' x z f h y = moved_at n n' x z y (file_same n n' x h f) (h y)

pub dropped_more : (n n' : Names) (x : Path) → IsMore n n' → IsMore (changed (Drops x) n) (changed (Drops x) n')
dropped_more n n' x h y = put_at n n' x thing.Nothing y (h y)

pub put_more : (n n' : Names) (x : Path) (t : Thing) → IsMore n n' → IsMore (changed (Puts x t) n) (changed (Puts x t) n')
put_more n n' x t h y = put_at n n' x t y (h y)

pub more_on : (n n' n'' : Names) → IsMore n n' → IsMore n' n'' → IsMore n n''
more_on n n' n'' a b y = more_at_on n n' n'' y (a y) (b y)

pub made_more : (n : Names) (x : Path) (g : ℕ) → n x ≡ thing.Nothing → IsMore n (changed (Puts x (thing.File g)) n)
made_more n x g free y = go (bytes_eq x y) refl
  where
    go : (b : Bool) → bytes_eq x y ≡ b → (cond b (thing.File g) (n y) ≡ n y) ⊎ ((n y ≡ thing.Nothing) × ((f : ℕ) × (cond b (thing.File g) (n y) ≡ thing.File f)))
    go true e = inr (ap n (sym ((bytes_eq-Decides x y).0 e)) ∙ free, (g, refl))
    go false e = inl refl

pub directory_at : (n n' : Names) (x : Path) → IsMoreAt x n n' → IsDirectoryAt n x → IsDirectoryAt n' x
directory_at n n' x h d = ⊎_elim (λ same. same ∙ d) (λ new. absurd (nothing_no_dir (n x) new.0 d)) h

pub directory_more : (n n' : Names) (x : Path) → IsMore n n' → IsDirectoryAt n x → IsDirectoryAt n' x
directory_more n n' x more d = directory_at n n' x (more x) d

pub file_more : (n n' : Names) (x : Path) → IsMore n n' → IsFileAt n x → IsFileAt n' x
file_more n n' x more f = (f.0, file_same n n' x more f ∙ f.1)

-- what is a directory, or nothing, was that before
pub dir_before : (n n' : Names) (x : Path) → IsMore n n' → IsDirectoryAt n' x → IsDirectoryAt n x
dir_before n n' x more d = ⊎_elim (λ same. sym same ∙ d) (λ new. absurd (file_no_dir (n' x) new.1.0 new.1.1 d)) (more x)

pub nothing_before : (n n' : Names) (x : Path) → IsMore n n' → n' x ≡ thing.Nothing → n x ≡ thing.Nothing
nothing_before n n' x more e = ⊎_elim (λ same. sym same ∙ e) (λ new. new.0) (more x)

pub not_at : (n n' : Names) (x : Path) (t : Thing) → IsMoreAt x n n' → ((g : ℕ) → thing.File g ≡ t → ⊥) → n x ≢ t → n' x ≢ t
not_at n n' x t h nf ne is = ⊎_elim (λ same. ne (sym same ∙ is)) (λ new. nf new.1.0 (sym new.1.1 ∙ is)) h

pub not_more : (n n' : Names) (x : Path) (t : Thing) → IsMore n n' → ((g : ℕ) → thing.File g ≡ t → ⊥) → n x ≢ t → n' x ≢ t
not_more n n' x t more nf ne is = not_at n n' x t (more x) nf ne is

-- a call that fits the names still fits where files were made
pub can_more : (n n' : Names) (e : Entry) → IsMore n n' → CanCall n e → CanCall n' e
can_more n n' (Renames from to) more fit =
    (file_more n n' from more fit.0, not_more n n' to thing.Directory more (λ g x. cc) fit.1, not_more n n' to thing.Other more (λ g x. cc) fit.2, directory_more n n' (parent_of to) more fit.3, fit.4)
can_more n n' (entry.Starts state now rules) more fit = directory_more n n' (parent_of state) more fit
can_more n n' (entry.List dir listed) more fit = directory_more n n' dir more fit
can_more n n' (entry.Reads x from piece) more fit = file_more n n' x more fit
can_more n n' (Makes x mode) more fit = directory_more n n' (parent_of x) more fit
can_more n n' (Appends x piece) more fit = file_more n n' x more fit
can_more n n' (Truncates x) more fit = file_more n n' x more fit
can_more n n' (Unlinks x) more fit = file_more n n' x more fit
can_more n n' (entry.SyncsFile x) more fit = file_more n n' x more fit
can_more n n' (entry.SyncsDir x) more fit = directory_more n n' x more fit
can_more n n' (MakesDir x mode) more fit = directory_more n n' (parent_of x) more fit
can_more n n' (entry.Runs program args input ended) more fit = maybe input fit
  where
    maybe : (o : Option Path) → MaybeFileAt n o → MaybeFileAt n' o
    maybe None f = tt
    maybe (Some x) f = file_more n n' x more f
can_more n n' _ more fit = fit

-- the names after a step
abbrev pub names_by : World → NameStep → Names
names_by w st = names_after (durable_after w st) (pending_after w st)

-- an attach makes one file at most
pub attach_names : (w : World) (writer : ℕ) (x y : Path) (at : _) → (names (effect w (Attach writer x at)) y ≡ names w y) ⊎ ((x ≡ y) × (names w y ≡ thing.Nothing) × (names (effect w (Attach writer x at)) y ≡ thing.File w.drawn))
attach_names w writer x y at = go (names w x) refl
  where
    go : (t : Thing) → names w x ≡ t → (names_by w (making t x w.drawn) y ≡ names w y) ⊎ ((x ≡ y) × (names w y ≡ thing.Nothing) × (names_by w (making t x w.drawn) y ≡ thing.File w.drawn))
    go thing.Nothing q = by (bytes_eq x y) refl
      where
        by : (b : Bool) → bytes_eq x y ≡ b → (names_by w (making thing.Nothing x w.drawn) y ≡ names w y) ⊎ ((x ≡ y) × (names w y ≡ thing.Nothing) × (names_by w (making thing.Nothing x w.drawn) y ≡ thing.File w.drawn))
        by true e = let same : x ≡ y = (bytes_eq-Decides x y).0 e in inr (same, ap (names w) (sym same) ∙ q, put_here (names w) x y (thing.File w.drawn) (sym same))
        by false e = inl (put_other (names w) x y (thing.File w.drawn) (λ same. let t : bytes_eq x y ≡ true = (bytes_eq-Decides x y).1 (sym same) in cc))
    go (thing.File f) q = inl refl
    go thing.Directory q = inl refl
    go thing.Other q = inl refl

-- a writer's entry leaves what a path names, or makes a file where nothing was named
pub wrote_names : (p : Past) (e : Entry) (y : Path) → IsWriters e → (names (world (p ▸ e)) y ≡ names (world p) y) ⊎ ((names (world p) y ≡ thing.Nothing) × IsFileAt (names (world (p ▸ e))) y)
wrote_names p (Attach v x at) y i = ⊎_elim (λ same. inl same) (λ new. inr (new.1, ((world p).drawn, new.2))) (attach_names (world p) v x y at)
wrote_names p (Feed v bytes at) y i = inl refl
wrote_names p (Flush v) y i = inl refl
wrote_names p (Detach v) y i = inl refl
wrote_names p _ y i = absurd i
