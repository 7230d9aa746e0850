-- Names after changes name files whose identities are below a number, where the names before and the changes do.
use Rattle.std.proofs.Common.{◌≡◌, ⊎_elim, ℕ, ◌<◌, ◌≤◌, Bool, true, false, cond, subst, arith, List, [], ◌∷◌, length, refl}
use Rattle.lr_rules.specs.declared.path.Path.{Path}
use Rattle.lr_host.specs.declared.thing.Thing.{Thing}
use Rattle.lr_host.specs.declared.thing.Thing.TheVariants as thing
use Rattle.lr_host.specs.World.{Names, names_after, put, Change, Puts, Moves, Drops, changed, is_listed, kept_at, undone_at}
use Rattle.lr_host.specs.Below.{NamesBelow, IsBelow, AllBelow}
use Rattle.lr_host.proofs.Names.{put_cases}
use Rattle.lr_host.proofs.Looked.{nothing_no_file}

pub put_below : (d : ℕ) (n : Names) (x : Path) (t : Thing) → ((g : ℕ) → t ≡ thing.File g → g < d) → NamesBelow d n → NamesBelow d (put n x t)
put_below d n x t here h y g e = ⊎_elim (λ at. here g at.1) (λ old. h y g old.1) (put_cases n x t y (thing.File g) e)

thing_below : (d : ℕ) (x : Path) (t : Thing) (g : ℕ) → IsBelow d (Puts x t) → t ≡ thing.File g → g < d
thing_below d x t g b e = let c : IsBelow d (Puts x (thing.File g)) = subst (λ (v : Thing). IsBelow d (Puts x v)) e b in c

changed_below : (d : ℕ) (n : Names) (c : Change) → IsBelow d c → NamesBelow d n → NamesBelow d (changed c n)
changed_below d n (Puts x t) b h = put_below d n x t (λ g e. thing_below d x t g b e) h
changed_below d n (Moves from to) b h = put_below d (put n from thing.Nothing) to (n from) (λ g e. h from g e) (put_below d n from thing.Nothing (λ g e. absurd (nothing_no_file thing.Nothing g refl e)) h)
changed_below d n (Drops x) b h = put_below d n x thing.Nothing (λ g e. absurd (nothing_no_file thing.Nothing g refl e)) h

pub after_below : (d : ℕ) (n : Names) (cs : List Change) → AllBelow d cs → NamesBelow d n → NamesBelow d (names_after n cs)
after_below d n [] b h = h
after_below d n (c ∷ cs) b h = changed_below d (names_after n cs) c b.0 (after_below d n cs b.1 h)

-- below a greater one too
pub below_more : (d e : ℕ) (c : Change) → d ≤ e → IsBelow d c → IsBelow e c
below_more d e (Puts x (thing.File g)) le b = let lt : g < d = b in omega arith
below_more d e (Puts x thing.Nothing) le b = tt
below_more d e (Puts x thing.Directory) le b = tt
below_more d e (Puts x thing.Other) le b = tt
below_more d e (Moves from to) le b = tt
below_more d e (Drops x) le b = tt

pub all_more : (d e : ℕ) (cs : List Change) → d ≤ e → AllBelow d cs → AllBelow e cs
all_more d e [] le b = tt
all_more d e (c ∷ cs) le b = (below_more d e c le b.0, all_more d e cs le b.1)

-- and so do the changes that a cut keeps, and the others
pub kept_below : (d : ℕ) (places : List ℕ) (cs : List Change) → AllBelow d cs → AllBelow d (kept_at places cs)
kept_below d places [] b = tt
kept_below d places (c ∷ cs) b = go (is_listed places (length cs)) (kept_below d places cs b.1)
  where
    go : (l : Bool) → AllBelow d (kept_at places cs) → AllBelow d (cond l (c ∷ kept_at places cs) (kept_at places cs))
    go true r = (b.0, r)
    go false r = r

pub undone_below : (d : ℕ) (places : List ℕ) (cs : List Change) → AllBelow d cs → AllBelow d (undone_at places cs)
undone_below d places [] b = tt
undone_below d places (c ∷ cs) b = go (is_listed places (length cs)) (undone_below d places cs b.1)
  where
    go : (l : Bool) → AllBelow d (undone_at places cs) → AllBelow d (cond l (undone_at places cs) (c ∷ undone_at places cs))
    go true r = r
    go false r = (b.0, r)
