-- What the sync of a directory makes durable.
use Rattle.std.proofs.Common.{◌≡◌, ℕ, Bool, true, false, cond, ◌||◌, refl, sym, ◌∙◌, subst, List, [], ◌∷◌, length}
use Rattle.std.specs.List.{list_any}
use Rattle.std.proofs.lemmas.Bool.{or_left}
use Rattle.std.proofs.lemmas.Slice.Eq.{bytes_eq-Decides}
use Rattle.lr_rules.specs.declared.path.Path.{Path}
use Rattle.lr_rules.specs.Path.{parent_of}
use Rattle.lr_rules.proofs.Bools.{not_both}
use Rattle.lr_host.specs.declared.entry.Entry.TheVariants as entry
use Rattle.lr_host.specs.Kept.{Leaves}
use Rattle.lr_host.specs.World.{Past, ◌▸◌, world, Names, names, names_after, names_kept, MayLeave, but, Change, in_list, paths_in, is_listed, kept_at, undone_at, has_parent, is_bound, settled}
use Rattle.lr_host.proofs.Closed.{Touches, touched_any, touched_in, untouched, NoneTouches, unbound_of}
use Rattle.lr_host.proofs.Places.{bound, synced_names}

-- ---- paths that no change has

-- such a path names what it durably names
pub none_after : (d : Names) (cs : List Change) (x : Path) → NoneTouches cs x → names_after d cs x ≡ d x
none_after d [] x none = refl
none_after d (c ∷ cs) x none = untouched c (names_after d cs) x none.0 ∙ none_after d cs x none.1

none_kept : (places : List ℕ) (cs : List Change) (x : Path) → NoneTouches cs x → NoneTouches (kept_at places cs) x
none_kept places [] x none = tt
none_kept places (c ∷ cs) x none = go (is_listed places (length cs)) (none_kept places cs x none.1)
  where
    go : (b : Bool) → NoneTouches (kept_at places cs) x → NoneTouches (cond b (c ∷ kept_at places cs) (kept_at places cs)) x
    go true rest = (none.0, rest)
    go false rest = rest

-- whatever a cut leaves
pub none_left : (d : Names) (cs : List Change) (x : Path) → NoneTouches cs x → (n : Names) (undone : List Change) → MayLeave d cs n undone → n x ≡ d x
none_left d cs x none _ _ (but places closed) = none_after d (kept_at places cs) x (none_kept places cs x none)

-- by the test that contracts use
pub none_listed : (cs : List Change) (x : Path) → list_any (λ c. in_list (paths_in c) x) cs ≡ false → NoneTouches cs x
none_listed [] x none = tt
none_listed (c ∷ cs) x none = go (λ h. none_listed cs x h) (in_list (paths_in c) x) refl none
  where
    go : (list_any (λ c. in_list (paths_in c) x) cs ≡ false → NoneTouches cs x) → (b : Bool) → in_list (paths_in c) x ≡ b → (b || list_any (λ c. in_list (paths_in c) x) cs) ≡ false → NoneTouches (c ∷ cs) x
    go rest true is h = absurd (cc)
    go rest false is h = ((λ t. not_both (in_list (paths_in c) x) (touched_in c x t) is), rest h)

-- ---- the sync

-- what it leaves pending has no path right in the directory
none_unbound : (dir : Path) (newer cs : List Change) (x : Path) → has_parent dir x ≡ true → NoneTouches (unbound_of dir newer cs) x
none_unbound dir newer [] x h = tt
none_unbound dir newer (c ∷ older) x h = go (is_bound dir newer c) refl (none_unbound dir (c ∷ newer) older x h) (none_unbound dir newer older x h)
  where
    bound_by : Touches c x → is_bound dir newer c ≡ true
    bound_by t = or_left (list_any (has_parent dir) (paths_in c)) _ (touched_any c x (has_parent dir) t h)

    go : (b : Bool) → is_bound dir newer c ≡ b → NoneTouches (unbound_of dir (c ∷ newer) older) x → NoneTouches (unbound_of dir newer older) x → NoneTouches (cond b (unbound_of dir (c ∷ newer) older) (c ∷ unbound_of dir newer older)) x
    go true is r s = r
    go false is r s = ((λ t. not_both (is_bound dir newer c) (bound_by t) is), s)

pub none_undone : (dir : Path) (cs : List Change) (x : Path) → has_parent dir x ≡ true → NoneTouches (undone_at (settled dir [] cs) cs) x
none_undone dir cs x h = subst (λ (us : List Change). NoneTouches us x) (sym (bound dir [] cs).leaves) (none_unbound dir [] cs x h)

pub is_parent : (dir x : Path) → parent_of x ≡ dir → has_parent dir x ≡ true
is_parent dir x e = (bytes_eq-Decides (parent_of x) dir).1 e

-- Behind it each path right in the directory names, after each cut, what it names now.
pub synced_durable : (p : Past) (dir x : Path) → parent_of x ≡ dir → (n : Names) (undone : List Change) → Leaves (p ▸ entry.SyncsDir dir) n undone → n x ≡ names (world p) x
synced_durable p dir x e n undone l = none_left durable pending x none n undone l ∙ (sym (none_after durable pending x none) ∙ synced_names (world p) dir x)
  where
    durable : Names
    durable = names_kept (world p) (settled dir [] (world p).pending)

    pending : List Change
    pending = undone_at (settled dir [] (world p).pending) (world p).pending

    none : NoneTouches pending x
    none = none_undone dir (world p).pending x (is_parent dir x e)
