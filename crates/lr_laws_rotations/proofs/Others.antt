-- What stands between a log's own steps is on the paths of other logs and of the state, or makes the family's directory.
use Rattle.std.proofs.Common.{◌≡◌, ◌⊎◌, inl, inr, ℕ, Bool, true, false, cond, bytes_eq, refl, sym, ◌∙◌, subst, Option, Some, None, List, [], ◌∷◌, ◌++◌}
use Rattle.std.specs.Prelude.{filter}
use Rattle.std.specs.List.{flat_map}
use Rattle.std.proofs.lemmas.Slice.Eq.{bytes_eq-Decides}
use Rattle.lr_rules.specs.declared.path.Path.{Path}
use Rattle.lr_host.specs.declared.entry.Entry.{Entry}
use Rattle.lr_host.specs.declared.entry.Entry.TheVariants as entry
use Rattle.lr_host.specs.declared.entry.Entry.TheVariants.{Renames, Makes, MakesDir, Appends, Truncates, Unlinks}
use Rattle.lr_host.specs.Lists.{IsIn}
use Rattle.lr_host.specs.Quiet.{is_disk_change}
use Rattle.lr_host.specs.Steps.{is_change}
use Rattle.lr_host.specs.Told.{Each}
use Rattle.lr_host.proofs.Each.{all_pass}
use Rattle.lr_host.proofs.Lists.{in_front, in_back}
use Rattle.lr_host.proofs.Quiet.{disk_of_changes}
use Rattle.lr_laws.specs.Follow.{changed_paths}
use Rattle.lr_copy.specs.declared.job.Job.{Job}
use Rattle.lr_laws_rotations.specs.AllTurns.{IsStatePath, IsOfState, IsPartFile, IsItsDir, AlsoDoes, IsOf, IsOfOther, StandsBetween, job_part_paths, dir_paths, target_paths, paths_of_others, other_paths, paths_beside}
use Rattle.lr_laws_family.specs.Beside.{IsOn, IsBeside}
use Rattle.lr_laws_rotations.specs.Target.{Target, target_entries}
use Rattle.lr_laws_family.specs.Weave.{Weave}
use Rattle.lr_laws_family.proofs.Fed.{IsTurn}
use Rattle.lr_laws_rotations.proofs.Rotating.{each_turn}
use Rattle.lr_laws_family.proofs.Splitting.{weave_each}
use Rattle.lr_laws_family.proofs.Weaving.{weave_as, each_in}
use Rattle.lr_laws_family.proofs.Anew.{on_more}

-- ---- on which paths

-- a rename or an unlink is on its own paths
turn_on : (e : Entry) → IsTurn e → IsOn (changed_paths e) e
turn_on (Renames from to) t = (inl refl, inr (inl refl))
turn_on (Unlinks x) t = inl refl
turn_on _ t = absurd t

in_on : (es : List Entry) (e : Entry) → IsIn e es → IsTurn e → IsOn (flat_map changed_paths es) e
in_on [] e i t = absurd i
in_on (x ∷ xs) e (inl is) t = on_more (changed_paths e) (flat_map changed_paths (x ∷ xs)) e (λ y h. in_front y (changed_paths x) (flat_map changed_paths xs) (subst (λ (d : Entry). IsIn y (changed_paths d)) (sym is) h)) (turn_on e t)
in_on (x ∷ xs) e (inr i) t = on_more (flat_map changed_paths xs) (flat_map changed_paths (x ∷ xs)) e (λ y h. in_back y (changed_paths x) (flat_map changed_paths xs) h) (in_on xs e i t)

pub rotation_turns : (t : Target) → Each IsTurn (target_entries t)
rotation_turns t = each_turn IsTurn (λ x. tt) (λ x y. tt) t

-- the entry renames or unlinks a file, or makes, fills or empties one; or it makes a directory
abbrev pub IsFileChange : Entry → Type 0
IsFileChange (Renames from to) = Unit {0}
IsFileChange (Unlinks x) = Unit {0}
IsFileChange (Makes x mode) = Unit {0}
IsFileChange (Appends x bytes) = Unit {0}
IsFileChange (Truncates x) = Unit {0}
IsFileChange (MakesDir x mode) = Unit {0}
IsFileChange _ = ⊥

turn_changes : (e : Entry) → IsTurn e → IsFileChange e
turn_changes (Renames from to) t = tt
turn_changes (Unlinks x) t = tt
turn_changes _ t = absurd t

also_changes : (t : Target) (e : Entry) → AlsoDoes t e → IsFileChange e
also_changes t (Makes x mode) h = tt
also_changes t (Appends x bytes) h = tt
also_changes t (Truncates x) h = tt
also_changes t (MakesDir x mode) h = tt
also_changes t _ h = absurd h

-- all that is done to a log is such a change
pub own_turns : (t : Target) (e : Entry) → IsOf t e → IsFileChange e
own_turns t e (inl i) = turn_changes e (each_in IsTurn (target_entries t) e (rotation_turns t) i)
own_turns t e (inr also) = also_changes t e also

-- where it isn't copied, its directory may be made, and it is made anew besides, and nothing more
pub no_job : (j : Option Job) (job : Job) → j ≡ Some job → j ≡ None → ⊥
no_job j job a b = cc

pub dir_in : (t : Target) (x : Path) → IsItsDir t x → IsIn x (dir_paths t.ready.dir)
dir_in t x d = subst (λ (o : Option (Path × Option ℕ)). IsIn x (dir_paths o)) (sym d.1) (inl refl)

also_made : (t : Target) (e : Entry) → t.job ≡ None → AlsoDoes t e → IsBeside (dir_paths t.ready.dir) t.log e
also_made t (MakesDir x mode) none d = inl (dir_in t x d)
also_made t (Makes x mode) none (inl is) = inr is
also_made t (Makes x mode) none (inr p) = absurd (no_job t.job p.0 p.1 none)
also_made t (Appends x bytes) none p = absurd (no_job t.job p.0 p.1 none)
also_made t (Truncates x) none p = absurd (no_job t.job p.0.0 p.0.1 none)
also_made t _ none h = absurd h

-- what holds of the one list or of the other, holds of those of all other logs
either : (b : Bool) (log other : Path) (xs ys : List Path) (x : Path) → bytes_eq other log ≡ b → IsIn x xs ⊎ IsIn x ys → ((b ≡ true) → IsIn x xs → ⊥) → IsIn x (cond b ys (xs ++ ys))
either true log other xs ys x e (inl i) differ = absurd (differ refl i)
either true log other xs ys x e (inr i) differ = i
either false log other xs ys x e (inl i) differ = in_front x xs ys i
either false log other xs ys x e (inr i) differ = in_back x xs ys i

-- behind the log's path and the part file's those of the directory and of the rotation
behind_part : (t : Target) (x : Path) → IsIn x (dir_paths t.ready.dir ++ flat_map changed_paths (target_entries t)) → IsIn x (target_paths t)
behind_part t x i = inr (in_back x (job_part_paths t.job) (dir_paths t.ready.dir ++ flat_map changed_paths (target_entries t)) i)

part_in : (t : Target) (x : Path) → IsPartFile t x → IsIn x (target_paths t)
part_in t x p = inr (in_front x (job_part_paths t.job) (dir_paths t.ready.dir ++ flat_map changed_paths (target_entries t)) (subst (λ (j : Option Job). IsIn x (job_part_paths j)) (sym p.1) (inl (sym p.2))))

also_on : (t : Target) (e : Entry) → AlsoDoes t e → IsOn (target_paths t) e
also_on t (MakesDir x mode) d = behind_part t x (in_front x (dir_paths t.ready.dir) (flat_map changed_paths (target_entries t)) (dir_in t x d))
also_on t (Makes x mode) (inl is) = inl (sym is)
also_on t (Makes x mode) (inr p) = part_in t x p
also_on t (Appends x bytes) p = part_in t x p
also_on t (Truncates x) p = inl (sym p.1)
also_on t _ h = absurd h

own_on : (t : Target) (e : Entry) → IsOf t e → IsOn (target_paths t) e
own_on t e (inl i) = on_more (flat_map changed_paths (target_entries t)) (target_paths t) e (λ x j. behind_part t x (in_back x (dir_paths t.ready.dir) (flat_map changed_paths (target_entries t)) j)) (in_on (target_entries t) e i (each_in IsTurn (target_entries t) e (rotation_turns t) i))
own_on t e (inr also) = also_on t e also

pub other_on : (log : Path) (ts : List Target) (e : Entry) → IsOfOther log ts e → IsOn (paths_of_others log ts) e
other_on log [] e h = absurd h
other_on log (t ∷ ts) e (inl h) = on_more (target_paths t) (paths_of_others log (t ∷ ts)) e
    (λ x i. either (bytes_eq t.log log) log t.log (target_paths t) (paths_of_others log ts) x refl (inl i) (λ same j. h.0 ((bytes_eq-Decides t.log log).0 same))) (own_on t e h.1)
other_on log (t ∷ ts) e (inr h) = on_more (paths_of_others log ts) (paths_of_others log (t ∷ ts)) e (λ x i. behind (bytes_eq t.log log) x i) (other_on log ts e h)
  where
    behind : (b : Bool) (x : Path) → IsIn x (paths_of_others log ts) → IsIn x (cond b (paths_of_others log ts) (target_paths t ++ paths_of_others log ts))
    behind true x i = i
    behind false x i = in_back x (target_paths t) (paths_of_others log ts) i

state_in : (state log : Path) (ts : List Target) (x : Path) → IsStatePath state x → IsIn x (other_paths state log ts)
state_in state log ts x (inl is) = inl (sym is)
state_in state log ts x (inr is) = inr (inl (sym is))

pub state_on : (state log : Path) (ts : List Target) (e : Entry) → IsOfState state e → IsOn (other_paths state log ts) e
state_on state log ts (Renames from to) h = (state_in state log ts from h.0, state_in state log ts to h.1)
state_on state log ts (Makes x mode) h = state_in state log ts x h
state_on state log ts (Appends x bytes) h = state_in state log ts x h
state_on state log ts (Unlinks x) h = state_in state log ts x h
state_on state log ts _ h = absurd h

between_beside : (state : Path) (t : Target) (ts : List Target) (e : Entry) → t.job ≡ None → StandsBetween state t ts e → IsBeside (paths_beside state t ts) t.log e
between_beside state t ts e none between = go between
  where
    -- the paths of others stand behind that of the directory
    others : IsOn (other_paths state t.log ts) e → IsBeside (paths_beside state t ts) t.log e
    others on = inl (on_more (other_paths state t.log ts) (paths_beside state t ts) e (λ x i. in_back x (dir_paths t.ready.dir) (other_paths state t.log ts) i) on)

    own : IsBeside (dir_paths t.ready.dir) t.log e → IsBeside (paths_beside state t ts) t.log e
    own (inl on) = inl (on_more (dir_paths t.ready.dir) (paths_beside state t ts) e (λ x i. in_front x (dir_paths t.ready.dir) (other_paths state t.log ts) i) on)
    own (inr anew) = inr anew

    go : StandsBetween state t ts e → IsBeside (paths_beside state t ts) t.log e
    go (inl h) = others (on_more (paths_of_others t.log ts) (other_paths state t.log ts) e (λ x i. inr (inr i)) (other_on t.log ts e h))
    go (inr (inl h)) = others (state_on state t.log ts e h)
    go (inr (inr also)) = own (also_made t e none also)

-- ---- all are changes of the disk

on_changes : (paths : List Path) (e : Entry) → IsOn paths e → is_disk_change e ≡ true
on_changes paths (Renames from to) h = refl
on_changes paths (Makes x mode) h = refl
on_changes paths (entry.MakesDir x mode) h = refl
on_changes paths (Appends x bytes) h = refl
on_changes paths (entry.Truncates x) h = refl
on_changes paths (Unlinks x) h = refl
on_changes paths _ h = absurd h

pub beside_changes : (paths : List Path) (log : Path) (e : Entry) → IsBeside paths log e → is_disk_change e ≡ true
beside_changes paths log e (inl h) = on_changes paths e h
beside_changes paths log (Makes x mode) (inr h) = refl
beside_changes paths log _ (inr h) = absurd h

disk_changes : (paths : List Path) (x : Target) (acts : List Entry) → Weave (IsBeside paths x.log) (target_entries x) (filter is_change acts) → filter is_change acts ≡ filter is_disk_change acts
disk_changes paths x acts w = sym (all_pass is_disk_change (filter is_change acts) (weave_each (IsBeside paths x.log) (λ e. is_disk_change e ≡ true) (target_entries x) (filter is_change acts) w
    (each_turn (λ e. is_disk_change e ≡ true) (λ x. refl) (λ x y. refl) x) (λ e h. beside_changes paths x.log e h))) ∙ disk_of_changes acts

-- ---- one log of a run

-- the changes of the disk are its rotation, with others on their paths between
pub rotates_beside : (state : Path) (x : Target) (ts : List Target) (acts : List Entry) → x.job ≡ None → Weave (StandsBetween state x ts) (target_entries x) (filter is_change acts) → Weave (IsBeside (paths_beside state x ts) x.log) (target_entries x) (filter is_disk_change acts)
rotates_beside state x ts acts none w = subst (Weave (IsBeside paths x.log) (target_entries x)) (disk_changes paths x acts on) on
  where
    paths : List Path
    paths = paths_beside state x ts

    on : Weave (IsBeside paths x.log) (target_entries x) (filter is_change acts)
    on = weave_as (StandsBetween state x ts) (IsBeside paths x.log) (target_entries x) (filter is_change acts) (λ e h. between_beside state x ts e none h) w
