-- The directories that a run syncs are those of its logs, and those of what it makes.
use Rattle.std.proofs.Common.{◌≡◌, ◌⊎◌, inl, inr, ⊎_elim, ℕ, Bool, true, false, true≢false, refl, sym, ◌∙◌, ap, subst, List, [], ◌∷◌, ◌++◌, Option, Some, None}
use Rattle.std.specs.List.{flat_map, list_any}
use Rattle.std.specs.Str.{bytes_eq}
use Rattle.lr_rules.specs.declared.path.Path.{Path}
use Rattle.lr_rules.specs.Path.{parent_of}
use Rattle.lr_host.specs.Lists.{IsIn}
use Rattle.lr_host.proofs.Lists.{in_append, in_front, in_back}
use Rattle.lr_chain.specs.declared.ready.Ready.{Ready}
use Rattle.lr_plan.specs.declared.mark.Mark.{Mark}
use Rattle.lr_plan.specs.declared.mark.Mark.TheVariants as mark
use Rattle.lr_plan.specs.declared.plan.LogPlan.{LogPlan}
use Rattle.lr_plan.specs.declared.plan.SetPlan.{SetPlan}
use Rattle.lr_writing.specs.Synced.{AreSynced, changed_of, all_changed_of, made_of, to_make_of, all_to_make_of, made_in}
use Rattle.lr_writing.proofs.Kept.{among_from, among_to}
use Rattle.lr_writing.proofs.SyncedLaws.{IsTouched, made_mark, unmade_is, of_touched, none_unmade}
use Rattle.lr_laws_rotations.specs.AllTurns.{IsItsDir}
use Rattle.lr_laws_rotations.specs.Target.{Target}
use Rattle.lr_laws_acts.specs.Planned.{IsReadyFor, AreReadyFor, HaveLogs}

-- The directory of the log; that of the path that it gets, of whose making a mark tells where the rotation makes it; or that in which the rotation makes one.
abbrev pub IsDirOfLog : Target → List Mark → Path → Type 0
IsDirOfLog t marks dir = (dir ≡ parent_of t.log) ⊎ (((dir ≡ parent_of t.ready.target) × (IsItsDir t dir → IsIn (mark.Directory dir) marks)) ⊎ ((made : Path) × IsItsDir t made × (dir ≡ parent_of made)))

-- each of these is such a directory of one of the logs
abbrev pub AreDirsOfLogs : List Target → List Mark → List Path → Type 0
AreDirsOfLogs ts marks dirs = (dir : Path) → IsIn dir dirs → (t : Target) × IsIn t ts × IsDirOfLog t marks dir

-- ---- a path that the plan changes or makes

-- This is the path of one of the logs, the one that it gets, or the directory that its rotation makes; such a directory is one of these.
record IsOfOne (ts : List Target) (to_make : List Path) (path : Path) : Type 0 where
  target : Target
  one : IsIn target ts
  made : (dir : Path) → IsItsDir target dir → IsIn dir to_make
  is : (path ≡ target.log) ⊎ ((path ≡ target.ready.target) ⊎ IsItsDir target path)

-- the directory that is made, if any
pub from_made : (dir : Option (Path × Option ℕ)) (path : Path) → IsIn path (made_of dir) → (mode : Option ℕ) × (dir ≡ Some (path, mode))
from_made None path i = absurd i
from_made (Some (x, mode)) path (inl same) = (mode, ap (λ (y : Path). Some (y, mode)) same)
from_made (Some (x, mode)) path (inr none) = absurd none

to_made : (dir : Option (Path × Option ℕ)) (path : Path) (mode : Option ℕ) → dir ≡ Some (path, mode) → IsIn path (made_of dir)
to_made dir path mode is = subst (λ (d : Option (Path × Option ℕ)). IsIn path (made_of d)) (sym is) (inl refl)

-- of the first log
module _ (t : Target) (ts : List Target) (l : LogPlan) (ls : List LogPlan) (r : IsReadyFor t l) where
  dir_same : l.ready.dir ≡ t.ready.dir
  dir_same = ap (λ (x : Ready). x.dir) r.ready_is

  first_one : (path : Path) → (path ≡ t.log) ⊎ ((path ≡ t.ready.target) ⊎ IsItsDir t path) → IsOfOne (t ∷ ts) (to_make_of (l ∷ ls)) path
  first_one path is = record { target = t; one = inl refl; made = λ dir d. in_front dir (made_of l.ready.dir) (to_make_of ls) (to_made l.ready.dir dir d.0 (dir_same ∙ d.1)); is = is }

  later_one : (path : Path) → IsOfOne ts (to_make_of ls) path → IsOfOne (t ∷ ts) (to_make_of (l ∷ ls)) path
  later_one path o = record { target = o.target; one = inr o.one; made = λ dir d. in_back dir (made_of l.ready.dir) (to_make_of ls) (o.made dir d); is = o.is }

  first_made : (path : Path) → IsIn path (made_of l.ready.dir) → IsOfOne (t ∷ ts) (to_make_of (l ∷ ls)) path
  first_made path i = let d = from_made l.ready.dir path i in first_one path (inr (inr (d.0, sym dir_same ∙ d.1)))

of_log : (ts : List Target) (logs : List LogPlan) (path : Path) → AreReadyFor ts logs → IsIn path (changed_of logs) → IsOfOne ts (to_make_of logs) path
of_log [] [] path r i = absurd i
of_log [] (l ∷ ls) path r i = absurd r
of_log (t ∷ ts) [] path r i = absurd r
of_log (t ∷ ts) (l ∷ ls) path r (inl e) = first_one t ts l ls r.0 path (inl (sym e ∙ r.0.log_is))
of_log (t ∷ ts) (l ∷ ls) path r (inr (inl e)) = first_one t ts l ls r.0 path (inr (inl (sym e ∙ ap (λ (x : Ready). x.target) r.0.ready_is)))
of_log (t ∷ ts) (l ∷ ls) path r (inr (inr i)) = later_one t ts l ls r.0 path (of_log ts ls path r.1 i)

of_made : (ts : List Target) (logs : List LogPlan) (path : Path) → AreReadyFor ts logs → IsIn path (to_make_of logs) → IsOfOne ts (to_make_of logs) path
of_made [] [] path r i = absurd i
of_made [] (l ∷ ls) path r i = absurd r
of_made (t ∷ ts) [] path r i = absurd r
of_made (t ∷ ts) (l ∷ ls) path r i = ⊎_elim
    (λ a. first_made t ts l ls r.0 path a)
    (λ b. later_one t ts l ls r.0 path (of_made ts ls path r.1 b))
    (in_append path (made_of l.ready.dir) (to_make_of ls) i)

-- ---- of all definitions

of_front : (xs ys : List Target) (cs ds : List Path) (path : Path) → IsOfOne xs cs path → IsOfOne (xs ++ ys) (cs ++ ds) path
of_front xs ys cs ds path o = record { target = o.target; one = in_front o.target xs ys o.one; made = λ dir d. in_front dir cs ds (o.made dir d); is = o.is }

of_back : (xs ys : List Target) (cs ds : List Path) (path : Path) → IsOfOne ys ds path → IsOfOne (xs ++ ys) (cs ++ ds) path
of_back xs ys cs ds path o = record { target = o.target; one = in_back o.target xs ys o.one; made = λ dir d. in_back dir cs ds (o.made dir d); is = o.is }

of_set : (groups : List (List Target)) (sets : List SetPlan) (path : Path) → HaveLogs groups sets → IsTouched sets path → IsOfOne (flat_map (λ ts. ts) groups) (all_to_make_of sets) path
of_set [] [] path h (inl i) = absurd i
of_set [] [] path h (inr i) = absurd i
of_set [] (s ∷ ss) path h i = absurd h
of_set (ts ∷ groups) [] path h i = absurd h
of_set (ts ∷ groups) (s ∷ ss) path h (inl i) = ⊎_elim
    (λ a. of_front ts (flat_map (λ us. us) groups) (to_make_of s.logs) (all_to_make_of ss) path (of_log ts s.logs path h.0 a))
    (λ b. of_back ts (flat_map (λ us. us) groups) (to_make_of s.logs) (all_to_make_of ss) path (of_set groups ss path h.1 (inl b)))
    (in_append path (changed_of s.logs) (all_changed_of ss) i)
of_set (ts ∷ groups) (s ∷ ss) path h (inr i) = ⊎_elim
    (λ a. of_front ts (flat_map (λ us. us) groups) (to_make_of s.logs) (all_to_make_of ss) path (of_made ts s.logs path h.0 a))
    (λ b. of_back ts (flat_map (λ us. us) groups) (to_make_of s.logs) (all_to_make_of ss) path (of_set groups ss path h.1 (inr b)))
    (in_append path (to_make_of s.logs) (all_to_make_of ss) i)

-- ---- the directories that are synced

-- a mark tells of each of them that was to be made
is_marked : (sets : List SetPlan) (marks : List Mark) (dirs : List Path) (dir : Path) → AreSynced sets marks dirs → IsIn dir dirs → IsIn dir (all_to_make_of sets) → IsIn (mark.Directory dir) marks
is_marked sets marks dirs dir s i to_make = go (list_any (bytes_eq dir) (made_in marks)) refl
  where
    go : (b : Bool) → list_any (bytes_eq dir) (made_in marks) ≡ b → IsIn (mark.Directory dir) marks
    go true e = made_mark dir marks (among_from (made_in marks) dir e)
    go false e = absurd (true≢false (sym ((unmade_is (all_to_make_of sets) (made_in marks) dir).1 (to_make, λ made. true≢false (sym (among_to (made_in marks) dir made) ∙ e))) ∙ none_unmade sets marks dirs s dir i))

pub dirs_of_logs : (groups : List (List Target)) (sets : List SetPlan) (marks : List Mark) (dirs : List Path) → HaveLogs groups sets → AreSynced sets marks dirs → AreDirsOfLogs (flat_map (λ ts. ts) groups) marks dirs
dirs_of_logs groups sets marks dirs h s dir i =
    let p = of_touched sets marks dirs s dir i in
    let o = of_set groups sets p.0 h p.1 in (
      o.target,
      o.one,
      ⊎_elim
          (λ log. inl (sym p.2 ∙ ap parent_of log))
          (λ further. ⊎_elim
          (λ target. inr (inl (sym p.2 ∙ ap parent_of target, λ its. is_marked sets marks dirs dir s i (o.made dir its))))
          (λ its. inr (inr (p.0, its, sym p.2))) further) o.is,
    )
