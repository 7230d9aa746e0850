-- What follows of the directories that are synced.
use Rattle.std.proofs.Common.{◌≡◌, ◌⊎◌, ◌∙◌, sym, ap, subst, refl, inl, inr, List, [], ◌∷◌, ◌++◌, Bool, true, false, true≢false, not, ◌&&◌}
use Rattle.std.specs.Prelude.{◌↔◌}
use Rattle.std.specs.Cmp.Lexicographic.{slice_cmp}
use Rattle.std.specs.List.{AllByRecursion, list_any}
use Rattle.std.specs.List.Sorted.{IsStrictlySortedBy}
use Rattle.std.specs.Ordering.{nat_cmp}
use Rattle.std.specs.declared.cmp.Ordering.TheVariants.{Less}
use Rattle.std.proofs.lemmas.Bool.{not-true, and_parts, and_from, and_left, and_right, false_from_ne_true}
use Rattle.std.proofs.lemmas.Cmp.{nat_list_cmp_total, tied_itself}
use Rattle.std.proofs.lemmas.List.Kept.{IsStrictlySortedBy-filter}
use Rattle.std.proofs.lemmas.Map.Keys.{sorted_head, sorted_tail}
use Rattle.std.specs.Str.{bytes_eq}
use Rattle.lr_rules.specs.declared.path.Path.{Path}
use Rattle.lr_rules.specs.Path.{parent_of}
use Rattle.lr_host.specs.Lists.{IsIn, IsNotIn, AreDistinct}
use Rattle.lr_host.proofs.Lists.{in_append, in_back, in_front, in_unmap, from_filter}
use Rattle.lr_plan.specs.declared.mark.Mark.{Mark}
use Rattle.lr_plan.specs.declared.mark.Mark.TheVariants.{Rotated, Directory, Created}
use Rattle.lr_plan.specs.declared.plan.SetPlan.{SetPlan}
use Rattle.lr_writing.specs.Directories.{AreDirectoriesOf}
use Rattle.lr_writing.specs.Synced.{AreSynced, all_changed_of, all_to_make_of, made_in, is_unmade}
use Rattle.lr_writing.proofs.Kept.{in_filter, all_kept, among_from, among_to}

-- ---- what was made

-- a mark tells of a directory that was made
pub mark_made : (dir : Path) (marks : List Mark) → IsIn (Directory dir) marks → IsIn dir (made_in marks)
mark_made dir [] h = absurd h
mark_made dir (m ∷ ms) (inl same) = subst (λ (x : Mark). IsIn dir (made_in (x ∷ ms))) (sym same) (inl refl)
mark_made dir (Rotated x ∷ ms) (inr i) = mark_made dir ms i
mark_made dir (Directory x ∷ ms) (inr i) = inr (mark_made dir ms i)
mark_made dir (Created x ∷ ms) (inr i) = mark_made dir ms i

pub made_mark : (dir : Path) (marks : List Mark) → IsIn dir (made_in marks) → IsIn (Directory dir) marks
made_mark dir [] h = absurd h
made_mark dir (Rotated x ∷ ms) h = inr (made_mark dir ms h)
made_mark dir (Directory x ∷ ms) (inl same) = inl (ap Directory same)
made_mark dir (Directory x ∷ ms) (inr i) = inr (made_mark dir ms i)
made_mark dir (Created x ∷ ms) h = inr (made_mark dir ms h)

-- a directory is unmade where it was to be made and wasn't
pub unmade_is : (to_make made : List Path) (dir : Path) → (is_unmade to_make made dir ≡ true) ↔ (IsIn dir to_make × (IsIn dir made → ⊥))
unmade_is to_make made dir = (
  λ h.
      let parts = and_parts (list_any (bytes_eq dir) to_make) (not (list_any (bytes_eq dir) made)) h in
      (among_from to_make dir parts.0, λ i. true≢false (sym (among_to made dir i) ∙ not-true (list_any (bytes_eq dir) made) parts.1)),
  λ h. and_from (list_any (bytes_eq dir) to_make) (not (list_any (bytes_eq dir) made)) (among_to to_make dir h.0) (ap not (false_from_ne_true (list_any (bytes_eq dir) made) (λ t. h.1 (among_from made dir t)))),
)

-- one that was made isn't
pub made_isnt : (to_make made : List Path) (dir : Path) → IsIn dir made → is_unmade to_make made dir ≡ false
made_isnt to_make made dir i = and_right (list_any (bytes_eq dir) to_make) (not (list_any (bytes_eq dir) made)) (ap not (among_to made dir i))

-- nor is one that wasn't to be made
pub other_isnt : (to_make made : List Path) (dir : Path) → (IsIn dir to_make → ⊥) → is_unmade to_make made dir ≡ false
other_isnt to_make made dir none = and_left (list_any (bytes_eq dir) to_make) (not (list_any (bytes_eq dir) made)) (false_from_ne_true (list_any (bytes_eq dir) to_make) (λ t. none (among_from to_make dir t)))

-- ---- what is synced

none_again : (dir : Path) (dirs : List Path) → AllByRecursion (λ other. slice_cmp nat_cmp dir other ≡ Less) dirs → IsNotIn dir dirs
none_again dir [] h = tt
none_again dir (x ∷ xs) h = (λ same. absurd (let alike = tied_itself nat_list_cmp_total dir in let less = subst (λ (y : Path). slice_cmp nat_cmp dir y ≡ Less) (sym same) h.0 in cc (alike, less)), none_again dir xs h.1)

-- directories in order of bytes stand there once
pub ordered_once : (dirs : List Path) → IsStrictlySortedBy (slice_cmp nat_cmp) dirs → AreDistinct dirs
ordered_once [] h = tt
ordered_once (x ∷ xs) h = (none_again x xs (sorted_head (slice_cmp nat_cmp) x xs h), ordered_once xs (sorted_tail (slice_cmp nat_cmp) x xs h))

abbrev passes : List SetPlan → List Mark → Path → Bool
passes sets marks dir = not (is_unmade (all_to_make_of sets) (made_in marks) dir)

-- the plan changes this path, or makes it
abbrev pub IsTouched : List SetPlan → Path → Type 0
IsTouched sets path = IsIn path (all_changed_of sets) ⊎ IsIn path (all_to_make_of sets)

touched_in : (sets : List SetPlan) (path : Path) → IsTouched sets path → IsIn path (all_changed_of sets ++ all_to_make_of sets)
touched_in sets path (inl i) = in_front path (all_changed_of sets) (all_to_make_of sets) i
touched_in sets path (inr i) = in_back path (all_changed_of sets) (all_to_make_of sets) i

module _ (sets : List SetPlan) (marks : List Mark) (dirs : List Path) (s : AreSynced sets marks dirs) where
  from_all : (dir : Path) → IsIn dir dirs → IsIn dir s.all × (passes sets marks dir ≡ true)
  from_all dir i = from_filter (passes sets marks) dir s.all (subst (IsIn dir) s.dirs_are i)

  -- each is the directory of a path that the plan changes or makes
  pub of_touched : (dir : Path) → IsIn dir dirs → (path : Path) × IsTouched sets path × (parent_of path ≡ dir)
  of_touched dir i =
      let p = in_unmap parent_of dir (all_changed_of sets ++ all_to_make_of sets) (s.are.from dir (from_all dir i).0) in
      (p.0, in_append p.0 (all_changed_of sets) (all_to_make_of sets) p.1, p.2)

  -- none of them was to be made and wasn't
  pub none_unmade : (dir : Path) → IsIn dir dirs → is_unmade (all_to_make_of sets) (made_in marks) dir ≡ false
  none_unmade dir i = not-true (is_unmade (all_to_make_of sets) (made_in marks) dir) (from_all dir i).1

  -- the directory of each such path is among them, unless it was to be made and wasn't
  pub has_parent : (path : Path) → IsTouched sets path → is_unmade (all_to_make_of sets) (made_in marks) (parent_of path) ≡ false → IsIn (parent_of path) dirs
  has_parent path i made = subst (IsIn (parent_of path)) (sym s.dirs_are) (in_filter (passes sets marks) (parent_of path) s.all (s.are.all path (touched_in sets path i)) (ap not made))

  -- they are in order of bytes
  pub in_order : IsStrictlySortedBy (slice_cmp nat_cmp) dirs
  in_order = subst (IsStrictlySortedBy (slice_cmp nat_cmp)) (sym s.dirs_are) (IsStrictlySortedBy-filter (slice_cmp nat_cmp) (passes sets marks) s.all s.are.in_order)

  -- each once
  pub each_once : AreDistinct dirs
  each_once = ordered_once dirs in_order

  -- where each that was to be made was, they are those of all paths that the plan changes or makes
  pub all_synced : ((dir : Path) → IsIn dir (all_to_make_of sets) → IsIn dir (made_in marks)) → AreDirectoriesOf (all_changed_of sets ++ all_to_make_of sets) dirs
  all_synced made = subst (AreDirectoriesOf (all_changed_of sets ++ all_to_make_of sets)) (sym (s.dirs_are ∙ all_kept (passes sets marks) s.all (λ dir. go dir (list_any (bytes_eq dir) (all_to_make_of sets)) refl))) s.are
    where
      go : (dir : Path) (b : Bool) → list_any (bytes_eq dir) (all_to_make_of sets) ≡ b → not (b && not (list_any (bytes_eq dir) (made_in marks))) ≡ true
      go dir true e = ap not (ap not (among_to (made_in marks) dir (made dir (among_from (all_to_make_of sets) dir e))))
      go dir false e = refl
