-- The way from `/` to what a path names: the directories on it, and their names.
use Rattle.std.proofs.Common.{◌≡◌, ◌≢◌, inl, inr, ℕ, zero, suc, ◌≤◌, true, not, nat_lt, cond, ◌-◌, List, [], ◌∷◌, ◌++◌, length, take, drop, None, refl, sym, ap, ◌∙◌, subst, arith}
use Rattle.std.specs.Prelude.{IsUtf8}
use Rattle.std.specs.Str.{is_utf8}
use Rattle.std.proofs.lemmas.Bool.{not-false}
use Rattle.std.proofs.lemmas.Bool.Decides.{Decides-eqb}
use Rattle.std.proofs.lemmas.Str.{IsUtf8-from_is_utf8}
use Rattle.lr_rules.specs.declared.path.Path.{Path}
use Rattle.lr_rules.specs.Path.{path_fault, joined, parent_of, is_absolute, root}
use Rattle.lr_rules.proofs.ParentPath.{parent_path}
use Rattle.lr_rules.proofs.PathLemmas.{none_of, parent_front, joined_parts, last_start_is, empty_none, absolute}
use Rattle.lr_rules.proofs.Splits.{Parts, some_parts, split_parts}
use Rattle.lr_host.specs.declared.thing.Thing.{Thing}
use Rattle.lr_host.specs.declared.thing.Thing.TheVariants as thing
use Rattle.lr_host.specs.Fits.{IsFileAt, IsDirectoryAt, IsPart}
use Rattle.lr_host.specs.Lists.{IsIn}
use Rattle.lr_host.specs.Opening.{IsJournal}
use Rattle.lr_host.specs.World.{Past, Names, world, names}
use Rattle.lr_host.proofs.Looked.{nothing_no_file, file_no_dir}
use Rattle.lr_glob.specs.Parts.{parts_in}
use Rattle.lr_glob.proofs.Levels.{IsAt, part_at}
use Rattle.lr_glob.proofs.Literals.{parts_utf8}
use Rattle.lr_glob.proofs.Names.{behind, under, AreParts, under_root, word_behind, word_parts}
use Rattle.lr_laws.proofs.StandsIn.{stands_in}

-- ---- what a path has

pub text_path : (x : List ℕ) → path_fault x ≡ None → IsUtf8 x
unfolding path_fault
text_path x none = IsUtf8-from_is_utf8 x (not-false (is_utf8 x) (none_of (not (is_utf8 x)) _ _ none).0)

-- ---- the way

-- These names lead from the directory to the path: each but the last to a directory, and each to something that is named.
abbrev pub Way : Names → Path → Path → List (List ℕ) → Type 0
Way n x d [] = d ≡ x
Way n x d (name ∷ rest) = IsDirectoryAt n d × IsPart name × IsUtf8 name × (path_fault (joined d name) ≡ None) × (n (joined d name) ≢ thing.Nothing) × Way n x (joined d name) rest

-- `/` stands in itself
root_parent : parent_of root ≡ root
root_parent = ap (λ k. cond (nat_lt 1 k) (take (k - 1) root) (take k root)) (last_start_is [] [] refl)

-- what a way begins at
record Begins (n : Names) (x d : Path) (rest : List (List ℕ)) : Type 0 where
  way : Way n x d rest
  path : path_fault d ≡ None
  named : n d ≢ thing.Nothing

abbrev AllStand : Names → Type 0
AllStand n = (y : Path) → path_fault y ≡ None → n y ≢ thing.Nothing → n (parent_of y) ≡ thing.Directory

directory_named : (t : Thing) → t ≡ thing.Directory → t ≢ thing.Nothing
directory_named t a b = cc

parent_at : (k : ℕ) (d : Path) (name : List ℕ) → IsAt k d → IsPart name → path_fault (joined d name) ≡ None → parent_of (joined d name) ≡ d
parent_at zero d name at part path =
    subst (λ y. parent_of (joined y name) ≡ y) (sym at) (ap (λ k. cond (nat_lt 1 k) (take (k - 1) (47 ∷ name)) (take k (47 ∷ name))) (last_start_is [] name part.1))
parent_at (suc k) [] name at part path = absurd (let none : 0 ≡ suc k = at.1 in omega (arith, none))
parent_at (suc k) (b ∷ bs) name at part path =
    let is : joined (b ∷ bs) name ≡ (b ∷ bs) ++ 47 ∷ name = ap (λ t. cond t [] (b ∷ bs) ++ 47 ∷ name) at.0 in
    ap (λ y. parent_of y) is ∙ parent_front (b ∷ bs) name (absolute ((b ∷ bs) ++ 47 ∷ name) (subst (λ y. path_fault y ≡ None) is path)) part.1

module _ (n : Names) (x : Path) (path : path_fault x ≡ None) (named : n x ≢ thing.Nothing) (stand : AllStand n) where
  one_more : (k : ℕ) (d : Path) (name : List ℕ) (rest : List (List ℕ)) → IsAt k d → IsPart name → IsUtf8 name → Begins n x (joined d name) rest → Begins n x d (name ∷ rest)
  one_more k d name rest at part text next = record {
    way = (dir, part, text, next.path, next.named, next.way);
    path = subst (λ y. path_fault y ≡ None) up (parent_path (joined d name) next.path);
    named = directory_named (n d) dir;
  }
    where
      up : parent_of (joined d name) ≡ d
      up = parent_at k d name at part next.path

      dir : n d ≡ thing.Directory
      dir = subst (λ y. n y ≡ thing.Directory) up (stand (joined d name) next.path next.named)

  way_from : (k : ℕ) (d : Path) (rest : List (List ℕ)) → IsAt k d → AreParts rest → ((name : List ℕ) → IsIn name rest → IsUtf8 name) → under d rest ≡ x → Begins n x d rest
  way_from k d [] at parts texts is = record { way = is; path = subst (λ y. path_fault y ≡ None) (sym is) path; named = subst (λ y. n y ≢ thing.Nothing) (sym is) named }
  way_from k d (name ∷ rest) at parts texts is =
      one_more k d name rest at (parts name (inl refl)) (texts name (inl refl)) (way_from (suc k) (joined d name) rest (part_at k d name (parts name (inl refl)) at) (λ m i. parts m (inr i)) (λ m i. texts m (inr i)) is)

  -- `/` stands in itself
  no_root : (g : ℕ) → n x ≡ thing.File g → 2 ≤ length x
  no_root g file = by x (absolute x path) refl
    where
      by : (y : List ℕ) → is_absolute y ≡ true → y ≡ x → 2 ≤ length y
      by [] a e = absurd (cc)
      by (b ∷ []) a e =
          let is : x ≡ root = sym e ∙ ap (λ c. c ∷ []) ((Decides-eqb b 47).0 a) in
          absurd (file_no_dir (n x) g file (subst (λ y. n y ≡ thing.Directory) (ap (λ y. parent_of y) is ∙ (root_parent ∙ sym is)) (stand x path named)))
      by (b ∷ c ∷ bs) a e = omega arith

  way_to : (g : ℕ) → n x ≡ thing.File g → Way n x root (parts_in x)
  way_to g file = (way_from 0 root (parts_in x) refl parts (parts_utf8 x (text_path x path) from_slash) (by (parts_in x) (split_parts (drop 1 x)) refl)).way
    where
      from_slash : is_absolute x ≡ true
      from_slash = absolute x path

      parts : AreParts (parts_in x)
      parts = word_parts x from_slash (no_root g file) (empty_none x path)

      by : (ps : List (List ℕ)) → Parts ps → parts_in x ≡ ps → under root (parts_in x) ≡ x
      by _ (some_parts q qs) e = ap (under root) e ∙ (under_root q qs (subst AreParts e parts) ∙ (ap behind (sym e) ∙ sym (word_behind x from_slash)))

-- ---- in a journal

-- The way to a file, as the call began.
pub file_way : (p : Past) (x : Path) → IsJournal p → path_fault x ≡ None → IsFileAt (names (world p)) x → Way (names (world p)) x root (parts_in x)
file_way p x j path file = way_to (names (world p)) x path (λ none. nothing_no_file (names (world p) x) file.0 none file.1) (λ y valid named. stands_in p y j (joined_parts y valid) named) file.0 file.1
