-- What a filter keeps of a list, and what it is to be among directories.
use Rattle.std.proofs.Common.{◌≡◌, ◌∙◌, sym, ap, subst, refl, inl, inr, List, [], ◌∷◌, Bool, true, false, true≢false, cond, ◌||◌, filter}
use Rattle.std.specs.Str.{bytes_eq}
use Rattle.std.proofs.lemmas.Slice.Eq.{bytes_eq-Decides}
use Rattle.std.specs.List.{list_any}
use Rattle.std.proofs.lemmas.Bool.{or_right}
use Rattle.lr_rules.specs.declared.path.Path.{Path}
use Rattle.lr_host.specs.Lists.{IsIn}

pub in_filter : {X : Type 0} (test : X → Bool) (x : X) (xs : List X) → IsIn x xs → test x ≡ true → IsIn x (filter test xs)
in_filter test x [] h passes = absurd h
in_filter {X = X} test x (y ∷ ys) h passes = by h (in_filter test x ys)
  where
    still : (b : Bool) → IsIn x (filter test ys) → IsIn x (cond b (y ∷ filter test ys) (filter test ys))
    still true i = inr i
    still false i = i

    by : IsIn x (y ∷ ys) → (IsIn x ys → test x ≡ true → IsIn x (filter test ys)) → IsIn x (filter test (y ∷ ys))
    by (inl same) rest = subst (λ (b : Bool). IsIn x (cond b (y ∷ filter test ys) (filter test ys))) (sym (ap test same ∙ passes)) (inl same)
    by (inr i) rest = still (test y) (rest i passes)

pub all_kept : {X : Type 0} (test : X → Bool) (xs : List X) → ((x : X) → test x ≡ true) → filter test xs ≡ xs
all_kept test [] all = refl
all_kept test (x ∷ xs) all = ap (λ b. cond b (x ∷ filter test xs) (filter test xs)) (all x) ∙ ap (λ ys. x ∷ ys) (all_kept test xs all)

pub among_from : (dirs : List Path) (dir : Path) → list_any (bytes_eq dir) dirs ≡ true → IsIn dir dirs
among_from [] dir h = absurd (true≢false (sym h))
among_from (x ∷ xs) dir h = by (bytes_eq dir x) refl h (among_from xs dir)
  where
    by : (b : Bool) → bytes_eq dir x ≡ b → (b || list_any (bytes_eq dir) xs) ≡ true → (list_any (bytes_eq dir) xs ≡ true → IsIn dir xs) → IsIn dir (x ∷ xs)
    by true same h rest = inl (sym ((bytes_eq-Decides dir x).0 same))
    by false same h rest = inr (rest h)

pub among_to : (dirs : List Path) (dir : Path) → IsIn dir dirs → list_any (bytes_eq dir) dirs ≡ true
among_to [] dir h = absurd h
among_to (x ∷ xs) dir h = by h (among_to xs dir)
  where
    by : IsIn dir (x ∷ xs) → (IsIn dir xs → list_any (bytes_eq dir) xs ≡ true) → list_any (bytes_eq dir) (x ∷ xs) ≡ true
    by (inl same) rest = ap (λ b. b || list_any (bytes_eq dir) xs) ((bytes_eq-Decides dir x).1 (sym same))
    by (inr i) rest = or_right (bytes_eq dir x) (list_any (bytes_eq dir) xs) (rest i)
