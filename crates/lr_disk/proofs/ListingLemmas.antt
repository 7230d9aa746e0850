-- The names that stand in a directory.
use Rattle.std.proofs.lemmas.List.{take_more, drop_more}
use Rattle.std.proofs.Common.{◌≡◌, ◌≢◌, ℕ, ◌+◌, ◌<◌, length, get_or, take, drop, append_assoc, Bool, true, false, not, cond, ◌||◌, ◌&&◌, List, [], ◌∷◌, ◌++◌, None, refl, sym, ◌∙◌, ap, subst, bytes_eq}
use Rattle.std.specs.List.{list_any}
use Rattle.std.specs.Cmp.{IsEquivalence}
use Rattle.std.proofs.lemmas.Map.Views.{list_any-from_Contains, Contains-from_any}
use Rattle.std.proofs.lemmas.List.Folds.{list_any-append}
use Rattle.std.proofs.lemmas.Bool.{and_parts, not-true, or_right, or_left}
use Rattle.lr_rules.specs.declared.path.Path.{Path}
use Rattle.lr_rules.specs.Path.{path_fault, is_slash, is_empty, joined, parent_of, last_of}
use Rattle.lr_rules.proofs.PathLemmas.{parent_joined, last_joined, joined_parts, last_plain}
use Rattle.lr_rules.proofs.Bools.{same_bools}
use Rattle.lr_host.specs.declared.thing.Thing.{Thing}
use Rattle.lr_host.specs.declared.thing.Thing.TheVariants as thing
use Rattle.lr_host.specs.Fits.{IsPart, AreNamesIn}
use Rattle.lr_host.specs.Lists.{AreDistinct, IsNotIn}
use Rattle.lr_host.proofs.Closed.{eq_true, by_bytes}
use Rattle.lr_disk.specs.Pairs.{keys}
use Rattle.lr_disk.specs.Names.{named_in, has_path, is_nothing, stands_right_in, name_of, listed_in}
use Rattle.lr_disk.proofs.PairLemmas.{or_true}

abbrev Pair : Type 0
Pair = Path × Thing

pub or_cases : (a b : Bool) (P : Type 0) → (a || b) ≡ true → (a ≡ true → P) → (b ≡ true → P) → P
or_cases true b P h f g = f refl
or_cases false b P h f g = g h

something : (t : Thing) → t ≢ thing.Nothing → is_nothing t ≡ false
something thing.Nothing ne = absurd (ne refl)
something (thing.File g) ne = refl
something thing.Directory ne = refl
something thing.Other ne = refl

nothing : (t : Thing) → is_nothing t ≡ false → t ≢ thing.Nothing
nothing thing.Nothing h e = cc
nothing (thing.File g) h e = cc
nothing thing.Directory h e = cc
nothing thing.Other h e = cc

-- all keys are paths
abbrev pub ArePaths : List Pair → Type 0
ArePaths [] = Unit {0}
ArePaths (n ∷ ns) = (path_fault n.0 ≡ None) × ArePaths ns

-- a path that stands in a directory is the directory and its last part
record Inside (dir : Path) (n : Pair) : Type 0 where
  named : n.1 ≢ thing.Nothing
  parent : parent_of n.0 ≡ dir
  some : is_empty (last_of n.0) ≡ false

inside : (dir : Path) (n : Pair) → stands_right_in dir n ≡ true → Inside dir n
inside dir n h =
    let a = and_parts (not (is_nothing n.1)) (bytes_eq (parent_of n.0) dir && not (is_empty (last_of n.0))) h in
    let b = and_parts (bytes_eq (parent_of n.0) dir) (not (is_empty (last_of n.0))) a.1 in
    record { named = nothing n.1 (not-true _ a.0); parent = by_bytes (parent_of n.0) dir b.0; some = not-true _ b.1 }

-- what one pair lists
one_listed : (dir : Path) (name : List ℕ) (n : Pair) (b : Bool) → stands_right_in dir n ≡ b → list_any (bytes_eq name) (cond b (last_of n.0 ∷ []) []) ≡ true → Inside dir n × (name ≡ last_of n.0)
one_listed dir name n true h l = (inside dir n h, or_cases (bytes_eq name (last_of n.0)) false (name ≡ last_of n.0) l (λ t. by_bytes name (last_of n.0) t) (λ f. absurd (cc)))
one_listed dir name n false h l = absurd (cc)

-- the whole path of what a pair lists
whole : (dir : Path) (n : Pair) → path_fault n.0 ≡ None → Inside dir n → joined dir (last_of n.0) ≡ n.0
whole dir n path i = subst (λ d. joined d (last_of n.0) ≡ n.0) i.parent (joined_parts n.0 path)

-- the value of a key that stands further behind
pub later_value : (ns : List Pair) (m : Pair) (x : Path) → IsNotIn m.0 (keys ns) → has_path ns x ≡ true → named_in (m ∷ ns) x ≡ named_in ns x
later_value ns m x new h = go (bytes_eq m.0 x) refl
  where
    found : (ns : List Pair) → IsNotIn x (keys ns) → has_path ns x ≡ true → ⊥
    found [] new h = cc
    found (n ∷ ns) new h = or_cases (bytes_eq n.0 x) (has_path ns x) ⊥ h (λ t. new.0 (sym (by_bytes n.0 x t))) (λ t. found ns new.1 t)

    go : (b : Bool) → bytes_eq m.0 x ≡ b → cond b m.1 (named_in ns x) ≡ named_in ns x
    go true e = absurd (found ns (subst (λ y. IsNotIn y (keys ns)) (by_bytes m.0 x e) new) h)
    go false e = refl

pub listed_stands : (dir : Path) (name : List ℕ) (ns : List Pair) → ArePaths ns → AreDistinct (keys ns) → list_any (bytes_eq name) (listed_in dir ns) ≡ true → IsPart name × (named_in ns (joined dir name) ≢ thing.Nothing) × (has_path ns (joined dir name) ≡ true)
listed_stands dir name [] paths once h = absurd (cc)
listed_stands dir name (n ∷ ns) paths once h =
    or_cases (list_any (bytes_eq name) (name_of dir n)) (list_any (bytes_eq name) (listed_in dir ns)) (IsPart name × (named_in (n ∷ ns) (joined dir name) ≢ thing.Nothing) × (has_path (n ∷ ns) (joined dir name) ≡ true))
    (sym (list_any-append (bytes_eq name) (name_of dir n) (listed_in dir ns)) ∙ h)
    (λ t. here (one_listed dir name n (stands_right_in dir n) refl t))
    (λ t. there (listed_stands dir name ns paths.1 once.1 t))
  where
    here : Inside dir n × (name ≡ last_of n.0) → IsPart name × (named_in (n ∷ ns) (joined dir name) ≢ thing.Nothing) × (has_path (n ∷ ns) (joined dir name) ≡ true)
    here i =
        let path : joined dir name ≡ n.0 = ap (joined dir) i.1 ∙ whole dir n paths.0 i.0 in
        let hit : bytes_eq n.0 (joined dir name) ≡ true = eq_true n.0 (joined dir name) (sym path) in (
          (subst (λ m. is_empty m ≡ false) (sym i.1) i.0.some, subst (λ m. list_any is_slash m ≡ false) (sym i.1) (last_plain n.0 paths.0)),
          (λ none. i.0.named (sym (ap (λ b. cond b n.1 (named_in ns (joined dir name))) hit) ∙ none)),
          ap (λ b. b || has_path ns (joined dir name)) hit,
        )

    there : IsPart name × (named_in ns (joined dir name) ≢ thing.Nothing) × (has_path ns (joined dir name) ≡ true) → IsPart name × (named_in (n ∷ ns) (joined dir name) ≢ thing.Nothing) × (has_path (n ∷ ns) (joined dir name) ≡ true)
    there s = (s.0, (λ none. s.1 (sym (later_value ns n (joined dir name) once.0 s.2) ∙ none)), ap (λ b. bytes_eq n.0 (joined dir name) || b) s.2 ∙ or_true (bytes_eq n.0 (joined dir name)))

pub stands_listed : (dir : Path) (name : List ℕ) (ns : List Pair) → path_fault dir ≡ None → IsPart name → named_in ns (joined dir name) ≢ thing.Nothing → list_any (bytes_eq name) (listed_in dir ns) ≡ true
stands_listed dir name [] path part s = absurd (s refl)
stands_listed dir name (n ∷ ns) path part s =
    list_any-append (bytes_eq name) (name_of dir n) (listed_in dir ns) ∙ go (bytes_eq n.0 (joined dir name)) refl s (λ t. stands_listed dir name ns path part t)
  where
    listed_here : n.0 ≡ joined dir name → n.1 ≢ thing.Nothing → list_any (bytes_eq name) (name_of dir n) ≡ true
    listed_here is named =
        let last : last_of n.0 ≡ name = ap last_of is ∙ last_joined dir name part.1 in
        let parent : parent_of n.0 ≡ dir = ap parent_of is ∙ parent_joined dir name path part.1 in
        let t : stands_right_in dir n ≡ true =
        ap (λ b. not b && (bytes_eq (parent_of n.0) dir && not (is_empty (last_of n.0)))) (something n.1 named)
        ∙ (ap (λ b. b && not (is_empty (last_of n.0))) (eq_true (parent_of n.0) dir parent) ∙ ap not (ap is_empty last ∙ part.0)) in
        ap (λ b. list_any (bytes_eq name) (cond b (last_of n.0 ∷ []) [])) t ∙ ap (λ b. b || false) (eq_true name (last_of n.0) (sym last))

    go : (b : Bool) → bytes_eq n.0 (joined dir name) ≡ b → cond b n.1 (named_in ns (joined dir name)) ≢ thing.Nothing → (named_in ns (joined dir name) ≢ thing.Nothing → list_any (bytes_eq name) (listed_in dir ns) ≡ true) → (list_any (bytes_eq name) (name_of dir n) || list_any (bytes_eq name) (listed_in dir ns)) ≡ true
    go true e s f = or_left _ _ (listed_here (by_bytes n.0 (joined dir name) e) s)
    go false e s f = or_right _ _ (f s)

-- each once
not_listed : (dir : Path) (n : Pair) (ns : List Pair) → path_fault n.0 ≡ None → Inside dir n → ArePaths ns → IsNotIn n.0 (keys ns) → IsNotIn (last_of n.0) (listed_in dir ns)
not_listed dir n [] path i paths new = tt
not_listed dir n (m ∷ ns) path i paths new = go (stands_right_in dir m) refl (not_listed dir n ns path i paths.1 new.1)
  where
    go : (b : Bool) → stands_right_in dir m ≡ b → IsNotIn (last_of n.0) (listed_in dir ns) → IsNotIn (last_of n.0) (cond b (last_of m.0 ∷ []) [] ++ listed_in dir ns)
    go true e rest = ((λ l. new.0 (sym (whole dir n path i) ∙ (ap (joined dir) l ∙ whole dir m paths.0 (inside dir m e)))), rest)
    go false e rest = rest

pub listed_once : (dir : Path) (ns : List Pair) → ArePaths ns → AreDistinct (keys ns) → AreDistinct (listed_in dir ns)
listed_once dir [] paths once = tt
listed_once dir (n ∷ ns) paths once = go (stands_right_in dir n) refl (listed_once dir ns paths.1 once.1)
  where
    go : (b : Bool) → stands_right_in dir n ≡ b → AreDistinct (listed_in dir ns) → AreDistinct (cond b (last_of n.0 ∷ []) [] ++ listed_in dir ns)
    go true e rest = (not_listed dir n ns paths.0 (inside dir n e) paths.1 once.0, rest)
    go false e rest = rest

bytes_equivalence : IsEquivalence bytes_eq
bytes_equivalence = record {
  refl = λ x. eq_true x x refl;
  symm = λ x y. same_bools (bytes_eq x y) (bytes_eq y x) (λ t. eq_true y x (sym (by_bytes x y t))) (λ t. eq_true x y (sym (by_bytes y x t)));
  congr = λ x y z e. subst (λ w. bytes_eq x z ≡ bytes_eq w z) (by_bytes x y e) refl;
}

pub listed_are : (dir : Path) (ns : List Pair) → path_fault dir ≡ None → ArePaths ns → AreDistinct (keys ns) → AreNamesIn (named_in ns) dir (listed_in dir ns)
listed_are dir ns path paths once = record {
  all = λ name. (
    (λ has. let s = listed_stands dir name ns paths once (list_any-from_Contains bytes_equivalence name (listed_in dir ns) has) in (s.0, s.1)),
    (λ s. Contains-from_any by_bytes name (listed_in dir ns) (stands_listed dir name ns path s.0 s.1)),
  );
  once = listed_once dir ns paths once;
}

-- other names that agree with these
pub agreeing_are : (n m : Path → Thing) (dir : Path) (listed : List (List ℕ)) → ((x : Path) → n x ≡ m x) → AreNamesIn n dir listed → AreNamesIn m dir listed
agreeing_are n m dir listed agree are = record {
  all = λ name. (
    (λ has. let s = (are.all name).0 has in (s.0, λ none. s.1 (agree (joined dir name) ∙ none))),
    (λ s. (are.all name).1 (s.0, λ none. s.1 (sym (agree (joined dir name)) ∙ none))),
  );
  once = are.once;
}

-- one pair more
paths_last : (ns : List Pair) (n : Pair) → ArePaths ns → path_fault n.0 ≡ None → ArePaths (ns ++ n ∷ [])
paths_last [] n a p = (p, tt)
paths_last (m ∷ ns) n a p = (a.0, paths_last ns n a.1 p)

pub paths_more : (ns : List Pair) (i : ℕ) (n : Pair) → n ≡ get_or ns i n → i < length ns → ArePaths (take i ns) → path_fault n.0 ≡ None → ArePaths (take (i + 1) ns)
paths_more ns i n is lt a p =
    subst ArePaths (sym (take_more ns i n lt)) (subst (λ y. ArePaths (take i ns ++ y ∷ [])) is (paths_last (take i ns) n a p))

pub listed_more : (dir : Path) (ns : List Pair) (i : ℕ) (n : Pair) (into new : List (List ℕ)) → n ≡ get_or ns i n → i < length ns
    → (first : List (List ℕ)) → into ++ listed_in dir (drop i ns) ≡ first → new ≡ into ++ name_of dir n → new ++ listed_in dir (drop (i + 1) ns) ≡ first
listed_more dir ns i n into new is lt first so_far e =
    ap (λ l. l ++ listed_in dir (drop (i + 1) ns)) e
    ∙ (append_assoc into (name_of dir n) (listed_in dir (drop (i + 1) ns))
    ∙ (ap (λ ys. into ++ listed_in dir ys) (ap (λ y. y ∷ drop (i + 1) ns) is ∙ sym (drop_more ns i n lt)) ∙ so_far))

-- what stands first goes on standing first
pub take_kept : {X : Type 0} (first mid last : List X) → take (length first) mid ≡ first → take (length mid) last ≡ mid → take (length first) last ≡ first
take_kept [] mid last a b = refl
take_kept (x ∷ xs) [] last a b = absurd (cc)
take_kept (x ∷ xs) (y ∷ ys) [] a b = absurd (cc)
take_kept (x ∷ xs) (y ∷ ys) (z ∷ zs) a b =
    let by_bytes : z ≡ x = heads b ∙ heads a in
    ap (λ l. z ∷ l) (take_kept xs ys zs (tails a) (tails b)) ∙ ap (λ h. h ∷ xs) by_bytes
  where
    heads : {X : Type 0} {p q : X} {ps qs : List X} → p ∷ ps ≡ q ∷ qs → p ≡ q
    heads e = cc

    tails : {X : Type 0} {p q : X} {ps qs : List X} → p ∷ ps ≡ q ∷ qs → ps ≡ qs
    tails e = cc
