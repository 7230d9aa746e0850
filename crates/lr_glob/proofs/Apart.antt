-- That no path stands twice among those to which a part leads.
use Rattle.std.proofs.Common.{◌≡◌, ◌≢◌, inl, inr, ⊎_elim, ℕ, suc, true, List, [], ◌∷◌, ◌++◌, map, refl, sym, ◌∙◌, subst}
use Rattle.std.specs.Prelude.{chars}
use Rattle.lr_rules.specs.declared.path.Path.{Path}
use Rattle.lr_rules.specs.Match.{Matches}
use Rattle.lr_rules.specs.Path.{joined}
use Rattle.lr_host.specs.Fits.{IsPart}
use Rattle.lr_host.specs.Lists.{IsIn, IsNotIn, AreDistinct}
use Rattle.lr_host.proofs.Lists.{in_map, in_append}
use Rattle.lr_glob.specs.Gathers.{Gathers}
use Rattle.lr_glob.specs.Parts.{JoinOf, PickOf}
use Rattle.lr_glob.specs.Visits.{WordVisit, visit_names}
use Rattle.lr_glob.specs.Rounds.{Picks}
use Rattle.lr_glob.proofs.Levels.{IsAt, level_of, joined_at, part_at, dirs_same, names_same, both_same}

-- ---- lists

pub not_in : {A : Type 0} (x : A) (ys : List A) → ((y : A) → IsIn y ys → x ≢ y) → IsNotIn x ys
not_in x [] f = tt
not_in x (y ∷ ys) f = (f y (inl refl), not_in x ys (λ z i. f z (inr i)))

pub differs : {A : Type 0} (x y : A) (ys : List A) → IsNotIn x ys → IsIn y ys → x ≢ y
differs x y [] n i = absurd i
differs x y (z ∷ ys) n (inl e) = λ h. n.0 (h ∙ sym e)
differs x y (z ∷ ys) n (inr i) = differs x y ys n.1 i

both_distinct : {A : Type 0} (xs ys : List A) → AreDistinct xs → AreDistinct ys → ((x y : A) → IsIn x xs → IsIn y ys → x ≢ y) → AreDistinct (xs ++ ys)
both_distinct [] ys d e f = e
both_distinct (x ∷ xs) ys d e f = (
  not_in x (xs ++ ys) (λ z i. ⊎_elim (λ (a : IsIn z xs). differs x z xs d.0 a) (λ (b : IsIn z ys). f x z (inl refl) b) (in_append z xs ys i)),
  both_distinct xs ys d.1 e (λ a b i j. f a b (inr i) j),
)

abbrev pub AllAt : ℕ → List Path → Type 0
AllAt k dirs = (d : Path) → IsIn d dirs → IsAt k d

-- ---- a name in each directory

-- where a name leads, it leads to the one path
join_is : (dir : Path) (name : List ℕ) (its : List Path) (x : Path) → JoinOf dir name its → IsIn x its → x ≡ joined dir name
join_is dir name _ x (JoinOf.is_path valid) (inl e) = sym e
join_is dir name _ x (JoinOf.is_path valid) (inr i) = absurd i
join_is dir name _ x (JoinOf.no_path other) i = absurd i

join_once : (dir : Path) (name : List ℕ) (its : List Path) → JoinOf dir name its → AreDistinct its
join_once dir name _ (JoinOf.is_path valid) = (tt, tt)
join_once dir name _ (JoinOf.no_path other) = tt

pub record JoinedIn (name : List ℕ) (dirs : List Path) (x : Path) : Type 0 where
  pub dir : Path
  pub there : IsIn dir dirs
  pub is : x ≡ joined dir name

pub joined_in : (name : List ℕ) (dirs paths : List Path) (x : Path) → Gathers (λ dir its. JoinOf dir name its) dirs paths → IsIn x paths → JoinedIn name dirs x
joined_in name _ _ x Gathers.none i = absurd i
joined_in name _ _ x (Gathers.more dir dirs its paths j g) i = ⊎_elim
    (λ (a : IsIn x its). record { dir = dir; there = inl refl; is = join_is dir name its x j a })
    (λ (b : IsIn x paths). let r = joined_in name dirs paths x g b in record { dir = r.dir; there = inr r.there; is = r.is })
    (in_append x its paths i)

pub joins_at : (k : ℕ) (name : List ℕ) (dirs paths : List Path) → Gathers (λ dir its. JoinOf dir name its) dirs paths → AllAt k dirs → AllAt (level_of k name) paths
joins_at k name dirs paths g all = λ x i. let r = joined_in name dirs paths x g i in subst (IsAt (level_of k name)) (sym r.is) (joined_at k r.dir name (all r.dir r.there))

pub joins_once : (k : ℕ) (name : List ℕ) (dirs paths : List Path) → Gathers (λ dir its. JoinOf dir name its) dirs paths → AllAt k dirs → AreDistinct dirs → AreDistinct paths
joins_once k name _ _ Gathers.none all d = tt
joins_once k name _ _ (Gathers.more dir dirs its paths j g) all d = both_distinct its paths (join_once dir name its j) (joins_once k name dirs paths g (λ x i. all x (inr i)) d.1) (λ x y i e h.
    let r = joined_in name dirs paths y g e in
    differs dir r.dir dirs d.0 r.there (dirs_same k dir r.dir name (all dir (inl refl)) (all r.dir (inr r.there)) (sym (join_is dir name its x j i) ∙ (h ∙ r.is))))

-- ---- names that a part matches

pick_is : (part : List ℕ) (dir : Path) (name : List ℕ) (its : List Path) (x : Path) → PickOf part dir name its → IsIn x its → x ≡ joined dir name
pick_is part dir name _ x (PickOf.matched its m j) i = join_is dir name its x j i
pick_is part dir name _ x (PickOf.other m) i = absurd i

pick_matches : (part : List ℕ) (dir : Path) (name : List ℕ) (its : List Path) (x : Path) → PickOf part dir name its → IsIn x its → Matches true (chars part) (chars name)
pick_matches part dir name _ x (PickOf.matched its m j) i = m
pick_matches part dir name _ x (PickOf.other m) i = absurd i

pick_once : (part : List ℕ) (dir : Path) (name : List ℕ) (its : List Path) → PickOf part dir name its → AreDistinct its
pick_once part dir name _ (PickOf.matched its m j) = join_once dir name its j
pick_once part dir name _ (PickOf.other m) = tt

pub record PickedIn (part : List ℕ) (dir : Path) (names : List (List ℕ)) (x : Path) : Type 0 where
  pub name : List ℕ
  pub there : IsIn name names
  pub matches : Matches true (chars part) (chars name)
  pub is : x ≡ joined dir name

picked_in : (part : List ℕ) (dir : Path) (names : List (List ℕ)) (paths : List Path) (x : Path) → Gathers (PickOf part dir) names paths → IsIn x paths → PickedIn part dir names x
picked_in part dir _ _ x Gathers.none i = absurd i
picked_in part dir _ _ x (Gathers.more name names its paths p g) i = ⊎_elim
    (λ (a : IsIn x its). record { name = name; there = inl refl; matches = pick_matches part dir name its x p a; is = pick_is part dir name its x p a })
    (λ (b : IsIn x paths). let r = picked_in part dir names paths x g b in record { name = r.name; there = inr r.there; matches = r.matches; is = r.is })
    (in_append x its paths i)

-- Different names, each of which can stand behind a slash.
pub record AreNames (names : List (List ℕ)) : Type 0 where
  pub once : AreDistinct names
  pub parts : (name : List ℕ) → IsIn name names → IsPart name

names_once : (part : List ℕ) (dir : Path) (names : List (List ℕ)) (paths : List Path) → Gathers (PickOf part dir) names paths → AreNames names → AreDistinct paths
names_once part dir _ _ Gathers.none a = tt
names_once part dir _ _ (Gathers.more name names its paths p g) a = both_distinct its paths (pick_once part dir name its p) (names_once part dir names paths g (record { once = a.once.1; parts = λ n i. a.parts n (inr i) })) (λ x y i e h.
    let r = picked_in part dir names paths y g e in
    differs name r.name names a.once.0 r.there (names_same dir dir name r.name (a.parts name (inl refl)) (a.parts r.name (inr r.there)) (sym (pick_is part dir name its x p i) ∙ (h ∙ r.is))))

-- ---- visits

abbrev pub dir_of : WordVisit → Path
dir_of v = v.dir

abbrev pub AreTrue : List WordVisit → Type 0
AreTrue visits = (v : WordVisit) → IsIn v visits → AreNames (visit_names v)

pub record VisitedIn (part : List ℕ) (visits : List WordVisit) (x : Path) : Type 0 where
  pub visit : WordVisit
  pub there : IsIn visit visits
  pub picked : PickedIn part visit.dir (visit_names visit) x

pub visited_in : (part : List ℕ) (visits : List WordVisit) (paths : List Path) (x : Path) → Gathers (Picks part) visits paths → IsIn x paths → VisitedIn part visits x
visited_in part _ _ x Gathers.none i = absurd i
visited_in part _ _ x (Gathers.more v visits its paths p g) i = ⊎_elim
    (λ (a : IsIn x its). record { visit = v; there = inl refl; picked = picked_in part v.dir (visit_names v) its x p a })
    (λ (b : IsIn x paths). let r = visited_in part visits paths x g b in record { visit = r.visit; there = inr r.there; picked = r.picked })
    (in_append x its paths i)

pub picks_at : (k : ℕ) (part : List ℕ) (visits : List WordVisit) (paths : List Path) → Gathers (Picks part) visits paths → AreTrue visits → AllAt k (map dir_of visits) → AllAt (suc k) paths
picks_at k part visits paths g t all = λ x i.
    let r = visited_in part visits paths x g i in
    let c = r.picked in
    subst (IsAt (suc k)) (sym c.is) (part_at k r.visit.dir c.name ((t r.visit r.there).parts c.name c.there) (all r.visit.dir (in_map dir_of r.visit visits r.there)))

pub picks_once : (k : ℕ) (part : List ℕ) (visits : List WordVisit) (paths : List Path) → Gathers (Picks part) visits paths → AreTrue visits → AllAt k (map dir_of visits) → AreDistinct (map dir_of visits) → AreDistinct paths
picks_once k part _ _ Gathers.none t all d = tt
picks_once k part _ _ (Gathers.more v visits its paths p g) t all d = both_distinct its paths (names_once part v.dir (visit_names v) its p (t v (inl refl))) (picks_once k part visits paths g (λ w i. t w (inr i)) (λ x i. all x (inr i)) d.1) (λ x y i e h.
    let r = visited_in part visits paths y g e in
    let a = picked_in part v.dir (visit_names v) its x p i in
    let b = r.picked in
    let there = in_map dir_of r.visit visits r.there in
    differs v.dir r.visit.dir (map dir_of visits) d.0 there (both_same k v.dir r.visit.dir a.name b.name (all v.dir (inl refl)) (all r.visit.dir (inr there)) ((t v (inl refl)).parts a.name a.there) ((t r.visit (inr r.there)).parts b.name b.there) (sym a.is ∙ (h ∙ b.is))))
