-- What a valid opening says of its names.
use Rattle.std.proofs.Common.{◌≡◌, ◌≢◌, ℕ, suc, ◌+◌, ◌<◌, ◌≤◌, List, [], ◌∷◌, ◌++◌, length, map, Bool, true, false, cond, ◌||◌, bytes_eq, refl, sym, ◌∙◌, ap, arith}
use Rattle.std.specs.Prelude.{◌==◌, count_by, All}
use Rattle.std.proofs.lemmas.List.Sums.{sum_by-cons}
use Rattle.std.proofs.lemmas.Bool.Decides.{Decides-eqb}
use Rattle.std.proofs.lemmas.Slice.Eq.{bytes_eq-Decides}
use Rattle.lr_rules.specs.declared.path.Path.{Path}
use Rattle.lr_host.specs.declared.thing.Thing.TheVariants as thing
use Rattle.lr_host.specs.declared.journal.Opening.{Opening}
use Rattle.lr_host.specs.Lists.{IsNotIn, AreDistinct}
use Rattle.lr_host.specs.World.{opening_names, named_at_first, in_list}
use Rattle.lr_host.specs.Opening.{IsValid}

-- each of these pairs has P
abbrev EachPair : (Path × ℕ → Type 0) → List (Path × ℕ) → Type 0
EachPair P [] = Unit {0}
EachPair P (n ∷ ns) = P n × EachPair P ns

-- each of these is what the opening names there
abbrev pub AreNamed : Opening → List (Path × ℕ) → Type 0
AreNamed o ns = EachPair (λ n. opening_names o n.0 ≡ thing.File n.1) ns

-- each named file exists, and has one name; each listed name counts
pub record IsOpened (o : Opening) : Type 0 where
  pub fresh : (x : Path) (g : ℕ) → opening_names o x ≡ thing.File g → g < length o.files
  pub unique : (x y : Path) (g : ℕ) → opening_names o x ≡ thing.File g → opening_names o y ≡ thing.File g → x ≡ y
  pub listed : AreNamed o o.names

pub named_in_list : (o : Opening) (x : Path) (g : ℕ) → opening_names o x ≡ thing.File g → named_at_first o.names x ≡ thing.File g
named_in_list o x g is = go (in_list o.dirs x) (in_list o.others x) is
  where
    go : (a b : Bool) → cond a thing.Directory (cond b thing.Other (named_at_first o.names x)) ≡ thing.File g → named_at_first o.names x ≡ thing.File g
    go true b is = absurd (cc)
    go false true is = absurd (cc)
    go false false is = is

pub fresh_in : (limit : ℕ) (ns : List (Path × ℕ)) (x : Path) (g : ℕ) → All (λ n. n.1 < limit) ns → named_at_first ns x ≡ thing.File g → g < limit
fresh_in limit [] x g all is = absurd (cc)
fresh_in limit (n ∷ ns) x g all is = go (bytes_eq n.0 x) is (fresh_in limit ns x g (λ k d lt. all (suc k) d (omega arith)))
  where
    go : (b : Bool) → cond b (thing.File n.1) (named_at_first ns x) ≡ thing.File g → (named_at_first ns x ≡ thing.File g → g < limit) → g < limit
    go true is rest = let e : n.1 ≡ g = cc in let i : n.1 < limit = all 0 n (omega arith) in omega arith
    go false is rest = rest is

-- how many of the names are the file's
abbrev names_of : ℕ → List (Path × ℕ) → ℕ
names_of g ns = count_by (λ n. n.1 == g) ns

names_of_more : (g : ℕ) (n : Path × ℕ) (ns : List (Path × ℕ)) → names_of g (n ∷ ns) ≡ cond {A = ℕ} (n.1 == g) 1 0 + names_of g ns
names_of_more g n ns = sum_by-cons (λ n. cond {A = ℕ} (n.1 == g) 1 0) n ns

one_of : (g i : ℕ) → i ≡ g → cond {A = ℕ} (i == g) 1 0 ≡ 1
one_of g i e = ap (λ b. cond {A = ℕ} b 1 0) ((Decides-eqb i g).1 e)

named_once : (ns : List (Path × ℕ)) (x : Path) (g : ℕ) → named_at_first ns x ≡ thing.File g → 1 ≤ names_of g ns
named_once [] x g is = absurd (cc)
named_once (n ∷ ns) x g is = go (bytes_eq n.0 x) is (named_once ns x g)
  where
    go : (b : Bool) → cond b (thing.File n.1) (named_at_first ns x) ≡ thing.File g → (named_at_first ns x ≡ thing.File g → 1 ≤ names_of g ns) → 1 ≤ names_of g (n ∷ ns)
    go true is rest = let e : n.1 ≡ g = cc in omega (arith, names_of_more g n ns, one_of g n.1 e)
    go false is rest = let i : 1 ≤ names_of g ns = rest is in omega (arith, names_of_more g n ns)

unique_in : (ns : List (Path × ℕ)) (x y : Path) (g : ℕ) → names_of g ns ≤ 1 → named_at_first ns x ≡ thing.File g → named_at_first ns y ≡ thing.File g → x ≡ y
unique_in [] x y g few is it = absurd (cc)
unique_in (n ∷ ns) x y g few is it = go (bytes_eq n.0 x) (bytes_eq n.0 y) refl refl is it (unique_in ns x y g)
  where
    twice : n.1 ≡ g → 1 ≤ names_of g ns → ⊥
    twice e more = omega (arith, names_of_more g n ns, one_of g n.1 e)

    go : (a b : Bool) → bytes_eq n.0 x ≡ a → bytes_eq n.0 y ≡ b → cond a (thing.File n.1) (named_at_first ns x) ≡ thing.File g → cond b (thing.File n.1) (named_at_first ns y) ≡ thing.File g
        → (names_of g ns ≤ 1 → named_at_first ns x ≡ thing.File g → named_at_first ns y ≡ thing.File g → x ≡ y) → x ≡ y
    go true true p q is it rest = sym ((bytes_eq-Decides n.0 x).0 p) ∙ (bytes_eq-Decides n.0 y).0 q
    go true false p q is it rest = absurd (twice (cc) (named_once ns y g it))
    go false true p q is it rest = absurd (twice (cc) (named_once ns x g is))
    go false false p q is it rest = rest (omega (arith, names_of_more g n ns)) is it

not_listed : (ds : List Path) (x : Path) → IsNotIn x ds → in_list ds x ≡ false
not_listed [] x none = refl
not_listed (d ∷ ds) x none = go (bytes_eq d x) refl (not_listed ds x none.1)
  where
    go : (b : Bool) → bytes_eq d x ≡ b → in_list ds x ≡ false → (b || in_list ds x) ≡ false
    go true q rest = absurd (none.0 (sym ((bytes_eq-Decides d x).0 q)))
    go false q rest = rest

not_in_both : (xs ys : List Path) (x : Path) → IsNotIn x (xs ++ ys) → IsNotIn x xs × IsNotIn x ys
not_in_both [] ys x none = (tt, none)
not_in_both (z ∷ xs) ys x none = let r : IsNotIn x xs × IsNotIn x ys = not_in_both xs ys x none.1 in ((none.0, r.0), r.1)

-- what holds of each pair whose path is another, and of none else
other_pairs : (P Q : Path × ℕ → Type 0) (x : Path) (ns : List (Path × ℕ)) (rest : List Path) → IsNotIn x (map (λ n. n.0) ns ++ rest) → ((n : Path × ℕ) → x ≢ n.0 → P n → Q n) → EachPair P ns → EachPair Q ns
other_pairs P Q x [] rest none f each = tt
other_pairs P Q x (n ∷ ns) rest none f each = (f n none.0 each.0, other_pairs P Q x ns rest none.1 f each.1)

-- the list names it there, and no other list has it
abbrev IsTold : List (Path × ℕ) → List Path → Path × ℕ → Type 0
IsTold ns rest n = (named_at_first ns n.0 ≡ thing.File n.1) × IsNotIn n.0 rest

skips : (x y : Path) (t : _) (ns : List (Path × ℕ)) → x ≢ y → cond (bytes_eq x y) t (named_at_first ns y) ≡ named_at_first ns y
skips x y t ns other = go (bytes_eq x y) refl
  where
    go : (b : Bool) → bytes_eq x y ≡ b → cond b t (named_at_first ns y) ≡ named_at_first ns y
    go true q = absurd (other ((bytes_eq-Decides x y).0 q))
    go false q = refl

each_told : (ns : List (Path × ℕ)) (rest : List Path) → AreDistinct (map (λ n. n.0) ns ++ rest) → EachPair (IsTold ns rest) ns
each_told [] rest d = tt
each_told (n ∷ ns) rest d = (
  (ap (λ b. cond b (thing.File n.1) (named_at_first ns n.0)) ((bytes_eq-Decides n.0 n.0).1 refl), (not_in_both (map (λ n. n.0) ns) rest n.0 d.0).1),
  other_pairs (IsTold ns rest) (IsTold (n ∷ ns) rest) n.0 ns rest d.0 (λ m other told. (skips n.0 m.0 (thing.File n.1) ns other ∙ told.0, told.1)) (each_told ns rest d.1),
)

as_named : (o : Opening) (ns : List (Path × ℕ)) → EachPair (IsTold o.names (o.dirs ++ o.others)) ns → AreNamed o ns
as_named o [] each = tt
as_named o (n ∷ ns) each = (go, as_named o ns each.1)
  where
    apart : IsNotIn n.0 o.dirs × IsNotIn n.0 o.others
    apart = not_in_both o.dirs o.others n.0 each.0.1

    go : opening_names o n.0 ≡ thing.File n.1
    go = ap (λ b. cond b thing.Directory (cond (in_list o.others n.0) thing.Other (named_at_first o.names n.0))) (not_listed o.dirs n.0 apart.0)
        ∙ (ap (λ b. cond b thing.Other (named_at_first o.names n.0)) (not_listed o.others n.0 apart.1) ∙ each.0.0)

pub opened : (o : Opening) → IsValid o → IsOpened o
opened o v = record { fresh = fresh; unique = one; listed = as_named o o.names (each_told o.names (o.dirs ++ o.others) v.once) }
  where
    fresh : (x : Path) (g : ℕ) → opening_names o x ≡ thing.File g → g < length o.files
    fresh x g is = fresh_in (length o.files) o.names x g v.known (named_in_list o x g is)

    one : (x y : Path) (g : ℕ) → opening_names o x ≡ thing.File g → opening_names o y ≡ thing.File g → x ≡ y
    one x y g is it = let once : names_of g o.names ≡ 1 = v.named g (fresh x g is) in unique_in o.names x y g (omega arith) (named_in_list o x g is) (named_in_list o y g it)
