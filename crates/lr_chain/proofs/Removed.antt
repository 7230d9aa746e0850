-- Which members go, once the log is one of them.
use Rattle.std.proofs.Common.{◌≡◌, ℕ, zero, suc, ℤ, ◌+◌, ◌-◌, ◌<◌, ◌≤◌, ◌||◌, Bool, true, false, cond, List, [], ◌∷◌, ◌++◌, length, map, reverse, take, drop, get_or, Option, refl, sym, ap, ◌∙◌, subst, arith, append_assoc}
use Rattle.std.specs.Prelude.{int_lt}
use Rattle.std.specs.List.{AllByRecursion}
use Rattle.std.proofs.lemmas.List.{take_more, take_all, take-append-drop, map-append, length-map, length-take, length-drop}
use Rattle.lr_rules.specs.declared.path.Path.{Path}
use Rattle.lr_rules.specs.declared.rule.Count.{Count}
use Rattle.lr_rules.specs.Dated.{stamp_key}
use Rattle.lr_family.specs.declared.place.Place.{Place}
use Rattle.lr_family.specs.declared.place.Place.TheVariants as at
use Rattle.lr_family.specs.declared.stand.Member.{Member}
use Rattle.lr_scripts.specs.declared.removal.Removal.{Removal}
use Rattle.lr_family.specs.Stands.{key_in}
use Rattle.lr_chain.specs.DatedRotation.{Ranked, key_of, gone}
use Rattle.lr_chain.specs.Rotation.{is_left, is_expired}
use Rattle.lr_chain.proofs.DatedSteps.{map_reverse}
use Rattle.lr_chain.specs.DatedReady.{seconds_in, serial_in, ranked, renamed, with_one, all_of, removal_of, plain_removal}

-- ---- the place of the log among the members

pub rank_key : (p : Place) → stamp_key (seconds_in p) (serial_in p) ≡ key_in p
rank_key (at.Stamp t k) = refl
rank_key (at.Number place) = refl

-- later than this
abbrev pub AreLater : ℤ → List Member → Type 0
AreLater key ms = AllByRecursion (λ m. int_lt key (key_in m.place) ≡ true) ms

-- the first of these isn't
abbrev pub IsNotLater : ℤ → List Member → Type 0
IsNotLater key [] = Unit {0}
IsNotLater key (m ∷ ms) = int_lt key (key_in m.place) ≡ false

pub placed : (maxage : Option ℕ) (now : ℤ) (one : Ranked) (xs ys : List Member) → AreLater (key_of one) xs → IsNotLater (key_of one) ys → with_one one (map (ranked maxage now) (xs ++ ys)) ≡ map (ranked maxage now) xs ++ one ∷ map (ranked maxage now) ys
placed maxage now one [] [] a b = refl
placed maxage now one [] (y ∷ ys) a b = ap (λ c. cond c (ranked maxage now y ∷ with_one one (map (ranked maxage now) ys)) (one ∷ ranked maxage now y ∷ map (ranked maxage now) ys)) (ap (int_lt (key_of one)) (rank_key y.place) ∙ b)
placed maxage now one (x ∷ xs) ys a b = ap (λ c. cond c (ranked maxage now x ∷ with_one one (map (ranked maxage now) (xs ++ ys))) (one ∷ ranked maxage now x ∷ map (ranked maxage now) (xs ++ ys))) (ap (int_lt (key_of one)) (rank_key x.place) ∙ a.0)
    ∙ ap (λ zs. ranked maxage now x ∷ zs) (placed maxage now one xs ys a.1 b)

drop_at : (members : List Member) (i : ℕ) (m : Member) → m ≡ get_or members i m → i < length members → drop i members ≡ m ∷ drop (suc i) members
drop_at [] i m is lt = absurd (omega (arith, lt))
drop_at (x ∷ xs) zero m is lt = ap (λ y. y ∷ xs) (sym is)
drop_at (x ∷ xs) (suc i) m is lt = drop_at xs i m is (omega (arith, lt))

pub placed_here : (maxage : Option ℕ) (now t : ℤ) (k : ℕ) (target : Path) (members : List Member) (i : ℕ) (m : Member) → AreLater (stamp_key t k) (take i members) → m ≡ get_or members i m → i < length members → int_lt (stamp_key t k) (key_in m.place) ≡ false
    → all_of maxage now t k target members ≡ map (ranked maxage now) (take i members) ++ renamed t k target ∷ map (ranked maxage now) (drop i members)
placed_here maxage now t k target members i m a is lt b =
    ap (λ ms. with_one (renamed t k target) (map (ranked maxage now) ms)) (sym (take-append-drop i members))
    ∙ placed maxage now (renamed t k target) (take i members) (drop i members) a (subst (IsNotLater (stamp_key t k)) (sym (drop_at members i m is lt)) b)

drop_all : (members : List Member) (i : ℕ) → length members ≤ i → drop i members ≡ []
drop_all [] zero le = refl
drop_all [] (suc i) le = refl
drop_all (x ∷ xs) zero le = absurd (omega (arith, le))
drop_all (x ∷ xs) (suc i) le = drop_all xs i (omega (arith, le))

pub placed_last : (maxage : Option ℕ) (now t : ℤ) (k : ℕ) (target : Path) (members : List Member) (i : ℕ) → AreLater (stamp_key t k) (take i members) → length members ≤ i → all_of maxage now t k target members ≡ map (ranked maxage now) (take i members) ++ renamed t k target ∷ map (ranked maxage now) (drop i members)
placed_last maxage now t k target members i a le =
    ap (λ ms. with_one (renamed t k target) (map (ranked maxage now) ms)) (sym (take-append-drop i members))
    ∙ placed maxage now (renamed t k target) (take i members) (drop i members) a (subst (IsNotLater (stamp_key t k)) (sym (drop_all members i le)) tt)

-- ---- those that go

pub gone_split : (c : Count) (k : ℕ) (xs ys : List Ranked) → gone c k (xs ++ ys) ≡ gone c k xs ++ gone c (k + length xs) ys
gone_split c k [] ys = ap (λ (j : ℕ). gone c j ys) (let e : k ≡ k + 0 = omega arith in e)
gone_split c k (x ∷ xs) ys = go (is_left c k || x.old) (gone_split c (suc k) xs ys ∙ ap (λ (j : ℕ). gone c (suc k) xs ++ gone c j ys) (let e : suc k + length xs ≡ k + suc (length xs) = omega arith in e))
  where
    go : (b : Bool) → gone c (suc k) (xs ++ ys) ≡ gone c (suc k) xs ++ gone c (k + suc (length xs)) ys
        → cond b (x ∷ gone c (suc k) (xs ++ ys)) (gone c (suc k) (xs ++ ys)) ≡ cond b (x ∷ gone c (suc k) xs) (gone c (suc k) xs) ++ gone c (k + suc (length xs)) ys
    go true h = ap (λ zs. x ∷ zs) h
    go false h = h

pub gone_one : (c : Count) (k : ℕ) (m : Ranked) → map removal_of (gone c k (m ∷ [])) ≡ cond (is_left c k || m.old) (plain_removal m.path ∷ []) []
gone_one c k m = go (is_left c k || m.old)
  where
    go : (b : Bool) → map removal_of (cond b (m ∷ []) []) ≡ cond b (plain_removal m.path ∷ []) []
    go true = refl
    go false = refl

pub gone_more : (c : Count) (maxage : Option ℕ) (now : ℤ) (first : ℕ) (members : List Member) (i : ℕ) (m : Member) (start before after : List Removal) → m ≡ get_or members i m → i < length members → before ≡ start ++ map removal_of (gone c first (map (ranked maxage now) (take i members)))
    → after ≡ before ++ cond (is_left c (first + i) || is_expired maxage now m) (plain_removal m.path ∷ []) [] → after ≡ start ++ map removal_of (gone c first (map (ranked maxage now) (take (i + 1) members)))
gone_more c maxage now first members i m start before after is lt one more =
    more ∙ (ap (λ xs. xs ++ cond (is_left c (first + i) || is_expired maxage now m) (plain_removal m.path ∷ []) []) one
    ∙ (append_assoc start (map removal_of (gone c first done)) (cond (is_left c (first + i) || is_expired maxage now m) (plain_removal m.path ∷ []) [])
    ∙ ap (λ xs. start ++ xs) (ap (λ xs. map removal_of (gone c first done) ++ xs) (sym (gone_one c (first + i) (ranked maxage now m)))
    ∙ (sym (map-append removal_of (gone c first done) (gone c (first + i) (ranked maxage now m ∷ [])))
    ∙ ap (map removal_of) (ap (λ (j : ℕ). gone c first done ++ gone c j (ranked maxage now m ∷ [])) (sym size) ∙ (sym (gone_split c first done (ranked maxage now m ∷ [])) ∙ ap (gone c first) (sym grown)))))))
  where
    done : List Ranked
    done = map (ranked maxage now) (take i members)

    size : first + length done ≡ first + i
    size = let l = length-map (take i members) (ranked maxage now) in let k = length-take i members in omega (arith, l, k, lt)

    grown : map (ranked maxage now) (take (i + 1) members) ≡ done ++ ranked maxage now m ∷ []
    grown = ap (map (ranked maxage now)) (take_more members i m lt ∙ ap (λ x. take i members ++ x ∷ []) (sym is)) ∙ map-append (ranked maxage now) (take i members) (m ∷ [])

or_false : (b : Bool) → (b || false) ≡ b
or_false true = refl
or_false false = refl

-- the slice that goes to the end
pub rest_whole : (members : List Member) (p : ℕ) → take (length members - p) (drop p members) ≡ drop p members
rest_whole members p = take_all (length members - p) (drop p members) (let l = length-drop p members in omega (arith, l))

-- the parts, one behind the other, and then back to front
pub gone_whole : (c : Count) (maxage : Option ℕ) (now t : ℤ) (k : ℕ) (target : Path) (members : List Member) (p : ℕ) (a b d e : List Removal) → p ≤ length members → all_of maxage now t k target members ≡ map (ranked maxage now) (take p members) ++ renamed t k target ∷ map (ranked maxage now) (drop p members)
    → a ≡ [] ++ map removal_of (gone c 0 (map (ranked maxage now) (take p members))) → b ≡ a ++ cond (is_left c p) (plain_removal target ∷ []) [] → d ≡ b ++ map removal_of (gone c (p + 1) (map (ranked maxage now) (drop p members))) → e ≡ reverse d
    → e ≡ map removal_of (reverse (gone c 0 (all_of maxage now t k target members)))
gone_whole c maxage now t k target members p a b d e le parts first second third back =
    back ∙ (ap reverse (third ∙ (ap (λ xs. xs ++ map removal_of after) (second ∙ ap (λ xs. xs ++ cond (is_left c p) (plain_removal target ∷ []) []) first) ∙ sym whole)) ∙ sym (map_reverse removal_of (gone c 0 (all_of maxage now t k target members))))
  where
    before : List Ranked
    before = gone c 0 (map (ranked maxage now) (take p members))

    after : List Ranked
    after = gone c (p + 1) (map (ranked maxage now) (drop p members))

    one : Ranked
    one = renamed t k target

    size : 0 + length (map (ranked maxage now) (take p members)) ≡ p
    size = let l = length-map (take p members) (ranked maxage now) in let i = length-take p members in omega (arith, l, i, le)

    split : gone c 0 (all_of maxage now t k target members) ≡ before ++ (gone c p (one ∷ []) ++ after)
    split = ap (gone c 0) parts ∙ (gone_split c 0 (map (ranked maxage now) (take p members)) (one ∷ map (ranked maxage now) (drop p members)) ∙ ap (λ xs. before ++ xs) (ap (λ (j : ℕ). gone c j (one ∷ map (ranked maxage now) (drop p members))) size ∙ gone_split c p (one ∷ []) (map (ranked maxage now) (drop p members))))

    whole : map removal_of (gone c 0 (all_of maxage now t k target members)) ≡ (map removal_of before ++ cond (is_left c p) (plain_removal target ∷ []) []) ++ map removal_of after
    whole = ap (map removal_of) split ∙ (map-append removal_of before (gone c p (one ∷ []) ++ after) ∙ (ap (λ xs. map removal_of before ++ xs) (map-append removal_of (gone c p (one ∷ [])) after ∙ ap (λ xs. xs ++ map removal_of after) (gone_one c p one ∙ ap (λ b. cond b (plain_removal target ∷ []) []) (or_false (is_left c p))))
        ∙ sym (append_assoc (map removal_of before) (cond (is_left c p) (plain_removal target ∷ []) []) (map removal_of after))))
