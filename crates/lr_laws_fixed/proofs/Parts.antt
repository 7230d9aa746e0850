-- The looks at the part files among names show one thing alone.
use Rattle.std.proofs.Common.{◌≡◌, ℕ, List, [], ◌∷◌, ◌++◌, map, refl, sym, ap, ◌∙◌}
use Rattle.std.specs.Prelude.{Contains, flat_map}
use Rattle.std.specs.List.Sorted.{IsPermutation}
use Rattle.std.proofs.lemmas.Cmp.{nat_list_cmp_total}
use Rattle.std.proofs.lemmas.List.Sorted.{Contains-permutation, IsPermutation-sym}
use Rattle.std.proofs.lemmas.Map.Lookups.{exact_bytes}
use Rattle.lr_rules.specs.declared.path.Path.{Path}
use Rattle.lr_rules.specs.declared.rule.Naming.{Naming}
use Rattle.lr_rules.proofs.Heads.{heads, tails}
use Rattle.lr_host.specs.declared.entry.Entry.{Entry}
use Rattle.lr_host.specs.Looks.{PathSight, look_of}
use Rattle.lr_host.proofs.Fronts.{front_same, saw_same}
use Rattle.lr_family.specs.declared.stand.StandStop.TheVariants as stop
use Rattle.lr_family.specs.Among.{StopsBehind}
use Rattle.lr_family.specs.Parts.{IsPartAmong, AreParts, part_in, PartsAmong}
use Rattle.lr_family.proofs.Ordered.{same_rising}
use Rattle.lr_family.proofs.PartLooks.{never_no_file}
use Rattle.lr_laws_looks.proofs.OneWord.{sight_same}

-- ---- part files among names

-- a part file among names is one among the same names in another order
among_more : (n : Naming) (names more : List (List ℕ)) → IsPermutation names more → (x : Path) → IsPartAmong n names x → IsPartAmong n more x
among_more n names more perm x p = record { part = p.part; name = p.name; listed = Contains-permutation names more p.name perm p.listed; named = p.named }

parts_more : (n : Naming) (names more : List (List ℕ)) (xs ys : List Path) → IsPermutation names more → AreParts n names xs → AreParts n more ys → (x : Path) → Contains xs x → Contains ys x
parts_more n names more xs ys perm a b x c = (b.all x).1 (among_more n names more perm x ((a.all x).0 c))

-- those among names are fixed by which names there are
parts_fixed : (n : Naming) (names more : List (List ℕ)) (xs ys : List Path) → IsPermutation names more → AreParts n names xs → AreParts n more ys → xs ≡ ys
parts_fixed n names more xs ys perm a b = same_rising nat_list_cmp_total exact_bytes xs ys a.rising b.rising (parts_more n names more xs ys perm a b) (parts_more n more names ys xs (IsPermutation-sym names more perm) b a)

-- ---- looks at the same paths

abbrev paths_of : List PathSight → List Path
paths_of sights = map (λ (s : PathSight). s.path) sights

head_path : (x y : Path) (xs ys : List Path) → x ∷ xs ≡ y ∷ ys → x ≡ y
head_path x y xs ys e = cc

tail_paths : (x y : Path) (xs ys : List Path) → x ∷ xs ≡ y ∷ ys → xs ≡ ys
tail_paths x y xs ys e = cc

-- at the front of the same entries they are the same
same_sights : (as' bs : List PathSight) (vs ws : List Entry) → map (λ (s : PathSight). s.path) as' ≡ map (λ (s : PathSight). s.path) bs → map look_of as' ++ vs ≡ map look_of bs ++ ws → (as' ≡ bs) × (vs ≡ ws)
same_sights [] [] vs ws p e = (refl, e)
same_sights [] (b ∷ bs) vs ws p e = absurd (cc p)
same_sights (a ∷ as') [] vs ws p e = absurd (cc p)
same_sights (a ∷ as') (b ∷ bs) vs ws p e =
    let one = sight_same a b (head_path a.path b.path (paths_of as') (paths_of bs) p) (saw_same a.path b.path a.seen b.seen (heads (look_of a) (look_of b) (map look_of as' ++ vs) (map look_of bs ++ ws) e)) in
    let r = same_sights as' bs vs ws (tail_paths a.path b.path (paths_of as') (paths_of bs) p) (tails (look_of a) (look_of b) (map look_of as' ++ vs) (map look_of bs ++ ws) e) in
    (ap (λ s. s ∷ as') one ∙ ap (λ ss. b ∷ ss) r.0, r.1)

-- the same part files stand
pub parts_same : (n : Naming) (names more : List (List ℕ)) → IsPermutation names more → (parts others : List Path) (ts us vs ws : List Entry) → PartsAmong n names parts ts → PartsAmong n more others us → ts ++ vs ≡ us ++ ws → (parts ≡ others) × (ts ≡ us) × (vs ≡ ws)
parts_same n names more perm parts others ts us vs ws h g e = (
  h.parts_are ∙ (ap (flat_map part_in) r.0 ∙ sym g.parts_are),
  h.looks ∙ (ap (map look_of) r.0 ∙ sym g.looks),
  r.1,
)
  where
    r : (h.sights ≡ g.sights) × (vs ≡ ws)
    r = same_sights h.sights g.sights vs ws (parts_fixed n names more _ _ perm h.all g.all) (front_same ts us (map look_of h.sights) (map look_of g.sights) vs ws h.looks g.looks e)

-- ---- they never stop at what is no file

pub behind_never : (n : Naming) (names : List (List ℕ)) (path : Path) (ts : List Entry) → StopsBehind n names (stop.NotFile path) ts → ⊥
behind_never n names path ts s = never_no_file n names path s.1.back s.1.second
