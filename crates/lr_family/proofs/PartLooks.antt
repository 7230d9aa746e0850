-- What looks at part files, one after another, leave.
use Rattle.std.proofs.Common.{◌≡◌, inl, inr, ℕ, ◌≤◌, List, [], ◌∷◌, ◌++◌, length, map, Option, Some, None, refl, sym, ap, ◌∙◌, subst, append_assoc, arith}
use Rattle.std.specs.Prelude.{flat_map, Contains}
use Rattle.std.specs.List.Sorted.{IsStrictlySortedBy}
use Rattle.std.proofs.lemmas.Grind.{flat_map-append}
use Rattle.std.proofs.lemmas.List.{append-nil, length-append, length-map, map-append}
use Rattle.std.proofs.lemmas.List.Elements.{All-nil, All-weaker, All-contains_itself}
use Rattle.lr_rules.specs.declared.path.Path.{Path}
use Rattle.lr_rules.specs.declared.rule.Naming.{Naming}
use Rattle.lr_rules.specs.declared.fault.CallKind.TheVariants as call
use Rattle.lr_host.specs.declared.thing.Kind.{Kind}
use Rattle.lr_host.specs.declared.thing.Kind.TheVariants as kind
use Rattle.lr_host.specs.declared.thing.Seen.{Seen}
use Rattle.lr_host.specs.declared.entry.Entry.{Entry}
use Rattle.lr_host.specs.declared.entry.Entry.TheVariants as entry
use Rattle.lr_host.specs.declared.journal.Journal.{Journal}
use Rattle.lr_host.specs.Lists.{IsIn}
use Rattle.lr_host.specs.Told.{Left}
use Rattle.lr_host.proofs.Left.{left_first, left_as, left_then}
use Rattle.lr_host.specs.Looks.{PathSight, look_of}
use Rattle.lr_family.specs.declared.stand.StandStop.{StandStop}
use Rattle.lr_family.specs.declared.stand.StandStop.TheVariants as stop
use Rattle.lr_family.specs.InternalParts.{SeesParts, SeesSomeParts}
use Rattle.lr_family.specs.Parts.{AreParts, IsPartAmong, SomeParts, part_if_file, part_seen, part_in, PartsAmong, StopsBefore, ShowsNoParts, by_bytes}

-- before the first look
pub sees_none : (parts : List Path) (o : Option Journal) → parts ≡ [] → Left (SeesParts [] parts) o o
sees_none parts o e = left_first (SeesParts [] parts) o (record { sights = []; each = refl; parts_are = e; looks = refl })

one_more : (paths parts new : List Path) (path : Path) (seen : Option Seen) (ts us : List Entry) → SeesParts paths parts ts → us ≡ entry.Look path seen ∷ [] → new ≡ parts ++ part_seen path seen → SeesParts (paths ++ path ∷ []) new (ts ++ us)
one_more paths parts new path seen ts us s u grown =
    let sight : PathSight = record { path = path; seen = seen } in
    record {
      sights = s.sights ++ sight ∷ [];
      each = map-append (λ (g : PathSight). g.path) s.sights (sight ∷ []) ∙ ap (λ ps. ps ++ path ∷ []) s.each;
      parts_are = grown ∙ (ap (λ ps. ps ++ part_seen path seen) s.parts_are ∙ (ap (λ ps. flat_map part_in s.sights ++ ps) (sym (append-nil (part_seen path seen))) ∙ sym (flat_map-append part_in s.sights (sight ∷ []))));
      looks = ap (λ vs. vs ++ us) s.looks ∙ (ap (λ vs. map look_of s.sights ++ vs) u ∙ sym (map-append look_of s.sights (sight ∷ [])));
    }

-- one look more
pub sees_more : (paths parts new : List Path) (path : Path) (seen : Option Seen) {o m n : Option Journal} → Left (SeesParts paths parts) o m → Left (λ ts. ts ≡ entry.Look path seen ∷ []) m n → new ≡ parts ++ part_seen path seen → Left (SeesParts (paths ++ path ∷ []) new) o n
sees_more paths parts new path seen a b grown = left_then a b (λ ts us s u. one_more paths parts new path seen ts us s u grown)

-- one that fails
pub sees_stop : (paths done rest parts : List Path) (path : Path) {o m n : Option Journal} → paths ≡ done ++ path ∷ rest → Left (SeesParts done parts) o m → Left (λ ts. ts ≡ []) m n → Left (SeesSomeParts paths (stop.Call call.Look path)) o n
sees_stop paths done rest parts path seam a b = left_then a b (λ ts us s e. record {
  sights = s.sights;
  after = path ∷ rest;
  each = seam ∙ ap (λ ps. ps ++ path ∷ rest) (sym s.each);
  looks = ap (λ vs. ts ++ vs) e ∙ (append-nil ts ∙ s.looks);
  stopped = inl refl;
})

no_memory : (rest : List Path) → StopsBefore rest stop.Memory
no_memory [] = refl
no_memory (path ∷ rest) = inr refl

-- want of memory
pub sees_some : (paths done rest parts : List Path) (path : Path) (seen : Option Seen) {o m n : Option Journal} → paths ≡ done ++ path ∷ rest → Left (SeesParts done parts) o m → Left (λ ts. ts ≡ entry.Look path seen ∷ []) m n → Left (SeesSomeParts paths stop.Memory) o n
sees_some paths done rest parts path seen seam a b = left_as (sees_more done parts (parts ++ part_seen path seen) path seen a b refl) (λ ts s. record {
  sights = s.sights;
  after = rest;
  each = seam ∙ (sym (append_assoc done (path ∷ []) rest) ∙ ap (λ ps. ps ++ rest) (sym s.each));
  looks = s.looks;
  stopped = no_memory rest;
})

-- ---- of the part files among names

pub among_told : (n : Naming) (names : List (List ℕ)) (paths found parts : List Path) {o m : Option Journal} → AreParts n names paths → parts ≡ found → Left (SeesParts paths found) o m → Left (PartsAmong n names parts) o m
among_told n names paths found parts are e l = left_as l (λ ts s. record { sights = s.sights; all = subst (AreParts n names) (sym s.each) are; parts_are = e ∙ s.parts_are; looks = s.looks })

pub among_stopped : (n : Naming) (names : List (List ℕ)) (paths : List Path) (why : StandStop) {o m : Option Journal} → AreParts n names paths → Left (SeesSomeParts paths why) o m → Left (ShowsNoParts n names why) o m
among_stopped n names paths why are l = left_as l (λ ts s. inr (record { sights = s.sights; after = s.after; all = subst (AreParts n names) s.each are; looks = s.looks; stopped = s.stopped }))

-- ---- how many they are

pub none_rise : IsStrictlySortedBy by_bytes []
unfolding IsStrictlySortedBy
none_rise = tt

abbrev pub none_of_them : (n : Naming) (names : List (List ℕ)) → SomeParts n names
none_of_them n names = record { paths = []; once = none_rise; listed = All-nil (IsPartAmong n names) }

abbrev all_of_them : (n : Naming) (names : List (List ℕ)) (paths : List Path) → AreParts n names paths → SomeParts n names
all_of_them n names paths are = record { paths = paths; once = are.rising; listed = All-weaker (Contains paths) (IsPartAmong n names) (λ x c. (are.all x).0 c) paths (All-contains_itself paths) }

-- so many looks at most
abbrev pub FewLooks : Naming → List (List ℕ) → List Entry → Type 0
FewLooks n names ts = (some : SomeParts n names) × (length ts ≤ length some.paths)

looked_at : (sights : List PathSight) (ts : List Entry) → ts ≡ map look_of sights → length ts ≡ length (map (λ (g : PathSight). g.path) sights)
looked_at sights ts e = ap length e ∙ (length-map sights look_of ∙ sym (length-map sights (λ (g : PathSight). g.path)))

pub few_looks : (n : Naming) (names : List (List ℕ)) (parts : List Path) (ts : List Entry) → PartsAmong n names parts ts → FewLooks n names ts
few_looks n names parts ts s = (all_of_them n names (map (λ (g : PathSight). g.path) s.sights) s.all, (let same = looked_at s.sights ts s.looks in omega (arith, same)))

pub few_stopped : (n : Naming) (names : List (List ℕ)) (why : StandStop) (ts : List Entry) → ShowsNoParts n names why ts → FewLooks n names ts
few_stopped n names why ts (inl e) = (none_of_them n names, (let none : length ts ≡ 0 = ap length e.1 in omega (arith, none)))
few_stopped n names why ts (inr s) = (
  all_of_them n names (map (λ (g : PathSight). g.path) s.sights ++ s.after) s.all,
  (let same = looked_at s.sights ts s.looks in let size = length-append (map (λ (g : PathSight). g.path) s.sights) s.after in omega (arith, same, size)),
)

-- ---- what stopped them is never a path that is no file

pub never_no_file : (n : Naming) (names : List (List ℕ)) (path : Path) (ts : List Entry) → ShowsNoParts n names (stop.NotFile path) ts → ⊥
never_no_file n names path ts (inl e) = no_memory_here e.0
  where
    no_memory_here : stop.NotFile path ≡ stop.Memory → ⊥
    no_memory_here e = cc
never_no_file n names path ts (inr s) = go s.after s.stopped
  where
    go : (after : List Path) → StopsBefore after (stop.NotFile path) → ⊥
    go [] e = cc
    go (x ∷ after) (inl e) = cc
    go (x ∷ after) (inr e) = cc

-- ---- a part file was seen as a regular file

pub one_seen : (path x : Path) (seen : Option Seen) → IsIn x (part_seen path seen) → (path ≡ x) × ((s : Seen) × (s.kind ≡ kind.File) × (seen ≡ Some s))
one_seen path x None h = absurd h
one_seen path x (Some s) h = go s.kind refl h
  where
    go : (k : Kind) → s.kind ≡ k → IsIn x (part_if_file path k) → (path ≡ x) × ((t : Seen) × (t.kind ≡ kind.File) × (Some s ≡ Some t))
    go kind.File e (inl same) = (same, (s, e, refl))
    go kind.File e (inr none) = absurd none
    go kind.Dir e none = absurd none
    go kind.Other e none = absurd none
