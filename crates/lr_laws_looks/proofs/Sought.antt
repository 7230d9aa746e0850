-- What the entries tell of each family whose directory was listed: each member and each part file among its names was looked at.
use Rattle.std.proofs.Common.{◌≡◌, ◌⊎◌, inl, inr, ⊎_elim, ℕ, Bool, true, false, bytes_eq, List, [], ◌∷◌, map, Option, Some, None, refl, sym, subst}
use Rattle.std.specs.List.Sorted.{IsPermutation}
use Rattle.std.proofs.lemmas.List.Sorted.{Contains-permutation}
use Rattle.std.proofs.lemmas.Slice.Eq.{bytes_eq-Decides}
use Rattle.lr_rules.specs.declared.path.Path.{Path}
use Rattle.lr_rules.specs.declared.rule.Naming.{Naming}
use Rattle.lr_host.specs.declared.thing.Kind.{Kind}
use Rattle.lr_host.specs.declared.thing.Seen.{Seen}
use Rattle.lr_host.specs.declared.entry.Entry.{Entry}
use Rattle.lr_host.specs.declared.entry.Entry.TheVariants as entry
use Rattle.lr_host.specs.Lists.{IsIn}
use Rattle.lr_host.specs.Looks.{IsFile, PathSight, look_of}
use Rattle.lr_host.proofs.Lists.{in_from, in_map, to_flat}
use Rattle.lr_family.specs.declared.listing.Listing.{Listing}
use Rattle.lr_family.specs.declared.stand.Stand.{Stand}
use Rattle.lr_family.specs.Parts.{IsMembersPart, part_if_file, part_seen, part_in, PartsAmong}
use Rattle.lr_family.specs.Places.{AreNamed}
use Rattle.lr_family.proofs.Shown.{members_named}
use Rattle.lr_laws_family.specs.Shown.{IsUnlisted}
use Rattle.lr_looks.specs.Families.{FamilySight, ShowFamilies, LookedLog, looked_of}
use Rattle.lr_looks.specs.Found.{FoundLog}
use Rattle.lr_laws_looks.proofs.SeenListed.{all_told}

-- ---- part files

-- one of the sights is of the path, or none
sight_or_none : (x : Path) (gs : List PathSight) → ((g : PathSight) × IsIn g gs × (g.path ≡ x)) ⊎ (IsIn x (map (λ (g : PathSight). g.path) gs) → ⊥)
sight_or_none x [] = inr (λ i. i)
sight_or_none x (g ∷ gs) = go (bytes_eq g.path x) refl (sight_or_none x gs)
  where
    go : (b : Bool) → bytes_eq g.path x ≡ b → ((f : PathSight) × IsIn f gs × (f.path ≡ x)) ⊎ (IsIn x (map (λ (g : PathSight). g.path) gs) → ⊥) → ((f : PathSight) × IsIn f (g ∷ gs) × (f.path ≡ x)) ⊎ (IsIn x (map (λ (g : PathSight). g.path) (g ∷ gs)) → ⊥)
    go true e r = inl (g, inl refl, (bytes_eq-Decides g.path x).0 e)
    go false e (inl s) = inl (s.0, inr s.1, s.2)
    go false e (inr none) = inr (λ i. ⊎_elim (λ (same : g.path ≡ x). absurd (let t = (bytes_eq-Decides g.path x).1 same in cc)) none i)

file_part : (path : Path) (o : Option Seen) → IsFile o → IsIn path (part_seen path o)
file_part path None f = absurd f
file_part path (Some seen) f = subst (λ (k : Kind). IsIn path (part_if_file path k)) (sym f) (inl refl)

-- a look at the path saw no file
abbrev pub SawNoFile : Path → List Entry → Type 0
SawNoFile x ts = (o : Option Seen) × (IsFile o → ⊥) × IsIn (entry.Look x o) ts

-- The directory was listed; a part file of a member that isn't among these has no name there, or a look at it saw no file.
pub record WereSought (n : Naming) (parts : List Path) (all : List Entry) : Type 0 where
  pub listed : List (List ℕ)
  pub list : IsIn (entry.List n.dir listed) all
  pub others : (x : Path) → IsMembersPart n x → (IsIn x parts → ⊥) → IsUnlisted n.dir listed x ⊎ SawNoFile x all

parts_sought : (all : List Entry) (n : Naming) (names listed : List (List ℕ)) (parts : List Path) (ts : List Entry) → ((e : Entry) → IsIn e ts → IsIn e all) → IsPermutation listed names → IsIn (entry.List n.dir listed) all → PartsAmong n names parts ts → WereSought n parts all
parts_sought all n names listed parts ts in_all same list p = record { listed = listed; list = list; others = others }
  where
    others : (x : Path) → IsMembersPart n x → (IsIn x parts → ⊥) → IsUnlisted n.dir listed x ⊎ SawNoFile x all
    others x part out = ⊎_elim
        (λ s. inr (
          s.0.seen,
          λ f. out (subst (IsIn x) (sym p.parts_are) (to_flat part_in p.sights s.0 x s.1 (subst (λ (y : Path). IsIn y (part_in s.0)) s.2 (file_part s.0.path s.0.seen f)))),
          in_all (entry.Look x s.0.seen) (subst (IsIn (entry.Look x s.0.seen)) (sym p.looks) (subst (λ (y : Path). IsIn (entry.Look y s.0.seen) (map look_of p.sights)) s.2 (in_map look_of s.0 p.sights s.1))),
        ))
        (λ none. inl (λ name c is. none (in_from x (map (λ (g : PathSight). g.path) p.sights) ((p.all.all x).1 (record { part = part; name = name; listed = Contains-permutation listed names name same c; named = is })))))
        (sight_or_none x p.sights)

-- ---- families

-- It was listed, the members have the paths of their places, and their part files are those that were seen.
pub record AreThose (n : Naming) (stand : Stand) (all : List Entry) : Type 0 where
  pub members : AreNamed n stand.members
  pub parts : WereSought n stand.parts all

-- so it is where its directory is there
abbrev pub WasSought : Naming → Stand → List Entry → Type 0
WasSought n stand all = stand.there ≡ true → AreThose n stand all

-- of each log that was looked at whole
pub all_sought : (all : List Entry) (fs : List FoundLog) (after : List Listing) (ss : List FamilySight) (ts : List Entry) → ((e : Entry) → IsIn e ts → IsIn e all) → ShowFamilies [] fs after ss ts
    → (x : LookedLog) → IsIn x (looked_of fs ss) → WasSought x.naming x.stand all
all_sought all fs after ss ts in_all h x i there =
    let l = (all_told all fs after ss ts in_all h x i).0 there in
    record { members = members_named x.naming l.names x.stand.members l.front all l.front_in l.members; parts = parts_sought all x.naming l.names l.listed x.stand.parts l.back l.back_in l.same l.list l.parts }
