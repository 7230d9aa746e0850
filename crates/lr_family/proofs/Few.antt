-- How many entries the looks at a family leave.
use Rattle.std.proofs.Common.{◌≡◌, inl, inr, ℕ, ◌+◌, ◌≤◌, ◌<◌, Bool, true, false, List, [], ◌∷◌, ◌++◌, length, map, Option, Result, Ok, Err, refl, sym, ap, ◌∙◌, subst, arith}
use Rattle.std.specs.Prelude.{IfOk, IfErr, All, Contains}
use Rattle.std.specs.List.Sorted.{IsStrictlySortedBy}
use Rattle.std.proofs.lemmas.Grind.{flat_map-append}
use Rattle.std.proofs.lemmas.List.{append-nil, length-append, length-map}
use Rattle.std.proofs.lemmas.List.Elements.{All-nil, All-map, All-weaker, All-contains_itself, Contains-append_left}
use Rattle.std.proofs.lemmas.List.Sorted.{Contains-permutation, IsPermutation-sym}
use Rattle.lr_rules.specs.declared.path.Path.{Path}
use Rattle.lr_rules.specs.declared.rule.Naming.{Naming}
use Rattle.lr_rules.specs.declared.fault.CallKind.{CallKind}
use Rattle.lr_rules.specs.declared.fault.CallKind.TheVariants as call
use Rattle.lr_host.specs.declared.thing.Seen.{Seen}
use Rattle.lr_host.specs.declared.entry.Entry.{Entry}
use Rattle.lr_host.specs.declared.journal.Journal.{Journal}
use Rattle.lr_host.specs.Told.{Left, Then}
use Rattle.lr_host.specs.Looks.{Sees}
use Rattle.lr_host.proofs.Left.{left_as, left_then}
use Rattle.lr_family.specs.declared.spot.Spot.{Spot}
use Rattle.lr_family.specs.declared.stand.Member.{Member}
use Rattle.lr_family.specs.declared.stand.Stand.{Stand}
use Rattle.lr_family.specs.declared.stand.StandStop.{StandStop}
use Rattle.lr_family.specs.declared.stand.StandStop.TheVariants as stop
use Rattle.lr_family.specs.Among.{StandsAmong, ShowsIn, ShowsNoneIn, AreFewAmong, names_told, AreFew}
use Rattle.lr_family.specs.Listed.{ShowsListing, NotListedAt, NotListed, AreAtMost}
use Rattle.lr_family.specs.Looks.{MemberSight, spot_look, ShowsSpots, ShowsTo, ShowsSome}
use Rattle.lr_family.specs.Parts.{IsPartAmong, SomeParts, by_bytes}
use Rattle.lr_family.specs.Spots.{IsListed, AreSpots}
use Rattle.lr_family.specs.Stops.{SomeStopped}
use Rattle.lr_family.proofs.Ordered.{AreAmong, part_more}
use Rattle.lr_family.proofs.PartLooks.{FewLooks, none_rise, none_of_them, few_looks, few_stopped}
use Rattle.lr_family.proofs.Rising.{paths_rise}

one : (x : Path) (P : Option Seen → Type 0) (ts : List Entry) → Sees x P ts → length ts ≡ 1
one x P ts s = ap length s.look

both : {P Q : List Entry → Type 0} (ts : List Entry) → (t : Then P Q ts) → length ts ≡ length t.front + length t.back
both ts t = ap length t.joined ∙ length-append t.front t.back

-- ---- of a listing

pub listing_pair : (dir : Path) (there parent : Bool) (names : List (List ℕ)) (ts : List Entry) → ShowsListing dir there parent names ts → length ts ≡ 2
listing_pair dir true parent names ts t =
    let all = both ts t.1 in let front = one dir _ t.1.front t.1.first in let back : length t.1.back ≡ 1 = ap length t.1.second.list in omega arith
listing_pair dir false parent names ts t =
    let all = both ts t.1 in let front = one dir _ t.1.front t.1.first in let back = one _ _ t.1.back t.1.second in omega arith

call_one : (dir : Path) (k : CallKind) (path : Path) (ts : List Entry) → NotListedAt dir k path ts → length ts ≤ 1
call_one dir call.Look path ts (inl t) = let none : length ts ≡ 0 = ap length t.1 in omega arith
call_one dir call.Look path ts (inr t) = let is = one dir _ ts t.1 in omega arith
call_one dir call.List path ts t = let is = one dir _ ts t.1 in omega arith
call_one dir _ path ts t = absurd t

pub not_listed_one : (dir : Path) (s : StandStop) (ts : List Entry) → NotListed dir s ts → length ts ≤ 1
not_listed_one dir (stop.NotFile path) ts t = let is = one dir _ ts t.1 in omega arith
not_listed_one dir (stop.Call kind path) ts t = call_one dir kind path ts t
not_listed_one dir stop.Memory ts (inl e) = let none : length ts ≡ 0 = ap length e in omega arith
not_listed_one dir stop.Memory ts (inr (inl s)) = let is = one dir _ ts s in omega arith
not_listed_one dir stop.Memory ts (inr (inr s)) = let is = one dir _ ts s in omega arith

pub at_most_three : {T : Type 0} (dir : Path) (there parent : T → Bool) (names : T → List (List ℕ)) (r : Result T StandStop) {o m : Option Journal} → IfOk r (λ l. Left (ShowsListing dir (there l) (parent l) (names l)) o m) → IfErr r (λ s. Left (NotListed dir s) o m) → Left (AreAtMost 3) o m
at_most_three dir there parent names (Ok l) a b = left_as a (λ ts t. let two = listing_pair dir (there l) (parent l) (names l) ts t in omega arith)
at_most_three dir there parent names (Err s) a b = left_as b (λ ts t. let few = not_listed_one dir s ts t in omega arith)

-- ---- of the members among names

-- so many members
record FewMembers (n : Naming) (names : List (List ℕ)) (ts : List Entry) : Type 0 where
  paths : List Path
  once : IsStrictlySortedBy by_bytes paths
  listed : All (IsListed n names) paths
  few : length ts ≤ length paths

few_of : (n : Naming) (names : List (List ℕ)) (spots : List Spot) (ts : List Entry) → AreSpots n names spots → length ts ≤ length spots → FewMembers n names ts
few_of n names spots ts are le = record {
  paths = map (λ (s : Spot). s.path) spots;
  once = paths_rise spots are.rising;
  listed = All-map (IsListed n names) (λ (s : Spot). s.path) spots (All-weaker (Contains spots) (λ s. IsListed n names s.path) (λ s c. (are.has.all s.path).0 (s, c, refl)) spots (All-contains_itself spots));
  few = let same = length-map spots (λ (s : Spot). s.path) in omega (arith, same, le);
}

few_none : (n : Naming) (names : List (List ℕ)) (ts : List Entry) → ts ≡ [] → FewMembers n names ts
few_none n names ts e = record { paths = []; once = none_rise; listed = All-nil (IsListed n names); few = let none : length ts ≡ 0 = ap length e in omega arith }

-- looks at members, and then at part files
few_both : (n : Naming) (names : List (List ℕ)) (ts us : List Entry) → FewMembers n names ts → FewLooks n names us → AreFewAmong n names (ts ++ us)
few_both n names ts us f g = record {
  paths = f.paths;
  once = f.once;
  listed = f.listed;
  parts = g.0;
  few = let size = length-append ts us in let few = f.few in let some = g.1 in omega (arith, size, few, some);
}

few_alone : (n : Naming) (names : List (List ℕ)) (ts : List Entry) → FewMembers n names ts → AreFewAmong n names ts
few_alone n names ts f = subst (AreFewAmong n names) (append-nil ts) (few_both n names ts [] f (none_of_them n names, (let le : 0 ≤ 0 = omega arith in le)))

sights_many : (sights : List MemberSight) → length (map spot_look sights) ≡ length (map (λ (g : MemberSight). g.spot) sights)
sights_many sights = length-map sights spot_look ∙ sym (length-map sights (λ (g : MemberSight). g.spot))

pub all_shown : (spots : List Spot) (members : List Member) (ts : List Entry) → ShowsSpots spots members ts → length ts ≡ length spots
all_shown spots members ts s = let are : length ts ≡ length (map spot_look s.sights) = ap length s.looks in let many = sights_many s.sights in let each : length (map (λ (g : MemberSight). g.spot) s.sights) ≡ length spots = ap length s.each in omega arith

some_few : (spots : List Spot) (ts : List Entry) → ShowsSome spots ts → length ts ≤ length spots
some_few spots ts s =
    let are : length ts ≡ length (map spot_look s.sights) = ap length s.looks in let many = sights_many s.sights in
    let each : length spots ≡ length (map (λ (g : MemberSight). g.spot) s.sights) + length s.after = ap length s.each ∙ length-append (map (λ (g : MemberSight). g.spot) s.sights) s.after in omega arith

to_few : (spots : List Spot) (path : Path) {P : List Entry → Type 0} (ts : List Entry) → ((us : List Entry) → P us → length us ≤ 1) → ShowsTo spots path P ts → length ts ≤ length spots
to_few spots path ts f s =
    let all = both ts s.looks in
    let front : length s.looks.front ≡ length (map spot_look s.before) = ap length s.looks.first in
    let many = sights_many s.before in
    let back = f s.looks.back s.looks.second in
    let rest : List Spot = s.spot ∷ s.after in
    let more : length rest ≡ length s.after + 1 = omega arith in
    let each : length spots ≡ length (map (λ (g : MemberSight). g.spot) s.before) + length rest = ap length s.each ∙ length-append (map (λ (g : MemberSight). g.spot) s.before) rest in omega arith

pub some_stopped : (spots : List Spot) (s : StandStop) (ts : List Entry) → SomeStopped spots s ts → length ts ≤ length spots
some_stopped spots (stop.NotFile path) ts t = to_few spots path ts (λ us s. let is = one path _ us s in omega arith) t
some_stopped spots (stop.Call kind path) ts t = to_few spots path ts (λ us e. let none : length us ≡ 0 = ap length e in omega arith) t.1
some_stopped spots stop.Memory ts t = some_few spots ts t

few_members : (n : Naming) (names : List (List ℕ)) (members : List Member) (ts : List Entry) → StandsAmong n names members ts → FewMembers n names ts
few_members n names members ts t = few_of n names t.spots ts t.spots_are (let all = all_shown t.spots t.shown ts t.looks in omega (arith, all))

stand_few : (n : Naming) (there parent : Bool) (names : List (List ℕ)) (stand : Stand) (ts : List Entry) → ShowsIn n there parent names stand ts → AreFewAmong n names ts
stand_few n true parent names stand ts h = subst (AreFewAmong n names) (sym h.2.joined) (few_both n names h.2.front h.2.back (few_members n names stand.members h.2.front h.2.first) (few_looks n names stand.parts h.2.back h.2.second))
stand_few n false parent names stand ts h = few_alone n names ts (few_none n names ts (h.2.joined ∙ (ap (λ vs. vs ++ h.2.back) h.2.first.1 ∙ h.2.second.1)))

none_few : (n : Naming) (there : Bool) (names : List (List ℕ)) (s : StandStop) (ts : List Entry) → ShowsNoneIn n there names s ts → AreFewAmong n names ts
none_few n true names s ts (inl t) = few_alone n names ts (few_none n names ts t.1)
none_few n true names s ts (inr (inl t)) = few_alone n names ts (few_of n names t.spots ts t.spots_are (some_stopped t.spots s ts t.looks))
none_few n true names s ts (inr (inr t)) = subst (AreFewAmong n names) (sym t.1.joined) (few_both n names t.1.front t.1.back (few_members n names t.0 t.1.front t.1.first) (few_stopped n names s t.1.back t.1.second))
none_few n false names s ts t = absurd t

pub few_among : (n : Naming) (there parent : Bool) (names : List (List ℕ)) (r : Result Stand StandStop) {o m : Option Journal} → IfOk r (λ stand. Left (ShowsIn n there parent names stand) o m) → IfErr r (λ s. Left (ShowsNoneIn n there names s) o m) → Left (AreFewAmong n names) o m
few_among n there parent names (Ok stand) a b = left_as a (stand_few n there parent names stand)
few_among n there parent names (Err s) a b = left_as b (none_few n there names s)

-- ---- of both

pub told : (dir : Path) (there parent : Bool) (names : List (List ℕ)) (ts us : List Entry) → ShowsListing dir there parent names ts → (name : List ℕ) → Contains names name → Contains (names_told (ts ++ us)) name
told dir true parent names ts us t name c =
    let l = t.1.second in
    let here : names_told ts ≡ l.listed ++ [] = ap names_told t.1.joined ∙ (ap (λ xs. names_told (xs ++ t.1.back)) t.1.first.look ∙ ap names_told l.list) in
    subst (λ (xs : List (List ℕ)). Contains xs name) (sym (flat_map-append _ ts us)) (Contains-append_left (names_told ts) (names_told us) name
    (subst (λ (xs : List (List ℕ)). Contains xs name) (sym here) (Contains-append_left l.listed [] name (Contains-permutation names l.listed name (IsPermutation-sym l.listed names l.same) c))))
told dir false parent names ts us t name c = absurd (let lt : c.0 < length names = c.1 in let none : length names ≡ 0 = ap length t.0 in omega arith)

-- the part files among some names are among more
abbrev pub parts_told : (n : Naming) (names more : List (List ℕ)) → AreAmong names more → SomeParts n names → SomeParts n more
parts_told n names more f some = record { paths = some.paths; once = some.once; listed = All-weaker (IsPartAmong n names) (IsPartAmong n more) (λ x p. part_more n names more x f p) some.paths some.listed }

pub few_then : (n : Naming) (dir : Path) (there parent : Bool) (names : List (List ℕ)) {o m k : Option Journal} → Left (ShowsListing dir there parent names) o m → Left (AreFewAmong n names) m k → Left (AreFew n) o k
few_then n dir there parent names a b = left_then a b (λ ts us t f. record {
  paths = f.paths;
  once = f.once;
  listed = All-weaker (IsListed n names) (IsListed n (names_told (ts ++ us))) (λ x l. record { member = l.member; name = l.name; listed = told dir there parent names ts us t l.name l.listed; named = l.named }) f.paths f.listed;
  parts = parts_told n names (names_told (ts ++ us)) (told dir there parent names ts us t) f.parts;
  few = let all = length-append ts us in let two = listing_pair dir there parent names ts t in let few = f.few in omega (arith, all, two, few);
})

pub few_unlisted : (n : Naming) (dir : Path) (s : StandStop) {o m : Option Journal} → Left (NotListed dir s) o m → Left (AreFew n) o m
few_unlisted n dir s a = left_as a (λ ts t. record {
  paths = [];
  once = none_rise;
  listed = All-nil (IsListed n (names_told ts));
  parts = none_of_them n (names_told ts);
  few = let few = not_listed_one dir s ts t in omega (arith, few);
})
