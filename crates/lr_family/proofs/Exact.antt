-- A stand is refused as no file exactly where its looks show the cause.
use Rattle.std.proofs.Common.{◌≡◌, inl, inr, ℕ, Bool, true, false, List, [], ◌∷◌, ◌++◌, length, map, Option, Some, None, Result, Ok, Err, refl, sym, ap, ◌∙◌, subst, arith}
use Rattle.std.specs.Prelude.{◌↔◌, IfOk, IfErr}
use Rattle.std.proofs.lemmas.List.{append-nil, length-append}
use Rattle.lr_rules.specs.declared.path.Path.{Path}
use Rattle.lr_rules.specs.declared.rule.Naming.{Naming}
use Rattle.lr_rules.specs.declared.fault.CallKind.{CallKind}
use Rattle.lr_rules.specs.declared.fault.CallKind.TheVariants as call
use Rattle.lr_host.specs.declared.thing.Seen.{Seen}
use Rattle.lr_host.specs.declared.entry.Entry.{Entry}
use Rattle.lr_host.specs.declared.journal.Journal.{Journal}
use Rattle.lr_host.specs.Looks.{Sees, IsNothing, IsDir, IsNoFile}
use Rattle.lr_host.specs.Told.{Left, Then}
use Rattle.lr_host.proofs.Left.{left_as}
use Rattle.lr_family.specs.declared.spot.Spot.{Spot}
use Rattle.lr_family.specs.declared.stand.Member.{Member}
use Rattle.lr_family.specs.declared.stand.Stand.{Stand}
use Rattle.lr_family.specs.declared.stand.StandStop.{StandStop}
use Rattle.lr_family.specs.declared.stand.StandStop.TheVariants as stop
use Rattle.lr_family.specs.Among.{StandsAmong, StopsAmong, ShowsIn, ShowsNoneIn, IsExactlyAmong}
use Rattle.lr_family.specs.Listed.{ShowsListing, ShowsNoDir, NotListedAt, NotListed, IsExactlyNoDir}
use Rattle.lr_family.specs.Looks.{MemberSight, spot_look, AreFilesOrGone, ShowsTo}
use Rattle.lr_family.specs.Parts.{ShowsNoParts}
use Rattle.lr_family.specs.Stops.{SomeStopped}
use Rattle.lr_family.proofs.Few.{all_shown, some_stopped}
use Rattle.lr_family.proofs.PartLooks.{never_no_file}
use Rattle.lr_family.proofs.Rising.{as_many_spots}
use Rattle.lr_family.proofs.Wrong.{by_look, wrong, past_list, wrong_member, no_dir_wrong, no_file_wrong, sights_passed, saw_dir}

-- ---- what the looks show

all_passed : (sights : List MemberSight) (ts : List Entry) → AreFilesOrGone sights → ts ≡ map spot_look sights → wrong_member ts ≡ None
all_passed sights ts h e = ap wrong_member (e ∙ sym (append-nil (map spot_look sights))) ∙ sights_passed sights [] h

saw_nothing : (x : Path) (ts us : List Entry) → Sees x IsNothing ts → wrong (ts ++ us) ≡ None
saw_nothing x ts us s = ap (λ vs. wrong (vs ++ us)) s.look ∙ ap (λ g. by_look x g us) s.is

behind : (x : Path) {P : List Entry → Type 0} (ts : List Entry) (r : Option Path) → Then (Sees x IsDir) P ts → ((us : List Entry) → P us → past_list us ≡ r) → wrong ts ≡ r
behind x ts r t f = ap wrong t.joined ∙ (saw_dir x t.front t.back t.first ∙ f t.back t.second)

-- the path that a stop tells to be no file
abbrev pub named : StandStop → Option Path
named (stop.NotFile path) = Some path
named (stop.Call kind path) = None
named stop.Memory = None

alone : (x : Path) {P : Option Seen → Type 0} (ts : List Entry) → Sees x P ts → ts ≡ ts ++ []
alone x ts s = sym (append-nil ts)

pub is_named : (s : StandStop) (path : Path) → named s ≡ Some path → s ≡ stop.NotFile path
is_named (stop.NotFile other) path e = let same : other ≡ path = cc in ap stop.NotFile same
is_named (stop.Call kind other) path e = absurd (cc)
is_named stop.Memory path e = absurd (cc)

pub stop_of_err : {T : Type 0} (s t : StandStop) (r : Result T StandStop) → r ≡ Err s → r ≡ Err t → s ≡ t
stop_of_err s t r p q = cc

pub never_err : {T : Type 0} (x : T) (s : StandStop) → Ok x ≡ Err s → ⊥
never_err x s e = cc

-- ---- of the members among the names of a listing

past_sights : (spots : List Spot) (path : Path) {P : List Entry → Type 0} (ts : List Entry) (r : Option Path) → ShowsTo spots path P ts → ((us : List Entry) → P us → wrong_member us ≡ r) → wrong_member ts ≡ r
past_sights spots path ts r to f = ap wrong_member (to.looks.joined ∙ ap (λ vs. vs ++ to.looks.back) to.looks.first) ∙ (sights_passed to.before to.looks.back to.files ∙ f to.looks.back to.looks.second)

no_file : (path : Path) (ts : List Entry) → Sees path IsNoFile ts → wrong_member ts ≡ Some path
no_file path ts s = ap wrong_member s.look ∙ no_file_wrong path s.seen None s.is

some_names : (spots : List Spot) (s : StandStop) (ts : List Entry) → SomeStopped spots s ts → wrong_member ts ≡ named s
some_names spots (stop.NotFile path) ts t = past_sights spots path ts (Some path) t (no_file path)
some_names spots (stop.Call kind path) ts t = past_sights spots path ts None t.1 (λ us e. ap wrong_member e)
some_names spots stop.Memory ts t = all_passed t.sights ts t.files t.looks

-- no member is wrong where these entries show none
none_shown : (n : Naming) (names : List (List ℕ)) (path : Path) (ts : List Entry) → wrong_member ts ≡ None → StopsAmong n names (stop.NotFile path) ts → ⊥
none_shown n names path ts e t = let some : wrong_member ts ≡ Some path = some_names t.spots (stop.NotFile path) ts t.looks in cc

pub none_left : {A : Type 0} (xs : List A) → length xs ≡ 0 → xs ≡ []
none_left [] e = refl
none_left (x ∷ xs) e = absurd (omega (arith, e))

-- behind looks that showed each member to be a file or gone no look at a part file shows one to be none: there are as many members as looks at them
past_members : (n : Naming) (names : List (List ℕ)) (members : List Member) (path : Path) (ts us : List Entry) → StandsAmong n names members ts → StopsAmong n names (stop.NotFile path) (ts ++ us) → ⊥
past_members n names members path ts us t q = none_shown n names path (ts ++ us) (ap wrong_member whole ∙ all_passed t.looks.sights ts t.looks.files t.looks.looks) q
  where
    few : length us ≡ 0
    few =
        let all = all_shown t.spots t.shown ts t.looks in
        let some = some_stopped q.spots (stop.NotFile path) (ts ++ us) q.looks in
        let size = length-append ts us in
        let many = as_many_spots n names t.spots q.spots t.spots_are q.spots_are in
        omega (arith, all, some, size, many)

    whole : ts ++ us ≡ ts
    whole = ap (λ vs. ts ++ vs) (none_left us few) ∙ append-nil ts

pub never_stops : (n : Naming) (there parent : Bool) (names : List (List ℕ)) (stand : Stand) (path : Path) (ts : List Entry) → ShowsIn n there parent names stand ts → StopsAmong n names (stop.NotFile path) ts → ⊥
never_stops n true parent names stand path ts h q = past_members n names stand.members path h.2.front h.2.back h.2.first (subst (StopsAmong n names (stop.NotFile path)) h.2.joined q)
never_stops n false parent names stand path ts h q = none_shown n names path ts (ap wrong_member (h.2.joined ∙ (ap (λ vs. vs ++ h.2.back) h.2.first.1 ∙ h.2.second.1))) q

is_memory : (s : StandStop) (path : Path) → s ≡ stop.Memory → s ≡ stop.NotFile path → ⊥
is_memory s path p q = cc

pub why_exactly : (n : Naming) (names : List (List ℕ)) (s : StandStop) (path : Path) (ts : List Entry) → ShowsNoneIn n true names s ts → (s ≡ stop.NotFile path) ↔ StopsAmong n names (stop.NotFile path) ts
why_exactly n names s path ts (inl t) = (λ e. absurd (is_memory s path t.0 e), λ shows. absurd (none_shown n names path ts (ap wrong_member t.1) shows))
why_exactly n names s path ts (inr (inl t)) = (
  λ e. subst (λ q. StopsAmong n names q ts) e t,
  λ shows. is_named s path (sym (some_names t.spots s ts t.looks) ∙ some_names shows.spots (stop.NotFile path) ts shows.looks),
)
why_exactly n names s path ts (inr (inr t)) = (
  λ e. absurd (never_no_file n names path t.1.back (subst (λ q. ShowsNoParts n names q t.1.back) e t.1.second)),
  λ shows. absurd (past_members n names t.0 path t.1.front t.1.back t.1.first (subst (StopsAmong n names (stop.NotFile path)) t.1.joined shows)),
)

-- so it is of an answer
pub err_exactly : {S T : Type 0} (r : Result T StandStop) (s : StandStop) (path : Path) → r ≡ Err s → (s ≡ stop.NotFile path) ↔ S → (r ≡ Err (stop.NotFile path)) ↔ S
err_exactly r s path is h = (λ e. h.0 (stop_of_err s (stop.NotFile path) r is e), λ x. is ∙ ap Err (h.1 x))

pub ok_exactly : {S T : Type 0} (x : T) (path : Path) → (S → ⊥) → (Ok x ≡ Err (stop.NotFile path)) ↔ S
ok_exactly x path h = (λ e. absurd (never_err x (stop.NotFile path) e), λ s. absurd (h s))

among_exactly : (n : Naming) (there : Bool) (names : List (List ℕ)) (s : StandStop) (ts : List Entry) → ShowsNoneIn n there names s ts → IsExactlyAmong n names (Err s) ts
among_exactly n true names s ts t path = err_exactly (Err s) s path refl (why_exactly n names s path ts t)
among_exactly n false names s ts t path = absurd t

pub exactly_among : (n : Naming) (there parent : Bool) (names : List (List ℕ)) (r : Result Stand StandStop) {o m : Option Journal} → IfOk r (λ stand. Left (ShowsIn n there parent names stand) o m) → IfErr r (λ s. Left (ShowsNoneIn n there names s) o m) → Left (IsExactlyAmong n names r) o m
exactly_among n there parent names (Ok stand) a b = left_as a (λ ts t path. ok_exactly stand path (never_stops n there parent names stand path ts t))
exactly_among n there parent names (Err s) a b = left_as b (among_exactly n there names s)

-- ---- and of a listing

pub listing_well : (dir : Path) (there parent : Bool) (names : List (List ℕ)) (ts : List Entry) → ShowsListing dir there parent names ts → wrong ts ≡ None
listing_well dir true parent names ts t = behind dir ts None t.1 (λ us l. ap past_list l.list)
listing_well dir false parent names ts t = ap wrong t.1.joined ∙ saw_nothing dir t.1.front t.1.back t.1.first

pub no_dir : (dir path : Path) (ts : List Entry) → ShowsNoDir dir path ts → wrong ts ≡ Some path
no_dir dir path ts t = ap wrong t.1.look ∙ (no_dir_wrong dir t.1.seen [] t.1.is ∙ ap Some (sym t.0))

listing_call : (dir : Path) (k : CallKind) (path : Path) (ts : List Entry) → NotListedAt dir k path ts → wrong ts ≡ None
listing_call dir call.Look path ts (inl t) = ap wrong t.1
listing_call dir call.Look path ts (inr t) = ap wrong (alone dir ts t.1) ∙ saw_nothing dir ts [] t.1
listing_call dir call.List path ts t = ap wrong (alone dir ts t.1) ∙ saw_dir dir ts [] t.1
listing_call dir _ path ts t = absurd t

pub listing_names : (dir : Path) (s : StandStop) (ts : List Entry) → NotListed dir s ts → wrong ts ≡ named s
listing_names dir (stop.NotFile path) ts t = no_dir dir path ts t
listing_names dir (stop.Call kind path) ts t = listing_call dir kind path ts t
listing_names dir stop.Memory ts (inl e) = ap wrong e
listing_names dir stop.Memory ts (inr (inl s)) = ap wrong (alone dir ts s) ∙ saw_nothing dir ts [] s
listing_names dir stop.Memory ts (inr (inr s)) = ap wrong (alone dir ts s) ∙ saw_dir dir ts [] s

pub exactly_no_dir : {T : Type 0} (dir : Path) (there parent : T → Bool) (names : T → List (List ℕ)) (r : Result T StandStop) {o m : Option Journal} → IfOk r (λ l. Left (ShowsListing dir (there l) (parent l) (names l)) o m) → IfErr r (λ s. Left (NotListed dir s) o m) → Left (IsExactlyNoDir dir r) o m
exactly_no_dir dir there parent names (Ok l) a b = left_as a (λ ts t path. ((λ e. absurd (cc)), (λ shows. absurd (let none : None ≡ Some path = sym (listing_well dir (there l) (parent l) (names l) ts t) ∙ no_dir dir path ts shows in cc))))
exactly_no_dir dir there parent names (Err s) a b = left_as b (λ ts t path. (
  λ e. subst (λ q. NotListed dir q ts) (stop_of_err s (stop.NotFile path) (Err s) refl e) t,
  λ shows. ap Err (is_named s path (sym (listing_names dir s ts t) ∙ no_dir dir path ts shows)),
))
