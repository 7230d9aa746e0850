-- What a listing, and the looks at members behind it, leave taken together.
use Rattle.std.proofs.Common.{◌≡◌, inl, inr, ℕ, Bool, true, false, List, [], ◌∷◌, ◌++◌, Option, Some, Result, Ok, Err, refl, sym, ap, ◌∙◌, subst}
use Rattle.std.specs.Prelude.{IfOk, IfErr}
use Rattle.std.proofs.lemmas.List.{append-nil}
use Rattle.std.specs.List.Sorted.{IsPermutation}
use Rattle.lr_rules.specs.declared.path.Path.{Path}
use Rattle.lr_rules.specs.declared.rule.Naming.{Naming}
use Rattle.lr_rules.specs.declared.fault.CallKind.{CallKind}
use Rattle.lr_rules.specs.declared.fault.CallKind.TheVariants as call
use Rattle.lr_rules.specs.Path.{parent_of}
use Rattle.lr_host.specs.declared.thing.Kind.TheVariants as kind
use Rattle.lr_host.specs.declared.thing.Seen.{Seen}
use Rattle.lr_host.specs.declared.entry.Entry.{Entry}
use Rattle.lr_host.specs.declared.entry.Entry.TheVariants as entry
use Rattle.lr_host.specs.declared.journal.Journal.{Journal}
use Rattle.lr_host.specs.World.{world, names}
use Rattle.lr_host.specs.Listing.{HasListed}
use Rattle.lr_host.specs.Told.{Left, Can}
use Rattle.lr_host.proofs.Left.{left_first, left_as, left_then, left_both}
use Rattle.lr_host.proofs.Known.{entry_says}
use Rattle.lr_family.specs.declared.spot.Spot.{Spot}
use Rattle.lr_family.specs.declared.stand.Member.{Member}
use Rattle.lr_family.specs.declared.stand.Stand.{Stand}
use Rattle.lr_family.specs.declared.stand.StandStop.{StandStop}
use Rattle.lr_family.specs.declared.stand.StandStop.TheVariants as stop
use Rattle.lr_family.specs.declared.directory.DirStop.{DirStop}
use Rattle.lr_family.specs.declared.directory.DirStop.TheVariants as stopped
use Rattle.lr_family.specs.Spots.{AreSpots}
use Rattle.lr_host.specs.Looks.{Sees, IsNothing, IsDir, IsNoDir, is_dir}
use Rattle.lr_host.proofs.Looked.{seen_dir}
use Rattle.lr_family.specs.Among.{StandsAmong, ShowsMembers, ShowsIn, ShowsNoneIn}
use Rattle.lr_family.specs.Listed.{ShowsListing, NotListed}
use Rattle.lr_family.specs.Looks.{ShowsSpots}
use Rattle.lr_family.specs.Parts.{PartsAmong, ShowsParts, ShowsNoParts}
use Rattle.lr_family.specs.Standing.{ShowsStand, ShowsStop}
use Rattle.lr_family.specs.Stands.{AreNewestFirst}
use Rattle.lr_family.specs.Stops.{SomeStopped}
use Rattle.lr_family.specs.Directory.{DirSeen, DirLookStopped, ParentStopped, ListStopped}

-- a path where a look saw a directory can be listed
seen_can_list : {x : Path} {seen : Seen} {o n : Option Journal} → Left (λ ts. ts ≡ entry.Look x (Some seen) ∷ []) o n → seen.kind ≡ kind.Dir → Can n (entry.List x [])
seen_can_list {x} {seen} l k = entry_says l (λ w f. seen_dir (world w) (names (world w) x) seen f k)

pub can_list : (x : Path) (look : Option Seen) (seen : Seen) {o n : Option Journal} → Left (λ ts. ts ≡ entry.Look x look ∷ []) o n → look ≡ Some seen → seen.kind ≡ kind.Dir → Can n (entry.List x [])
can_list x look seen l e k = seen_can_list (left_as l (λ ts t. t ∙ ap (λ s. entry.Look x s ∷ []) e)) k

pub is_dir_seen : (look : Option Seen) (seen : Seen) → look ≡ Some seen → seen.kind ≡ kind.Dir → IsDir look
is_dir_seen look seen e k = subst IsDir (sym e) k

pub file_no_dir : (look : Option Seen) (seen : Seen) → look ≡ Some seen → seen.kind ≡ kind.File → IsNoDir look
file_no_dir look seen e k = subst IsNoDir (sym e) (λ f. cc)

pub other_no_dir : (look : Option Seen) (seen : Seen) → look ≡ Some seen → seen.kind ≡ kind.Other → IsNoDir look
other_no_dir look seen e k = subst IsNoDir (sym e) (λ f. cc)

-- ---- a listing

listed_there : (dir d : Path) (names : List (List ℕ)) {o m k : Option Journal} → d ≡ dir → Left (DirSeen d true) o m → Left (HasListed d names) m k → Left (ShowsListing dir true true names) o k
listed_there dir d names e a b = left_as (left_both a b) (λ ts t. subst (λ x. ShowsListing x true true names ts) e (refl, t))

listed_none : (dir d : Path) (parent : Bool) {o m k : Option Journal} → d ≡ dir → Left (DirSeen d false) o m → Left (Sees (parent_of d) (λ seen. is_dir seen ≡ parent)) m k → Left (ShowsListing dir false parent []) o k
listed_none dir d parent e a b = left_as (left_both a b) (λ ts t. subst (λ x. ShowsListing x false parent [] ts) e (refl, t))

as_listing : (dir : Path) (b there p parent : Bool) (ns names : List (List ℕ)) {o m : Option Journal} → there ≡ b → parent ≡ p → names ≡ ns → Left (ShowsListing dir b p ns) o m → Left (ShowsListing dir there parent names) o m
as_listing dir b there p parent ns names e f g l = left_as l (λ ts t. subst (λ x. ShowsListing dir x parent names ts) (sym e) (subst (λ x. ShowsListing dir b x names ts) (sym f) (subst (λ x. ShowsListing dir b p x ts) (sym g) t)))

pub there_told : {T : Type 0} (at : T → Path) (there parent : T → Bool) (names : T → List (List ℕ)) (dir d : Path) (r : Result T StandStop) (k : Option Journal) {o m : Option Journal} → d ≡ dir → Left (DirSeen d true) o m → IfOk r (λ l. Left (HasListed d (names l)) m k)
    → IfOk r (λ l. (at l ≡ d) × (there l ≡ true) × (parent l ≡ true)) → IfOk r (λ l. Left (ShowsListing dir (there l) (parent l) (names l)) o k)
there_told at there parent names dir d (Ok l) k e a b s = as_listing dir true (there l) true (parent l) (names l) (names l) s.1 s.2 refl (listed_there dir d (names l) e a b)
there_told at there parent names dir d (Err s) k e a b t = tt

pub none_told : {T : Type 0} (at : T → Path) (there parent : T → Bool) (names : T → List (List ℕ)) (dir d : Path) (r : Result T StandStop) (k : Option Journal) {o m : Option Journal} → d ≡ dir → Left (DirSeen d false) o m → IfOk r (λ l. Left (Sees (parent_of d) (λ seen. is_dir seen ≡ parent l)) m k)
    → IfOk r (λ l. (at l ≡ d) × (there l ≡ false) × (names l ≡ [])) → IfOk r (λ l. Left (ShowsListing dir (there l) (parent l) (names l)) o k)
none_told at there parent names dir d (Ok l) k e a b s = as_listing dir false (there l) (parent l) (parent l) [] (names l) s.1 refl s.2 (listed_none dir d (parent l) e a b)
none_told at there parent names dir d (Err s) k e a b t = tt

alone : (x : Path) {P : Option Seen → Type 0} (ts us : List Entry) → us ≡ [] → Sees x P ts → Sees x P (ts ++ us)
alone x {P} ts us e s = subst (Sees x P) (sym (ap (λ vs. ts ++ vs) e ∙ append-nil ts)) s

list_call : (dir : Path) (k : CallKind) (path : Path) (ts : List Entry) → k ≡ call.List → path ≡ dir → Sees dir IsDir ts → NotListed dir (stop.Call k path) ts
list_call dir k path ts e f s = subst (λ q. NotListed dir (stop.Call q path) ts) (sym e) (f, s)

behind_dir : (dir d : Path) (s : StandStop) {o m k : Option Journal} → d ≡ dir → Left (DirSeen d true) o m → Left (ListStopped d s) m k → Left (NotListed dir s) o k
behind_dir dir d (stop.Call kind path) e a b = left_then a b (λ ts us p q. list_call dir kind path (ts ++ us) q.0 (q.1 ∙ e) (subst (λ x. Sees x IsDir (ts ++ us)) e (alone d ts us q.2 p)))
behind_dir dir d (stop.NotFile path) e a b = left_then a b (λ ts us p q. absurd q)
behind_dir dir d stop.Memory e a b = left_then a b (λ ts us p q. inr (inr (subst (λ x. Sees x IsDir (ts ++ us)) e (alone d ts us q p))))

parent_call : (dir : Path) (k : CallKind) (path : Path) (ts : List Entry) → k ≡ call.Look → path ≡ parent_of dir → Sees dir IsNothing ts → NotListed dir (stop.Call k path) ts
parent_call dir k path ts e f s = subst (λ q. NotListed dir (stop.Call q path) ts) (sym e) (inr (f, s))

behind_none : (dir d : Path) (s : StandStop) {o m k : Option Journal} → d ≡ dir → Left (DirSeen d false) o m → Left (ParentStopped d s) m k → Left (NotListed dir s) o k
behind_none dir d (stop.Call kind path) e a b = left_then a b (λ ts us p q. parent_call dir kind path (ts ++ us) q.0 (q.1 ∙ ap parent_of e) (subst (λ x. Sees x IsNothing (ts ++ us)) e (alone d ts us q.2 p)))
behind_none dir d (stop.NotFile path) e a b = left_then a b (λ ts us p q. absurd q)
behind_none dir d stop.Memory e a b = left_then a b (λ ts us p q. inr (inl (subst (λ x. Sees x IsNothing (ts ++ us)) e (alone d ts us q p))))

pub there_stopped : {T : Type 0} (dir d : Path) (r : Result T StandStop) (k : Option Journal) {o m : Option Journal} → d ≡ dir → Left (DirSeen d true) o m → IfErr r (λ s. Left (ListStopped d s) m k) → IfErr r (λ s. Left (NotListed dir s) o k)
there_stopped dir d (Ok l) k e a b = tt
there_stopped dir d (Err s) k e a b = behind_dir dir d s e a b

pub none_stopped : {T : Type 0} (dir d : Path) (r : Result T StandStop) (k : Option Journal) {o m : Option Journal} → d ≡ dir → Left (DirSeen d false) o m → IfErr r (λ s. Left (ParentStopped d s) m k) → IfErr r (λ s. Left (NotListed dir s) o k)
none_stopped dir d (Ok l) k e a b = tt
none_stopped dir d (Err s) k e a b = behind_none dir d s e a b

pub no_dir : (dir d : Path) {o m : Option Journal} → d ≡ dir → Left (DirLookStopped d stopped.NotDir) o m → Left (NotListed dir (stop.NotFile d)) o m
no_dir dir d e l = left_as l (λ ts t. (e, subst (λ x. Sees x IsNoDir ts) e t))

pub no_look : (dir d : Path) {o m : Option Journal} → d ≡ dir → Left (DirLookStopped d stopped.Call) o m → Left (NotListed dir (stop.Call call.Look d)) o m
no_look dir d e l = left_as l (λ ts t. inl (e, t))

-- what an answer says, where it is known
pub seen_as : (d : Path) (b k : Bool) {o m : Option Journal} → b ≡ k → Left (DirSeen d b) o m → Left (DirSeen d k) o m
seen_as d b k e l = left_as l (λ ts t. subst (λ q. DirSeen d q ts) e t)

pub stopped_as : (d : Path) (s k : DirStop) {o m : Option Journal} → s ≡ k → Left (DirLookStopped d s) o m → Left (DirLookStopped d k) o m
stopped_as d s k e l = left_as l (λ ts t. subst (λ q. DirLookStopped d q ts) e t)

-- ---- the members among names, and their part files

pub stands_among : (n : Naming) (names : List (List ℕ)) (spots : List Spot) (shown members : List Member) {o m : Option Journal} → AreSpots n names spots → IsPermutation shown members → AreNewestFirst members → Left (ShowsSpots spots shown) o m → Left (StandsAmong n names members) o m
stands_among n names spots shown members are p f l = left_as l (λ ts t. record { spots = spots; spots_are = are; shown = shown; each = p; newest_first = f; looks = t })

pub stops_among : (n : Naming) (names : List (List ℕ)) (spots : List Spot) (s : StandStop) {o m : Option Journal} → AreSpots n names spots → Left (SomeStopped spots s) o m → Left (ShowsNoneIn n true names s) o m
stops_among n names spots s are l = left_as l (λ ts t. inr (inl (record { spots = spots; spots_are = are; looks = t })))

-- in a directory that isn't there
pub shows_none_in : (n : Naming) (there parent : Bool) (names : List (List ℕ)) (stand : Stand) (o : Option Journal) → there ≡ false → stand.there ≡ there → stand.parent ≡ parent → stand.members ≡ [] → stand.parts ≡ [] → Left (ShowsIn n there parent names stand) o o
shows_none_in n there parent names stand o e f g h i = left_first (ShowsIn n there parent names stand) o (
  f,
  g,
  record { front = []; back = []; joined = refl; first = subst (λ b. ShowsMembers n b names stand.members []) (sym e) (h, refl); second = subst (λ b. ShowsParts n b names stand.parts []) (sym e) (i, refl) },
)

pub shows_in : (n : Naming) (there parent : Bool) (names more all : List (List ℕ)) (members : List Member) (parts : List Path) (stand : Stand) {o m k : Option Journal} → there ≡ true → stand.there ≡ there → stand.parent ≡ parent → stand.members ≡ members → stand.parts ≡ parts → names ≡ all → more ≡ all
    → Left (StandsAmong n names members) o m → Left (PartsAmong n more parts) m k → Left (ShowsIn n there parent all stand) o k
shows_in n there parent names more all members parts stand e f g h i j k a b = left_then a b (λ ts us t u. (
  f,
  g,
  record {
    front = ts;
    back = us;
    joined = refl;
    first = subst (λ b. ShowsMembers n b all stand.members ts) (sym e) (subst (λ ms. StandsAmong n all ms ts) (sym h) (subst (λ ns. StandsAmong n ns members ts) j t));
    second = subst (λ b. ShowsParts n b all stand.parts us) (sym e) (subst (λ ps. PartsAmong n all ps us) (sym i) (subst (λ ns. PartsAmong n ns parts us) k u));
  },
))

pub none_in : (n : Naming) (there : Bool) (names all : List (List ℕ)) (s : StandStop) {o m : Option Journal} → there ≡ true → names ≡ all → Left (ShowsNoneIn n true names s) o m → Left (ShowsNoneIn n there all s) o m
none_in n there names all s e i l = left_as l (λ ts t. subst (λ b. ShowsNoneIn n b all s ts) (sym e) (subst (λ ns. ShowsNoneIn n true ns s ts) i t))

-- the looks at part files stopped
pub none_behind : (n : Naming) (there : Bool) (names more all : List (List ℕ)) (members : List Member) (s : StandStop) {o m k : Option Journal} → there ≡ true → names ≡ all → more ≡ all → Left (StandsAmong n names members) o m → Left (ShowsNoParts n more s) m k → Left (ShowsNoneIn n there all s) o k
none_behind n there names more all members s e i j a b = left_then a b (λ ts us t u. subst (λ b. ShowsNoneIn n b all s (ts ++ us)) (sym e)
    (inr (inr (members, record { front = ts; back = us; joined = refl; first = subst (λ ns. StandsAmong n ns members ts) i t; second = subst (λ ns. ShowsNoParts n ns s us) j u }))))

-- ---- a listing, and the looks behind it

one_stand : (n : Naming) (there parent : Bool) (names : List (List ℕ)) (stand : Stand) (ts us : List Entry) → ShowsListing n.dir there parent names ts → ShowsIn n there parent names stand us → ShowsStand n stand (ts ++ us)
one_stand n there parent names stand ts us t s = (
  names,
  record {
    front = ts;
    back = us;
    joined = refl;
    first = subst (λ b. ShowsListing n.dir b stand.parent names ts) (sym s.0) (subst (λ b. ShowsListing n.dir there b names ts) (sym s.1) t);
    second = subst (λ b. ShowsIn n b stand.parent names stand us) (sym s.0) (subst (λ b. ShowsIn n there b names stand us) (sym s.1) s);
  },
)

pub stand_told : (n : Naming) (there parent : Bool) (names : List (List ℕ)) (r : Result Stand StandStop) (k : Option Journal) {o m : Option Journal} → Left (ShowsListing n.dir there parent names) o m → IfOk r (λ stand. Left (ShowsIn n there parent names stand) m k) → IfOk r (λ stand. Left (ShowsStand n stand) o k)
stand_told n there parent names (Ok stand) k a b = left_then a b (one_stand n there parent names stand)
stand_told n there parent names (Err s) k a b = tt

pub stand_stopped : (n : Naming) (there parent : Bool) (names : List (List ℕ)) (r : Result Stand StandStop) (k : Option Journal) {o m : Option Journal} → Left (ShowsListing n.dir there parent names) o m → IfErr r (λ s. Left (ShowsNoneIn n there names s) m k) → IfErr r (λ s. Left (ShowsStop n s) o k)
stand_stopped n there parent names (Ok stand) k a b = tt
stand_stopped n there parent names (Err s) k a b = left_then a b (λ ts us t q. inr (there, parent, names, record { front = ts; back = us; joined = refl; first = t; second = q }))

-- a stand without a listing
pub never_listed : (n : Naming) (s : StandStop) {o m : Option Journal} → Left (NotListed n.dir s) o m → Left (ShowsStop n s) o m
never_listed n s l = left_as l (λ ts t. inl t)
