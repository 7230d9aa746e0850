-- What looks at members, one after another, leave.
use Rattle.std.proofs.Common.{◌≡◌, List, [], ◌∷◌, ◌++◌, Option, Some, refl, sym, ap, ◌∙◌, subst, map, append_assoc}
use Rattle.std.specs.Prelude.{flat_map}
use Rattle.std.proofs.lemmas.List.{append-nil, map-append}
use Rattle.std.proofs.lemmas.List.Elements.{All-append, All-nil, All-cons}
use Rattle.std.proofs.lemmas.Grind.{flat_map-append}
use Rattle.lr_rules.specs.declared.path.Path.{Path}
use Rattle.lr_host.specs.declared.thing.Kind.TheVariants as kind
use Rattle.lr_host.specs.declared.thing.Seen.{Seen}
use Rattle.lr_host.specs.declared.entry.Entry.{Entry}
use Rattle.lr_host.specs.declared.entry.Entry.TheVariants as entry
use Rattle.lr_host.specs.declared.journal.Journal.{Journal}
use Rattle.lr_host.specs.Told.{Left, Are}
use Rattle.lr_host.proofs.Left.{left_first, left_as, left_then}
use Rattle.lr_family.specs.declared.look.LookStop.{LookStop}
use Rattle.lr_family.specs.declared.look.LookStop.TheVariants as look
use Rattle.lr_family.specs.declared.spot.Spot.{Spot}
use Rattle.lr_family.specs.declared.stand.Member.{Member}
use Rattle.lr_host.specs.Looks.{Sees, IsNoFile, IsFileOrGone}
use Rattle.lr_family.specs.Looks.{MemberSight, spot_look, seen_member, member_of, AreSeen, ShowsSpots, ShowsTo, ShowsSome}
use Rattle.lr_family.specs.Stops.{standing_stop, OneStopped, SomeStopped}

-- the same, where it is known what was seen
pub saw : (x : Path) (seen other : Option Seen) {o n : Option Journal} → Left (λ ts. ts ≡ entry.Look x seen ∷ []) o n → seen ≡ other → Left (Are (entry.Look x other ∷ [])) o n
saw x seen other l same = left_as l (λ ts e. e ∙ ap (λ s. entry.Look x s ∷ []) same)

pub dir_no_file : (seen : Option Seen) (s : Seen) → seen ≡ Some s → s.kind ≡ kind.Dir → IsNoFile seen
dir_no_file seen s e k = subst IsNoFile (sym e) (λ f. cc)

pub other_no_file : (seen : Option Seen) (s : Seen) → seen ≡ Some s → s.kind ≡ kind.Other → IsNoFile seen
other_no_file seen s e k = subst IsNoFile (sym e) (λ f. cc)

-- before the first look
pub shows_none : (members : List Member) (o : Option Journal) → members ≡ [] → Left (ShowsSpots [] members) o o
shows_none members o e = left_first (ShowsSpots [] members) o (record { sights = []; each = refl; files = All-nil (λ sight. IsFileOrGone sight.seen); members_are = e; looks = refl })

one_more : (spots : List Spot) (members new : List Member) (spot : Spot) (seen : Option Seen) (ts us : List Entry) → ShowsSpots spots members ts → us ≡ entry.Look spot.path seen ∷ [] → IsFileOrGone seen → new ≡ members ++ seen_member spot seen → ShowsSpots (spots ++ spot ∷ []) new (ts ++ us)
one_more spots members new spot seen ts us s u file grown =
    let sight : MemberSight = record { spot = spot; seen = seen } in
    record {
      sights = s.sights ++ sight ∷ [];
      each = map-append (λ (g : MemberSight). g.spot) s.sights (sight ∷ []) ∙ ap (λ ss. ss ++ spot ∷ []) s.each;
      files = All-append (λ (g : MemberSight). IsFileOrGone g.seen) s.sights (sight ∷ []) s.files (All-cons (λ (g : MemberSight). IsFileOrGone g.seen) sight [] file (All-nil (λ (g : MemberSight). IsFileOrGone g.seen)));
      members_are = grown ∙ (ap (λ ms. ms ++ seen_member spot seen) s.members_are ∙ (ap (λ ms. flat_map member_of s.sights ++ ms) (sym (append-nil (seen_member spot seen))) ∙ sym (flat_map-append member_of s.sights (sight ∷ []))));
      looks = ap (λ vs. vs ++ us) s.looks ∙ (ap (λ vs. map spot_look s.sights ++ vs) u ∙ sym (map-append spot_look s.sights (sight ∷ [])));
    }

-- one look more
pub shows_more : (spots : List Spot) (members new : List Member) (spot : Spot) (seen : Option Seen) {o m n : Option Journal} → Left (ShowsSpots spots members) o m → Left (Are (entry.Look spot.path seen ∷ [])) m n → IsFileOrGone seen → new ≡ members ++ seen_member spot seen → Left (ShowsSpots (spots ++ spot ∷ []) new) o n
shows_more spots members new spot seen a b file grown = left_then a b (λ ts us s u. one_more spots members new spot seen ts us s u file grown)

-- one that stops
to_here : (spots done rest : List Spot) (members : List Member) (spot : Spot) (P : List Entry → Type 0) {o m n : Option Journal} → spots ≡ done ++ spot ∷ rest → Left (ShowsSpots done members) o m → Left P m n → Left (ShowsTo spots spot.path P) o n
to_here spots done rest members spot P seam a b = left_then a b (λ ts us s p. record {
  before = s.sights;
  spot = spot;
  after = rest;
  is = refl;
  each = seam ∙ ap (λ ss. ss ++ spot ∷ rest) (sym s.each);
  files = s.files;
  looks = record { front = ts; back = us; joined = refl; first = s.looks; second = p };
})

pub shows_stop : (spots done rest : List Spot) (members : List Member) (spot : Spot) (s : LookStop) {o m n : Option Journal} → spots ≡ done ++ spot ∷ rest → Left (ShowsSpots done members) o m → Left (OneStopped spot.path s) m n → Left (SomeStopped spots (standing_stop s spot.path)) o n
shows_stop spots done rest members spot look.Call seam a b = left_as (to_here spots done rest members spot (Are []) seam a b) (λ ts t. (refl, t))
shows_stop spots done rest members spot look.NotFile seam a b = to_here spots done rest members spot (Sees spot.path IsNoFile) seam a b

-- want of memory
pub shows_some : (spots done rest : List Spot) (members : List Member) (spot : Spot) (seen : Option Seen) {o m n : Option Journal} → spots ≡ done ++ spot ∷ rest → Left (ShowsSpots done members) o m → Left (Are (entry.Look spot.path seen ∷ [])) m n → IsFileOrGone seen → Left (ShowsSome spots) o n
shows_some spots done rest members spot seen seam a b file = left_as (shows_more done members (members ++ seen_member spot seen) spot seen a b file refl) (λ ts s. record {
  sights = s.sights;
  after = rest;
  each = seam ∙ (sym (append_assoc done (spot ∷ []) rest) ∙ ap (λ ss. ss ++ rest) (sym s.each));
  files = s.files;
  looks = s.looks;
})

-- ---- what was seen, whatever is told

pub seen_none : (members : List Member) → members ≡ [] → AreSeen [] members
seen_none members e = record { sights = []; each = refl; members_are = e }

pub seen_more : (spots : List Spot) (members new : List Member) (spot : Spot) (seen : Option Seen) → AreSeen spots members → new ≡ members ++ seen_member spot seen → AreSeen (spots ++ spot ∷ []) new
seen_more spots members new spot seen s grown =
    let sight : MemberSight = record { spot = spot; seen = seen } in
    record {
      sights = s.sights ++ sight ∷ [];
      each = map-append (λ (g : MemberSight). g.spot) s.sights (sight ∷ []) ∙ ap (λ ss. ss ++ spot ∷ []) s.each;
      members_are = grown ∙ (ap (λ ms. ms ++ seen_member spot seen) s.members_are ∙ (ap (λ ms. flat_map member_of s.sights ++ ms) (sym (append-nil (seen_member spot seen))) ∙ sym (flat_map-append member_of s.sights (sight ∷ []))));
    }
