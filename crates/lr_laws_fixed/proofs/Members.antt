-- The looks at the members among names show one thing alone.
use Rattle.std.proofs.Common.{◌≡◌, ℕ, true, List, [], ◌∷◌, ◌++◌, map, Option, refl, sym, ap, ◌∙◌, subst, append_assoc}
use Rattle.std.specs.Prelude.{flat_map}
use Rattle.std.specs.List.Sorted.{IsPermutation}
use Rattle.std.proofs.lemmas.List.Elements.{All-head, All-tail, All-contains}
use Rattle.std.proofs.lemmas.List.Sorted.{Contains-permutation, IsPermutation-sym}
use Rattle.lr_rules.specs.declared.path.Path.{Path}
use Rattle.lr_rules.specs.declared.rule.Naming.{Naming}
use Rattle.lr_rules.specs.Limits.{is_format, or_none}
use Rattle.lr_rules.proofs.Heads.{heads, tails}
use Rattle.lr_host.specs.declared.thing.Seen.{Seen}
use Rattle.lr_host.specs.declared.entry.Entry.{Entry}
use Rattle.lr_host.specs.declared.entry.Entry.TheVariants as entry
use Rattle.lr_host.specs.Lists.{IsIn}
use Rattle.lr_host.specs.Looks.{Sees, IsNoFile, IsFileOrGone}
use Rattle.lr_host.proofs.Lists.{in_from, in_to}
use Rattle.lr_host.proofs.Fronts.{front_same, saw_same}
use Rattle.lr_family.specs.declared.place.Place.{Place}
use Rattle.lr_family.specs.declared.spot.Spot.{Spot}
use Rattle.lr_family.specs.declared.stand.Member.{Member}
use Rattle.lr_family.specs.declared.stand.StandStop.TheVariants as stop
use Rattle.lr_family.specs.Among.{StandsAmong, StopsAmong}
use Rattle.lr_family.specs.Looks.{MemberSight, spot_look, member_of, AreFilesOrGone, ShowsTo}
use Rattle.lr_family.specs.Places.{IsPlaceOf}
use Rattle.lr_family.specs.Spots.{HasPath, AreSpots}
use Rattle.lr_family.specs.Stands.{AreNewestFirst}
use Rattle.lr_family.proofs.Newness.{by_newness_total, spots_of}
use Rattle.lr_family.proofs.Placed.{one_place}
use Rattle.lr_family.proofs.Rising.{total, spots_more}
use Rattle.lr_laws_fixed.proofs.Peeled.{file_or_not}
use Rattle.lr_laws_fixed.proofs.Rising.{same_strict}

-- ---- the members among names

-- the path tells the spot
spot_same : (n : Naming) (a b : Spot) → or_none is_format n.dated ≡ true → HasPath n a → HasPath n b → a.path ≡ b.path → a ≡ b
spot_same n a b good ha hb e =
    ap {B = Spot} (λ (x : Path). record { path = x; place = a.place }) e
    ∙ ap {B = Spot} (λ (p : Place). record { path = b.path; place = p }) (one_place n a.place b.place b.path good (subst (IsPlaceOf n a.place) e ha) hb)

-- those of the one are those of the other
spot_in : (n : Naming) (names : List (List ℕ)) (spots others : List Spot) → or_none is_format n.dated ≡ true → AreSpots n names spots → AreSpots n names others → (d : Spot) → IsIn d spots → IsIn d others
spot_in n names spots others good a b d i =
    let r = (b.has.all d.path).1 ((a.has.all d.path).0 (d, in_to d spots i, refl)) in
    let same : r.0 ≡ d = spot_same n r.0 d good (All-contains (HasPath n) others r.0 b.has.places r.1) (All-contains (HasPath n) spots d a.has.places (in_to d spots i)) r.2 in
    subst (λ (x : Spot). IsIn x others) same (in_from r.0 others r.1)

-- they are fixed by which names there are
pub spots_fixed : (n : Naming) (names more : List (List ℕ)) (spots others : List Spot) → or_none is_format n.dated ≡ true → IsPermutation names more → AreSpots n names spots → AreSpots n more others → spots ≡ others
spots_fixed n names more spots others good perm a b = same_strict total spots others a.rising b.rising (spot_in n names spots others good a c) (spot_in n names others spots good c a)
  where
    c : AreSpots n names others
    c = spots_more n more names others (λ name h. Contains-permutation more names name (IsPermutation-sym names more perm) h) (λ name h. Contains-permutation names more name perm h) b

-- what was seen is told in one order
members_fixed : (shown members others : List Member) → IsPermutation shown members → AreNewestFirst members → IsPermutation shown others → AreNewestFirst others → members ≡ others
members_fixed shown members others p up q vp = same_strict by_newness_total members others up vp (over members others p q) (over others members q p)
  where
    over : (xs ys : List Member) → IsPermutation shown xs → IsPermutation shown ys → (m : Member) → IsIn m xs → IsIn m ys
    over xs ys p q m i = in_from m ys (Contains-permutation shown ys m q (Contains-permutation xs shown m (IsPermutation-sym shown xs p) (in_to m xs i)))

-- ---- looks at the same ones

sight_same : (a b : MemberSight) → a.spot ≡ b.spot → a.seen ≡ b.seen → a ≡ b
sight_same a b p q = ap {B = MemberSight} (λ (d : Spot). record { spot = d; seen = a.seen }) p ∙ ap {B = MemberSight} (λ (o : Option Seen). record { spot = b.spot; seen = o }) q

head_spot : (x y : Spot) (xs ys : List Spot) → x ∷ xs ≡ y ∷ ys → x ≡ y
head_spot x y xs ys e = cc

tail_spots : (x y : Spot) (xs ys : List Spot) → x ∷ xs ≡ y ∷ ys → xs ≡ ys
tail_spots x y xs ys e = cc

-- at the front of the same entries they are the same
same_sights : (as' bs : List MemberSight) (vs ws : List Entry) → spots_of as' ≡ spots_of bs → map spot_look as' ++ vs ≡ map spot_look bs ++ ws → (as' ≡ bs) × (vs ≡ ws)
same_sights [] [] vs ws p e = (refl, e)
same_sights [] (b ∷ bs) vs ws p e = absurd (cc p)
same_sights (a ∷ as') [] vs ws p e = absurd (cc p)
same_sights (a ∷ as') (b ∷ bs) vs ws p e =
    let one = sight_same a b (head_spot a.spot b.spot (spots_of as') (spots_of bs) p) (saw_same a.spot.path b.spot.path a.seen b.seen (heads (spot_look a) (spot_look b) (map spot_look as' ++ vs) (map spot_look bs ++ ws) e)) in
    let r = same_sights as' bs vs ws (tail_spots a.spot b.spot (spots_of as') (spots_of bs) p) (tails (spot_look a) (spot_look b) (map spot_look as' ++ vs) (map spot_look bs ++ ws) e) in
    (ap (λ s. s ∷ as') one ∙ ap (λ ss. b ∷ ss) r.0, r.1)

files_first : (a : MemberSight) (as' : List MemberSight) → AreFilesOrGone (a ∷ as') → IsFileOrGone a.seen
files_first a as' h = All-head (λ (g : MemberSight). IsFileOrGone g.seen) a as' h

files_rest : (a : MemberSight) (as' : List MemberSight) → AreFilesOrGone (a ∷ as') → AreFilesOrGone as'
files_rest a as' h = All-tail (λ (g : MemberSight). IsFileOrGone g.seen) a as' h

-- the first that is no file is one
same_stop : (as' bs : List MemberSight) (x y : Spot) (cs ds : List Spot) (s t : Option Seen) (vs ws : List Entry) → spots_of as' ++ x ∷ cs ≡ spots_of bs ++ y ∷ ds → AreFilesOrGone as' → AreFilesOrGone bs → IsNoFile s → IsNoFile t
    → map spot_look as' ++ entry.Look x.path s ∷ vs ≡ map spot_look bs ++ entry.Look y.path t ∷ ws → (as' ≡ bs) × (x ≡ y) × (s ≡ t) × (vs ≡ ws)
same_stop [] [] x y cs ds s t vs ws p f g h k e = (refl, head_spot x y cs ds p, saw_same x.path y.path s t (heads (entry.Look x.path s) (entry.Look y.path t) vs ws e), tails (entry.Look x.path s) (entry.Look y.path t) vs ws e)
same_stop [] (b ∷ bs) x y cs ds s t vs ws p f g h k e = absurd (file_or_not b.seen s (files_first b bs g) h (sym (saw_same x.path b.spot.path s b.seen (heads (entry.Look x.path s) (spot_look b) vs (map spot_look bs ++ entry.Look y.path t ∷ ws) e))))
same_stop (a ∷ as') [] x y cs ds s t vs ws p f g h k e = absurd (file_or_not a.seen t (files_first a as' f) k (saw_same a.spot.path y.path a.seen t (heads (spot_look a) (entry.Look y.path t) (map spot_look as' ++ entry.Look x.path s ∷ vs) ws e)))
same_stop (a ∷ as') (b ∷ bs) x y cs ds s t vs ws p f g h k e =
    let one = sight_same a b (head_spot a.spot b.spot (spots_of as' ++ x ∷ cs) (spots_of bs ++ y ∷ ds) p) (saw_same a.spot.path b.spot.path a.seen b.seen (heads (spot_look a) (spot_look b) (map spot_look as' ++ entry.Look x.path s ∷ vs) (map spot_look bs ++ entry.Look y.path t ∷ ws) e)) in
    let r = same_stop as' bs x y cs ds s t vs ws (tail_spots a.spot b.spot (spots_of as' ++ x ∷ cs) (spots_of bs ++ y ∷ ds) p) (files_rest a as' f) (files_rest b bs g) h k
    (tails (spot_look a) (spot_look b) (map spot_look as' ++ entry.Look x.path s ∷ vs) (map spot_look bs ++ entry.Look y.path t ∷ ws) e) in
    (ap (λ q. q ∷ as') one ∙ ap (λ qs. b ∷ qs) r.0, r.1, r.2, r.3)

-- where all are files or gone, none stops
no_stop : (as' bs : List MemberSight) (y : Spot) (ds : List Spot) (t : Option Seen) (vs ws : List Entry) → spots_of as' ≡ spots_of bs ++ y ∷ ds → AreFilesOrGone as' → IsNoFile t → map spot_look as' ++ vs ≡ map spot_look bs ++ entry.Look y.path t ∷ ws → ⊥
no_stop [] [] y ds t vs ws p f k e = cc p
no_stop [] (b ∷ bs) y ds t vs ws p f k e = cc p
no_stop (a ∷ as') [] y ds t vs ws p f k e = file_or_not a.seen t (files_first a as' f) k (saw_same a.spot.path y.path a.seen t (heads (spot_look a) (entry.Look y.path t) (map spot_look as' ++ vs) ws e))
no_stop (a ∷ as') (b ∷ bs) y ds t vs ws p f k e = no_stop as' bs y ds t vs ws (tail_spots a.spot b.spot (spots_of as') (spots_of bs ++ y ∷ ds) p) (files_rest a as' f) k (tails (spot_look a) (spot_look b) (map spot_look as' ++ vs) (map spot_look bs ++ entry.Look y.path t ∷ ws) e)

-- ---- members among names

-- the looks up to the first that is no file, at its own path, and what comes behind
up_to : (spots : List Spot) (path : Path) (ts vs : List Entry) → (to : ShowsTo spots path (Sees path IsNoFile) ts) → ts ++ vs ≡ map spot_look to.before ++ entry.Look to.spot.path to.looks.second.seen ∷ vs
up_to spots path ts vs to =
    ap (λ l. l ++ vs) to.looks.joined ∙ (append_assoc to.looks.front to.looks.back vs ∙ (ap (λ l. l ++ (to.looks.back ++ vs)) to.looks.first ∙ (ap (λ l. map spot_look to.before ++ (l ++ vs)) to.looks.second.look
    ∙ ap (λ (x : Path). map spot_look to.before ++ entry.Look x to.looks.second.seen ∷ vs) (sym to.is))))

-- the looks up to it are the whole
whole_to : (spots : List Spot) (path : Path) (ts : List Entry) → (to : ShowsTo spots path (Sees path IsNoFile) ts) → ts ≡ map spot_look to.before ++ entry.Look path to.looks.second.seen ∷ []
whole_to spots path ts to = to.looks.joined ∙ (ap (λ l. l ++ to.looks.back) to.looks.first ∙ ap (λ l. map spot_look to.before ++ l) to.looks.second.look)

module _ (n : Naming) (good : or_none is_format n.dated ≡ true) (names more : List (List ℕ)) (perm : IsPermutation names more) where
  -- the same members stand
  pub stands_same : (members others : List Member) (ts us vs ws : List Entry) → StandsAmong n names members ts → StandsAmong n more others us → ts ++ vs ≡ us ++ ws → (members ≡ others) × (ts ≡ us) × (vs ≡ ws)
  stands_same members others ts us vs ws h g e = (
    members_fixed (flat_map member_of h.looks.sights) members others (subst (λ l. IsPermutation l members) h.looks.members_are h.each) h.newest_first
        (subst (λ l. IsPermutation l others) (g.looks.members_are ∙ ap (flat_map member_of) (sym r.0)) g.each) g.newest_first,
    h.looks.looks ∙ (ap (map spot_look) r.0 ∙ sym g.looks.looks),
    r.1,
  )
    where
      r : (h.looks.sights ≡ g.looks.sights) × (vs ≡ ws)
      r = same_sights h.looks.sights g.looks.sights vs ws (h.looks.each ∙ (spots_fixed n names more h.spots g.spots good perm h.spots_are g.spots_are ∙ sym g.looks.each))
          (front_same ts us (map spot_look h.looks.sights) (map spot_look g.looks.sights) vs ws h.looks.looks g.looks.looks e)

  -- the same member is no file
  pub stops_same : (path other : Path) (ts us vs ws : List Entry) → StopsAmong n names (stop.NotFile path) ts → StopsAmong n more (stop.NotFile other) us → ts ++ vs ≡ us ++ ws → (path ≡ other) × (ts ≡ us) × (vs ≡ ws)
  stops_same path other ts us vs ws h g e = (
    one,
    whole_to h.spots path ts h.looks ∙ (ap (λ l. map spot_look l ++ entry.Look path h.looks.looks.second.seen ∷ []) r.0
        ∙ (ap (λ (x : Path). map spot_look g.looks.before ++ entry.Look x h.looks.looks.second.seen ∷ []) one
        ∙ (ap (λ o. map spot_look g.looks.before ++ entry.Look other o ∷ []) r.2 ∙ sym (whole_to g.spots other us g.looks)))),
    r.3,
  )
    where
      r : (h.looks.before ≡ g.looks.before) × (h.looks.spot ≡ g.looks.spot) × (h.looks.looks.second.seen ≡ g.looks.looks.second.seen) × (vs ≡ ws)
      r = same_stop h.looks.before g.looks.before h.looks.spot g.looks.spot h.looks.after g.looks.after h.looks.looks.second.seen g.looks.looks.second.seen vs ws
          (sym h.looks.each ∙ (spots_fixed n names more h.spots g.spots good perm h.spots_are g.spots_are ∙ g.looks.each)) h.looks.files g.looks.files h.looks.looks.second.is g.looks.looks.second.is
          (sym (up_to h.spots path ts vs h.looks) ∙ (e ∙ up_to g.spots other us ws g.looks))

      one : path ≡ other
      one = sym h.looks.is ∙ (ap (λ (d : Spot). d.path) r.1 ∙ g.looks.is)

  -- not both
  pub stands_or_stops : (members : List Member) (path : Path) (ts us vs ws : List Entry) → StandsAmong n names members ts → StopsAmong n more (stop.NotFile path) us → ts ++ vs ≡ us ++ ws → ⊥
  stands_or_stops members path ts us vs ws h g e = no_stop h.looks.sights g.looks.before g.looks.spot g.looks.after g.looks.looks.second.seen vs ws (h.looks.each ∙ (spots_fixed n names more h.spots g.spots good perm h.spots_are g.spots_are ∙ g.looks.each)) h.looks.files
      g.looks.looks.second.is (sym (ap (λ l. l ++ vs) h.looks.looks) ∙ (e ∙ up_to g.spots path us ws g.looks))
