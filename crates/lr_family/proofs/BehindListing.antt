-- A listing, and looks behind it, tell apart why there is no stand.
use Rattle.std.proofs.Common.{◌≡◌, ◌⊎◌, inl, inr, ℕ, ◌+◌, Bool, true, false, List, [], ◌∷◌, ◌++◌, length, Option, None, Result, Ok, Err, refl, sym, ap, ◌∙◌, subst, arith}
use Rattle.std.specs.Prelude.{◌↔◌, Contains, IfOk, IfErr}
use Rattle.std.specs.List.Sorted.{IsPermutation}
use Rattle.std.proofs.lemmas.List.{length-append}
use Rattle.std.proofs.lemmas.List.Sorted.{Contains-permutation, IsPermutation-sym}
use Rattle.lr_rules.specs.declared.path.Path.{Path}
use Rattle.lr_rules.specs.declared.rule.Naming.{Naming}
use Rattle.lr_host.specs.declared.thing.Seen.{Seen}
use Rattle.lr_host.specs.declared.entry.Entry.{Entry}
use Rattle.lr_host.specs.declared.entry.Entry.TheVariants as entry
use Rattle.lr_host.specs.declared.journal.Journal.{Journal}
use Rattle.lr_host.specs.Looks.{IsDir}
use Rattle.lr_host.specs.Told.{Left, Then}
use Rattle.lr_host.proofs.Left.{left_as}
use Rattle.lr_family.specs.declared.stand.Stand.{Stand}
use Rattle.lr_family.specs.declared.stand.StandStop.{StandStop}
use Rattle.lr_family.specs.declared.stand.StandStop.TheVariants as stop
use Rattle.lr_family.specs.Among.{StopsAmong, ShowsNoneIn}
use Rattle.lr_family.specs.Listed.{ShowsListing, ShowsNoDir, NotListed}
use Rattle.lr_family.specs.Standing.{ShowsStand, ShowsStop, ShowsNoFile, IsExactly}
use Rattle.lr_family.proofs.Exact.{is_named, no_dir, listing_names, never_stops, why_exactly, err_exactly, ok_exactly}
use Rattle.lr_family.proofs.Few.{listing_pair, not_listed_one}
use Rattle.lr_family.proofs.Ordered.{AreAmong}
use Rattle.lr_family.proofs.Rising.{spots_more}

-- the entries of a listing of a directory that is there
record Opened (dir : Path) (names : List (List ℕ)) (ts : List Entry) : Type 0 where
  seen : Option Seen
  is_dir : IsDir seen
  listed : List (List ℕ)
  same : IsPermutation listed names
  are : ts ≡ entry.Look dir seen ∷ entry.List dir listed ∷ []

opened : (dir : Path) (parent : Bool) (names : List (List ℕ)) (ts : List Entry) → ShowsListing dir true parent names ts → Opened dir names ts
opened dir parent names ts t = record {
  seen = t.1.first.seen;
  is_dir = t.1.first.is;
  listed = t.1.second.listed;
  same = t.1.second.same;
  are = t.1.joined ∙ (ap (λ vs. vs ++ t.1.back) t.1.first.look ∙ ap (λ vs. entry.Look dir t.1.first.seen ∷ vs) t.1.second.list);
}

next_same : (dir : Path) (s u : Option Seen) (l k : List (List ℕ)) (ts us : List Entry) → entry.Look dir s ∷ entry.List dir l ∷ ts ≡ entry.Look dir u ∷ entry.List dir k ∷ us → (l ≡ k) × (ts ≡ us)
next_same dir s u l k ts us e = ((let r : l ≡ k = cc in r), (let r : ts ≡ us = cc in r))

first_same : (dir : Path) (s u : Option Seen) (ts us : List Entry) → entry.Look dir s ∷ ts ≡ entry.Look dir u ∷ us → s ≡ u
first_same dir s u ts us e = cc

-- The directory is no directory, or it was listed with some names, and behind that P holds.
abbrev pub NoDirOr : Path → Path → (List (List ℕ) → List Entry → Type 0) → List Entry → Type 0
NoDirOr dir path P ts = ShowsNoDir dir path ts ⊎ ((names : List (List ℕ)) × Then (ShowsListing dir true true names) (P names) ts)

module _ (dir : Path) (P : List (List ℕ) → List Entry → Type 0) (more : (names others : List (List ℕ)) (ts : List Entry) → AreAmong names others → AreAmong others names → P names ts → P others ts) where
  -- behind a listing it holds of the names that were listed
  pub past_listing : (there parent : Bool) (names : List (List ℕ)) (path : Path) (ts us : List Entry) → ShowsListing dir there parent names ts → NoDirOr dir path P (ts ++ us) → (there ≡ true) × P names us
  past_listing there parent names path ts us t (inl s) = absurd (
      let two = listing_pair dir there parent names ts t in
      let one : length (ts ++ us) ≡ 1 = ap length s.1.look in
      let size = length-append ts us in
      omega (arith, two, one, size)
      )
  past_listing false parent names path ts us t (inr q) = absurd (subst IsDir nothing o.is_dir)
    where
      o : Opened dir q.0 q.1.front
      o = opened dir true q.0 q.1.front q.1.first

      one : ts ++ us ≡ entry.Look dir t.1.first.seen ∷ (t.1.back ++ us)
      one = ap (λ vs. vs ++ us) (t.1.joined ∙ ap (λ vs. vs ++ t.1.back) t.1.first.look)

      two : ts ++ us ≡ entry.Look dir o.seen ∷ (entry.List dir o.listed ∷ q.1.back)
      two = q.1.joined ∙ ap (λ vs. vs ++ q.1.back) o.are

      nothing : o.seen ≡ None
      nothing = first_same dir o.seen t.1.first.seen _ _ (sym two ∙ one) ∙ t.1.first.is
  past_listing true parent names path ts us t (inr q) = (refl, more q.0 names us there back (subst (P q.0) (sym same.1) q.1.second))
    where
      o : Opened dir names ts
      o = opened dir parent names ts t

      p : Opened dir q.0 q.1.front
      p = opened dir true q.0 q.1.front q.1.first

      same : (o.listed ≡ p.listed) × (us ≡ q.1.back)
      same = next_same dir o.seen p.seen o.listed p.listed us q.1.back (sym (ap (λ vs. vs ++ us) o.are) ∙ (q.1.joined ∙ ap (λ vs. vs ++ q.1.back) p.are))

      there : AreAmong q.0 names
      there name c = Contains-permutation o.listed names name o.same (subst (λ ns. Contains ns name) (sym same.0) (Contains-permutation q.0 p.listed name (IsPermutation-sym p.listed q.0 p.same) c))

      back : AreAmong names q.0
      back name c = Contains-permutation p.listed q.0 name p.same (subst (λ ns. Contains ns name) same.0 (Contains-permutation names o.listed name (IsPermutation-sym o.listed names o.same) c))

  -- without a listing the cause is no file exactly where that is shown
  unlisted_exactly : (why : StandStop) (path : Path) (ts : List Entry) → NotListed dir why ts → (why ≡ stop.NotFile path) ↔ NoDirOr dir path P ts
  unlisted_exactly why path ts t = ((λ e. inl (subst (λ q. NotListed dir q ts) e t)), from)
    where
      from : NoDirOr dir path P ts → why ≡ stop.NotFile path
      from (inl s) = is_named why path (sym (listing_names dir why ts t) ∙ no_dir dir path ts s)
      from (inr q) = absurd (
          let two = listing_pair dir true true q.0 q.1.front q.1.first in
          let size : length ts ≡ length q.1.front + length q.1.back = ap length q.1.joined ∙ length-append q.1.front q.1.back in
          let one = not_listed_one dir why ts t in
          omega (arith, two, size, one)
          )

  -- behind one it is so where P tells it exactly
  listed_exactly : (N : List Entry → Type 0) (why : StandStop) (path : Path) (parent : Bool) (names : List (List ℕ)) (ts : List Entry) → Then (ShowsListing dir true parent names) N ts → ((us : List Entry) → N us → (why ≡ stop.NotFile path) ↔ P names us) → (why ≡ stop.NotFile path) ↔ NoDirOr dir path P ts
  listed_exactly N why path parent names ts t exact = (
    λ e. inr (names, record { front = t.front; back = t.back; joined = t.joined; first = subst (λ b. ShowsListing dir true b names t.front) t.first.0 t.first; second = (exact t.back t.second).0 e }),
    λ shows. (exact t.back t.second).1 (past_listing true parent names path t.front t.back t.first (subst (NoDirOr dir path P) t.joined shows)).1,
  )

  pub stopped_exactly : (N : Bool → List (List ℕ) → List Entry → Type 0) (why : StandStop) (path : Path) (ts : List Entry) → ((names : List (List ℕ)) (us : List Entry) → N false names us → ⊥) → ((names : List (List ℕ)) (us : List Entry) → N true names us → (why ≡ stop.NotFile path) ↔ P names us)
      → NotListed dir why ts ⊎ ((there parent : Bool) × (names : List (List ℕ)) × Then (ShowsListing dir there parent names) (N there names) ts) → (why ≡ stop.NotFile path) ↔ NoDirOr dir path P ts
  stopped_exactly N why path ts none exact (inl t) = unlisted_exactly why path ts t
  stopped_exactly N why path ts none exact (inr (true, parent, names, t)) = listed_exactly (N true names) why path parent names ts t (exact names)
  stopped_exactly N why path ts none exact (inr (false, parent, names, t)) = absurd (none names t.back t.second)

-- members among the same names, in another order
pub stops_more : (n : Naming) (s : StandStop) (names others : List (List ℕ)) (ts : List Entry) → AreAmong names others → AreAmong others names → StopsAmong n names s ts → StopsAmong n others s ts
stops_more n s names others ts f g t = record { spots = t.spots; spots_are = spots_more n names others t.spots f g t.spots_are; looks = t.looks }

pub exactly : (n : Naming) (r : Result Stand StandStop) {o m : Option Journal} → IfOk r (λ stand. Left (ShowsStand n stand) o m) → IfErr r (λ s. Left (ShowsStop n s) o m) → Left (IsExactly n r) o m
exactly n (Ok stand) a b = left_as a (λ ts t path. ok_exactly stand path (λ shows. never_stops n stand.there stand.parent t.0 stand path t.1.back t.1.second
    (past_listing n.dir (λ names us. StopsAmong n names (stop.NotFile path) us) (stops_more n (stop.NotFile path)) stand.there stand.parent t.0 path t.1.front t.1.back t.1.first (subst (ShowsNoFile n path) t.1.joined shows)).1))
exactly n (Err s) a b = left_as b (λ ts t path. err_exactly (Err s) s path refl (stopped_exactly n.dir (λ names us. StopsAmong n names (stop.NotFile path) us) (stops_more n (stop.NotFile path)) (λ there names us. ShowsNoneIn n there names s us) s path ts (λ names us h. h) (λ names us h. why_exactly n names s path us h) t))
