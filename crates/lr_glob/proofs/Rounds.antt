-- What the visits of a round leave, one after another.
use Rattle.std.proofs.Common.{◌≡◌, inl, inr, ℕ, List, [], ◌∷◌, ◌++◌, map, refl, sym, ap, ◌∙◌, subst, append_assoc, Option, Bool, true, false, Result, Ok, Err}
use Rattle.std.specs.Prelude.{flat_map, IfOk, IfErr}
use Rattle.lr_rules.specs.Match.{is_wildcard, literal_path}
use Rattle.std.proofs.lemmas.List.{append-nil, map-append}
use Rattle.std.proofs.lemmas.Grind.{flat_map-append}
use Rattle.lr_rules.specs.declared.path.Path.{Path}
use Rattle.lr_host.specs.declared.entry.Entry.{Entry}
use Rattle.lr_host.specs.declared.journal.Journal.{Journal}
use Rattle.lr_host.specs.Told.{Left}
use Rattle.lr_host.proofs.Left.{left_as, left_then, left_first}
use Rattle.lr_glob.specs.declared.found.GlobStop.{GlobStop}
use Rattle.lr_glob.specs.declared.found.GlobStop.TheVariants as stop
use Rattle.lr_glob.specs.declared.visit.VisitStop.{VisitStop}
use Rattle.lr_glob.specs.Gathers.{Gathers, AddsPaths}
use Rattle.lr_glob.specs.Parts.{PickOf, JoinOf}
use Rattle.lr_glob.specs.Visits.{WordVisit, visit_names, visit_entries, Visited}
use Rattle.lr_glob.specs.Rounds.{Picks, Round, Went, Asked, FollowsBy, FollowsPart, Followed}
use Rattle.lr_glob.specs.Stops.{NotVisited, glob_stop, RoundBroken, NotFollowed}
use Rattle.lr_glob.specs.Turns.{VisitAdds, VisitsGive, VisitBroken}
use Rattle.lr_glob.proofs.Gathering.{gathers_more}

-- ---- one visit

pub visit_early : (dir : Path) (why : GlobStop) (cause : VisitStop) {o n : Option Journal} → why ≡ glob_stop cause dir → Left (NotVisited dir cause) o n → Left (VisitBroken dir why) o n
visit_early dir why cause e l = left_as l (λ ts h. VisitBroken.early cause e h)

pub visit_late : (dir : Path) (names : List (List ℕ)) {o n : Option Journal} → Left (Visited dir names) o n → Left (VisitBroken dir stop.Memory) o n
visit_late dir names l = left_as l (λ ts v. VisitBroken.late v.visit v.at refl v.entries)

pub visit_adds : (part : List ℕ) (dir : Path) (names : List (List ℕ)) (before now : List Path) {o n : Option Journal} → Left (Visited dir names) o n → AddsPaths (Gathers (PickOf part dir) names) before now → Left (VisitAdds part dir before now) o n
visit_adds part dir names before now l a = left_as l (λ ts v. record {
  visit = v.visit;
  at = v.at;
  adds = (a.0, subst (λ d. Gathers (PickOf part d) (visit_names v.visit) a.0) (sym v.at) (subst (λ ns. Gathers (PickOf part dir) ns a.0) (sym v.names_are) a.1), a.2);
  entries = v.entries;
})

-- ---- one after another

abbrev dir_of : WordVisit → Path
dir_of v = v.dir

pub gives_none : (part : List ℕ) (paths : List Path) (o : Option Journal) → paths ≡ [] → Left (VisitsGive part [] paths) o o
gives_none part paths o e = left_first (VisitsGive part [] paths) o (record { visits = []; each = refl; gave = subst (Gathers (Picks part) []) (sym e) Gathers.none; entries = refl })

dirs_more : (visits : List WordVisit) (v : WordVisit) (done : List Path) (dir : Path) → map dir_of visits ≡ done → v.dir ≡ dir → map dir_of (visits ++ v ∷ []) ≡ done ++ dir ∷ []
dirs_more visits v done dir e at = map-append dir_of visits (v ∷ []) ∙ (ap (λ ds. ds ++ v.dir ∷ []) e ∙ ap (λ d. done ++ d ∷ []) at)

entries_more : (visits : List WordVisit) (v : WordVisit) (xs ys : List Entry) → xs ≡ flat_map visit_entries visits → ys ≡ visit_entries v → xs ++ ys ≡ flat_map visit_entries (visits ++ v ∷ [])
entries_more visits v xs ys ex ey = ap (λ us. us ++ ys) ex ∙ (ap (λ us. flat_map visit_entries visits ++ us) (ey ∙ sym (append-nil (visit_entries v))) ∙ sym (flat_map-append visit_entries visits (v ∷ [])))

pub gives_more : (part : List ℕ) (done before now : List Path) (dir : Path) {o m n : Option Journal} → Left (VisitsGive part done before) o m → Left (VisitAdds part dir before now) m n → Left (VisitsGive part (done ++ dir ∷ []) now) o n
gives_more part done before now dir l k = left_then l k (λ xs ys g a. record {
  visits = g.visits ++ a.visit ∷ [];
  each = dirs_more g.visits a.visit done dir g.each a.at;
  gave = subst (Gathers (Picks part) (g.visits ++ a.visit ∷ [])) (sym a.adds.2) (gathers_more (Picks part) g.visits before a.visit a.adds.0 g.gave a.adds.1);
  entries = entries_more g.visits a.visit xs ys g.entries a.entries;
})

broken_by : (part : List ℕ) (all done before rest : List Path) (dir : Path) (why : GlobStop) (xs ys : List Entry) → all ≡ done ++ dir ∷ rest → VisitsGive part done before xs → VisitBroken dir why ys → RoundBroken all why (xs ++ ys)
broken_by part all done before rest dir why xs ys e g (VisitBroken.early cause is h) = inl (record {
  visits = g.visits;
  dir = dir;
  after = rest;
  each = e ∙ ap (λ ds. ds ++ dir ∷ rest) (sym g.each);
  cause = cause;
  told = is;
  entries = record { front = xs; back = ys; joined = refl; first = g.entries; second = h };
})
broken_by part all done before rest dir why xs ys e g (VisitBroken.late v at is h) = inr (record {
  visits = g.visits ++ v ∷ [];
  after = rest;
  each = e ∙ (sym (append_assoc done (dir ∷ []) rest) ∙ ap (λ ds. ds ++ rest) (sym (dirs_more g.visits v done dir g.each at)));
  told = is;
  entries = entries_more g.visits v xs ys g.entries h;
})

pub round_broken : (part : List ℕ) (all done before rest : List Path) (dir : Path) (why : GlobStop) {o m n : Option Journal} → all ≡ done ++ dir ∷ rest → Left (VisitsGive part done before) o m → Left (VisitBroken dir why) m n → Left (RoundBroken all why) o n
round_broken part all done before rest dir why e l k = left_then l k (λ xs ys g b. broken_by part all done before rest dir why xs ys e g b)

-- ---- one part

followed_by : (part : List ℕ) (dirs paths : List Path) (round : Round) (b : Bool) → is_wildcard part ≡ b → FollowsBy b part dirs round paths → FollowsPart part dirs round paths
followed_by part dirs paths round b e f = subst (λ c. FollowsBy c part dirs round paths) (sym e) f

pub asked_told : {T : Type 0} (items : T → List Path) (part : List ℕ) (dirs : List Path) (r : Result T GlobStop) (o n : Option Journal) → is_wildcard part ≡ true → IfOk r (λ p. Left (VisitsGive part dirs (items p)) o n) → IfOk r (λ p. Left (Followed part dirs (items p)) o n)
asked_told items part dirs (Ok p) o n wild l = left_as l (λ ts g. record { round = Asked g.visits; follows = followed_by part dirs (items p) (Asked g.visits) true wild (g.each, g.gave); entries = g.entries })
asked_told items part dirs (Err e) o n wild l = tt

pub asked_stopped : {T : Type 0} (part : List ℕ) (dirs : List Path) (r : Result T GlobStop) (o n : Option Journal) → is_wildcard part ≡ true → IfErr r (λ why. Left (RoundBroken dirs why) o n) → IfErr r (λ why. Left (NotFollowed part dirs why) o n)
asked_stopped part dirs (Ok p) o n wild l = tt
asked_stopped part dirs (Err e) o n wild l = left_as l (λ ts b. record { asked = inl (wild, b) })

pub went_told : (part : List ℕ) (dirs paths : List Path) (o : Option Journal) → is_wildcard part ≡ false → Gathers (λ dir its. JoinOf dir (literal_path part) its) dirs paths → Left (Followed part dirs paths) o o
went_told part dirs paths o plain g = left_first (Followed part dirs paths) o (record { round = Went; follows = followed_by part dirs paths Went false plain g; entries = refl })

pub went_stopped : (part : List ℕ) (dirs : List Path) (o : Option Journal) → Left (NotFollowed part dirs stop.Memory) o o
went_stopped part dirs o = left_first (NotFollowed part dirs stop.Memory) o (record { asked = inr (refl, refl) })
