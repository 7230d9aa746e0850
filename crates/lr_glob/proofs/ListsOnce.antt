-- A call lists a directory once.
use Rattle.std.proofs.Common.{◌≡◌, ◌⊎◌, inl, inr, ⊎_elim, ℕ, suc, ◌+◌, ◌≤◌, Bool, true, false, cond, List, [], ◌∷◌, ◌++◌, length, map, reverse, refl, sym, ap, ◌∙◌, subst, append_assoc, length-append, arith, Option, Result}
use Rattle.std.specs.Prelude.{flat_map, filter, bytes_eq}
use Rattle.std.proofs.lemmas.List.{append-nil}
use Rattle.std.proofs.lemmas.List.Elements.{filter-append}
use Rattle.std.proofs.lemmas.Slice.Eq.{bytes_eq-Decides}
use Rattle.lr_rules.specs.declared.path.Path.{Path}
use Rattle.lr_rules.specs.declared.fault.CallKind.{CallKind}
use Rattle.lr_rules.specs.Match.{is_wildcard, literal_path}
use Rattle.lr_rules.specs.Path.{root}
use Rattle.lr_host.specs.declared.thing.Seen.{Seen}
use Rattle.lr_host.specs.declared.entry.Entry.{Entry}
use Rattle.lr_host.specs.declared.entry.Entry.TheVariants as entry
use Rattle.lr_host.specs.Fits.{Fits}
use Rattle.lr_host.specs.Lists.{IsIn, IsNotIn, AreDistinct}
use Rattle.lr_host.specs.Looks.{Sees, IsDir, is_dir, PathSight, look_of}
use Rattle.lr_host.specs.Told.{Each, Then, Made, at_first, by_writer, by_tool}
use Rattle.lr_host.specs.World.{Past, World, world}
use Rattle.lr_host.proofs.Each.{each_first, each_map, each_reverse, none_pass, each_last}
use Rattle.lr_host.proofs.Lists.{in_front, in_to}
use Rattle.lr_glob.specs.declared.found.Found.{Found}
use Rattle.lr_glob.specs.declared.found.GlobStop.{GlobStop}
use Rattle.lr_glob.specs.declared.found.GlobStop.TheVariants as stop
use Rattle.lr_glob.specs.declared.visit.VisitStop.{VisitStop}
use Rattle.lr_glob.specs.declared.visit.VisitStop.TheVariants as visit
use Rattle.lr_glob.specs.Gathers.{Gathers}
use Rattle.lr_glob.specs.Listings.{is_listing_of, listings_of}
use Rattle.lr_glob.specs.Parts.{JoinOf, parts_in}
use Rattle.lr_glob.specs.Visits.{WordVisit, visit_names, visit_entries}
use Rattle.lr_glob.specs.Rounds.{Picks, Round, Went, Asked, round_entries, FollowsBy, Leads, Led}
use Rattle.lr_glob.specs.Stops.{NotVisited, RoundBroken, NotFollowed, NotLed}
use Rattle.lr_glob.specs.Words.{WordGave, Comes, Stopped, WordBegun, WordCallFailed, SearchThen}
use Rattle.lr_glob.proofs.Levels.{IsAt, at_one, level_of, level_on}
use Rattle.lr_glob.proofs.Apart.{AreNames, AllAt, AreTrue, dir_of, differs, joins_at, joins_once, picks_at, picks_once}

-- ---- true listings

-- a listing that is true has different names, each of which can stand behind a slash
abbrev pub IsTrue : Entry → Type 0
IsTrue (entry.List dir listed) = AreNames listed
IsTrue _ = Unit {0}

true_entry : (w : World) (e : Entry) → Fits w e → IsTrue e
true_entry w (entry.List dir listed) f = record { once = f.1.once; parts = λ name i. ((f.1.all name).0 (in_to name listed i)).0 }
true_entry w _ f = tt

true_entries : (p q : Past) (es : List Entry) → Made p es q → Each IsTrue es
true_entries p _ _ at_first = tt
true_entries p _ es (by_writer {q = q} m i f) = true_entries p q es m
true_entries p _ _ (by_tool {es = es} {q = q} {e = e} m i f) = (true_entry (world q) e f, true_entries p q es m)

visit_true : (v : WordVisit) → Each IsTrue (visit_entries v) → AreNames (visit_names v)
visit_true v a = by (is_dir v.seen) a.1
  where
    by : (b : Bool) → Each IsTrue (cond b (entry.List v.dir v.listed ∷ []) []) → AreNames (cond b v.listed [])
    by true t = t.0
    by false t = record { once = tt; parts = λ name i. absurd i }

pub visits_true : (visits : List WordVisit) → Each IsTrue (flat_map visit_entries visits) → AreTrue visits
visits_true [] a v i = absurd i
visits_true (w ∷ visits) a v (inl e) = subst (λ x. AreNames (visit_names x)) e (visit_true w (each_first IsTrue (visit_entries w) (flat_map visit_entries visits) a))
visits_true (w ∷ visits) a v (inr i) = visits_true visits (each_last IsTrue (visit_entries w) (flat_map visit_entries visits) a) v i

-- ---- counts

module _ (dir : Path) where
  count_both : (xs ys : List Entry) → listings_of dir (xs ++ ys) ≡ listings_of dir xs + listings_of dir ys
  count_both xs ys = ap (λ (es : List Entry). length es) (filter-append (is_listing_of dir) xs ys) ∙ length-append (filter (is_listing_of dir) xs) (filter (is_listing_of dir) ys)

  count_visit : (v : WordVisit) → listings_of dir (visit_entries v) ≤ 1
  count_visit v = by (is_dir v.seen)
    where
      one : (b : Bool) → length (cond b (entry.List v.dir v.listed ∷ []) []) ≤ 1
      one true = omega arith
      one false = omega arith

      by : (b : Bool) → listings_of dir (entry.Look v.dir v.seen ∷ cond b (entry.List v.dir v.listed ∷ []) []) ≤ 1
      by true = one (bytes_eq v.dir dir)
      by false = omega arith

  other_visit : (v : WordVisit) → bytes_eq v.dir dir ≡ false → listings_of dir (visit_entries v) ≡ 0
  other_visit v other = by (is_dir v.seen)
    where
      by : (b : Bool) → listings_of dir (entry.Look v.dir v.seen ∷ cond b (entry.List v.dir v.listed ∷ []) []) ≡ 0
      by true = ap (λ b. length (cond b (entry.List v.dir v.listed ∷ []) [])) other
      by false = refl

  -- The directory isn't listed; or it is one of these, and is listed once.
  record OnceOf (dirs : List Path) (ts : List Entry) : Type 0 where
    once : listings_of dir ts ≤ 1
    where_any : (listings_of dir ts ≡ 0) ⊎ IsIn dir dirs

  visits_once : (visits : List WordVisit) → AreDistinct (map dir_of visits) → OnceOf (map dir_of visits) (flat_map visit_entries visits)
  visits_once [] d = record { once = omega arith; where_any = inl refl }
  visits_once (v ∷ visits) d = by (bytes_eq v.dir dir) refl (visits_once visits d.1)
    where
      behind : v.dir ≡ dir → OnceOf (map dir_of visits) (flat_map visit_entries visits) → listings_of dir (flat_map visit_entries visits) ≡ 0
      behind e o = ⊎_elim (λ (z : listings_of dir (flat_map visit_entries visits) ≡ 0). z) (λ (i : IsIn dir (map dir_of visits)). absurd (differs v.dir dir (map dir_of visits) d.0 i e)) o.where_any

      by : (b : Bool) → bytes_eq v.dir dir ≡ b → OnceOf (map dir_of visits) (flat_map visit_entries visits) → OnceOf (map dir_of (v ∷ visits)) (flat_map visit_entries (v ∷ visits))
      by true e o =
          let same = (bytes_eq-Decides v.dir dir).0 e in
          let rest = behind same o in
          let here = count_visit v in
          let sum = count_both (visit_entries v) (flat_map visit_entries visits) in
          record { once = omega (arith, rest, here, sum); where_any = inr (inl same) }
      by false e o =
          let here = other_visit v e in
          let rest = o.once in
          let sum = count_both (visit_entries v) (flat_map visit_entries visits) in
          record { once = omega (arith, rest, here, sum); where_any = ⊎_elim (λ (z : listings_of dir (flat_map visit_entries visits) ≡ 0). inl (omega (arith, z, here, sum))) (λ (i : IsIn dir (map dir_of visits)). inr (inr i)) o.where_any }

  -- ---- the parts of a word

  -- The next part is followed in these directories, which are different and stand on one level; the entries so far list the directory once, and not at all where it stands as deep or deeper.
  record Stage (k : ℕ) (dirs : List Path) (ts : List Entry) : Type 0 where
    level : AllAt k dirs
    apart : AreDistinct dirs
    once : listings_of dir ts ≤ 1
    above : (j : ℕ) → k ≤ j → IsAt j dir → listings_of dir ts ≡ 0

  first_distinct : (xs ys : List Path) → AreDistinct (xs ++ ys) → AreDistinct xs
  first_distinct [] ys d = tt
  first_distinct (x ∷ xs) ys d = (first_not xs d.0, first_distinct xs ys d.1)
    where
      first_not : (zs : List Path) → IsNotIn x (zs ++ ys) → IsNotIn x zs
      first_not [] n = tt
      first_not (z ∷ zs) n = (n.0, first_not zs n.1)

  -- Visits of the first of these directories.
  record Turn (k : ℕ) (ts : List Entry) : Type 0 where
    once : listings_of dir ts ≤ 1
    above : (j : ℕ) → suc k ≤ j → IsAt j dir → listings_of dir ts ≡ 0

  turned : (k : ℕ) (dirs after : List Path) (ts : List Entry) (visits : List WordVisit) → dirs ≡ map dir_of visits ++ after → Stage k dirs ts → Turn k (ts ++ flat_map visit_entries visits)
  turned k dirs after ts visits e s = record {
    once = ⊎_elim (λ (z : listings_of dir us ≡ 0). let a = s.once in omega (arith, sum, z, a)) (λ (i : IsIn dir (map dir_of visits)). let a = s.above k (omega arith) (at i) in let b = o.once in omega (arith, sum, a, b)) o.where_any;
    above = λ j le is. ⊎_elim (λ (z : listings_of dir us ≡ 0). let a = s.above j (omega (arith, le)) is in omega (arith, sum, z, a)) (λ (i : IsIn dir (map dir_of visits)). let f = at_one k j dir (at i) is in absurd (omega (arith, f, le))) o.where_any;
  }
    where
      us : List Entry
      us = flat_map visit_entries visits

      o : OnceOf (map dir_of visits) (flat_map visit_entries visits)
      o = visits_once visits (first_distinct (map dir_of visits) after (subst (λ ds. AreDistinct ds) e s.apart))

      sum : listings_of dir (ts ++ flat_map visit_entries visits) ≡ listings_of dir ts + listings_of dir (flat_map visit_entries visits)
      sum = count_both ts (flat_map visit_entries visits)

      at : IsIn dir (map dir_of visits) → IsAt k dir
      at i = s.level dir (subst (IsIn dir) (sym e) (in_front dir (map dir_of visits) after i))

  -- A stage on some level.
  record Staged (dirs : List Path) (ts : List Entry) : Type 0 where
    k : ℕ
    stage : Stage k dirs ts

  asked : (k : ℕ) (part : List ℕ) (dirs paths : List Path) (ts : List Entry) (visits : List WordVisit) → map dir_of visits ≡ dirs → Gathers (Picks part) visits paths → Each IsTrue (flat_map visit_entries visits) → Stage k dirs ts → Staged paths (ts ++ flat_map visit_entries visits)
  asked k part dirs paths ts visits e g t s = record {
    k = suc k;
    stage = record {
      level = picks_at k part visits paths g true_ones (subst (AllAt k) (sym e) s.level);
      apart = picks_once k part visits paths g true_ones (subst (AllAt k) (sym e) s.level) (subst (λ ds. AreDistinct ds) (sym e) s.apart);
      once = turn.once;
      above = turn.above;
    };
  }
    where
      true_ones : AreTrue visits
      true_ones = visits_true visits t

      turn : Turn k (ts ++ flat_map visit_entries visits)
      turn = turned k dirs [] ts visits (sym e ∙ sym (append-nil (map dir_of visits))) s

  went : (k : ℕ) (name : List ℕ) (dirs paths : List Path) (ts : List Entry) → Gathers (λ dir its. JoinOf dir name its) dirs paths → Stage k dirs ts → Staged paths (ts ++ [])
  went k name dirs paths ts g s = subst (Staged paths) (sym (append-nil ts)) (record {
    k = level_of k name;
    stage = record {
      level = joins_at k name dirs paths g s.level;
      apart = joins_once k name dirs paths g s.level s.apart;
      once = s.once;
      above = λ j le is. let on = level_on k name in s.above j (omega (arith, le, on)) is;
    };
  })

  followed : (b : Bool) (part : List ℕ) (dirs paths : List Path) (round : Round) (ts : List Entry) → FollowsBy b part dirs round paths → Each IsTrue (round_entries round) → Staged dirs ts → Staged paths (ts ++ round_entries round)
  followed true part dirs paths (Asked visits) ts f t s = asked s.k part dirs paths ts visits f.0 f.1 t s.stage
  followed false part dirs paths Went ts f t s = went s.k (literal_path part) dirs paths ts f s.stage
  followed true part dirs paths Went ts f t s = absurd f
  followed false part dirs paths (Asked visits) ts f t s = absurd f

  leads : (parts : List (List ℕ)) (dirs paths : List Path) (rounds : List Round) (ts : List Entry) → Leads parts dirs rounds paths → Each IsTrue (flat_map round_entries rounds) → Staged dirs ts → Staged paths (ts ++ flat_map round_entries rounds)
  leads _ _ paths _ ts (Leads.there dirs) t s = subst (Staged dirs) (sym (append-nil ts)) s
  leads _ _ _ _ ts (Leads.on part parts dirs between paths round rounds f l) t s = subst (Staged paths) (append_assoc ts (round_entries round) (flat_map round_entries rounds))
      (leads parts between paths rounds (ts ++ round_entries round) l (each_last IsTrue (round_entries round) (flat_map round_entries rounds) t)
      (followed (is_wildcard part) part dirs between round ts f (each_first IsTrue (round_entries round) (flat_map round_entries rounds) t) s))

  at_root : Staged (root ∷ []) []
  at_root = record { k = 0; stage = record { level = λ d i. only d i; apart = (tt, tt); once = omega arith; above = λ j le is. refl } }
    where
      only : (d : Path) → IsIn d (root ∷ []) → d ≡ root
      only d (inl e) = sym e
      only d (inr i) = absurd i

  led : (parts : List (List ℕ)) (paths : List Path) (ts : List Entry) → Led parts (root ∷ []) paths ts → Each IsTrue ts → Staged paths ts
  led parts paths ts l t = subst (Staged paths) (sym l.entries) (leads parts (root ∷ []) paths l.rounds [] l.leads (subst (Each IsTrue) l.entries t) at_root)

  -- ---- a word

  count_as : (ts us : List Entry) → ts ≡ us → listings_of dir us ≡ 0 → listings_of dir ts ≡ 0
  count_as ts us e z = ap (listings_of dir) e ∙ z

  sees_none : (x : Path) (P : Option Seen → Type 0) (ts : List Entry) → Sees x P ts → listings_of dir ts ≡ 0
  sees_none x P ts s = count_as ts (entry.Look x s.seen ∷ []) s.look refl

  sights_none : (ts : List Entry) (sights : List PathSight) → ts ≡ map look_of sights → listings_of dir ts ≡ 0
  sights_none ts sights e = count_as ts (map look_of sights) e (ap (λ (es : List Entry). length es) (none_pass (is_listing_of dir) (map look_of sights) (each_map (λ e. is_listing_of dir e ≡ false) look_of sights (λ s. refl))))

  not_visited : (x : Path) (why : VisitStop) (ts : List Entry) → NotVisited x why ts → listings_of dir ts ≡ 0
  not_visited x visit.Look ts e = count_as ts [] e refl
  not_visited x visit.List ts s = sees_none x IsDir ts s
  not_visited x visit.Memory ts s = sees_none x IsDir ts s

  round_broken : (k : ℕ) (dirs : List Path) (why : GlobStop) (ts us : List Entry) → RoundBroken dirs why us → Stage k dirs ts → listings_of dir (ts ++ us) ≤ 1
  round_broken k dirs why ts us (inl b) s =
      let t = (turned k dirs (b.dir ∷ b.after) ts b.visits b.each s).once in
      let sum = count_both ts (flat_map visit_entries b.visits) in
      let front = ap (listings_of dir) b.entries.first in
      let back = not_visited b.dir b.cause b.entries.back b.entries.second in
      let both = ap (listings_of dir) b.entries.joined ∙ count_both b.entries.front b.entries.back in
      let all = count_both ts us in
      omega (arith, t, sum, front, back, both, all)
  round_broken k dirs why ts us (inr b) s = subst (λ vs. listings_of dir (ts ++ vs) ≤ 1) (sym b.entries) (turned k dirs b.after ts b.visits b.each s).once

  not_followed : (part : List ℕ) (dirs : List Path) (why : GlobStop) (ts us : List Entry) → NotFollowed part dirs why us → Staged dirs ts → listings_of dir (ts ++ us) ≤ 1
  not_followed part dirs why ts us n s = by n.asked
    where
      by : ((is_wildcard part ≡ true) × RoundBroken dirs why us) ⊎ ((why ≡ stop.Memory) × (us ≡ [])) → listings_of dir (ts ++ us) ≤ 1
      by (inl b) = round_broken s.k dirs why ts us b.1 s.stage
      by (inr b) = subst (λ vs. listings_of dir (ts ++ vs) ≤ 1) (sym b.1) (subst (λ vs. listings_of dir vs ≤ 1) (sym (append-nil ts)) s.stage.once)

  front_true : {P Q : List Entry → Type 0} (ts : List Entry) → Each IsTrue ts → (t : Then P Q ts) → Each IsTrue t.front
  front_true ts a t = each_first IsTrue t.front t.back (subst (Each IsTrue) t.joined a)

  not_led : (parts : List (List ℕ)) (why : GlobStop) (ts : List Entry) → Each IsTrue ts → NotLed parts (root ∷ []) why ts → listings_of dir ts ≤ 1
  not_led parts why ts a n = subst (λ us. listings_of dir us ≤ 1) (sym n.entries.joined)
      (not_followed n.part n.between why n.entries.front n.entries.back n.entries.second (led n.before n.between n.entries.front n.entries.first (front_true ts a n.entries)))

  searched : (word : List ℕ) (P : List Path → List Entry → Type 0) (ts : List Entry) → Each IsTrue ts → ((ordered : List Path) (us : List Entry) → P ordered us → listings_of dir us ≡ 0) → SearchThen word P ts → listings_of dir ts ≤ 1
  searched word P ts a f s =
      let front = (led (parts_in word) s.paths s.entries.front s.entries.first (front_true ts a s.entries)).stage.once in
      let back = f s.ordered s.entries.back s.entries.second in
      let both = ap (listings_of dir) s.entries.joined ∙ count_both s.entries.front s.entries.back in
      omega (arith, front, back, both)

  at_most : (ts : List Entry) → listings_of dir ts ≡ 0 → listings_of dir ts ≤ 1
  at_most ts z = omega (arith, z)

  gave_once : (word : List ℕ) (found : List Found) (ts : List Entry) → Each IsTrue ts → WordGave word found ts → listings_of dir ts ≤ 1
  gave_once word found ts a (WordGave.literal plain s) = at_most ts (sees_none _ _ ts s)
  gave_once word found ts a (WordGave.no_path plain other none e) = at_most ts (count_as ts [] e refl)
  gave_once word found ts a (WordGave.wildcard wild absolute s) = searched word _ ts a (λ ordered us l. sights_none us l.sights l.looks) s
  gave_once word found ts a (WordGave.relative wild relative none e) = at_most ts (count_as ts [] e refl)

  failed_once : (word : List ℕ) (kind : CallKind) (path : Path) (ts : List Entry) → Each IsTrue ts → WordCallFailed word kind path ts → listings_of dir ts ≤ 1
  failed_once word kind path ts a (WordCallFailed.at_literal plain k is e) = at_most ts (count_as ts [] e refl)
  failed_once word kind path ts a (WordCallFailed.at_visit wild n) = not_led _ _ ts a n
  failed_once word kind path ts a (WordCallFailed.at_look wild k s) = searched word _ ts a (λ ordered us l. sights_none us l.sights l.looks) s

  begun_once : (word : List ℕ) (ts : List Entry) → Each IsTrue ts → WordBegun word ts → listings_of dir ts ≤ 1
  begun_once word ts a (WordBegun.not_at_all e) = at_most ts (count_as ts [] e refl)
  begun_once word ts a (WordBegun.at_literal plain s) = at_most ts (sees_none _ _ ts s)
  begun_once word ts a (WordBegun.at_visit wild n) = not_led _ _ ts a n
  begun_once word ts a (WordBegun.between wild paths l) = (led (parts_in word) paths ts l a).stage.once
  begun_once word ts a (WordBegun.at_look wild s) = searched word _ ts a (λ ordered us l. sights_none us l.sights l.looks) s

  stopped_by : (word : List ℕ) (room : ℕ) (why : GlobStop) (ts : List Entry) → Each IsTrue ts → Stopped word room why ts → listings_of dir ts ≤ 1
  stopped_by word room (stop.Call kind path) ts a s = failed_once word kind path ts a s
  stopped_by word room stop.Memory ts a s = begun_once word ts a s
  stopped_by word room stop.LongName ts a s = gave_once word s.all ts a s.gave
  stopped_by word room stop.TooMany ts a s = gave_once word s.all ts a s.gave

-- no path stands twice among those to which the parts of a word lead
pub led_apart : (parts : List (List ℕ)) (paths : List Path) (ts : List Entry) → Led parts (root ∷ []) paths ts → Each IsTrue ts → AreDistinct paths
led_apart parts paths ts l t = (led root parts paths ts l t).stage.apart

pub made_true : (p q : Past) (es : List Entry) → Made p es q → Each IsTrue (reverse es)
made_true p q es m = each_reverse IsTrue es (true_entries p q es m)

pub comes_once : (p q : Past) (es : List Entry) (word : List ℕ) (room : ℕ) (result : Result (List Found) GlobStop) → Made p es q → Comes word room result (reverse es) → (dir : Path) → listings_of dir (reverse es) ≤ 1
comes_once p q es word room result m c dir = gave_once dir word c.all (reverse es) (made_true p q es m) c.gave

pub stopped_once : (p q : Past) (es : List Entry) (word : List ℕ) (room : ℕ) (why : GlobStop) → Made p es q → Stopped word room why (reverse es) → (dir : Path) → listings_of dir (reverse es) ≤ 1
stopped_once p q es word room why m s dir = stopped_by dir word room why (reverse es) (made_true p q es m) s
