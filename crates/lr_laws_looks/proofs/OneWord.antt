-- What entries fix of what a word came to.
use Rattle.std.proofs.Common.{◌≡◌, ◌⊎◌, inl, inr, ℕ, Bool, true, false, cond, true≢false, List, [], ◌∷◌, ◌++◌, map, refl, sym, ap, ◌∙◌, subst, append_assoc, Option, None, Result}
use Rattle.std.specs.Prelude.{flat_map, filter}
use Rattle.std.specs.Str.{chars}
use Rattle.lr_rules.specs.declared.path.Path.{Path}
use Rattle.lr_rules.specs.Match.{Matches, is_wildcard, literal_path}
use Rattle.lr_rules.specs.Path.{path_fault, joined, root}
use Rattle.lr_rules.proofs.Heads.{heads, tails}
use Rattle.lr_host.specs.declared.thing.Seen.{Seen}
use Rattle.lr_host.specs.declared.entry.Entry.{Entry}
use Rattle.lr_host.specs.declared.entry.Entry.TheVariants as entry
use Rattle.lr_host.specs.Looks.{Sees, is_dir, PathSight, look_of}
use Rattle.lr_host.proofs.Fronts.{front_same, saw_same, names_same}
use Rattle.lr_glob.specs.declared.found.Found.{Found}
use Rattle.lr_glob.specs.declared.found.GlobStop.{GlobStop}
use Rattle.lr_glob.specs.Gathers.{Gathers}
use Rattle.lr_glob.specs.Parts.{JoinOf, PickOf, parts_in}
use Rattle.lr_glob.specs.Visits.{WordVisit, visit_names, visit_entries}
use Rattle.lr_glob.specs.Rounds.{Round, Went, Asked, round_entries, Picks, FollowsBy, FollowsPart, Leads, there, on, Led}
use Rattle.lr_glob.specs.Sights.{InOrder, found_file, seen_at, is_whole, judged, LookedAt}
use Rattle.lr_glob.specs.Words.{SearchThen, WordGave, Comes}
use Rattle.lr_laws_looks.proofs.OneOrder.{one_order}

-- ---- entries, taken apart from the front

-- Of two parts at the front of the same entries: what they came to, the entries, and what comes behind.
pub record AreOne (A : Type 0) (a b : A) (ts us vs ws : List Entry) : Type 0 where
  pub came : a ≡ b
  pub left : ts ≡ us
  pub behind : vs ≡ ws

-- ---- what each of a list gives

abbrev IsFixed : {X : Type 0} → (X → List Path → Type 0) → Type 0
IsFixed {X} P = (x : X) (its more : List Path) → P x its → P x more → its ≡ more

abbrev GathersBy : {X : Type 0} → (X → List Path → Type 0) → List X → List Path → Type 0
GathersBy P [] paths = paths ≡ []
GathersBy P (x ∷ xs) paths = (its rest : List Path) × (paths ≡ its ++ rest) × P x its × GathersBy P xs rest

by_each : {X : Type 0} (P : X → List Path → Type 0) (xs : List X) (paths : List Path) → Gathers P xs paths → GathersBy P xs paths
by_each P _ _ Gathers.none = refl
by_each P _ _ (Gathers.more x xs its paths p g) = (its, paths, refl, p, by_each P xs paths g)

gathered_by : {X : Type 0} (P : X → List Path → Type 0) → IsFixed P → (xs : List X) (a b : List Path) → GathersBy P xs a → GathersBy P xs b → a ≡ b
gathered_by P one [] a b g h = g ∙ sym h
gathered_by P one (x ∷ xs) a b g h = g.2 ∙ (ap (λ t. t ++ g.1) (one x g.0 h.0 g.3 h.3) ∙ (ap (λ t. h.0 ++ t) (gathered_by P one xs g.1 h.1 g.4 h.4) ∙ sym h.2))

gathered : {X : Type 0} (P : X → List Path → Type 0) → IsFixed P → (xs : List X) (a b : List Path) → Gathers P xs a → Gathers P xs b → a ≡ b
gathered P one xs a b g h = gathered_by P one xs a b (by_each P xs a g) (by_each P xs b h)

-- ---- a name

abbrev JoinBy : Path → List ℕ → List Path → Type 0
JoinBy dir name its = ((path_fault (joined dir name) ≡ None) × (its ≡ joined dir name ∷ [])) ⊎ ((path_fault (joined dir name) ≡ None → ⊥) × (its ≡ []))

join_by : (dir : Path) (name : List ℕ) (its : List Path) → JoinOf dir name its → JoinBy dir name its
join_by dir name _ (JoinOf.is_path v) = inl (v, refl)
join_by dir name _ (JoinOf.no_path n) = inr (n, refl)

join_both : (dir : Path) (name : List ℕ) (a b : List Path) → JoinBy dir name a → JoinBy dir name b → a ≡ b
join_both dir name a b (inl g) (inl h) = g.1 ∙ sym h.1
join_both dir name a b (inl g) (inr h) = absurd (h.0 g.0)
join_both dir name a b (inr g) (inl h) = absurd (g.0 h.0)
join_both dir name a b (inr g) (inr h) = g.1 ∙ sym h.1

join_one : (dir : Path) (name : List ℕ) (a b : List Path) → JoinOf dir name a → JoinOf dir name b → a ≡ b
join_one dir name a b g h = join_both dir name a b (join_by dir name a g) (join_by dir name b h)

abbrev PickBy : List ℕ → Path → List ℕ → List Path → Type 0
PickBy part dir name its = (Matches true (chars part) (chars name) × JoinOf dir name its) ⊎ ((Matches true (chars part) (chars name) → ⊥) × (its ≡ []))

pick_by : (part : List ℕ) (dir : Path) (name : List ℕ) (its : List Path) → PickOf part dir name its → PickBy part dir name its
pick_by part dir name _ (PickOf.matched paths m j) = inl (m, j)
pick_by part dir name _ (PickOf.other n) = inr (n, refl)

pick_both : (part : List ℕ) (dir : Path) (name : List ℕ) (a b : List Path) → PickBy part dir name a → PickBy part dir name b → a ≡ b
pick_both part dir name a b (inl g) (inl h) = join_one dir name a b g.1 h.1
pick_both part dir name a b (inl g) (inr h) = absurd (h.0 g.0)
pick_both part dir name a b (inr g) (inl h) = absurd (g.0 h.0)
pick_both part dir name a b (inr g) (inr h) = g.1 ∙ sym h.1

pick_one : (part : List ℕ) (dir : Path) → IsFixed (PickOf part dir)
pick_one part dir name a b g h = pick_both part dir name a b (pick_by part dir name a g) (pick_by part dir name b h)

picks_one : (part : List ℕ) (dir other : Path) (names more : List (List ℕ)) (a b : List Path) → dir ≡ other → names ≡ more → Gathers (PickOf part dir) names a → Gathers (PickOf part other) more b → a ≡ b
picks_one part dir other names more a b d e g h = gathered (PickOf part dir) (pick_one part dir) names a b g (subst (λ x. Gathers (PickOf part x) names b) (sym d) (subst (λ ns. Gathers (PickOf part other) ns b) (sym e) h))

-- ---- a visit

one_listing : (b c : Bool) → b ≡ c → (d f : Path) (l m : List (List ℕ)) (vs ws : List Entry) → d ≡ f → cond b (entry.List d l ∷ []) [] ++ vs ≡ cond c (entry.List f m ∷ []) [] ++ ws
    → AreOne (List (List ℕ)) (cond b l []) (cond c m []) (cond b (entry.List d l ∷ []) []) (cond c (entry.List f m ∷ []) []) vs ws
one_listing true true s d f l m vs ws p e =
    let one = heads (entry.List d l) (entry.List f m) vs ws e in
    record { came = names_same d f l m one; left = ap (λ x. x ∷ []) one; behind = tails (entry.List d l) (entry.List f m) vs ws e }
one_listing true false s d f l m vs ws p e = absurd (true≢false s)
one_listing false true s d f l m vs ws p e = absurd (true≢false (sym s))
one_listing false false s d f l m vs ws p e = record { came = refl; left = refl; behind = e }

one_visit : (v w : WordVisit) (vs ws : List Entry) → v.dir ≡ w.dir → visit_entries v ++ vs ≡ visit_entries w ++ ws → AreOne (List (List ℕ)) (visit_names v) (visit_names w) (visit_entries v) (visit_entries w) vs ws
one_visit v w vs ws d e =
    let one = heads (entry.Look v.dir v.seen) (entry.Look w.dir w.seen) (cond (is_dir v.seen) (entry.List v.dir v.listed ∷ []) [] ++ vs) (cond (is_dir w.seen) (entry.List w.dir w.listed ∷ []) [] ++ ws) e in
    let rest = tails (entry.Look v.dir v.seen) (entry.Look w.dir w.seen) (cond (is_dir v.seen) (entry.List v.dir v.listed ∷ []) [] ++ vs) (cond (is_dir w.seen) (entry.List w.dir w.listed ∷ []) [] ++ ws) e in
    let same = one_listing (is_dir v.seen) (is_dir w.seen) (ap is_dir (saw_same v.dir w.dir v.seen w.seen one)) v.dir w.dir v.listed w.listed vs ws d rest in
    record {
      came = same.came;
      left = ap (λ x. x ∷ cond (is_dir v.seen) (entry.List v.dir v.listed ∷ []) []) one ∙ ap (λ xs. entry.Look w.dir w.seen ∷ xs) same.left;
      behind = same.behind;
    }

visits_one : (part : List ℕ) (xs ys : List WordVisit) (a b : List Path) (vs ws : List Entry) → map (λ v. v.dir) xs ≡ map (λ v. v.dir) ys → GathersBy (Picks part) xs a → GathersBy (Picks part) ys b → flat_map visit_entries xs ++ vs ≡ flat_map visit_entries ys ++ ws
    → AreOne (List Path) a b (flat_map visit_entries xs) (flat_map visit_entries ys) vs ws
visits_one part [] [] a b vs ws m g h e = record { came = g ∙ sym h; left = refl; behind = e }
visits_one part [] (y ∷ ys) a b vs ws m g h e = absurd (cc m)
visits_one part (x ∷ xs) [] a b vs ws m g h e = absurd (cc m)
visits_one part (x ∷ xs) (y ∷ ys) a b vs ws m g h e =
    let d : x.dir ≡ y.dir = cc m in
    let ds : map (λ v. v.dir) xs ≡ map (λ v. v.dir) ys = cc m in
    let one = one_visit x y (flat_map visit_entries xs ++ vs) (flat_map visit_entries ys ++ ws) d (sym (append_assoc (visit_entries x) (flat_map visit_entries xs) vs) ∙ (e ∙ append_assoc (visit_entries y) (flat_map visit_entries ys) ws)) in
    let rest = visits_one part xs ys g.1 h.1 vs ws ds g.4 h.4 one.behind in
    record {
      came = g.2 ∙ (ap (λ t. t ++ g.1) (picks_one part x.dir y.dir (visit_names x) (visit_names y) g.0 h.0 d one.came g.3 h.3) ∙ (ap (λ t. h.0 ++ t) rest.came ∙ sym h.2));
      left = ap (λ t. t ++ flat_map visit_entries xs) one.left ∙ ap (λ t. visit_entries y ++ t) rest.left;
      behind = rest.behind;
    }

-- ---- the parts

round_by : (wild : Bool) (part : List ℕ) (dirs : List Path) (r s : Round) (a b : List Path) (vs ws : List Entry) → FollowsBy wild part dirs r a → FollowsBy wild part dirs s b → round_entries r ++ vs ≡ round_entries s ++ ws
    → AreOne (List Path) a b (round_entries r) (round_entries s) vs ws
round_by true part dirs (Asked xs) (Asked ys) a b vs ws g h e = visits_one part xs ys a b vs ws (g.0 ∙ sym h.0) (by_each (Picks part) xs a g.1) (by_each (Picks part) ys b h.1) e
round_by true part dirs (Asked xs) Went a b vs ws g h e = absurd h
round_by true part dirs Went s a b vs ws g h e = absurd g
round_by false part dirs Went Went a b vs ws g h e = record { came = gathered (λ dir its. JoinOf dir (literal_path part) its) (λ dir. join_one dir (literal_path part)) dirs a b g h; left = refl; behind = e }
round_by false part dirs Went (Asked ys) a b vs ws g h e = absurd h
round_by false part dirs (Asked xs) s a b vs ws g h e = absurd g

abbrev pub LeadsBy : List (List ℕ) → List Path → List Round → List Path → Type 0
LeadsBy [] dirs rounds paths = (rounds ≡ []) × (paths ≡ dirs)
LeadsBy (part ∷ parts) dirs rounds paths = (between : List Path) × (round : Round) × (rest : List Round) × (rounds ≡ round ∷ rest) × FollowsPart part dirs round between × LeadsBy parts between rest paths

pub leads_by : (parts : List (List ℕ)) (dirs : List Path) (rounds : List Round) (paths : List Path) → Leads parts dirs rounds paths → LeadsBy parts dirs rounds paths
leads_by _ _ _ _ (there dirs) = (refl, refl)
leads_by _ _ _ _ (on part parts dirs between paths round rounds f l) = (between, round, rounds, refl, f, leads_by parts between rounds paths l)

leads_one : (parts : List (List ℕ)) (dirs : List Path) (rs ss : List Round) (a b : List Path) (vs ws : List Entry) → LeadsBy parts dirs rs a → LeadsBy parts dirs ss b → flat_map round_entries rs ++ vs ≡ flat_map round_entries ss ++ ws
    → AreOne (List Path) a b (flat_map round_entries rs) (flat_map round_entries ss) vs ws
leads_one [] dirs rs ss a b vs ws g h e = record {
  came = g.1 ∙ sym h.1;
  left = ap (λ (l : List Round). flat_map round_entries l) (g.0 ∙ sym h.0);
  behind = front_same (flat_map round_entries rs) (flat_map round_entries ss) [] [] vs ws (ap (λ (l : List Round). flat_map round_entries l) g.0) (ap (λ (l : List Round). flat_map round_entries l) h.0) e;
}
leads_one (part ∷ parts) dirs rs ss a b vs ws g h e =
    let split = front_same (flat_map round_entries rs) (flat_map round_entries ss) (flat_map round_entries (g.1 ∷ g.2)) (flat_map round_entries (h.1 ∷ h.2)) vs ws (ap (λ (l : List Round). flat_map round_entries l) g.3) (ap (λ (l : List Round). flat_map round_entries l) h.3) e in
    let one = round_by (is_wildcard part) part dirs g.1 h.1 g.0 h.0 (flat_map round_entries g.2 ++ vs) (flat_map round_entries h.2 ++ ws) g.4 h.4
    (sym (append_assoc (round_entries g.1) (flat_map round_entries g.2) vs) ∙ (split ∙ append_assoc (round_entries h.1) (flat_map round_entries h.2) ws)) in
    let rest = leads_one parts g.0 g.2 h.2 a b vs ws g.5 (subst (λ d. LeadsBy parts d h.2 b) (sym one.came) h.5) one.behind in
    record {
      came = rest.came;
      left = ap (λ (l : List Round). flat_map round_entries l) g.3 ∙ (ap (λ t. t ++ flat_map round_entries g.2) one.left ∙ (ap (λ t. round_entries h.1 ++ t) rest.left ∙ sym (ap (λ (l : List Round). flat_map round_entries l) h.3)));
      behind = rest.behind;
    }

led_one : (parts : List (List ℕ)) (dirs a b : List Path) (ts us vs ws : List Entry) → Led parts dirs a ts → Led parts dirs b us → ts ++ vs ≡ us ++ ws → AreOne (List Path) a b ts us vs ws
led_one parts dirs a b ts us vs ws g h e =
    let one = leads_one parts dirs g.rounds h.rounds a b vs ws (leads_by parts dirs g.rounds a g.leads) (leads_by parts dirs h.rounds b h.leads) (front_same ts us (flat_map round_entries g.rounds) (flat_map round_entries h.rounds) vs ws g.entries h.entries e) in
    record { came = one.came; left = g.entries ∙ (one.left ∙ sym h.entries); behind = one.behind }

-- ---- looks

pub sight_same : (s t : PathSight) → s.path ≡ t.path → s.seen ≡ t.seen → s ≡ t
sight_same s t p q =
    let made : Path → Option Seen → PathSight = λ (x : Path) (y : Option Seen). record { path = x; seen = y } in
    ap (λ (x : Path). made x s.seen) p ∙ ap (λ (y : Option Seen). made t.path y) q

sights_one : (ss ts : List PathSight) (vs ws : List Entry) → map (λ s. s.path) ss ≡ map (λ s. s.path) ts → map look_of ss ++ vs ≡ map look_of ts ++ ws → (ss ≡ ts) × (vs ≡ ws)
sights_one [] [] vs ws m e = (refl, e)
sights_one [] (t ∷ ts) vs ws m e = absurd (cc m)
sights_one (s ∷ ss) [] vs ws m e = absurd (cc m)
sights_one (s ∷ ss) (t ∷ ts) vs ws m e =
    let d : s.path ≡ t.path = cc m in
    let ds : map (λ x. x.path) ss ≡ map (λ x. x.path) ts = cc m in
    let one = heads (look_of s) (look_of t) (map look_of ss ++ vs) (map look_of ts ++ ws) e in
    let rest = sights_one ss ts vs ws ds (tails (look_of s) (look_of t) (map look_of ss ++ vs) (map look_of ts ++ ws) e) in
    (ap (λ x. x ∷ ss) (sight_same s t d (saw_same s.path t.path s.seen t.seen one)) ∙ ap (λ xs. t ∷ xs) rest.0, rest.1)

looked_one : (paths others : List Path) (a b : List Found) (ts us vs ws : List Entry) → paths ≡ others → LookedAt paths a ts → LookedAt others b us → ts ++ vs ≡ us ++ ws → AreOne (List Found) a b ts us vs ws
looked_one paths others a b ts us vs ws p g h e =
    let one = sights_one g.sights h.sights vs ws (g.each ∙ (p ∙ sym h.each)) (front_same ts us (map look_of g.sights) (map look_of h.sights) vs ws g.looks h.looks e) in
    record {
      came = g.found_are ∙ (ap (λ (l : List PathSight). flat_map found_file l) one.0 ∙ sym h.found_are);
      left = g.looks ∙ (ap (λ (l : List PathSight). map look_of l) one.0 ∙ sym h.looks);
      behind = one.1;
    }

-- ---- the word

search_one : (word : List ℕ) (a b : List Found) (ts us vs ws : List Entry) → SearchThen word (λ ordered es. LookedAt ordered a es) ts → SearchThen word (λ ordered es. LookedAt ordered b es) us → ts ++ vs ≡ us ++ ws → AreOne (List Found) a b ts us vs ws
search_one word a b ts us vs ws g h e =
    let x = g.entries in
    let y = h.entries in
    let split = front_same ts us (x.front ++ x.back) (y.front ++ y.back) vs ws x.joined y.joined e in
    let led = led_one (parts_in word) (root ∷ []) g.paths h.paths x.front y.front (x.back ++ vs) (y.back ++ ws) x.first y.first (sym (append_assoc x.front x.back vs) ∙ (split ∙ append_assoc y.front y.back ws)) in
    let same = one_order (filter is_whole h.paths) g.ordered h.ordered (subst (λ (l : List Path). InOrder (filter is_whole l) g.ordered) led.came g.order) h.order in
    let looked = looked_one g.ordered h.ordered a b x.back y.back vs ws same x.second y.second led.behind in
    record {
      came = looked.came;
      left = x.joined ∙ (ap (λ t. t ++ x.back) led.left ∙ (ap (λ t. y.front ++ t) looked.left ∙ sym y.joined));
      behind = looked.behind;
    }

look_one : (path : Path) (a b : List Found) (ts us vs ws : List Entry) → Sees path (λ seen. a ≡ seen_at path seen) ts → Sees path (λ seen. b ≡ seen_at path seen) us → ts ++ vs ≡ us ++ ws → AreOne (List Found) a b ts us vs ws
look_one path a b ts us vs ws g h e =
    let split = front_same ts us (entry.Look path g.seen ∷ []) (entry.Look path h.seen ∷ []) vs ws g.look h.look e in
    let one = heads (entry.Look path g.seen) (entry.Look path h.seen) vs ws split in
    record {
      came = g.is ∙ (ap (seen_at path) (saw_same path path g.seen h.seen one) ∙ sym h.is);
      left = g.look ∙ (ap (λ x. x ∷ []) one ∙ sym h.look);
      behind = tails (entry.Look path g.seen) (entry.Look path h.seen) vs ws split;
    }

nothing_one : (a b : List Found) (ts us vs ws : List Entry) → a ≡ [] → b ≡ [] → ts ≡ [] → us ≡ [] → ts ++ vs ≡ us ++ ws → AreOne (List Found) a b ts us vs ws
nothing_one a b ts us vs ws p q r s e = record { came = p ∙ sym q; left = r ∙ sym s; behind = front_same ts us [] [] vs ws r s e }

gave_one : (word : List ℕ) (a b : List Found) (ts us vs ws : List Entry) → (is_wildcard word ≡ false → path_fault (literal_path word) ≡ None) → WordGave word a ts → WordGave word b us → ts ++ vs ≡ us ++ ws → AreOne (List Found) a b ts us vs ws
gave_one word a b ts us vs ws valid (WordGave.literal p g) (WordGave.literal q h) e = look_one (literal_path word) a b ts us vs ws g h e
gave_one word a b ts us vs ws valid (WordGave.literal p g) (WordGave.no_path q n f r) e = absurd (n (valid p))
gave_one word a b ts us vs ws valid (WordGave.literal p g) (WordGave.wildcard q x h) e = absurd (true≢false (sym q ∙ p))
gave_one word a b ts us vs ws valid (WordGave.literal p g) (WordGave.relative q x f r) e = absurd (true≢false (sym q ∙ p))
gave_one word a b ts us vs ws valid (WordGave.no_path p n f r) _ e = absurd (n (valid p))
gave_one word a b ts us vs ws valid (WordGave.wildcard p x g) (WordGave.literal q h) e = absurd (true≢false (sym p ∙ q))
gave_one word a b ts us vs ws valid (WordGave.wildcard p x g) (WordGave.no_path q n f r) e = absurd (n (valid q))
gave_one word a b ts us vs ws valid (WordGave.wildcard p x g) (WordGave.wildcard q y h) e = search_one word a b ts us vs ws g h e
gave_one word a b ts us vs ws valid (WordGave.wildcard p x g) (WordGave.relative q y f r) e = absurd (true≢false (sym x ∙ y))
gave_one word a b ts us vs ws valid (WordGave.relative p x f r) (WordGave.literal q h) e = absurd (true≢false (sym p ∙ q))
gave_one word a b ts us vs ws valid (WordGave.relative p x f r) (WordGave.no_path q n g s) e = absurd (n (valid q))
gave_one word a b ts us vs ws valid (WordGave.relative p x f r) (WordGave.wildcard q y h) e = absurd (true≢false (sym y ∙ x))
gave_one word a b ts us vs ws valid (WordGave.relative p x f r) (WordGave.relative q y g s) e = nothing_one a b ts us vs ws f g r s e

pub comes_one : (word : List ℕ) (room : ℕ) (one other : Result (List Found) GlobStop) (ts us vs ws : List Entry) → (is_wildcard word ≡ false → path_fault (literal_path word) ≡ None) → Comes word room one ts → Comes word room other us → ts ++ vs ≡ us ++ ws
    → (one ≡ other) × (ts ≡ us) × (vs ≡ ws)
comes_one word room one other ts us vs ws valid g h e =
    let same = gave_one word g.all h.all ts us vs ws valid g.gave h.gave e in
    (sym g.is ∙ (ap (judged room) same.came ∙ h.is), same.left, same.behind)
