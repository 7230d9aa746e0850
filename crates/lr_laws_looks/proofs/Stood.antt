-- What stood as a call began, it found.
use Rattle.std.proofs.Common.{◌≡◌, ◌≢◌, inl, inr, ℕ, Bool, true, false, not, cond, List, [], ◌∷◌, reverse, Option, Some, None, Ok, refl, sym, ap, ◌∙◌, subst}
use Rattle.std.specs.Prelude.{chars, filter, flat_map, IsUtf8}
use Rattle.std.specs.List.{list_any}
use Rattle.std.proofs.lemmas.List.Sorted.{Contains-permutation}
use Rattle.lr_rules.specs.declared.path.Path.{Path}
use Rattle.lr_rules.specs.Match.{Matches, PathMatches, WordGives, literal, wildcard, EndsWith, is_wildcard, literal_path, part_end}
use Rattle.lr_rules.specs.Names.{ends_with}
use Rattle.lr_rules.specs.Path.{path_fault, joined, is_slash, root}
use Rattle.lr_host.specs.declared.entry.Entry.{Entry}
use Rattle.lr_host.specs.declared.entry.Entry.TheVariants as entry
use Rattle.lr_host.specs.declared.thing.Kind.TheVariants as kind
use Rattle.lr_host.specs.declared.thing.Seen.{Seen}
use Rattle.lr_host.specs.declared.thing.Thing.{Thing}
use Rattle.lr_host.specs.declared.thing.Thing.TheVariants as thing
use Rattle.lr_host.specs.Fits.{Fits, IsFileAt, IsDirectoryAt, SeesThing, IsPart}
use Rattle.lr_host.specs.Lists.{IsIn}
use Rattle.lr_host.specs.Looks.{is_dir, is_dir_kind, PathSight, look_of}
use Rattle.lr_host.specs.Opening.{IsJournal}
use Rattle.lr_host.specs.Quiet.{AreQuiet}
use Rattle.lr_host.specs.Told.{Made}
use Rattle.lr_host.specs.World.{Past, World, world, names}
use Rattle.lr_host.proofs.Lists.{in_map, in_unmap, in_front, in_back, in_from, in_to, from_reverse, to_flat}
use Rattle.lr_host.proofs.More.{IsMore, file_more, directory_more, not_more}
use Rattle.lr_host.proofs.Quiet.{IsAny, moment, quiet_more, quiet_still, since_any, still_in_order}
use Rattle.lr_match.proofs.Ends.{ends_tell}
use Rattle.lr_host.specs.Listing.{is_file_kind}
use Rattle.lr_host.proofs.Looking.{looks_quiet}
use Rattle.lr_glob.specs.declared.found.Found.{Found}
use Rattle.lr_glob.specs.Gathers.{Gathers}
use Rattle.lr_glob.specs.Parts.{JoinOf, PickOf, parts_in}
use Rattle.lr_glob.specs.Rounds.{Picks, Round, Went, Asked, round_entries, FollowsBy, Led}
use Rattle.lr_glob.specs.Sights.{found_file, file_at, is_whole, seen_at, LookedAt}
use Rattle.lr_glob.specs.Visits.{WordVisit, visit_names, visit_entries}
use Rattle.lr_glob.specs.Words.{WordGave, Comes, SearchThen}
use Rattle.lr_glob.proofs.Apart.{dir_of}
use Rattle.lr_glob.proofs.Literals.{one_name, parts_utf8}
use Rattle.lr_glob.proofs.OnlyLooks.{comes_looks}
use Rattle.lr_glob.proofs.Seeking.{all_are}
use Rattle.lr_laws_looks.specs.Finds.{FindsFile}
use Rattle.lr_laws_looks.proofs.OneWord.{LeadsBy, leads_by}
use Rattle.lr_laws_looks.proofs.Pairs.{Pairs, parts_match, matches_absolute}
use Rattle.lr_laws_looks.proofs.Ways.{Way, file_way}

-- ---- lists of paths that others give

gather_in : {X : Type 0} (P : X → List Path → Type 0) (xs : List X) (paths : List Path) (x : X) (y : Path) → Gathers P xs paths → IsIn x xs → ((its : List Path) → P x its → IsIn y its) → IsIn y paths
gather_in P _ _ x y Gathers.none i f = absurd i
gather_in P _ _ x y (Gathers.more z zs its paths p g) (inl e) f = in_front y its paths (f its (subst (λ w. P w its) e p))
gather_in P _ _ x y (Gathers.more z zs its paths p g) (inr i) f = in_back y its paths (gather_in P zs paths x y g i f)

-- the path of a name, where it is a path
join_in : (dir : Path) (name : List ℕ) (its : List Path) → path_fault (joined dir name) ≡ None → JoinOf dir name its → IsIn (joined dir name) its
join_in dir name _ path (JoinOf.is_path valid) = inl refl
join_in dir name _ path (JoinOf.no_path other) = absurd (other path)

pick_in : (part : List ℕ) (dir : Path) (name : List ℕ) (its : List Path) → path_fault (joined dir name) ≡ None → Matches true (chars part) (chars name) → PickOf part dir name its → IsIn (joined dir name) its
pick_in part dir name _ path matches (PickOf.matched its m j) = join_in dir name its path j
pick_in part dir name _ path matches (PickOf.other none) = absurd (none matches)

-- ---- looks and listings

its_list : (v : WordVisit) → is_dir v.seen ≡ true → IsIn (entry.List v.dir v.listed) (visit_entries v)
its_list v h = inr (subst (λ c. IsIn (entry.List v.dir v.listed) (cond c (entry.List v.dir v.listed ∷ []) [])) (sym h) (inl refl))

its_names : (v : WordVisit) → is_dir v.seen ≡ true → visit_names v ≡ v.listed
its_names v h = ap (λ c. cond c v.listed []) h

sees_dir : (w : World) (t : Thing) (look : Option Seen) → t ≡ thing.Directory → SeesThing w t look → is_dir look ≡ true
sees_dir w t look e s = go look (subst (λ u. SeesThing w u look) e s)
  where
    go : (o : Option Seen) → SeesThing w thing.Directory o → is_dir o ≡ true
    go None h = absurd h
    go (Some z) h = ap is_dir_kind h

pub sees_file : (w : World) (t : Thing) (look : Option Seen) (g : ℕ) → t ≡ thing.File g → SeesThing w t look → (z : Seen) × (look ≡ Some z) × (z.kind ≡ kind.File)
sees_file w t look g e s = go look (subst (λ u. SeesThing w u look) e s)
  where
    go : (o : Option Seen) → SeesThing w (thing.File g) o → (z : Seen) × (o ≡ Some z) × (z.kind ≡ kind.File)
    go None h = absurd h
    go (Some z) h = (z, refl, h.0)

sees_some : (w : World) (t : Thing) (look : Option Seen) → t ≢ thing.Nothing → SeesThing w t look → (z : Seen) × (look ≡ Some z)
sees_some w thing.Nothing look ne s = absurd (ne refl)
sees_some w (thing.File g) look ne s = let r = sees_file w (thing.File g) look g refl s in (r.0, r.1)
sees_some w thing.Directory look ne s = go look s
  where
    go : (o : Option Seen) → SeesThing w thing.Directory o → (z : Seen) × (o ≡ Some z)
    go None h = absurd h
    go (Some z) h = (z, refl)
sees_some w thing.Other look ne s = go look s
  where
    go : (o : Option Seen) → SeesThing w thing.Other o → (z : Seen) × (o ≡ Some z)
    go None h = absurd h
    go (Some z) h = (z, refl)

file_there : (path : Path) (seen : Seen) → seen.kind ≡ kind.File → IsIn {A = Found} (record { path = path; seen = seen }) (file_at path (Some seen))
file_there path seen e = subst (λ b. IsIn {A = Found} (record { path = path; seen = seen }) (cond b (record { path = path; seen = seen } ∷ []) [])) (sym (ap is_file_kind e)) (inl refl)

stays_in : (paths : List Path) (x : Path) → IsIn x paths → is_whole x ≡ true → IsIn x (filter is_whole paths)
stays_in [] x i h = absurd i
stays_in (y ∷ ys) x (inl e) h = subst (λ b. IsIn x (cond b (y ∷ filter is_whole ys) (filter is_whole ys))) (sym (ap is_whole e ∙ h)) (inl e)
stays_in (y ∷ ys) x (inr i) h = by (is_whole y) (stays_in ys x i h)
  where
    by : (b : Bool) → IsIn x (filter is_whole ys) → IsIn x (cond b (y ∷ filter is_whole ys) (filter is_whole ys))
    by true j = inr j
    by false j = j

is_whole_path : (x : Path) → (EndsWith x part_end → ⊥) → is_whole x ≡ true
is_whole_path x none = go (ends_with part_end x) refl
  where
    go : (b : Bool) → ends_with part_end x ≡ b → not b ≡ true
    go true h = absurd (none ((ends_tell x part_end).0 h))
    go false h = refl

-- An entry was true at a moment at which all names still stood.
pub record At (p : Past) (e : Entry) : Type 0 where
  pub at : Past
  pub fits : Fits (world at) e
  pub more : IsMore (names (world p)) (names (world at))

pub at_moment : (p q : Past) (es : List Entry) → Made p es q → AreQuiet (reverse es) → (e : Entry) → IsIn e (reverse es) → At p e
at_moment p q es m quiet e i =
    let t = moment IsAny p q e es (since_any p q es m) m (still_in_order es (quiet_still (reverse es) quiet)) (from_reverse e es i) in
    record { at = t.at; fits = t.fits; more = quiet_more IsAny p t.at t.since }

module _ (p q : Past) (es : List Entry) (m : Made p es q) (quiet : AreQuiet (reverse es)) where
  IsOne : Entry → Type 0
  IsOne e = IsIn e (reverse es)

  -- ---- one part

  visited : (part : List ℕ) (dir : Path) (name : List ℕ) (visits : List WordVisit) (paths : List Path) → Matches true (chars part) (chars name) → IsDirectoryAt (names (world p)) dir → IsPart name → path_fault (joined dir name) ≡ None → names (world p) (joined dir name) ≢ thing.Nothing
      → (v : WordVisit) → IsIn v visits → v.dir ≡ dir → ((e : Entry) → IsIn e (flat_map visit_entries visits) → IsIn e (reverse es)) → Gathers (Picks part) visits paths → IsIn (joined dir name) paths
  visited part dir name visits paths matches there one path named v i at within g =
      gather_in (Picks part) visits paths v (joined dir name) g i (λ its k. gather_in (PickOf part v.dir) (visit_names v) its name (joined dir name) k listed (λ ones w. of_name ones w))
    where
      look : At p (entry.Look v.dir v.seen)
      look = at_moment p q es m quiet (entry.Look v.dir v.seen) (within (entry.Look v.dir v.seen) (to_flat visit_entries visits v (entry.Look v.dir v.seen) i (inl refl)))

      seen : is_dir v.seen ≡ true
      seen = sees_dir (world look.at) (names (world look.at) v.dir) v.seen (directory_more (names (world p)) (names (world look.at)) v.dir look.more (subst (IsDirectoryAt (names (world p))) (sym at) there)) look.fits

      list : At p (entry.List v.dir v.listed)
      list = at_moment p q es m quiet (entry.List v.dir v.listed) (within (entry.List v.dir v.listed) (to_flat visit_entries visits v (entry.List v.dir v.listed) i (its_list v seen)))

      still : names (world list.at) (joined v.dir name) ≢ thing.Nothing
      still = not_more (names (world p)) (names (world list.at)) (joined v.dir name) thing.Nothing list.more (λ g h. cc) (subst (λ d. names (world p) (joined d name) ≢ thing.Nothing) (sym at) named)

      listed : IsIn name (visit_names v)
      listed = subst (IsIn name) (sym (its_names v seen)) (in_from name v.listed ((list.fits.1.all name).1 (one, still)))

      of_name : (ones : List Path) → PickOf part v.dir name ones → IsIn (joined dir name) ones
      of_name ones k = subst (λ d. IsIn (joined d name) ones) at (pick_in part v.dir name ones (subst (λ d. path_fault (joined d name) ≡ None) (sym at) path) matches k)

  step : (b : Bool) (part : List ℕ) (dir : Path) (name : List ℕ) (dirs paths : List Path) (round : Round) → is_wildcard part ≡ b → IsUtf8 part → list_any is_slash part ≡ false → Matches true (chars part) (chars name) → IsDirectoryAt (names (world p)) dir → IsPart name → IsUtf8 name
      → path_fault (joined dir name) ≡ None → names (world p) (joined dir name) ≢ thing.Nothing → IsIn dir dirs → ((e : Entry) → IsIn e (round_entries round) → IsIn e (reverse es)) → FollowsBy b part dirs round paths → IsIn (joined dir name) paths
  step true part dir name dirs paths (Asked visits) wild text plain matches there one named_text path named i within f =
      let v = in_unmap dir_of dir visits (subst (IsIn dir) (sym f.0) i) in
      visited part dir name visits paths matches there one path named v.0 v.1 v.2 within f.1
  step false part dir name dirs paths Went isnt text plain matches there one named_text path named i within f =
      let is : name ≡ literal_path part = one_name part name text named_text isnt plain matches in
      gather_in (λ d its. JoinOf d (literal_path part) its) dirs paths dir (joined dir name) f i (λ its j. join_in dir name its path (subst (λ n. JoinOf dir n its) (sym is) j))
  step true part dir name dirs paths Went wild text plain matches there one named_text path named i within f = absurd f
  step false part dir name dirs paths (Asked visits) isnt text plain matches there one named_text path named i within f = absurd f

  -- ---- all parts

  reached : (x : Path) (parts ns : List (List ℕ)) (dirs : List Path) (rounds : List Round) (paths : List Path) (dir : Path) → Pairs parts ns → ((part : List ℕ) → IsIn part parts → IsUtf8 part) → LeadsBy parts dirs rounds paths → IsIn dir dirs → Way (names (world p)) x dir ns
      → ((e : Entry) → IsIn e (flat_map round_entries rounds) → IsIn e (reverse es)) → IsIn x paths
  reached x [] [] dirs rounds paths dir pairs texts l i way within = subst (IsIn x) (sym l.1) (subst (λ d. IsIn d dirs) way i)
  reached x (part ∷ parts) (name ∷ ns) dirs rounds paths dir pairs texts l i way within =
      let within_all : (e : Entry) → IsIn e (flat_map round_entries (l.1 ∷ l.2)) → IsIn e (reverse es) = λ e j. within e (subst (λ (rs : List Round). IsIn e (flat_map round_entries rs)) (sym l.3) j) in
      let here = step (is_wildcard part) part dir name dirs l.0 l.1 refl (texts part (inl refl)) pairs.0 pairs.1 way.0 way.1 way.2 way.3 way.4 i (λ e j. within_all e (in_front e (round_entries l.1) (flat_map round_entries l.2) j)) l.4 in
      reached x parts ns l.0 l.2 paths (joined dir name) pairs.2 (λ q j. texts q (inr j)) l.5 here way.5 (λ e j. within_all e (in_back e (round_entries l.1) (flat_map round_entries l.2) j))
  reached x [] (name ∷ ns) dirs rounds paths dir pairs texts l i way within = absurd pairs
  reached x (part ∷ parts) [] dirs rounds paths dir pairs texts l i way within = absurd pairs

  module _ (x : Path) (file : IsFileAt (names (world p)) x) (way : Way (names (world p)) x root (parts_in x)) where
    led : (word : List ℕ) (paths : List Path) (ts : List Entry) → IsUtf8 word → is_wildcard word ≡ true → PathMatches word x → ((e : Entry) → IsIn e ts → IsIn e (reverse es)) → Led (parts_in word) (root ∷ []) paths ts → IsIn x paths
    led word paths ts text wild matches within l =
        reached x (parts_in word) (parts_in x) (root ∷ []) l.rounds paths root (parts_match word x wild matches) (parts_utf8 word text (matches_absolute word x wild matches)) (leads_by (parts_in word) (root ∷ []) l.rounds paths l.leads) (inl refl) way
        (λ e j. within e (subst (IsIn e) (sym l.entries) j))

    -- the look at it saw a file
    saw : (s : PathSight) → s.path ≡ x → IsIn (look_of s) (reverse es) → FindsFile x (found_file s)
    saw s is i =
        let t = at_moment p q es m quiet (look_of s) i in
        let still = file_more (names (world p)) (names (world t.at)) x t.more file in
        let z = sees_file (world t.at) (names (world t.at) s.path) s.seen still.0 (ap (names (world t.at)) is ∙ still.1) t.fits in
        (record { path = s.path; seen = z.0 }, subst (λ look. IsIn (record { path = s.path; seen = z.0 }) (file_at s.path look)) (sym z.1) (file_there s.path z.0 z.2), is, z.2)

    searched : (word : List ℕ) (found : List Found) → IsUtf8 word → is_wildcard word ≡ true → PathMatches word x → (EndsWith x part_end → ⊥) → SearchThen word (λ ordered us. LookedAt ordered found us) (reverse es) → FindsFile x found
    searched word found text wild matches whole s = (g.0, subst (IsIn g.0) (sym l.found_are) (to_flat found_file l.sights sight.0 g.0 sight.1 g.1), g.2, g.3)
      where
        l : LookedAt s.ordered found s.entries.back
        l = s.entries.second

        there : IsIn x s.paths
        there = led word s.paths s.entries.front text wild matches (λ e j. subst (IsIn e) (sym s.entries.joined) (in_front e s.entries.front s.entries.back j)) s.entries.first

        ordered : IsIn x s.ordered
        ordered = in_from x s.ordered (Contains-permutation (filter is_whole s.paths) s.ordered x s.order.same (in_to x (filter is_whole s.paths) (stays_in s.paths x there (is_whole_path x whole))))

        sight : (v : PathSight) × IsIn v l.sights × (v.path ≡ x)
        sight = in_unmap (λ (v : PathSight). v.path) x l.sights (subst (IsIn x) (sym l.each) ordered)

        g : FindsFile x (found_file sight.0)
        g = saw sight.0 sight.2 (subst (IsIn (look_of sight.0)) (sym s.entries.joined) (in_back (look_of sight.0) s.entries.front s.entries.back (subst (IsIn (look_of sight.0)) (sym l.looks) (in_map look_of sight.0 l.sights sight.1))))

  -- ---- a literal word

  -- what was seen at its path
  at_path : (word : List ℕ) (look : Option Seen) → IsIn (entry.Look (literal_path word) look) (reverse es) → names (world p) (literal_path word) ≢ thing.Nothing → (z : Seen) × (look ≡ Some z)
  at_path word look i named =
      let t = at_moment p q es m quiet (entry.Look (literal_path word) look) i in
      sees_some (world t.at) (names (world t.at) (literal_path word)) look (not_more (names (world p)) (names (world t.at)) (literal_path word) thing.Nothing t.more (λ g h. cc) named) t.fits

  file_at_path : (word : List ℕ) (look : Option Seen) → IsIn (entry.Look (literal_path word) look) (reverse es) → IsFileAt (names (world p)) (literal_path word) → (z : Seen) × (look ≡ Some z) × (z.kind ≡ kind.File)
  file_at_path word look i file =
      let t = at_moment p q es m quiet (entry.Look (literal_path word) look) i in
      let still = file_more (names (world p)) (names (world t.at)) (literal_path word) t.more file in
      sees_file (world t.at) (names (world t.at) (literal_path word)) look still.0 still.1 t.fits

  literal_any : (word : List ℕ) (found : List Found) → is_wildcard word ≡ false → path_fault (literal_path word) ≡ None → names (world p) (literal_path word) ≢ thing.Nothing → WordGave word found (reverse es) → (f : Found) × (found ≡ f ∷ []) × (f.path ≡ literal_path word)
  literal_any word found plain path named (WordGave.literal is s) =
      let z = at_path word s.seen (subst (IsIn (entry.Look (literal_path word) s.seen)) (sym s.look) (inl refl)) named in
      (record { path = literal_path word; seen = z.0 }, s.is ∙ ap (seen_at (literal_path word)) z.1, refl)
  literal_any word found plain path named (WordGave.no_path is other none e) = absurd (other path)
  literal_any word found plain path named (WordGave.wildcard wild absolute s) = absurd (let t = sym wild ∙ plain in cc)
  literal_any word found plain path named (WordGave.relative wild relative none e) = absurd (let t = sym wild ∙ plain in cc)

  literal_file : (word : List ℕ) (found : List Found) → is_wildcard word ≡ false → path_fault (literal_path word) ≡ None → IsFileAt (names (world p)) (literal_path word) → WordGave word found (reverse es) → FindsFile (literal_path word) found
  literal_file word found plain path file (WordGave.literal is s) =
      let z = file_at_path word s.seen (subst (IsIn (entry.Look (literal_path word) s.seen)) (sym s.look) (inl refl)) file in
      (record { path = literal_path word; seen = z.0 }, subst (IsIn (record { path = literal_path word; seen = z.0 })) (sym (s.is ∙ ap (seen_at (literal_path word)) z.1)) (inl refl), refl, z.2)
  literal_file word found plain path file (WordGave.no_path is other none e) = absurd (other path)
  literal_file word found plain path file (WordGave.wildcard wild absolute s) = absurd (let t = sym wild ∙ plain in cc)
  literal_file word found plain path file (WordGave.relative wild relative none e) = absurd (let t = sym wild ∙ plain in cc)

  -- ---- a word

  wildcard_file : (word : List ℕ) (found : List Found) (x : Path) → IsUtf8 word → is_wildcard word ≡ true → PathMatches word x → (EndsWith x part_end → ⊥) → IsFileAt (names (world p)) x → Way (names (world p)) x root (parts_in x) → WordGave word found (reverse es) → FindsFile x found
  wildcard_file word found x text wild matches whole file way (WordGave.literal plain s) = absurd (let t = sym wild ∙ plain in cc)
  wildcard_file word found x text wild matches whole file way (WordGave.no_path plain other none e) = absurd (let t = sym wild ∙ plain in cc)
  wildcard_file word found x text wild matches whole file way (WordGave.wildcard is absolute s) = searched x file way word found text wild matches whole s
  wildcard_file word found x text wild matches whole file way (WordGave.relative is relative none e) = absurd (let t = sym (matches_absolute word x wild matches) ∙ relative in cc)

  -- by a way to it
  word_file : (word : List ℕ) (found : List Found) (x : Path) → IsUtf8 word → WordGives word x → path_fault x ≡ None → IsFileAt (names (world p)) x → (is_wildcard word ≡ true → Way (names (world p)) x root (parts_in x)) → WordGave word found (reverse es) → FindsFile x found
  word_file word found x text (literal plain is) path file way g = subst (λ y. FindsFile y found) (sym is) (literal_file word found plain (subst (λ y. path_fault y ≡ None) is path) (subst (IsFileAt (names (world p))) is file) g)
  word_file word found x text (wildcard wild matches whole) path file way g = wildcard_file word found x text wild matches whole file (way wild) g

-- Each regular file that the word gives, that stood as the call began, and to which directories led then.
pub found_by_way : (p q : Past) (es : List Entry) (word : List ℕ) (room : ℕ) (found : List Found) → IsUtf8 word → Made p es q → Comes word room (Ok found) (reverse es)
    → (x : Path) → path_fault x ≡ None → IsFileAt (names (world p)) x → (is_wildcard word ≡ true → Way (names (world p)) x root (parts_in x)) → WordGives word x → FindsFile x found
found_by_way p q es word room found text m c x path file way gives =
    subst (FindsFile x) (all_are room c.all found c.is) (word_file p q es m (looks_quiet (reverse es) (comes_looks word room (Ok found) (reverse es) c)) word c.all x text gives path file way c.gave)

-- In a journal they did.
pub stood_is_found : (p q : Past) (es : List Entry) (word : List ℕ) (room : ℕ) (found : List Found) → IsUtf8 word → IsJournal p → Made p es q → Comes word room (Ok found) (reverse es)
    → (x : Path) → path_fault x ≡ None → IsFileAt (names (world p)) x → WordGives word x → FindsFile x found
stood_is_found p q es word room found text j m c x path file gives = found_by_way p q es word room found text m c x path file (λ wild. file_way p x j path file) gives

-- A literal word's one path, of any kind.
pub literal_is_found : (p q : Past) (es : List Entry) (word : List ℕ) (room : ℕ) (found : List Found) → is_wildcard word ≡ false → Made p es q → Comes word room (Ok found) (reverse es)
    → path_fault (literal_path word) ≡ None → names (world p) (literal_path word) ≢ thing.Nothing → (f : Found) × (found ≡ f ∷ []) × (f.path ≡ literal_path word)
literal_is_found p q es word room found plain m c path named =
    subst (λ fs. (f : Found) × (fs ≡ f ∷ []) × (f.path ≡ literal_path word)) (all_are room c.all found c.is)
    (literal_any p q es m (looks_quiet (reverse es) (comes_looks word room (Ok found) (reverse es) c)) word c.all plain path named c.gave)
