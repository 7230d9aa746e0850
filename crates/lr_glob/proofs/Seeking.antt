-- What is found is what the word seeks.
use Rattle.std.proofs.Common.{◌≡◌, inl, inr, ⊎_elim, ℕ, ◌≤◌, Bool, true, false, not, cond, List, [], ◌∷◌, length, reverse, refl, sym, ap, ◌∙◌, subst, arith, Option, Some, None, Ok, Err}
use Rattle.std.specs.Prelude.{flat_map, filter, nat_lt}
use Rattle.std.specs.Str.{IsUtf8}
use Rattle.std.specs.List.{list_any}
use Rattle.std.proofs.lemmas.Bool.Decides.{Decides-eqb}
use Rattle.std.proofs.lemmas.List.Sorted.{Contains-permutation, IsPermutation-sym}
use Rattle.lr_rules.specs.declared.path.Path.{Path}
use Rattle.lr_rules.specs.Match.{WordGives, PathMatches, EndsWith, is_wildcard, literal_path, part_end}
use Rattle.lr_rules.specs.Path.{joined, is_absolute, has_empty_part, root}
use Rattle.lr_host.specs.declared.thing.Kind.{Kind}
use Rattle.lr_host.specs.declared.thing.Kind.TheVariants as kind
use Rattle.lr_host.specs.declared.thing.Seen.{Seen}
use Rattle.lr_host.specs.declared.entry.Entry.{Entry}
use Rattle.lr_host.specs.declared.entry.Entry.TheVariants as entry
use Rattle.lr_host.specs.Fits.{IsPart}
use Rattle.lr_host.specs.Lists.{IsIn}
use Rattle.lr_host.specs.Told.{Each, Made}
use Rattle.lr_host.specs.World.{Past}
use Rattle.lr_host.proofs.Each.{each_first, each_last}
use Rattle.lr_host.proofs.Lists.{in_map, in_append, in_back, in_from, in_to}
use Rattle.lr_match.proofs.Ends.{ends_tell}
use Rattle.lr_host.specs.Listing.{is_file_kind}
use Rattle.lr_host.specs.Looks.{PathSight, look_of}
use Rattle.lr_glob.specs.declared.found.Found.{Found}
use Rattle.lr_glob.specs.declared.found.GlobStop.TheVariants as stop
use Rattle.lr_glob.specs.Parts.{parts_in}
use Rattle.lr_glob.specs.Rounds.{Round, Went, Asked, round_entries, FollowsBy, Leads, Led}
use Rattle.lr_glob.specs.Sights.{is_whole, is_long, file_at, found_file, seen_at, judged, LookedAt}
use Rattle.lr_glob.specs.Sought.{IsSought}
use Rattle.lr_glob.specs.Words.{WordGave, Comes, SearchThen}
use Rattle.lr_glob.proofs.Apart.{dir_of, joined_in, visited_in}
use Rattle.lr_glob.proofs.ListsOnce.{IsTrue, visits_true, made_true}
use Rattle.lr_glob.proofs.Names.{behind, under, AreParts, under_root, word_behind, literal_part, word_parts}
use Rattle.lr_glob.proofs.Going.{GoesWith, Goes, goes_all}
use Rattle.lr_glob.proofs.Literals.{parts_utf8}

-- ---- the parts of a word

-- The path is that of a name with which the part goes, in one of these directories.
record Step (part : List ℕ) (dirs : List Path) (x : Path) : Type 0 where
  dir : Path
  there : IsIn dir dirs
  name : List ℕ
  one : IsPart name
  goes : GoesWith part name
  is : x ≡ joined dir name

step : (b : Bool) (part : List ℕ) (dirs paths : List Path) (round : Round) (x : Path) → is_wildcard part ≡ b → IsPart part → FollowsBy b part dirs round paths → Each IsTrue (round_entries round) → IsIn x paths → Step part dirs x
step true part dirs paths (Asked visits) x wild one f t i =
    let r = visited_in part visits paths x f.1 i in
    let c = r.picked in
    record { dir = r.visit.dir; there = subst (IsIn r.visit.dir) f.0 (in_map dir_of r.visit visits r.there); name = c.name; one = (visits_true visits t r.visit r.there).parts c.name c.there; goes = inl (wild, c.matches); is = c.is }
step false part dirs paths Went x plain one f t i =
    let r = joined_in (literal_path part) dirs paths x f i in
    record { dir = r.dir; there = r.there; name = literal_path part; one = literal_part part one; goes = inr (plain, refl); is = r.is }
step true part dirs paths Went x wild one f t i = absurd f
step false part dirs paths (Asked visits) x plain one f t i = absurd f

-- The path is that of names with which the parts go, behind one of these directories.
record Reach (parts : List (List ℕ)) (dirs : List Path) (x : Path) : Type 0 where
  dir : Path
  there : IsIn dir dirs
  names : List (List ℕ)
  ones : AreParts names
  goes : Goes parts names
  is : x ≡ under dir names

one_more : (name : List ℕ) (names : List (List ℕ)) → IsPart name → AreParts names → AreParts (name ∷ names)
one_more name names p a n (inl e) = subst IsPart e p
one_more name names p a n (inr i) = a n i

reach : (parts : List (List ℕ)) (dirs paths : List Path) (rounds : List Round) (x : Path) → Leads parts dirs rounds paths → AreParts parts → Each IsTrue (flat_map round_entries rounds) → IsIn x paths → Reach parts dirs x
reach _ _ _ _ x (Leads.there dirs) a t i = record { dir = x; there = i; names = []; ones = λ n j. absurd j; goes = Goes.none; is = refl }
reach _ _ _ _ x (Leads.on part parts dirs between paths round rounds f l) a t i =
    let r = reach parts between paths rounds x l (λ p j. a p (inr j)) (each_last IsTrue (round_entries round) (flat_map round_entries rounds) t) i in
    let s = step (is_wildcard part) part dirs between round r.dir refl (a part (inl refl)) f (each_first IsTrue (round_entries round) (flat_map round_entries rounds) t) r.there in
    record { dir = s.dir; there = s.there; names = s.name ∷ r.names; ones = one_more s.name r.names s.one r.ones; goes = Goes.more part s.name parts r.names s.goes r.goes; is = r.is ∙ ap (λ d. under d r.names) s.is }

from_root : (word : List ℕ) (parts names : List (List ℕ)) (x : Path) → is_absolute word ≡ true → word ≡ behind parts → AreParts parts → AreParts names → ((p : List ℕ) → IsIn p parts → IsUtf8 p) → Goes parts names → x ≡ under root names → PathMatches word x
from_root word _ _ x absolute e a b u Goes.none is = let t = sym (ap is_absolute e) ∙ absolute in absurd (cc)
from_root word _ _ x absolute e a b u (Goes.more part name parts names g rest) is =
    subst (λ w. PathMatches w x) (sym e) (subst (PathMatches (behind (part ∷ parts))) (sym (is ∙ under_root name names b)) (goes_all (part ∷ parts) (name ∷ names) a b u (Goes.more part name parts names g rest)))

long_word : (word : List ℕ) → is_wildcard word ≡ true → is_absolute word ≡ true → 2 ≤ length word
long_word [] wild absolute = absurd (cc)
long_word (b ∷ []) wild absolute = let t = sym (ap (λ x. is_wildcard (x ∷ [])) ((Decides-eqb b 47).0 absolute)) ∙ wild in absurd (cc)
long_word (b ∷ c ∷ bs) wild absolute = omega arith

at_root : (d : Path) → IsIn d (root ∷ []) → d ≡ root
at_root d (inl e) = sym e
at_root d (inr i) = absurd i

led_seeks : (word : List ℕ) (paths : List Path) (ts : List Entry) (x : Path) → is_wildcard word ≡ true → is_absolute word ≡ true → has_empty_part word ≡ false → IsUtf8 word → Led (parts_in word) (root ∷ []) paths ts → Each IsTrue ts → IsIn x paths → PathMatches word x
led_seeks word paths ts x wild absolute full u l t i =
    let parts = word_parts word absolute (long_word word wild absolute) full in
    let r = reach (parts_in word) (root ∷ []) paths l.rounds x l.leads parts (subst (Each IsTrue) l.entries t) i in
    from_root word (parts_in word) r.names x absolute (word_behind word absolute) parts r.ones (parts_utf8 word u absolute) r.goes (r.is ∙ ap (λ d. under d r.names) (at_root r.dir r.there))

-- ---- looks

-- The path was seen so.
record SeenAt (path : Path) (look : Option Seen) (f : Found) : Type 0 where
  at : f.path ≡ path
  saw : look ≡ Some f.seen

record FileAt (path : Path) (look : Option Seen) (f : Found) : Type 0 where
  seen_at : SeenAt path look f
  file : f.seen.kind ≡ kind.File

is_there : (path : Path) (seen : Seen) (f : Found) → record { path = path; seen = seen } ≡ f → SeenAt path (Some seen) f
is_there path seen f e = record { at = ap (λ (g : Found). g.path) (sym e); saw = ap (λ (g : Found). Some g.seen) e }

file_there : (path : Path) (seen : Seen) (f : Found) (k : Kind) → seen.kind ≡ k → IsIn f (cond (is_file_kind k) (record { path = path; seen = seen } ∷ []) []) → FileAt path (Some seen) f
file_there path seen f kind.File e (inl is) = record { seen_at = is_there path seen f is; file = ap (λ (g : Found). g.seen.kind) (sym is) ∙ e }
file_there path seen f kind.File e (inr i) = absurd i
file_there path seen f kind.Dir e i = absurd i
file_there path seen f kind.Other e i = absurd i

file_seen : (path : Path) (look : Option Seen) (f : Found) → IsIn f (file_at path look) → FileAt path look f
file_seen path None f i = absurd i
file_seen path (Some seen) f i = file_there path seen f seen.kind refl i

record FileIn (sights : List PathSight) (f : Found) : Type 0 where
  sight : PathSight
  there : IsIn sight sights
  file : FileAt sight.path sight.seen f

file_in : (sights : List PathSight) (f : Found) → IsIn f (flat_map found_file sights) → FileIn sights f
file_in [] f i = absurd i
file_in (s ∷ sights) f i = ⊎_elim
    (λ (a : IsIn f (found_file s)). record { sight = s; there = inl refl; file = file_seen s.path s.seen f a })
    (λ (b : IsIn f (flat_map found_file sights)). let r = file_in sights f b in record { sight = r.sight; there = inr r.there; file = r.file })
    (in_append f (found_file s) (flat_map found_file sights) i)

left_in : (paths : List Path) (x : Path) → IsIn x (filter is_whole paths) → IsIn x paths × (is_whole x ≡ true)
left_in [] x i = absurd i
left_in (y ∷ ys) x i = by (is_whole y) refl (left_in ys x) i
  where
    by : (b : Bool) → is_whole y ≡ b → (IsIn x (filter is_whole ys) → IsIn x ys × (is_whole x ≡ true)) → IsIn x (cond b (y ∷ filter is_whole ys) (filter is_whole ys)) → IsIn x (y ∷ ys) × (is_whole x ≡ true)
    by true is f (inl e) = (inl e, ap is_whole (sym e) ∙ is)
    by true is f (inr j) = let r = f j in (inr r.0, r.1)
    by false is f j = let r = f j in (inr r.0, r.1)

whole_ends_not : (x : Path) → is_whole x ≡ true → EndsWith x part_end → ⊥
whole_ends_not x whole ends = let t = (ends_tell x part_end).1 ends in let n = sym (ap not t) ∙ whole in absurd (cc)

-- ---- what is found

pub all_are : (room : ℕ) (all found : List Found) → judged room all ≡ Ok found → all ≡ found
all_are room all found e = by (list_any is_long all) (nat_lt room (length all)) e
  where
    by : (b c : Bool) → cond b (Err stop.LongName) (cond c (Err stop.TooMany) (Ok all)) ≡ Ok found → all ≡ found
    by true c h = absurd (cc)
    by false true h = absurd (cc)
    by false false h = cc

search_seeks : (word : List ℕ) (found : List Found) (ts : List Entry) (f : Found) → is_wildcard word ≡ true → is_absolute word ≡ true → has_empty_part word ≡ false → IsUtf8 word → Each IsTrue ts → SearchThen word (λ ordered us. LookedAt ordered found us) ts → IsIn f found → IsSought word f
search_seeks word found ts f wild absolute full u t s i =
    let l = s.entries.second in
    let r = file_in l.sights f (subst (IsIn f) l.found_are i) in
    let ordered = subst (IsIn r.sight.path) l.each (in_map (λ (x : PathSight). x.path) r.sight l.sights r.there) in
    let whole = in_from r.sight.path (filter is_whole s.paths) (Contains-permutation s.ordered (filter is_whole s.paths) r.sight.path (IsPermutation-sym (filter is_whole s.paths) s.ordered s.order.same) (in_to r.sight.path s.ordered ordered)) in
    let path = left_in s.paths r.sight.path whole in
    let seeks_it = led_seeks word s.paths s.entries.front r.sight.path wild absolute full u s.entries.first (each_first IsTrue s.entries.front s.entries.back (subst (Each IsTrue) s.entries.joined t)) path.0 in
    record { given = subst (WordGives word) (sym r.file.seen_at.at) (WordGives.wildcard wild seeks_it (whole_ends_not r.sight.path path.1)); file = r.file.file }

none_in : (f : Found) (found : List Found) → found ≡ [] → IsIn f found → ⊥
none_in f found e i = subst (IsIn f) e i

gave_seeks : (word : List ℕ) (found : List Found) (ts : List Entry) (f : Found) → is_wildcard word ≡ true → has_empty_part word ≡ false → IsUtf8 word → Each IsTrue ts → WordGave word found ts → IsIn f found → IsSought word f
gave_seeks word found ts f wild full u t (WordGave.literal plain s) i = absurd (let h = sym wild ∙ plain in cc)
gave_seeks word found ts f wild full u t (WordGave.no_path plain other none e) i = absurd (none_in f found none i)
gave_seeks word found ts f wild full u t (WordGave.wildcard is absolute s) i = search_seeks word found ts f wild absolute full u t s i
gave_seeks word found ts f wild full u t (WordGave.relative is relative none e) i = absurd (none_in f found none i)

pub wildcards_seek : (p q : Past) (es : List Entry) (word : List ℕ) (room : ℕ) (found : List Found) → IsUtf8 word → is_wildcard word ≡ true → has_empty_part word ≡ false
    → Made p es q → Comes word room (Ok found) (reverse es) → (f : Found) → IsIn f found → IsSought word f
wildcards_seek p q es word room found u wild full m c f i = gave_seeks word c.all (reverse es) f wild full u (made_true p q es m) c.gave (subst (IsIn f) (sym (all_are room c.all found c.is)) i)

seen_there : (path : Path) (look : Option Seen) (f : Found) → IsIn f (seen_at path look) → SeenAt path look f
seen_there path None f i = absurd i
seen_there path (Some seen) f (inl e) = is_there path seen f e
seen_there path (Some seen) f (inr i) = absurd i

gave_gives : (word : List ℕ) (found : List Found) (ts : List Entry) (f : Found) → is_wildcard word ≡ false → WordGave word found ts → IsIn f found → WordGives word f.path
gave_gives word found ts f plain (WordGave.literal is s) i = WordGives.literal plain (seen_there (literal_path word) s.seen f (subst (IsIn f) s.is i)).at
gave_gives word found ts f plain (WordGave.no_path is other none e) i = absurd (none_in f found none i)
gave_gives word found ts f plain (WordGave.wildcard wild absolute s) i = absurd (let h = sym wild ∙ plain in cc)
gave_gives word found ts f plain (WordGave.relative wild relative none e) i = absurd (none_in f found none i)

pub literals_give : (word : List ℕ) (room : ℕ) (found : List Found) (ts : List Entry) → is_wildcard word ≡ false → Comes word room (Ok found) ts → (f : Found) → IsIn f found → WordGives word f.path
literals_give word room found ts plain c f i = gave_gives word c.all ts f plain c.gave (subst (IsIn f) (sym (all_are room c.all found c.is)) i)

-- ---- what was seen

look_in : (path : Path) (look : Option Seen) (f : Found) (ts : List Entry) → SeenAt path look f → IsIn (entry.Look path look) ts → IsIn (entry.Look f.path (Some f.seen)) ts
look_in path look f ts s i = subst (λ x. IsIn (entry.Look x (Some f.seen)) ts) (sym s.at) (subst (λ l. IsIn (entry.Look path l) ts) s.saw i)

search_saw : (word : List ℕ) (found : List Found) (ts : List Entry) (f : Found) → SearchThen word (λ ordered us. LookedAt ordered found us) ts → IsIn f found → IsIn (entry.Look f.path (Some f.seen)) ts
search_saw word found ts f s i =
    let l = s.entries.second in
    let r = file_in l.sights f (subst (IsIn f) l.found_are i) in
    let look = subst (IsIn (look_of r.sight)) (sym l.looks) (in_map look_of r.sight l.sights r.there) in
    subst (IsIn (entry.Look f.path (Some f.seen))) (sym s.entries.joined) (in_back (entry.Look f.path (Some f.seen)) s.entries.front s.entries.back (look_in r.sight.path r.sight.seen f s.entries.back r.file.seen_at look))

gave_saw : (word : List ℕ) (found : List Found) (ts : List Entry) (f : Found) → WordGave word found ts → IsIn f found → IsIn (entry.Look f.path (Some f.seen)) ts
gave_saw word found ts f (WordGave.literal is s) i = look_in (literal_path word) s.seen f ts (seen_there (literal_path word) s.seen f (subst (IsIn f) s.is i)) (subst (IsIn (entry.Look (literal_path word) s.seen)) (sym s.look) (inl refl))
gave_saw word found ts f (WordGave.no_path is other none e) i = absurd (none_in f found none i)
gave_saw word found ts f (WordGave.wildcard wild absolute s) i = search_saw word found ts f s i
gave_saw word found ts f (WordGave.relative wild relative none e) i = absurd (none_in f found none i)

pub found_were_seen : (word : List ℕ) (room : ℕ) (found : List Found) (ts : List Entry) → Comes word room (Ok found) ts → (f : Found) → IsIn f found → IsIn (entry.Look f.path (Some f.seen)) ts
found_were_seen word room found ts c f i = gave_saw word c.all ts f c.gave (subst (IsIn f) (sym (all_are room c.all found c.is)) i)
