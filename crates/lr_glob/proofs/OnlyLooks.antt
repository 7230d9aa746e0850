-- What is left of a word are looks and listings alone.
use Rattle.std.proofs.Common.{◌≡◌, ◌⊎◌, inl, inr, ℕ, Bool, true, false, cond, List, [], ◌∷◌, map, sym, subst, Result}
use Rattle.std.specs.Prelude.{flat_map}
use Rattle.lr_rules.specs.declared.path.Path.{Path}
use Rattle.lr_rules.specs.Match.{is_wildcard}
use Rattle.lr_rules.specs.declared.fault.CallKind.{CallKind}
use Rattle.lr_host.specs.declared.entry.Entry.{Entry}
use Rattle.lr_host.specs.declared.entry.Entry.TheVariants as entry
use Rattle.lr_host.specs.Looks.{IsDir, is_dir, PathSight, look_of}
use Rattle.lr_host.proofs.Each.{each_append, each_map}
use Rattle.lr_glob.specs.declared.found.Found.{Found}
use Rattle.lr_glob.specs.declared.found.GlobStop.{GlobStop}
use Rattle.lr_glob.specs.declared.found.GlobStop.TheVariants as stop
use Rattle.lr_glob.specs.declared.visit.VisitStop.{VisitStop}
use Rattle.lr_glob.specs.declared.visit.VisitStop.TheVariants as visit
use Rattle.lr_host.specs.Looking.{IsLooking, AreLooking}
use Rattle.lr_host.proofs.Looking.{looking_both, looking_none, looking_sees}
use Rattle.lr_glob.specs.Visits.{WordVisit, visit_entries}
use Rattle.lr_glob.specs.Rounds.{Round, Went, Asked, round_entries, Led}
use Rattle.lr_glob.specs.Stops.{NotVisited, RoundBroken, NotFollowed, NotLed}
use Rattle.lr_glob.specs.Words.{WordGave, Comes, Stopped, WordBegun, WordCallFailed, SearchThen}

as_these : (ts us : List Entry) → ts ≡ us → AreLooking us → AreLooking ts
as_these ts us e a = subst AreLooking (sym e) a

flat : {X : Type 0} (f : X → List Entry) (xs : List X) → ((x : X) → AreLooking (f x)) → AreLooking (flat_map f xs)
flat f [] all = tt
flat f (x ∷ xs) all = each_append IsLooking (f x) (flat_map f xs) (all x) (flat f xs all)

a_visit : (v : WordVisit) → AreLooking (visit_entries v)
a_visit v = (tt, by (is_dir v.seen))
  where
    by : (b : Bool) → AreLooking (cond b (entry.List v.dir v.listed ∷ []) [])
    by true = (tt, tt)
    by false = tt

visits_look : (visits : List WordVisit) → AreLooking (flat_map visit_entries visits)
visits_look visits = flat visit_entries visits a_visit

round_looks : (r : Round) → AreLooking (round_entries r)
round_looks Went = tt
round_looks (Asked visits) = visits_look visits

led_looks : (parts : List (List ℕ)) (dirs paths : List Path) (ts : List Entry) → Led parts dirs paths ts → AreLooking ts
led_looks parts dirs paths ts l = as_these ts (flat_map round_entries l.rounds) l.entries (flat round_entries l.rounds round_looks)

not_visited : (dir : Path) (why : VisitStop) (ts : List Entry) → NotVisited dir why ts → AreLooking ts
not_visited dir visit.Look ts e = looking_none ts e
not_visited dir visit.List ts s = looking_sees dir IsDir ts s
not_visited dir visit.Memory ts s = looking_sees dir IsDir ts s

round_broken : (dirs : List Path) (why : GlobStop) (ts : List Entry) → RoundBroken dirs why ts → AreLooking ts
round_broken dirs why ts (inl b) = looking_both ts (λ us e. as_these us (flat_map visit_entries b.visits) e (visits_look b.visits)) (λ us n. not_visited b.dir b.cause us n) b.entries
round_broken dirs why ts (inr b) = as_these ts (flat_map visit_entries b.visits) b.entries (visits_look b.visits)

not_followed : (part : List ℕ) (dirs : List Path) (why : GlobStop) (ts : List Entry) → NotFollowed part dirs why ts → AreLooking ts
not_followed part dirs why ts n = by n.asked
  where
    by : ((is_wildcard part ≡ true) × RoundBroken dirs why ts) ⊎ ((why ≡ stop.Memory) × (ts ≡ [])) → AreLooking ts
    by (inl b) = round_broken dirs why ts b.1
    by (inr b) = looking_none ts b.1

not_led : (parts : List (List ℕ)) (dirs : List Path) (why : GlobStop) (ts : List Entry) → NotLed parts dirs why ts → AreLooking ts
not_led parts dirs why ts n = looking_both ts (λ us l. led_looks n.before dirs n.between us l) (λ us f. not_followed n.part n.between why us f) n.entries

sights_look : (ts : List Entry) (sights : List PathSight) → ts ≡ map look_of sights → AreLooking ts
sights_look ts sights e = as_these ts (map look_of sights) e (each_map IsLooking look_of sights (λ s. tt))

searched : (word : List ℕ) (P : List Path → List Entry → Type 0) (ts : List Entry) → ((ordered : List Path) (us : List Entry) → P ordered us → AreLooking us) → SearchThen word P ts → AreLooking ts
searched word P ts f s = looking_both ts (λ us l. led_looks _ _ s.paths us l) (λ us p. f s.ordered us p) s.entries

gave_looks : (word : List ℕ) (found : List Found) (ts : List Entry) → WordGave word found ts → AreLooking ts
gave_looks word found ts (WordGave.literal plain s) = looking_sees _ _ ts s
gave_looks word found ts (WordGave.no_path plain other none e) = looking_none ts e
gave_looks word found ts (WordGave.wildcard wild absolute s) = searched word _ ts (λ ordered us l. sights_look us l.sights l.looks) s
gave_looks word found ts (WordGave.relative wild relative none e) = looking_none ts e

pub comes_looks : (word : List ℕ) (room : ℕ) (result : Result (List Found) GlobStop) (ts : List Entry) → Comes word room result ts → AreLooking ts
comes_looks word room result ts c = gave_looks word c.all ts c.gave

failed_looks : (word : List ℕ) (kind : CallKind) (path : Path) (ts : List Entry) → WordCallFailed word kind path ts → AreLooking ts
failed_looks word kind path ts (WordCallFailed.at_literal plain k is e) = looking_none ts e
failed_looks word kind path ts (WordCallFailed.at_visit wild n) = not_led _ _ _ ts n
failed_looks word kind path ts (WordCallFailed.at_look wild k s) = searched word _ ts (λ ordered us l. sights_look us l.sights l.looks) s

begun_looks : (word : List ℕ) (ts : List Entry) → WordBegun word ts → AreLooking ts
begun_looks word ts (WordBegun.not_at_all e) = looking_none ts e
begun_looks word ts (WordBegun.at_literal plain s) = looking_sees _ _ ts s
begun_looks word ts (WordBegun.at_visit wild n) = not_led _ _ _ ts n
begun_looks word ts (WordBegun.between wild paths l) = led_looks _ _ paths ts l
begun_looks word ts (WordBegun.at_look wild s) = searched word _ ts (λ ordered us l. sights_look us l.sights l.looks) s

pub stopped_looks : (word : List ℕ) (room : ℕ) (why : GlobStop) (ts : List Entry) → Stopped word room why ts → AreLooking ts
stopped_looks word room (stop.Call kind path) ts s = failed_looks word kind path ts s
stopped_looks word room stop.Memory ts s = begun_looks word ts s
stopped_looks word room stop.LongName ts s = comes_looks word room _ ts s
stopped_looks word room stop.TooMany ts s = comes_looks word room _ ts s
