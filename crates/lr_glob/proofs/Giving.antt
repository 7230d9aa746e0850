-- What a word gives, from what its parts and looks gave.
use Rattle.std.proofs.Common.{◌≡◌, ◌⊎◌, inl, inr, ℕ, Bool, true, false, cond, List, [], ◌∷◌, ◌++◌, refl, sym, ◌∙◌, subst, Option, None, Result, Ok, Err}
use Rattle.std.specs.Prelude.{IfOk, IfErr, filter, nat_lt, length}
use Rattle.std.specs.List.{list_any}
use Rattle.lr_rules.specs.declared.path.Path.{Path}
use Rattle.lr_rules.specs.declared.fault.CallKind.TheVariants as call
use Rattle.lr_rules.specs.Match.{is_wildcard, literal_path}
use Rattle.lr_rules.specs.Path.{path_fault, is_absolute, root}
use Rattle.lr_host.specs.declared.thing.Seen.{Seen}
use Rattle.lr_host.specs.declared.entry.Entry.{Entry}
use Rattle.lr_host.specs.declared.entry.Entry.TheVariants as entry
use Rattle.lr_host.specs.declared.journal.Journal.{Journal}
use Rattle.lr_host.specs.Told.{Left}
use Rattle.lr_host.specs.Looks.{Sees}
use Rattle.lr_host.proofs.Left.{left_as, left_then, left_first}
use Rattle.lr_glob.specs.declared.found.Found.{Found}
use Rattle.lr_glob.specs.declared.found.GlobStop.{GlobStop}
use Rattle.lr_glob.specs.declared.found.GlobStop.TheVariants as stop
use Rattle.lr_glob.specs.declared.visit.VisitStop.{VisitStop}
use Rattle.lr_glob.specs.declared.visit.VisitStop.TheVariants as visit
use Rattle.lr_glob.specs.Parts.{parts_in}
use Rattle.lr_glob.specs.Rounds.{Led}
use Rattle.lr_glob.specs.Sights.{InOrder, is_whole, is_long, judged, seen_at, LookedAt, LooksBroken}
use Rattle.lr_glob.specs.Stops.{glob_stop, IsFailedGlob, RoundBroken, NotFollowed, NotLed}
use Rattle.lr_glob.specs.Words.{WordGave, Comes, Stopped, WordBegun, WordCallFailed, Halted, NotSought, LiteralBroken}

-- ---- parts

-- a call failed or there was no memory
abbrev IsShort : GlobStop → Type 0
IsShort (stop.Call kind path) = Unit {0}
IsShort stop.Memory = Unit {0}
IsShort _ = ⊥

short_stop : (cause : VisitStop) (dir : Path) → IsShort (glob_stop cause dir)
short_stop visit.Look dir = tt
short_stop visit.List dir = tt
short_stop visit.Memory dir = tt

short_round : (dirs : List Path) (why : GlobStop) (ts : List Entry) → RoundBroken dirs why ts → IsShort why
short_round dirs why ts (inl b) = subst IsShort (sym b.told) (short_stop b.cause b.dir)
short_round dirs why ts (inr b) = subst IsShort (sym b.told) tt

short_part : (part : List ℕ) (dirs : List Path) (why : GlobStop) (ts : List Entry) → NotFollowed part dirs why ts → IsShort why
short_part part dirs why ts n = by n.asked
  where
    by : ((is_wildcard part ≡ true) × RoundBroken dirs why ts) ⊎ ((why ≡ stop.Memory) × (ts ≡ [])) → IsShort why
    by (inl b) = short_round dirs why ts b.1
    by (inr b) = subst IsShort (sym b.0) tt

short_parts : (parts : List (List ℕ)) (dirs : List Path) (why : GlobStop) (ts : List Entry) → NotLed parts dirs why ts → IsShort why
short_parts parts dirs why ts n = short_part n.part n.between why n.entries.back n.entries.second

halted_led : (word : List ℕ) (why : GlobStop) (ts : List Entry) → is_wildcard word ≡ true → NotLed (parts_in word) (root ∷ []) why ts → Halted word why ts
halted_led word (stop.Call kind path) ts wild n = WordCallFailed.at_visit wild n
halted_led word stop.Memory ts wild n = WordBegun.at_visit wild n
halted_led word stop.LongName ts wild n = short_parts (parts_in word) (root ∷ []) stop.LongName ts n
halted_led word stop.TooMany ts wild n = short_parts (parts_in word) (root ∷ []) stop.TooMany ts n

halted_sought : (word : List ℕ) (why : GlobStop) (ts : List Entry) → is_wildcard word ≡ true → NotSought word why ts → Halted word why ts
halted_sought word why ts wild (inl n) = halted_led word why ts wild n
halted_sought word why ts wild (inr n) = subst (λ w. Halted word w ts) (sym n.0) (WordBegun.not_at_all n.1)

pub not_sought : (word : List ℕ) (why : GlobStop) {o n : Option Journal} → is_wildcard word ≡ true → Left (NotSought word why) o n → Left (Halted word why) o n
not_sought word why wild l = left_as l (λ ts h. halted_sought word why ts wild h)

pub sought_led : {T : Type 0} (word : List ℕ) (parts : List (List ℕ)) (start : List Path) (r : Result T GlobStop) (o n : Option Journal) → parts ≡ parts_in word → start ≡ root ∷ [] → IfErr r (λ why. Left (NotLed parts start why) o n) → IfErr r (λ why. Left (NotSought word why) o n)
sought_led word parts start (Ok x) o n e e' l = tt
sought_led word parts start (Err why) o n e e' l = left_as l (λ ts h. inl (subst (λ p. NotLed p (root ∷ []) why ts) e (subst (λ s. NotLed parts s why ts) e' h)))

pub sought_none : (word : List ℕ) (o : Option Journal) → Left (NotSought word stop.Memory) o o
sought_none word o = left_first (NotSought word stop.Memory) o (inr (refl, refl))

-- ---- looks

pub search_told : {T : Type 0} (items : T → List Found) (word : List ℕ) (paths ordered : List Path) (r : Result T GlobStop) {o m : Option Journal} (n : Option Journal) → is_wildcard word ≡ true → is_absolute word ≡ true → InOrder (filter is_whole paths) ordered
    → Left (Led (parts_in word) (root ∷ []) paths) o m → IfOk r (λ f. Left (LookedAt ordered (items f)) m n) → IfOk r (λ f. Left (WordGave word (items f)) o n)
search_told items word paths ordered (Ok f) n wild absolute order l k = left_then l k (λ xs ys h g. WordGave.wildcard wild absolute (record {
  paths = paths;
  ordered = ordered;
  order = order;
  entries = record { front = xs; back = ys; joined = refl; first = h; second = g };
}))
search_told items word paths ordered (Err e) n wild absolute order l k = tt

halted_looks : (word : List ℕ) (paths ordered : List Path) (why : GlobStop) (xs ys : List Entry) → is_wildcard word ≡ true → InOrder (filter is_whole paths) ordered → Led (parts_in word) (root ∷ []) paths xs → LooksBroken ordered why ys → Halted word why (xs ++ ys)
halted_looks word paths ordered (stop.Call kind path) xs ys wild order h b = WordCallFailed.at_look wild b.0 (record { paths = paths; ordered = ordered; order = order; entries = record { front = xs; back = ys; joined = refl; first = h; second = b.1 } })
halted_looks word paths ordered stop.Memory xs ys wild order h b = WordBegun.at_look wild (record { paths = paths; ordered = ordered; order = order; entries = record { front = xs; back = ys; joined = refl; first = h; second = b } })
halted_looks word paths ordered _ xs ys wild order h b = absurd b

pub search_stopped : {T : Type 0} (word : List ℕ) (paths ordered : List Path) (r : Result T GlobStop) {o m : Option Journal} (n : Option Journal) → is_wildcard word ≡ true → InOrder (filter is_whole paths) ordered
    → Left (Led (parts_in word) (root ∷ []) paths) o m → IfErr r (λ why. Left (LooksBroken ordered why) m n) → IfErr r (λ why. Left (Halted word why) o n)
search_stopped word paths ordered (Ok f) n wild order l k = tt
search_stopped word paths ordered (Err why) n wild order l k = left_then l k (λ xs ys h b. halted_looks word paths ordered why xs ys wild order h b)

pub search_between : (word : List ℕ) (paths : List Path) {o n : Option Journal} → is_wildcard word ≡ true → Left (Led (parts_in word) (root ∷ []) paths) o n → Left (Halted word stop.Memory) o n
search_between word paths wild l = left_as l (λ ts h. WordBegun.between wild paths h)

-- ---- a literal word

pub literal_failed : (path : Path) {o n : Option Journal} → Left (λ ts. ts ≡ []) o n → Left (LiteralBroken path (stop.Call call.Look path)) o n
literal_failed path l = left_as l (λ ts e. (refl, refl, e))

pub literal_lost : (path : Path) (look : Option Seen) {o n : Option Journal} → Left (λ ts. ts ≡ entry.Look path look ∷ []) o n → Left (LiteralBroken path stop.Memory) o n
literal_lost path look l = left_as l (λ ts e. record { seen = look; is = tt; look = e })

pub literal_told : {T : Type 0} (items : T → List Found) (word : List ℕ) (path : Path) (r : Result T GlobStop) (o n : Option Journal) → is_wildcard word ≡ false → path ≡ literal_path word → IfOk r (λ f. Left (Sees path (λ seen. items f ≡ seen_at path seen)) o n) → IfOk r (λ f. Left (WordGave word (items f)) o n)
literal_told items word path (Ok f) o n plain is l = left_as l (λ ts s. WordGave.literal plain (subst (λ p. Sees p (λ seen. items f ≡ seen_at p seen) ts) is s))
literal_told items word path (Err e) o n plain is l = tt

halted_literal : (word : List ℕ) (path : Path) (why : GlobStop) (ts : List Entry) → is_wildcard word ≡ false → path ≡ literal_path word → LiteralBroken path why ts → Halted word why ts
halted_literal word path (stop.Call kind at) ts plain is b = WordCallFailed.at_literal plain b.0 (b.1 ∙ is) b.2
halted_literal word path stop.Memory ts plain is b = WordBegun.at_literal plain (subst (λ p. Sees p (λ seen. Unit {0}) ts) is b)
halted_literal word path _ ts plain is b = absurd b

pub literal_stopped : {T : Type 0} (word : List ℕ) (path : Path) (r : Result T GlobStop) (o n : Option Journal) → is_wildcard word ≡ false → path ≡ literal_path word → IfErr r (λ why. Left (LiteralBroken path why) o n) → IfErr r (λ why. Left (Halted word why) o n)
literal_stopped word path (Ok f) o n plain is l = tt
literal_stopped word path (Err why) o n plain is l = left_as l (λ ts b. halted_literal word path why ts plain is b)

pub literal_none : (word : List ℕ) (found : List Found) (o : Option Journal) → is_wildcard word ≡ false → (path_fault (literal_path word) ≡ None → ⊥) → found ≡ [] → Left (WordGave word found) o o
literal_none word found o plain other e = left_first (WordGave word found) o (WordGave.no_path plain other e refl)

pub relative_none : (word : List ℕ) (found : List Found) (o : Option Journal) → is_wildcard word ≡ true → is_absolute word ≡ false → found ≡ [] → Left (WordGave word found) o o
relative_none word found o wild relative e = left_first (WordGave word found) o (WordGave.relative wild relative e refl)

pub halted_none : (word : List ℕ) (o : Option Journal) → Left (Halted word stop.Memory) o o
halted_none word o = left_first (Halted word stop.Memory) o (WordBegun.not_at_all refl)

-- ---- judged

pub comes : {T : Type 0} (items : T → List Found) (word : List ℕ) (room : ℕ) (all : List Found) (r : Result T GlobStop) (o n : Option Journal) → Left (WordGave word all) o n → IfOk r (λ f. judged room all ≡ Ok (items f)) → IfOk r (λ f. Left (Comes word room (Ok (items f))) o n)
comes items word room all (Ok f) o n l j = left_as l (λ ts g. record { all = all; gave = g; is = j })
comes items word room all (Err e) o n l j = tt

not_memory : (a b : Bool) (all : List Found) → cond a (Err stop.LongName) (cond b (Err stop.TooMany) (Ok all)) ≡ Err stop.Memory → ⊥
not_memory true b all e = absurd (cc)
not_memory false true all e = absurd (cc)
not_memory false false all e = absurd (cc)

judged_so : (word : List ℕ) (room : ℕ) (all : List Found) (why : GlobStop) (ts : List Entry) → WordGave word all ts → judged room all ≡ Err why → (IsFailedGlob why → ⊥) → Stopped word room why ts
judged_so word room all (stop.Call kind path) ts g j n = absurd (n tt)
judged_so word room all stop.Memory ts g j n = absurd (not_memory (list_any is_long all) (nat_lt room (length all)) all j)
judged_so word room all stop.LongName ts g j n = record { all = all; gave = g; is = j }
judged_so word room all stop.TooMany ts g j n = record { all = all; gave = g; is = j }

pub comes_stopped : {T : Type 0} (word : List ℕ) (room : ℕ) (all : List Found) (r : Result T GlobStop) (o n : Option Journal) → Left (WordGave word all) o n → IfErr r (λ why. judged room all ≡ Err why) → IfErr r (λ why. IsFailedGlob why → ⊥) → IfErr r (λ why. Left (Stopped word room why) o n)
comes_stopped word room all (Ok f) o n l j c = tt
comes_stopped word room all (Err why) o n l j c = left_as l (λ ts g. judged_so word room all why ts g j c)

halted_so : (word : List ℕ) (room : ℕ) (why : GlobStop) (ts : List Entry) → Halted word why ts → Stopped word room why ts
halted_so word room (stop.Call kind path) ts h = h
halted_so word room stop.Memory ts h = h
halted_so word room stop.LongName ts h = absurd h
halted_so word room stop.TooMany ts h = absurd h

pub stopped_short : (word : List ℕ) (room : ℕ) (why : GlobStop) {o n : Option Journal} → Left (Halted word why) o n → Left (Stopped word room why) o n
stopped_short word room why l = left_as l (λ ts h. halted_so word room why ts h)

pub word_as : (P : List ℕ → List Entry → Type 0) (w v : List ℕ) {o n : Option Journal} → w ≡ v → Left (P w) o n → Left (P v) o n
word_as P w v e l = left_as l (λ ts h. subst (λ u. P u ts) e h)
