-- Looks at families, one behind another.
use Rattle.std.proofs.Common.{◌≡◌, ◌≢◌, ◌+◌, inl, inr, ℕ, suc, true, List, [], ◌∷◌, ◌++◌, length, take, get_or, Option, Some, Result, Ok, Err, OnErr, slice_get, refl, sym, ap, ◌∙◌, subst, arith, append_assoc}
use Rattle.std.specs.Prelude.{◌≤◌, IfOk, IfErr, OnOk}
use Rattle.std.proofs.lemmas.List.{append-nil, length-append, map-append, take-append-le}
use Rattle.std.proofs.lemmas.Option.{get_or_from_slice_get}
use Rattle.lr_rules.specs.declared.path.Path.{Path}
use Rattle.lr_rules.specs.declared.rule.Naming.{Naming}
use Rattle.lr_host.specs.declared.thing.Seen.{Seen}
use Rattle.lr_host.specs.declared.entry.Entry.{Entry}
use Rattle.lr_host.specs.declared.journal.Journal.{Journal}
use Rattle.lr_host.specs.Told.{Left, Then, Counts, Onward, Rose}
use Rattle.lr_host.proofs.Left.{left_as, left_both, left_first, left_then}
use Rattle.lr_family.specs.declared.listing.Listing.{Listing}
use Rattle.lr_family.specs.declared.stand.Stand.{Stand}
use Rattle.lr_family.specs.declared.stand.StandStop.{StandStop}
use Rattle.lr_family.specs.declared.stand.StandStop.TheVariants as stop
use Rattle.lr_family.specs.Among.{ShowsIn, ShowsNoneIn}
use Rattle.lr_family.specs.Places.{AreNamed}
use Rattle.lr_family.specs.Stands.{AreNewestFirst, IsFailedStand}
use Rattle.lr_kept.proofs.Elements.{same_read}
use Rattle.lr_looks.proofs.Known.{read_last}
use Rattle.lr_rules.specs.declared.fault.Fault.{Fault}
use Rattle.lr_rules.specs.Limits.{is_format, or_none}
use Rattle.lr_looks.specs.declared.found.Found.{Found}
use Rattle.lr_looks.specs.declared.standing.Standing.{Standing}
use Rattle.lr_host.specs.Counted.{WentBy}
use Rattle.lr_host.proofs.Counts.{free_none, went_free, went_call, none_more}
use Rattle.lr_host.proofs.Lists.{grown}
use Rattle.lr_looks.specs.Found.{FoundLog, found_in, all_found_in, Hold}
use Rattle.lr_looks.specs.Families.{ShowFamilies, HadMemory, AllHadMemory, stop_fault, family_fault, family_faults, LookedLog, looked_at, looked_by, looked_of, LookedAtFamilies, LookedAtSomeFamilies, FamilySight, Stood, Stopped, sight_of, ShowsAside, ShowsNoAside, ShowsMembersIn, ShowsFamily, behind_listing, with_listing, not_listed}
use Rattle.lr_looks.specs.Internal.{TakesListing, before, taken, LacksListing, IsListedAt, NoListing, lacks, unadded, FamilyPart, AddsLooked, AddsFamily, AddsFamilies, LooksBySets}
use Rattle.lr_plan.specs.declared.looks.SetLooks.{SetLooks}
use Rattle.lr_plan.specs.Planned.{AreMembersOf}
use Rattle.lr_looks.specs.Sets.{HaveLooks}

-- the listing at the place is the one that was read
pub its_listing : (known : List Listing) (place : ℕ) (dir : Path) (x : Listing) → IsListedAt known place dir → x ≡ get_or known place x → slice_get known place ≡ Some x
its_listing known place dir x h e = let same : get_or known place x ≡ h.0 = get_or_from_slice_get known place h.0 x h.1 in h.1 ∙ ap (λ (l : Listing). Some l) (sym (e ∙ same))

behind : (known after : List Listing) (log : Path) (n : Naming) (place : ℕ) (x : Listing) (s : FamilySight) (ts us : List Entry) → slice_get after place ≡ Some x → TakesListing known n.dir after place ts → ShowsMembersIn log n x s us
    → ShowsFamily known log n after s (ts ++ us)
behind known after log n place x s ts us at (before l there same is none) m =
    let one : l ≡ x = same_read known place l x there (subst (λ (ls : List Listing). slice_get ls place ≡ Some x) is at) in
    subst (λ (es : List Entry). ShowsFamily known log n after s (es ++ us)) (sym none)
    (behind_listing l (record { place = place; there = there; same = same }) is (subst (λ (k : Listing). ShowsMembersIn log n k s us) (sym one) m))
behind known after log n place x s ts us at (taken l new same is p shown) m =
    let one : l ≡ x = same_read (known ++ l ∷ []) (length known) l x (read_last known l) (subst (λ (k : ℕ). slice_get (known ++ l ∷ []) k ≡ Some x) p (subst (λ (ls : List Listing). slice_get ls place ≡ Some x) is at)) in
    with_listing l new same is (record { front = ts; back = us; joined = refl; first = shown; second = subst (λ (k : Listing). ShowsMembersIn log n k s us) (sym one) m })

-- what was seen of the members stopped the looks
pub members_stopped : (log : Path) (n : Naming) (x : Listing) (why : StandStop) {o p : Option Journal} → Left (ShowsNoneIn n x.there x.names why) o p → Left (ShowsMembersIn log n x (Stopped why)) o p
members_stopped log n x why stopped = left_as stopped (λ ts h. inr (inl h))

-- what was seen of them, and then where the log waits
pub standing_told : (log : Path) (n : Naming) (x : Listing) (stand : Stand) (r : Result Standing StandStop) {o m p : Option Journal} → Left (ShowsIn n x.there x.parent x.names stand) o m
    → IfOk r (λ standing. Left (ShowsAside n.aside log standing.tmp) m p) → IfErr r (λ why. Left (ShowsNoAside n.aside log why) m p) → IfOk r (λ standing. standing.stand ≡ stand) → Left (ShowsMembersIn log n x (sight_of r)) o p
standing_told log n x stand (Ok standing) shown told stopped same =
    left_as (left_both shown told) (λ ts h. subst (λ (s : Stand). Then (ShowsIn n x.there x.parent x.names s) (ShowsAside n.aside log standing.tmp) ts) (sym same) h)
standing_told log n x stand (Err why) shown told stopped same = left_as (left_both shown stopped) (λ ts h. inr (inr (stand, h)))

pub family_told : (known after : List Listing) (log : Path) (n : Naming) (dir : Path) (place : ℕ) (x : Listing) (s : FamilySight) {o m p : Option Journal} → dir ≡ n.dir → slice_get after place ≡ Some x → Left (TakesListing known dir after place) o m
    → Left (ShowsMembersIn log n x s) m p → Left (ShowsFamily known log n after s) o p
family_told known after log n dir place x s e at l told = left_then l told (λ ts us h g. behind known after log n place x s ts us at (subst (λ (d : Path). TakesListing known d after place ts) e h) g)

-- what is asked of the members
pub members_are : (n : Naming) (stand : Stand) (r : Result Standing StandStop) → or_none is_format n.dated ≡ true → AreNamed n stand.members → AreNewestFirst stand.members → IfOk r (λ standing. standing.stand ≡ stand)
    → IfOk r (λ standing. AreMembersOf n standing.stand.members)
members_are n stand (Ok standing) limits named newest same = subst (λ (s : Stand). AreMembersOf n s.members) (sym same) (record { format = limits; named = named; newest = newest })
members_are n stand (Err why) limits named newest same = tt

pub family_lacks : (known after : List Listing) (log : Path) (n : Naming) (dir : Path) (why : StandStop) {o p : Option Journal} → dir ≡ n.dir → Left (LacksListing known dir why after) o p → Left (ShowsFamily known log n after (Stopped why)) o p
family_lacks known after log n dir why e l = left_as l (λ ts h. go ts (subst (λ (d : Path). LacksListing known d why after ts) e h))
  where
    go : (ts : List Entry) → LacksListing known n.dir why after ts → ShowsFamily known log n after (Stopped why) ts
    go ts h = not_listed why h.not_before h.same refl h.shown

-- what was looked at of a family that stopped the looks, or for which there was no memory
pub family_part : (known : List Listing) (log : Path) (n : Naming) (dir : Path) (why : StandStop) {o p : Option Journal} → dir ≡ n.dir → Left (NoListing known dir why) o p → Left (FamilyPart known log n (Stopped why)) o p
family_part known log n dir why e l = left_as l (λ ts h. go ts (subst (λ (d : Path). NoListing known d why ts) e h))
  where
    go : (ts : List Entry) → NoListing known n.dir why ts → FamilyPart known log n (Stopped why) ts
    go ts (lacks new shown) = (known, not_listed why new refl refl shown)
    go ts (unadded l none new same shown) = (known ++ l ∷ [], with_listing l new same refl (record { front = ts; back = []; joined = sym (append-nil ts); first = shown; second = inl (none, refl) }))

pub part_of : (known after : List Listing) (log : Path) (n : Naming) (s : FamilySight) {o p : Option Journal} → Left (ShowsFamily known log n after s) o p → Left (FamilyPart known log n s) o p
part_of known after log n s l = left_as l (λ ts h. (after, h))

-- ---- one log

-- a stop for another cause
had_memory : (why : StandStop) → why ≢ stop.Memory → HadMemory (Stopped why)
had_memory (stop.Call kind path) ne = tt
had_memory (stop.NotFile path) ne = tt
had_memory stop.Memory ne = absurd (ne refl)

one_family : (known after : List Listing) (f : FoundLog) (s : FamilySight) (a b : List Fault) (q : List LookedLog) (ts : List Entry) → HadMemory s → ShowsFamily known f.log.path f.log.naming after s ts → b ≡ a ++ family_fault s → q ≡ looked_by f s
    → LookedAtFamilies known (f ∷ []) after a b q ts
one_family known after f s a b q ts m h e g = record {
  sights = s ∷ [];
  had_memory = (m, tt);
  shown = (after, record { front = ts; back = []; joined = sym (append-nil ts); first = h; second = (refl, refl) });
  faults_are = e ∙ ap (λ fs. a ++ fs) (sym (append-nil (family_fault s)));
  looked_are = g ∙ sym (append-nil (looked_by f s));
}

pub stood_told : {T E : Type 0} (r : Result T E) (known after : List Listing) (f : FoundLog) (stand : Stand) (tmp : Option Seen) (a : List Fault) (p q : List SetLooks) {o n : Option Journal} → Left (ShowsFamily known f.log.path f.log.naming after (Stood stand tmp)) o n
    → OnOk r (AddsLooked (looked_at f stand tmp ∷ []) p q) → OnOk r (AddsFamily known after f a a p q o n)
stood_told (Ok x) known after f stand tmp a p q l g = record {
  looked = looked_at f stand tmp ∷ [];
  entries = left_as l (λ ts h. one_family known after f (Stood stand tmp) a a (looked_at f stand tmp ∷ []) ts tt h (sym (append-nil a)) refl);
  added = g;
}
stood_told (Err x) known after f stand tmp a p q l g = tt

adds_nothing : (p : List SetLooks) → AddsLooked [] p p
adds_nothing p = λ logs h. subst (λ (ls : List LookedLog). HaveLooks ls p) (sym (append-nil logs)) h

pub stop_told : {T E : Type 0} (r : Result T E) (known after : List Listing) (f : FoundLog) (why : StandStop) (a b : List Fault) (p : List SetLooks) {o n : Option Journal} → (why ≢ stop.Memory → Left (ShowsFamily known f.log.path f.log.naming after (Stopped why)) o n)
    → OnOk r (why ≢ stop.Memory) → OnOk r (b ≡ a ++ stop_fault why) → OnOk r (AddsFamily known after f a b p p o n)
stop_told (Ok x) known after f why a b p l ne g = record { looked = []; entries = left_as (l ne) (λ ts h. one_family known after f (Stopped why) a b [] ts (had_memory why ne) h g refl); added = adds_nothing p }
stop_told (Err x) known after f why a b p l ne g = tt

pub some_told : {T E : Type 0} (r : Result T E) (known : List Listing) (f : FoundLog) (s : FamilySight) {o n : Option Journal} → Left (FamilyPart known f.log.path f.log.naming s) o n → OnErr r (Left (LookedAtSomeFamilies known (f ∷ [])) o n)
some_told (Ok x) known f s l = tt
some_told (Err x) known f s l = left_as l (λ ts h. record {
  sights = s ∷ [];
  few = omega arith;
  after = h.0;
  shown = (h.0, record { front = ts; back = []; joined = sym (append-nil ts); first = h.1; second = (refl, refl) });
})

pub stop_went : {T E : Type 0} (r : Result T E) (why : StandStop) (faults all : List Fault) (a b : Counts)
    → (IsFailedStand why → Rose a.faults b.faults) → Onward a b → OnOk r (all ≡ faults ++ stop_fault why) → WentBy r faults all a b
stop_went (Ok x) (stop.Call kind path) faults all a b rose on e = went_call faults all kind path a b e (rose (record {})) on
stop_went (Ok x) (stop.NotFile path) faults all a b rose on e = went_free faults all (stop_fault (stop.NotFile path)) a b e
    (record { calls = refl; scripts = refl; none_around = ((λ h. h), tt) }) on
stop_went (Ok x) stop.Memory faults all a b rose on e = went_free faults all [] a b e free_none on
stop_went (Err x) why faults all a b rose on e = on

-- ---- a list of logs

-- the looks at some families, and then at others
pub shown_on : (known mid after : List Listing) (fs gs : List FoundLog) (ss rs : List FamilySight) (ts us : List Entry) → ShowFamilies known fs mid ss ts → ShowFamilies mid gs after rs us → ShowFamilies known (fs ++ gs) after (ss ++ rs) (ts ++ us)
shown_on known mid after [] gs [] rs ts us h g = subst (λ (es : List Entry). ShowFamilies known gs after rs (es ++ us)) (sym h.1) (subst (λ (k : List Listing). ShowFamilies k gs after rs us) h.0 g)
shown_on known mid after [] gs (x ∷ ss) rs ts us h g = absurd h
shown_on known mid after (y ∷ fs) gs [] rs ts us h g = absurd h
shown_on known mid after (y ∷ fs) gs (x ∷ ss) rs ts us h g =
    (h.0, record { front = h.1.front; back = h.1.back ++ us; joined = ap (λ (es : List Entry). es ++ us) h.1.joined ∙ append_assoc h.1.front h.1.back us; first = h.1.first; second = shown_on h.0 mid after fs gs ss rs h.1.back us h.1.second g })

-- as many sights as logs
pub as_many_sights : (known after : List Listing) (fs : List FoundLog) (ss : List FamilySight) (ts : List Entry) → ShowFamilies known fs after ss ts → length ss ≡ length fs
as_many_sights known after [] [] ts h = refl
as_many_sights known after [] (s ∷ ss) ts h = absurd h
as_many_sights known after (f ∷ fs) [] ts h = absurd h
as_many_sights known after (f ∷ fs) (s ∷ ss) ts h = let e : length ss ≡ length fs = as_many_sights h.0 after fs ss h.1.back h.1.second in omega (arith, e)

faults_on : (ss rs : List FamilySight) → family_faults (ss ++ rs) ≡ family_faults ss ++ family_faults rs
faults_on [] rs = refl
faults_on (x ∷ ss) rs = ap (λ fs. family_fault x ++ fs) (faults_on ss rs) ∙ sym (append_assoc (family_fault x) (family_faults ss) (family_faults rs))

looked_on : (fs gs : List FoundLog) (ss rs : List FamilySight) → length ss ≡ length fs → looked_of (fs ++ gs) (ss ++ rs) ≡ looked_of fs ss ++ looked_of gs rs
looked_on [] gs [] rs e = refl
looked_on [] gs (s ∷ ss) rs e = absurd (omega (arith, e))
looked_on (f ∷ fs) gs [] rs e = absurd (omega (arith, e))
looked_on (f ∷ fs) gs (s ∷ ss) rs e = ap (λ ls. looked_by f s ++ ls) (looked_on fs gs ss rs (omega (arith, e))) ∙ sym (append_assoc (looked_by f s) (looked_of fs ss) (looked_of gs rs))

all_had_memory : (ss rs : List FamilySight) → AllHadMemory ss → AllHadMemory rs → AllHadMemory (ss ++ rs)
all_had_memory [] rs h g = g
all_had_memory (s ∷ ss) rs h g = (h.0, all_had_memory ss rs h.1 g)

families_on : (known mid after : List Listing) (fs gs : List FoundLog) (a b c : List Fault) (p q : List LookedLog) (ts us : List Entry) → LookedAtFamilies known fs mid a b p ts → LookedAtFamilies mid gs after b c q us
    → LookedAtFamilies known (fs ++ gs) after a c (p ++ q) (ts ++ us)
families_on known mid after fs gs a b c p q ts us l k = record {
  sights = l.sights ++ k.sights;
  had_memory = all_had_memory l.sights k.sights l.had_memory k.had_memory;
  shown = shown_on known mid after fs gs l.sights k.sights ts us l.shown k.shown;
  faults_are = grown a b c _ _ _ l.faults_are k.faults_are (faults_on l.sights k.sights);
  looked_are = ap (λ (ls : List LookedLog). ls ++ q) l.looked_are ∙ (ap (λ (ls : List LookedLog). looked_of fs l.sights ++ ls) k.looked_are ∙ sym (looked_on fs gs l.sights k.sights (as_many_sights known mid fs l.sights ts l.shown)));
}

take_past : (xs ys : List FoundLog) (n : ℕ) → take (length xs + n) (xs ++ ys) ≡ xs ++ take n ys
take_past [] ys n = ap (λ k. take k ys) (none_more n)
take_past (x ∷ xs) ys n = subst (λ k. take k (x ∷ (xs ++ ys)) ≡ x ∷ (xs ++ take n ys)) (suc_plus (length xs) n) (ap (λ l. x ∷ l) (take_past xs ys n))
  where
    suc_plus : (a b : ℕ) → suc (a + b) ≡ suc a + b
    suc_plus a b = omega arith

-- the looks at some families, and then at some of others, of which more come
families_some : (known mid : List Listing) (fs gs hs : List FoundLog) (a b : List Fault) (p : List LookedLog) (ts us : List Entry) → LookedAtFamilies known fs mid a b p ts → LookedAtSomeFamilies mid gs us → LookedAtSomeFamilies known (fs ++ (gs ++ hs)) (ts ++ us)
families_some known mid fs gs hs a b p ts us l k =
    let m : length l.sights ≡ length fs = as_many_sights known mid fs l.sights ts l.shown in
    let f : length k.sights ≤ length gs = k.few in
    let both : length (l.sights ++ k.sights) ≡ length l.sights + length k.sights = length-append l.sights k.sights in
    let all : length (fs ++ (gs ++ hs)) ≡ length fs + length (gs ++ hs) = length-append fs (gs ++ hs) in
    let rest : length (gs ++ hs) ≡ length gs + length hs = length-append gs hs in
    let at : length (l.sights ++ k.sights) ≡ length fs + length k.sights = omega (arith, m, both) in
    record {
      sights = l.sights ++ k.sights;
      few = omega (arith, m, f, both, all, rest);
      after = k.after;
      shown = subst (λ (xs : List FoundLog). ShowFamilies known xs k.after (l.sights ++ k.sights) (ts ++ us))
          (sym (ap (λ n. take n (fs ++ (gs ++ hs))) at ∙ (take_past fs (gs ++ hs) (length k.sights) ∙ ap (λ xs. fs ++ xs) (take-append-le (length k.sights) gs hs f))))
          (shown_on known mid k.after fs (take (length k.sights) gs) l.sights k.sights ts us l.shown k.shown);
    }

-- ---- all logs, one behind another

-- what was looked at so far, and which logs were added to their definitions
pub record SoFar (done : List Found) (mid : List Listing) (a b : List Fault) (x y : List SetLooks) (o m : Option Journal) : Type 0 where
  pub looked : List LookedLog
  pub entries : Left (LookedAtFamilies [] (all_found_in done) mid a b looked) o m
  pub added : AddsLooked looked x y

pub families_none : (a : List Fault) (x : List SetLooks) (known : List Listing) {o : Option Journal} → known ≡ [] → SoFar [] known a a x x o o
families_none a x known e = record { looked = []; entries = left_first (LookedAtFamilies [] [] known a a []) _ (record { sights = []; had_memory = tt; shown = (e, refl); faults_are = sym (append-nil a); looked_are = refl }); added = adds_nothing x }

adds_on : (p q : List LookedLog) (x y z : List SetLooks) → AddsLooked p x y → AddsLooked q y z → AddsLooked (p ++ q) x z
adds_on p q x y z f g = λ logs h. subst (λ (ls : List LookedLog). HaveLooks ls z) (append_assoc logs p q) (g (logs ++ p) (f logs h))

pub families_more : (mid after : List Listing) (done : List Found) (item : Found) (a b c : List Fault) (x y z : List SetLooks) {o m n : Option Journal} → SoFar done mid a b x y o m → AddsFamily mid after (found_in item) b c y z m n
    → SoFar (done ++ item ∷ []) after a c x z o n
families_more mid after done item a b c x y z s t = record {
  looked = s.looked ++ t.looked;
  entries = left_then s.entries t.entries (λ ts us h g. subst (λ (fs : List FoundLog). LookedAtFamilies [] fs after a c (s.looked ++ t.looked) (ts ++ us)) (sym (map-append found_in done (item ∷ [])))
      (families_on [] mid after (all_found_in done) (found_in item ∷ []) a b c s.looked t.looked ts us h g));
  added = adds_on s.looked t.looked x y z s.added t.added;
}

pub families_part : {T E : Type 0} (r : Result T E) (mid : List Listing) (all done rest : List Found) (item : Found) (a b : List Fault) (x y : List SetLooks) {o m n : Option Journal} → all ≡ done ++ item ∷ rest → SoFar done mid a b x y o m
    → Left (LookedAtSomeFamilies mid (found_in item ∷ [])) m n → OnErr r (Left (LookedAtSomeFamilies [] (all_found_in all)) o n)
families_part (Ok u) mid all done rest item a b x y e s l = tt
families_part (Err u) mid all done rest item a b x y e s l = left_then s.entries l (λ ts us h g. subst (λ (fs : List FoundLog). LookedAtSomeFamilies [] fs (ts ++ us)) (sym (ap all_found_in e ∙ map-append found_in done (item ∷ rest)))
    (families_some [] mid (all_found_in done) (found_in item ∷ []) (all_found_in rest) a b s.looked ts us h g))

pub families_all : (all done : List Found) (known : List Listing) (a b : List Fault) (x y : List SetLooks) {o n : Option Journal} → all ≡ done → SoFar done known a b x y o n → AddsFamilies (all_found_in all) a b x y o n
families_all all done known a b x y e s = record {
  looked = s.looked;
  entries = left_as s.entries (λ ts h. record { listings = known; families = subst (λ (ls : List Found). LookedAtFamilies [] (all_found_in ls) known a b s.looked ts) (sym e) h });
  added = s.added;
}

pub sets_all : (logs : List FoundLog) (a b : List Fault) (x y z : List SetLooks) {o n : Option Journal} → z ≡ y → HaveLooks [] x → AddsFamilies logs a b x y o n → LooksBySets logs a b z o n
sets_all logs a b x y z e h s = record { looked = s.looked; entries = s.entries; by_sets = subst (HaveLooks s.looked) (sym e) (s.added [] h) }

-- ---- the next of a list

pub next_holds : (P : FoundLog → Type 0) (all done rest : List Found) (x : Found) → all ≡ done ++ x ∷ rest → Hold P (all_found_in all) → P (found_in x)
next_holds P all done rest x e h = go done (subst (λ (fs : List Found). Hold P (all_found_in fs)) e h)
  where
    go : (done : List Found) → Hold P (all_found_in (done ++ x ∷ rest)) → P (found_in x)
    go [] h = h.0
    go (y ∷ ys) h = go ys h.1

-- ---- before the first

pub no_families : {T E : Type 0} (r : Result T E) (logs : List FoundLog) (o : Option Journal) → OnErr r (Left (LookedAtSomeFamilies [] logs) o o)
no_families (Ok x) logs o = tt
no_families (Err x) logs o = left_first (LookedAtSomeFamilies [] logs) _ (record { sights = []; few = omega arith; after = []; shown = (refl, refl) })
