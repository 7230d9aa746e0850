-- All looks of a run, one kind behind another.
use Rattle.std.proofs.Common.{◌≡◌, ℕ, List, [], ◌∷◌, ◌++◌, length, take, Bool, true, false, cond, Option, Some, None, slice_get, IfOk, Result, Ok, Err, OnErr, refl, sym, ap, ◌∙◌, subst, arith, append_assoc}
use Rattle.std.specs.List.{flat_map}
use Rattle.std.proofs.Math.Seq.{take-length}
use Rattle.lr_rules.specs.declared.fault.Fault.{Fault}
use Rattle.lr_rules.specs.declared.fault.Fault.TheVariants as fault
use Rattle.lr_rules.specs.declared.path.Path.{Path}
use Rattle.lr_rules.specs.declared.rule.Rule.{Rule}
use Rattle.lr_host.specs.declared.entry.Entry.{Entry}
use Rattle.lr_host.specs.declared.journal.Journal.{Journal}
use Rattle.lr_host.specs.Told.{Counts, Left}
use Rattle.lr_host.proofs.Left.{left_as, left_first, left_then}
use Rattle.lr_plan.specs.declared.looks.Looks.{Looks}
use Rattle.lr_host.specs.Counted.{Went, WentBy}
use Rattle.lr_host.specs.Listing.{is_file_kind}
use Rattle.lr_host.proofs.Counts.{AreFree, free_none, free_on, onward_same, went_free, went_on, went_then}
use Rattle.lr_kept.specs.declared.choice.Choice.{Choice}
use Rattle.lr_kept.specs.declared.choice.Choice.TheVariants.{Kept, Again, MemberOf, Reserved, Meets}
use Rattle.lr_looks.specs.Asked.{AskedWord, asked_by, AreTexts}
use Rattle.lr_looks.specs.Choices.{duplicate, overlap, barred, choice_fault, choice_faults, kept_of, kind_fault, KeepsLogs}
use Rattle.lr_looks.specs.Families.{LookedLog, family_faults, LooksAtFamilies, LookedAtSomeFamilies}
use Rattle.lr_looks.specs.Found.{FoundLog, paths_of, HaveLogPaths}
use Rattle.lr_looks.specs.Internal.{LooksBySets}
use Rattle.lr_looks.specs.Reserved.{reserved_by}
use Rattle.lr_looks.specs.Shown.{LooksAtAll, ShowsSomeLooks, at_words, at_families}
use Rattle.lr_looks.specs.Sights.{all_sight_faults, ShowWords, LookedAtWords, LookedAtSomeWords}
use Rattle.lr_looks.proofs.Looking.{shown_many}

-- ---- the faults of the looks alone, whatever came before

own_words : (words : List AskedWord) (a b : List Fault) (found : List FoundLog) (ts : List Entry) → (l : LookedAtWords words a b [] found ts) → LookedAtWords words [] (all_sight_faults words l.sights) [] found ts
own_words words a b found ts l = record { sights = l.sights; had_memory = l.had_memory; shown = l.shown; faults_are = refl; found_are = l.found_are }

abbrev kept_faults : (reserved : List Path) (found : List FoundLog) (b c : List Fault) (kept : List FoundLog) → KeepsLogs reserved found b c kept → List Fault
kept_faults reserved found b c kept k = choice_faults reserved found found k.choices ++ flat_map kind_fault (kept_of found k.choices)

own_kept : (reserved : List Path) (found : List FoundLog) (b c b' : List Fault) (kept : List FoundLog) → (k : KeepsLogs reserved found b c kept) → KeepsLogs reserved found b' (b' ++ kept_faults reserved found b c kept k) kept
own_kept reserved found b c b' kept k = record { choices = k.choices; chosen = k.chosen; faults_are = refl; left_are = k.left_are }

own_families : (kept : List FoundLog) (c d c' : List Fault) (looked : List LookedLog) (ts : List Entry) → (l : LooksAtFamilies kept c d looked ts) → LooksAtFamilies kept c' (c' ++ family_faults l.families.sights) looked ts
own_families kept c d c' looked ts l = record { listings = l.listings; families = record { sights = l.families.sights; had_memory = l.families.had_memory; shown = l.families.shown; faults_are = refl; looked_are = l.families.looked_are } }

three : (a b c d x y z : List Fault) → b ≡ a ++ x → c ≡ b ++ y → d ≡ c ++ z → d ≡ a ++ ((x ++ y) ++ z)
three a b c d x y z e f g = g ∙ (ap (λ l. l ++ z) (f ∙ (ap (λ l. l ++ y) e ∙ append_assoc a x y)) ∙ append_assoc a (x ++ y) z)

-- ---- whole

pub all_told : (reserved : List Path) (rules : List Rule) (found kept : List FoundLog) (a b c d : List Fault) (looks : Looks) {o m n : Option Journal} → AreTexts (asked_by rules) → HaveLogPaths found → Left (LookedAtWords (asked_by rules) a b [] found) o m → KeepsLogs reserved found b c kept
    → LooksBySets kept c d looks.sets m n → looks.kept ≡ paths_of kept → length looks.sets ≡ length rules → Left (LooksAtAll reserved rules looks a d) o n
all_told reserved rules found kept a b c d looks texts fit l k s paths many = left_then l s.entries (λ ts us h g. record {
  own = (all_sight_faults (asked_by rules) h.sights ++ kept_faults reserved found b c kept k) ++ family_faults g.families.sights;
  faults_are = three a b c d _ _ _ h.faults_are k.faults_are g.families.faults_are;
  shown = record {
    found = found;
    of_words = all_sight_faults (asked_by rules) h.sights;
    kept = kept;
    of_kept = all_sight_faults (asked_by rules) h.sights ++ kept_faults reserved found b c kept k;
    looked = s.looked;
    texts = texts;
    paths = fit;
    keeps = own_kept reserved found b c (all_sight_faults (asked_by rules) h.sights) kept k;
    entries = record { front = ts; back = us; joined = refl; first = own_words (asked_by rules) a b found ts h; second = own_families kept c d (all_sight_faults (asked_by rules) h.sights ++ kept_faults reserved found b c kept k) s.looked us g };
    many = many;
    by_sets = s.by_sets;
  };
  kept_are = paths;
})

pub all_ok : {E : Type 0} (r : Result Looks E) (reserved : List Path) (rules : List Rule) (found kept : List FoundLog) (a b c d : List Fault) (count : ℕ) {o m : Option Journal} (n : Option Journal) → AreTexts (asked_by rules) → HaveLogPaths found → Left (LookedAtWords (asked_by rules) a b [] found) o m → KeepsLogs reserved found b c kept
    → IfOk r (λ looks. LooksBySets kept c d looks.sets m n) → IfOk r (λ looks. looks.kept ≡ paths_of kept) → IfOk r (λ looks. length looks.sets ≡ count) → count ≡ length rules → IfOk r (λ looks. Left (LooksAtAll reserved rules looks a d) o n)
all_ok (Ok looks) reserved rules found kept a b c d count n texts fit l k s paths many is = all_told reserved rules found kept a b c d looks texts fit l k s paths (many ∙ is)
all_ok (Err x) reserved rules found kept a b c d count n texts fit l k s paths many is = tt

pub all_many : {E : Type 0} (r : Result Looks E) (rules : List Rule) (count : ℕ) → IfOk r (λ looks. length looks.sets ≡ count) → count ≡ length rules → IfOk r (λ looks. length looks.sets ≡ length rules)
all_many (Ok looks) rules count many is = many ∙ is
all_many (Err x) rules count many is = tt

-- ---- the faults of what is kept, and the counts

again_free : (f : FoundLog) (o : Option FoundLog) → AreFree (duplicate f o)
again_free f None = free_none
again_free f (Some first) = go first.log.ignore
  where
    go : (b : Bool) → AreFree (cond b [] (fault.Duplicate f.log.path ∷ []))
    go true = free_none
    go false = record { calls = refl; scripts = refl; none_around = ((λ h. h), tt) }

met_free : (f : FoundLog) (o : Option FoundLog) → AreFree (overlap f o)
met_free f None = free_none
met_free f (Some other) = record { calls = refl; scripts = refl; none_around = ((λ h. h), tt) }

barred_free : (f : FoundLog) (o : Option Path) → AreFree (barred f o)
barred_free f None = free_none
barred_free f (Some path) = record { calls = refl; scripts = refl; none_around = ((λ h. h), tt) }

choice_free : (reserved : List Path) (all : List FoundLog) (f : FoundLog) (c : Choice) → AreFree (choice_fault reserved all f c)
choice_free reserved all f Kept = free_none
choice_free reserved all f (Again i) = again_free f (slice_get all i)
choice_free reserved all f (MemberOf i) = free_none
choice_free reserved all f (Reserved i) = barred_free f (slice_get reserved i)
choice_free reserved all f (Meets i) = met_free f (slice_get all i)

choices_free : (reserved : List Path) (all fs : List FoundLog) (cs : List Choice) → AreFree (choice_faults reserved all fs cs)
choices_free reserved all [] [] = free_none
choices_free reserved all [] (c ∷ cs) = free_none
choices_free reserved all (f ∷ fs) [] = free_none
choices_free reserved all (f ∷ fs) (c ∷ cs) = free_on (choice_fault reserved all f c) (choice_faults reserved all fs cs) (choice_free reserved all f c) (choices_free reserved all fs cs)

kind_free : (f : FoundLog) → AreFree (kind_fault f)
kind_free f = go (is_file_kind f.seen.kind)
  where
    go : (b : Bool) → AreFree (cond b [] (fault.NotFile f.log.path ∷ []))
    go true = free_none
    go false = record { calls = refl; scripts = refl; none_around = ((λ h. h), tt) }

kinds_free : (fs : List FoundLog) → AreFree (flat_map kind_fault fs)
kinds_free [] = free_none
kinds_free (f ∷ fs) = free_on (kind_fault f) (flat_map kind_fault fs) (kind_free f) (kinds_free fs)

kept_went : (reserved : List Path) (found kept : List FoundLog) (b c : List Fault) (k : Counts)
    → KeepsLogs reserved found b c kept → Went b c k k
kept_went reserved found kept b c k h =
    went_free b c (kept_faults reserved found b c kept h) k k h.faults_are
    (free_on (choice_faults reserved found found h.choices) (flat_map kind_fault (kept_of found h.choices))
    (choices_free reserved found found h.choices) (kinds_free (kept_of found h.choices))) (onward_same k)

pub all_went : {E : Type 0} (r : Result Looks E) (reserved : List Path) (found kept : List FoundLog) (a b c d : List Fault)
    (k l m : Counts) → Went a b k l → KeepsLogs reserved found b c kept → WentBy r c d l m → WentBy r a d k m
all_went r reserved found kept a b c d k l m x h y =
    went_then r a c d k l m (went_on a b c k l l x (kept_went reserved found kept b c l h)) y

-- ---- in part

pub all_at_words : {T E : Type 0} (r : Result T E) (reserved : List Path) (rules : List Rule) {o n : Option Journal} → Left (LookedAtSomeWords 0 (asked_by rules)) o n → OnErr r (Left (ShowsSomeLooks reserved rules) o n)
all_at_words (Ok x) reserved rules l = tt
all_at_words (Err x) reserved rules l = left_as l (λ ts h. at_words h)

some_whole : (words : List AskedWord) (a b : List Fault) (found : List FoundLog) (ts : List Entry) → LookedAtWords words a b [] found ts → LookedAtSomeWords 0 words ts
some_whole words a b found ts l =
    let m : length l.sights ≡ length words = shown_many 0 words l.sights ts l.shown in
    record {
      sights = l.sights;
      few = omega (arith, m);
      shown = subst (λ ws. ShowWords 0 ws l.sights ts) (sym (ap (λ n. take n words) m ∙ take-length words)) l.shown;
    }

pub all_at_kept : {T E : Type 0} (r : Result T E) (reserved : List Path) (rules : List Rule) (a b : List Fault) (found : List FoundLog) {o n : Option Journal} → Left (LookedAtWords (asked_by rules) a b [] found) o n → OnErr r (Left (ShowsSomeLooks reserved rules) o n)
all_at_kept (Ok x) reserved rules a b found l = tt
all_at_kept (Err x) reserved rules a b found l = left_as l (λ ts h. at_words (some_whole (asked_by rules) a b found ts h))

pub all_at_families : {T E : Type 0} (r : Result T E) (reserved : List Path) (rules : List Rule) (found kept : List FoundLog) (a b c : List Fault) {o m : Option Journal} (n : Option Journal) → Left (LookedAtWords (asked_by rules) a b [] found) o m → KeepsLogs reserved found b c kept
    → OnErr r (Left (LookedAtSomeFamilies [] kept) m n) → OnErr r (Left (ShowsSomeLooks reserved rules) o n)
all_at_families (Ok x) reserved rules found kept a b c n l k s = tt
all_at_families (Err x) reserved rules found kept a b c n l k s = left_then l s (λ ts us h g. at_families found (all_sight_faults (asked_by rules) h.sights) kept (all_sight_faults (asked_by rules) h.sights ++ kept_faults reserved found b c kept k) (own_kept reserved found b c (all_sight_faults (asked_by rules) h.sights) kept k)
    (record { front = ts; back = us; joined = refl; first = own_words (asked_by rules) a b found ts h; second = g }))

-- ---- behind the paths that are reserved

-- no look was made
pub none_looked : {T E : Type 0} (r : Result T E) (state : Path) (rules : List Rule) (o : Option Journal) → OnErr r (Left (ShowsSomeLooks (reserved_by state) rules) o o)
none_looked (Ok x) state rules o = tt
none_looked (Err x) state rules o = left_first (ShowsSomeLooks (reserved_by state) rules) o (at_words (record { sights = []; few = omega arith; shown = refl }))

-- a first part of them
pub some_looked : {T E : Type 0} (r : Result T E) (state : Path) (reserved : List Path) (rules : List Rule) {o n : Option Journal} → reserved ≡ reserved_by state → Left (ShowsSomeLooks reserved rules) o n → OnErr r (Left (ShowsSomeLooks (reserved_by state) rules) o n)
some_looked (Ok x) state reserved rules e l = tt
some_looked (Err x) state reserved rules e l = left_as l (λ ts h. subst (λ (ps : List Path). ShowsSomeLooks ps rules ts) e h)
