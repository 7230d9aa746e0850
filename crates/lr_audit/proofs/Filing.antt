-- Looks at the names in directories, one behind another.
use Rattle.std.proofs.Common.{◌≡◌, ◌≢◌, ⊎_elim, ℕ, ◌<◌, ◌≤◌, ◌+◌, Bool, true, false, cond, List, [], ◌∷◌, ◌++◌, length, take, get_or, map, Option, Some, None, Result, Ok, Err, OnOk, OnErr, refl, sym, ap, ◌∙◌, subst, append_assoc}
use Rattle.std.specs.Prelude.{filter, is_none, All}
use Rattle.std.specs.List.{flat_map}
use Rattle.std.proofs.lemmas.List.{append-nil, map-append, take_more, take_all}
use Rattle.std.proofs.lemmas.List.Elements.{filter-append, All-append, All-cons, All-nil, All-head, All-tail}
use Rattle.std.proofs.lemmas.Grind.{flat_map-append}
use Rattle.lr_rules.specs.declared.path.Path.{Path}
use Rattle.lr_rules.specs.declared.path.PathFault.{PathFault}
use Rattle.lr_rules.specs.declared.path.PathFault.TheVariants as path_stop
use Rattle.lr_rules.specs.declared.fault.CallKind.{CallKind}
use Rattle.lr_rules.specs.declared.fault.CallKind.TheVariants as call
use Rattle.lr_rules.specs.declared.fault.Fault.{Fault}
use Rattle.lr_rules.specs.declared.fault.Fault.TheVariants as fault
use Rattle.lr_rules.specs.Path.{joined, path_fault, IsRefusal}
use Rattle.lr_host.specs.declared.thing.Seen.{Seen}
use Rattle.lr_host.specs.declared.entry.Entry.{Entry}
use Rattle.lr_host.specs.declared.entry.Entry.TheVariants as entry
use Rattle.lr_host.specs.declared.journal.Journal.{Journal}
use Rattle.lr_host.specs.Counted.{Went, WentBy}
use Rattle.lr_host.specs.Listing.{HasListed}
use Rattle.lr_host.specs.Quiet.{AreQuiet}
use Rattle.lr_host.specs.Told.{Left, Counts, Onward, Rose}
use Rattle.lr_host.proofs.Counts.{went_same, went_call}
use Rattle.lr_host.proofs.Left.{left_as, left_first, left_then}
use Rattle.lr_host.proofs.Quiet.{quiet_both, sees_quiet, then_quiet}
use Rattle.lr_family.specs.declared.stand.StandStop.{StandStop}
use Rattle.lr_family.specs.declared.stand.StandStop.TheVariants as stop
use Rattle.lr_family.specs.Listed.{ShowsListing, NotListed, NotListedAt}
use Rattle.lr_family.specs.Stands.{IsFailedStand}
use Rattle.lr_audit.specs.Files.{are_path_bytes, paths_of_names, FileSight, file_path, file_by, fault_by, look_by, sight_file, sight_fault, file_looks, LookedAtEach, ShowsFilesIn, listed, not_listed, no_directory, list_fault, DirSight, IsShown, ShowsDirs, AddsFiles}

-- ---- paths

pub paths_on : (dir : Path) (xs ys : List (List ℕ)) → paths_of_names dir (xs ++ ys) ≡ paths_of_names dir xs ++ paths_of_names dir ys
paths_on dir xs ys = ap (filter are_path_bytes) (map-append (joined dir) xs ys) ∙ filter-append are_path_bytes (map (joined dir) xs) (map (joined dir) ys)

pub paths_more : (dir : Path) (names : List (List ℕ)) (i : ℕ) (name : List ℕ) (old new : List Path) → name ≡ get_or names i name → i < length names → old ≡ paths_of_names dir (take i names) → new ≡ old ++ paths_of_names dir (name ∷ []) → new ≡ paths_of_names dir (take (i + 1) names)
paths_more dir names i name old new is lt so more =
    more ∙ (ap (λ (ps : List Path). ps ++ paths_of_names dir (name ∷ [])) so
    ∙ (sym (paths_on dir (take i names) (name ∷ [])) ∙ ap (paths_of_names dir) (ap (λ y. take i names ++ y ∷ []) is ∙ sym (take_more names i name lt))))

pub path_added : (dir : Path) (name : List ℕ) (path : Path) (old new : List Path) → path ≡ joined dir name → path_fault path ≡ None → new ≡ old ++ path ∷ [] → new ≡ old ++ paths_of_names dir (name ∷ [])
path_added dir name path old new same ok more = more ∙ ap (λ (ps : List Path). old ++ ps) (one (path_fault (joined dir name)) (ap path_fault (sym same) ∙ ok))
  where
    one : (o : Option PathFault) → o ≡ None → path ∷ [] ≡ cond (is_none o) (joined dir name ∷ []) []
    one None e = ap (λ (p : Path). p ∷ []) same
    one (Some f) e = absurd (cc)

pub path_refused : {T E : Type 0} (r : Result T E) (dir : Path) (name : List ℕ) (why : PathFault) (old : List Path) → OnOk r (why ≢ path_stop.Memory) → IsRefusal (path_fault (joined dir name)) why → OnOk r (old ≡ old ++ paths_of_names dir (name ∷ []))
path_refused (Err e) dir name why old ne is = tt
path_refused (Ok x) dir name why old ne is = sym (append-nil old) ∙ ap (λ (ps : List Path). old ++ ps) (none (path_fault (joined dir name)) why ne is)
  where
    none : (o : Option PathFault) (why : PathFault) → why ≢ path_stop.Memory → IsRefusal o why → [] ≡ cond (is_none o) (joined dir name ∷ []) []
    none (Some f) why ne is = refl
    none None path_stop.Memory ne is = absurd (ne refl)
    none None path_stop.NotUtf8 ne is = absurd (cc)
    none None path_stop.BadByte ne is = absurd (cc)
    none None path_stop.TooLong ne is = absurd (cc)
    none None path_stop.Relative ne is = absurd (cc)
    none None path_stop.EmptyPart ne is = absurd (cc)
    none None path_stop.DotPart ne is = absurd (cc)

-- ---- what is added

pub adds_on : {P Q R : List Path → List Fault → List Entry → Type 0} (a b c : List Path) (f g h : List Fault) (ts us : List Entry) → ((x y : List Path) (u v : List Fault) → P x u ts → Q y v us → R (x ++ y) (u ++ v) (ts ++ us)) → AddsFiles P a b f g ts → AddsFiles Q b c g h us → AddsFiles R a c f h (ts ++ us)
adds_on a b c f g h ts us both p q = record {
  own = p.own ++ q.own;
  said = p.said ++ q.said;
  files_are = q.files_are ∙ (ap (λ (xs : List Path). xs ++ q.own) p.files_are ∙ append_assoc a p.own q.own);
  faults_are = q.faults_are ∙ (ap (λ (xs : List Fault). xs ++ q.said) p.faults_are ∙ append_assoc f p.said q.said);
  shown = both p.own q.own p.said q.said p.shown q.shown;
}

-- ---- looks

sight_quiet : (path : Path) (seen : Option (Option Seen)) → AreQuiet (look_by path seen)
sight_quiet path None = tt
sight_quiet path (Some look) = ((tt, refl), tt)

looks_quiet : (sights : List FileSight) → AreQuiet (flat_map file_looks sights)
looks_quiet [] = tt
looks_quiet (s ∷ ss) = quiet_both (file_looks s) (flat_map file_looks ss) (sight_quiet s.path s.seen) (looks_quiet ss)

pub looked_quiet : (paths files : List Path) (faults : List Fault) (ts : List Entry) → LookedAtEach paths files faults ts → AreQuiet ts
looked_quiet paths files faults ts l = subst AreQuiet (sym l.looks) (looks_quiet l.sights)

pub looked_none : (a : List Path) (f : List Fault) {o : Option Journal} → Left (AddsFiles (LookedAtEach []) a a f f) o o
looked_none a f {o} = left_first (AddsFiles (LookedAtEach []) a a f f) o (record { own = []; said = []; files_are = sym (append-nil a); faults_are = sym (append-nil f); shown = record { sights = []; each = refl; files_are = refl; faults_are = refl; looks = refl } })

looked_on : (xs ys a b : List Path) (f g : List Fault) (ts us : List Entry) → LookedAtEach xs a f ts → LookedAtEach ys b g us → LookedAtEach (xs ++ ys) (a ++ b) (f ++ g) (ts ++ us)
looked_on xs ys a b f g ts us l k = record {
  sights = l.sights ++ k.sights;
  each = map-append (λ (s : FileSight). s.path) l.sights k.sights ∙ (ap (λ (ps : List Path). ps ++ map (λ (s : FileSight). s.path) k.sights) l.each ∙ ap (λ (ps : List Path). xs ++ ps) k.each);
  files_are = ap (λ (ps : List Path). ps ++ b) l.files_are ∙ (ap (λ (ps : List Path). flat_map sight_file l.sights ++ ps) k.files_are ∙ sym (flat_map-append sight_file l.sights k.sights));
  faults_are = ap (λ (fs : List Fault). fs ++ g) l.faults_are ∙ (ap (λ (fs : List Fault). flat_map sight_fault l.sights ++ fs) k.faults_are ∙ sym (flat_map-append sight_fault l.sights k.sights));
  looks = ap (λ (es : List Entry). es ++ us) l.looks ∙ (ap (λ (es : List Entry). flat_map file_looks l.sights ++ es) k.looks ∙ sym (flat_map-append file_looks l.sights k.sights));
}

pub looked_more : (xs ys a b c : List Path) (f g h : List Fault) {o m n : Option Journal} → Left (AddsFiles (LookedAtEach xs) a b f g) o m → Left (AddsFiles (LookedAtEach ys) b c g h) m n → Left (AddsFiles (LookedAtEach (xs ++ ys)) a c f h) o n
looked_more xs ys a b c f g h l k = left_then l k (λ ts us p q. adds_on a b c f g h ts us (λ x y u v r s. looked_on xs ys x y u v ts us r s) p q)

one_look : (path : Path) (seen : Option (Option Seen)) (ts : List Entry) → ts ≡ look_by path seen → LookedAtEach (path ∷ []) (file_by path seen) (fault_by path seen) ts
one_look path seen ts e = record {
  sights = record { path = path; seen = seen } ∷ [];
  each = refl;
  files_are = sym (append-nil (file_by path seen));
  faults_are = sym (append-nil (fault_by path seen));
  looks = e ∙ sym (append-nil (look_by path seen));
}

pub look_told : {T E : Type 0} (r : Result T E) (path : Path) (look : Option Seen) (a b : List Path) (f : List Fault) {o n : Option Journal} → Left (λ ts. ts ≡ entry.Look path look ∷ []) o n → OnOk r (b ≡ a ++ file_path path look) → OnOk r (Left (AddsFiles (LookedAtEach (path ∷ [])) a b f f) o n)
look_told (Err e) path look a b f l more = tt
look_told (Ok x) path look a b f l more = left_as l (λ ts h. record { own = file_path path look; said = []; files_are = more; faults_are = sym (append-nil f); shown = one_look path (Some look) ts h })

pub look_lost : {T E : Type 0} (r : Result T E) (path : Path) (look : Option Seen) {o n : Option Journal} → Left (λ ts. ts ≡ entry.Look path look ∷ []) o n → OnErr r (Left AreQuiet o n)
look_lost (Ok x) path look l = tt
look_lost (Err e) path look l = left_as l (λ ts h. subst AreQuiet (sym h) (sight_quiet path (Some look)))

pub failed_told : (path : Path) (a : List Path) (f g : List Fault) {o n : Option Journal} → Left (λ ts. ts ≡ []) o n → g ≡ f ++ fault.Call call.Look path ∷ [] → Left (AddsFiles (LookedAtEach (path ∷ [])) a a f g) o n
failed_told path a f g l more = left_as l (λ ts h. record { own = []; said = fault.Call call.Look path ∷ []; files_are = sym (append-nil a); faults_are = more; shown = one_look path None ts h })

pub none_quiet : {o n : Option Journal} → Left (λ ts. ts ≡ []) o n → Left AreQuiet o n
none_quiet l = left_as l (λ ts h. subst AreQuiet (sym h) tt)

pub none_left : {o : Option Journal} → Left AreQuiet o o
none_left {o} = left_first AreQuiet o tt

-- what was looked at is quiet, and then more
pub behind_looked : (xs a b : List Path) (f g : List Fault) {o m n : Option Journal} → Left (AddsFiles (LookedAtEach xs) a b f g) o m → Left AreQuiet m n → Left AreQuiet o n
behind_looked xs a b f g l k = left_then l k (λ ts us p q. quiet_both ts us (looked_quiet xs p.own p.said ts p.shown) q)

-- ---- how calls went

-- it didn't end well
pub went_lost : {T E : Type 0} (r : Result T E) (e : E) (a b : List Fault) (k l : Counts) → r ≡ Err e → Onward k l → WentBy r a b k l
went_lost r e a b k l is h = subst (λ (s : Result _ _). WentBy s a b k l) (sym is) h

pub lost : {T E : Type 0} (r : Result T E) {o n : Option Journal} → Left AreQuiet o n → OnErr r (Left AreQuiet o n)
lost (Ok x) l = tt
lost (Err e) l = l

-- the names are these
pub names_told : {T E : Type 0} (r : Result T E) (xs ys a b : List Path) (f g : List Fault) (o n : Option Journal) → xs ≡ ys → OnOk r (Left (AddsFiles (LookedAtEach xs) a b f g) o n) → OnOk r (Left (AddsFiles (LookedAtEach ys) a b f g) o n)
names_told r xs ys a b f g o n e l = subst (λ (ps : List Path). OnOk r (Left (AddsFiles (LookedAtEach ps) a b f g) o n)) e l

-- ---- a directory

listing_quiet : (dir : Path) (there parent : Bool) (names : List (List ℕ)) (ts : List Entry) → ShowsListing dir there parent names ts → AreQuiet ts
listing_quiet dir true parent names ts h = then_quiet ts (λ us s. sees_quiet dir us s) (λ us (s : HasListed dir names us). subst AreQuiet (sym s.list) ((tt, refl), tt)) h.1
listing_quiet dir false parent names ts h = then_quiet ts (λ us s. sees_quiet dir us s) (λ us s. sees_quiet _ us s) h.1

not_listed_at : (dir : Path) (kind : CallKind) (path : Path) (ts : List Entry) → NotListedAt dir kind path ts → AreQuiet ts
not_listed_at dir call.Look path ts h = ⊎_elim (λ n. subst AreQuiet (sym n.1) tt) (λ s. sees_quiet dir ts s.1) h
not_listed_at dir call.List path ts h = sees_quiet dir ts h.1
not_listed_at dir call.Begin path ts h = absurd h
not_listed_at dir call.Read path ts h = absurd h
not_listed_at dir call.Rename path ts h = absurd h
not_listed_at dir call.Make path ts h = absurd h
not_listed_at dir call.Append path ts h = absurd h
not_listed_at dir call.Truncate path ts h = absurd h
not_listed_at dir call.Unlink path ts h = absurd h
not_listed_at dir call.Sync path ts h = absurd h
not_listed_at dir call.MakeDir path ts h = absurd h
not_listed_at dir call.Run path ts h = absurd h

stop_quiet : (dir : Path) (why : StandStop) (ts : List Entry) → NotListed dir why ts → AreQuiet ts
stop_quiet dir (stop.Call kind path) ts h = not_listed_at dir kind path ts h
stop_quiet dir (stop.NotFile path) ts h = sees_quiet dir ts h.1
stop_quiet dir stop.Memory ts h = ⊎_elim (λ n. subst AreQuiet (sym n) tt) (λ s. ⊎_elim (λ n. sees_quiet dir ts n) (λ d. sees_quiet dir ts d) s) h

pub listed_told : {T E : Type 0} (r : Result T E) (dir : Path) (there parent : Bool) (names given : List (List ℕ)) (a b : List Path) (f g : List Fault) (o m n : Option Journal) → given ≡ names → Left (ShowsListing dir there parent names) o m
    → OnOk r (Left (AddsFiles (LookedAtEach (paths_of_names dir given)) a b f g) m n) → OnOk r (Left (AddsFiles (ShowsFilesIn dir) a b f g) o n)
listed_told (Err e) dir there parent names given a b f g o m n same l k = tt
listed_told (Ok x) dir there parent names given a b f g o m n same l k = left_then l k (λ ts us p q. record {
  own = q.own;
  said = q.said;
  files_are = q.files_are;
  faults_are = q.faults_are;
  shown = listed there parent names (record { front = ts; back = us; joined = refl; first = p; second = subst (λ (ns : List (List ℕ)). LookedAtEach (paths_of_names dir ns) q.own q.said us) same q.shown });
})

pub listed_lost : {T E : Type 0} (r : Result T E) (dir : Path) (there parent : Bool) (names : List (List ℕ)) (o m n : Option Journal) → Left (ShowsListing dir there parent names) o m → OnErr r (Left AreQuiet m n) → OnErr r (Left AreQuiet o n)
listed_lost (Ok x) dir there parent names o m n l k = tt
listed_lost (Err e) dir there parent names o m n l k = left_then l k (λ ts us p q. quiet_both ts us (listing_quiet dir there parent names ts p) q)

pub stopped_told : {T E : Type 0} (r : Result T E) (dir : Path) (why : StandStop) (a : List Path) (f g : List Fault) {o n : Option Journal} → Left (NotListed dir why) o n → OnOk r (why ≢ stop.Memory) → OnOk r (g ≡ f ++ list_fault why) → OnOk r (Left (AddsFiles (ShowsFilesIn dir) a a f g) o n)
stopped_told (Err e) dir why a f g l ne more = tt
stopped_told (Ok x) dir why a f g l ne more = left_as l (λ ts h. record { own = []; said = list_fault why; files_are = sym (append-nil a); faults_are = more; shown = so why ne ts h })
  where
    so : (why : StandStop) → why ≢ stop.Memory → (ts : List Entry) → NotListed dir why ts → ShowsFilesIn dir [] (list_fault why) ts
    so (stop.Call kind path) ne ts h = not_listed kind path refl refl h
    so (stop.NotFile path) ne ts h = no_directory path refl refl h
    so stop.Memory ne ts h = absurd (ne refl)

pub stopped_lost : {T E : Type 0} (r : Result T E) (dir : Path) (why : StandStop) {o n : Option Journal} → Left (NotListed dir why) o n → OnErr r (Left AreQuiet o n)
stopped_lost (Ok x) dir why l = tt
stopped_lost (Err e) dir why l = left_as l (λ ts h. stop_quiet dir why ts h)

pub stopped_went : {T E : Type 0} (r : Result T E) (why : StandStop) (f g : List Fault) (k l : Counts) → (IsFailedStand why → Rose k.faults l.faults) → Onward k l → OnOk r (g ≡ f ++ list_fault why) → WentBy r f g k l
stopped_went (Err e) why f g k l rose h more = h
stopped_went (Ok x) (stop.Call kind path) f g k l rose h more = went_call f g kind path k l more (rose (record {})) h
stopped_went (Ok x) (stop.NotFile path) f g k l rose h more = subst (λ (fs : List Fault). Went f fs k l) (sym (more ∙ append-nil f)) (went_same f k l h)
stopped_went (Ok x) stop.Memory f g k l rose h more = subst (λ (fs : List Fault). Went f fs k l) (sym (more ∙ append-nil f)) (went_same f k l h)

-- ---- all of them

dir_quiet : (dir : Path) (files : List Path) (faults : List Fault) (ts : List Entry) → ShowsFilesIn dir files faults ts → AreQuiet ts
dir_quiet dir files faults ts (listed there parent names t) = then_quiet ts (λ us s. listing_quiet dir there parent names us s) (λ us s. looked_quiet (paths_of_names dir names) files faults us s) t
dir_quiet dir files faults ts (not_listed kind path e f h) = not_listed_at dir kind path ts h
dir_quiet dir files faults ts (no_directory path e f h) = sees_quiet dir ts h.1

pub dirs_none : (a : List Path) (f : List Fault) {o : Option Journal} → Left (AddsFiles (ShowsDirs []) a a f f) o o
dirs_none a f {o} = left_first (AddsFiles (ShowsDirs []) a a f f) o (record {
  own = [];
  said = [];
  files_are = sym (append-nil a);
  faults_are = sym (append-nil f);
  shown = record { sights = []; each = refl; shown = All-nil IsShown; files_are = refl; faults_are = refl; entries_are = refl };
})

dirs_on : (dirs : List Path) (dir : Path) (a b : List Path) (f g : List Fault) (ts us : List Entry) → ShowsDirs dirs a f ts → ShowsFilesIn dir b g us → ShowsDirs (dirs ++ dir ∷ []) (a ++ b) (f ++ g) (ts ++ us)
dirs_on dirs dir a b f g ts us s h = record {
  sights = s.sights ++ one ∷ [];
  each = map-append (λ (d : DirSight). d.dir) s.sights (one ∷ []) ∙ ap (λ (ds : List Path). ds ++ dir ∷ []) s.each;
  shown = All-append IsShown s.sights (one ∷ []) s.shown (All-cons IsShown one [] h (All-nil IsShown));
  files_are = ap (λ (xs : List Path). xs ++ b) s.files_are ∙ (ap (λ (xs : List Path). flat_map (λ (d : DirSight). d.files) s.sights ++ xs) (sym (append-nil b)) ∙ sym (flat_map-append (λ (d : DirSight). d.files) s.sights (one ∷ [])));
  faults_are = ap (λ (xs : List Fault). xs ++ g) s.faults_are ∙ (ap (λ (xs : List Fault). flat_map (λ (d : DirSight). d.faults) s.sights ++ xs) (sym (append-nil g)) ∙ sym (flat_map-append (λ (d : DirSight). d.faults) s.sights (one ∷ [])));
  entries_are = ap (λ (xs : List Entry). xs ++ us) s.entries_are ∙ (ap (λ (xs : List Entry). flat_map (λ (d : DirSight). d.entries) s.sights ++ xs) (sym (append-nil us)) ∙ sym (flat_map-append (λ (d : DirSight). d.entries) s.sights (one ∷ [])));
}
  where
    one : DirSight
    one = record { dir = dir; files = b; faults = g; entries = us }

pub dirs_more : (dirs : List Path) (i : ℕ) (dir : Path) (a b c : List Path) (f g h : List Fault) {o m n : Option Journal} → dir ≡ get_or dirs i dir → i < length dirs → Left (AddsFiles (ShowsDirs (take i dirs)) a b f g) o m → Left (AddsFiles (ShowsFilesIn dir) b c g h) m n
    → Left (AddsFiles (ShowsDirs (take (i + 1) dirs)) a c f h) o n
dirs_more dirs i dir a b c f g h {o} {n = n} is lt l k =
    subst (λ (ds : List Path). Left (AddsFiles (ShowsDirs ds) a c f h) o n) (ap (λ y. take i dirs ++ y ∷ []) is ∙ sym (take_more dirs i dir lt))
    (left_then l k (λ ts us p q. adds_on a b c f g h ts us (λ x y u v r s. dirs_on (take i dirs) dir x y u v ts us r s) p q))

pub dirs_all : (dirs : List Path) (i : ℕ) (a b : List Path) (f g : List Fault) {o n : Option Journal} → length dirs ≤ i → Left (AddsFiles (ShowsDirs (take i dirs)) a b f g) o n → Left (AddsFiles (ShowsDirs dirs) a b f g) o n
dirs_all dirs i a b f g {o} {n} le l = subst (λ (ds : List Path). Left (AddsFiles (ShowsDirs ds) a b f g) o n) (take_all i dirs le) l

pub dirs_quiet : (dirs files : List Path) (faults : List Fault) (ts : List Entry) → ShowsDirs dirs files faults ts → AreQuiet ts
dirs_quiet dirs files faults ts s = subst AreQuiet (sym s.entries_are) (all s.sights s.shown)
  where
    all : (ss : List DirSight) → All IsShown ss → AreQuiet (flat_map (λ (d : DirSight). d.entries) ss)
    all [] h = tt
    all (d ∷ ds) h = quiet_both d.entries (flat_map (λ (d : DirSight). d.entries) ds) (dir_quiet d.dir d.files d.faults d.entries (All-head IsShown d ds h)) (all ds (All-tail IsShown d ds h))

pub behind_dirs : (dirs a b : List Path) (f g : List Fault) {o m n : Option Journal} → Left (AddsFiles (ShowsDirs dirs) a b f g) o m → Left AreQuiet m n → Left AreQuiet o n
behind_dirs dirs a b f g l k = left_then l k (λ ts us p q. quiet_both ts us (dirs_quiet dirs p.own p.said ts p.shown) q)

-- how a call went, whatever comes behind it that calls nothing
pub went_by : {T E : Type 0} (r : Result T E) (a b : List Fault) (k l : Counts) → Went a b k l → WentBy r a b k l
went_by (Ok x) a b k l w = w
went_by (Err e) a b k l w = w.onward

-- of the same faults
pub went_to : (a b c : List Fault) (k l : Counts) → c ≡ b → Went a b k l → Went a c k l
went_to a b c k l e w = subst (λ (fs : List Fault). Went a fs k l) (sym e) w
