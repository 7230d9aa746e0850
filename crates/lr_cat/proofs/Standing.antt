-- The looks at a log's family, where it waits that is set aside, and at the log.
use Rattle.std.proofs.Common.{◌≡◌, ◌≤◌, inl, inr, ℕ, Bool, true, false, List, [], ◌∷◌, ◌++◌, map, reverse, refl, sym, ap, ◌∙◌, subst, arith, Option, Some, None, is_some}
use Rattle.std.specs.Prelude.{All, filter, option_to_list}
use Rattle.std.proofs.lemmas.List.Elements.{All-head, All-nil, All-tail}
use Rattle.lr_rules.specs.declared.path.Path.{Path}
use Rattle.lr_rules.specs.declared.rule.Naming.{Naming}
use Rattle.lr_rules.specs.declared.fault.Fault.{Fault}
use Rattle.lr_rules.specs.declared.fault.Fault.TheVariants as fault
use Rattle.lr_host.specs.declared.thing.Kind.TheVariants as kind
use Rattle.lr_host.specs.declared.thing.Seen.{Seen}
use Rattle.lr_host.specs.declared.entry.Entry.{Entry}
use Rattle.lr_host.specs.declared.entry.Entry.TheVariants as entry
use Rattle.lr_host.specs.declared.journal.Journal.{Journal}
use Rattle.lr_host.specs.Lists.{IsIn}
use Rattle.lr_host.specs.Looks.{IsFile, IsNothing, IsNoFile}
use Rattle.lr_host.specs.Steps.{is_naming}
use Rattle.lr_host.specs.Told.{Left, not_told, is_told, Are, Can, Counts}
use Rattle.lr_host.specs.World.{world, names}
use Rattle.lr_host.proofs.Each.{each_append, each_as, none_pass}
use Rattle.lr_host.proofs.Known.{ever_says, seen_can_read}
use Rattle.lr_host.proofs.Left.{left_as, left_both, left_first, left_then}
use Rattle.lr_host.proofs.Lists.{in_front, in_back}
use Rattle.lr_host.proofs.Looked.{seen_file}
use Rattle.lr_family.specs.declared.stand.Member.{Member}
use Rattle.lr_family.specs.declared.stand.Stand.{Stand}
use Rattle.lr_family.specs.declared.stand.StandStop.{StandStop}
use Rattle.lr_family.specs.declared.stand.StandStop.TheVariants as stands
use Rattle.lr_family.specs.Among.{ShowsMembers}
use Rattle.lr_family.specs.Standing.{ShowsStand, ShowsStop}
use Rattle.lr_family.proofs.OnlyLooks.{looking_shown_parts}
use Rattle.lr_family.proofs.Shown.{members_seen}
use Rattle.lr_laws_looks.proofs.Quiet.{looking_listing, looking_members, looking_none_in, looking_not}
use Rattle.lr_cat.specs.declared.seeing.FileStop.{FileStop}
use Rattle.lr_cat.specs.declared.seeing.FileStop.TheVariants as files
use Rattle.lr_cat.specs.declared.seeing.Found.{Found}
use Rattle.lr_cat.specs.declared.stop.CatStop.{CatStop}
use Rattle.lr_cat.specs.InternalSaw.{FindsNoFile, SeesAll, SeesNot, file_fault, found_if, stand_stop}
use Rattle.lr_cat.specs.Saw.{Finds, FindsBoth, FindsNone, FindsNot, SeesNone, not_stood, not_looked, no_file, not_found, aside_of, files_behind}
use Rattle.lr_host.specs.Looking.{IsSight, AreSights, IsLooking, AreLooking}
use Rattle.lr_host.proofs.Looking.{looking_both, looking_sees}
use Rattle.lr_family.specs.Looks.{WasSeen}
use Rattle.lr_cat.specs.Texts.{CanReadAll, HasCause}
use Rattle.lr_cat.proofs.Putting.{can_more}

-- ---- what looks change

look_sight : (e : Entry) → IsLooking e → IsSight e
look_sight (entry.Look x seen) i = tt
look_sight (entry.List dir listed) i = tt
look_sight _ i = absurd i

pub looks_sights : (ts : List Entry) → AreLooking ts → AreSights ts
looks_sights ts a = each_as IsLooking IsSight ts look_sight a

look_unnamed : (e : Entry) → IsLooking e → is_naming e ≡ false
look_unnamed (entry.Look x seen) i = refl
look_unnamed (entry.List dir listed) i = refl
look_unnamed _ i = absurd i

looks_unnamed : (ts : List Entry) → AreLooking ts → filter is_naming ts ≡ []
looks_unnamed ts a = none_pass is_naming ts (each_as IsLooking (λ e. is_naming e ≡ false) ts look_unnamed a)

pub stand_looks : (n : Naming) (stand : Stand) (ts : List Entry) → ShowsStand n stand ts → AreLooking ts
stand_looks n stand ts h = looking_both ts (λ us l. looking_listing n.dir stand.there stand.parent h.0 us l)
    (λ us s. looking_both us (λ vs m. looking_members n stand.there h.0 stand.members vs m) (λ vs p. looking_shown_parts n stand.there h.0 stand.parts vs p) s.2) h.1

pub stop_looks : (n : Naming) (why : StandStop) (ts : List Entry) → ShowsStop n why ts → AreLooking ts
stop_looks n why ts (inl h) = looking_not n.dir why ts h
stop_looks n why ts (inr h) = looking_both ts (λ us l. looking_listing n.dir h.0 h.1 h.2 us l) (λ us s. looking_none_in n h.0 h.2 why us s) h.3

pub finds_looks : (path found : Option Path) (ts : List Entry) → Finds path found ts → AreLooking ts
finds_looks None found ts h = subst AreLooking (sym h.1) tt
finds_looks (Some path) None ts s = looking_sees path IsNothing ts s
finds_looks (Some path) (Some found) ts s = looking_sees path IsFile ts s.1

finds_not_looks : (path : Option Path) (f : Fault) (ts : List Entry) → FindsNot path f ts → AreLooking ts
finds_not_looks path f ts (not_looked x some is none) = subst AreLooking (sym none) tt
finds_not_looks path f ts (no_file x some is s) = looking_sees x IsNoFile ts s

pub both_looks : (aside : Option Path) (log : Path) (set own : Option Path) (ts : List Entry) → FindsBoth aside log set own ts → AreLooking ts
both_looks aside log set own ts t = looking_both ts (λ us h. finds_looks aside set us h) (λ us h. finds_looks (Some log) own us h) t

pub none_looks : (aside : Option Path) (log : Path) (f : Fault) (ts : List Entry) → FindsNone aside log f ts → AreLooking ts
none_looks aside log f ts (inl h) = finds_not_looks aside f ts h
none_looks aside log f ts (inr h) = looking_both ts (λ us k. finds_looks aside h.0 us k) (λ us k. finds_not_looks (Some log) f us k) h.1

-- ---- one file

pub finds_there : (path : Path) (look : Option Seen) (seen : Seen) {o n : Option Journal} → Left (λ ts. ts ≡ entry.Look path look ∷ []) o n → look ≡ Some seen → seen.kind ≡ kind.File → Left (Finds (Some path) (found_if path true)) o n
finds_there path look seen l is file = left_as l (λ ts e. (refl, record { seen = look; is = subst IsFile (sym is) file; look = e }))

pub finds_gone : (path : Path) (look : Option Seen) {o n : Option Journal} → Left (λ ts. ts ≡ entry.Look path look ∷ []) o n → look ≡ None → Left (Finds (Some path) (found_if path false)) o n
finds_gone path look l is = left_as l (λ ts e. record { seen = look; is = is; look = e })

not_dir : (seen : Seen) → seen.kind ≡ kind.Dir → seen.kind ≡ kind.File → ⊥
not_dir seen d f = let t = sym d ∙ f in absurd (cc)

not_other : (seen : Seen) → seen.kind ≡ kind.Other → seen.kind ≡ kind.File → ⊥
not_other seen d f = let t = sym d ∙ f in absurd (cc)

pub finds_dir : (path : Path) (look : Option Seen) (seen : Seen) {o n : Option Journal} → Left (λ ts. ts ≡ entry.Look path look ∷ []) o n → look ≡ Some seen → seen.kind ≡ kind.Dir → Left (FindsNoFile path files.NotFile) o n
finds_dir path look seen l is d = left_as l (λ ts e. record { seen = look; is = subst IsNoFile (sym is) (not_dir seen d); look = e })

pub finds_other : (path : Path) (look : Option Seen) (seen : Seen) {o n : Option Journal} → Left (λ ts. ts ≡ entry.Look path look ∷ []) o n → look ≡ Some seen → seen.kind ≡ kind.Other → Left (FindsNoFile path files.NotFile) o n
finds_other path look seen l is d = left_as l (λ ts e. record { seen = look; is = subst IsNoFile (sym is) (not_other seen d); look = e })

pub can_read_file : (path : Path) (look : Option Seen) (seen : Seen) {o n : Option Journal} → Left (λ ts. ts ≡ entry.Look path look ∷ []) o n → look ≡ Some seen → seen.kind ≡ kind.File → Can n (entry.Reads path 0 [])
can_read_file path look seen l is file = seen_can_read (left_as l (λ ts e. e ∙ ap (λ (o : Option Seen). entry.Look path o ∷ []) is)) file

-- ---- one file, or none

pub find_not_asked : (asked : Option Path) (o : Option Journal) → asked ≡ None → Left (Finds asked None) o o
find_not_asked asked o is = left_first (Finds asked None) o (subst (λ (a : Option Path). Finds a None []) (sym is) (refl, refl))

pub find_not : (asked : Option Path) (path : Path) (why : FileStop) (f : Fault) {o m : Option Journal} → asked ≡ Some path → f ≡ file_fault why path → Left (FindsNoFile path why) o m → Left (FindsNot asked f) o m
find_not asked path files.Call f is same l = left_as l (λ ts e. not_looked path is same e)
find_not asked path files.NotFile f is same l = left_as l (λ ts s. no_file path is same s)

-- ---- the files can be read

seen_all : (n : Naming) (stand : Stand) (ts : List Entry) (there : Bool) → stand.there ≡ there → ShowsStand n stand ts → All (WasSeen ts) stand.members
seen_all n stand ts true is h = members_seen n h.0 stand.members h.1.second.2.front ts
    (λ e i. subst (IsIn e) (sym h.1.joined) (in_back e h.1.front h.1.back (subst (IsIn e) (sym h.1.second.2.joined) (in_front e h.1.second.2.front h.1.second.2.back i))))
    (subst (λ b. ShowsMembers n b h.0 stand.members h.1.second.2.front) is h.1.second.2.first)
seen_all n stand ts false is h = subst (All (WasSeen ts))
    (sym (subst (λ b. ShowsMembers n b h.0 stand.members h.1.second.2.front) is h.1.second.2.first).0) (All-nil (WasSeen ts))

none_told : (xs : List Path) → CanReadAll None xs
none_told [] = tt
none_told (x ∷ xs) = (record { can = tt }, none_told xs)

pub members_can : (n : Naming) (stand : Stand) {o k : Option Journal} → Left (ShowsStand n stand) o k → CanReadAll k (map (λ (m : Member). m.path) stand.members)
members_can n stand not_told = none_told (map (λ (m : Member). m.path) stand.members)
members_can n stand (is_told {j = j} {k = k} {es = es} made h) = go stand.members (seen_all n stand (reverse es) stand.there refl h)
  where
    left : Left (Are (reverse es)) (Some j) (Some k)
    left = is_told made refl

    unnamed : filter is_naming (reverse es) ≡ []
    unnamed = looks_unnamed (reverse es) (stand_looks n stand (reverse es) h)

    one : (m : Member) → WasSeen (reverse es) m → Can (Some k) (entry.Reads m.path 0 [])
    one m saw = ever_says left (λ ts e. (subst (IsIn (entry.Look m.path (Some m.seen))) (sym e) saw.1, ap (filter is_naming) e ∙ unnamed)) (λ w f. seen_file (world w) (names (world w) m.path) m.seen f saw.0)

    go : (ms : List Member) → All (WasSeen (reverse es)) ms → CanReadAll (Some k) (map (λ (m : Member). m.path) ms)
    go [] all = tt
    go (m ∷ ms) all = (one m (All-head (WasSeen (reverse es)) m ms all), go ms (All-tail (WasSeen (reverse es)) m ms all))

can_both : (xs ys : List Path) (told : Option Journal) → CanReadAll told xs → CanReadAll told ys → CanReadAll told (xs ++ ys)
can_both [] ys told first second = second
can_both (x ∷ xs) ys told first second = (first.0, can_both xs ys told first.1 second)

-- what was found first can be read behind the next look
pub can_on : (found path own : Option Path) {o m : Option Journal} → CanReadAll o (option_to_list found) → Left (Finds path own) o m → CanReadAll m (option_to_list found)
can_on found path own can l = can_more (option_to_list found) can l (λ ts s. looks_unnamed ts (finds_looks path own ts s))

pub files_can : (n : Naming) (stand : Stand) (aside : Option Path) (log : Path) (found : Found) (files : List Path) {o m k : Option Journal} → Left (ShowsStand n stand) o m → Left (FindsBoth aside log found.aside found.log) m k
    → CanReadAll k (option_to_list found.aside) → CanReadAll k (option_to_list found.log) → files ≡ files_behind found.log found.aside stand.members → CanReadAll k files
files_can n stand aside log found files {k = k} l f set own is = subst (CanReadAll k) (sym is)
    (can_both (option_to_list found.log) (option_to_list found.aside ++ map (λ (m : Member). m.path) stand.members) k own
    (can_both (option_to_list found.aside) (map (λ (m : Member). m.path) stand.members) k set
    (can_more (map (λ (m : Member). m.path) stand.members) (members_can n stand l) f (λ ts s. looks_unnamed ts (both_looks aside log found.aside found.log ts s)))))

-- ---- what the looks came to

-- the paths that were asked for are those of the naming
both_so : (n : Naming) (aside : Option Path) (log : Path) (set own : Option Path) {o m : Option Journal} → aside ≡ aside_of n.aside log → Left (FindsBoth aside log set own) o m → Left (FindsBoth (aside_of n.aside log) log set own) o m
both_so n aside log set own {o = o} {m = m} is l = subst (λ (a : Option Path). Left (FindsBoth a log set own) o m) is l

pub sees_all : (n : Naming) (stand : Stand) (aside : Option Path) (log : Path) (found : Found) (files : List Path) (waits : Bool) {o m k : Option Journal} → aside ≡ aside_of n.aside log → Left (ShowsStand n stand) o m → Left (FindsBoth aside log found.aside found.log) m k
    → files ≡ files_behind found.log found.aside stand.members → waits ≡ is_some found.aside → SeesAll n log files waits o k
sees_all n stand aside log found files waits asked l f is told = record { saw = record { stand = stand; aside = found.aside; log = found.log }; shows = left_both l (both_so n aside log found.aside found.log asked f); files_are = ap reverse is; waits_is = told }

pub stands_not : (n : Naming) (log : Path) (why : StandStop) (s : CatStop) {o m : Option Journal} → s ≡ stand_stop why → Left (ShowsStop n why) o m → SeesNot n log s o m
stands_not n log why s {o = o} {m = m} is l = subst (λ (t : CatStop). SeesNot n log t o m) (sym is) (by why l)
  where
    by : (w : StandStop) → Left (ShowsStop n w) o m → SeesNot n log (stand_stop w) o m
    by (stands.Call kind path) h = left_as h (λ ts g. not_stood (stands.Call kind path) refl g)
    by (stands.NotFile path) h = left_as h (λ ts g. not_stood (stands.NotFile path) refl g)
    by stands.Memory h = left_as h (λ ts g. looks_sights ts (stop_looks n stands.Memory ts g))

pub both_not : (n : Naming) (stand : Stand) (aside : Option Path) (log : Path) (f : Fault) {o m k : Option Journal} → aside ≡ aside_of n.aside log → Left (ShowsStand n stand) o m → Left (FindsNone aside log f) m k → Left (SeesNone n log f) o k
both_not n stand aside log f asked l none = left_then l none (λ ts us h s. not_found stand (record { front = ts; back = us; joined = refl; first = h; second = subst (λ (a : Option Path). FindsNone a log f us) asked s }))

pub second_not : (aside : Option Path) (log : Path) (set : Option Path) (f : Fault) {o m k : Option Journal} → Left (Finds aside set) o m → Left (FindsNot (Some log) f) m k → Left (FindsNone aside log f) o k
second_not aside log set f l none = left_as (left_both l none) (λ ts t. inr (set, t))

-- seen, but for the files' paths there was no memory
pub saw_short : (n : Naming) (stand : Stand) (aside : Option Path) (log : Path) (found : Found) {o m k : Option Journal} → Left (ShowsStand n stand) o m → Left (FindsBoth aside log found.aside found.log) m k → Left AreSights o k
saw_short n stand aside log found l f = left_then l f (λ ts us h s. each_append IsSight ts us (looks_sights ts (stand_looks n stand ts h)) (looks_sights us (both_looks aside log found.aside found.log us s)))

-- ---- causes

-- a cause of a later call is one of all of them
pub cause_from : (f : Fault) (a b c : Counts) (puts later : ℕ) → a.faults ≤ b.faults → HasCause f b c puts later → HasCause f a c puts later
cause_from (fault.Call kind path) a b c puts later le h = omega (arith, le, h)
cause_from fault.Out a b c puts later le h = h
cause_from (fault.NoDir path) a b c puts later le h = tt
cause_from (fault.NotFile path) a b c puts later le h = tt
cause_from (fault.TooLong path) a b c puts later le h = tt
cause_from _ a b c puts later le h = absurd h
