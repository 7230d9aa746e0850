-- All entries of the looks are looks and listings, so they change nothing.
use Rattle.std.proofs.Common.{◌≡◌, inl, inr, ℕ, ◌+◌, ◌-◌, Bool, true, false, List, [], ◌∷◌, Option, Ok, Err, take, length, sym, subst}
use Rattle.lr_rules.specs.declared.path.Path.{Path}
use Rattle.lr_rules.specs.declared.rule.Naming.{Naming}
use Rattle.lr_rules.specs.declared.rule.Rule.{Rule}
use Rattle.lr_rules.specs.declared.fault.CallKind.{CallKind}
use Rattle.lr_rules.specs.declared.fault.CallKind.TheVariants as call
use Rattle.lr_rules.specs.declared.fault.Fault.{Fault}
use Rattle.lr_rules.specs.Path.{parent_of}
use Rattle.lr_host.specs.declared.thing.Seen.{Seen}
use Rattle.lr_host.specs.declared.entry.Entry.{Entry}
use Rattle.lr_host.specs.Looks.{Sees, IsNothing, IsDir, IsNoDir, IsNoFile, is_dir}
use Rattle.lr_host.specs.Quiet.{AreQuiet}
use Rattle.lr_host.specs.Told.{Are}
use Rattle.lr_host.specs.Listing.{HasListed}
use Rattle.lr_family.specs.declared.listing.Listing.{Listing}
use Rattle.lr_family.specs.declared.spot.Spot.{Spot}
use Rattle.lr_family.specs.declared.stand.Member.{Member}
use Rattle.lr_family.specs.declared.stand.Stand.{Stand}
use Rattle.lr_family.specs.declared.stand.StandStop.{StandStop}
use Rattle.lr_family.specs.declared.stand.StandStop.TheVariants as stop
use Rattle.lr_family.specs.Among.{ShowsMembers, ShowsIn, ShowsNoneIn}
use Rattle.lr_family.specs.Listed.{ShowsListing, NotListedAt, NotListed}
use Rattle.lr_family.specs.Looks.{ShowsTo}
use Rattle.lr_family.specs.Stops.{SomeStopped}
use Rattle.lr_family.proofs.OnlyLooks.{looking_sights, looking_shown_parts, looking_no_parts}
use Rattle.lr_host.specs.Looking.{AreLooking}
use Rattle.lr_host.proofs.Looking.{looks_quiet, looking_both, looking_none, looking_sees}
use Rattle.lr_glob.proofs.OnlyLooks.{comes_looks, stopped_looks}
use Rattle.lr_plan.specs.declared.looks.SetLooks.{SetLooks}
use Rattle.lr_looks.specs.Asked.{AskedWord, asked_by}
use Rattle.lr_looks.specs.Families.{FamilySight, Stood, Stopped, ShowsAside, ShowsNoAside, ShowsMembersIn, ShowsFamily, behind_listing, with_listing, not_listed, ShowFamilies}
use Rattle.lr_looks.specs.Found.{FoundLog}
use Rattle.lr_looks.specs.Shown.{ShowsLooks, ShowsSomeLooks, at_words, at_families}
use Rattle.lr_looks.specs.Sights.{WordSight, found_by, ShowsWord, ShowWords}

-- ---- the looks and listings of the words

looking_word : (w : AskedWord) (room : ℕ) (s : WordSight) (ts : List Entry) → ShowsWord w room s ts → AreLooking ts
looking_word w room (Ok found) ts h = comes_looks w.text room (Ok found) ts h
looking_word w room (Err why) ts h = stopped_looks w.text room why ts h

pub looking_words : (n : ℕ) (words : List AskedWord) (sights : List WordSight) (ts : List Entry) → ShowWords n words sights ts → AreLooking ts
looking_words n [] [] ts h = looking_none ts h
looking_words n [] (s ∷ ss) ts h = absurd h
looking_words n (w ∷ ws) [] ts h = absurd h
looking_words n (w ∷ ws) (s ∷ ss) ts h = looking_both ts (looking_word w (16_384 - n) s) (looking_words (n + length (found_by w s)) ws ss) h

-- ---- the looks at members and part files

looking_to : (spots : List Spot) (path : Path) (P : List Entry → Type 0) (ts : List Entry) → ((us : List Entry) → P us → AreLooking us) → ShowsTo spots path P ts → AreLooking ts
looking_to spots path P ts f s = looking_both ts (λ us e. subst AreLooking (sym e) (looking_sights s.before)) f s.looks

looking_stops : (spots : List Spot) (why : StandStop) (ts : List Entry) → SomeStopped spots why ts → AreLooking ts
looking_stops spots (stop.Call kind path) ts s = looking_to spots path (Are []) ts looking_none s.1
looking_stops spots (stop.NotFile path) ts s = looking_to spots path (Sees path IsNoFile) ts (looking_sees path IsNoFile) s
looking_stops spots stop.Memory ts s = subst AreLooking (sym s.looks) (looking_sights s.sights)

pub looking_members : (n : Naming) (there : Bool) (names : List _) (members : List Member) (ts : List Entry) → ShowsMembers n there names members ts → AreLooking ts
looking_members n true names members ts s = subst AreLooking (sym s.looks.looks) (looking_sights s.looks.sights)
looking_members n false names members ts h = looking_none ts h.1

pub looking_none_in : (n : Naming) (there : Bool) (names : List _) (why : StandStop) (ts : List Entry) → ShowsNoneIn n there names why ts → AreLooking ts
looking_none_in n true names why ts (inl h) = looking_none ts h.1
looking_none_in n true names why ts (inr (inl s)) = looking_stops s.spots why ts s.looks
looking_none_in n true names why ts (inr (inr b)) = looking_both ts (looking_members n true names b.0) (looking_no_parts n names why) b.1
looking_none_in n false names why ts h = absurd h

looking_in : (n : Naming) (l : Listing) (stand : Stand) (ts : List Entry) → ShowsIn n l.there l.parent l.names stand ts → AreLooking ts
looking_in n l stand ts h = looking_both ts (looking_members n l.there l.names stand.members) (looking_shown_parts n l.there l.names stand.parts) h.2

-- the look where the log waits
looking_aside : (aside : Bool) (log : Path) (tmp : Option Seen) (ts : List Entry) → ShowsAside aside log tmp ts → AreLooking ts
looking_aside true log tmp ts h = subst AreLooking (sym h) (tt, tt)
looking_aside false log tmp ts h = looking_none ts h.1

looking_no_aside : (aside : Bool) (log : Path) (why : StandStop) (ts : List Entry) → ShowsNoAside aside log why ts → AreLooking ts
looking_no_aside true log why ts h = looking_none ts h.1
looking_no_aside false log why ts h = absurd h

looking_members_in : (log : Path) (n : Naming) (l : Listing) (s : FamilySight) (ts : List Entry) → ShowsMembersIn log n l s ts → AreLooking ts
looking_members_in log n l (Stood stand tmp) ts h = looking_both ts (looking_in n l stand) (looking_aside n.aside log tmp) h
looking_members_in log n l (Stopped why) ts (inl h) = looking_none ts h.1
looking_members_in log n l (Stopped why) ts (inr (inl h)) = looking_none_in n l.there l.names why ts h
looking_members_in log n l (Stopped why) ts (inr (inr h)) = looking_both ts (looking_in n l h.0) (looking_no_aside n.aside log why) h.1

-- ---- the looks at directories

looking_list : (dir : Path) (names : List _) (ts : List Entry) → HasListed dir names ts → AreLooking ts
looking_list dir names ts l = subst AreLooking (sym l.list) (tt, tt)

pub looking_listing : (dir : Path) (there parent : Bool) (names : List _) (ts : List Entry) → ShowsListing dir there parent names ts → AreLooking ts
looking_listing dir true parent names ts h = looking_both ts (looking_sees dir IsDir) (looking_list dir names) h.1
looking_listing dir false parent names ts h = looking_both ts (looking_sees dir IsNothing) (looking_sees (parent_of dir) (λ seen. is_dir seen ≡ parent)) h.1

looking_not_at : (dir : Path) (k : CallKind) (path : Path) (ts : List Entry) → NotListedAt dir k path ts → AreLooking ts
looking_not_at dir call.Look path ts (inl h) = looking_none ts h.1
looking_not_at dir call.Look path ts (inr h) = looking_sees dir IsNothing ts h.1
looking_not_at dir call.List path ts h = looking_sees dir IsDir ts h.1
looking_not_at dir _ path ts h = absurd h

pub looking_not : (dir : Path) (why : StandStop) (ts : List Entry) → NotListed dir why ts → AreLooking ts
looking_not dir (stop.Call kind path) ts h = looking_not_at dir kind path ts h
looking_not dir (stop.NotFile path) ts h = looking_sees dir IsNoDir ts h.1
looking_not dir stop.Memory ts (inl e) = looking_none ts e
looking_not dir stop.Memory ts (inr (inl s)) = looking_sees dir IsNothing ts s
looking_not dir stop.Memory ts (inr (inr s)) = looking_sees dir IsDir ts s

-- ---- the looks at families

looking_family : (known : List Listing) (log : Path) (n : Naming) (after : List Listing) (s : FamilySight) (ts : List Entry) → ShowsFamily known log n after s ts → AreLooking ts
looking_family known log n after s ts (behind_listing l was same m) = looking_members_in log n l s ts m
looking_family known log n after s ts (with_listing l new e same t) = looking_both ts (looking_listing n.dir l.there l.parent l.names) (looking_members_in log n l s) t
looking_family known log n after s ts (not_listed why new same e h) = looking_not n.dir why ts h

looking_families : (known : List Listing) (fs : List FoundLog) (after : List Listing) (ss : List FamilySight) (ts : List Entry) → ShowFamilies known fs after ss ts → AreLooking ts
looking_families known [] after [] ts h = looking_none ts h.1
looking_families known [] after (s ∷ ss) ts h = absurd h
looking_families known (f ∷ fs) after [] ts h = absurd h
looking_families known (f ∷ fs) after (s ∷ ss) ts h = looking_both ts (looking_family known f.log.path f.log.naming h.0 s) (λ us g. looking_families h.0 fs after ss us g) h.1

-- ---- all of them, and a first part

pub whole_looking : {reserved : List Path} (rules : List Rule) (sets : List SetLooks) (faults : List Fault) (ts : List Entry) → ShowsLooks reserved rules sets faults ts → AreLooking ts
whole_looking rules sets faults ts s = looking_both ts
    (λ us l. looking_words 0 (asked_by rules) l.sights us l.shown)
    (λ us l. looking_families [] s.kept l.listings l.families.sights us l.families.shown) s.entries

pub whole_quiet : {reserved : List Path} (rules : List Rule) (sets : List SetLooks) (faults : List Fault) (ts : List Entry) → ShowsLooks reserved rules sets faults ts → AreQuiet ts
whole_quiet rules sets faults ts s = looks_quiet ts (whole_looking rules sets faults ts s)

pub part_looking : {reserved : List Path} (rules : List Rule) (ts : List Entry) → ShowsSomeLooks reserved rules ts → AreLooking ts
part_looking rules ts (at_words l) = looking_words 0 (take (length l.sights) (asked_by rules)) l.sights ts l.shown
part_looking rules ts (at_families found of_words kept of_kept keeps t) = looking_both ts
    (λ us l. looking_words 0 (asked_by rules) l.sights us l.shown)
    (λ us l. looking_families [] (take (length l.sights) kept) l.after l.sights us l.shown) t

pub part_quiet : {reserved : List Path} (rules : List Rule) (ts : List Entry) → ShowsSomeLooks reserved rules ts → AreQuiet ts
part_quiet rules ts h = looks_quiet ts (part_looking rules ts h)
