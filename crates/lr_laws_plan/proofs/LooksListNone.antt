-- Looks at paths list nothing: those for a literal word, at members, at part files, where a log waits that is set aside, and at a directory that isn't listed then.
use Rattle.std.proofs.Common.{◌≡◌, inl, inr, ℕ, Bool, true, false, List, [], ◌∷◌, map, Option, Ok, Err, sym, ◌∙◌, subst}
use Rattle.lr_rules.specs.declared.path.Path.{Path}
use Rattle.lr_rules.specs.declared.rule.Naming.{Naming}
use Rattle.lr_rules.specs.declared.fault.CallKind.{CallKind}
use Rattle.lr_rules.specs.declared.fault.CallKind.TheVariants as call
use Rattle.lr_rules.specs.Match.{is_wildcard, literal_path}
use Rattle.lr_host.specs.declared.entry.Entry.{Entry}
use Rattle.lr_host.specs.declared.thing.Seen.{Seen}
use Rattle.lr_host.specs.Looks.{Sees, IsNothing, IsDir, IsNoDir, IsNoFile, PathSight, look_of}
use Rattle.lr_host.specs.Told.{Are}
use Rattle.lr_family.specs.declared.listing.Listing.{Listing}
use Rattle.lr_family.specs.declared.spot.Spot.{Spot}
use Rattle.lr_family.specs.declared.stand.Member.{Member}
use Rattle.lr_family.specs.declared.stand.Stand.{Stand}
use Rattle.lr_family.specs.declared.stand.StandStop.{StandStop}
use Rattle.lr_family.specs.declared.stand.StandStop.TheVariants as stop
use Rattle.lr_family.specs.Among.{StandsAmong, ShowsMembers, ShowsIn, ShowsNoneIn}
use Rattle.lr_family.specs.Listed.{NotListedAt, NotListed}
use Rattle.lr_family.specs.Looks.{MemberSight, spot_look, ShowsTo}
use Rattle.lr_family.specs.Parts.{ShowsParts, ShowsNoParts}
use Rattle.lr_family.specs.Stops.{SomeStopped}
use Rattle.lr_glob.specs.declared.found.Found.{Found as Match}
use Rattle.lr_glob.specs.declared.found.GlobStop.TheVariants as glob
use Rattle.lr_glob.specs.Sights.{seen_at}
use Rattle.lr_glob.specs.Words.{WordGave, WordCallFailed, WordBegun}
use Rattle.lr_looks.specs.Asked.{AskedWord}
use Rattle.lr_looks.specs.Families.{FamilySight, Stood, Stopped, ShowsAside, ShowsNoAside, ShowsMembersIn}
use Rattle.lr_looks.specs.Sights.{WordSight, ShowsWord}
use Rattle.lr_laws_plan.proofs.CountedListings.{AreNoListings, none_both, none_empty}

pub sees_none : (x : Path) (P : Option Seen → Type 0) (ts : List Entry) → Sees x P ts → AreNoListings ts
sees_none x P ts s = subst AreNoListings (sym s.look) (tt, tt)

-- ---- a literal word

no_wildcard : (word : List ℕ) → is_wildcard word ≡ false → is_wildcard word ≡ true → ⊥
no_wildcard word plain wild = let t = sym wild ∙ plain in cc

gave_none : (word : List ℕ) (found : List Match) (ts : List Entry) → is_wildcard word ≡ false → WordGave word found ts → AreNoListings ts
gave_none word found ts plain (WordGave.literal is s) = sees_none (literal_path word) (λ seen. found ≡ seen_at (literal_path word) seen) ts s
gave_none word found ts plain (WordGave.no_path is other none e) = none_empty ts e
gave_none word found ts plain (WordGave.wildcard wild absolute s) = absurd (no_wildcard word plain wild)
gave_none word found ts plain (WordGave.relative wild relative none e) = absurd (no_wildcard word plain wild)

failed_none : (word : List ℕ) (k : CallKind) (path : Path) (ts : List Entry) → is_wildcard word ≡ false → WordCallFailed word k path ts → AreNoListings ts
failed_none word k path ts plain (WordCallFailed.at_literal is look at e) = none_empty ts e
failed_none word k path ts plain (WordCallFailed.at_visit wild n) = absurd (no_wildcard word plain wild)
failed_none word k path ts plain (WordCallFailed.at_look wild look s) = absurd (no_wildcard word plain wild)

begun_none : (word : List ℕ) (ts : List Entry) → is_wildcard word ≡ false → WordBegun word ts → AreNoListings ts
begun_none word ts plain (WordBegun.not_at_all e) = none_empty ts e
begun_none word ts plain (WordBegun.at_literal is s) = sees_none (literal_path word) (λ seen. Unit {0}) ts s
begun_none word ts plain (WordBegun.at_visit wild n) = absurd (no_wildcard word plain wild)
begun_none word ts plain (WordBegun.between wild paths l) = absurd (no_wildcard word plain wild)
begun_none word ts plain (WordBegun.at_look wild s) = absurd (no_wildcard word plain wild)

pub literal_none : (w : AskedWord) (room : ℕ) (s : WordSight) (ts : List Entry) → is_wildcard w.text ≡ false → ShowsWord w room s ts → AreNoListings ts
literal_none w room (Ok found) ts plain h = gave_none w.text h.all ts plain h.gave
literal_none w room (Err (glob.Call k path)) ts plain h = failed_none w.text k path ts plain h
literal_none w room (Err glob.LongName) ts plain h = gave_none w.text h.all ts plain h.gave
literal_none w room (Err glob.TooMany) ts plain h = gave_none w.text h.all ts plain h.gave
literal_none w room (Err glob.Memory) ts plain h = begun_none w.text ts plain h

-- ---- the looks at members

sights_none : (gs : List MemberSight) → AreNoListings (map spot_look gs)
sights_none [] = tt
sights_none (g ∷ gs) = (tt, sights_none gs)

to_none : (spots : List Spot) (path : Path) (P : List Entry → Type 0) (ts : List Entry) → ((us : List Entry) → P us → AreNoListings us) → ShowsTo spots path P ts → AreNoListings ts
to_none spots path P ts f s = none_both ts (λ us e. subst AreNoListings (sym e) (sights_none s.before)) f s.looks

stops_none : (spots : List Spot) (why : StandStop) (ts : List Entry) → SomeStopped spots why ts → AreNoListings ts
stops_none spots (stop.Call kind path) ts s = to_none spots path (Are []) ts none_empty s.1
stops_none spots (stop.NotFile path) ts s = to_none spots path (Sees path IsNoFile) ts (sees_none path IsNoFile) s
stops_none spots stop.Memory ts s = subst AreNoListings (sym s.looks) (sights_none s.sights)

among_none : (n : Naming) (names : List _) (members : List Member) (ts : List Entry) → StandsAmong n names members ts → AreNoListings ts
among_none n names members ts s = subst AreNoListings (sym s.looks.looks) (sights_none s.looks.sights)

members_none : (n : Naming) (there : Bool) (names : List _) (members : List Member) (ts : List Entry) → ShowsMembers n there names members ts → AreNoListings ts
members_none n true names members ts s = among_none n names members ts s
members_none n false names members ts h = none_empty ts h.1

-- ---- the looks at part files

part_sights_none : (ss : List PathSight) → AreNoListings (map look_of ss)
part_sights_none [] = tt
part_sights_none (s ∷ ss) = (tt, part_sights_none ss)

parts_none : (n : Naming) (there : Bool) (names : List _) (parts : List Path) (ts : List Entry) → ShowsParts n there names parts ts → AreNoListings ts
parts_none n true names parts ts s = subst AreNoListings (sym s.looks) (part_sights_none s.sights)
parts_none n false names parts ts h = none_empty ts h.1

no_parts_none : (n : Naming) (names : List _) (why : StandStop) (ts : List Entry) → ShowsNoParts n names why ts → AreNoListings ts
no_parts_none n names why ts (inl h) = none_empty ts h.1
no_parts_none n names why ts (inr s) = subst AreNoListings (sym s.looks) (part_sights_none s.sights)

none_in_none : (n : Naming) (there : Bool) (names : List _) (why : StandStop) (ts : List Entry) → ShowsNoneIn n there names why ts → AreNoListings ts
none_in_none n true names why ts (inl h) = none_empty ts h.1
none_in_none n true names why ts (inr (inl s)) = stops_none s.spots why ts s.looks
none_in_none n true names why ts (inr (inr s)) = none_both ts (among_none n names s.0) (no_parts_none n names why) s.1
none_in_none n false names why ts h = absurd h

shown_none : (n : Naming) (there parent : Bool) (names : List _) (stand : Stand) (ts : List Entry) → ShowsIn n there parent names stand ts → AreNoListings ts
shown_none n there parent names stand ts h = none_both ts (members_none n there names stand.members) (parts_none n there names stand.parts) h.2

-- ---- the look where a log waits that is set aside

aside_none : (aside : Bool) (log : Path) (tmp : Option Seen) (ts : List Entry) → ShowsAside aside log tmp ts → AreNoListings ts
aside_none true log tmp ts h = subst AreNoListings (sym h) (tt, tt)
aside_none false log tmp ts h = none_empty ts h.1

no_aside_none : (aside : Bool) (log : Path) (why : StandStop) (ts : List Entry) → ShowsNoAside aside log why ts → AreNoListings ts
no_aside_none true log why ts h = none_empty ts h.1
no_aside_none false log why ts h = absurd h

-- ---- all looks behind a listing

pub members_in_none : (log : Path) (n : Naming) (l : Listing) (s : FamilySight) (ts : List Entry) → ShowsMembersIn log n l s ts → AreNoListings ts
members_in_none log n l (Stood stand tmp) ts h = none_both ts (shown_none n l.there l.parent l.names stand) (aside_none n.aside log tmp) h
members_in_none log n l (Stopped why) ts (inl h) = none_empty ts h.1
members_in_none log n l (Stopped why) ts (inr (inl h)) = none_in_none n l.there l.names why ts h
members_in_none log n l (Stopped why) ts (inr (inr h)) = none_both ts (shown_none n l.there l.parent l.names h.0) (no_aside_none n.aside log why) h.1

-- ---- the looks at a directory that isn't listed

not_at_none : (dir : Path) (k : CallKind) (path : Path) (ts : List Entry) → NotListedAt dir k path ts → AreNoListings ts
not_at_none dir call.Look path ts (inl h) = none_empty ts h.1
not_at_none dir call.Look path ts (inr h) = sees_none dir IsNothing ts h.1
not_at_none dir call.List path ts h = sees_none dir IsDir ts h.1
not_at_none dir _ path ts h = absurd h

pub not_listed_none : (dir : Path) (why : StandStop) (ts : List Entry) → NotListed dir why ts → AreNoListings ts
not_listed_none dir (stop.Call kind path) ts h = not_at_none dir kind path ts h
not_listed_none dir (stop.NotFile path) ts h = sees_none dir IsNoDir ts h.1
not_listed_none dir stop.Memory ts (inl e) = none_empty ts e
not_listed_none dir stop.Memory ts (inr (inl s)) = sees_none dir IsNothing ts s
not_listed_none dir stop.Memory ts (inr (inr s)) = sees_none dir IsDir ts s
