-- The members that were seen stand, and no other does; so it was before the looks, and is behind them.
use Rattle.std.proofs.Common.{◌≡◌, ◌≢◌, sym, ◌∙◌, subst, List, [], ◌∷◌, reverse, Some, None}
use Rattle.std.specs.Prelude.{All}
use Rattle.std.proofs.lemmas.List.Elements.{All-head, All-tail, All-cons, All-nil}
use Rattle.lr_rules.specs.declared.path.Path.{Path}
use Rattle.lr_rules.specs.declared.rule.Naming.{Naming}
use Rattle.lr_host.specs.declared.entry.Entry.{Entry}
use Rattle.lr_host.specs.declared.entry.Entry.TheVariants as entry
use Rattle.lr_host.specs.declared.thing.Thing.TheVariants as thing
use Rattle.lr_host.specs.Fits.{IsFileAt}
use Rattle.lr_host.specs.Opening.{IsJournal}
use Rattle.lr_host.specs.Quiet.{AttachedOnlySince, ChangeNothing, Quiet, here, wrote, looked}
use Rattle.lr_host.specs.Told.{Made}
use Rattle.lr_host.specs.World.{Past, world, names}
use Rattle.lr_host.proofs.Lists.{from_reverse}
use Rattle.lr_host.proofs.Looked.{seen_file, seen_none, is_nothing}
use Rattle.lr_host.proofs.More.{file_more}
use Rattle.lr_host.proofs.Quiet.{IsAny, since_any, quiet_more, quiet_same, moment}
use Rattle.lr_family.specs.declared.stand.Member.{Member}
use Rattle.lr_family.specs.Parts.{IsMember}
use Rattle.lr_family.specs.Places.{IsPlaceOf, AreNamed}
use Rattle.lr_laws_family.specs.Members.{IsNoMember, IsFamily, AreThere}
use Rattle.lr_laws_family.specs.Shown.{SawFile, IsUnseen, unlisted, gone, no_dir, Shown}
use Rattle.lr_laws_family.proofs.Directory.{member_in, none_without}
use Rattle.lr_family.proofs.Names.{placed_member}
use Rattle.lr_family.specs.Looks.{WasSeen}

-- where a member names what it named
abbrev IsAlike : Naming → Past → Past → Type 0
IsAlike n a r = (x : Path) → IsMember n x → names (world r) x ≡ names (world a) x

-- a member names the same all along
pub quiet_members : (n : Naming) (p q : Past) → Quiet (IsNoMember n) p q → (x : Path) → IsMember n x → names (world q) x ≡ names (world p) x
quiet_members n p q quiet x is = quiet_same (IsNoMember n) p q x quiet (λ none. none is)

-- quiet entries lead from a journal to one
pub quiet_journal : (P : Path → Type 0) (p q : Past) → Quiet P p q → IsJournal p → IsJournal q
quiet_journal P p _ here j = j
quiet_journal P p _ (wrote {q = q} w i f only) j = (quiet_journal P p q w j, f)
quiet_journal P p _ (looked {q = q} w i f still) j = (quiet_journal P p q w j, f)

found : (log : Path) (n : Naming) (members : List Member) (p q r : Past) (es : List Entry) → IsFamily log n → IsJournal p → AttachedOnlySince (IsNoMember n) p q → Made p es q → ChangeNothing es → Shown n members (reverse es)
    → ((a : Past) → Quiet (IsNoMember n) p a → Quiet (IsNoMember n) a q → IsAlike n a r) → AreThere n (names (world r)) members
found log n members p q r es family journal none made still s same = record {
  newest_first = s.newest_first;
  named = s.named;
  files = all_there members s.named s.files;
  others = λ x is out. unseen x is (s.others x is out);
}
  where
    there : (m : Member) → IsMember n m.path → WasSeen (reverse es) m → IsFileAt (names (world r)) m.path
    there m is seen =
        let a = moment (IsNoMember n) p q (entry.Look m.path (Some m.seen)) es none made still (from_reverse _ es seen.1) in
        let file = seen_file (world a.at) (names (world a.at) m.path) m.seen a.fits seen.0 in
        (file.0, same a.at a.since a.until m.path is ∙ file.1)

    all_there : (ms : List Member) → AreNamed n ms → All (WasSeen (reverse es)) ms → All (λ member. IsFileAt (names (world r)) member.path) ms
    all_there [] d h = All-nil (λ (member : Member). IsFileAt (names (world r)) member.path)
    all_there (m ∷ ms) d h = All-cons (λ (member : Member). IsFileAt (names (world r)) member.path) m ms
        (there m (placed_member n m.place m.path (All-head (λ (m : Member). IsPlaceOf n m.place m.path) m ms d)) (All-head (WasSeen (reverse es)) m ms h))
        (all_there ms (All-tail (λ (m : Member). IsPlaceOf n m.place m.path) m ms d) (All-tail (WasSeen (reverse es)) m ms h))

    unseen : (x : Path) → IsMember n x → IsUnseen n.dir x (reverse es) → names (world r) x ≡ thing.Nothing
    unseen x is (gone h) =
        let a = moment (IsNoMember n) p q (entry.Look x None) es none made still (from_reverse _ es h) in
        same a.at a.since a.until x is ∙ seen_none (world a.at) (names (world a.at) x) a.fits
    unseen x is (no_dir h) =
        let a = moment (IsNoMember n) p q (entry.Look n.dir None) es none made still (from_reverse _ es h) in
        same a.at a.since a.until x is
        ∙ none_without n.dir x family.dir (member_in log n x family is) a.at (quiet_journal (IsNoMember n) p a.at a.since journal) (seen_none (world a.at) (names (world a.at) n.dir) a.fits)
    unseen x is (unlisted listed list absent) =
        let a = moment (IsNoMember n) p q (entry.List n.dir listed) es none made still (from_reverse _ es list) in
        let h = member_in log n x family is in
        same a.at a.since a.until x is
        ∙ is_nothing (names (world a.at) x) (λ some. absent h.name ((a.fits.1.all h.name).1 (h.part, subst (λ (y : Path). names (world a.at) y ≢ thing.Nothing) h.named some)) h.named)

-- they stood before these entries
pub stood_before : (log : Path) (n : Naming) (members : List Member) (p q : Past) (es : List Entry) → IsFamily log n → IsJournal p → AttachedOnlySince (IsNoMember n) p q → Made p es q → ChangeNothing es → Shown n members (reverse es) → AreThere n (names (world p)) members
stood_before log n members p q es family journal none made still s = found log n members p q p es family journal none made still s (λ a since until x is. sym (quiet_members n p a since x is))

-- and stand behind them
pub stand_behind : (log : Path) (n : Naming) (members : List Member) (p q : Past) (es : List Entry) → IsFamily log n → IsJournal p → AttachedOnlySince (IsNoMember n) p q → Made p es q → ChangeNothing es → Shown n members (reverse es) → AreThere n (names (world q)) members
stand_behind log n members p q es family journal none made still s = found log n members p q q es family journal none made still s (λ a since until x is. quiet_members n a q until x is)

-- a path at which a look saw a file names one, whatever writers did
pub file_stands : (p q : Past) (es : List Entry) → Made p es q → ChangeNothing es → (x : Path) → SawFile x (reverse es) → IsFileAt (names (world q)) x
file_stands p q es made still x saw =
    let t = moment IsAny p q (entry.Look x (Some saw.0)) es (since_any p q es made) made still (from_reverse (entry.Look x (Some saw.0)) es saw.2) in
    file_more (names (world t.at)) (names (world q)) x (quiet_more IsAny t.at q t.until) (seen_file (world t.at) (names (world t.at) x) saw.0 t.fits saw.1)
