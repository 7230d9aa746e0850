-- Each member that stood, and each file beside them, was seen.
use Rattle.std.proofs.Common.{◌≡◌, inl, ⊎_elim, ℕ, Bool, true, false, List, Option, Some, None, reverse, sym, ap, subst}
use Rattle.lr_rules.specs.declared.path.Path.{Path}
use Rattle.lr_rules.specs.declared.rule.Naming.{Naming}
use Rattle.lr_rules.specs.Path.{joined}
use Rattle.lr_host.specs.declared.entry.Entry.{Entry}
use Rattle.lr_host.specs.declared.entry.Entry.TheVariants as entry
use Rattle.lr_host.specs.declared.thing.Seen.{Seen}
use Rattle.lr_host.specs.Fits.{IsFileAt, IsNameIn}
use Rattle.lr_host.specs.Lists.{IsIn}
use Rattle.lr_host.specs.Looks.{Sees, IsNothing}
use Rattle.lr_host.specs.Opening.{IsJournal}
use Rattle.lr_host.specs.Quiet.{ChangeNothing}
use Rattle.lr_host.specs.Told.{Made, Then}
use Rattle.lr_host.specs.World.{Past, world, names}
use Rattle.lr_host.proofs.Lists.{from_reverse, in_front, in_back}
use Rattle.lr_host.proofs.Looked.{nothing_no_file, seen_none}
use Rattle.lr_host.proofs.More.{file_more}
use Rattle.lr_host.proofs.Quiet.{IsAny, Moment, moment, quiet_more, since_any}
use Rattle.lr_family.specs.declared.stand.Stand.{Stand}
use Rattle.lr_family.specs.Among.{ShowsIn, ShowsMembers}
use Rattle.lr_family.specs.Listed.{ShowsListing}
use Rattle.lr_family.specs.Parts.{IsMember}
use Rattle.lr_family.specs.Standing.{ShowsStand}
use Rattle.lr_laws_family.specs.Members.{IsFamily}
use Rattle.lr_laws_family.specs.Shown.{IsUnlisted, IsUnseen, unlisted, gone, no_dir}
use Rattle.lr_laws_family.proofs.Directory.{member_in, none_without}
use Rattle.lr_laws_family.proofs.Picking.{has_or_none}
use Rattle.lr_laws_family.proofs.Shows.{stand_shown}
use Rattle.lr_laws_family.proofs.Stood.{quiet_journal}
use Rattle.lr_laws_looks.specs.True.{HasMember}
use Rattle.lr_cat.specs.Saw.{Finds}

-- a look that saw nothing
nothing_look : (x : Path) (ts : List Entry) → Sees x IsNothing ts → IsIn (entry.Look x None) ts
nothing_look x ts s = subst (IsIn (entry.Look x None)) (sym s.look) (inl (ap (λ (o : Option Seen). entry.Look x o) s.is))

module _ (p q : Past) (es : List Entry) (journal : IsJournal p) (m : Made p es q) (still : ChangeNothing es) where
  -- just before one of the entries
  then_ : (e : Entry) → IsIn e (reverse es) → Moment IsAny p q e
  then_ e i = moment IsAny p q e es (since_any p q es m) m still (from_reverse e es i)

  -- a file from before stands then
  stands : (x : Path) (e : Entry) (t : Moment IsAny p q e) → IsFileAt (names (world p)) x → IsFileAt (names (world t.at)) x
  stands x e t file = file_more (names (world p)) (names (world t.at)) x (quiet_more IsAny p t.at t.since) file

  -- a look that saw nothing tells that none stood
  none_stood : (x : Path) → IsIn (entry.Look x None) (reverse es) → IsFileAt (names (world p)) x → ⊥
  none_stood x i file =
      let t = then_ (entry.Look x None) i in
      let f = stands x (entry.Look x None) t file in
      nothing_no_file (names (world t.at) x) f.0 (seen_none (world t.at) (names (world t.at) x) t.fits) f.1

  -- a file beside the members
  pub file_stood : (x : Path) (found : Option Path) (ts : List Entry) → Finds (Some x) found ts → ((e : Entry) → IsIn e ts → IsIn e (reverse es)) → IsFileAt (names (world p)) x → found ≡ Some x
  file_stood x (Some y) ts s in_all file = ap (λ (z : Path). Some z) s.0
  file_stood x None ts s in_all file = absurd (none_stood x (in_all (entry.Look x None) (nothing_look x ts s)) file)

  module _ (log : Path) (n : Naming) (family : IsFamily log n) where
    -- so does a listing of its directory without its name
    not_listed : (x : Path) (listed : List (List ℕ)) → IsNameIn n.dir x → IsIn (entry.List n.dir listed) (reverse es) → IsUnlisted n.dir listed x → IsFileAt (names (world p)) x → ⊥
    not_listed x listed h i absent file =
        let t = then_ (entry.List n.dir listed) i in
        let f = stands (joined n.dir h.name) (entry.List n.dir listed) t (subst (IsFileAt (names (world p))) h.named file) in
        absent h.name ((t.fits.1.all h.name).1 (h.part, λ none. nothing_no_file (names (world t.at) (joined n.dir h.name)) f.0 none f.1)) h.named

    -- and a look that saw no directory
    no_directory : (x : Path) → IsNameIn n.dir x → IsIn (entry.Look n.dir None) (reverse es) → IsFileAt (names (world p)) x → ⊥
    no_directory x h i file =
        let t = then_ (entry.Look n.dir None) i in
        let f = stands x (entry.Look n.dir None) t file in
        nothing_no_file (names (world t.at) x) f.0
        (none_without n.dir x family.dir h t.at (quiet_journal IsAny p t.at t.since journal) (seen_none (world t.at) (names (world t.at) n.dir) t.fits)) f.1

    pub member_stood : (stand : Stand) (ts : List Entry) → ShowsStand n stand ts → ((e : Entry) → IsIn e ts → IsIn e (reverse es)) → (x : Path) → IsMember n x → IsFileAt (names (world p)) x → HasMember stand.members x
    member_stood stand ts s in_all x member file = go stand.there t.first t.second.2.first
      where
        t : Then (ShowsListing n.dir stand.there stand.parent s.0) (ShowsIn n stand.there stand.parent s.0 stand) ts
        t = s.1

        h : IsNameIn n.dir x
        h = member_in log n x family member

        first_in : (e : Entry) → IsIn e t.front → IsIn e (reverse es)
        first_in e i = in_all e (subst (IsIn e) (sym t.joined) (in_front e t.front t.back i))

        members_in : (e : Entry) → IsIn e t.second.2.front → IsIn e (reverse es)
        members_in e i = in_all e (subst (IsIn e) (sym t.joined) (in_back e t.front t.back (subst (IsIn e) (sym t.second.2.joined) (in_front e t.second.2.front t.second.2.back i))))

        unseen : IsUnseen n.dir x (reverse es) → ⊥
        unseen (unlisted listed i absent) = not_listed x listed h i absent file
        unseen (gone i) = none_stood x i file
        unseen (no_dir i) = no_directory x h i file

        go : (there : Bool) → ShowsListing n.dir there stand.parent s.0 t.front → ShowsMembers n there s.0 stand.members t.second.2.front → HasMember stand.members x
        go true l ms = let shown = stand_shown n stand.parent s.0 stand.members t.front t.second.2.front (reverse es) first_in members_in l ms in
            ⊎_elim (λ k. k) (λ none. absurd (unseen (shown.others x member none))) (has_or_none x stand.members)
        go false l ms = absurd (no_directory x h (first_in (entry.Look n.dir None) (subst (IsIn (entry.Look n.dir None)) (sym l.1.joined) (in_front (entry.Look n.dir None) l.1.front l.1.back (nothing_look n.dir l.1.front l.1.first)))) file)
