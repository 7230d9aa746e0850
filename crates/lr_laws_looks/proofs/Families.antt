-- What was seen of a family is what stood before the looks, or came since.
use Rattle.std.proofs.Common.{◌≡◌, ◌≢◌, ◌⊎◌, inl, inr, ⊎_elim, ℕ, Bool, true, false, bytes_eq, List, [], ◌∷◌, Option, Some, None, refl, ◌∙◌, ap, subst, reverse}
use Rattle.std.proofs.lemmas.Slice.Eq.{bytes_eq-Decides}
use Rattle.lr_rules.specs.declared.path.Path.{Path}
use Rattle.lr_rules.specs.declared.rule.Naming.{Naming}
use Rattle.lr_rules.specs.Names.{aside_path}
use Rattle.lr_rules.specs.Path.{joined, parent_of, last_of}
use Rattle.lr_rules.proofs.PathLemmas.{parent_joined, last_joined}
use Rattle.lr_host.specs.declared.thing.Seen.{Seen}
use Rattle.lr_host.specs.declared.thing.Thing.{Thing}
use Rattle.lr_host.specs.declared.thing.Thing.TheVariants as thing
use Rattle.lr_host.specs.declared.entry.Entry.{Entry}
use Rattle.lr_host.specs.declared.entry.Entry.TheVariants as entry
use Rattle.lr_host.specs.Fits.{IsFileAt, SeesThing, IsNameIn}
use Rattle.lr_host.specs.Lists.{IsIn}
use Rattle.lr_host.specs.Looks.{IsFile}
use Rattle.lr_host.specs.Opening.{IsJournal}
use Rattle.lr_host.specs.Quiet.{ChangeNothing}
use Rattle.lr_host.specs.Told.{Made}
use Rattle.lr_host.specs.World.{Past, World, world, names}
use Rattle.lr_host.proofs.Lists.{from_reverse}
use Rattle.lr_host.proofs.Looked.{nothing_no_file, nothing_no_dir, seen_file, seen_none}
use Rattle.lr_host.proofs.More.{file_more, directory_more}
use Rattle.lr_host.proofs.Quiet.{IsAny, Moment, moment, quiet_more, since_any}
use Rattle.lr_laws.specs.Rooted.{IsParted}
use Rattle.lr_laws.proofs.StandsIn.{stands_in}
use Rattle.lr_family.specs.declared.stand.Member.{Member}
use Rattle.lr_family.specs.declared.stand.Stand.{Stand}
use Rattle.lr_family.specs.Parts.{IsMember, IsMembersPart}
use Rattle.lr_laws_family.specs.Shown.{IsUnlisted, IsUnseen, unlisted, gone, no_dir}
use Rattle.lr_laws_family.proofs.Picking.{has_or_none}
use Rattle.lr_laws_looks.proofs.SeenListed.{WasShown}
use Rattle.lr_laws_looks.specs.Finds.{StoodOrCame}
use Rattle.lr_laws_looks.proofs.Came.{quiet_prefix, stood_or_came}
use Rattle.lr_laws_looks.specs.True.{HasMember, IsTrueFamily, IsTrueAside}
use Rattle.lr_laws_family.specs.Members.{IsFamily}
use Rattle.lr_laws_family.proofs.Directory.{member_in}
use Rattle.lr_laws_looks.proofs.Members.{part_in, WereSeen, members_seen}
use Rattle.lr_laws_looks.proofs.Sought.{WereSought, WasSought}
use Rattle.lr_laws_looks.proofs.Words.{still_named}

-- a file is seen as one
pub file_seen : (w : World) (t : Thing) (g : ℕ) (o : Option Seen) → t ≡ thing.File g → SeesThing w t o → IsFile o
file_seen w t g o is s = go o (subst (λ (u : Thing). SeesThing w u o) is s)
  where
    go : (o : Option Seen) → SeesThing w (thing.File g) o → IsFile o
    go None s = s
    go (Some seen) s = s.0

path_or_not : (x : Path) (ys : List Path) → IsIn x ys ⊎ (IsIn x ys → ⊥)
path_or_not x [] = inr (λ i. i)
path_or_not x (y ∷ ys) = go (bytes_eq y x) refl (path_or_not x ys)
  where
    go : (b : Bool) → bytes_eq y x ≡ b → IsIn x ys ⊎ (IsIn x ys → ⊥) → IsIn x (y ∷ ys) ⊎ (IsIn x (y ∷ ys) → ⊥)
    go true e r = inl (inl ((bytes_eq-Decides y x).0 e))
    go false e (inl i) = inl (inr i)
    go false e (inr none) = inr (λ i. ⊎_elim (λ (same : y ≡ x). absurd (let t = (bytes_eq-Decides y x).1 same in cc)) none i)

-- ---- one look

module _ (p q : Past) (es : List Entry) (m : Made p es q) (still : ChangeNothing es) where
  -- just before one of the entries
  then_ : (e : Entry) → IsIn e (reverse es) → Moment IsAny p q e
  then_ e i = moment IsAny p q e es (since_any p q es m) m still (from_reverse e es i)

  -- a file from before stands then
  stands : (x : Path) (e : Entry) (t : Moment IsAny p q e) → IsFileAt (names (world p)) x → IsFileAt (names (world t.at)) x
  stands x e t file = file_more (names (world p)) (names (world t.at)) x (quiet_more IsAny p t.at t.since) file

  -- a look that saw a file tells that it stood, or came
  file_came : (x : Path) (o : Option Seen) → IsFile o → IsIn (entry.Look x o) (reverse es) → StoodOrCame x p q
  file_came x None none i = absurd none
  file_came x (Some seen) k i =
      let t = then_ (entry.Look x (Some seen)) i in
      stood_or_came x p t.at q t.since (quiet_prefix t.at q t.until) (seen_file (world t.at) (names (world t.at) x) seen t.fits k)

  -- it saw the file that stood
  stood_seen : (x : Path) (o : Option Seen) → IsIn (entry.Look x o) (reverse es) → IsFileAt (names (world p)) x → IsFile o
  stood_seen x o i file =
      let t = then_ (entry.Look x o) i in
      let f = stands x (entry.Look x o) t file in
      file_seen (world t.at) (names (world t.at) x) f.0 o f.1 t.fits

  -- and whatever stood
  thing_seen : (x : Path) (o : Option Seen) → IsIn (entry.Look x o) (reverse es) → names (world p) x ≢ thing.Nothing → o ≢ None
  thing_seen x o i named none =
      let t = then_ (entry.Look x o) i in
      still_named (names (world p) x) (names (world t.at) x) (quiet_more IsAny p t.at t.since x) named
      (seen_none (world t.at) (names (world t.at) x) (subst (SeesThing (world t.at) (names (world t.at) x)) none t.fits))

  -- the look where a log waits
  pub true_aside : (log : Path) (tmp : Option Seen) → IsIn (entry.Look (aside_path log) tmp) (reverse es) → IsTrueAside log tmp p q
  true_aside log tmp i = record { stood = thing_seen (aside_path log) tmp i; file = λ file. stood_seen (aside_path log) tmp i file; came = λ is. file_came (aside_path log) tmp is i }

-- ---- a family

module _ (log : Path) (n : Naming) (stand : Stand) (p q : Past) (es : List Entry) (family : IsFamily log n) (m : Made p es q) (journal : IsJournal p) (still : ChangeNothing es) (shown : WasShown n stand (reverse es)) (sought : WasSought n stand (reverse es)) where
  -- a look that saw no file tells that none stood
  none_stood : (x : Path) (o : Option Seen) → (IsFile o → ⊥) → IsIn (entry.Look x o) (reverse es) → IsFileAt (names (world p)) x → ⊥
  none_stood x o other i file = other (stood_seen p q es m still x o i file)

  -- so does a listing of its directory without its name
  not_listed : (x : Path) (listed : List (List ℕ)) → IsNameIn n.dir x → IsIn (entry.List n.dir listed) (reverse es) → IsUnlisted n.dir listed x → IsFileAt (names (world p)) x → ⊥
  not_listed x listed h i absent file =
      let t = then_ p q es m still (entry.List n.dir listed) i in
      let f = stands p q es m still (joined n.dir h.name) (entry.List n.dir listed) t (subst (IsFileAt (names (world p))) h.named file) in
      absent h.name ((t.fits.1.all h.name).1 (h.part, λ none. nothing_no_file (names (world t.at) (joined n.dir h.name)) f.0 none f.1)) h.named

  -- and a look that saw no directory
  no_directory : (x : Path) → IsNameIn n.dir x → IsIn (entry.Look n.dir None) (reverse es) → IsFileAt (names (world p)) x → ⊥
  no_directory x h i file = nothing_no_dir (names (world t.at) n.dir) (seen_none (world t.at) (names (world t.at) n.dir) t.fits) (directory_more (names (world p)) (names (world t.at)) n.dir (quiet_more IsAny p t.at t.since) dir)
    where
      t : Moment IsAny p q (entry.Look n.dir None)
      t = then_ p q es m still (entry.Look n.dir None) i

      there : IsFileAt (names (world p)) (joined n.dir h.name)
      there = subst (IsFileAt (names (world p))) h.named file

      up : parent_of (joined n.dir h.name) ≡ n.dir
      up = parent_joined n.dir h.name family.dir h.part.1

      parted : IsParted (joined n.dir h.name)
      parted = ap (λ (d : Path). joined d (last_of (joined n.dir h.name))) up ∙ ap (joined n.dir) (last_joined n.dir h.name h.part.1)

      dir : names (world p) n.dir ≡ thing.Directory
      dir = subst (λ (d : Path). names (world p) d ≡ thing.Directory) up (stands_in p (joined n.dir h.name) journal parted (λ none. nothing_no_file (names (world p) (joined n.dir h.name)) there.0 none there.1))

  -- ---- members

  seen : stand.there ≡ true → WereSeen n stand.members (reverse es)
  seen there = members_seen n stand.members (reverse es) (shown.0 there).1

  member_stood : (x : Path) → IsMember n x → IsFileAt (names (world p)) x → (b : Bool) → stand.there ≡ b → HasMember stand.members x
  member_stood x member file true there = ⊎_elim (λ h. h) (λ none. absurd (unseen (s.others x member none))) (has_or_none x stand.members)
    where
      unseen : IsUnseen n.dir x (reverse es) → ⊥
      unseen (unlisted names i absent) = not_listed x names (member_in log n x family member) i absent file
      unseen (gone i) = none_stood x None (λ f. f) i file
      unseen (no_dir i) = no_directory x (member_in log n x family member) i file

      s : WereSeen n stand.members (reverse es)
      s = seen there
  member_stood x member file false there = absurd (no_directory x (member_in log n x family member) (shown.2 there).look file)

  member_came : (one : Member) → IsIn one stand.members → (b : Bool) → stand.there ≡ b → StoodOrCame one.path p q
  member_came one i true there = let f = (seen there).files one i in file_came p q es m still one.path (Some f.0) f.1 f.2
  member_came one i false there = absurd (subst (IsIn one) (shown.2 there).members i)

  -- ---- part files

  part_stood : (x : Path) → IsMembersPart n x → IsFileAt (names (world p)) x → (b : Bool) → stand.there ≡ b → IsIn x stand.parts
  part_stood x part file true there = ⊎_elim (λ i. i) (λ out. absurd (⊎_elim
      (λ absent. not_listed x s.listed (part_in log n x family part) s.list absent file)
      (λ h. none_stood x h.0 h.1 h.2 file)
      (s.others x part out))) (path_or_not x stand.parts)
    where
      s : WereSought n stand.parts (reverse es)
      s = (sought there).parts
  part_stood x part file false there = absurd (no_directory x (part_in log n x family part) (shown.2 there).look file)

  pub true_family : IsTrueFamily n stand p q
  true_family = record {
    members = λ x member file. member_stood x member file stand.there refl;
    parts = λ x part file. part_stood x part file stand.there refl;
    member_came = λ one i. member_came one i stand.there refl;
    part_came = λ x i. let f = shown.1 x i in file_came p q es m still x (Some f.0) f.1 f.2;
  }
