-- The steps of a rotation fit behind looks that saw its log, its directory and its members, whatever writers did.
use Rattle.std.proofs.Common.{◌≡◌, ◌≢◌, ◌⊎◌, inl, inr, ⊎_elim, ℕ, ◌≤◌, Bool, true, false, cond, ◌||◌, bytes_eq, refl, sym, ap, ◌∙◌, subst, List, [], ◌∷◌, map, reverse, Option, Some, None}
use Rattle.std.specs.Prelude.{All}
use Rattle.std.proofs.lemmas.Bool.{or_right}
use Rattle.std.proofs.lemmas.List.Elements.{All-head, All-tail, All-cons, All-nil}
use Rattle.std.proofs.lemmas.Slice.Eq.{bytes_eq-Decides}
use Rattle.lr_rules.specs.declared.clock.Clock.{Clock}
use Rattle.lr_rules.specs.declared.path.Path.{Path}
use Rattle.lr_rules.specs.declared.rule.Count.{Count}
use Rattle.lr_rules.specs.declared.rule.Make.{Make}
use Rattle.lr_rules.specs.declared.rule.Naming.{Naming}
use Rattle.lr_rules.specs.Limits.{IsCount}
use Rattle.lr_host.specs.declared.entry.Entry.{Entry}
use Rattle.lr_host.specs.declared.entry.Entry.TheVariants as entry
use Rattle.lr_host.specs.declared.thing.Thing.TheVariants as thing
use Rattle.lr_host.specs.Fits.{IsFileAt, IsDirectoryAt}
use Rattle.lr_host.specs.Lists.{IsIn}
use Rattle.lr_host.specs.Quiet.{AttachedOnlySince, ChangeNothing}
use Rattle.lr_host.specs.Steps.{FitAll}
use Rattle.lr_host.specs.Told.{Made}
use Rattle.lr_host.specs.World.{Names, Past, world, names, in_list}
use Rattle.lr_host.proofs.Left.{fit_more}
use Rattle.lr_host.proofs.Lists.{in_map, in_unmap, from_reverse}
use Rattle.lr_host.proofs.Looked.{seen_dir, seen_none, is_nothing, nothing_no_dir}
use Rattle.lr_host.proofs.More.{IsMore, directory_more, dir_before, nothing_before}
use Rattle.lr_host.proofs.Quiet.{IsAny, Moment, since_any, made_quiet, quiet_more, moment}
use Rattle.lr_family.specs.declared.stand.Member.{Member}
use Rattle.lr_family.specs.declared.stand.Stand.{Stand}
use Rattle.lr_family.specs.Parts.{IsMember}
use Rattle.lr_family.proofs.Shown.{not_none}
use Rattle.lr_family.specs.Looks.{WasSeen}
use Rattle.lr_chain.specs.Hindrances.{what_hinders}
use Rattle.lr_chain.specs.Prepared.{ready_of}
use Rattle.lr_laws_family.specs.Members.{IsFamily, NoMemberHas, AreThere}
use Rattle.lr_laws_family.specs.Shown.{SawFile, SawDir, IsUnseen, unlisted, gone, no_dir, Shown}
use Rattle.lr_laws_family.proofs.Directory.{member_in}
use Rattle.lr_laws_family.proofs.Picking.{IsThere}
use Rattle.lr_laws_family.proofs.Stood.{file_stands}
use Rattle.lr_laws_rotations.specs.Steps.{bare_steps}
use Rattle.lr_laws_rotations.proofs.Families.{family_fits}

-- ---- names in between: those of later at some paths, those of before at all others

is_one : (xs : List Path) (y : Path) → IsIn y xs → in_list xs y ≡ true
is_one [] y h = absurd h
is_one (x ∷ xs) y (inl e) = ap (λ b. b || in_list xs y) ((bytes_eq-Decides x y).1 e)
is_one (x ∷ xs) y (inr h) = or_right (bytes_eq x y) (in_list xs y) (is_one xs y h)

is_in : (xs : List Path) (y : Path) → in_list xs y ≡ true → IsIn y xs
is_in [] y h = absurd (cc)
is_in (x ∷ xs) y h = go (bytes_eq x y) refl (λ k. is_in xs y k) h
  where
    go : (b : Bool) → bytes_eq x y ≡ b → (in_list xs y ≡ true → IsIn y xs) → (b || in_list xs y) ≡ true → IsIn y (x ∷ xs)
    go true e further h = inl ((bytes_eq-Decides x y).0 e)
    go false e further h = inr (further h)

between : List Path → Names → Names → Names
between xs n n' y = cond (in_list xs y) (n' y) (n y)

between_in : (xs : List Path) (n n' : Names) (y : Path) → IsIn y xs → between xs n n' y ≡ n' y
unfolding between
between_in xs n n' y h = ap (λ b. cond b (n' y) (n y)) (is_one xs y h)

between_out : (xs : List Path) (n n' : Names) (y : Path) → (IsIn y xs → ⊥) → between xs n n' y ≡ n y
unfolding between
between_out xs n n' y out = go (in_list xs y) refl
  where
    go : (b : Bool) → in_list xs y ≡ b → cond b (n' y) (n y) ≡ n y
    go true e = absurd (out (is_in xs y e))
    go false e = refl

between_either : (xs : List Path) (n n' : Names) (y : Path) → (between xs n n' y ≡ n' y) ⊎ (between xs n n' y ≡ n y)
unfolding between
between_either xs n n' y = go (in_list xs y)
  where
    go : (b : Bool) → (cond b (n' y) (n y) ≡ n' y) ⊎ (cond b (n' y) (n y) ≡ n y)
    go true = inl refl
    go false = inr refl

between_more : (xs : List Path) (n n' : Names) → IsMore n n' → IsMore (between xs n n') n'
between_more xs n n' more y = ⊎_elim (λ e. inl (sym e)) (λ e. ⊎_elim (λ same. inl (same ∙ sym e)) (λ new. inr (e ∙ new.0, new.1)) (more y)) (between_either xs n n' y)

-- ---- the rotation

pub seen_fits : (clock : Clock) (log : Path) (n : Naming) (c : Count) (maxage : Option ℕ) (anew : Make) (stand : Stand) (p q : Past) (es : List Entry) → IsFamily log n → n.start ≤ 999999 → IsCount c → Made p es q → ChangeNothing es
    → SawFile log (reverse es) → SawDir n.dir (reverse es) → Shown n stand.members (reverse es) → what_hinders n c clock stand ≡ [] → FitAll (names (world q)) (reverse (bare_steps (ready_of log n c maxage clock anew stand.members)))
seen_fits clock log n c maxage anew stand p q es family start small made still saw saw_dir shown free =
    fit_more mid (names (world q)) (reverse (bare_steps (ready_of log n c maxage clock anew stand.members))) (between_more paths (names (world p)) (names (world q)) (quiet_more IsAny p q (made_quiet IsAny p q es any made still)))
    (family_fits clock mid log n c maxage anew stand family start small (at_path log (inl refl) (file_stands p q es made still log saw)) dir there free)
  where
    any : AttachedOnlySince IsAny p q
    any = since_any p q es made

    paths : List Path
    paths = log ∷ map (λ (m : Member). m.path) stand.members

    mid : Names
    mid = between paths (names (world p)) (names (world q))

    moment_of : (e : Entry) → IsIn e (reverse es) → Moment IsAny p q e
    moment_of e h = moment IsAny p q e es any made still (from_reverse e es h)

    at_path : (x : Path) → IsIn x paths → IsFileAt (names (world q)) x → IsFileAt mid x
    at_path x h f = (f.0, between_in paths (names (world p)) (names (world q)) x h ∙ f.1)

    -- the directory stood from the beginning on
    seen_at : Moment IsAny p q (entry.Look n.dir (Some saw_dir.0))
    seen_at = moment_of (entry.Look n.dir (Some saw_dir.0)) saw_dir.2

    dir_then : IsDirectoryAt (names (world seen_at.at)) n.dir
    dir_then = seen_dir (world seen_at.at) (names (world seen_at.at) n.dir) saw_dir.0 seen_at.fits saw_dir.1

    first_dir : IsDirectoryAt (names (world p)) n.dir
    first_dir = dir_before (names (world p)) (names (world seen_at.at)) n.dir (quiet_more IsAny p seen_at.at seen_at.since) dir_then

    last_dir : IsDirectoryAt (names (world q)) n.dir
    last_dir = directory_more (names (world seen_at.at)) (names (world q)) n.dir (quiet_more IsAny seen_at.at q seen_at.until) dir_then

    dir : IsDirectoryAt mid n.dir
    dir = ⊎_elim (λ e. e ∙ last_dir) (λ e. e ∙ first_dir) (between_either paths (names (world p)) (names (world q)) n.dir)

    files : (ms : List Member) → ((m : Member) → IsIn m ms → IsIn m.path paths) → All (WasSeen (reverse es)) ms → All (IsThere mid) ms
    files [] on seen = All-nil (IsThere mid)
    files (m ∷ ms) on seen =
        let h = All-head (WasSeen (reverse es)) m ms seen in
        All-cons (IsThere mid) m ms (at_path m.path (on m (inl refl)) (file_stands p q es made still m.path (m.seen, h.0, h.1))) (files ms (λ y i. on y (inr i)) (All-tail (WasSeen (reverse es)) m ms seen))

    other : (x : Path) → IsMember n x → NoMemberHas stand.members x → IsIn x paths → ⊥
    other x is out (inl e) = family.apart (subst (IsMember n) (sym e) is)
    other x is out (inr h) = let r = in_unmap (λ (m : Member). m.path) x stand.members h in not_none x r.0 stand.members out r.1 r.2

    unseen : (x : Path) → IsMember n x → IsUnseen n.dir x (reverse es) → names (world p) x ≡ thing.Nothing
    unseen x is (gone h) = let t = moment_of (entry.Look x None) h in
        nothing_before (names (world p)) (names (world t.at)) x (quiet_more IsAny p t.at t.since) (seen_none (world t.at) (names (world t.at) x) t.fits)
    unseen x is (unlisted listed list absent) =
        let t = moment_of (entry.List n.dir listed) list in
        let h = member_in log n x family is in
        nothing_before (names (world p)) (names (world t.at)) x (quiet_more IsAny p t.at t.since)
        (is_nothing (names (world t.at) x) (λ some. absent h.name ((t.fits.1.all h.name).1 (h.part, subst (λ (y : Path). names (world t.at) y ≢ thing.Nothing) h.named some)) h.named))
    unseen x is (no_dir h) = let t = moment_of (entry.Look n.dir None) h in
        absurd (nothing_no_dir (names (world t.at) n.dir) (seen_none (world t.at) (names (world t.at) n.dir) t.fits) (directory_more (names (world p)) (names (world t.at)) n.dir (quiet_more IsAny p t.at t.since) first_dir))

    there : AreThere n mid stand.members
    there = record {
      newest_first = shown.newest_first;
      named = shown.named;
      files = files stand.members (λ m i. inr (in_map (λ (m : Member). m.path) m stand.members i)) shown.files;
      others = λ x is out. between_out paths (names (world p)) (names (world q)) x (λ h. other x is out h) ∙ unseen x is (shown.others x is out);
    }
