-- The state is the old one or the new one, whole.
use Rattle.std.proofs.Common.{◌≡◌, ◌≢◌, ◌⊎◌, inl, inr, ⊎_elim, ℕ, false, refl, sym, ◌∙◌, ap, subst, arith, List, [], ◌∷◌, ◌++◌, map, reverse, append_assoc, Option, Some}
use Rattle.std.proofs.lemmas.List.{reverse-append, reverse-reverse}
use Rattle.lr_rules.specs.declared.path.Path.{Path}
use Rattle.lr_rules.specs.StatePath.{state_part}
use Rattle.lr_rules.proofs.Beside.{part_apart}
use Rattle.lr_host.specs.declared.thing.Thing.{Thing}
use Rattle.lr_host.specs.declared.thing.Thing.TheVariants as thing
use Rattle.lr_host.specs.declared.entry.Entry.{Entry}
use Rattle.lr_host.specs.declared.entry.Entry.TheVariants as entry
use Rattle.lr_host.specs.Fits.{Fits}
use Rattle.lr_host.specs.Kept.{Leaves}
use Rattle.lr_host.specs.Lists.{IsIn}
use Rattle.lr_host.specs.Opening.{IsJournal}
use Rattle.lr_host.specs.Quiet.{is_disk_change, AttachedOnlySince}
use Rattle.lr_host.specs.Safe.{IsMachines, IsPrefix}
use Rattle.lr_host.specs.Told.{Each, Made, by_tool}
use Rattle.lr_host.specs.World.{Past, ◌▸◌, world, Names, names, put, Change, Moves, changed, Adds, step}
use Rattle.lr_host.proofs.Closed.{Touches, untouched}
use Rattle.lr_host.proofs.Each.{each_append, each_as, each_first, each_map, each_reverse}
use Rattle.lr_host.proofs.Names.{put_here, put_other}
use Rattle.lr_host.proofs.Quiet.{since_before}
use Rattle.lr_laws.specs.Follow.{changed_paths}
use Rattle.lr_laws.proofs.Disk.{AgreeOn, leaves_now, cut_leaves, fits_closed}
use Rattle.lr_laws.specs.Renewing.{LeavesAlone, Renews, MayRenew, left_alone, renewed}
use Rattle.lr_laws.specs.StateWhole.{IsSettled, WritersSpareState, renamed_paths, LeftAs, StandsAs, AreApplied, IsAsBefore, IsOldOrNew, IsWholeAt}
use Rattle.lr_laws.proofs.Files.{LeavesFile, tool_guards, tool_synced, cut_whole}
use Rattle.lr_laws.proofs.Leaving.{Lasts, lasts_on, stands_made, alike}
use Rattle.lr_laws.proofs.Lists.{made_prefix, IsOnWay, on_way, at, FirstPart, ends_before, has_it, first_part}
use Rattle.lr_laws.proofs.Parts.{guarded_first}
use Rattle.lr_laws.proofs.Renewed.{IsFilled, filling, filled, Spared, renamed_own, in_two, all_stand}
use Rattle.lr_laws.proofs.Syncs.{none_left, none_listed}
use Rattle.lr_laws.proofs.Walks.{IsSafeFile, LeftLast, now_left, left_before, left_last, NamesNone, AllowsNew, left_drawn, calm_entry, calm_walk, named_walk, safe_walk}

-- ---- what is seen of a moment: it, or a cut there

pub record IsView (u v : Past) : Type 0 where
  pub undone : List Change
  pub leaves : Leaves u (names (world v)) undone
  pub bytes : (x : Path) (g : ℕ) (bytes : List ℕ) → IsSafeFile x g bytes u → ((world v).files g).bytes ≡ bytes

view_now : (u : Past) → IsView u u
view_now u = record { undone = []; leaves = leaves_now (world u); bytes = λ x g bytes s. s.0.has }

view_cut : (u : Past) (c : Entry) → IsMachines c → Fits (world u) c → IsView u (u ▸ c)
view_cut u (entry.Cut kept lengths) i f = record {
  undone = _;
  leaves = cut_leaves (world u) kept lengths (fits_closed (world u) (entry.Cut kept lengths) f);
  bytes = λ x g bytes s. cut_whole (world u) _ lengths x g bytes f.within s.0 s.1;
}
view_cut u _ i f = absurd i

-- ---- entries that leave the state alone

aside_named : (x : Path) (e : Entry) → LeavesAlone x e → IsIn x (renamed_paths e) → ⊥
aside_named x (entry.Renames from to) a i = a i
aside_named x (entry.Makes y mode) a i = a i
aside_named x (entry.Unlinks y) a i = a i
aside_named x (entry.MakesDir y mode) a i = a i
aside_named x _ a i = i

aside_leaves : (x : Path) (e : Entry) → LeavesAlone x e → LeavesFile x e
aside_leaves x (entry.Renames from to) a = λ e. a (inl e)
aside_leaves x (entry.Appends y piece) a = λ e. a (inl e)
aside_leaves x (entry.Truncates y) a = λ e. a (inl e)
aside_leaves x _ a = tt

-- ---- one call

module _ (state : Path) (p : Past) (j : IsJournal p) (settled : IsSettled state p) (held : (v g : ℕ) → (world p).holds v ≡ Some g → names (world p) state ≢ thing.File g) where
  abbrev part : Path
  part = state_part state

  abbrev old : Thing
  old = names (world p) state

  -- the state's file, as the call begins
  abbrev IsOldSafe : Past → Type 0
  IsOldSafe u = (g : ℕ) → old ≡ thing.File g → IsSafeFile state g ((world p).files g).bytes u

  old_first : IsOldSafe p
  old_first g e = (guarded_first p state g j e (λ v h. held v g h e), settled.synced g e)

  old_walk : (u q : Past) (es : List Entry) → Made u es q → AttachedOnlySince (Spared state) u q → Each (LeavesFile state) es → IsOldSafe u → IsOldSafe q
  old_walk u q es m only a h g e = safe_walk (Spared state) state g ((world p).files g).bytes u q es (λ y s. s.0) m only a (h g e)

  named_first : Lasts (λ n. n state ≡ old) p
  named_first n undone l =
      let none = none_listed (world p).pending state settled.durable in
      none_left (world p).durable (world p).pending state none n undone l ∙ sym (none_left (world p).durable (world p).pending state none (names (world p)) [] (leaves_now (world p)))

  abbrev as_before : (u v : Past) → IsView u v → IsOldSafe u → names (world v) state ≡ old → IsAsBefore state p v
  as_before u v view safe is = record { named = is; same = λ g e. view.bytes state g ((world p).files g).bytes (safe g e) }

  -- while the state was left alone
  abbrev alone_named : (q : Past) (ts : List Entry) → Made p (reverse ts) q → AttachedOnlySince (Spared state) p q → Each (LeavesAlone state) ts → Lasts (λ n. n state ≡ old) q
  alone_named q ts m only a = named_walk (Spared state) state old p q (reverse ts) (λ y s. s.0) m only (each_reverse (λ e. IsIn state (renamed_paths e) → ⊥) ts (each_as (LeavesAlone state) (λ e. IsIn state (renamed_paths e) → ⊥) ts (aside_named state) a)) named_first

  abbrev alone_safe : (q : Past) (ts : List Entry) → Made p (reverse ts) q → AttachedOnlySince (Spared state) p q → Each (LeavesAlone state) ts → IsOldSafe q
  alone_safe q ts m only a = old_walk p q (reverse ts) m only (each_reverse (LeavesFile state) ts (each_as (LeavesAlone state) (LeavesFile state) ts (aside_leaves state) a)) old_first

  -- ---- the rename

  module _ (r : Past) (text : List ℕ) (f : IsFilled state text r) (fits : Fits (world r) (entry.Renames part state)) where
    abbrev turned : Past
    turned = r ▸ entry.Renames part state

    -- the state names what it named, or the new file, and then all changes are applied
    abbrev EitherNamed : Names → Type 0
    EitherNamed n = (n state ≡ old) ⊎ ((n state ≡ thing.File f.file) × AreApplied p turned n)

    -- the new file has the state's path now
    new_safe : IsSafeFile state f.file text turned
    new_safe = (renamed_own state text r f).1

    -- the change of this rename, kept by a cut
    applied_all : ((x : Path) (t : Thing) (d : ℕ) → LeftAs p x t d r → x ≢ part → Lasts (λ n. StandsAs d t (n x)) r) → (m : Names) (undone : List Change) → Leaves r m undone → AgreeOn (Moves part state) m (names (world r)) → AreApplied p turned (changed (Moves part state) m)
    applied_all stand m undone leaves ag x t d l = go (left_last p x t d turned r (entry.Renames part state) l refl)
      where
        touched : IsIn x (renamed_paths (entry.Renames part state)) → Touches (Moves part state) x
        touched (inl e) = inl e
        touched (inr (inl e)) = inr e
        touched (inr (inr e)) = absurd e

        go : LeftLast p x t d r (entry.Renames part state) → StandsAs d t (changed (Moves part state) m x)
        go (now_left n is drawn) = inl (alike (Moves part state) m (names (world r)) ag x (touched n) ∙ is)
        go (left_before k n) = subst (λ (u : Thing). StandsAs d t u) (sym (untouched (Moves part state) m x (λ touch. n (⊎_elim (λ e. inl e) (λ e. inr (inl e)) touch)))) (stand x t d k (λ e. n (inl (sym e))) m undone leaves)

    -- the old name, with the way in which a cut leaves it
    abbrev Held : Names → Type 0
    Held n = ((undone : List Change) × Leaves r n undone) × (n state ≡ old)

    turned_named : ((x : Path) (t : Thing) (d : ℕ) → LeftAs p x t d r → x ≢ part → Lasts (λ n. StandsAs d t (n x)) r) → Lasts (λ n. n state ≡ old) r → Lasts EitherNamed turned
    turned_named stand is = lasts_on Held EitherNamed r (entry.Renames part state) fits (λ n h. inl h.1) own (λ n undone l. ((undone, l), is n undone l))
      where
        move : (c : Change) → step (world r) (entry.Renames part state) ≡ Adds c → Moves part state ≡ c
        move c s = cc

        own : (c : Change) (m : Names) → step (world r) (entry.Renames part state) ≡ Adds c → AgreeOn c m (names (world r)) → Held m → EitherNamed (changed c m)
        own c m s ag h = subst (λ (b : Change). EitherNamed (changed b m)) (move c s) (inr (there, applied_all stand m h.0.0 h.0.1 agree))
          where
            agree : AgreeOn (Moves part state) m (names (world r))
            agree = subst (λ (b : Change). AgreeOn b m (names (world r))) (sym (move c s)) ag

            there : changed (Moves part state) m state ≡ thing.File f.file
            there = put_here (put m part thing.Nothing) state state (m part) refl ∙ (agree.0 ∙ f.own.named)

    -- a file that a writer makes elsewhere
    allows_new : (es : List Entry) → Made p es turned → AllowsNew (Spared state) (world turned).drawn EitherNamed
    allows_new es made m x g spared none le (inl is) = inl (put_other m x state (thing.File g) (λ e. spared.0 (sym e)) ∙ is)
    allows_new es made m x g spared none le (inr (is, applied)) = inr (put_other m x state (thing.File g) (λ e. spared.0 (sym e)) ∙ is, λ y t d l. stands_made d g t m x y none (let drawn = left_drawn p turned es y t d made l in omega (arith, drawn, le)) (applied y t d l))

    -- behind the rename, and entries that change nothing
    behind : (IsText : List ℕ → Type 0) (u v : Past) (after : List Entry) → IsText text → (ts : List Entry) → Made p (reverse ts) r → ((x : Path) (t : Thing) (d : ℕ) → LeftAs p x t d r → x ≢ part → Lasts (λ n. StandsAs d t (n x)) r) → Lasts (λ n. n state ≡ old) r → IsOldSafe r
        → Made turned (reverse after) u → AttachedOnlySince (Spared state) turned u → Each (λ e. is_disk_change e ≡ false) after → IsView u v → IsOldOrNew state IsText p u v
    behind IsText u v after is ts first stand named safe second only calm view = ⊎_elim (λ same. inl (as_before u v view old_safe same))
        (λ new. inr (record {
          turning = r;
          since = made_prefix p r (reverse ts) first;
          until = made_prefix turned u (reverse after) second;
          file = f.file;
          named = new.0;
          text = subst IsText (sym (view.bytes state f.file text safe_new)) is;
          applied = new.1;
        }))
        (either (names (world v)) view.undone view.leaves)
      where
        leaves : Each (LeavesFile state) (reverse after)
        leaves = each_reverse (LeavesFile state) after (each_as (λ e. is_disk_change e ≡ false) (LeavesFile state) after (λ e c. (calm_entry state e c).0) calm)

        old_safe : IsOldSafe u
        old_safe g e = safe_walk (Spared state) state g ((world p).files g).bytes turned u (reverse after) (λ y s. s.0) second only leaves
            (tool_guards r state g ((world p).files g).bytes (safe g e).0 (entry.Renames part state) tt (part_apart state), tool_synced r state g ((world p).files g).bytes (safe g e).0 (safe g e).1 (entry.Renames part state) tt (part_apart state))

        safe_new : IsSafeFile state f.file text u
        safe_new = safe_walk (Spared state) state f.file text turned u (reverse after) (λ y s. s.0) second only leaves new_safe

        either : Lasts EitherNamed u
        either = calm_walk (Spared state) (world turned).drawn EitherNamed turned u (reverse after) (allows_new (entry.Renames part state ∷ reverse ts) (by_tool first tt fits)) second only (each_reverse NamesNone after (each_as (λ e. is_disk_change e ≡ false) NamesNone after (λ e c. (calm_entry state e c).1) calm)) (omega arith) (turned_named stand named)

  -- ---- what the tool left

  part_entry : (e : Entry) → changed_paths e ≡ part ∷ [] → LeavesAlone state e
  part_entry e same i = ⊎_elim (λ is. part_apart state is) (λ none. none) (in_part (subst (λ (xs : List Path). IsIn state xs) same i))
    where
      in_part : IsIn state (part ∷ []) → (part ≡ state) ⊎ ⊥
      in_part i = i

  filling_aside : (mode : Option ℕ) (pieces : List (List ℕ)) (dirs : List Path) → Each (LeavesAlone state) (filling part mode pieces dirs)
  filling_aside mode pieces dirs = (
    part_entry (entry.Makes part mode) refl,
    each_append (LeavesAlone state) (map (entry.Appends part) pieces) (entry.SyncsFile part ∷ map entry.SyncsDir dirs)
        (each_map (LeavesAlone state) (entry.Appends part) pieces (λ piece. part_entry (entry.Appends part piece) refl)) ((λ i. i), each_map (LeavesAlone state) entry.SyncsDir dirs (λ d i. i)),
  )

  firsts_aside : (ts : List Entry) (dirs : List Path) (text : List ℕ) → (r : Renews state dirs text ts) → Each (LeavesAlone state) (r.front ++ filling part r.mode r.pieces dirs)
  firsts_aside ts dirs text r = each_append (LeavesAlone state) r.front (filling part r.mode r.pieces dirs) r.aside (filling_aside r.mode r.pieces dirs)

  first_may : (IsText : List ℕ → Type 0) (ts us : List Entry) → MayRenew state IsText (ts ++ us) → MayRenew state IsText ts
  first_may IsText ts us (left_alone a) = left_alone (each_first (LeavesAlone state) ts us a)
  first_may IsText ts us (renewed dirs text is r) = go (first_part firsts (entry.Renames part state) r.after ts us (sym (in_two state dirs text (ts ++ us) r)))
    where
      firsts : List Entry
      firsts = r.front ++ filling part r.mode r.pieces dirs

      go : FirstPart firsts (entry.Renames part state) r.after ts us → MayRenew state IsText ts
      go (ends_before rest e) = left_alone (each_first (LeavesAlone state) ts rest (subst (Each (LeavesAlone state)) e (firsts_aside (ts ++ us) dirs text r)))
      go (has_it more e g) = renewed dirs text is (record {
        front = r.front;
        mode = r.mode;
        pieces = r.pieces;
        after = more;
        ts_are = e ∙ (append_assoc r.front (filling part r.mode r.pieces dirs) (entry.Renames part state ∷ more) ∙ ap (λ es. r.front ++ (entry.Makes part r.mode ∷ es)) (append_assoc (map (entry.Appends part) r.pieces) (entry.SyncsFile part ∷ map entry.SyncsDir dirs) (entry.Renames part state ∷ more)));
        aside = r.aside;
        within = r.within;
        text_is = r.text_is;
        nothing_more = each_first (λ e. is_disk_change e ≡ false) more us (subst (Each (λ e. is_disk_change e ≡ false)) g r.nothing_more);
      })

  of_view : (IsText : List ℕ → Type 0) (u v : Past) (ts : List Entry) → Made p (reverse ts) u → AttachedOnlySince (Spared state) p u → MayRenew state IsText ts → IsView u v → IsOldOrNew state IsText p u v
  of_view IsText u v ts m only (left_alone a) view = inl (as_before u v view (alone_safe u ts m only a) (alone_named u ts m only a (names (world v)) view.undone view.leaves))
  of_view IsText u v ts m only (renewed dirs text is r) view =
      let firsts = r.front ++ filling part r.mode r.pieces dirs in
      let a = at (Spared state) p u firsts (entry.Renames part state) r.after tt (subst (λ (es : List Entry). Made p (reverse es) u) (in_two state dirs text ts r) m) only in
      let aside = firsts_aside ts dirs text r in
      let f = subst (λ (bs : List ℕ). IsFilled state bs a.mid) r.text_is (filled state (Spared state) (λ y s. s.1) r.front r.mode r.pieces dirs p a.mid j a.first a.only_first) in
      behind a.mid text f a.fits IsText u v r.after is firsts a.first (all_stand (Spared state) part dirs r.front r.mode r.pieces p a.mid a.first a.only_first r.within)
      (alone_named a.mid firsts a.first a.only_first aside) (alone_safe a.mid firsts a.first a.only_first aside) a.second a.only_second r.nothing_more view

  at_end : (IsText : List ℕ → Type 0) (u : Past) (ts : List Entry) → Made p (reverse ts) u → AttachedOnlySince (Spared state) p u → MayRenew state IsText ts → IsWholeAt state IsText p u
  at_end IsText u ts m only may = record { now = of_view IsText u u ts m only may (view_now u); cut = λ c i f. of_view IsText u (u ▸ c) ts m only may (view_cut u c i f) }

pub whole_at : (state : Path) (IsText : List ℕ → Type 0) (p q : Past) (es : List Entry) → Made p es q → IsJournal p → MayRenew state IsText (reverse es) → IsSettled state p → WritersSpareState state p q → (u : Past) → IsPrefix p u → IsPrefix u q → IsWholeAt state IsText p u
whole_at state IsText p q es m j may settled spare u since until = go (on_way p u q es m since until)
  where
    go : IsOnWay p u q es → IsWholeAt state IsText p u
    go w = at_end state p j settled spare.held IsText u (reverse w.old) (subst (λ (xs : List Entry). Made p xs u) (sym (reverse-reverse w.old)) w.before) (since_before (Spared state) p u q w.old w.new w.before w.behind spare.attached)
        (first_may state p j settled spare.held IsText (reverse w.old) (reverse w.new) (subst (MayRenew state IsText) (ap reverse w.es_are ∙ reverse-append w.new w.old) may))
