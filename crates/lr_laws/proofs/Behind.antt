-- Behind a writing that was made whole the state is settled.
use Rattle.std.proofs.Common.{◌≡◌, ◌≢◌, ◌≤◌, ℕ, Bool, true, false, cond, refl, sym, ◌∙◌, subst, List, [], ◌∷◌, ◌++◌, length, reverse, append_assoc}
use Rattle.std.specs.List.{list_any}
use Rattle.std.proofs.lemmas.Bool.{or_from}
use Rattle.std.proofs.lemmas.List.{reverse-reverse}
use Rattle.lr_rules.specs.declared.path.Path.{Path}
use Rattle.lr_rules.specs.Path.{parent_of}
use Rattle.lr_rules.specs.StatePath.{state_part}
use Rattle.lr_host.specs.declared.thing.Thing.{Thing}
use Rattle.lr_host.specs.declared.thing.Thing.TheVariants as thing
use Rattle.lr_host.specs.declared.entry.Entry.{Entry}
use Rattle.lr_host.specs.declared.entry.Entry.TheVariants as entry
use Rattle.lr_host.specs.Opening.{IsJournal}
use Rattle.lr_host.specs.Quiet.{is_disk_change, AttachedOnlySince}
use Rattle.lr_host.specs.Steady.{AttachesOnly}
use Rattle.lr_host.specs.Told.{Each, IsTools, IsWriters, Made, at_first, by_writer, by_tool}
use Rattle.lr_host.specs.World.{Past, ◌▸◌, World, world, names, Change, making, pending_after, in_list, paths_in, is_listed, undone_at, settled}
use Rattle.lr_host.proofs.Closed.{NoneTouches}
use Rattle.lr_host.proofs.Each.{each_as, each_reverse, each_last}
use Rattle.lr_host.proofs.Looked.{same_file}
use Rattle.lr_host.proofs.Quiet.{before_last}
use Rattle.lr_laws.specs.Renewing.{Renews, IsWritten, HasText}
use Rattle.lr_laws.specs.StateWhole.{renamed_paths, IsSettled, WritersSpareState}
use Rattle.lr_laws.proofs.Files.{LeavesFile}
use Rattle.lr_laws.proofs.Lists.{At, at}
use Rattle.lr_laws.proofs.Parts.{IsOwn, own_walk}
use Rattle.lr_laws.proofs.Renewed.{IsFilled, filling, filled, Spared, renamed_own, in_two}
use Rattle.lr_laws.proofs.Syncs.{none_undone, is_parent}
use Rattle.lr_laws.proofs.Walks.{IsSafeFile, NamesNone, calm_entry, far_attached, safe_walk}
use Rattle.lr_laws.proofs.ClosedLaws.{listed_in}

-- ---- no pending change has the path

-- by the test that contracts use
none_false : (cs : List Change) (x : Path) → NoneTouches cs x → list_any (λ c. in_list (paths_in c) x) cs ≡ false
none_false [] x none = refl
none_false (c ∷ cs) x none = or_from (in_list (paths_in c) x) (list_any (λ c. in_list (paths_in c) x) cs) (go (in_list (paths_in c) x) refl) (none_false cs x none.1)
  where
    go : (b : Bool) → in_list (paths_in c) x ≡ b → b ≡ false
    go true e = absurd (none.0 (listed_in c x e))
    go false e = refl

none_undone_too : (places : List ℕ) (cs : List Change) (x : Path) → NoneTouches cs x → NoneTouches (undone_at places cs) x
none_undone_too places [] x none = tt
none_undone_too places (c ∷ cs) x none = go (is_listed places (length cs)) (none_undone_too places cs x none.1)
  where
    go : (b : Bool) → NoneTouches (undone_at places cs) x → NoneTouches (cond b (undone_at places cs) (c ∷ undone_at places cs)) x
    go true rest = rest
    go false rest = (none.0, rest)

making_none : (w : World) (t : Thing) (y x : Path) → (y ≡ x → ⊥) → NoneTouches w.pending x → NoneTouches (pending_after w (making t y w.drawn)) x
making_none w thing.Nothing y x far none = (far, none)
making_none w (thing.File f) y x far none = none
making_none w thing.Directory y x far none = none
making_none w thing.Other y x far none = none

writer_none : (q : Past) (e : Entry) (x : Path) → IsWriters e → AttachesOnly (λ y. y ≢ x) e → NoneTouches (world q).pending x → NoneTouches (world (q ▸ e)).pending x
writer_none q (entry.Attach v y at) x i far none = making_none (world q) (names (world q) y) y x far none
writer_none q (entry.Feed v bytes at) x i far none = none
writer_none q (entry.Flush v) x i far none = none
writer_none q (entry.Detach v) x i far none = none
writer_none q _ x i far none = absurd i

calm_none : (q : Past) (e : Entry) (x : Path) → IsTools e → renamed_paths e ≡ [] → NoneTouches (world q).pending x → NoneTouches (world (q ▸ e)).pending x
calm_none q (entry.Renames from to) x i h none = absurd (cc)
calm_none q (entry.Makes y mode) x i h none = absurd (cc)
calm_none q (entry.Unlinks y) x i h none = absurd (cc)
calm_none q (entry.MakesDir y mode) x i h none = absurd (cc)
calm_none q (entry.Attach v y at) x i h none = absurd i
calm_none q (entry.Cut kept lengths) x i h none = absurd i
calm_none q (entry.SyncsDir y) x i h none = none_undone_too (settled y [] (world q).pending) (world q).pending x none
calm_none q _ x i h none = none

none_walk : (P : Path → Type 0) (x : Path) (p q : Past) (es : List Entry) → ((y : Path) → P y → y ≢ x) → Made p es q → AttachedOnlySince P p q → Each NamesNone es → NoneTouches (world p).pending x → NoneTouches (world q).pending x
none_walk P x p _ _ far at_first only a none = none
none_walk P x p _ es far (by_writer {q = q} {e = e} m i f) only a none = let b = before_last P p q e es m only in writer_none q e x i (far_attached P x e far b.1) (none_walk P x p q es far m b.0 a none)
none_walk P x p _ _ far (by_tool {es = es} {q = q} {e = e} m i f) only a none = let b = before_last P p q e es m only in calm_none q e x i a.0 (none_walk P x p q es far m b.0 a.1 none)

-- ---- the writing

module _ (state : Path) (dirs : List Path) (text : List ℕ) (p q : Past) (ts : List Entry) (m : Made p (reverse ts) q) (j : IsJournal p) (r : Renews state dirs text ts) (only : AttachedOnlySince (Spared state) p q) where
  abbrev part : Path
  part = state_part state

  abbrev firsts : List Entry
  firsts = r.front ++ filling part r.mode r.pieces dirs

  calm : Each (λ e. LeavesFile state e × NamesNone e) r.after
  calm = each_as (λ e. is_disk_change e ≡ false) (λ e. LeavesFile state e × NamesNone e) r.after (calm_entry state) r.nothing_more

  -- the moment at which the part file gets the state's path
  abbrev Turn : Type 0
  Turn = At (Spared state) p q firsts (entry.Renames part state) r.after

  turn : Turn
  turn = at (Spared state) p q firsts (entry.Renames part state) r.after tt (subst (λ (es : List Entry). Made p (reverse es) q) (in_two state dirs text ts r) m) only

  filled_at : (t : Turn) → IsFilled state text t.mid
  filled_at t = subst (λ (bs : List ℕ). IsFilled state bs t.mid) r.text_is (filled state (Spared state) (λ y s. s.1) r.front r.mode r.pieces dirs p t.mid j t.first t.only_first)

  -- the state's path names that file, to the end
  own_at : (t : Turn) → (f : IsFilled state text t.mid) → IsOwn state f.file text q
  own_at t f = own_walk (Spared state) state f.file (λ y s. s.0) text (t.mid ▸ entry.Renames part state) q (reverse r.after) t.second t.only_second (each_reverse (λ e. LeavesFile state e × NamesNone e) r.after calm) (renamed_own state text t.mid f).0

  has_text_at : (t : Turn) → HasText state text q
  has_text_at t = let f = filled_at t in let own = own_at t f in record { file = f.file; named = own.named; bytes = own.guarded.has }

  has_text : HasText state text q
  has_text = has_text_at turn

  -- it is settled, where the state's directory was synced behind that
  settled_at : (earlier later : List Entry) → r.after ≡ earlier ++ (entry.SyncsDir (parent_of state) ∷ later) → (t : Turn) → (f : IsFilled state text t.mid) → IsSettled state q
  settled_at earlier later after_is t f = record { synced = synced; durable = none_false (world q).pending state none }
    where
      own : IsOwn state f.file text q
      own = own_at t f

      safe : IsSafeFile state f.file text q
      safe = safe_walk (Spared state) state f.file text (t.mid ▸ entry.Renames part state) q (reverse r.after) (λ y s. s.0) t.second t.only_second (each_reverse (LeavesFile state) r.after (each_as (λ e. LeavesFile state e × NamesNone e) (LeavesFile state) r.after (λ e c. c.0) calm)) (renamed_own state text t.mid f).1

      synced : (g : ℕ) → names (world q) state ≡ thing.File g → length ((world q).files g).bytes ≤ ((world q).files g).synced
      synced g e = subst (λ (h : ℕ). length ((world q).files h).bytes ≤ ((world q).files h).synced) (same_file (names (world q) state) f.file g own.named e) (subst (λ (bs : List ℕ). length bs ≤ ((world q).files f.file).synced) (sym safe.0.has) safe.1)

      after : At (Spared state) (t.mid ▸ entry.Renames part state) q earlier (entry.SyncsDir (parent_of state)) later
      after = at (Spared state) (t.mid ▸ entry.Renames part state) q earlier (entry.SyncsDir (parent_of state)) later tt (subst (λ (es : List Entry). Made (t.mid ▸ entry.Renames part state) (reverse es) q) after_is t.second) t.only_second

      behind : (s : At (Spared state) (t.mid ▸ entry.Renames part state) q earlier (entry.SyncsDir (parent_of state)) later) → NoneTouches (world q).pending state
      behind s = none_walk (Spared state) state (s.mid ▸ entry.SyncsDir (parent_of state)) q (reverse later) (λ y h. h.0) s.second s.only_second
          (each_reverse NamesNone later (each_last NamesNone (earlier ++ entry.SyncsDir (parent_of state) ∷ []) later (subst (Each NamesNone) (after_is ∙ sym (append_assoc earlier (entry.SyncsDir (parent_of state) ∷ []) later)) (each_as (λ e. LeavesFile state e × NamesNone e) NamesNone r.after (λ e c. c.1) calm))))
          (none_undone (parent_of state) (world s.mid).pending state (is_parent (parent_of state) state refl))

      none : NoneTouches (world q).pending state
      none = behind after

in_order : (p q : Past) (es : List Entry) → Made p es q → Made p (reverse (reverse es)) q
in_order p q es m = subst (λ (xs : List Entry). Made p xs q) (sym (reverse-reverse es)) m

pub renewed_text : (state : Path) (dirs : List Path) (text : List ℕ) (p q : Past) (es : List Entry) → Made p es q → IsJournal p → Renews state dirs text (reverse es) → AttachedOnlySince (Spared state) p q → HasText state text q
renewed_text state dirs text p q es m j r only = has_text state dirs text p q (reverse es) (in_order p q es m) j r only

pub written_settled : (state : Path) (dirs : List Path) (text : List ℕ) (p q : Past) (es : List Entry) → Made p es q → IsJournal p → IsWritten state dirs text (reverse es) → WritersSpareState state p q → IsSettled state q
written_settled state dirs text p q es m j w spare = go (in_order p q es m)
  where
    go : Made p (reverse (reverse es)) q → IsSettled state q
    go m =
        let t = turn state dirs text p q (reverse es) m j w.renews spare.attached in
        settled_at state dirs text p q (reverse es) m j w.renews spare.attached w.earlier w.later w.after_is t (filled_at state dirs text p q (reverse es) m j w.renews spare.attached t)
