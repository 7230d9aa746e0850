-- Entries that give no member a file: no later member comes by them, and members keep their room.
use Rattle.std.proofs.Common.{◌≡◌, ◌⊎◌, inl, inr, ℕ, ◌<◌, ◌≤◌, ◌+◌, false, refl, sym, ◌∙◌, ap, arith, Option, Some, None, List, [], ◌∷◌, length, ℤ}
use Rattle.lr_rules.specs.declared.path.Path.{Path}
use Rattle.lr_rules.proofs.Options.{some_none}
use Rattle.lr_host.specs.declared.entry.Entry.{Entry}
use Rattle.lr_host.specs.declared.entry.Entry.TheVariants.{Attach, Feed, Flush, Detach, Renames, Makes, MakesDir, Appends, Truncates, Unlinks}
use Rattle.lr_host.specs.declared.entry.Entry.TheVariants as entry
use Rattle.lr_host.specs.declared.thing.Thing.{Thing}
use Rattle.lr_host.specs.declared.thing.Thing.TheVariants as thing
use Rattle.lr_host.specs.World.{World, Names, names, making, Past, ◌▸◌, world, Change, Puts, Moves, Drops, NameStep, Stays, Adds, Settles, Keeps, step}
use Rattle.lr_host.specs.Forward.{IsForward}
use Rattle.lr_host.specs.Kept.{Leaves}
use Rattle.lr_host.specs.Later.{IsGeneration}
use Rattle.lr_host.specs.Quiet.{ChangesNothing}
use Rattle.lr_host.specs.Safe.{IsToLog}
use Rattle.lr_host.specs.Sets.{LogSet, in_reach, AreLaterMembers}
use Rattle.lr_host.specs.Steady.{AttachesNoMember}
use Rattle.lr_host.specs.Told.{IsWriters}
use Rattle.lr_laws.specs.Room.{later_once_begun, HasRoomForOne}
use Rattle.lr_laws.specs.Rotation.{IsAside}
use Rattle.lr_laws.proofs.Disk.{KeepsClosed, Came, made, moved, stayed, came, LeftBy, as_it_was, taken_back, kept_too, by_cut, left_by}
use Rattle.lr_laws.proofs.Entries.{split}
use Rattle.lr_laws.proofs.Moves.{keyless}
use Rattle.lr_laws.proofs.Rising.{IsStarts, next_grows}
use Rattle.lr_laws.proofs.Sound.{IsSound}
use Rattle.lr_laws.proofs.Writing.{member_apart}

-- the change gives no member a file
pub record GivesNone (s : LogSet) (c : Change) : Type 0 where
  pub made : (y : Path) (g : ℕ) → c ≡ Puts y (thing.File g) → s.key y ≡ None
  pub moved : (x y : Path) → c ≡ Moves x y → s.key y ≡ None

-- a step by which no member gets a file, and which is no cut
pub record IsTame (s : LogSet) (st : NameStep) : Type 0 where
  pub adds : (c : Change) → st ≡ Adds c → GivesNone s c
  pub keeps : (kept : List ℕ) → st ≡ Keeps kept → ⊥

module _ (s : LogSet) (p : Past) (e : Entry) (cl : KeepsClosed (world p) e) (tame : IsTame s (step (world p) e)) where
  -- a member that names a file behind the change named it before
  before : (c : Change) (m : Names) → step (world p) e ≡ Adds c → (y : Path) (k : ℤ) (g : ℕ) → s.key y ≡ Some k → Came c m y g → m y ≡ thing.File g
  before c m st y k g is (made i) = absurd (some_none (s.key y) k is ((tame.adds c st).made y g i))
  before c m st y k g is (moved z i q) = absurd (some_none (s.key y) k is ((tame.adds c st).moved z y i))
  before c m st y k g is (stayed q l) = q

  -- What a cut may leave behind the entry gives no member a file that it hasn't under names which a cut might have left before.
  pub record HadBefore (n : Names) : Type 0 where
    pub names : Names
    pub undone : List Change
    pub left : Leaves p names undone
    pub had : (y : Path) (k : ℤ) (g : ℕ) → s.key y ≡ Some k → n y ≡ thing.File g → names y ≡ thing.File g

  pub had_before : (n : Names) (undone : List Change) → Leaves (p ▸ e) n undone → HadBefore n
  had_before n undone lv = go (left_by (world p) e n undone cl lv)
    where
      go : LeftBy (world p) (step (world p) e) n undone → HadBefore n
      go (as_it_was same may) = record { names = n; undone = undone; left = may; had = λ y k g is f. f }
      go (taken_back c older st un may) = record { names = n; undone = older; left = may; had = λ y k g is f. f }
      go (kept_too c m st same may agree) = record { names = m; undone = undone; left = may; had = λ y k g is f. before c m st y k g is (came c m y g (ap (λ (v : Names). v y) (sym same) ∙ f)) }
      go (by_cut kept older st un same may) = absurd (tame.keeps kept st)

  pub forward_on : (newest : ℤ) → IsForward s p newest → IsForward s (p ▸ e) newest
  forward_on newest forward n undone lv y t is f = let b : HadBefore n = had_before n undone lv in forward b.names b.undone b.left y t is (f.0, b.had y t f.0 is f.1)

  later_before : (n : Names) (t : ℤ) (ys : List Path) → AreLaterMembers s.key n t ys → (b : HadBefore n) → AreLaterMembers s.key b.names t ys
  later_before n t [] a b = tt
  later_before n t (y ∷ ys) a b = (((a.0.0.0, b.had y a.0.1.0 a.0.0.0 a.0.1.1 a.0.0.1), a.0.1), later_before n t ys a.1 b)

  pub room_on : IsSound s p → (IsToLog s e → ⊥) → (IsStarts e → ⊥) → HasRoomForOne s p → HasRoomForOne s (p ▸ e)
  room_on h nl ns room n undone lv g x t gen' is key ys d a = go (split s p e cl h nl g gen')
    where
      b : HadBefore n
      b = had_before n undone lv

      was : b.names x ≡ thing.File g
      was = b.had x t g key is

      go : IsGeneration s p g ⊎ ((step (world p) e ≡ Adds (Puts s.log (thing.File g))) × (g ≡ (world p).drawn)) → length ys + 1 ≤ later_once_begun s (p ▸ e) g
      go (inl gen) =
          let i : length ys + 1 ≤ later_once_begun s p g = room b.names b.undone b.left g x t gen was key ys d (later_before n t ys a b) in
          let j : later_once_begun s p g ≤ later_once_begun s (p ▸ e) g = next_grows s p e cl h nl b.names b.undone b.left g x gen was (member_apart s x t key) ns in
          omega arith
      go (inr (q, drawn)) = let below : g < (world p).drawn = h.fresh b.names b.undone b.left x g was in absurd (omega arith)

tame_stays : (s : LogSet) → IsTame s Stays
tame_stays s = record { adds = λ c e. absurd (cc); keeps = λ k e. cc }

tame_settles : (s : LogSet) (dir : Path) → IsTame s (Settles dir)
tame_settles s dir = record { adds = λ c e. absurd (cc); keeps = λ k e. cc }

pub tame_puts : (s : LogSet) (x : Path) (t : Thing) → ((g : ℕ) → t ≡ thing.File g → s.key x ≡ None) → IsTame s (Adds (Puts x t))
tame_puts s x t h = record { adds = λ c e. let same : Puts x t ≡ c = cc in record { made = λ y g i. by y g (same ∙ i); moved = λ u y i. absurd (let j : Puts x t ≡ Moves u y = same ∙ i in cc) }; keeps = λ k e. cc }
  where
    by : (y : Path) (g : ℕ) → Puts x t ≡ Puts y (thing.File g) → s.key y ≡ None
    by y g i = let one : x ≡ y = cc in let two : t ≡ thing.File g = cc in ap s.key (sym one) ∙ h g two

pub tame_moves : (s : LogSet) (from to : Path) → s.key to ≡ None → IsTame s (Adds (Moves from to))
tame_moves s from to h = record { adds = λ c e. let same : Moves from to ≡ c = cc in record { made = λ y g i. absurd (let j : Moves from to ≡ Puts y (thing.File g) = same ∙ i in cc); moved = λ u y i. by u y (same ∙ i) }; keeps = λ k e. cc }
  where
    by : (u y : Path) → Moves from to ≡ Moves u y → s.key y ≡ None
    by u y i = let one : to ≡ y = cc in ap s.key (sym one) ∙ h

pub tame_drops : (s : LogSet) (x : Path) → IsTame s (Adds (Drops x))
tame_drops s x = record { adds = λ c e. let same : Drops x ≡ c = cc in record { made = λ y g i. absurd (let j : Drops x ≡ Puts y (thing.File g) = same ∙ i in cc); moved = λ u y i. absurd (let j : Drops x ≡ Moves u y = same ∙ i in cc) }; keeps = λ k e. cc }

-- a path that the set doesn't reach has no key
out_key : (s : LogSet) (x : Path) → in_reach s x ≡ false → s.key x ≡ None
out_key s x out = go (s.key x) (λ u. keyless s x u out)
  where
    go : (o : Option ℤ) → ((u : ℤ) → o ≡ Some u → ⊥) → o ≡ None
    go None h = refl
    go (Some u) h = absurd (h u refl)

pub tame_aside : (s : LogSet) (w : World) (e : Entry) → IsAside s e → IsTame s (step w e)
tame_aside s w (Renames from to) out = tame_moves s from to (out_key s to out.1)
tame_aside s w (Makes x mode) out = tame_puts s x (thing.File w.drawn) (λ g i. out_key s x out)
tame_aside s w (MakesDir x mode) out = tame_puts s x thing.Directory (λ g i. absurd (cc))
tame_aside s w (Unlinks x) out = tame_drops s x
tame_aside s w (Appends x bytes) out = tame_stays s
tame_aside s w (Truncates x) out = tame_stays s
tame_aside s w entry.Ends out = tame_stays s
tame_aside s w (entry.Look x seen) out = tame_stays s
tame_aside s w (entry.List dir listed) out = tame_stays s
tame_aside s w (entry.Reads x from piece) out = tame_stays s
tame_aside s w (entry.Runs program args input ended) out = tame_stays s
tame_aside s w (entry.SyncsFile x) out = tame_stays s
tame_aside s w (entry.SyncsDir x) out = tame_settles s x
tame_aside s w _ out = absurd out

pub tame_writer : (s : LogSet) (w : World) (e : Entry) → IsWriters e → AttachesNoMember s e → IsTame s (step w e)
tame_writer s w (Attach v x at) i a = go (names w x)
  where
    go : (t : Thing) → IsTame s (making t x w.drawn)
    go thing.Nothing = tame_puts s x (thing.File w.drawn) (λ g j. a)
    go (thing.File g) = tame_stays s
    go thing.Directory = tame_stays s
    go thing.Other = tame_stays s
tame_writer s w (Feed v bytes at) i a = tame_stays s
tame_writer s w (Flush v) i a = tame_stays s
tame_writer s w (Detach v) i a = tame_stays s
tame_writer s w _ i a = absurd i

-- ---- stated

closed_aside : (s : LogSet) (w : World) (e : Entry) → IsAside s e → KeepsClosed w e
closed_aside s w (entry.Cut kept lengths) out = absurd out
closed_aside s w _ out = tt

pub closed_writer : (w : World) (e : Entry) → IsWriters e → KeepsClosed w e
closed_writer w (entry.Cut kept lengths) i = absurd i
closed_writer w _ i = tt

pub closed_quiet : (w : World) (e : Entry) → ChangesNothing e → KeepsClosed w e
closed_quiet w (entry.Cut kept lengths) i = absurd i.0
closed_quiet w _ i = tt

pub tame_quiet : (s : LogSet) (w : World) (e : Entry) → ChangesNothing e → IsTame s (step w e)
tame_quiet s w (Attach v x at) i = absurd i.0
tame_quiet s w (Renames from to) i = absurd (cc i.1)
tame_quiet s w (Makes x mode) i = absurd (cc i.1)
tame_quiet s w (MakesDir x mode) i = absurd (cc i.1)
tame_quiet s w (Unlinks x) i = absurd (cc i.1)
tame_quiet s w (entry.Cut kept lengths) i = absurd i.0
tame_quiet s w (entry.SyncsDir x) i = tame_settles s x
tame_quiet s w _ i = tame_stays s

pub forward_writer : (s : LogSet) (p : Past) (e : Entry) (newest : ℤ) → IsWriters e → AttachesNoMember s e → IsForward s p newest → IsForward s (p ▸ e) newest
forward_writer s p e newest i a forward = forward_on s p e (closed_writer (world p) e i) (tame_writer s (world p) e i a) newest forward

pub forward_quiet : (s : LogSet) (p : Past) (e : Entry) (newest : ℤ) → ChangesNothing e → IsForward s p newest → IsForward s (p ▸ e) newest
forward_quiet s p e newest i forward = forward_on s p e (closed_quiet (world p) e i) (tame_quiet s (world p) e i) newest forward

pub forward_aside : (s : LogSet) (p : Past) (e : Entry) (newest : ℤ) → IsAside s e → IsForward s p newest → IsForward s (p ▸ e) newest
forward_aside s p e newest out forward = forward_on s p e (closed_aside s (world p) e out) (tame_aside s (world p) e out) newest forward
