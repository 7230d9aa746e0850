-- A file that the pending changes spare has one name after each closed set.
use Rattle.std.proofs.Common.{◌≡◌, ◌⊎◌, inl, inr, ℕ, Bool, true, false, cond, refl, sym, ◌∙◌, ap, subst, List, [], ◌∷◌, length}
use Rattle.lr_rules.specs.declared.path.Path.{Path}
use Rattle.lr_host.specs.declared.thing.Thing.TheVariants as thing
use Rattle.lr_host.specs.World.{Names, put, names_after, Change, Puts, Moves, Drops, changed, IsClosed, is_listed, kept_at, undone_at, names_kept, Past, world, but}
use Rattle.lr_host.specs.Opening.{IsJournal}
use Rattle.lr_host.proofs.Names.{put_here}
use Rattle.lr_host.proofs.Closed.{Touches, touches_or_not, untouched, kept_names, apart_none, IsApart}
use Rattle.lr_host.proofs.Places.{splits}
use Rattle.lr_laws.specs.ClosedSets.{HadName, ChangeSpares, AllSpare}
use Rattle.lr_laws.proofs.Disk.{Came, made, moved, stayed, came}
use Rattle.lr_laws.proofs.Single.{single}

had_now : (d : Names) (cs : List Change) (g : ℕ) (x : Path) → names_after d cs x ≡ thing.File g → HadName d cs g x
had_now d [] g x e = e
had_now d (c ∷ older) g x e = inr e

-- a name that the file has when the disk holds these of the changes, and one that it had
pub record HasOld (d : Names) (held cs : List Change) (g : ℕ) : Type 0 where
  pub at : Path
  pub had : HadName d cs g at
  pub named : names_after d held at ≡ thing.File g

module _ (d : Names) (places : List ℕ) (c : Change) (older : List Change) (g : ℕ) (h : IsClosed places (c ∷ older)) where
  abbrev before : Names
  before = names_after d older

  abbrev left : Names
  left = names_after d (kept_at places older)

  agrees : IsApart c (undone_at places older) → (x : Path) → Touches c x → left x ≡ before x
  agrees a x t = kept_names d older (kept_at places older) (undone_at places older) x (splits places older h.0) (apart_none c (undone_at places older) x t a)

  -- the disk holds the change too
  held_on : IsApart c (undone_at places older) → ChangeSpares before true c g → HasOld d (kept_at places older) older g → HasOld d (c ∷ kept_at places older) (c ∷ older) g
  held_on a sp r = go (touches_or_not c r.at)
    where
      here : Touches c r.at → before r.at ≡ thing.File g
      here t = sym (agrees a r.at t) ∙ r.named

      by : (k : Change) → k ≡ c → Touches k r.at → HasOld d (c ∷ kept_at places older) (c ∷ older) g
      by (Puts y what) e t = absurd ((subst (λ (k : Change). ChangeSpares before true k g) (sym e) sp).0 (ap before t ∙ here (subst (λ (k : Change). Touches k r.at) e t)))
      by (Drops y) e t = absurd (let q : true ≡ false = (subst (λ (k : Change). ChangeSpares before true k g) (sym e) sp) (ap before t ∙ here (subst (λ (k : Change). Touches k r.at) e t)) in cc)
      by (Moves from to) e (inr t) = absurd ((subst (λ (k : Change). ChangeSpares before true k g) (sym e) sp) (ap before t ∙ here (subst (λ (k : Change). Touches k r.at) e (inr t))))
      by (Moves from to) e (inl t) = record {
        at = to;
        had = inr (gone before (ap before t ∙ here (subst (λ (k : Change). Touches k r.at) e (inl t))));
        named = gone left (ap left t ∙ r.named);
      }
        where
          gone : (n : Names) → n from ≡ thing.File g → changed c n to ≡ thing.File g
          gone n is = subst (λ (k : Change). changed k n to ≡ thing.File g) e (put_here (put n from thing.Nothing) to to (n from) refl ∙ is)

      go : Touches c r.at ⊎ (Touches c r.at → ⊥) → HasOld d (c ∷ kept_at places older) (c ∷ older) g
      go (inl t) = by c refl t
      go (inr far) = record { at = r.at; had = inl r.had; named = untouched c left r.at far ∙ r.named }

  -- one more change
  more : (l : Bool) → (l ≡ true → IsApart c (undone_at places older)) → ChangeSpares before l c g → ((x : Path) → HadName d older g x → HasOld d (kept_at places older) older g)
      → (x : Path) → HadName d (c ∷ older) g x → HasOld d (cond l (c ∷ kept_at places older) (kept_at places older)) (c ∷ older) g
  more true a sp rec x (inl was) = held_on (a refl) sp (rec x was)
  more true a sp rec x (inr is) = go (came c before x g is)
    where
      go : Came c before x g → HasOld d (c ∷ kept_at places older) (c ∷ older) g
      go (made e) = record { at = x; had = inr is; named = subst (λ (k : Change). changed k left x ≡ thing.File g) (sym e) (put_here left x x (thing.File g) refl) }
      go (moved z e j) = held_on (a refl) sp (rec z (had_now d older g z j))
      go (stayed j far) = held_on (a refl) sp (rec x (had_now d older g x j))
  more false a sp rec x (inl was) = let r : HasOld d (kept_at places older) older g = rec x was in record { at = r.at; had = inl r.had; named = r.named }
  more false a sp rec x (inr is) = go (came c before x g is)
    where
      still : (y : Path) → before y ≡ thing.File g → HasOld d (kept_at places older) (c ∷ older) g
      still y j = let r : HasOld d (kept_at places older) older g = rec y (had_now d older g y j) in record { at = r.at; had = inl r.had; named = r.named }

      go : Came c before x g → HasOld d (kept_at places older) (c ∷ older) g
      go (made e) = absurd (let q : false ≡ true = (subst (λ (k : Change). ChangeSpares before false k g) e sp).1 refl in cc)
      go (moved z e j) = still z j
      go (stayed j far) = still x j

has_old : (d : Names) (places : List ℕ) (cs : List Change) (g : ℕ) → IsClosed places cs → AllSpare d places cs g → (x : Path) → HadName d cs g x → HasOld d (kept_at places cs) cs g
has_old d places [] g h sp x had = record { at = x; had = had; named = had }
has_old d places (c ∷ older) g h sp x had = more d places c older g h (is_listed places (length older)) h.1 sp.1 (λ y was. has_old d places older g h.0 sp.0 y was) x had

pub spared : (p : Past) (places : List ℕ) (g : ℕ) (x : Path) → IsJournal p → IsClosed places (world p).pending → AllSpare (world p).durable places (world p).pending g → HadName (world p).durable (world p).pending g x
    → (y : Path) × HadName (world p).durable (world p).pending g y × (names_kept (world p) places y ≡ thing.File g) × ((z : Path) → names_kept (world p) places z ≡ thing.File g → z ≡ y)
spared p places g x j h sp had = let r : HasOld (world p).durable (kept_at places (world p).pending) (world p).pending g = has_old (world p).durable places (world p).pending g h sp x had in
    (r.at, r.had, r.named, λ z is. (single p j).unique (names_kept (world p) places) (undone_at places (world p).pending) (but places h) z r.at g is r.named)
