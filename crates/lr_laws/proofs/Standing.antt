-- How a file stands, over names and limits; entries that change no name.
use Rattle.std.proofs.Common.{◌≡◌, ◌⊎◌, inl, inr, ⊎_elim, ℕ, ◌≤◌, List, [], ◌∷◌, length, true, sym, ◌∙◌, ap, subst, arith, Option, Some, None, ℤ, pos}
use Rattle.std.proofs.lemmas.Bool.{or_right, or_cases, false_from_ne_true}
use Rattle.lr_rules.specs.declared.path.Path.{Path}
use Rattle.lr_rules.proofs.Options.{some_none}
use Rattle.lr_host.specs.declared.entry.Entry.{Entry}
use Rattle.lr_host.specs.World.{Names, names, Past, Opens, ◌▸◌, world, is_file, opening_names}
use Rattle.lr_host.specs.Sets.{Order, Numbered, Dated, IsUnplaced, IsWithin, AreLaterMembers, LogSet, order}
use Rattle.lr_laws.specs.Follow.{KeepsPlaces}
use Rattle.lr_host.specs.Later.{stood, IsGeneration, later, leaves}
use Rattle.lr_host.specs.Kept.{IsWhole, Stands, IsKept}
use Rattle.lr_host.specs.Released.{IsUnnamed, IsReleased}
use Rattle.lr_laws.proofs.Counting.{later_grows, IsWritten, whole_on}
use Rattle.lr_host.specs.declared.thing.Thing.TheVariants as thing
use Rattle.lr_host.proofs.Looked.{is_file_true, true_is_file}

pub released_unnamed : (s : LogSet) (p : Past) (g : ℕ) → IsReleased s p g → IsUnnamed (names (world p)) g
released_unnamed s (Opens o) g r = absurd r
released_unnamed s (p ▸ e) g r = r.0

pub within_more : (o : Order) (key : Path → Option ℤ) (n : Names) (x : Path) (l l' : ℕ) → l ≤ l' → IsWithin o key n x l → IsWithin o key n x l'
within_more Numbered key n x l l' le (k, q, i) = (k, q, omega arith)
within_more Dated key n x l l' le (t, q, f) = (t, q, λ ys d a. more (length ys) (f ys d a))
  where
    more : (k : ℕ) → k ≤ l → k ≤ l'
    more k i = omega arith

pub placed_more : (s : LogSet) (n : Names) (x : Path) (l l' : ℕ) → l ≤ l' → IsUnplaced s x ⊎ IsWithin (order s) s.key n x l → IsUnplaced s x ⊎ IsWithin (order s) s.key n x l'
placed_more s n x l l' le (inl a) = inl a
placed_more s n x l l' le (inr w) = inr (within_more (order s) s.key n x l l' le w)

-- a member has a key, so it isn't the log
pub within_apart : (s : LogSet) (o : Order) (n : Names) (x : Path) (l : ℕ) → IsWithin o s.key n x l → x ≡ s.log → ⊥
within_apart s Numbered n x l w same = let none : s.key s.log ≡ None = s.log_apart in some_none (s.key x) (pos w.0) w.1 (ap s.key same ∙ none)
within_apart s Dated n x l w same = let none : s.key s.log ≡ None = s.log_apart in some_none (s.key x) w.0 w.1 (ap s.key same ∙ none)

-- a member that keeps its file keeps its place
pub within_after : (o : Order) (s : LogSet) (p : Past) (e : Entry) (then after : Names) (g : ℕ) (x : Path) → KeepsPlaces o s p e then after → IsGeneration s p g → then x ≡ thing.File g → after x ≡ thing.File g → later s p g ≤ later s (p ▸ e) g
    → IsWithin o s.key then x (later s p g) → IsWithin o s.key after x (later s (p ▸ e) g)
within_after Numbered s p e then after g x keeps gen is is' le (k, q, i) = (k, q, omega arith)
within_after Dated s p e then after g x keeps gen is is' le w = keeps g x gen is is' w

pub stands_more : (s : LogSet) (n : Names) (l l' g : ℕ) → l ≤ l' → Stands s n l g → Stands s n l' g
stands_more s n l l' g le h = record { at = h.at; named = h.named; only = h.only; placed = placed_more s n h.at l l' le h.placed }

-- of a numbered set
pub keeps_numbered : (o : Order) (s : LogSet) (p : Past) (e : Entry) (then after : Names) → o ≡ Numbered → KeepsPlaces o s p e then after
keeps_numbered o s p e then after q = subst (λ (o : Order). KeepsPlaces o s p e then after) (sym q) tt

pub within_numbered : (o : Order) (key : Path → Option ℤ) (n : Names) (x : Path) (l : ℕ) → o ≡ Numbered → IsWithin o key n x l → (k : ℕ) × (key x ≡ Some (pos k)) × (k ≤ l)
within_numbered o key n x l q w = subst (λ (o : Order). IsWithin o key n x l) q w

pub numbered_within : (o : Order) (key : Path → Option ℤ) (n : Names) (x : Path) (l k : ℕ) → o ≡ Numbered → key x ≡ Some (pos k) → k ≤ l → IsWithin o key n x l
numbered_within o key n x l k q a i = subst (λ (o : Order). IsWithin o key n x l) (sym q) (k, a, i)

-- what stands at the log's path stood there
pub stood_now : (s : LogSet) (p : Past) (g : ℕ) → names (world p) s.log ≡ thing.File g → stood s p g ≡ true
stood_now s (Opens o) g is = true_is_file (opening_names o s.log) g is
stood_now s (p ▸ e) g is = or_right (stood s p g) (is_file (names (world (p ▸ e)) s.log) g) (true_is_file (names (world (p ▸ e)) s.log) g is)

-- a file stands under other names that name the same
stands_alike : (s : LogSet) (n n' : Names) (l g : ℕ) → ((x : Path) → n' x ≡ n x) → Stands s n l g → Stands s n' l g
stands_alike s n n' l g same st = record {
  at = st.at;
  named = same st.at ∙ st.named;
  only = λ y i. st.only y (sym (same y) ∙ i);
  placed = ⊎_elim (λ a. inl a) (λ w. inr (within (order s) w)) st.placed;
}
  where
    fewer : (t : ℤ) (ys : List Path) → AreLaterMembers s.key n' t ys → AreLaterMembers s.key n t ys
    fewer t [] a = tt
    fewer t (y ∷ ys) a = (((a.0.0.0, sym (same y) ∙ a.0.0.1), a.0.1), fewer t ys a.1)

    within : (o : Order) → IsWithin o s.key n st.at l → IsWithin o s.key n' st.at l
    within Numbered w = w
    within Dated w = (w.0, w.1, λ ys d a. w.2 ys d (fewer w.0 ys a))

-- An entry that changes no name and writes over no generation keeps what is kept, whatever came before.
pub kept_same : (s : LogSet) (p : Past) (e : Entry) → ((x : Path) → names (world (p ▸ e)) x ≡ names (world p) x) → ((g : ℕ) → leaves s (world p) e g ≡ true → ⊥) → ((g : ℕ) → IsGeneration s p g → IsWritten (world p) e g → ⊥) → IsKept s p → IsKept s (p ▸ e)
kept_same s p e same nl nw k g gen' = go (old_one gen')
  where
    before : (x : Path) → names (world (p ▸ e)) x ≡ thing.File g → names (world p) x ≡ thing.File g
    before x is = sym (same x) ∙ is

    stood_p : is_file (names (world (p ▸ e)) s.log) g ≡ true → stood s p g ≡ true
    stood_p t = stood_now s p g (before s.log (is_file_true (names (world (p ▸ e)) s.log) g t))

    old_one : IsGeneration s (p ▸ e) g → IsGeneration s p g
    old_one (inr member) = inr member
    old_one (inl there) = inl (⊎_elim (λ was_there. was_there) stood_p (or_cases (stood s p g) (is_file (names (world (p ▸ e)) s.log) g) there))

    grown : later s p g ≤ later s (p ▸ e) g
    grown = later_grows s p e g (false_from_ne_true (leaves s (world p) e g) (nl g)) stood_p

    go : IsGeneration s p g → IsReleased s (p ▸ e) g ⊎ (Stands s (names (world (p ▸ e))) (later s (p ▸ e) g) g × IsWhole (p ▸ e) g)
    go gen = by (k g gen)
      where
        by : IsReleased s p g ⊎ (Stands s (names (world p)) (later s p g) g × IsWhole p g) → IsReleased s (p ▸ e) g ⊎ (Stands s (names (world (p ▸ e))) (later s (p ▸ e) g) g × IsWhole (p ▸ e) g)
        by (inl r) = inl ((λ x is. released_unnamed s p g r x (before x is)), inr (released_unnamed s p g r, r))
        by (inr (st, w)) = inr (stands_more s (names (world (p ▸ e))) (later s p g) (later s (p ▸ e) g) g grown (stands_alike s (names (world p)) (names (world (p ▸ e))) (later s p g) g same st), whole_on p e g (nw g gen) w)
