-- No member is later than the one of the clock's moment with the next serial number; and moments don't go ahead where nothing is changed.
use Rattle.std.proofs.Common.{◌≡◌, ◌⊎◌, ◌∙◌, inl, inr, ⊎_elim, ℕ, ◌≤◌, ◌<◌, refl, subst, sym, arith, ℤ, pos, negsuc, ◌≤ℤ◌, ◌<ℤ◌, Some}
use Rattle.std.proofs.lemmas.Bool.{cases_lt}
use Rattle.std.proofs.lemmas.Int.{ints}
use Rattle.lr_rules.specs.declared.clock.Clock.{Clock}
use Rattle.lr_rules.specs.declared.path.Path.{Path}
use Rattle.lr_rules.specs.Dated.{stamp_key, IsDatedAt}
use Rattle.lr_rules.proofs.Counts.{serial_small}
use Rattle.lr_rules.proofs.Options.{some_none}
use Rattle.lr_host.specs.declared.entry.Entry.{Entry}
use Rattle.lr_host.specs.Fits.{IsFileAt}
use Rattle.lr_host.specs.Forward.{IsForward}
use Rattle.lr_host.specs.Quiet.{Quiet, here, wrote, looked}
use Rattle.lr_host.specs.Sets.{LogSet, Order, Dated, order, IsKeyBy}
use Rattle.lr_host.specs.Steady.{IsKeyless}
use Rattle.lr_host.specs.World.{Past, ◌▸◌, world, names, step}
use Rattle.lr_host.proofs.Quiet.{wrote_same, looked_names}
use Rattle.lr_laws.proofs.Disk.{KeepsClosed}
use Rattle.lr_laws.specs.Forward.{IsForwardBy, IsForwardFor, IsNextSerial}
use Rattle.lr_laws.proofs.Tame.{IsTame, had_before, closed_writer, tame_writer, closed_quiet, tame_quiet}

-- of two numbers with a sign the one that isn't above is below, or they are the same
below_or : (t u : ℤ) → t ≤ℤ u → (t <ℤ u) ⊎ (t ≡ u)
below_or t u le = go (apart t u)
  where
    apart : (t u : ℤ) → (t <ℤ u) ⊎ (u ≤ℤ t)
    apart (pos a) (pos b) = ⊎_elim (λ i. inl (omega (arith, ints, i))) (λ i. inr (omega (arith, ints, i))) (cases_lt a b)
    apart (pos a) (negsuc b) = inr (omega (arith, ints))
    apart (negsuc a) (pos b) = inl (omega (arith, ints))
    apart (negsuc a) (negsuc b) = ⊎_elim (λ i. inl (omega (arith, ints, i))) (λ i. inr (omega (arith, ints, i))) (cases_lt b a)

    go : (t <ℤ u) ⊎ (u ≤ℤ t) → (t <ℤ u) ⊎ (t ≡ u)
    go (inl lt) = inl lt
    go (inr ge) = inr (omega (arith, ints, le, ge))

earlier : (t u : ℤ) (k l : ℕ) → k ≤ 4294967295 → l ≤ 4294967295 → t <ℤ u → stamp_key t k ≤ℤ stamp_key u l
earlier t u k l i j lt = omega (arith, ints, i, j, lt)

lower : (t u : ℤ) (k l : ℕ) → t ≡ u → k < l → stamp_key t k ≤ℤ stamp_key u l
lower t u k l e lt = omega (arith, ints, e, lt)

pub moment_forward : (s : LogSet) (p : Past) (seconds : ℤ) (serial : ℕ) → order s ≡ Dated → IsForwardBy s p seconds → IsNextSerial s.naming (names (world p)) seconds serial → serial ≤ 4294967295 → IsForward s p (stamp_key seconds serial)
moment_forward s p seconds serial dated by next small n undone lv y v is f = go (((subst (λ (o : Order). IsKeyBy o s.naming s.key) dated s.keys) y v).0 is)
  where
    go : ((t : ℤ) × (k : ℕ) × (v ≡ stamp_key t k) × IsDatedAt s.naming t k y) → v ≤ℤ stamp_key seconds serial
    go (t, k, e, at) = subst (λ (w : ℤ). w ≤ℤ stamp_key seconds serial) (sym e) (by_moment (below_or t seconds (by.none_later n undone lv y t k at f)))
      where
        by_moment : (t <ℤ seconds) ⊎ (t ≡ seconds) → stamp_key t k ≤ℤ stamp_key seconds serial
        by_moment (inl lt) = earlier t seconds k serial (serial_small at.format k at.is.numbered) small lt
        by_moment (inr same) =
            let now : IsDatedAt s.naming seconds k y = subst (λ (u : ℤ). IsDatedAt s.naming u k y) same at in
            lower t seconds k serial same (next.above y k now (by.none_back n undone lv y k now f))

-- ---- where nothing is changed

-- of a dated set a path has the key of its stamp and serial number
pub keyed : (s : LogSet) → order s ≡ Dated → (x : Path) (t : ℤ) (k : ℕ) → IsDatedAt s.naming t k x → s.key x ≡ Some (stamp_key t k)
keyed s dated x t k is = ((subst (λ (o : Order). IsKeyBy o s.naming s.key) dated s.keys) x (stamp_key t k)).1 (t, k, refl, is)

-- behind a step by which no member gets a file, and none loses it
by_on : (s : LogSet) (p : Past) (e : Entry) (seconds : ℤ) → order s ≡ Dated → KeepsClosed (world p) e → IsTame s (step (world p) e) → ((y : Path) (k : ℤ) → s.key y ≡ Some k → IsFileAt (names (world p)) y → IsFileAt (names (world (p ▸ e))) y)
    → IsForwardBy s p seconds → IsForwardBy s (p ▸ e) seconds
by_on s p e seconds dated cl tame stays by = record {
  none_later = λ n undone lv y t serial at f. let b = had_before s p e cl tame n undone lv in by.none_later b.names b.undone b.left y t serial at (f.0, b.had y (stamp_key t serial) f.0 (keyed s dated y t serial at) f.1);
  none_back = λ n undone lv y serial at f. let b = had_before s p e cl tame n undone lv in
      stays y (stamp_key seconds serial) (keyed s dated y seconds serial at) (by.none_back b.names b.undone b.left y serial at (f.0, b.had y (stamp_key seconds serial) f.0 (keyed s dated y seconds serial at) f.1));
}

pub by_quiet : (s : LogSet) (p q : Past) (seconds : ℤ) → order s ≡ Dated → Quiet (IsKeyless s) p q → IsForwardBy s p seconds → IsForwardBy s q seconds
by_quiet s p _ seconds dated here by = by
by_quiet s p _ seconds dated (wrote {q = q} {e = e} w i f a) by = by_on s q e seconds dated (closed_writer (world q) e i) (tame_writer s (world q) e i a)
    (λ y k is file. (file.0, wrote_same (IsKeyless s) q e y i a (λ none. some_none (s.key y) k is none) ∙ file.1)) (by_quiet s p q seconds dated w by)
by_quiet s p _ seconds dated (looked {q = q} {e = e} w i f h) by = by_on s q e seconds dated (closed_quiet (world q) e (i, h)) (tame_quiet s (world q) e (i, h))
    (λ y k is file. (file.0, looked_names q e y i h ∙ file.1)) (by_quiet s p q seconds dated w by)

pub for_quiet : (clock : Clock) (s : LogSet) (p q : Past) → Quiet (IsKeyless s) p q → IsForwardFor clock s p → IsForwardFor clock s q
for_quiet clock s p q quiet forward dated = by_quiet s p q _ dated quiet (forward dated)
