-- The serial number that comes next, and the path of the clock's stamp.
use Rattle.std.proofs.Common.{◌≡◌, ◌⊎◌, inl, inr, ⊎_elim, ℕ, suc, max, ℤ, ◌+◌, ◌<◌, Bool, true, false, cond, List, [], ◌∷◌, ◌++◌, length, take, get_or, Option, Some, None, refl, sym, ap, ◌∙◌, arith}
use Rattle.std.specs.Ordering.{int_eq}
use Rattle.std.proofs.lemmas.Bool.{cases_lt}
use Rattle.std.proofs.lemmas.List.{take_more}
use Rattle.std.proofs.lemmas.Bool.Decides.{Decides-int_eq}
use Rattle.lr_rules.specs.declared.clock.Clock.{Clock}
use Rattle.lr_rules.specs.declared.rule.Format.{Format}
use Rattle.lr_rules.specs.declared.rule.Naming.{Naming}
use Rattle.lr_rules.specs.Dated.{serial_text, IsDatedAt}
use Rattle.lr_rules.specs.Limits.{is_format, or_none}
use Rattle.lr_rules.specs.Path.{joined}
use Rattle.lr_stamps.specs.Dated.{clock_seconds, MayHaveSerial}
use Rattle.lr_stamps.proofs.Clocks.{clock_stamp}
use Rattle.lr_family.specs.declared.place.Place.{Place}
use Rattle.lr_family.specs.declared.place.Place.TheVariants as at
use Rattle.lr_family.specs.declared.stand.Member.{Member}
use Rattle.lr_chain.specs.Serials.{IsNext, serial_behind, next_serial}
use Rattle.lr_chain.proofs.Newest.{HasOne, IsStamp, one_in, any_in}
use Rattle.lr_chain.specs.DatedReady.{stamp_by, dated_path}

-- ---- what comes next

at_moment : (t : ℤ) (k : ℕ) → serial_behind t (at.Stamp t k) ≡ suc k
at_moment t k = ap (λ b. cond b (suc k) 0) ((Decides-int_eq t t).1 refl)

-- a place has the moment, or it counts for nothing
abbrev Counts : ℤ → Place → Type 0
Counts t p = (serial_behind t p ≡ 0) ⊎ ((k : ℕ) × (serial_behind t p ≡ suc k) × (p ≡ at.Stamp t k))

counts : (t : ℤ) (p : Place) → Counts t p
counts t (at.Number p) = inl refl
counts t (at.Stamp u k) = go (int_eq u t) refl
  where
    go : (b : Bool) → int_eq u t ≡ b → (cond b (suc k) 0 ≡ 0) ⊎ ((l : ℕ) × (cond b (suc k) 0 ≡ suc l) × (at.Stamp u k ≡ at.Stamp t l))
    go true e = inr (k, refl, ap (λ (v : ℤ). at.Stamp v k) ((Decides-int_eq u t).0 e))
    go false e = inl refl

-- one more of them
pub next_more : (t : ℤ) (xs : List Member) (m : Member) → next_serial (xs ++ m ∷ []) t ≡ max (serial_behind t m.place) (next_serial xs t)
next_more t [] m = refl
next_more t (x ∷ xs) m = let e : next_serial (xs ++ m ∷ []) t ≡ max (serial_behind t m.place) (next_serial xs t) = next_more t xs m in omega (arith, e)

pub next_taken : (t : ℤ) (members : List Member) (i : ℕ) (m : Member) → m ≡ get_or members i m → i < length members → next_serial (take (i + 1) members) t ≡ max (serial_behind t m.place) (next_serial (take i members) t)
next_taken t members i m is lt = ap (λ ms. next_serial ms t) (take_more members i m lt ∙ ap (λ x. take i members ++ x ∷ []) (sym is)) ∙ next_more t (take i members) m

above : (t : ℤ) (ms : List Member) (k : ℕ) → HasOne (IsStamp t k) ms → k < next_serial ms t
above t [] k h = absurd h
above t (m ∷ ms) k (inl p) = let here : serial_behind t m.place ≡ suc k = ap (serial_behind t) p ∙ at_moment t k in omega (arith, here)
above t (m ∷ ms) k (inr h) = let rest : k < next_serial ms t = above t ms k h in omega (arith, rest)

abbrev IsLeast : ℤ → ℕ → List Member → Type 0
IsLeast t serial ms = (serial ≡ 0) ⊎ ((k : ℕ) × (serial ≡ k + 1) × HasOne (IsStamp t k) ms)

least : (t : ℤ) (ms : List Member) → IsLeast t (next_serial ms t) ms
least t [] = inl refl
least t (m ∷ ms) = go (counts t m.place) (least t ms)
  where
    go : Counts t m.place → IsLeast t (next_serial ms t) ms → IsLeast t (max (serial_behind t m.place) (next_serial ms t)) (m ∷ ms)
    go (inl a) (inl b) = inl (omega (arith, a, b))
    go (inl a) (inr b) = inr (b.0, (let e = b.1 in omega (arith, a, e)), inr b.2)
    go (inr a) (inl b) = inr (a.0, (let e = a.1 in omega (arith, e, b)), inl a.2)
    go (inr a) (inr b) =
        let e = a.1 in
        let f = b.1 in
        ⊎_elim (λ lt. inr (b.0, omega (arith, e, f, lt), inr b.2)) (λ ge. inr (a.0, omega (arith, e, f, ge), inl a.2)) (cases_lt a.0 b.0)

pub is_next : (members : List Member) (t : ℤ) → IsNext members t (next_serial members t)
is_next members t = record {
  above = λ k h. above t members k (one_in (IsStamp t k) members h);
  least = ⊎_elim (λ z. inl z) (λ h. inr (h.0, h.1, any_in (IsStamp t h.0) members h.2)) (least t members);
}

-- ---- the clock's stamp

pub clock_path : (n : Naming) (clock : Clock) (k : ℕ) → or_none is_format n.dated ≡ true → MayHaveSerial n.dated k → IsDatedAt n (clock_seconds n.dated clock) k (dated_path n clock k)
clock_path n clock k good may = go n.dated refl good may
  where
    go : (d : Option Format) → n.dated ≡ d → or_none is_format d ≡ true → MayHaveSerial d k → IsDatedAt n (clock_seconds n.dated clock) k (dated_path n clock k)
    go None e good may = absurd may
    go (Some f) e good may = clock_stamp n f clock k (dated_path n clock k) e good may (ap (λ (d : Option Format). joined n.dir (n.base ++ (stamp_by d clock ++ serial_text k) ++ n.ext)) e)
