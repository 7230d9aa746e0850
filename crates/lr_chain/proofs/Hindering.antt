-- What hinders a rotation to the moment of a stamp, and the serial number that comes next where nothing does.
use Rattle.std.proofs.Common.{◌≡◌, ◌⊎◌, inl, inr, ⊎_elim, ℕ, ℤ, ◌+◌, ◌<◌, ◌≤◌, Bool, true, false, cond, List, [], ◌∷◌, ◌++◌, length, take, drop, get_or, Some, refl, sym, ap, ◌∙◌, subst, arith, eqb-true, eq-eqb, append_assoc}
use Rattle.std.specs.Prelude.{◌==◌}
use Rattle.std.specs.Bool.{Decides}
use Rattle.std.specs.Ordering.{int_eq}
use Rattle.std.proofs.lemmas.Bool.{and_parts, and_from, cases_lt}
use Rattle.std.proofs.lemmas.Bool.Decides.{Decides-int_eq}
use Rattle.std.proofs.lemmas.List.{take_more, take_all, take-append-drop}
use Rattle.std.proofs.lemmas.List.Elements.{All-head, All-tail}
use Rattle.lr_rules.specs.declared.fault.Fault.{Fault}
use Rattle.lr_rules.specs.declared.path.Path.{Path}
use Rattle.lr_rules.specs.declared.rule.Format.{Format}
use Rattle.lr_rules.specs.declared.rule.Naming.{Naming}
use Rattle.lr_rules.specs.Dated.{IsSerial, IsDatedAt}
use Rattle.lr_family.specs.declared.place.Place.{Place}
use Rattle.lr_family.specs.declared.place.Place.TheVariants as at
use Rattle.lr_family.specs.declared.stand.Member.{Member}
use Rattle.lr_family.specs.Places.{IsPlaceOf, AreNamed}
use Rattle.lr_chain.specs.declared.ready.PrepareStop.{PrepareStop}
use Rattle.lr_chain.specs.Hindrances.{is_stamp, fault_at, too_high, taken_fault, stamp_hindrances, IsHindered}
use Rattle.lr_chain.specs.Serials.{next_serial}
use Rattle.lr_chain.proofs.Newest.{HasOne, IsStamp, one_in}
use Rattle.lr_chain.proofs.Serials.{is_next}

-- ---- the member with a moment and a serial number

same_stamp : (t u : ℤ) (k l : ℕ) → at.Stamp t k ≡ at.Stamp u l → (t ≡ u) × (k ≡ l)
same_stamp t u k l e = (cc, cc)

decides : (t : ℤ) (k : ℕ) (p : Place) → Decides (is_stamp t k p) (p ≡ at.Stamp t k)
decides t k (at.Number p) = ((λ e. absurd (cc)), (λ e. absurd (cc)))
decides t k (at.Stamp u l) = (
  (λ e. let b = and_parts (int_eq u t) (l == k) e in ap (λ (v : ℤ). at.Stamp v l) ((Decides-int_eq u t).0 b.0) ∙ ap (at.Stamp t) (eqb-true l k b.1)),
  (λ e. let s = same_stamp u t l k e in and_from (int_eq u t) (l == k) ((Decides-int_eq u t).1 s.0) (eq-eqb l k s.1)),
)

-- the first that has them
pub here : (why : Path → Fault) (t : ℤ) (k : ℕ) (m : Member) (ms : List Member) → is_stamp t k m.place ≡ true → fault_at why t k (m ∷ ms) ≡ why m.path ∷ []
here why t k m ms e = ap (λ b. cond b (why m.path ∷ []) (fault_at why t k ms)) e

-- those before it haven't
pub behind : (why : Path → Fault) (t : ℤ) (k : ℕ) (xs ys : List Member) → fault_at why t k xs ≡ [] → fault_at why t k (xs ++ ys) ≡ fault_at why t k ys
behind why t k [] ys e = refl
behind why t k (x ∷ xs) ys e = go (is_stamp t k x.place) e (behind why t k xs ys)
  where
    go : (b : Bool) → cond b (why x.path ∷ []) (fault_at why t k xs) ≡ [] → (fault_at why t k xs ≡ [] → fault_at why t k (xs ++ ys) ≡ fault_at why t k ys)
        → cond b (why x.path ∷ []) (fault_at why t k (xs ++ ys)) ≡ fault_at why t k ys
    go true e r = absurd (cc)
    go false e r = r e

-- one more hasn't
pub none_more : (why : Path → Fault) (t : ℤ) (k : ℕ) (xs : List Member) (m : Member) → fault_at why t k xs ≡ [] → is_stamp t k m.place ≡ false → fault_at why t k (xs ++ m ∷ []) ≡ []
none_more why t k xs m none e = behind why t k xs (m ∷ []) none ∙ ap (λ b. cond b (why m.path ∷ []) []) e

-- the same of members that are looked at one behind the other
split_at : (m : Member) (members : List Member) (i : ℕ) → m ≡ get_or members i m → i < length members → members ≡ take i members ++ m ∷ drop (i + 1) members
split_at m members i is lt = sym (take-append-drop (i + 1) members) ∙ (ap (λ xs. xs ++ drop (i + 1) members) (take_more members i m lt ∙ ap (λ x. take i members ++ x ∷ []) (sym is)) ∙ append_assoc (take i members) (m ∷ []) (drop (i + 1) members))

pub found : (why : Path → Fault) (t : ℤ) (k : ℕ) (members : List Member) (i : ℕ) (m : Member) → fault_at why t k (take i members) ≡ [] → m ≡ get_or members i m → i < length members → is_stamp t k m.place ≡ true
    → fault_at why t k members ≡ why m.path ∷ []
found why t k members i m none is lt e = ap (fault_at why t k) (split_at m members i is lt) ∙ (behind why t k (take i members) (m ∷ drop (i + 1) members) none ∙ here why t k m (drop (i + 1) members) e)

pub passed : (why : Path → Fault) (t : ℤ) (k : ℕ) (members : List Member) (i : ℕ) (m : Member) → fault_at why t k (take i members) ≡ [] → m ≡ get_or members i m → i < length members → is_stamp t k m.place ≡ false
    → fault_at why t k (take (i + 1) members) ≡ []
passed why t k members i m none is lt e = ap (fault_at why t k) (take_more members i m lt ∙ ap (λ x. take i members ++ x ∷ []) (sym is)) ∙ none_more why t k (take i members) m none e

pub none_found : (why : Path → Fault) (t : ℤ) (k : ℕ) (members : List Member) (i : ℕ) → fault_at why t k (take i members) ≡ [] → length members ≤ i → fault_at why t k members ≡ []
none_found why t k members i none le = sym (ap (fault_at why t k) (take_all i members le)) ∙ none

-- where there is no fault, none has them
none_has : (why : Path → Fault) (t : ℤ) (k : ℕ) (ms : List Member) → fault_at why t k ms ≡ [] → HasOne (IsStamp t k) ms → ⊥
none_has why t k [] e h = h
none_has why t k (m ∷ ms) e (inl p) = absurd (let f : why m.path ∷ [] ≡ [] = sym (here why t k m ms ((decides t k m.place).1 p)) ∙ e in cc)
none_has why t k (m ∷ ms) e (inr h) = go (is_stamp t k m.place) e (λ f. none_has why t k ms f h)
  where
    go : (b : Bool) → cond b (why m.path ∷ []) (fault_at why t k ms) ≡ [] → (fault_at why t k ms ≡ [] → ⊥) → ⊥
    go true e r = absurd (cc)
    go false e r = r e

-- ---- the serial number that comes next, where nothing hinders

serial_by : (f g : Format) (k : ℕ) → Some f ≡ Some g → IsSerial f k → IsSerial g k
serial_by f g k e s = subst (λ (h : Format). IsSerial h k) (let same : f ≡ g = cc in same) s

serial_in : (n : Naming) (f : Format) (ms : List Member) (t : ℤ) (k : ℕ) → n.dated ≡ Some f → AreNamed n ms → HasOne (IsStamp t k) ms → IsSerial f k
serial_in n f [] t k e named h = absurd h
serial_in n f (m ∷ ms) t k e named (inl p) =
    let day : IsDatedAt n t k m.path = subst (λ (q : Place). IsPlaceOf n q m.path) p (All-head (λ (m : Member). IsPlaceOf n m.place m.path) m ms named) in
    serial_by day.format f k (sym day.dated ∙ e) day.is.numbered
serial_in n f (m ∷ ms) t k e named (inr h) = serial_in n f ms t k e (All-tail (λ (m : Member). IsPlaceOf n m.place m.path) m ms named) h

pub next_may : (n : Naming) (f : Format) (ms : List Member) (t : ℤ) → n.dated ≡ Some f → AreNamed n ms → stamp_hindrances f t ms ≡ [] → IsSerial f (next_serial ms t)
next_may n f ms t e named free = ⊎_elim (λ z. inl z) (λ h. subst (IsSerial f) (sym h.1) (raised h.0 (one_in (IsStamp t h.0) ms h.2))) (is_next ms t).least
  where
    raised : (k : ℕ) → HasOne (IsStamp t k) ms → IsSerial f (k + 1)
    raised k h = go f.serial refl free (cases_lt k 4294967295) (serial_in n f ms t k e named h)
      where
        go : (b : Bool) → f.serial ≡ b → cond b (fault_at too_high t 4294967295 ms) (fault_at taken_fault t 0 ms) ≡ [] → (k < 4294967295) ⊎ (4294967295 ≤ k) → IsSerial f k → IsSerial f (k + 1)
        go true s free (inl lt) is = inr (s, omega (arith, lt))
        go true s free (inr ge) is =
            let top : k ≡ 4294967295 = ⊎_elim (λ z. omega (arith, ge, z)) (λ q. let le = q.1 in omega (arith, ge, le)) is in
            absurd (none_has too_high t 4294967295 ms free (subst (λ (j : ℕ). HasOne (IsStamp t j) ms) top h))
        go false s free c (inl z) = absurd (none_has taken_fault t 0 ms free (subst (λ (j : ℕ). HasOne (IsStamp t j) ms) z h))
        go false s free c (inr q) = absurd (let yes = q.0 in cc)

-- ---- what is told

module _ (f : Format) (t : ℤ) (ms : List Member) where
  by_serials : (b : Bool) → f.serial ≡ b → stamp_hindrances f t ms ≡ cond b (fault_at too_high t 4294967295 ms) (fault_at taken_fault t 0 ms)
  by_serials b e = ap (λ (c : Bool). cond c (fault_at too_high t 4294967295 ms) (fault_at taken_fault t 0 ms)) e

  -- the member with the greatest serial number, where names have them
  pub high_told : (stop : PrepareStop) (path : Path) → f.serial ≡ true → fault_at too_high t 4294967295 ms ≡ too_high path ∷ [] → IsHindered (too_high path ∷ []) stop → IsHindered (stamp_hindrances f t ms) stop
  high_told stop path e is h = subst (λ (fs : List Fault). IsHindered fs stop) (sym (by_serials true e ∙ is)) h

  pub none_high : f.serial ≡ true → fault_at too_high t 4294967295 ms ≡ [] → stamp_hindrances f t ms ≡ []
  none_high e is = by_serials true e ∙ is

  -- the member of the moment, where they have none
  pub taken_told : (stop : PrepareStop) (path : Path) → f.serial ≡ false → fault_at taken_fault t 0 ms ≡ taken_fault path ∷ [] → IsHindered (taken_fault path ∷ []) stop → IsHindered (stamp_hindrances f t ms) stop
  taken_told stop path e is h = subst (λ (fs : List Fault). IsHindered fs stop) (sym (by_serials false e ∙ is)) h

  pub none_taken : f.serial ≡ false → fault_at taken_fault t 0 ms ≡ [] → stamp_hindrances f t ms ≡ []
  none_taken e is = by_serials false e ∙ is

-- ---- the name that is free

pub serial_low : (n : Naming) (f : Format) (ms : List Member) (t : ℤ) → n.dated ≡ Some f → AreNamed n ms → stamp_hindrances f t ms ≡ [] → next_serial ms t ≤ 4294967295
serial_low n f ms t e named free = ⊎_elim (λ z. omega (arith, z)) (λ q. q.1) (next_may n f ms t e named free)
