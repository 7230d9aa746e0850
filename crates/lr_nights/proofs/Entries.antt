-- One entry more.
use Rattle.std.proofs.Common.{◌≡◌, ℕ, ◌+◌, ◌<◌, Bool, true, false, cond, not, ◌&&◌, ◌||◌, List, [], ◌∷◌, length, take, get_or, refl, sym, ◌∙◌, ap, arith}
use Rattle.std.proofs.lemmas.List.{take_more}
use Rattle.lr_host.specs.declared.entry.Entry.{Entry}
use Rattle.lr_host.specs.declared.entry.Entry.TheVariants.{Starts}
use Rattle.lr_host.specs.World.{Past, ◌▸◌, then}
use Rattle.lr_host.specs.Opening.{IsJournal}
use Rattle.lr_host.specs.Sets.{LogSet}
use Rattle.lr_host.specs.Runs.{turns, has_begun, rotations}
use Rattle.lr_host.proofs.Made.{then_append}
use Rattle.lr_nights.specs.declared.turning.Turning.{Turning}
use Rattle.lr_nights.specs.Summary.{starts_in}
use Rattle.lr_nights.specs.Counting.{is_start, IsTurning}

pub then_more : (p : Past) (es : List Entry) (i : ℕ) (e : Entry) → i < length es → e ≡ get_or es i e → then p (take (i + 1) es) ≡ then p (take i es) ▸ e
then_more p es i e lt is = ap (then p) (take_more es i e lt) ∙ then_append p (take i es) (get_or es i e ∷ []) ∙ ap (λ (x : Entry). then p (take i es) ▸ x) (sym is)

begun_on : (s : LogSet) (p : Past) (e : Entry) → is_start e ≡ false → has_begun s (p ▸ e) ≡ (has_begun s p || turns s e)
begun_on s p (Starts state now rules) h = absurd (cc)
begun_on s p _ h = refl

-- a run began
pub turning_anew : (s : LogSet) (p : Past) (e : Entry) (t : Turning) → is_start e ≡ true → IsTurning s p t → IsTurning s (p ▸ e) (record { begun = false; count = t.count })
turning_anew s p (Starts state now rules) t h is = record { begun = refl; count = let c = is.count in grind arith }
turning_anew s p _ t h is = absurd (cc)

-- a run went on
turning_on : (s : LogSet) (p : Past) (e : Entry) (t u : Turning) (turned begun : Bool) → turned ≡ turns s e → begun ≡ t.begun → is_start e ≡ false → IsTurning s p t → u.begun ≡ (begun || turned) → u.count ≡ t.count + cond (turned && not begun) 1 0 → IsTurning s (p ▸ e) u
turning_on s p e t u turned begun f g h is began count =
    let b : begun ≡ has_begun s p = g ∙ is.begun in
    record {
      begun = began ∙ ap (λ (b : Bool). b || turned) b ∙ ap (λ (b : Bool). has_begun s p || b) f ∙ sym (begun_on s p e h);
      count = count ∙ ap (λ (n : ℕ). n + cond (turned && not begun) 1 0) is.count ∙ ap (λ (b : Bool). rotations s p + cond (turned && not b) 1 0) b ∙ ap (λ (b : Bool). rotations s p + cond (b && not (has_begun s p)) 1 0) f;
    }

-- by an entry that is no rename, unlink or make of the set
pub turning_beside : (s : LogSet) (p : Past) (e : Entry) (t : Turning) → is_start e ≡ false → false ≡ turns s e → IsTurning s p t → IsTurning s (p ▸ e) t
turning_beside s p e t h f is = go t.begun refl
  where
    go : (b : Bool) → b ≡ t.begun → IsTurning s (p ▸ e) t
    go true g = turning_on s p e t t false true f g h is (sym g) (omega arith)
    go false g = turning_on s p e t t false false f g h is (sym g) (omega arith)

-- by one more of a rotation that has begun
pub turning_again : (s : LogSet) (p : Past) (e : Entry) (t : Turning) → is_start e ≡ false → t.begun ≡ true → true ≡ turns s e → IsTurning s p t → IsTurning s (p ▸ e) t
turning_again s p e t h b f is = turning_on s p e t t true true f (sym b) h is b (omega arith)

-- by the first of a rotation
pub turning_first : (s : LogSet) (p : Past) (e : Entry) (t : Turning) → is_start e ≡ false → t.begun ≡ false → true ≡ turns s e → IsTurning s p t → IsTurning s (p ▸ e) (record { begun = true; count = t.count + 1 })
turning_first s p e t h b f is = turning_on s p e t (record { begun = true; count = t.count + 1 }) true false f (sym b) h is refl refl

pub starts_more : (p : Past) (e : Entry) → starts_in (p ▸ e) ≡ starts_in p + cond (is_start e) 1 0
starts_more p (Starts state now rules) = refl
starts_more p _ = let n : starts_in p ≡ starts_in p + 0 = omega arith in n

-- a journal's opening is one of a disk
pub journal_before : (p : Past) (es : List Entry) → IsJournal (then p es) → IsJournal p
journal_before p [] is = is
journal_before p (e ∷ es) is = (journal_before (p ▸ e) es is).0
