-- A stamp and its moment.
use Rattle.std.proofs.Common.{◌≡◌, ℕ, List, sym, ap, ◌∙◌, subst, Option, Some, None, ℤ}
use Rattle.std.specs.Prelude.{◌↔◌}
use Rattle.std.proofs.lemmas.Option.{same_Some}
use Rattle.lr_rules.specs.declared.rule.Piece.{Piece}
use Rattle.lr_rules.specs.declared.stamp_parts.StampParts.{StampParts}
use Rattle.lr_rules.specs.StampParts.{least}
use Rattle.lr_rules.specs.Stamps.{IsStampReading}
use Rattle.lr_rules.specs.Moments.{AreOfMoment, seconds_by, IsStamp}

abbrev Reads : Option StampParts → List Piece → List ℕ → Type 0
Reads res pieces bytes = (p : StampParts) → (res ≡ Some p) ↔ IsStampReading pieces least p bytes

pub stamp_yes : (res : Option StampParts) (parts : StampParts) (pieces : List Piece) (bytes : List ℕ) → Reads res pieces bytes → res ≡ Some parts → AreOfMoment parts → (r : ℤ) → r ≡ seconds_by pieces parts → (t : ℤ) → (Some r ≡ Some t) ↔ IsStamp pieces t bytes
stamp_yes res parts pieces bytes h is m r e t = (
  λ s. record { parts = parts; reading = (h parts).0 is; moment = m; is = sym (same_Some r t s) ∙ e },
  λ s. ap Some (e ∙ (ap (seconds_by pieces) (same_Some parts s.parts (sym is ∙ (h s.parts).1 s.reading)) ∙ sym s.is)),
)

pub stamp_no : (res : Option StampParts) (pieces : List Piece) (bytes : List ℕ) → Reads res pieces bytes → res ≡ None → (t : ℤ) → (None ≡ Some t) ↔ IsStamp pieces t bytes
stamp_no res pieces bytes h is t = ((λ e. absurd (cc)), (λ s. absurd (let e : res ≡ Some s.parts = (h s.parts).1 s.reading in cc)))

pub stamp_none : (res : Option StampParts) (parts : StampParts) (pieces : List Piece) (bytes : List ℕ) → Reads res pieces bytes → res ≡ Some parts → (AreOfMoment parts → ⊥) → (t : ℤ) → (None ≡ Some t) ↔ IsStamp pieces t bytes
stamp_none res parts pieces bytes h is n t = ((λ e. absurd (cc)), (λ s. absurd (n (subst AreOfMoment (sym (same_Some parts s.parts (sym is ∙ (h s.parts).1 s.reading))) s.moment))))
