-- The places of members that are moved.
use Rattle.std.proofs.Common.{◌≡◌, ℕ, true, false, not, List}
use Rattle.std.proofs.lemmas.Bool.{not-true}
use Rattle.lr_rules.specs.declared.rule.Count.{Count}
use Rattle.lr_family.proofs.Numbers.{Every, every_as, every_both, every_filter, every_passes}
use Rattle.lr_chain.specs.Rotation.{is_left, kept}

pub kept_stay : (c : Count) (places : List ℕ) → Every (λ k. is_left c k ≡ false) (kept c places)
kept_stay c places = every_as (λ k. not (is_left c k) ≡ true) (λ k. is_left c k ≡ false) (kept c places) (λ k e. not-true (is_left c k) e) (every_passes (λ k. not (is_left c k)) places)

-- what holds of each place that the count leaves room for holds of each of these
pub kept_as : (P : ℕ → Type 0) (c : Count) (places : List ℕ) → Every (λ k. is_left c k ≡ false → P k) places → Every P (kept c places)
kept_as P c places h = every_both (λ k. is_left c k ≡ false) (λ k. is_left c k ≡ false → P k) P (kept c places) (λ k e f. f e) (kept_stay c places) (every_filter (λ k. is_left c k ≡ false → P k) (λ k. not (is_left c k)) places h)
