use Rattle.std.proofs.Common.{◌≡◌, ◌≤◌, ℕ, List, Option, Some, None, sym, ◌∙◌}
use Rattle.std.specs.Prelude.{decimal, IfNone}
use Rattle.lr_family.specs.Named.{framed}
use Rattle.lr_family.proofs.Unique.{frame_same}
use Rattle.lr_family.proofs.number.number_of.Goals as goal

none_of : (base ext name digits : List ℕ) (r : Option ℕ) → name ≡ framed base digits ext → IfNone r ((number : ℕ) → number ≤ 4294967295 → digits ≡ decimal number → ⊥) → IfNone r ((number : ℕ) → number ≤ 4294967295 → name ≡ framed base (decimal number) ext → ⊥)
none_of base ext name digits (Some n) e h = tt
none_of base ext name digits None e h = λ number i f. h number i (frame_same base digits (decimal number) ext (sym e ∙ f))

pub returns-in-Some-clause-none : goal.returns-in-Some-clause-none
returns-in-Some-clause-none c = none_of c.args.base.now c.args.ext.now c.args.name.now c.in-Some.digits.now c.small_number.result c.in-Some.ensures c.small_number.ensures.none
