use Rattle.std.proofs.Common.{◌≡◌, ℕ, ◌+◌, ◌*◌, ◌^◌, ◌≤◌, get_or, ap, ◌∙◌, arith, add-one}
use Rattle.std.proofs.Math.Nat.{pow-le-pow_right, pow-suc}
use Rattle.std.proofs.lemmas.Int.Digits.{digits_value_more}
use Rattle.lr_words.specs.Numbers.{is_octal}
use Rattle.lr_words.proofs.Numbers.{octal_of, at_place}
use Rattle.lr_words.proofs.permissions.bits_of.Goals as goal

small : (i : ℕ) → i ≤ 3 → 8 ^ i ≤ 512
small i le = pow-le-pow_right {n = 8} (omega arith) {i = i} {j = 3} le

more : (i : ℕ) → 8 ^ (i + 1) ≡ 8 ^ i * 8
more i = ap (λ k. 8 ^ k) (add-one i) ∙ pow-suc 8 i

pub overflow_mul-bits : goal.overflow_mul-bits
overflow_mul-bits c = let s = small c.loop-digit.digit-index (omega (arith, c.requires.few, c.loop-digit-test.true)) in omega (arith, s, c.loop-digit.invariant.bound)

pub overflow_add-bits : goal.overflow_add-bits
overflow_add-bits c =
    let ds = c.args.digits.now in
    let i = c.loop-digit.digit-index in
    let d = octal_of (get_or ds i 0) (at_place is_octal ds i c.requires.octal c.loop-digit-test.true) in
    let s = small i (omega (arith, c.requires.few, c.loop-digit-test.true)) in
    omega (arith, s, d.0, d.1, c.loop-digit.invariant.bound, c.from.ensures)

pub loop-digit-preserved : goal.loop-digit-preserved
loop-digit-preserved c =
    let ds = c.args.digits.now in
    let i = c.loop-digit.digit-index in
    let d = octal_of (get_or ds i 0) (at_place is_octal ds i c.requires.octal c.loop-digit-test.true) in
    let step = digits_value_more 8 ds i c.loop-digit-test.true in
    let next = more i in
    record {
      value = omega (arith, step, d.0, d.1, d.2, c.loop-digit.invariant.value, c.from.ensures);
      bound = omega (arith, next, d.0, d.1, c.loop-digit.invariant.bound, c.from.ensures);
    }
