use Rattle.std.proofs.Common.{◌≡◌, ℕ, ◌+◌, ◌*◌, ◌<◌, ◌≤◌, take, get_or, arith, inl, inr, ◌⊎◌}
use Rattle.std.proofs.lemmas.Bool.{cases_lt}
use Rattle.std.specs.Char.{digit_value}
use Rattle.std.proofs.lemmas.Int.Digits.{digits_value_more}
use Rattle.lr_rules.specs.Bytes.{is_digit}
use Rattle.lr_words.specs.Numbers.{number_of}
use Rattle.lr_words.proofs.Numbers.{digit_of, at_place}
use Rattle.lr_words.proofs.digits.capped.Goals as goal
use Rattle.lr_words.proofs.digits.capped.Goals.{then-value-from, else-value-from}

record Capped (limit n value : ℕ) : Type 0 where
  pub small : n ≤ limit → value ≡ n
  pub large : limit < n → limit < value

-- one more digit
more : (limit n m value next digit : ℕ) → Capped limit n value → m ≡ n * 10 + digit → value ≤ limit → next ≡ value * 10 + digit → Capped limit m next
more limit n m value next digit h me le ne = by_size (cases_lt limit n)
  where
    by_size : (limit < n) ⊎ (n ≤ limit) → Capped limit m next
    by_size (inl lt) = let gt : limit < value = h.large lt in absurd (omega arith)
    by_size (inr small) = let same : value ≡ n = h.small small in record { small = λ s. omega arith; large = λ s. omega arith }

past : (limit n m value digit : ℕ) → Capped limit n value → m ≡ n * 10 + digit → limit < value → Capped limit m value
past limit n m value digit h me lt = by_size (cases_lt limit n)
  where
    by_size : (limit < n) ⊎ (n ≤ limit) → Capped limit m value
    by_size (inl gt) = record { small = λ s. absurd (omega arith); large = λ s. lt }
    by_size (inr small) = let same : value ≡ n = h.small small in absurd (omega arith)

pub loop-digit-preserved : goal.loop-digit-preserved
loop-digit-preserved c =
    let ds = c.args.digits.now in
    let limit = c.args.limit in
    let i = c.loop-digit.digit-index in
    let d = digit_of (get_or ds i 0) (at_place is_digit ds i c.requires c.loop-digit-test.true) in
    let step = digits_value_more 10 ds i c.loop-digit-test.true in
    let h : Capped limit (number_of (take i ds)) c.loop-digit.value = record { small = c.loop-digit.invariant.small; large = c.loop-digit.invariant.large } in
    elim c.if-value-from.branch [
      | then-value-from w ↦
          let r = more limit (number_of (take i ds)) (number_of (take (i + 1) ds)) c.loop-digit.value c.if-value-from.value (digit_value (get_or ds i 0)) h step (omega (arith, w.if-value-from.true)) (omega (arith, w.value-is, d.0, d.1, d.2, w.from-then-value-from.ensures)) in
          record { small = r.small; large = r.large }
      | else-value-from w ↦
          let r = past limit (number_of (take i ds)) (number_of (take (i + 1) ds)) c.loop-digit.value (digit_value (get_or ds i 0)) h step (omega (arith, w.if-value-from.false)) in
          record { small = λ s. omega (arith, w.value-is, r.small s); large = λ s. omega (arith, w.value-is, r.large s) }
    ]
