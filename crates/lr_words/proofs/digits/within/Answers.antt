use Rattle.std.proofs.Common.{◌≡◌, ℕ, ◌<◌, ◌≤◌, ◌⊎◌, inl, inr, arith}
use Rattle.std.proofs.lemmas.Bool.{cases_lt}
use Rattle.lr_words.specs.Numbers.{number_of}
use Rattle.lr_words.proofs.Numbers.{digits_of}
use Rattle.lr_words.proofs.digits.within.Goals as goal

past : (limit n value : ℕ) → (n ≤ limit → value ≡ n) → limit < value → limit < n
past limit n value small gt = by_size (cases_lt limit n)
  where
    by_size : (limit < n) ⊎ (n ≤ limit) → limit < n
    by_size (inl lt) = lt
    by_size (inr le) = let same : value ≡ n = small le in absurd (omega arith)

fits : (limit n value : ℕ) → (limit < n → limit < value) → value ≤ limit → n ≤ limit
fits limit n value large le = by_size (cases_lt limit n)
  where
    by_size : (limit < n) ⊎ (n ≤ limit) → n ≤ limit
    by_size (inl lt) = let gt : limit < value = large lt in absurd (omega arith)
    by_size (inr le) = le

pub capped-value-requires : goal.capped-value-requires
capped-value-requires c = digits_of c.args.word.now c.requires

pub returns-then-value-from : goal.returns-then-value-from
returns-then-value-from c = past c.args.limit (number_of c.args.word.now) c.capped-value.result c.capped-value.ensures.small (omega (arith, c.if-value-from.true))

pub returns-else-value-from : goal.returns-else-value-from
returns-else-value-from c =
    let le = fits c.args.limit (number_of c.args.word.now) c.capped-value.result c.capped-value.ensures.large (omega (arith, c.if-value-from.false)) in
    (c.capped-value.ensures.small le, le)
