use Rattle.std.proofs.Common.{◌≡◌, true, false, arith, below_more}
use Rattle.lr_nights.proofs.WordLemmas.{found_number}
use Rattle.lr_nights.proofs.words.number_of.Goals as goal

pub loop-number-preserved : goal.loop-number-preserved
loop-number-preserved c = below_more _ _ c.loop-number.invariant (λ low e. let yes : c.is_number.result ≡ true = c.is_number.ensures.1 e in let no_one : c.is_number.result ≡ false = c.if-is_number.false in absurd (cc))

pub returns-then-is_number : goal.returns-then-is_number
returns-then-is_number c = found_number c.args.text.now c.loop-number.number (c.is_number.ensures.0 c.if-is_number.true) (omega arith) (omega arith)

pub returns : goal.returns
returns c = λ n. (λ s. absurd (cc), λ h. absurd (c.loop-number.invariant n (omega (arith, h.2)) h.1 h.0))
