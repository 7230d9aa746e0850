use Rattle.std.proofs.Common.{rules, ◌≡◌, ℕ, List, ◌∷◌, Err}
use Rattle.lr_shown.proofs.Joined.{puts_all, puts_broken, puts_next}
use Rattle.lr_shown.proofs.programs.put_words.Goals as goal

pub returns-in_err-put_word : goal.returns-in_err-put_word
returns-in_err-put_word g c =
    let failed : c.from_residual.result ≡ Err c.in_err-put_word.field-0.0 = search rules in
    puts_broken (λ (word : List ℕ). 32 ∷ word) c.args.words.now c.loop-word.word-index c.word-item.result c.in_err-put_word.field-0.0 c.in_err-put_word.field-0.0 c.from_residual.result _ _ _ _ _ _ c.word-item.is c.loop-word-test.true failed c.loop-word.invariant c.in_err-put_word.ensures

pub loop-word-preserved : goal.loop-word-preserved
loop-word-preserved g c = puts_next (λ (word : List ℕ). 32 ∷ word) c.args.words.now c.loop-word.word-index c.word-item.result _ _ _ _ _ _ c.word-item.is c.loop-word-test.true c.loop-word.invariant c.in_ok-put_word.ensures

pub returns : goal.returns
returns g c = puts_all (λ (word : List ℕ). 32 ∷ word) c.args.words.now c.loop-word.word-index _ _ _ _ c.loop-word-test.false c.loop-word.invariant
