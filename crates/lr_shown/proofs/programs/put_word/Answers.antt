use Rattle.std.proofs.Common.{◌∙◌, ◌∷◌, ◌++◌, [], ap, ℕ, List}
use Rattle.std.proofs.lemmas.List.{append-nil}
use Rattle.lr_shown.proofs.Joined.{puts_as}
use Rattle.lr_shown.proofs.programs.put_word.Goals as goal

pub returns : goal.returns
returns g c = puts_as (32 ∷ (c.bytes.result.now ++ [])) (32 ∷ c.args.word.now) c.put_two.result _ _ _ _ (ap (λ (t : List ℕ). 32 ∷ t) (append-nil c.bytes.result.now ∙ c.bytes.ensures.bytes)) (record {
  whole = c.put_two.ensures.whole;
  part = c.put_two.ensures.part;
  cause = c.put_two.ensures.cause;
  counts = c.put_two.ensures.counts;
})
