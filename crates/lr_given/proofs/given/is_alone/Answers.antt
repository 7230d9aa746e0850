use Rattle.std.proofs.Common.{◌≡◌, ◌<◌, ◌≤◌, ℕ, arith, List, [], ◌∷◌, length, get_or, sym, ap, ◌∙◌}
use Rattle.std.proofs.lemmas.Bool.Decides.{Decides-eqb}
use Rattle.std.proofs.lemmas.Slice.Eq.{slice_eq-Decides}
use Rattle.lr_given.proofs.given.is_alone.Goals as goal

-- a list of one has its first alone
alone : (words : List (List ℕ)) (first : List ℕ) → first ≡ get_or words 0 first → 1 ≤ length words → length words < 2
    → words ≡ first ∷ []
alone [] first e some few = absurd (omega (arith, some))
alone (w ∷ []) first e some few = ap (λ x. x ∷ []) (sym e)
alone (w ∷ x ∷ ws) first e some few = absurd (omega (arith, few))

head_is : (x y : List ℕ) → x ∷ [] ≡ y ∷ [] → x ≡ y
head_is x y e = ap (λ l. get_or l 0 x) e

pub returns-in-len1 : goal.returns-in-len1
returns-in-len1 c =
    let same = slice_eq-Decides Decides-eqb c.bytes.result.now c.args.wanted.now c.eq.result c.eq.ensures in
    let first = alone c.args.words.now c.word-item.result c.word-item.is c.in-len1.len_at_least c.in-len1.len_below in (
      (λ e. first ∙ ap (λ x. x ∷ []) (sym c.bytes.ensures.bytes ∙ same.0 e)),
      (λ e. same.1 (c.bytes.ensures.bytes ∙ head_is _ _ (sym first ∙ e))),
    )
