use Rattle.std.proofs.Common.{◌≡◌, ◌||◌, Option, Some, MatchOption, refl, sym, subst, ap, ◌∙◌}
use Rattle.lr_rules.specs.Limits.{are_first, is_epoch_alone}
use Rattle.lr_words.proofs.Formats.{no_fields}
use Rattle.lr_words.proofs.stamp.format.Goals as goal

some_of : {A : Type 0} (P : Type 0) (Q : A → Type 0) (o : Option A) (x : A) → MatchOption o P Q → o ≡ Some x → Q x
some_of P Q o x h e = let R = λ (o : Option _). MatchOption o P Q in subst R e h

pub returns-else-has_fields : goal.returns-else-has_fields
returns-else-has_fields c =
    let read = some_of _ _ c.in_ok-pieces.field-0 c.in-Some.pieces c.in_ok-pieces.ensures c.in-Some.is in
    let none = ap (λ ps. are_first ps || is_epoch_alone ps) (sym c.deref.ensures.value) ∙ (sym c.has_fields.ensures ∙ c.if-has_fields.false) in
    (refl, λ qs w. no_fields c.args.word.now c.in-Some.pieces.items qs read.0 read.1 none w)
