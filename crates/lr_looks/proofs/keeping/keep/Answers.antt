use Rattle.std.proofs.Common.{List, length, sym, subst}
use Rattle.lr_looks.specs.declared.found.Found.{Found}
use Rattle.lr_looks.specs.Internal.{AreWithinCounts}
use Rattle.lr_looks.specs.Found.{all_found_in}
use Rattle.lr_looks.specs.Choices.{IsChoiceAmong}
use Rattle.lr_looks.proofs.Choosing.{are_within}
use Rattle.lr_looks.proofs.keeping.keep.Goals as goal

pub add_choices-requires-clause-within : goal.add_choices-requires-clause-within
add_choices-requires-clause-within c =
    subst (λ (fs : List Found). AreWithinCounts (length c.args.reserved.now) (length fs) c.deref-3.result.now) (sym c.deref-2.ensures.value)
    (subst (AreWithinCounts (length c.args.reserved.now) (length c.args.found.items)) (sym c.deref-3.ensures.value)
    (are_within c.args.reserved.now c.args.found.items c.in_ok-choices.choices.items (subst (λ (fs : List Found). IsChoiceAmong c.args.reserved.now (all_found_in fs) c.in_ok-choices.choices.items) c.deref.ensures.value c.in_ok-choices.ensures)))
