use Rattle.std.proofs.Common.{◌∙◌, sym, ap, subst, List, ℕ, Option, Ok}
use Rattle.lr_lex.specs.declared.item.Item.{Item}
use Rattle.lr_lex.specs.Items.{items}
use Rattle.lr_lex.specs.Holding.{FirstOf}
use Rattle.lr_lex.proofs.Stepping.{near_item, line_nothing, line_item, line_of_first, small}
use Rattle.lr_lex.proofs.taking.step_line.Goals as goal

pub take_nothing-requires-clause-tells : goal.take_nothing-requires-clause-tells
take_nothing-requires-clause-tells c =
    let e = subst (λ (o : Option Item). FirstOf (items c.deref.result.now) (Ok o)) c.in-Ok-None.field-0-is c.in-Ok-None.ensures in
    line_nothing c.args.held.now c.requires.held c.requires.begun c.requires.next (ap (λ (q : List ℕ). items q) (sym c.deref.ensures.value) ∙ e)

pub take_item-requires-clause-near : goal.take_item-requires-clause-near
take_item-requires-clause-near c =
    let e = subst (λ (o : Option Item). FirstOf (items c.deref.result.now) (Ok o)) c.in-Ok-Some.field-0-is c.in-Ok-Some.ensures in
    let is = ap (λ (q : List ℕ). items q) (sym c.deref.ensures.value) ∙ e.1 in
    let few = small c.args.held.now c.requires.held c.requires.next in
    near_item c.args.held.now.down c.args.held.now.at c.args.held.now.bytes.items c.in-Ok-Some.item e.0 is few.1
    (line_of_first c.args.held.now c.requires.held c.requires.begun c.requires.next (Ok c.in-Ok-Some.item) e.0 is) few.0

pub take_item-requires-clause-tells : goal.take_item-requires-clause-tells
take_item-requires-clause-tells c =
    let e = subst (λ (o : Option Item). FirstOf (items c.deref.result.now) (Ok o)) c.in-Ok-Some.field-0-is c.in-Ok-Some.ensures in
    line_item c.args.held.now c.requires.held c.requires.begun c.requires.next c.in-Ok-Some.item e.0 (ap (λ (q : List ℕ). items q) (sym c.deref.ensures.value) ∙ e.1)
