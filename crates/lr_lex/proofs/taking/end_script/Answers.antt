use Rattle.std.proofs.Common.{◌≡◌, ◌∙◌, sym, ap, subst, List, ℕ, Option, Ok, Err, ◌∷◌, arith}
use Rattle.lr_lex.specs.declared.item.Item.{Item}
use Rattle.lr_lex.specs.Items.{Told, items}
use Rattle.lr_lex.specs.Holding.{FirstOf}
use Rattle.lr_lex.proofs.Stepping.{other_kind, near_item, script_there, script_next, script_at, small, not_memory}
use Rattle.lr_lex.proofs.taking.end_script.Goals as goal

pub unreachable-requires : goal.unreachable-requires
unreachable-requires c =
    let e = subst (λ (o : Option Item). FirstOf (items c.deref.result.now) (Ok o)) c.in-Ok-None.field-0-is c.in-Ok-None.ensures in
    script_there c.args.held.now c.requires.ends c.requires.next (ap (λ (q : List ℕ). items q) (sym c.deref.ensures.value) ∙ e)

pub take_item-requires-clause-near : goal.take_item-requires-clause-near
take_item-requires-clause-near c =
    let e = subst (λ (o : Option Item). FirstOf (items c.deref.result.now) (Ok o)) c.in-Ok-Some.field-0-is c.in-Ok-Some.ensures in
    let is = ap (λ (q : List ℕ). items q) (sym c.deref.ensures.value) ∙ e.1 in
    let few = small c.args.held.now c.requires.held c.requires.next in
    near_item c.args.held.now.down c.args.held.now.at c.args.held.now.bytes.items c.in-Ok-Some.item e.0 is few.1 (script_at c.args.held.now c.requires.ends c.requires.next (Ok c.in-Ok-Some.item) e.0 is) few.0

pub take_item-requires-clause-tells : goal.take_item-requires-clause-tells
take_item-requires-clause-tells c =
    let e = subst (λ (o : Option Item). FirstOf (items c.deref.result.now) (Ok o)) c.in-Ok-Some.field-0-is c.in-Ok-Some.ensures in
    script_next c.args.held.now c.requires.ends c.requires.next (Ok c.in-Ok-Some.item) e.0 (ap (λ (q : List ℕ). items q) (sym c.deref.ensures.value) ∙ e.1)

pub take_fault-requires : goal.take_fault-requires
take_fault-requires c =
    let f = c.in-Err.ensures in
    let e = other_kind c.in-Err.fault.kind (Unit {0}) ((us : List Told) × (items c.deref.result.now ≡ Err c.in-Err.fault ∷ us)) f (not_memory c.in-Err.fault.kind c.in-NoEndscript.is) in
    let is = ap (λ (q : List ℕ). items q) (sym c.deref.ensures.value) ∙ e.1 in
    record {
      held = c.requires.held;
      near = let a = script_at c.args.held.now c.requires.ends c.requires.next (Err c.in-Err.fault) e.0 is in let b = (small c.args.held.now c.requires.held c.requires.next).0 in omega (arith, a, b);
      tells = script_next c.args.held.now c.requires.ends c.requires.next (Err c.in-Err.fault) e.0 is;
    }
