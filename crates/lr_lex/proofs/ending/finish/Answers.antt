use Rattle.std.proofs.Common.{◌≡◌, ◌∙◌, sym, ap, subst, List, [], ◌∷◌, ℕ, Option, Ok, Err, arith}
use Rattle.lr_lex.specs.declared.item.Item.{Item}
use Rattle.lr_lex.specs.declared.item.LexFault.{LexFault}
use Rattle.lr_lex.specs.Items.{Told, items}
use Rattle.lr_lex.specs.Holding.{FirstOf, coming}
use Rattle.lr_lex.proofs.Left.{left_small, left_one, left_told, left_nothing, left_none}
use Rattle.lr_lex.proofs.Passing.{dropped_few, dropped_held}
use Rattle.lr_lex.proofs.Stepping.{other_kind, by_other, near_item, not_memory}
use Rattle.lr_lex.proofs.ending.finish.Goals as goal

pub move_item-requires : goal.move_item-requires
move_item-requires c =
    let e = subst (λ (o : Option Item). FirstOf (items c.deref.result.now) (Ok o)) c.in-Ok-Some.field-0-is c.in-Ok-Some.ensures in
    let is = ap (λ (q : List ℕ). items q) (sym c.deref.ensures.value) ∙ e.1 in
    let few = left_small c.args.held.now c.requires.held c.requires.over (Ok c.in-Ok-Some.item) e.0 is in
    near_item c.args.held.now.down c.args.held.now.at c.args.held.now.bytes.items c.in-Ok-Some.item e.0 is few.1 (left_one c.args.held.now c.requires.held c.requires.over (Ok c.in-Ok-Some.item) e.0 is).line few.0

pub move_fault-requires : goal.move_fault-requires
move_fault-requires c =
    let e = other_kind c.in-Err.fault.kind (Unit {0}) ((us : List Told) × (items c.deref.result.now ≡ Err c.in-Err.fault ∷ us)) c.in-Err.ensures (not_memory c.in-Err.fault.kind c.in-NoEndscript.is) in
    let is = ap (λ (q : List ℕ). items q) (sym c.deref.ensures.value) ∙ e.1 in
    let few = (left_small c.args.held.now c.requires.held c.requires.over (Err c.in-Err.fault) e.0 is).0 in
    let line = (left_one c.args.held.now c.requires.held c.requires.over (Err c.in-Err.fault) e.0 is).line in
    omega (arith, few, line)

pub returns-in-Ok-None-clause-held : goal.returns-in-Ok-None-clause-held
returns-in-Ok-None-clause-held c = dropped_held c.args.held.now c.drop_all.new.held c.requires.held c.drop_all.ensures

pub returns-in-Ok-None-clause-ends : goal.returns-in-Ok-None-clause-ends
returns-in-Ok-None-clause-ends c =
    let e = subst (λ (o : Option Item). FirstOf (items c.deref.result.now) (Ok o)) c.in-Ok-None.field-0-is c.in-Ok-None.ensures in
    (left_nothing c.args.held.now c.requires.held c.requires.over (ap (λ (q : List ℕ). items q) (sym c.deref.ensures.value) ∙ e), left_none c.args.held.now c.requires.held c.requires.over c.drop_all.new.held c.drop_all.ensures)

pub returns-in-Ok-Some-clause-held : goal.returns-in-Ok-Some-clause-held
returns-in-Ok-Some-clause-held c = dropped_held c.args.held.now c.drop_all-in-Ok-Some.new.held c.requires.held c.drop_all-in-Ok-Some.ensures

pub returns-in-Ok-Some-clause-ends : goal.returns-in-Ok-Some-clause-ends
returns-in-Ok-Some-clause-ends c =
    let e = subst (λ (o : Option Item). FirstOf (items c.deref.result.now) (Ok o)) c.in-Ok-Some.field-0-is c.in-Ok-Some.ensures in
    let is = ap (λ (q : List ℕ). items q) (sym c.deref.ensures.value) ∙ e.1 in
    subst (λ (x : Item). coming c.args.held.now [] ≡ Ok x ∷ coming c.drop_all-in-Ok-Some.new.held []) (sym c.move_item.ensures)
    (left_told c.args.held.now c.requires.held c.requires.over (Ok c.in-Ok-Some.item) e.0 c.drop_all-in-Ok-Some.new.held is c.drop_all-in-Ok-Some.ensures)

pub returns-in-NoEndscript : goal.returns-in-NoEndscript
returns-in-NoEndscript c =
    let not = not_memory c.in-Err.fault.kind c.in-NoEndscript.is in
    let e = other_kind c.in-Err.fault.kind (Unit {0}) ((us : List Told) × (items c.deref.result.now ≡ Err c.in-Err.fault ∷ us)) c.in-Err.ensures not in
    let is = ap (λ (q : List ℕ). items q) (sym c.deref.ensures.value) ∙ e.1 in
    record {
      held = dropped_held c.args.held.now c.drop_all-in-NoEndscript.new.held c.requires.held c.drop_all-in-NoEndscript.ensures;
      few = dropped_few c.args.held.now c.drop_all-in-NoEndscript.new.held c.drop_all-in-NoEndscript.ensures;
      ends = by_other c.move_fault.result.kind (coming c.drop_all-in-NoEndscript.new.held [] ≡ coming c.args.held.now []) (coming c.args.held.now [] ≡ Err c.move_fault.result ∷ coming c.drop_all-in-NoEndscript.new.held [])
          (λ m. not (sym (ap (λ (x : LexFault). x.kind) c.move_fault.ensures) ∙ m))
          (subst (λ (x : LexFault). coming c.args.held.now [] ≡ Err x ∷ coming c.drop_all-in-NoEndscript.new.held []) (sym c.move_fault.ensures)
          (left_told c.args.held.now c.requires.held c.requires.over (Err c.in-Err.fault) e.0 c.drop_all-in-NoEndscript.new.held is c.drop_all-in-NoEndscript.ensures));
    }
