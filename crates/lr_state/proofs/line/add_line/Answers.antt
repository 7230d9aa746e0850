use Rattle.std.proofs.Common.{◌≡◌, ◌∙◌, ap, sym, subst, List, ℕ, Bool, true, false, [], ◌==◌, length, None, is_some, option_map, Ok}
use Rattle.lr_state.specs.Answer.{LineSaysOnly}
use Rattle.lr_state.specs.Reading.{seen_name}
use Rattle.lr_state.specs.Table.{StateEntry, moment_of}
use Rattle.lr_state.proofs.Texts.{none_from}
use Rattle.lr_state.proofs.Lines.{says-bad_name, says-bad_date, says-twice, says-new}
use Rattle.lr_state.proofs.line.add_line.Goals as goal

full : (line : List ℕ) (b : Bool) → b ≡ (length line == 0) → b ≡ false → line ≡ [] → ⊥
full line b is filled e =
    let never : false ≡ true = sym filled ∙ is ∙ ap (λ (l : List ℕ). length l == 0) e in
    absurd (cc never)

pub returns-in_default : goal.returns-in_default
returns-in_default c =
    says-bad_name c.args.state.now c.args.line.now (sym (ap (option_map seen_name) c.in_default.is) ∙ c.in_ok-name.ensures)
    (full c.args.line.now c.is_empty.result c.is_empty.ensures c.if-is_empty.false)

pub returns-in_default-moment : goal.returns-in_default-moment
returns-in_default-moment c =
    says-bad_date c.args.state.now c.args.line.now (c.in-Some.name.items, c.in-Some.rest.now) (sym (ap (option_map seen_name) c.in-Some.is) ∙ c.in_ok-name.ensures)
    (full c.args.line.now c.is_empty.result c.is_empty.ensures c.if-is_empty.false) c.in_default-moment.ensures

pub returns-then-is_some : goal.returns-then-is_some
returns-then-is_some c =
    let known : is_some (moment_of c.args.state.now c.in-Some.name.items) ≡ true =
    ap (λ (n : List ℕ). is_some (moment_of c.args.state.now n)) (sym c.as_slice.ensures.value) ∙ ap is_some (sym c.get.ensures) ∙ sym c.is_some.ensures ∙ c.if-is_some.true in
    says-twice c.args.state.now c.args.line.now (c.in-Some.name.items, c.in-Some.rest.now) c.in-Some-moment.at (sym (ap (option_map seen_name) c.in-Some.is) ∙ c.in_ok-name.ensures)
    (full c.args.line.now c.is_empty.result c.is_empty.ensures c.if-is_empty.false) c.in-Some-moment.ensures known

pub returns : goal.returns
returns c =
    let new : moment_of c.args.state.now c.in-Some.name.items ≡ None =
    none_from _ (ap (λ (n : List ℕ). is_some (moment_of c.args.state.now n)) (sym c.as_slice.ensures.value) ∙ ap is_some (sym c.get.ensures) ∙ sym c.is_some.ensures ∙ c.if-is_some.false) in
    subst (λ (t : List StateEntry). LineSaysOnly c.args.state.now c.args.line.now (Ok t)) (sym c.in_ok-add.ensures.ok)
    (says-new c.args.state.now c.args.line.now (c.in-Some.name.items, c.in-Some.rest.now) c.in-Some-moment.at (sym (ap (option_map seen_name) c.in-Some.is) ∙ c.in_ok-name.ensures)
    (full c.args.line.now c.is_empty.result c.is_empty.ensures c.if-is_empty.false) c.in-Some-moment.ensures new)
