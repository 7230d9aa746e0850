use Rattle.std.proofs.Common.{◌≡◌, ◌∙◌, ap, List, ℕ, ◌-◌, length, take, drop}
use Rattle.std.specs.List.{position_or_len}
use Rattle.lr_state.specs.Reading.{before}
use Rattle.lr_state.proofs.Cuts.{take-first, drop-first}
use Rattle.std.proofs.lemmas.List.{take_rest}
use Rattle.lr_rules.specs.Bytes.{is_blank}
use Rattle.lr_state.proofs.name.unquoted.Goals as goal

pub returns : goal.returns
returns c =
    let items : c.in_ok-name.name.items ≡ take c.name_end-end.result c.args.line.now = c.in_ok-name.ensures.items_if_clones_equal (λ x y e. e) in
    let end = c.name_end-end.ensures.end in
    ap (λ (xs : List ℕ). (xs, take (length c.args.line.now - c.name_end-end.result) (drop c.name_end-end.result c.args.line.now))) items
    ∙ ap (λ (xs : List ℕ). (take c.name_end-end.result c.args.line.now, xs)) (take_rest c.args.line.now c.name_end-end.result)
    ∙ ap (λ (n : ℕ). (take n c.args.line.now, drop n c.args.line.now)) end
    ∙ ap (λ (xs : List ℕ). (xs, drop (position_or_len is_blank c.args.line.now) c.args.line.now)) (take-first is_blank c.args.line.now)
    ∙ ap (λ (xs : List ℕ). (before is_blank c.args.line.now, xs)) (drop-first is_blank c.args.line.now)
