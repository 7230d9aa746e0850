use Rattle.std.proofs.Common.{rules, tests, ◌∙◌, ap, Option, ℕ, length}
use Rattle.std.specs.Prelude.{unwrap_or}
use Rattle.std.proofs.lemmas.Iterator.Search.{position_from_yields_List}
use Rattle.std.proofs.lemmas.Iterator.{YieldsList-from_slice}
use Rattle.lr_rules.specs.Bytes.{is_no_blank}
use Rattle.lr_state.proofs.Cuts.{unwrap_position}
use Rattle.lr_state.proofs.moment.blanks_end.Goals as goal

pub returns-clause-end : goal.returns-clause-end
returns-clause-end c =
    let found = position_from_yields_List is_no_blank _ _ _ c.position.ensures.ran (YieldsList-from_slice c.args.text.now cc) (λ x b q k. search (rules, tests)) in
    c.unwrap_or.ensures
    ∙ ap (λ (o : Option ℕ). unwrap_or o (length c.args.text.now)) found
    ∙ unwrap_position is_no_blank c.args.text.now
