use Rattle.std.proofs.Common.{◌∙◌, ap, drop, ℕ}
use Rattle.lr_state.proofs.Cuts.{drop-first}
use Rattle.std.proofs.lemmas.List.{take_rest}
use Rattle.lr_rules.specs.Bytes.{is_no_blank}
use Rattle.lr_state.proofs.moment.skip_blanks.Goals as goal

pub returns : goal.returns
returns c =
    take_rest c.args.text.now c.blanks_end.result
    ∙ ap (λ (n : ℕ). drop n c.args.text.now) c.blanks_end.ensures.end ∙ drop-first is_no_blank c.args.text.now
