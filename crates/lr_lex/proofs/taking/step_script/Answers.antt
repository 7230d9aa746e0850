use Rattle.std.proofs.Common.{◌∙◌, sym, ap, List, ℕ}
use Rattle.lr_lex.specs.Lines.{line_at}
use Rattle.lr_lex.specs.Items.{is_end}
use Rattle.lr_lex.proofs.Stepping.{line_part, script_more, script_ends}
use Rattle.lr_lex.proofs.taking.step_script.Goals as goal

pub end_script-requires-clause-ends : goal.end_script-requires-clause-ends
end_script-requires-clause-ends c = script_ends c.args.held.now c.requires.held c.requires.begun
    (λ m a. ap (λ (l : List ℕ). is_end (line_at m a l)) (sym (line_part c.args.held.now c.requires.held c.deref.result.now c.deref.ensures.value)) ∙ (sym (c.is_end.ensures m a) ∙ c.if-is_end.true))

pub keep_line-requires-clause-begun : goal.keep_line-requires-clause-begun
keep_line-requires-clause-begun c = script_more c.args.held.now c.requires.held c.requires.begun
    (λ m a. ap (λ (l : List ℕ). is_end (line_at m a l)) (sym (line_part c.args.held.now c.requires.held c.deref.result.now c.deref.ensures.value)) ∙ (sym (c.is_end.ensures m a) ∙ c.if-is_end.false))
