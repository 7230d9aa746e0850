use Rattle.std.proofs.Common.{◌++◌, sym, ap, ◌∙◌}
use Rattle.std.specs.Prelude.{encode_utf8}
use Rattle.std.proofs.lemmas.Str.{chars_past_char}
use Rattle.lr_match.proofs.first.first.Goals as goal

pub returns-clause-first : goal.returns-clause-first
returns-clause-first g c = chars_past_char c.args.text.now c.as_str.result.now c.in_ok-c.c c.utf8.text (sym c.chars-left.ensures.rest ∙ c.in_ok-c.ensures.steps.0 ∙ ap (λ t. encode_utf8 c.in_ok-c.c ++ t) (sym c.as_str.ensures))
