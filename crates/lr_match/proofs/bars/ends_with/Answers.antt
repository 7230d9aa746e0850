use Rattle.std.proofs.Common.{sym, ◌∙◌}
use Rattle.lr_match.proofs.Ends.{ends_tell}
use Rattle.lr_match.proofs.bars.ends_with.Goals as goal

pub returns : goal.returns
returns c = let tell = ends_tell c.args.bytes.now c.args.end.now in (λ t. tell.0 (sym c.is_end.ensures ∙ t), λ h. c.is_end.ensures ∙ tell.1 h)
