use Rattle.lr_lex.proofs.Scanned.{at_ink, bytes_at_ink, not_gap}
use Rattle.lr_lex.proofs.scan.Scan.take.Goals as goal

pub returns-in_ok-extend : goal.returns-in_ok-extend
returns-in_ok-extend c = record {
  words = at_ink _ _ _ _ (not_gap _ c.in_default.not-Blank) c.in_ok-extend.ensures.extends;
  bytes = bytes_at_ink _ _ _ _ (not_gap _ c.in_default.not-Blank) c.in_ok-extend.ensures.extends;
  len = c.in_ok-extend.ensures.len;
}
