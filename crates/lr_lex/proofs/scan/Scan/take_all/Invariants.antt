use Rattle.std.proofs.Common.{◌≡◌, ◌+◌, ◌++◌, ◌≤◌, List, drop}
use Rattle.std.specs.Prelude.{IsUtf8}
use Rattle.lr_lex.specs.declared.sign.Sign.{Sign}
use Rattle.lr_lex.specs.Scanning.{to_come, draft_bytes, sign_bytes}
use Rattle.lr_lex.proofs.scan.Scan.take_all.Given as goal

abbrev pub invariant-loop-i : goal.invariant-loop-i
invariant-loop-i l = record {
  len : l.self.len ≤ l.fn.self.len + l.i;
  utf8 : IsUtf8 (draft_bytes l.self ++ sign_bytes (drop l.i l.signs));
  words : (ss : List Sign) → to_come l.self (l.at + l.i) (drop l.i l.signs ++ ss) ≡ to_come l.fn.self l.at (l.signs ++ ss);
}
