use Rattle.std.proofs.Common.{◌+◌, [], length, sym, ap, ◌∙◌, append-nil}
use Rattle.lr_lex.specs.Scanning.{to_come}
use Rattle.lr_lex.proofs.Scanned.{at_end}
use Rattle.lr_lex.proofs.scan.Scan.finish.Goals as goal

pub returns : goal.returns
returns c =
    c.in_ok-end.ensures.ends.words ∙ at_end c.take_all.new.self (c.args.at + length c.args.signs.now) ∙ sym (c.in_ok-take_all.ensures.words [])
    ∙ ap (to_come c.args.self c.args.at) (append-nil c.args.signs.now)
