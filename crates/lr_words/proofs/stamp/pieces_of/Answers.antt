use Rattle.std.proofs.Common.{◌≡◌, List, length, sym, subst, ap, arith}
use Rattle.std.proofs.lemmas.Bool.Decides.{nat_tests}
use Rattle.lr_rules.specs.declared.rule.Piece.{Piece}
use Rattle.lr_words.proofs.Pieces.{ReadTo, one_more, refused}
use Rattle.lr_words.proofs.stamp.pieces_of.Goals as goal

pub returns-in_default : goal.returns-in_default
returns-in_default c =
    refused c.args.word.now c.loop-left.pieces.items c.loop-left.left.now c.loop-left.invariant c.in_default.ensures
    (λ e. let none : length c.loop-left.left.now ≡ 0 = ap length e in grind (arith, nat_tests))

pub loop-left-preserved : goal.loop-left-preserved
loop-left-preserved c =
    subst (λ (ps : List Piece). ReadTo c.args.word.now ps c.in-Some.behind.now) (sym c.in_ok-push.ensures.items)
    (one_more c.args.word.now c.loop-left.pieces.items c.loop-left.left.now c.in-Some.piece c.in-Some.behind.now c.loop-left.invariant c.in-Some.ensures)
