use Rattle.std.proofs.Common.{◌∙◌, ap, List, ◌<◌, length, get_or, arith}
use Rattle.lr_lex.specs.declared.word.Word.{Word}
use Rattle.lr_lex.proofs.Sofar.{next_is, more_moved, all_moved}
use Rattle.lr_lex.proofs.moving.move_all.Goals as goal

pub overflow_add-word : goal.overflow_add-word
overflow_add-word c =
    let i = c.loop-word.word-index in
    let lt : i < length c.args.words.now = omega (arith, c.loop-word-test.true, c.loop-word.auto.word-items) in
    let same = ap (λ (ws : List Word). get_or ws i c.word-item.result) c.loop-word.invariant.moved ∙ next_is c.args.by i c.args.words.now c.word-item.result in
    let at = ap (λ (w : Word). w.at) same in
    let h = c.requires i c.word-item.result lt in
    omega (arith, at, h)

pub loop-word-preserved : goal.loop-word-preserved
loop-word-preserved c =
    let lt : c.loop-word.word-index < length c.args.words.now = omega (arith, c.loop-word-test.true, c.loop-word.auto.word-items) in
    record { moved = more_moved c.args.by c.loop-word.word-index c.args.words.now c.loop-word.word-items c.word-item.result c.loop-word.invariant.moved lt }

pub returns : goal.returns
returns c = c.loop-word.invariant.moved ∙ all_moved c.args.by c.loop-word.word-index c.args.words.now (omega (arith, c.loop-word-test.false, c.loop-word.auto.word-items))
