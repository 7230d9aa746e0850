use Rattle.std.proofs.Common.{◌≡◌, ◌≢◌, ◌+◌, true, get_or, All, sym, subst, ◌∙◌}
use Rattle.std.proofs.lemmas.List.{take_rest}
use Rattle.lr_disk.proofs.ValidLemmas.{once_on, once_new}
use Rattle.lr_disk.proofs.valid.hold_once.Goals as goal

pub returns-then-not-lacks_writer : goal.returns-then-not-lacks_writer
returns-then-not-lacks_writer c = (
  (λ t. absurd (cc)),
  (λ all.
      let new = once_new c.args.holds.now c.loop-i.i (0, 0) c.loop-i-test.true c.loop-i.invariant all in
      let lacks : c.lacks_writer.result ≡ true = c.lacks_writer.ensures.1 (subst (λ qs. All (λ p. (get_or c.args.holds.now c.loop-i.i (0, 0)).0 ≢ p.0) qs) (sym (take_rest c.args.holds.now (c.loop-i.i + 1))) new) in
      sym c.if-not-lacks_writer.true ∙ lacks),
)

pub loop-i-preserved : goal.loop-i-preserved
loop-i-preserved c =
    once_on c.args.holds.now c.loop-i.i (0, 0) c.loop-i-test.true c.loop-i.invariant
    (subst (λ qs. All (λ p. (get_or c.args.holds.now c.loop-i.i (0, 0)).0 ≢ p.0) qs) (take_rest c.args.holds.now (c.loop-i.i + 1)) (c.lacks_writer.ensures.0 c.if-not-lacks_writer.false))
