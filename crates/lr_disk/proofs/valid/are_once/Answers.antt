use Rattle.std.proofs.Common.{◌≡◌, ◌≢◌, ◌+◌, true, get_or, All, sym, subst, ◌∙◌}
use Rattle.std.proofs.lemmas.List.{take_rest}
use Rattle.lr_disk.proofs.ValidLemmas.{once_on, once_new}
use Rattle.lr_disk.proofs.valid.are_once.Goals as goal

pub returns-then-not-lacks : goal.returns-then-not-lacks
returns-then-not-lacks c = (
  (λ t. absurd (cc)),
  (λ all.
      let new = once_new c.args.names.now c.loop-i.i c.index-names-i.result c.loop-i-test.true c.loop-i.invariant all in
      let lacks : c.lacks.result ≡ true = c.lacks.ensures.1 (subst (λ qs. All (λ p. (get_or c.args.names.now c.loop-i.i c.index-names-i.result).0 ≢ p.0) qs) (sym (take_rest c.args.names.now (c.loop-i.i + 1))) new) in
      sym c.if-not-lacks.true ∙ lacks),
)

pub loop-i-preserved : goal.loop-i-preserved
loop-i-preserved c =
    once_on c.args.names.now c.loop-i.i c.index-names-i.result c.loop-i-test.true c.loop-i.invariant
    (subst (λ qs. All (λ p. (get_or c.args.names.now c.loop-i.i c.index-names-i.result).0 ≢ p.0) qs) (take_rest c.args.names.now (c.loop-i.i + 1)) (c.lacks.ensures.0 c.if-not-lacks.false))
