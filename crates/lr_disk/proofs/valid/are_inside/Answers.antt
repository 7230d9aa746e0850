use Rattle.std.proofs.Common.{◌≡◌, true, Contains, sym, subst, ◌∙◌}
use Rattle.lr_rules.specs.Path.{parent_of}
use Rattle.lr_disk.proofs.ValidLemmas.{each_more}
use Rattle.lr_disk.proofs.valid.are_inside.Goals as goal

pub returns-then-not-has : goal.returns-then-not-has
returns-then-not-has c = (
  (λ t. absurd (cc)),
  (λ all.
      let here : Contains c.args.dirs.now (parent_of c.name-item.result.0) =
      subst (λ n. Contains c.args.dirs.now (parent_of n.0)) (sym c.name-item.is) (all c.loop-name.name-index c.name-item.result c.loop-name-test.true) in
      let has : c.has.result ≡ true = c.has.ensures.1 (subst (Contains c.args.dirs.now) (sym c.parent_bytes.ensures) here) in sym c.if-not-has.true ∙ has),
)

pub loop-name-preserved : goal.loop-name-preserved
loop-name-preserved c =
    each_more (λ n. Contains c.args.dirs.now (parent_of n.0)) c.args.names.now c.loop-name.name-index c.name-item.result c.name-item.is c.loop-name-test.true c.loop-name.invariant
    (subst (Contains c.args.dirs.now) c.parent_bytes.ensures (c.has.ensures.0 c.if-not-has.false))
