use Rattle.std.proofs.Common.{◌+◌, ◌||◌, Bool, List, drop, sym, ◌∙◌, ap, arith}
use Rattle.lr_host.specs.Sets.{LogSet}
use Rattle.lr_nights.specs.Summary.{in_one}
use Rattle.lr_nights.proofs.Sets.{set_at, sets_end}
use Rattle.lr_nights.proofs.names.is_of_one.Goals as goal

pub returns-then-is_of : goal.returns-then-is_of
returns-then-is_of c = λ sets are.
    let x = c.args.path.now in
    let at = set_at c.args.logs.now sets c.loop-log.log-index c.log-item.result are c.loop-log-test.true c.log-item.is in
    sym (c.loop-log.invariant sets are ∙ ap (λ (ys : List LogSet). in_one ys x) at.rest ∙ ap (λ (b : Bool). b || in_one (drop (c.loop-log.log-index + 1) sets) x) (sym (c.is_of.ensures at.set at.is) ∙ c.if-is_of.true))

pub loop-log-preserved : goal.loop-log-preserved
loop-log-preserved c = λ sets are.
    let x = c.args.path.now in
    let at = set_at c.args.logs.now sets c.loop-log.log-index c.log-item.result are c.loop-log-test.true c.log-item.is in
    c.loop-log.invariant sets are ∙ ap (λ (ys : List LogSet). in_one ys x) at.rest ∙ ap (λ (b : Bool). b || in_one (drop (c.loop-log.log-index + 1) sets) x) (sym (c.is_of.ensures at.set at.is) ∙ c.if-is_of.false)

pub returns : goal.returns
returns c = λ sets are.
    sym (c.loop-log.invariant sets are ∙ ap (λ (ys : List LogSet). in_one ys c.args.path.now) (sets_end c.args.logs.now sets c.loop-log.log-index are (omega arith)))
