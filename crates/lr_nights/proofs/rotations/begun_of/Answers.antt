use Rattle.std.proofs.Common.{◌≡◌, ◌+◌, List, drop, ◌∙◌, ap, arith}
use Rattle.std.proofs.lemmas.List.Sums.{sum_by-cons}
use Rattle.lr_host.specs.World.{Past, Opens, then}
use Rattle.lr_host.specs.Sets.{LogSet}
use Rattle.lr_host.specs.Runs.{rotations}
use Rattle.lr_nights.specs.Summary.{begun_in}
use Rattle.lr_nights.proofs.Sets.{set_at, sets_end}
use Rattle.lr_nights.proofs.rotations.begun_of.Goals as goal

pub loop-log-preserved : goal.loop-log-preserved
loop-log-preserved c = λ o sets are.
    let p : Past = then (Opens o) c.args.entries.now in
    let at = set_at c.args.logs.now sets c.loop-log.log-index c.log-item.result are c.loop-log-test.true c.log-item.is in
    let before = c.loop-log.invariant o sets are in
    let parted = ap (λ (ys : List LogSet). begun_in ys p) at.rest ∙ sum_by-cons (λ (s : LogSet). rotations s p) at.set (drop (c.loop-log.log-index + 1) sets) in
    let own = c.rotations_of.ensures o at.set at.is in
    let more : c.in-Some.more ≡ c.loop-log.sum + c.rotations_of.result = c.in-Some.ensures.1 in
    omega arith

pub returns : goal.returns
returns c = λ o sets are.
    let p : Past = then (Opens o) c.args.entries.now in
    let none : begun_in (drop c.loop-log.log-index sets) p ≡ 0 = ap (λ (ys : List LogSet). begun_in ys p) (sets_end c.args.logs.now sets c.loop-log.log-index are (omega arith)) in
    let all = c.loop-log.invariant o sets are in
    omega arith
