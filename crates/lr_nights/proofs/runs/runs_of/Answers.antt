use Rattle.std.proofs.Common.{◌+◌, ℕ, take, cond, sym, ◌∙◌, ap}
use Rattle.lr_host.specs.World.{Opens, then}
use Rattle.lr_nights.specs.Summary.{starts_in}
use Rattle.lr_nights.specs.Counting.{is_start}
use Rattle.lr_nights.proofs.Entries.{then_more, starts_more}
use Rattle.lr_nights.proofs.runs.runs_of.Goals as goal

pub loop-entry-preserved : goal.loop-entry-preserved
loop-entry-preserved c = λ o.
    let p = then (Opens o) (take c.loop-entry.entry-index c.args.entries.now) in
    let e = c.entry-item.result in
    c.in-Some.ensures ∙ ap (λ (n : ℕ). n + cond (is_start e) 1 0) (c.loop-entry.invariant o) ∙ sym (starts_more p e) ∙ ap starts_in (sym (then_more (Opens o) c.args.entries.now c.loop-entry.entry-index e c.loop-entry-test.true c.entry-item.is))
