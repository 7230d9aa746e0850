use Rattle.std.proofs.Common.{◌∙◌, ap, ◌<◌, length, length-append, take, arith}
use Rattle.std.specs.List.{flat_map}
use Rattle.lr_state.specs.Written.{entry_line}
use Rattle.lr_state.proofs.Lengths.{entry-at, flat-next}
use Rattle.lr_state.proofs.state.State.text_len.Goals as goal

pub loop-k-preserved : goal.loop-k-preserved
loop-k-preserved c =
    let lt : c.loop-k.k < length c.args.self.now = omega arith in
    let at = entry-at c.args.self.now c.loop-k.k lt in
    let total = ap length (flat-next entry_line c.args.self.now c.loop-k.k at.0 at.1) ∙ length-append (flat_map entry_line (take c.loop-k.k c.args.self.now)) (entry_line at.0) in
    let line = c.line.ensures.len at.0 at.1 in
    let sum = c.saturating_add-len.ensures in
    let before = c.loop-k.invariant in
    omega (arith, total, line, sum, before)
