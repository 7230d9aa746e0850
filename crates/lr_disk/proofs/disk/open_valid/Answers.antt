use Rattle.lr_disk.proofs.OpenedLemmas.{shows_opened}
use Rattle.lr_disk.proofs.disk.open_valid.Goals as goal

pub returns-then-is_valid : goal.returns-then-is_valid
returns-then-is_valid c =
    let valid = c.is_valid.ensures.0 c.if-is_valid.true in
    (valid, shows_opened c.in_ok-state.state c.args.opening.now c.in_ok-state.ensures.tree c.in_ok-state.ensures.files c.in_ok-state.ensures.holds c.in_ok-state.ensures.now valid)
