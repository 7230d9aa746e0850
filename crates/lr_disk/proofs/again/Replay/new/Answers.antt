use Rattle.lr_host.specs.World.{opened}
use Rattle.lr_disk.proofs.OpenedLemmas.{shows_opened}
use Rattle.lr_disk.proofs.again.Replay.new.Goals as goal

pub invariant_of-result : goal.invariant_of-result
invariant_of-result c = (
  opened c.args.opening.now,
  shows_opened c.in_ok-state.state c.args.opening.now c.in_ok-state.ensures.tree c.in_ok-state.ensures.files c.in_ok-state.ensures.holds c.in_ok-state.ensures.now c.requires,
)

pub returns : goal.returns
returns c = shows_opened c.in_ok-state.state c.args.opening.now c.in_ok-state.ensures.tree c.in_ok-state.ensures.files c.in_ok-state.ensures.holds c.in_ok-state.ensures.now c.requires
