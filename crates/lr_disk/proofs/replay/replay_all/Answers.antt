use Rattle.std.proofs.Common.{◌∙◌}
use Rattle.lr_disk.proofs.StepLemmas.{replayed, known_first, known_rest}
use Rattle.lr_disk.proofs.replay.replay_all.Goals as goal

pub replay-requires : goal.replay-requires
replay-requires c = known_first c.loop-change.names c.loop-change.changes.items c.pop.new.self.items c.in-Some.change c.in-Some.ensures.items c.loop-change.invariant.known

pub loop-change-preserved-in-Some : goal.loop-change-preserved-in-Some
loop-change-preserved-in-Some c = record {
  named = λ x. replayed c.loop-change.names c.replay.new.names c.loop-change.changes.items c.pop.new.self.items c.in-Some.change c.in-Some.ensures.items c.replay.ensures.named x ∙ c.loop-change.invariant.named x;
  same = c.replay.ensures.keys ∙ c.loop-change.invariant.same;
  known = known_rest c.loop-change.names c.replay.new.names c.loop-change.changes.items c.pop.new.self.items c.in-Some.change c.in-Some.ensures.items c.replay.ensures.keys c.loop-change.invariant.known;
  room = c.pop.ensures.capacity ∙ c.loop-change.invariant.room;
}

pub loop-change-preserved-in-Some-2 : goal.loop-change-preserved-in-Some-2
loop-change-preserved-in-Some-2 c = record {
  named = λ x. replayed c.loop-change.names c.replay.new.names c.loop-change.changes.items c.pop.new.self.items c.in-Some.change c.in-Some.ensures.items c.replay.ensures.named x ∙ c.loop-change.invariant.named x;
  same = c.replay.ensures.keys ∙ c.loop-change.invariant.same;
  known = known_rest c.loop-change.names c.replay.new.names c.loop-change.changes.items c.pop.new.self.items c.in-Some.change c.in-Some.ensures.items c.replay.ensures.keys c.loop-change.invariant.known;
  room = c.pop.ensures.capacity ∙ c.loop-change.invariant.room;
}

pub loop-change-preserved : goal.loop-change-preserved
loop-change-preserved c = record {
  named = λ x. replayed c.loop-change.names c.replay.new.names c.loop-change.changes.items c.pop.new.self.items c.in-Some.change c.in-Some.ensures.items c.replay.ensures.named x ∙ c.loop-change.invariant.named x;
  same = c.replay.ensures.keys ∙ c.loop-change.invariant.same;
  known = known_rest c.loop-change.names c.replay.new.names c.loop-change.changes.items c.pop.new.self.items c.in-Some.change c.in-Some.ensures.items c.replay.ensures.keys c.loop-change.invariant.known;
  room = c.pop.ensures.capacity ∙ c.loop-change.invariant.room;
}
