use Rattle.std.proofs.Common.{length, arith, take}
use Rattle.std.proofs.lemmas.List.{length-take}
use Rattle.lr_state.proofs.Joining.{stopped_piece}
use Rattle.lr_state.proofs.reading_pieces.read_on.Goals as goal

pub returns-in_default-give-clause-stopped : goal.returns-in_default-give-clause-stopped
returns-in_default-give-clause-stopped g c = stopped_piece c.args.path.now c.args.at (length c.args.buffer.now) (take c.in-Ok.count c.read.new.into) c.in-Ok.ensures.told
    (omega (arith, length-take c.in-Ok.count c.read.new.into, c.read.auto.into, c.in-Ok.ensures.bound))

pub returns-clause-told : goal.returns-clause-told
returns-clause-told g c = record {
  piece = take c.in-Ok.count c.read.new.into;
  short = omega (arith, length-take c.in-Ok.count c.read.new.into, c.read.auto.into, c.in-Ok.ensures.bound);
  follows = c.place_behind.ensures;
  taken = λ bytes h. c.in-Ok-give.ensures.ok bytes h;
  entries = c.in-Ok.ensures.told;
}
