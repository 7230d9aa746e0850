use Rattle.std.proofs.Common.{inl}
use Rattle.lr_kept.proofs.Elements.{read_from}
use Rattle.lr_kept.proofs.fronts.add_fronts_at.Goals as goal

pub returns : goal.returns
returns c = inl (c.index-logs-place.result, read_from c.args.logs.now c.args.place c.index-logs-place.result c.requires.logs c.index-logs-place.is, c.in_ok-add_fronts.ensures)
