use Rattle.lr_kept.proofs.Elements.{read_from}
use Rattle.lr_kept.proofs.Pairing.{meet_decided}
use Rattle.lr_kept.proofs.pairs.meet.Goals as goal

pub returns : goal.returns
returns c = meet_decided c.args.logs.now c.args.one c.args.other c.index-logs-one.result c.index-logs-other.result
    (read_from c.args.logs.now c.args.one c.index-logs-one.result c.requires.one c.index-logs-one.is)
    (read_from c.args.logs.now c.args.other c.index-logs-other.result c.requires.other c.index-logs-other.is)
    c.apart.result c.if-one-other.false c.apart.ensures
