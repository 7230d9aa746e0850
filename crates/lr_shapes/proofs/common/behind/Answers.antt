use Rattle.lr_shapes.specs.Shapes.{tokens_of}
use Rattle.lr_shapes.proofs.Walking.{left_behind}
use Rattle.lr_shapes.proofs.common.behind.Goals as goal

pub returns : goal.returns
returns c = left_behind c.args.s.now c.args.n c.bytes_behind-rest.result.now (tokens_of c.fronted.result) c.bytes_behind-rest.ensures c.fronted.ensures
