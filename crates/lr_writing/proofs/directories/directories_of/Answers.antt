use Rattle.std.proofs.Common.{sym, subst}
use Rattle.lr_writing.specs.Directories.{AreDirectoriesOf}
use Rattle.lr_writing.proofs.Once.{directories}
use Rattle.lr_writing.proofs.directories.directories_of.Goals as goal

pub returns : goal.returns
returns c = subst (AreDirectoriesOf c.args.paths.now) (sym c.from_vec.ensures) (directories c.args.paths.now c.in_ok-dirs.dirs.items c.put_in_order.new.paths.items c.leave_once.new.paths.items c.in_ok-dirs.ensures c.put_in_order.ensures.same c.put_in_order.ensures.rising c.leave_once.ensures)
