use Rattle.lr_include.proofs.Texts.{none_so_far}
use Rattle.lr_include.proofs.text.read_text.Goals as goal

pub returns-in_default-clause-lacking : goal.returns-in_default-clause-lacking
returns-in_default-clause-lacking g c = λ e. none_so_far c.args.path.now c.args.limit _
