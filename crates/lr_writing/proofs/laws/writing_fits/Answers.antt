use Rattle.lr_writing.proofs.Fits.{writing_fits}
use Rattle.lr_writing.proofs.laws.writing_fits.Goals as goal

pub returns : goal.returns
returns c = λ told state stale dirs text can. writing_fits state stale dirs text told can
