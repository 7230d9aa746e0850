use Rattle.lr_laws.proofs.Stated.{writers, quiet, changes, elsewhere_kept}
use Rattle.lr_laws.proofs.keeping.entries_keep.Goals as goal

pub returns-clause-writers : goal.returns-clause-writers
returns-clause-writers c = writers

pub returns-clause-quiet : goal.returns-clause-quiet
returns-clause-quiet c = quiet

pub returns-clause-changes : goal.returns-clause-changes
returns-clause-changes c = changes

pub returns-clause-elsewhere : goal.returns-clause-elsewhere
returns-clause-elsewhere c = elsewhere_kept
