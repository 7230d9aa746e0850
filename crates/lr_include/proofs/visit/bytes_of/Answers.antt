use Rattle.std.proofs.Common.{List, sym, subst}
use Rattle.lr_lex.specs.Items.{Told}
use Rattle.lr_host.specs.Told.{Left}
use Rattle.lr_include.specs.Visits.{ShowsText}
use Rattle.lr_include.proofs.Going.{goes_first, none_read}
use Rattle.lr_include.proofs.visit.bytes_of.Goals as goal

pub returns-in_default-clause-lacking : goal.returns-in_default-clause-lacking
returns-in_default-clause-lacking g c = none_read c.args.file.now c.args.room _

pub read_pieces-requires-clause-begun : goal.read_pieces-requires-clause-begun
read_pieces-requires-clause-begun g c = goes_first c.args.file.now c.new-taking.result _ c.new-taking.ensures.none c.new-taking.ensures.text c.new-taking.ensures.size

pub returns-clause-told : goal.returns-clause-told
returns-clause-told g c = subst (λ (ts : List Told). Left (ShowsText c.args.file.now c.args.room ts c.read_pieces.new.taking.size c.in_ok-how.how) (g.H.Host.told c.args.host.now) (g.H.Host.told c.read_pieces.new.host)) (sym c.from_vec.ensures) c.in_ok-how.ensures.told
