use Rattle.std.proofs.Common.{sym, subst}
use Rattle.lr_kept.specs.Chosen.{HaveFormats}
use Rattle.lr_looks.specs.Found.{all_found_in}
use Rattle.lr_looks.proofs.Choosing.{have_formats}
use Rattle.lr_looks.proofs.keeping.choices_among.Goals as goal

pub choose-requires-clause-formats : goal.choose-requires-clause-formats
choose-requires-clause-formats c = subst HaveFormats (sym c.deref.ensures.value) (have_formats c.in_ok-families.families.items (all_found_in c.args.found.now) c.in_ok-families.ensures c.requires)
