use Rattle.std.proofs.Common.{sym, subst}
use Rattle.lr_host.specs.declared.thing.Kind.TheVariants as kind
use Rattle.lr_host.specs.Looks.{IsFile}
use Rattle.lr_host.proofs.Known.{seen_can_read}
use Rattle.lr_host.proofs.Looking.{sees}
use Rattle.lr_clock.specs.Zone.{IsNotFile}
use Rattle.lr_clock.proofs.Zoned.{no_file, not_dir, not_other}
use Rattle.lr_clock.proofs.zone.is_file.Goals as goal

pub returns-in_default-look-clause-other : goal.returns-in_default-look-clause-other
returns-in_default-look-clause-other g c = λ e. sees c.args.path.now IsNotFile c.in-Ok.look c.in-Ok.ensures.told (subst IsNotFile (sym c.in_default-look.is) tt)

pub returns-in-File-clause-file : goal.returns-in-File-clause-file
returns-in-File-clause-file g c = λ e. sees c.args.path.now IsFile c.in-Ok.look c.in-Ok.ensures.told (subst IsFile (sym c.in-Some.is) c.in-File.is)

pub returns-in-File-clause-there : goal.returns-in-File-clause-there
returns-in-File-clause-there g c = λ e. seen_can_read (rw c.in-Some.is at c.in-Ok.ensures.told) c.in-File.is

pub returns-in-Dir-clause-other : goal.returns-in-Dir-clause-other
returns-in-Dir-clause-other g c = λ e. sees c.args.path.now IsNotFile c.in-Ok.look c.in-Ok.ensures.told (subst IsNotFile (sym c.in-Some.is) (no_file kind.Dir not_dir c.in-Some.seen c.in-Dir.is))

pub returns-in-Other-clause-other : goal.returns-in-Other-clause-other
returns-in-Other-clause-other g c = λ e. sees c.args.path.now IsNotFile c.in-Ok.look c.in-Ok.ensures.told (subst IsNotFile (sym c.in-Some.is) (no_file kind.Other not_other c.in-Some.seen c.in-Other.is))
