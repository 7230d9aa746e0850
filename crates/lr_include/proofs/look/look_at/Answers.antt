use Rattle.std.proofs.Common.{sym, subst}
use Rattle.lr_host.proofs.Known.{seen_can_read}
use Rattle.lr_host.specs.Looks.{IsDir, IsNothingOrOther}
use Rattle.lr_host.proofs.Looking.{sees}
use Rattle.lr_include.specs.Visits.{IsKeptFile, IsExposedFile}
use Rattle.lr_include.proofs.Visited.{can_list}
use Rattle.lr_include.proofs.look.look_at.Goals as goal

pub returns-in_default-look-clause-told : goal.returns-in_default-look-clause-told
returns-in_default-look-clause-told g c = sees c.args.path.now IsNothingOrOther c.in-Ok.look c.in-Ok.ensures.told (subst IsNothingOrOther (sym c.in_default-look.is) tt)

pub returns-then-seen-clause-told : goal.returns-then-seen-clause-told
returns-then-seen-clause-told g c = sees c.args.path.now IsExposedFile c.in-Ok.look c.in-Ok.ensures.told (subst IsExposedFile (sym c.in-Some.is) (c.in-File.is, c.if-seen.true))

pub returns-else-seen-clause-told : goal.returns-else-seen-clause-told
returns-else-seen-clause-told g c = sees c.args.path.now IsKeptFile c.in-Ok.look c.in-Ok.ensures.told (subst IsKeptFile (sym c.in-Some.is) (c.in-File.is, c.if-seen.false))

pub returns-else-seen-clause-reads : goal.returns-else-seen-clause-reads
returns-else-seen-clause-reads g c = λ ok. seen_can_read (rw c.in-Some.is at c.in-Ok.ensures.told) c.in-File.is

pub returns-in-Dir-clause-told : goal.returns-in-Dir-clause-told
returns-in-Dir-clause-told g c = sees c.args.path.now IsDir c.in-Ok.look c.in-Ok.ensures.told (subst IsDir (sym c.in-Some.is) c.in-Dir.is)

pub returns-in-Dir-clause-lists : goal.returns-in-Dir-clause-lists
returns-in-Dir-clause-lists g c = λ ok. can_list c.args.path.now c.in-Some.seen (rw c.in-Some.is at c.in-Ok.ensures.told) c.in-Dir.is

pub returns-in-Other-clause-told : goal.returns-in-Other-clause-told
returns-in-Other-clause-told g c = sees c.args.path.now IsNothingOrOther c.in-Ok.look c.in-Ok.ensures.told (subst IsNothingOrOther (sym c.in-Some.is) c.in-Other.is)
