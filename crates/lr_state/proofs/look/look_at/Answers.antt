use Rattle.lr_host.specs.declared.thing.Kind.TheVariants as kind
use Rattle.lr_host.proofs.Known.{seen_can_read}
use Rattle.lr_state.proofs.Looks.{finds_failed, finds_nothing, finds_kind}
use Rattle.lr_state.proofs.look.look_at.Goals as goal

pub returns-in_default-clause-told : goal.returns-in_default-clause-told
returns-in_default-clause-told g c = finds_failed c.args.path.now c.in_default.ensures.told

pub returns-in_default-look-clause-told : goal.returns-in_default-look-clause-told
returns-in_default-look-clause-told g c = finds_nothing c.args.path.now c.in-Ok.look c.in-Ok.ensures.told c.in_default-look.is

pub returns-in-File-clause-told : goal.returns-in-File-clause-told
returns-in-File-clause-told g c = finds_kind c.args.path.now c.in-Ok.look c.in-Some.seen kind.File c.in-Ok.ensures.told c.in-Some.is c.in-File.is

pub returns-in-File-clause-there : goal.returns-in-File-clause-there
returns-in-File-clause-there g c = λ e. seen_can_read (rw c.in-Some.is at c.in-Ok.ensures.told) c.in-File.is

pub returns-in-Dir-clause-told : goal.returns-in-Dir-clause-told
returns-in-Dir-clause-told g c = finds_kind c.args.path.now c.in-Ok.look c.in-Some.seen kind.Dir c.in-Ok.ensures.told c.in-Some.is c.in-Dir.is

pub returns-in-Other-clause-told : goal.returns-in-Other-clause-told
returns-in-Other-clause-told g c = finds_kind c.args.path.now c.in-Ok.look c.in-Some.seen kind.Other c.in-Ok.ensures.told c.in-Some.is c.in-Other.is
