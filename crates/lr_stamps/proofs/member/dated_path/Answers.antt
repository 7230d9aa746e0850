use Rattle.std.proofs.Common.{◌≡◌, true, subst, ap, ◌∙◌}
use Rattle.lr_rules.specs.Limits.{is_format, or_none}
use Rattle.lr_rules.specs.Path.{joined}
use Rattle.lr_stamps.specs.Dated.{MayHaveSerial}
use Rattle.lr_stamps.proofs.Clocks.{clock_stamp}
use Rattle.lr_stamps.proofs.member.dated_path.Goals as goal

pub returns-in-Ok-clause-member : goal.returns-in-Ok-clause-member
returns-in-Ok-clause-member c =
    let format : is_format c.in-Some.format ≡ true = subst (λ d. or_none is_format d ≡ true) c.in-Some.is c.requires.format in
    clock_stamp c.args.naming.now c.in-Some.format c.args.clock.now c.args.serial c.in-Ok.path c.in-Some.is format (subst (λ d. MayHaveSerial d c.args.serial) c.in-Some.is c.requires.serial) (c.in-Ok.ensures.0 ∙ ap (joined c.args.naming.now.dir) (c.deref.ensures.value ∙ c.in_ok-name.ensures))
