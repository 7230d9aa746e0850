use Rattle.std.proofs.Common.{◌≡◌, true, subst, sym}
use Rattle.std.specs.Prelude.{◌↔◌}
use Rattle.lr_rules.specs.Path.{joined}
use Rattle.lr_family.specs.Parts.{IsMember}
use Rattle.lr_family.proofs.Names.{is_place}
use Rattle.lr_family.proofs.parts.is_member.Goals as goal

pub returns : goal.returns
returns c = subst (λ b. (b ≡ true) ↔ IsMember c.args.naming.now (joined c.args.naming.now.dir c.args.name.now)) (sym c.is_some.ensures) (is_place c.args.naming.now (joined c.args.naming.now.dir c.args.name.now) c.place_in.result c.place_in.ensures)
