use Rattle.std.proofs.Common.{List, refl, sym, subst}
use Rattle.lr_rules.specs.Path.{joined}
use Rattle.lr_family.specs.Parts.{IsMember}
use Rattle.lr_family.specs.Places.{IsPlaceOf}
use Rattle.lr_family.proofs.Among.{adds_one, adds_none}
use Rattle.lr_family.proofs.spot.add_spot.Goals as goal

pub returns-in_ok-push : goal.returns-in_ok-push
returns-in_ok-push c = adds_one c.args.naming.now c.args.name.now c.args.spots.now.items c.push.new.self.items _ c.in_ok-push.ensures.items c.in_ok-path.ensures
    (subst (IsPlaceOf c.args.naming.now c.in-Some.place) (sym c.in_ok-path.ensures) (subst (λ (name : List _). IsPlaceOf c.args.naming.now c.in-Some.place (joined c.args.naming.now.dir name)) c.bytes.ensures.bytes c.in-Some.ensures))

pub returns-in_default : goal.returns-in_default
returns-in_default c = adds_none c.args.naming.now c.args.name.now c.args.spots.now.items c.args.spots.now.items refl (subst (λ (name : List _). IsMember c.args.naming.now (joined c.args.naming.now.dir name) → ⊥) c.bytes.ensures.bytes c.in_default.ensures)
