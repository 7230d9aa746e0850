use Rattle.std.proofs.Common.{◌≡◌, ◌||◌, ◌&&◌, Bool, true, false, refl, sym, ◌∙◌, ap}
use Rattle.lr_host.specs.World.{is_file}
use Rattle.lr_nights.specs.Marks.{is_marked}
use Rattle.lr_nights.proofs.marking.mark_name.Goals as goal

none : (a b : Bool) → a ≡ (a || (false && b))
none true b = refl
none false b = refl

pub returns-then-not-is_of_one : goal.returns-then-not-is_of_one
returns-then-not-is_of_one c = λ sets are g.
    let a = is_marked c.args.marks.now.items g in
    let b = is_file c.args.name.now.1 g in
    none a b ∙ ap (λ (o : Bool). a || (o && b)) (sym c.if-not-is_of_one.true ∙ c.is_of_one.ensures sets are)

pub returns : goal.returns
returns c = λ sets are g.
    c.in_ok-mark.ensures g ∙ ap (λ (o : Bool). is_marked c.args.marks.now.items g || (o && is_file c.args.name.now.1 g)) (sym c.if-not-is_of_one.false ∙ c.is_of_one.ensures sets are)
