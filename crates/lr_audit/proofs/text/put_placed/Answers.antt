use Rattle.std.proofs.Common.{rules, ◌≡◌, ◌∷◌, [], Err}
use Rattle.std.specs.Prelude.{codes, decimal}
use Rattle.std.specs.List.{concat}
use Rattle.lr_shown.proofs.Joined.{puts_on, puts_stop}
use Rattle.lr_audit.specs.Text.{name_of}
use Rattle.lr_audit.proofs.text.put_placed.Goals as goal

pub returns-in_err-put_place : goal.returns-in_err-put_place
returns-in_err-put_place g c =
    let failed : c.from_residual.result ≡ Err c.in_err-put_place.field-0.0 = search rules in
    puts_stop (concat (c.args.path.now ∷ c.args.kind.now ∷ decimal c.args.place ∷ [])) (concat (codes " of " ∷ name_of c.args.log.now ∷ codes "\n" ∷ [])) c.in_err-put_place.field-0.0 c.in_err-put_place.field-0.0 c.from_residual.result _ _ _ _ failed c.in_err-put_place.ensures

pub returns : goal.returns
returns g c = puts_on (concat (c.args.path.now ∷ c.args.kind.now ∷ decimal c.args.place ∷ [])) (concat (codes " of " ∷ name_of c.args.log.now ∷ codes "\n" ∷ [])) c.put_owner.result _ _ _ _ _ _ c.in_ok-put_place.ensures c.put_owner.ensures
