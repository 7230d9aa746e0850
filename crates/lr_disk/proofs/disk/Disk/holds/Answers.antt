use Rattle.std.proofs.Common.{◌≡◌, ℕ, true, Option, Some, None, refl, sym, ap, ◌∙◌}
use Rattle.std.specs.Prelude.{is_some}
use Rattle.lr_host.specs.World.{world, past}
use Rattle.lr_disk.proofs.disk.Disk.holds.Goals as goal

some_is : (o : Option ℕ) → is_some o ≡ true → (g : ℕ) × (o ≡ Some g)
some_is None h = absurd (cc)
some_is (Some g) h = (g, refl)

pub returns : goal.returns
returns c =
    let o : Option ℕ = (world (past c.args.self.now)).holds c.args.writer in
    let e : is_some o ≡ c.is_some.result = let h = c.self.invariant.shows.holds c.args.writer in cc in (
      (λ t. some_is o (e ∙ t)),
      (λ s. sym e ∙ ap is_some s.1),
    )
