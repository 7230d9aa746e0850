use Rattle.std.proofs.Common.{refl, sym, ap, ◌∙◌, arith, true, false}
use Rattle.lr_memhost.specs.How.{downs}
use Rattle.lr_memhost.specs.Acts.{how_at}
use Rattle.lr_memhost.proofs.TurnLemmas.{turned_first}
use Rattle.lr_memhost.proofs.host.MemHost.turn.Goals as goal

pub returns-in_default-clause-turned : goal.returns-in_default-clause-turned
returns-in_default-clause-turned c =
    turned_first c.args.self.now _ _ true c.self.view_is c.in_default.ensures.err (λ s. let e = c.saturating_add-self-inside-in_default.ensures in omega arith) c.saturating_add-self-inside.ensures refl (c.is_stop-self-inside.ensures ∙ ap downs (c.how-how.ensures ∙ ap how_at (sym c.self.view_is)))

pub returns-clause-turned : goal.returns-clause-turned
returns-clause-turned c = turned_first c.args.self.now _ _ false c.self.view_is c.in-Ok.ensures.ok (λ s. absurd {_} (cc)) c.saturating_add-self-inside.ensures refl (c.is_stop-self-inside.ensures ∙ ap downs (c.how-how.ensures ∙ ap how_at (sym c.self.view_is)))
