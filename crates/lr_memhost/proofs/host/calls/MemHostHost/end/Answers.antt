use Rattle.std.proofs.Common.{false, ap, ◌∙◌, refl, sym, subst, arith, []}
use Rattle.lr_host.specs.declared.entry.Entry.TheVariants as entry
use Rattle.lr_host.specs.Told.{Are}
use Rattle.lr_memhost.specs.Acts.{CallTurned}
use Rattle.lr_memhost.proofs.TurnLemmas.{turned_left, turned_entry, still_running}
use Rattle.lr_memhost.proofs.CalmLemmas.{calm_lock, with_mine}
use Rattle.lr_memhost.proofs.host.calls.MemHostHost.end.Goals as goal

pub end-requires : goal.end-requires
end-requires c =
    let t : CallTurned (Are []) c.args.self.now _ = subst (λ m. CallTurned (Are []) c.args.self.now m) (sym c.self.view_is) c.turn.ensures.turned in
    still_running t c.requires

pub returns-clause-turned : goal.returns-clause-turned
returns-clause-turned c =
    let t : CallTurned (Are []) c.args.self.now _ = subst (λ m. CallTurned (Are []) c.args.self.now m) (sym c.self.view_is) c.turn.ensures.turned in
    turned_entry _ entry.Ends t (record { acts = refl; failing = refl; calls = refl; down = refl; starved = omega arith }) c.end.ensures tt (still_running t c.requires) refl

pub returns-clause-told : goal.returns-clause-told
returns-clause-told c = turned_left (returns-clause-turned c)

pub returns-clause-calm : goal.returns-clause-calm
returns-clause-calm c = calm_lock false (returns-clause-turned c) (ap (λ v. with_mine false v.rest) c.self.view_is ∙ ap (with_mine false) c.turn.ensures.rest) (ap (λ v. v.faults) c.self.view_is ∙ c.turn.ensures.faults)
