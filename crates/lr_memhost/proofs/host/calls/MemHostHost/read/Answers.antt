use Rattle.std.proofs.Common.{inl, inr, refl, sym, ap, subst, ◌∙◌, arith, [], take, length}
use Rattle.lr_host.specs.declared.entry.Entry.TheVariants as entry
use Rattle.lr_host.specs.World.{world, past, names}
use Rattle.lr_host.specs.Told.{Are}
use Rattle.lr_disk.specs.Bytes.{GivesAll}
use Rattle.lr_memhost.specs.Acts.{CallTurned}
use Rattle.lr_disk.proofs.JournalLemmas.{past_entry}
use Rattle.lr_memhost.proofs.TurnLemmas.{turned_left, turned_kept, turned_entry, like, like_same, still_can}
use Rattle.lr_memhost.proofs.CalmLemmas.{calm_how, calm_alike, not_some}
use Rattle.lr_memhost.proofs.host.calls.MemHostHost.read.Goals as goal

pub read-requires-clause-file : goal.read-requires-clause-file
read-requires-clause-file c = still_can c.requires.file (subst (λ m. CallTurned (Are []) c.args.self.now m) (sym c.self.view_is) c.turn.ensures.turned)

pub returns-then-is_some-clause-turned : goal.returns-then-is_some-clause-turned
returns-then-is_some-clause-turned c =
    turned_kept _ c.turn.ensures.turned (like_same _ _ _ c.fail_call.ensures.counted refl refl refl refl refl) (ap (λ v. v.journal) c.fail_call.ensures.counted) refl

pub returns-then-is_some-clause-told : goal.returns-then-is_some-clause-told
returns-then-is_some-clause-told c = turned_left (returns-then-is_some-clause-turned c)

pub returns-in-Ok-clause-turned : goal.returns-in-Ok-clause-turned
returns-in-Ok-clause-turned c =
    turned_entry _ _ (subst (λ m. CallTurned (Are []) c.args.self.now m) (sym c.self.view_is) c.turn.ensures.turned) (record { acts = refl; failing = refl; calls = refl; down = refl; starved = omega arith }) c.in-Ok.ensures.read.0 tt c.in-Ok.ensures.read.1 refl

pub returns-in-Ok-clause-told : goal.returns-in-Ok-clause-told
returns-in-Ok-clause-told c = turned_left (returns-in-Ok-clause-turned c)

pub returns-in-Ok-clause-all : goal.returns-in-Ok-clause-all
returns-in-Ok-clause-all c =
    let e = entry.Reads c.args.path.now c.args.from (take c.in-Ok.count c.read.new.into) in
    subst (λ p. GivesAll (world p) (names (world p) c.args.path.now) c.args.from (length c.read.new.into) c.in-Ok.count) (sym (ap past c.in-Ok.ensures.read.0 ∙ past_entry c.self.inside.disk e)) c.in-Ok.ensures.all

pub returns-in-Err-clause-turned : goal.returns-in-Err-clause-turned
returns-in-Err-clause-turned c =
    turned_kept _ (subst (λ m. CallTurned (Are []) c.args.self.now m) (sym c.self.view_is) c.turn.ensures.turned) (like _ _ _ c.starve.ensures.counted c.starve.ensures.later.1 refl refl refl refl)
    (ap (λ v. v.journal) c.starve.ensures.counted ∙ c.in-Err.ensures.read) refl

pub returns-in-Err-clause-told : goal.returns-in-Err-clause-told
returns-in-Err-clause-told c = turned_left (returns-in-Err-clause-turned c)

pub returns-then-is_some-clause-calm : goal.returns-then-is_some-clause-calm
returns-then-is_some-clause-calm c = λ calm. absurd (not_some c.turn.result (c.turn.ensures.listed ∙ calm_how c.args.self.now calm) (sym c.is_some.ensures ∙ c.if-is_some.true))

pub returns-in-Ok-clause-calm : goal.returns-in-Ok-clause-calm
returns-in-Ok-clause-calm c = calm_alike (subst (λ m. CallTurned (Are []) c.args.self.now m) (sym c.self.view_is) c.turn.ensures.turned) (record { acts = refl; failing = refl; calls = refl; down = refl; starved = omega arith }) (ap (λ v. v.rest) c.self.view_is ∙ c.turn.ensures.rest) (inl (ap (λ v. v.faults) c.self.view_is ∙ c.turn.ensures.faults))

pub returns-in-Err-clause-calm : goal.returns-in-Err-clause-calm
returns-in-Err-clause-calm c =
    calm_alike (subst (λ m. CallTurned (Are []) c.args.self.now m) (sym c.self.view_is) c.turn.ensures.turned) (like _ _ _ c.starve.ensures.counted c.starve.ensures.later.1 refl refl refl refl) (ap (λ v. v.rest) c.starve.ensures.counted ∙ (ap (λ v. v.rest) c.self.view_is ∙ c.turn.ensures.rest))
    (inr (let e = ap (λ v. v.starved) c.starve.ensures.counted in let s = ap (λ v. v.starved) c.self.view_is in let l = c.turn.ensures.starved in omega arith))
