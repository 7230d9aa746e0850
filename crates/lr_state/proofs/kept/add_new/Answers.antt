use Rattle.std.proofs.Common.{◌≡◌, ◌∙◌, sym, ap, subst, List, ℕ, is_some, true}
use Rattle.std.proofs.lemmas.Result.{on_ok_weaker}
use Rattle.lr_state.specs.Table.{moment_of, put, is_name}
use Rattle.lr_state.proofs.After.{path_named, one_new}
use Rattle.lr_state.proofs.kept.add_new.Goals as goal

pub set-requires : goal.set-requires
set-requires c = subst (λ (n : List ℕ). is_name n ≡ true) (sym c.bytes-2.ensures.bytes) (path_named c.args.log.now c.bytes-2.ensures.path)

pub returns : goal.returns
returns c = on_ok_weaker c.set.result (λ (e : c.set.new.self ≡ put c.args.table.now c.bytes-2.result.now c.args.now.now). e ∙ (ap (λ (n : List ℕ). put c.args.table.now n c.args.now.now) c.bytes-2.ensures.bytes
    ∙ one_new c.args.table.now c.args.log.now c.args.now.now (ap (λ (n : List ℕ). is_some (moment_of c.args.table.now n)) (sym c.bytes.ensures.bytes) ∙ (ap is_some (sym c.get.ensures) ∙ (sym c.is_some.ensures ∙ c.if-is_some.false))))) c.set.ensures.ok
