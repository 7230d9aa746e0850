use Rattle.std.proofs.Common.{◌≡◌, ◌∙◌, ap, sym, subst, List, ℕ, true}
use Rattle.lr_state.specs.Table.{is_name, put}
use Rattle.lr_state.proofs.After.{path_named, none_found, one_more_name}
use Rattle.lr_state.proofs.kept.names_of.Goals as goal

pub set-requires : goal.set-requires
set-requires c = subst (λ (n : List ℕ). is_name n ≡ true) (sym c.bytes.ensures.bytes) (path_named _ c.bytes.ensures.path)

pub loop-log-init : goal.loop-log-init
loop-log-init c = record { names = λ q. none_found c.new-names.result q c.new-names.ensures }

pub loop-log-preserved : goal.loop-log-preserved
loop-log-preserved c = record {
  names = one_more_name c.args.logs.now c.loop-log.log-index c.log-item.result c.args.now.now c.loop-log.names c.set.new.self c.in_ok-set.ensures.table c.loop-log-test.true c.log-item.is
      (c.in_ok-set.ensures.ok ∙ ap (λ (n : List ℕ). put c.loop-log.names n c.args.now.now) c.bytes.ensures.bytes) c.loop-log.invariant.names;
}
