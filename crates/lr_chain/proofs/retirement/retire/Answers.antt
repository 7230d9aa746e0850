use Rattle.std.proofs.Common.{[], refl, rules}
use Rattle.lr_host.specs.Told.{Are}
use Rattle.lr_host.proofs.Left.{left_first}
use Rattle.lr_chain.proofs.Retiring.{next_can, next_left, next_refused, next_cause}
use Rattle.lr_chain.proofs.retirement.retire.Goals as goal

pub loop-at-init : goal.loop-at-init
loop-at-init g c = record { told = left_first (Are []) _ refl; counts = search rules }

pub remove-requires : goal.remove-requires
remove-requires g c = next_can c.args.list.now c.loop-at.at c.index-list-at.result c.index-list-at.is c.loop-at-test.true c.requires c.loop-at.invariant.told

pub returns-in-Err-clause-refused : goal.returns-in-Err-clause-refused
returns-in-Err-clause-refused g c = next_refused c.args.list.now c.loop-at.at c.index-list-at.result c.in-Err.why c.index-list-at.is c.loop-at-test.true c.loop-at.invariant.told c.in-Err.ensures.refused

pub returns-in-Err-clause-cause : goal.returns-in-Err-clause-cause
returns-in-Err-clause-cause g c =
    next_cause c.args.list.now c.loop-at.at c.index-list-at.result c.in-Err.why (g.H.Host.counts c.args.host.now) (g.H.Host.counts c.loop-at.host) (g.H.Host.counts c.remove.new.host) c.index-list-at.is c.loop-at-test.true c.loop-at.invariant.counts c.in-Err.ensures.cause

pub loop-at-preserved : goal.loop-at-preserved
loop-at-preserved g c = record {
  told = next_left c.args.list.now c.loop-at.at c.index-list-at.result c.index-list-at.is c.loop-at-test.true c.loop-at.invariant.told c.in_default.ensures.told;
  counts = search rules;
}
