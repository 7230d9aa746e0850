use Rattle.std.proofs.Common.{rules}
use Rattle.std.proofs.lemmas.List.Sorted.{IsPartitionPoint-from_clause}
use Rattle.lr_kept.proofs.Standing.{is_before, before_parted, exact}
use Rattle.lr_kept.proofs.range.beginning_with.Goals as goal

pub returns-clause-exactly : goal.returns-clause-exactly
returns-clause-exactly c =
    exact c.args.begin.now c.args.fronts.now c.partition_point-from.result c.begun_up_to-to.result c.requires
    (IsPartitionPoint-from_clause (is_before c.args.begin.now) _ _ c.partition_point-from.ensures.partitioned (before_parted c.args.begin.now c.args.fronts.now c.requires) (λ a r q k. search rules))
    c.begun_up_to-to.ensures.bound.0 c.begun_up_to-to.ensures.begun c.begun_up_to-to.ensures.ends
