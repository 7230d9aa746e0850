use Rattle.std.proofs.Common.{◌≡◌, ◌≤◌, ◌-◌, ◌++◌, ℕ, List, true, length, take, drop, subst, sym, rules}
use Rattle.std.specs.Prelude.{All, Contains}
use Rattle.std.specs.List.Sorted.{IsPartitionedBy}
use Rattle.std.proofs.lemmas.List.Sorted.{IsPartitionPoint-from_clause}
use Rattle.lr_host.specs.Listing.{NamesRise}
use Rattle.lr_family.proofs.Prefixes.{before, begins, before_first, begun_first, StartsAt, EndsAt, rest_is, part_has, part_begins, part_rises}
use Rattle.lr_family.proofs.prefix.names_with.Goals as goal

-- where they begin, and where they end
found : (c : goal.After-partition_point-end) → StartsAt c.args.base.now c.args.names.now c.partition_point-first.result × EndsAt c.args.base.now (drop c.partition_point-first.result c.args.names.now) c.partition_point-end.result
found c =
    let names = c.args.names.now in
    let base = c.args.base.now in
    let i = c.partition_point-first.result in
    let j = c.partition_point-end.result in
    let rest = rest_is names i in
    let start : StartsAt base names i = IsPartitionPoint-from_clause (before base) names i c.partition_point-first.ensures.partitioned (before_first base names c.requires) (λ a r q k. search rules) in
    let begun : IsPartitionedBy (begins base) (take (length names - i) (drop i names)) = subst (λ (xs : List (List ℕ)). IsPartitionedBy (begins base) xs) (sym rest) (begun_first base names i c.requires start c.partition_point-first.ensures.bound) in
    (start, subst (λ (xs : List (List ℕ)). EndsAt base xs j) rest (IsPartitionPoint-from_clause (begins base) (take (length names - i) (drop i names)) j c.partition_point-end.ensures.partitioned begun (λ a r q k. search rules)))

fits : (c : goal.After-partition_point-end) → c.partition_point-end.result ≤ length (drop c.partition_point-first.result c.args.names.now)
fits c = subst (λ (xs : List (List ℕ)). c.partition_point-end.result ≤ length xs) (rest_is c.args.names.now c.partition_point-first.result) c.partition_point-end.ensures.bound

pub returns-clause-all : goal.returns-clause-all
returns-clause-all c = λ more here. subst (λ (xs : List (List ℕ)). Contains (take c.partition_point-end.result xs) (c.args.base.now ++ more)) (sym (rest_is c.args.names.now c.partition_point-first.result))
    (part_has c.args.base.now c.args.names.now c.partition_point-first.result c.partition_point-end.result more (found c).0 (found c).1 (fits c) here)

pub returns-clause-begin : goal.returns-clause-begin
returns-clause-begin c = subst (λ (xs : List (List ℕ)). All (λ name. begins c.args.base.now name ≡ true) (take c.partition_point-end.result xs)) (sym (rest_is c.args.names.now c.partition_point-first.result))
    (λ k d lt. part_begins c.args.base.now (drop c.partition_point-first.result c.args.names.now) c.partition_point-end.result (found c).1 (fits c) k d lt)

pub returns-clause-rising : goal.returns-clause-rising
returns-clause-rising c = subst (λ (xs : List (List ℕ)). NamesRise (take c.partition_point-end.result xs)) (sym (rest_is c.args.names.now c.partition_point-first.result)) (part_rises c.args.names.now c.partition_point-first.result c.partition_point-end.result c.requires)
