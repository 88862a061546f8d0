use Rattle.std.proofs.Common.{rules, ltb, ℕ}
use Rattle.std.proofs.lemmas.List.Sorted.{IsPartitionPoint-from_clause}
use Rattle.afdx_conform.proofs.PlacesLemmas.{parted, stand-before}
use Rattle.afdx_conform.proofs.places.less.Goals as goal

pub returns : goal.returns
returns c test arrivals h =
    let point = IsPartitionPoint-from_clause (λ (y : ℕ). ltb y c.args.most) _ _
    c.partition_point-count.ensures.partitioned
    (parted test arrivals c.args.places.now c.args.most h) (λ a r q k. search rules) in
    stand-before test arrivals c.args.places.now c.partition_point-count.result c.args.most
    c.partition_point-count.ensures.bound point h
