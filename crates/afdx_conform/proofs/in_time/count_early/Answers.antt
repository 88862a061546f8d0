use Rattle.std.proofs.Common.{rules, ltb, get_or, arith}
use Rattle.std.proofs.lemmas.Bool.{ltb-true}
use Rattle.std.proofs.lemmas.List.Sorted.{IsPartitionPoint-from_clause, IsPartitionedBy-ltb}
use Rattle.afdx_conform.specs.declared.arrived.Arrived.{Arrived}
use Rattle.afdx_conform.proofs.InTimeLemmas.{fits-no-early}
use Rattle.afdx_conform.proofs.in_time.count_early.Goals as goal

pub returns : goal.returns
returns c i a lt =
    let since = c.saturating_sub-since.result in
    let point = IsPartitionPoint-from_clause (λ (x : Arrived). ltb x.time since) _ _
    c.partition_point.ensures.partitioned
    (IsPartitionedBy-ltb (λ (x : Arrived). x.time) c.args.arrivals.now since c.requires) (λ x r q k. search rules) in
    let early = ltb-true (get_or c.args.arrivals.now i a).time since (point.0 i a (omega arith) lt) in
    let first = c.saturating_sub.ensures in
    let second = c.saturating_sub-since.ensures in
    fits-no-early c.args.limits.now c.args.frame.now (get_or c.args.arrivals.now i a)
    (omega (arith, early, first, second))
