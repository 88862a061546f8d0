use Rattle.std.proofs.Common.{rules, ℕ, ◌+◌, ◌-◌, leb, min, get_or, length, ap, ◌∙◌, arith}
use Rattle.std.proofs.lemmas.Bool.{leb-false}
use Rattle.std.proofs.lemmas.List.Sorted.{IsPartitionPoint-from_clause, IsPartitionedBy-leb}
use Rattle.afdx_conform.specs.LimitRanges.{most_bytes}
use Rattle.afdx_conform.specs.declared.arrived.Arrived.{Arrived}
use Rattle.afdx_conform.proofs.InTimeLemmas.{fits-no-late}
use Rattle.afdx_conform.proofs.LimitLemmas.{on_wire}
use Rattle.afdx_conform.proofs.in_time.count_until.Goals as goal

pub returns-then-left-wire : goal.returns-then-left-wire
returns-then-left-wire c i a le lt =
    let early = c.if-left-wire.true in
    let wire = on_wire c.args.limits.now c.wire_time-wire.result c.min.result
    (min (length c.args.frame.now.bytes) most_bytes)
    (c.min.ensures ∙ ap (λ (n : ℕ). min n most_bytes) c.length.ensures) c.wire_time-wire.ensures in
    fits-no-late c.args.limits.now c.args.frame.now (get_or c.args.arrivals.now i a) c.wire_time-wire.result
    wire (get_or c.args.arrivals.now i a).short (omega (arith, early))

pub returns : goal.returns
returns c i a le lt =
    let until = c.args.frame.now.time + c.args.limits.now.reach - c.wire_time-wire.result in
    let point = IsPartitionPoint-from_clause (λ (x : Arrived). leb x.time until) _ _
    c.partition_point.ensures.partitioned
    (IsPartitionedBy-leb (λ (x : Arrived). x.time) c.args.arrivals.now until c.requires) (λ x r q k. search rules) in
    let late = leb-false (get_or c.args.arrivals.now i a).time until (point.1 i a le lt) in
    let enough = c.if-left-wire.false in
    let wire = on_wire c.args.limits.now c.wire_time-wire.result c.min.result
    (min (length c.args.frame.now.bytes) most_bytes)
    (c.min.ensures ∙ ap (λ (n : ℕ). min n most_bytes) c.length.ensures) c.wire_time-wire.ensures in
    fits-no-late c.args.limits.now c.args.frame.now (get_or c.args.arrivals.now i a) c.wire_time-wire.result
    wire (get_or c.args.arrivals.now i a).short (omega (arith, late, enough))
