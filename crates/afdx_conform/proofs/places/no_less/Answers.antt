use Rattle.std.proofs.Common.{rules, ltb, List, ℕ, drop, sym, subst}
use Rattle.std.proofs.lemmas.List.{take_rest}
use Rattle.std.proofs.lemmas.List.Sorted.{IsPartitionPoint-from_clause}
use Rattle.afdx_conform.specs.KnownBytes.{StandAt}
use Rattle.afdx_conform.proofs.PlacesLemmas.{parted, stand-later}
use Rattle.afdx_conform.proofs.places.no_less.Goals as goal

pub returns : goal.returns
returns c test arrivals h =
    let point = IsPartitionPoint-from_clause (λ (y : ℕ). ltb y c.args.least) _ _
    c.partition_point-count.ensures.partitioned
    (parted test arrivals c.args.places.now c.args.least h) (λ a r q k. search rules) in
    subst (λ (l : List ℕ). StandAt test c.args.least (drop c.args.least arrivals) l)
    (sym (take_rest c.args.places.now c.partition_point-count.result))
    (stand-later test arrivals c.args.places.now c.partition_point-count.result c.args.least
    c.partition_point-count.ensures.bound point h)
