use Rattle.std.proofs.Common.{◌≤◌, length, arith}
use Rattle.std.proofs.lemmas.List.Sorted.{IsNonDecreasingBy-from_all_adjacent}
use Rattle.afdx_conform.specs.declared.arrived.Arrived.{Arrived}
use Rattle.afdx_conform.proofs.InTimeLemmas.{up-more}
use Rattle.afdx_conform.proofs.in_time.go_by_time.Goals as goal

pub loop-count-init : goal.loop-count-init
loop-count-init c = (omega arith, λ k d lt. absurd (omega (arith, lt)))

pub loop-count-preserved : goal.loop-count-preserved
loop-count-preserved c =
    let inv = c.loop-count.invariant in
    let one = inv.0 in (
      omega (arith, one),
      up-more c.args.arrivals.now c.loop-count.count c.index-arrivals-count-in-loop-count.result
          c.index-arrivals-count.result inv.0
          c.loop-count-test.true c.index-arrivals-count-in-loop-count.is c.index-arrivals-count.is
          (let le = c.if-arrived-before.false in omega (arith, le)) inv.1,
    )

pub returns : goal.returns
returns c ok =
    let past : length c.args.arrivals.now ≤ c.loop-count.count =
    (let h = c.loop-count-test.false in omega (arith, h)) in
    IsNonDecreasingBy-from_all_adjacent (λ (a : Arrived). a.time) c.args.arrivals.now
    (λ k d lt. c.loop-count.invariant.1 k d (omega (arith, lt, past)))
