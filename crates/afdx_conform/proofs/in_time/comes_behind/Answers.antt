use Rattle.std.proofs.Common.{◌-◌, length, sym, ap, ◌∙◌, leb-true, arith}
use Rattle.std.proofs.lemmas.List.{get_or_default}
use Rattle.std.proofs.lemmas.List.Sorted.{IsNonDecreasingBy-push}
use Rattle.afdx_conform.specs.declared.arrived.Arrived.{Arrived}
use Rattle.afdx_conform.proofs.in_time.comes_behind.Goals as goal

pub returns-then-count-eq0 : goal.returns-then-count-eq0
returns-then-count-eq0 c ok up =
    let none = c.if-count-eq0.true in
    IsNonDecreasingBy-push (λ (a : Arrived). a.time) c.args.arrivals.now c.args.arrived.now up
    (λ d some. absurd (omega (arith, none, some)))

pub returns : goal.returns
returns c ok up =
    let le = leb-true c.index-arrivals-count.result.time c.args.arrived.now.time ok in
    IsNonDecreasingBy-push (λ (a : Arrived). a.time) c.args.arrivals.now c.args.arrived.now up
    (λ d some.
    let same = ap (λ (a : Arrived). a.time)
    (get_or_default c.args.arrivals.now (length c.args.arrivals.now - 1) d c.index-arrivals-count.result
    (omega (arith, some))
    ∙ sym c.index-arrivals-count.is) in
    omega (arith, le, same))
