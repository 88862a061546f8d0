use Rattle.std.proofs.Common.{◌<◌, get_or, length, sym, ap, ◌∙◌, arith}
use Rattle.std.proofs.lemmas.List.{get_or_default}
use Rattle.afdx_conform.specs.KnownBytes.{has_bytes}
use Rattle.afdx_conform.specs.declared.arrived.Arrived.{Arrived}
use Rattle.afdx_conform.proofs.gaps.first_alike.Goals as goal

pub returns-then-is_same : goal.returns-then-is_same
returns-then-is_same c a =
    let first = get_or c.args.places.now 0 0 in
    let within : first < length c.args.arrivals.now = (let e = c.if-first-arrivals.false in omega (arith, e)) in
    ap (λ (v : Arrived). has_bytes c.args.frame.now.bytes v)
    (get_or_default c.args.arrivals.now first a c.index-arrivals-first.result within ∙ sym c.index-arrivals-first.is)
    ∙ sym c.is_same.ensures ∙ c.if-is_same.true
