use Rattle.std.proofs.Common.{arith, ◌∷◌}
use Rattle.afdx_input_sources.proofs.ArrivingLemmas.{latest-headings}
use Rattle.afdx_input_sources.proofs.listed.HeadingInOrder.keeps.Goals as goal

pub returns : goal.returns
returns g past x h =
    let before = latest-headings past in
    let after = latest-headings (x ∷ past) in
    record { later = omega (arith, h.in_order.order, before, after); few = h.in_order.few }
