use Rattle.std.proofs.Common.{arith, ◌∷◌}
use Rattle.afdx_input_sources.proofs.PairedLemmas.{latest-numbers}
use Rattle.afdx_input_sources.proofs.number.NumberInOrder.keeps.Goals as goal

pub returns : goal.returns
returns g past x h =
    let before = latest-numbers past in
    let after = latest-numbers (x ∷ past) in
    record { later = omega (arith, h.order, before, after); few = h.few }
