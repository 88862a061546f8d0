use Rattle.std.proofs.Common.{◌≤◌, arith, length, ap₂, ◌+◌, ℕ, sym}
use Rattle.afdx_lawful.specs.Rings.{waiting_as}
use Rattle.afdx_lawful.proofs.CopyLemmas.{at_most}
use Rattle.afdx_lawful.proofs.unpaired.reach_of.Goals as goal

pub of-apart-requires : goal.of-apart-requires
of-apart-requires c =
    let most : length c.args.waits.now.bytes ≤ 1518 = at_most c.args.waits.now.bytes c.args.waits.now.whole in
    omega (arith, c.length.ensures, most)

pub returns-clause-reach : goal.returns-clause-reach
returns-clause-reach c s side are =
    ap₂ (λ (a b : ℕ). a + b)
    (c.of-apart.ensures.apart s (waiting_as side c.args.waits.now).frame are.limits are.apart (sym c.length.ensures))
    are.limits.slip
