use Rattle.std.proofs.Common.{◌≡◌, ℕ, ◌+◌, drop, subst, arith}
use Rattle.afdx_conform.specs.KnownBytes.{StandAt, has_bytes, may_fit}
use Rattle.afdx_conform.proofs.InTimeLemmas.{fits-no-other}
use Rattle.afdx_conform.proofs.PlacesLemmas.{stand-ahead, stand-behind, stand-less}
use Rattle.afdx_conform.proofs.in_time.in_time.Goals as goal

pub returns : goal.returns
returns c =
    let fit = may_fit c.args.limits.now c.args.frame.now in
    let arrivals = c.args.arrivals.now in
    let early = c.count_early-early.result in
    let at : early ≡ 0 + early = omega arith in
    let later = stand-less (has_bytes c.args.frame.now.bytes) fit early (drop early arrivals) c.no_less-later.result.now
    (λ a e. fits-no-other c.args.limits.now c.args.frame.now a e)
    (c.no_less-later.ensures (has_bytes c.args.frame.now.bytes) arrivals c.requires.places) in
    stand-ahead fit c.count_until-until.result 0 arrivals c.less.result.now c.count_until-until.ensures
    (c.less.ensures fit arrivals
    (stand-behind fit early 0 arrivals c.no_less-later.result.now c.count_early-early.ensures
    (subst (λ (m : ℕ). StandAt fit m (drop early arrivals) c.no_less-later.result.now) at later)))
