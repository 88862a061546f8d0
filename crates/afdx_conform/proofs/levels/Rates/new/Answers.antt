use Rattle.std.proofs.Common.{◌≡◌, ◌+◌, ◌*◌, arith}
use Rattle.afdx_conform.proofs.LevelLemmas.{in-range, bag-low, bag-high}
use Rattle.afdx_conform.proofs.levels.Rates.new.Goals as goal

pub invariant_of-result : goal.invariant_of-result
invariant_of-result c =
    let rule = c.args.rule.now in
    let by = c.args.by.now in
    let smax = c.smax-smax.result in
    let fill = c.fill_time-fill_ns.result in
    let wire : smax ≡ rule.lmax + 20 = c.smax-smax.ensures in
    let time : fill ≡ 1000000 * rule.bag_ms + 1000 * rule.jitter_us = c.fill_time-fill_ns.ensures in
    let longest = rule.in_range.longest in
    record {
      in_range = in-range smax fill rule.bag_ms rule.jitter_us by.drift by.slack by.asked (omega (arith, wire, longest))
          time
          (bag-low rule.bag_ms rule.in_range.bag) (bag-high rule.bag_ms rule.in_range.bag) rule.in_range.jitter
          by.in_range.drift by.in_range.slack by.in_range.asked;
    }
