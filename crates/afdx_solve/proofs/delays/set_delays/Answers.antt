use Rattle.std.proofs.Common.{◌≡◌, ◌<◌, ◌≤◌, length, slice_get, slice_index, Some, ap, ◌∙◌, arith}
use Rattle.afdx_frame.proofs.ListLemmas.{AllByRecursion-slice_get, slice_get-within}
use Rattle.afdx_config.specs.Rows.{Rows}
use Rattle.afdx_config.specs.Lawful.{IsLinkUpTo, jitter_from_any}
use Rattle.afdx_solve.specs.declared.delays.Delays.{Delays}
use Rattle.afdx_solve.specs.Delays.{of_class}
use Rattle.afdx_solve.specs.Solved.{with_delay, with_delays_for, with_delays, delay_to, latency_over}
use Rattle.afdx_solve.proofs.DelayLemmas.{latency_over-same, delays-of_class}
use Rattle.afdx_solve.proofs.StageLemmas.{none_changed, get-first, length-first, stage-next, stage-done}
use Rattle.afdx_solve.proofs.delays.set_delays.Goals as goal

pub loop-i-init : goal.loop-i-init
loop-i-init c = none_changed (with_delay c.args.options c.args.tables.now) c.args.tables.now

pub times_at-times-requires-clause-within : goal.times_at-times-requires-clause-within
times_at-times-requires-clause-within c =
    omega (
      arith,
      ap (λ (r : Rows). length r.links) c.loop-i.invariant,
      length-first (with_delay c.args.options c.args.tables.now) c.loop-i.i c.args.tables.now.links,
      c.link_count-count.ensures.count,
    )

pub set_times-requires-clause-within : goal.set_times-requires-clause-within
set_times-requires-clause-within c =
    omega (
      arith,
      ap (λ (r : Rows). length r.links) c.loop-i.invariant,
      length-first (with_delay c.args.options c.args.tables.now) c.loop-i.i c.args.tables.now.links,
      c.link_count-count.ensures.count,
    )

pub loop-i-preserved : goal.loop-i-preserved
loop-i-preserved c =
    let t = c.args.tables.now in
    let i = c.loop-i.i in
    let f = with_delay c.args.options t in
    let within : i < length t.links = omega (arith, c.link_count-count.ensures.count) in
    let row = slice_get-within t.links i within in
    let l = row.0 in
    let here : slice_get c.loop-i.tables.links i ≡ Some l =
    ap (λ (r : Rows). slice_get r.links i) c.loop-i.invariant ∙ get-first f i t.links ∙ row.1 in
    let lawful = AllByRecursion-slice_get (IsLinkUpTo jitter_from_any (length t.systems)) t.links i l
    c.link_count-count.ensures.lawful.links.each row.1 in
    let d : Delays = record { high = c.delays_of.result; low = c.delays_of-2.result } in
    let kept = delays-of_class t d c.delays_of.ensures c.delays_of-2.ensures l.priority in
    let needed : latency_over (slice_index (of_class l.priority d)) l.to ≡ latency_over (delay_to t l.priority) l.to =
    latency_over-same (slice_index (of_class l.priority d)) (delay_to t l.priority)
    (length t.systems) kept.each l.to lawful.to in
    stage-next f t c.loop-i.tables c.set_times.new.self i c.times_at-times.result l c.loop-i.invariant row.1
    (c.times_at-times.ensures.changed l here ∙ ap (λ n. with_delays_for c.args.options n l) needed)
    c.set_times.ensures.changed

pub returns : goal.returns
unfolding with_delays
returns c =
    let t = c.args.tables.now in
    let past : length t.links ≤ c.loop-i.i = omega (arith, c.link_count-count.ensures.count) in
    stage-done (with_delay c.args.options t) t c.loop-i.tables c.loop-i.i c.loop-i.invariant past
