use Rattle.std.proofs.Common.{rules, ◌≡◌, ℕ, ◌+◌, List, [], map, drop, length, sym, ap, ◌∙◌, subst, arith}
use Rattle.std.proofs.lemmas.List.{length_push}
use Rattle.std.proofs.lemmas.List.Elements.{All-same}
use Rattle.std.specs.Prelude.{nat_lt}
use Rattle.afdx_conform.specs.Explanations.{link, levels_then}
use Rattle.afdx_conform.specs.Findings.{Finding, Judged, aged, deviates, front_rest, is_uncertain, most_states, rate_mark, thinned_onto, with_states}
use Rattle.afdx_conform.specs.HeldStates.{IsWithin, state_of}
use Rattle.afdx_conform.specs.Limits.{gone_of}
use Rattle.afdx_conform.specs.Marks.{arrival_of, marked_all, told}
use Rattle.afdx_conform.specs.Naming.{AreSettled, with_last}
use Rattle.afdx_conform.specs.States.{State, led_by, states_at}
use Rattle.afdx_conform.specs.declared.finding.Mark.{Mark}
use Rattle.afdx_conform.specs.declared.states.StreamState.{StreamState}
use Rattle.afdx_conform.proofs.ArrivalSteps.{stands-arrival, answered-none, more-marks, one-less}
use Rattle.afdx_conform.proofs.DeviateSteps.{within-frames}
use Rattle.afdx_conform.proofs.GapLemmas.{settled-push}
use Rattle.afdx_conform.proofs.NamingLemmas.{told-last}
use Rattle.afdx_conform.proofs.PlacesLemmas.{each-slice}
use Rattle.afdx_conform.proofs.arriving.go_wrong.Goals as goal

pub returns-clause-defined : goal.returns-clause-defined
returns-clause-defined c z last j b k at t fault sure none s =
    let before = ap (λ (l : List StreamState). map (state_of (map gone_of c.args.recorded.now.frames.now)) l)
    c.as_slice-states.ensures.value ∙ s.states in
    let mark = c.test_arrival-tested.ensures.reason z (map gone_of c.args.recorded.now.frames.now) last b.rates
    (k.charged fault) t.ns
    ∙ ap (λ (l : List State). rate_mark z last (arrival_of c.args.coming.now.arrived.now) l) before in
    let unc = c.test_arrival-tested.ensures.uncertain z (map gone_of c.args.recorded.now.frames.now) last b.rates
    (k.charged fault) t.ns
    ∙ ap (λ (l : List State). is_uncertain z last (arrival_of c.args.coming.now.arrived.now) l) before in
    let marks = c.in_ok-reserve.ensures.items in
    let held = c.in_ok-held.ensures.items ∙ c.as_slice-states.ensures.value in
    let len : c.len-from.result ≡ length c.args.judging.now.marks.items = search rules in
    let none_copied =
    ap (λ (l : List StreamState).
    (led_by (λ s. states_at z (arrival_of c.args.coming.now.arrived.now) (levels_then z s.levels last
    (arrival_of c.args.coming.now.arrived.now)) s) (map (state_of (map gone_of c.args.recorded.now.frames.now)) l)))
    held ∙ none in
    let none_judged =
    ap (λ (l : List State).
    (led_by (λ s. states_at z (arrival_of c.args.coming.now.arrived.now) (levels_then z s.levels last
    (arrival_of c.args.coming.now.arrived.now)) s) l)) (sym s.states) ∙ none in
    let states = ap (λ (l : List StreamState). map (state_of (map gone_of c.args.recorded.now.frames.now)) l) held
    ∙ s.states in
    let whole = c.in_ok-outcome.ensures.defined z last j b (k.charged fault) t none_copied in
    let told_is = ap (λ (l : List Finding). told c.args.coming.now.arrived.now.time l
    (marked_all c.args.recorded.now.arrivals.now c.unexplained_all.new.marks.items) j) c.add_last.ensures
    ∙ told-last c.args.coming.now.arrived.now.time c.unexplained_all.new.found.items c.in_ok-outcome.outcome.last
    (marked_all c.args.recorded.now.arrivals.now c.unexplained_all.new.marks.items) j
    ∙ ap (λ (q : Judged). with_last c.args.coming.now.arrived.now.time c.in_ok-outcome.outcome.last q)
    (c.unexplained_all.ensures.found z c.args.coming.now.arrived.now.time j b.limits
    (sym s.marks ∙ ap (λ (l : List Mark). marked_all c.args.recorded.now.arrivals.now l) (sym marks))) in
    let answered =
    answered-none z (map arrival_of (drop (length c.args.judging.now.marks.items + 1) c.args.recorded.now.arrivals.now))
    last
    (arrival_of c.args.coming.now.arrived.now) j none_judged
    ∙ ap
    (λ (l : List State). deviates z
    (map arrival_of (drop (length c.args.judging.now.marks.items + 1) c.args.recorded.now.arrivals.now))
    (arrival_of c.args.coming.now.arrived.now) (aged z last (arrival_of c.args.coming.now.arrived.now) l)
    (front_rest l) j) (sym states)
    ∙ ap (λ (n : ℕ). deviates z (map arrival_of (drop (n + 1) c.args.recorded.now.arrivals.now))
    (arrival_of c.args.coming.now.arrived.now)
    (aged z last (arrival_of c.args.coming.now.arrived.now) (map (state_of (map gone_of c.args.recorded.now.frames.now))
    c.in_ok-held.held.items)) (front_rest
    (map (state_of (map gone_of c.args.recorded.now.frames.now)) c.in_ok-held.held.items)) j)
    (sym len)
    ∙ sym whole
    ∙ ap
    (λ (q : Judged). with_states (map (state_of (map gone_of c.args.recorded.now.frames.now))
    c.in_ok-outcome.outcome.held.items) q)
    (sym told_is) in
    let within = c.in_ok-outcome.ensures.within (link z) z.by (length c.args.judging.now.marks.items) b.rates
    (All-same (λ (h : StreamState). IsWithin c.args.bounds.now.rates (length c.args.recorded.now.frames.now)
    (length c.args.judging.now.marks.items) h) _ _
    held
    s.within) in
    let within_slice = All-same
    (λ (h : StreamState). IsWithin c.args.bounds.now.rates (length c.args.recorded.now.frames.now)
    (length c.args.judging.now.marks.items + 1) h) _ _ c.as_slice.ensures.value within in
    let thin = ap (λ (l : List StreamState). map (state_of (map gone_of c.args.recorded.now.frames.now)) l)
    c.settle.ensures.held
    ∙ c.in_ok-few.ensures.defined (map gone_of c.args.recorded.now.frames.now)
    (within-frames c.args.bounds.now.rates c.args.recorded.now.frames.now (length c.args.judging.now.marks.items + 1)
    c.as_slice.result.now
    within_slice)
    ∙ ap (λ (l : List StreamState). thinned_onto [] (map (state_of (map gone_of c.args.recorded.now.frames.now)) l))
    c.as_slice.ensures.value in
    let size = c.unexplained_all.ensures.length ∙ ap (λ (l : List Mark). length l) marks in
    let pushed = c.settle.ensures.marks ∙ c.push_reserved.ensures.items in
    stands-arrival c.args.bounds.now.rates c.args.recorded.now.frames.now c.args.recorded.now.arrivals.now z
    (map arrival_of (drop (length
    c.args.judging.now.marks.items + 1) c.args.recorded.now.arrivals.now)) last c.args.coming.now.arrived.now j
    c.args.judging.now c.settle.new.judging s c.requires.place at c.unexplained_all.new.marks.items
    c.in_ok-outcome.outcome.held.items
    c.add_last.new.found.items c.test_arrival-tested.result.reason c.test_arrival-tested.result.is_uncertain sure
    (sym k.fault ∙ fault) answered
    thin mark unc
    size pushed c.settle.ensures.uncertain
    (c.settle.ensures.unsure ∙ ap (λ (l : List StreamState). nat_lt most_states (length l)) (sym c.settle.ensures.held))
    (more-marks c.args.bounds.now.rates (length c.args.recorded.now.frames.now) (length c.args.judging.now.marks.items)
    c.unexplained_all.new.marks.items c.settle.new.judging.marks.items _ c.settle.new.judging.held.items pushed size
    (All-same (λ (h : StreamState). IsWithin c.args.bounds.now.rates (length c.args.recorded.now.frames.now)
    (length c.args.judging.now.marks.items + 1) h) _ _ c.settle.ensures.held
    (c.in_ok-few.ensures.within c.args.bounds.now.rates (length c.args.recorded.now.frames.now)
    (length c.args.judging.now.marks.items + 1)
    within_slice)))

pub returns-clause-marks : goal.returns-clause-marks
returns-clause-marks c =
    ap (λ (l : List Mark). length l) (c.settle.ensures.marks ∙ c.push_reserved.ensures.items)
    ∙ length_push c.unexplained_all.new.marks.items _
    ∙ ap (λ (n : ℕ). n + 1) (c.unexplained_all.ensures.length
    ∙ ap (λ (l : List Mark). length l) c.in_ok-reserve.ensures.items)

pub returns-clause-counted : goal.returns-clause-counted
returns-clause-counted c =
    let o = one-less c.test_arrival-tested.result.is_uncertain in
    let e = c.settle.ensures.uncertain in
    omega (arith, e, o)

pub returns-clause-within : goal.returns-clause-within
returns-clause-within c l by count r all =
    All-same (λ (h : StreamState). IsWithin c.args.bounds.now.rates (length c.args.recorded.now.frames.now)
    (count + 1) h) _ _
    c.settle.ensures.held
    (c.in_ok-few.ensures.within c.args.bounds.now.rates (length c.args.recorded.now.frames.now) (count + 1)
    (All-same (λ (h : StreamState). IsWithin c.args.bounds.now.rates (length c.args.recorded.now.frames.now)
    (count + 1) h) _ _
    c.as_slice.ensures.value
    (c.in_ok-outcome.ensures.within l by count r
    (All-same (λ (h : StreamState). IsWithin c.args.bounds.now.rates (length c.args.recorded.now.frames.now) count h)
    _ _
    (c.in_ok-held.ensures.items ∙ c.as_slice-states.ensures.value) all))))

pub deviate-requires-clause-lookup : goal.deviate-requires-clause-lookup
deviate-requires-clause-lookup c = record {
  known = c.requires.known;
  each = each-slice c.args.known.now c.args.recorded.now.arrivals.now c.in_ok-all.all.items c.as_slice-each.result.now
      c.as_slice-each.ensures.value
      c.in_ok-all.ensures;
}

pub unexplained_all-requires-clause-each : goal.unexplained_all-requires-clause-each
unexplained_all-requires-clause-each c =
    each-slice c.args.known.now c.args.recorded.now.arrivals.now c.in_ok-all.all.items c.as_slice-each.result.now
    c.as_slice-each.ensures.value
    c.in_ok-all.ensures

pub unexplained_all-requires-clause-settled : goal.unexplained_all-requires-clause-settled
unexplained_all-requires-clause-settled c =
    subst (λ (l : List Mark). AreSettled c.args.known.now.gaps.items c.args.recorded.now.arrivals.now l)
    (sym c.in_ok-reserve.ensures.items)
    c.requires.settled

pub returns-clause-settled : goal.returns-clause-settled
returns-clause-settled c =
    settled-push c.unexplained_all.new.known.gaps.items c.args.recorded.now.arrivals.now
    c.unexplained_all.new.marks.items
    c.settle.new.judging.marks.items _
    (c.settle.ensures.marks ∙ c.push_reserved.ensures.items) c.unexplained_all.ensures.settled
