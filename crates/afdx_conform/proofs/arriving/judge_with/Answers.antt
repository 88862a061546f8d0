use Rattle.std.proofs.Common.{◌+◌, List, [], ◌∷◌, map, drop, length, refl, sym, ap, ◌∙◌, arith}
use Rattle.std.proofs.lemmas.List.{length_push}
use Rattle.std.proofs.lemmas.List.Elements.{All-same}
use Rattle.afdx_conform.specs.Explanations.{link, levels_then}
use Rattle.afdx_conform.specs.Findings.{Finding, Judged, is_uncertain, rate_mark, most_states, thinned_onto, with_states}
use Rattle.afdx_conform.specs.HeldStates.{IsWithin, state_of}
use Rattle.afdx_conform.specs.Limits.{gone_of}
use Rattle.afdx_conform.specs.Marks.{arrival_of, marked_all, told}
use Rattle.afdx_conform.specs.States.{State, led_by, states_at}
use Rattle.afdx_conform.specs.declared.finding.Mark.{Mark}
use Rattle.afdx_conform.specs.declared.states.StreamState.{StreamState}
use Rattle.std.specs.Prelude.{nat_lt}
use Rattle.afdx_conform.proofs.AloneLemmas.{thinned-alone}
use Rattle.afdx_conform.proofs.ArrivalSteps.{stands-arrival, stands-fault, answered-led, more-marks, one-less}
use Rattle.afdx_conform.proofs.DeviateSteps.{some-held, within-frames, within-more}
use Rattle.afdx_conform.proofs.GapLemmas.{settled-push}
use Rattle.afdx_conform.proofs.NamingLemmas.{told-none}
use Rattle.afdx_conform.proofs.arriving.judge_with.Goals as goal

pub returns-in-Some-clause-defined : goal.returns-in-Some-clause-defined
returns-in-Some-clause-defined c z last j b k at t sure s =
    stands-fault c.args.bounds.now.rates c.args.recorded.now.frames.now c.args.recorded.now.arrivals.now z
    (map arrival_of (drop (length
    c.args.judging.now.marks.items + 1) c.args.recorded.now.arrivals.now)) last c.args.coming.now.arrived.now j
    c.args.judging.now _ s c.requires.place at c.in-Some.fault c.new.result.items c.new.ensures.items sure
    (sym k.fault ∙ c.in-Some.is)
    refl c.in_ok-push-in-Some.ensures.items refl refl
    (more-marks c.args.bounds.now.rates (length c.args.recorded.now.frames.now) (length c.args.judging.now.marks.items)
    c.args.judging.now.marks.items
    c.push.new.self.items _ c.args.judging.now.held.items c.in_ok-push-in-Some.ensures.items refl
    (within-more c.args.bounds.now.rates (length c.args.recorded.now.frames.now) (length c.args.judging.now.marks.items)
    c.args.judging.now.held.items
    s.within))

pub returns-in-Some-led_alone-clause-defined : goal.returns-in-Some-led_alone-clause-defined
returns-in-Some-led_alone-clause-defined c z last j b k at t sure s =
    let states = ap (λ (l : List StreamState). map (state_of (map gone_of c.args.recorded.now.frames.now)) l)
    c.as_slice-states.ensures.value ∙ s.states in
    let led = sym (c.in-Some-led_alone.ensures.defined z last b (k.charged c.in-None.is) t
    ∙ ap (λ (l : List State). (led_by
    (λ s. states_at z (arrival_of c.args.coming.now.arrived.now)
    (levels_then z s.levels last (arrival_of c.args.coming.now.arrived.now)) s)
    l)) states) in
    let nothing = ap (λ (l : List Finding). told c.args.coming.now.arrived.now.time l
    (marked_all c.args.recorded.now.arrivals.now c.args.judging.now.marks.items) j)
    c.new-in-Some-led_alone.ensures.items
    ∙ told-none c.args.coming.now.arrived.now.time
    (marked_all c.args.recorded.now.arrivals.now c.args.judging.now.marks.items) j
    (sym s.marks) in
    let answered =
    answered-led z (map arrival_of (drop (length c.args.judging.now.marks.items + 1) c.args.recorded.now.arrivals.now))
    last
    (arrival_of c.args.coming.now.arrived.now) j
    (map (state_of (map gone_of c.args.recorded.now.frames.now)) (c.in-Some-led_alone.state
    ∷ [])) led refl
    ∙ ap (λ (q : Judged).
    with_states (map (state_of (map gone_of c.args.recorded.now.frames.now)) (c.in-Some-led_alone.state
    ∷ [])) q)
    (sym nothing) in
    let within = All-same (λ (h : StreamState). IsWithin c.args.bounds.now.rates (length c.args.recorded.now.frames.now)
    (length c.args.judging.now.marks.items + 1) h) _ _ c.in_ok-go_on_alone.ensures.held
    (c.in-Some-led_alone.ensures.within (link z) z.by (length c.args.judging.now.marks.items) b.rates
    (All-same (λ (h : StreamState). IsWithin c.args.bounds.now.rates (length c.args.recorded.now.frames.now)
    (length c.args.judging.now.marks.items) h) _ _
    c.as_slice-states.ensures.value s.within)) in
    stands-arrival c.args.bounds.now.rates c.args.recorded.now.frames.now c.args.recorded.now.arrivals.now z
    (map arrival_of (drop (length
    c.args.judging.now.marks.items + 1) c.args.recorded.now.arrivals.now)) last c.args.coming.now.arrived.now j
    c.args.judging.now c.go_on_alone.new.judging s c.requires.place at c.args.judging.now.marks.items
    (c.in-Some-led_alone.state ∷ [])
    c.new-in-Some-led_alone.result.items c.test_arrival-tested.result.reason c.test_arrival-tested.result.is_uncertain
    sure
    (sym k.fault ∙ c.in-None.is) answered
    (ap (λ (l : List StreamState). map (state_of (map gone_of c.args.recorded.now.frames.now)) l)
    c.in_ok-go_on_alone.ensures.held
    ∙ thinned-alone (map gone_of c.args.recorded.now.frames.now) c.in-Some-led_alone.state)
    (c.test_arrival-tested.ensures.reason z (map gone_of c.args.recorded.now.frames.now) last b.rates
    (k.charged c.in-None.is) t.ns
    ∙ ap (λ (l : List State). rate_mark z last (arrival_of c.args.coming.now.arrived.now) l) states)
    (c.test_arrival-tested.ensures.uncertain z (map gone_of c.args.recorded.now.frames.now) last b.rates
    (k.charged c.in-None.is) t.ns
    ∙ ap (λ (l : List State). is_uncertain z last (arrival_of c.args.coming.now.arrived.now) l) states)
    refl c.in_ok-go_on_alone.ensures.marks c.in_ok-go_on_alone.ensures.uncertain
    (c.in_ok-go_on_alone.ensures.unsure
    ∙ ap (λ (l : List StreamState). nat_lt most_states (length l)) (sym c.in_ok-go_on_alone.ensures.held))
    (more-marks c.args.bounds.now.rates (length c.args.recorded.now.frames.now) (length c.args.judging.now.marks.items)
    c.args.judging.now.marks.items
    c.go_on_alone.new.judging.marks.items _ c.go_on_alone.new.judging.held.items c.in_ok-go_on_alone.ensures.marks
    refl within)

pub returns-in-Some-led_alone-clause-within : goal.returns-in-Some-led_alone-clause-within
returns-in-Some-led_alone-clause-within c l by count r all =
    All-same (λ (h : StreamState). IsWithin c.args.bounds.now.rates (length c.args.recorded.now.frames.now)
    (count + 1) h) _ _
    c.in_ok-go_on_alone.ensures.held
    (c.in-Some-led_alone.ensures.within l by count r
    (All-same (λ (h : StreamState). IsWithin c.args.bounds.now.rates (length c.args.recorded.now.frames.now) count h)
    _ _
    c.as_slice-states.ensures.value all))

pub returns-then-has_any-clause-defined : goal.returns-then-has_any-clause-defined
returns-then-has_any-clause-defined c z last j b k at t sure s =
    let states = ap (λ (l : List StreamState). map (state_of (map gone_of c.args.recorded.now.frames.now)) l)
    c.as_slice-states.ensures.value ∙ s.states in
    let led = sym (c.in_ok-led.ensures.defined z last b (k.charged c.in-None.is) t
    ∙ ap (λ (l : List State). (led_by (λ s.
    states_at z (arrival_of c.args.coming.now.arrived.now)
    (levels_then z s.levels last (arrival_of c.args.coming.now.arrived.now)) s) l))
    states) in
    let some = some-held (map gone_of c.args.recorded.now.frames.now) c.in_ok-led.led.items
    (λ e. c.has_any.ensures.left c.if-has_any.true (c.as_slice-ahead.ensures.value ∙ e)) in
    let nothing = ap (λ (l : List Finding). told c.args.coming.now.arrived.now.time l
    (marked_all c.args.recorded.now.arrivals.now c.args.judging.now.marks.items) j) c.new-then-has_any.ensures.items
    ∙ told-none c.args.coming.now.arrived.now.time
    (marked_all c.args.recorded.now.arrivals.now c.args.judging.now.marks.items) j
    (sym s.marks) in
    let answered =
    answered-led z (map arrival_of (drop (length c.args.judging.now.marks.items + 1) c.args.recorded.now.arrivals.now))
    last
    (arrival_of c.args.coming.now.arrived.now) j
    (map (state_of (map gone_of c.args.recorded.now.frames.now)) c.in_ok-led.led.items) led some
    ∙ ap (λ (q : Judged).
    with_states (map (state_of (map gone_of c.args.recorded.now.frames.now)) c.in_ok-led.led.items) q)
    (sym nothing) in
    let within = All-same (λ (h : StreamState). IsWithin c.args.bounds.now.rates (length c.args.recorded.now.frames.now)
    (length c.args.judging.now.marks.items + 1) h) _ _ c.as_slice-ahead.ensures.value
    (c.in_ok-led.ensures.within (link z) z.by (length c.args.judging.now.marks.items) b.rates
    (All-same (λ (h : StreamState). IsWithin c.args.bounds.now.rates (length c.args.recorded.now.frames.now)
    (length c.args.judging.now.marks.items) h) _ _
    c.as_slice-states.ensures.value s.within)) in
    let thin = c.in_ok-go_on.ensures.thinned (map gone_of c.args.recorded.now.frames.now)
    (within-frames c.args.bounds.now.rates c.args.recorded.now.frames.now (length c.args.judging.now.marks.items + 1)
    c.as_slice-ahead.result.now
    within)
    ∙ ap (λ (l : List StreamState). thinned_onto [] (map (state_of (map gone_of c.args.recorded.now.frames.now)) l))
    c.as_slice-ahead.ensures.value in
    stands-arrival c.args.bounds.now.rates c.args.recorded.now.frames.now c.args.recorded.now.arrivals.now z
    (map arrival_of (drop (length
    c.args.judging.now.marks.items + 1) c.args.recorded.now.arrivals.now)) last c.args.coming.now.arrived.now j
    c.args.judging.now c.go_on.new.judging s c.requires.place at c.args.judging.now.marks.items c.in_ok-led.led.items
    c.new-then-has_any.result.items c.test_arrival-tested.result.reason c.test_arrival-tested.result.is_uncertain sure
    (sym k.fault ∙ c.in-None.is) answered thin
    (c.test_arrival-tested.ensures.reason z (map gone_of c.args.recorded.now.frames.now) last b.rates
    (k.charged c.in-None.is) t.ns
    ∙ ap (λ (l : List State). rate_mark z last (arrival_of c.args.coming.now.arrived.now) l) states)
    (c.test_arrival-tested.ensures.uncertain z (map gone_of c.args.recorded.now.frames.now) last b.rates
    (k.charged c.in-None.is) t.ns
    ∙ ap (λ (l : List State). is_uncertain z last (arrival_of c.args.coming.now.arrived.now) l) states)
    refl c.in_ok-go_on.ensures.marks c.in_ok-go_on.ensures.uncertain c.in_ok-go_on.ensures.unsure
    (more-marks c.args.bounds.now.rates (length c.args.recorded.now.frames.now) (length c.args.judging.now.marks.items)
    c.args.judging.now.marks.items
    c.go_on.new.judging.marks.items _ c.go_on.new.judging.held.items c.in_ok-go_on.ensures.marks refl
    (c.in_ok-go_on.ensures.within c.args.bounds.now.rates (length c.args.recorded.now.frames.now)
    (length c.args.judging.now.marks.items + 1) within))

pub returns-clause-defined : goal.returns-clause-defined
returns-clause-defined c z last j b k at t sure s =
    let gone = sym c.as_slice-ahead.ensures.value ∙ c.has_any.ensures.none c.if-has_any.false in
    let none =
    ap (λ (l : List StreamState).
    (led_by (λ s. states_at z (arrival_of c.args.coming.now.arrived.now) (levels_then z s.levels last
    (arrival_of c.args.coming.now.arrived.now)) s) (map (state_of (map gone_of c.args.recorded.now.frames.now)) l)))
    (sym c.as_slice-states.ensures.value)
    ∙ sym (c.in_ok-led.ensures.defined z last b (k.charged c.in-None.is) t)
    ∙ ap (λ (l : List StreamState). map (state_of (map gone_of
    c.args.recorded.now.frames.now)) l) gone in
    c.go_wrong.ensures.defined z last j b k at t c.in-None.is sure none s

pub returns-in-Some-clause-marks : goal.returns-in-Some-clause-marks
returns-in-Some-clause-marks c =
    ap (λ (l : List Mark). length l) c.in_ok-push-in-Some.ensures.items ∙ length_push c.args.judging.now.marks.items _

pub returns-then-has_any-clause-marks : goal.returns-then-has_any-clause-marks
returns-then-has_any-clause-marks c =
    ap (λ (l : List Mark). length l) c.in_ok-go_on.ensures.marks ∙ length_push c.args.judging.now.marks.items _

pub returns-clause-marks : goal.returns-clause-marks
returns-clause-marks c = c.go_wrong.ensures.marks

pub returns-in-Some-clause-within : goal.returns-in-Some-clause-within
returns-in-Some-clause-within c l by count r all =
    within-more c.args.bounds.now.rates (length c.args.recorded.now.frames.now) count c.args.judging.now.held.items all

pub returns-then-has_any-clause-counted : goal.returns-then-has_any-clause-counted
returns-then-has_any-clause-counted c =
    let o = one-less c.test_arrival-tested.result.is_uncertain in
    let e = c.in_ok-go_on.ensures.uncertain in
    omega (arith, e, o)

pub returns-then-has_any-clause-within : goal.returns-then-has_any-clause-within
returns-then-has_any-clause-within c l by count r all =
    c.in_ok-go_on.ensures.within c.args.bounds.now.rates (length c.args.recorded.now.frames.now) (count + 1)
    (All-same (λ (h : StreamState). IsWithin c.args.bounds.now.rates (length c.args.recorded.now.frames.now)
    (count + 1) h) _ _
    c.as_slice-ahead.ensures.value
    (c.in_ok-led.ensures.within l by count r
    (All-same (λ (h : StreamState). IsWithin c.args.bounds.now.rates (length c.args.recorded.now.frames.now) count h)
    _ _
    c.as_slice-states.ensures.value all)))

pub returns-clause-counted : goal.returns-clause-counted
returns-clause-counted c = c.go_wrong.ensures.counted

pub returns-clause-within : goal.returns-clause-within
returns-clause-within c l by count r all = c.go_wrong.ensures.within l by count r all

pub returns-in-Some-clause-settled : goal.returns-in-Some-clause-settled
returns-in-Some-clause-settled c =
    settled-push c.args.known.now.gaps.items c.args.recorded.now.arrivals.now c.args.judging.now.marks.items
    c.push.new.self.items
    _ c.in_ok-push-in-Some.ensures.items
    c.requires.settled

pub returns-in-Some-led_alone-clause-settled : goal.returns-in-Some-led_alone-clause-settled
returns-in-Some-led_alone-clause-settled c =
    settled-push c.args.known.now.gaps.items c.args.recorded.now.arrivals.now c.args.judging.now.marks.items
    c.go_on_alone.new.judging.marks.items _
    c.in_ok-go_on_alone.ensures.marks c.requires.settled

pub returns-then-has_any-clause-settled : goal.returns-then-has_any-clause-settled
returns-then-has_any-clause-settled c =
    settled-push c.args.known.now.gaps.items c.args.recorded.now.arrivals.now c.args.judging.now.marks.items
    c.go_on.new.judging.marks.items _
    c.in_ok-go_on.ensures.marks c.requires.settled
