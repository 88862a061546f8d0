use Rattle.std.proofs.Common.{rules, ◌≡◌, ◌+◌, List, [], map, drop, get_or, length, refl, sym, ap, ◌∙◌, arith}
use Rattle.std.proofs.lemmas.List.{length-map}
use Rattle.std.proofs.lemmas.List.Elements.{All-same}
use Rattle.std.specs.Prelude.{nat_eq}
use Rattle.std.specs.List.{filter}
use Rattle.afdx_conform.specs.Explanations.{levels_then}
use Rattle.afdx_conform.specs.Findings.{Judged, with_states}
use Rattle.afdx_conform.specs.HeldStates.{IsWithin, IsSmall, past, state_of}
use Rattle.afdx_conform.specs.Limits.{gone_of}
use Rattle.afdx_conform.specs.Marks.{arrival_of}
use Rattle.afdx_conform.specs.States.{led_by, states_at}
use Rattle.afdx_conform.specs.declared.finding.Finding.TheVariants.{Stopped}
use Rattle.afdx_conform.specs.declared.states.StreamState.{StreamState}
use Rattle.afdx_conform.proofs.DeviateLemmas.{have-to-pass, past-within, small-all, gone-past}
use Rattle.afdx_conform.proofs.DeviateSteps.{at-start, at-same, at-end, at-stop, at-led, at-next, front-within, inside-on, last-is, passed-next, stopped-whole, took-whole, if-ok-two, within-frames, near-all, levels-all, within-more, front-start, gone-here, some-held, past-passes}
use Rattle.afdx_conform.proofs.LeadLemmas.{lead-past}
use Rattle.afdx_conform.proofs.KeepLemmas.{if-ok-on}
use Rattle.afdx_conform.proofs.deviate.deviate.Goals as goal

pub loop-front-init : goal.loop-front-init
loop-front-init c = record {
  bounds = c.requires.within;
  inside = (
    omega arith,
    front-within c.args.bounds.now.rates c.args.recorded.now.frames.now c.requires.within.0 c.args.held.items
        c.as_slice-at_first.result.now
        c.front_of-first.result c.as_slice-at_first.ensures.value c.requires.within.2 c.front_of-first.ensures.among,
  );
  within = λ link by count r all. all;
  defined = λ z last j b k t none.
      at-start z last _ (arrival_of c.args.coming.now.arrived.now) c.args.recorded.now.frames.now c.args.held.items
      c.front_of-first.result j
      none
      (front-start c.args.recorded.now.frames.now c.args.held.items c.as_slice-at_first.result.now
      c.front_of-first.result
      (length c.args.recorded.now.frames.now)
      c.as_slice-at_first.ensures.value
      (within-frames c.args.bounds.now.rates c.args.recorded.now.frames.now c.requires.within.0 c.args.held.items
      c.requires.within.2)
      c.front_of-first.ensures.greatest c.front_of-first.ensures.among refl);
}

pub loop-front-preserved : goal.loop-front-preserved
loop-front-preserved c = record {
  bounds = (
    c.loop-front.invariant.bounds.0,
    c.loop-front.invariant.bounds.1,
    past-within c.args.bounds.now.rates
        (length c.args.recorded.now.frames.now) c.loop-front.invariant.bounds.0 c.loop-front.front
        (c.loop-front.front + 1) c.loop-front.held.items c.in_ok-lead.lead.items (let lt = c.loop-front-test.true in
        omega (arith, lt))
        (c.in_ok-lead.ensures ∙ ap (λ (l : List StreamState). map (λ h. past (c.loop-front.front + 1) h)
        (filter (λ h. nat_eq h.passed c.loop-front.front) l)) c.as_slice-before.ensures.value)
        c.loop-front.invariant.bounds.2,
  );
  inside = (
    (let le = c.loop-front.invariant.inside.0 in omega (arith, le)),
    (let lt = c.loop-front-test.true in omega (arith, lt)),
  );
  within = λ link by count r all.
      past-within c.args.bounds.now.rates (length c.args.recorded.now.frames.now) count c.loop-front.front
      (c.loop-front.front + 1) c.loop-front.held.items c.in_ok-lead.lead.items (let lt = c.loop-front-test.true in
      omega (arith, lt))
      (c.in_ok-lead.ensures ∙ ap (λ (l : List StreamState). map (λ h. past (c.loop-front.front + 1) h)
      (filter (λ h. nat_eq h.passed c.loop-front.front) l)) c.as_slice-before.ensures.value)
      (c.loop-front.invariant.within link by count r all);
  defined = λ z last j b k t none.
      let at = c.loop-front.invariant.defined z last j b k t none in
      let is : c.index-frames-front.result
      ≡ get_or c.args.recorded.now.frames.now c.loop-front.front c.index-frames-front.result =
      search rules in
      let next = gone-here c.args.recorded.now.frames.now c.loop-front.front c.index-frames-front.result
      c.loop-front-test.true is in
      let size = length-map c.args.recorded.now.frames.now gone_of in
      let moved = lead-past (map gone_of c.args.recorded.now.frames.now) c.loop-front.held.items c.in_ok-lead.lead.items
      c.loop-front.front
      (c.loop-front.front + 1)
      (within-frames c.args.bounds.now.rates c.args.recorded.now.frames.now c.loop-front.invariant.bounds.0
      c.loop-front.held.items
      c.loop-front.invariant.bounds.2)
      (let lt = c.loop-front-test.true in omega (arith, lt, size))
      at.at_front
      (c.in_ok-lead.ensures ∙ ap (λ (l : List StreamState). map (λ h. past (c.loop-front.front + 1) h)
      (filter (λ h. nat_eq h.passed c.loop-front.front) l)) c.as_slice-before.ensures.value) in
      let gone : c.in_ok-led.led.items ≡ [] =
      sym c.as_slice.ensures.value ∙ c.has_any.ensures.none c.if-has_any.false in
      let led = sym (ap (λ (l : List StreamState). map (state_of (map gone_of c.args.recorded.now.frames.now)) l)
      (sym gone)
      ∙ c.in_ok-led.ensures.defined z last b k t
      ∙ ap (λ (l : List StreamState). led_by (λ s. states_at z (arrival_of c.args.coming.now.arrived.now)
      (levels_then z s.levels last (arrival_of c.args.coming.now.arrived.now)) s)
      (map (state_of (map gone_of c.args.recorded.now.frames.now))
      l))
      c.as_slice-asked.ensures.value) in
      at-same z last _ (arrival_of c.args.coming.now.arrived.now)
      (map gone_of c.args.recorded.now.frames.now) c.args.held.items
      c.in_ok-lead.lead.items (c.loop-front.front + 1) j _ _
      (passed-next z c.args.coming.now.arrived.now.time c.args.recorded.now.frames.now j c.front_of-first.result
      c.loop-front.front
      c.index-frames-front.result
      c.loop-front.invariant.inside.0 c.loop-front-test.true is)
      (at-next z last _ (arrival_of c.args.coming.now.arrived.now)
      (map gone_of c.args.recorded.now.frames.now) c.args.held.items
      c.loop-front.held.items
      c.loop-front.front j _ at (gone_of c.index-frames-front.result)
      (drop (c.loop-front.front + 1) (map gone_of c.args.recorded.now.frames.now)) next
      c.in_ok-lead.lead.items moved (c.loop-front.front + 1)
      (sym (c.deviation_by.ensures z b.limits) ∙ c.in-Other.is) led refl);
}

pub returns-then-has_any-clause-defined : goal.returns-then-has_any-clause-defined
returns-then-has_any-clause-defined c z last j b k t none =
    let at = c.loop-front.invariant.defined z last j b k t none in
    let is : c.index-frames-front.result
    ≡ get_or c.args.recorded.now.frames.now c.loop-front.front c.index-frames-front.result =
    search rules in
    let next = gone-here c.args.recorded.now.frames.now c.loop-front.front c.index-frames-front.result
    c.loop-front-test.true is in
    let size = length-map c.args.recorded.now.frames.now gone_of in
    let moved = lead-past (map gone_of c.args.recorded.now.frames.now) c.loop-front.held.items c.in_ok-lead.lead.items
    c.loop-front.front
    (c.loop-front.front + 1)
    (within-frames c.args.bounds.now.rates c.args.recorded.now.frames.now c.loop-front.invariant.bounds.0
    c.loop-front.held.items
    c.loop-front.invariant.bounds.2)
    (let lt = c.loop-front-test.true in omega (arith, lt, size))
    at.at_front
    (c.in_ok-lead.ensures ∙ ap (λ (l : List StreamState). map (λ h. past (c.loop-front.front + 1) h)
    (filter (λ h. nat_eq h.passed c.loop-front.front) l)) c.as_slice-before.ensures.value) in
    let led = sym (c.in_ok-led.ensures.defined z last b k t
    ∙ ap (λ (l : List StreamState). led_by (λ s. states_at z (arrival_of c.args.coming.now.arrived.now)
    (levels_then z s.levels last (arrival_of c.args.coming.now.arrived.now)) s)
    (map (state_of (map gone_of c.args.recorded.now.frames.now)) l))
    c.as_slice-asked.ensures.value) in
    let some = some-held (map gone_of c.args.recorded.now.frames.now) c.in_ok-led.led.items
    (λ e. c.has_any.ensures.left c.if-has_any.true (c.as_slice.ensures.value ∙ e)) in
    ap (λ (s : Judged). with_states
    (map (state_of (map gone_of c.args.recorded.now.frames.now)) c.in_ok-led.led.items) s)
    (passed-next z c.args.coming.now.arrived.now.time c.args.recorded.now.frames.now j c.front_of-first.result
    c.loop-front.front
    c.index-frames-front.result
    c.loop-front.invariant.inside.0 c.loop-front-test.true is)
    ∙ at-led z last _ (arrival_of c.args.coming.now.arrived.now)
    (map gone_of c.args.recorded.now.frames.now) c.args.held.items
    c.loop-front.held.items
    c.loop-front.front j _ at (gone_of c.index-frames-front.result)
    (drop (c.loop-front.front + 1) (map gone_of c.args.recorded.now.frames.now)) next
    c.in_ok-lead.lead.items moved (map (state_of (map gone_of c.args.recorded.now.frames.now)) c.in_ok-led.led.items)
    (sym (c.deviation_by.ensures z b.limits) ∙ c.in-Other.is) led some

pub returns-in-Stopped-clause-defined : goal.returns-in-Stopped-clause-defined
returns-in-Stopped-clause-defined c z last j b k t none =
    let at = c.loop-front.invariant.defined z last j b k t none in
    let is : c.index-frames-front.result
    ≡ get_or c.args.recorded.now.frames.now c.loop-front.front c.index-frames-front.result =
    search rules in
    let next = gone-here c.args.recorded.now.frames.now c.loop-front.front c.index-frames-front.result
    c.loop-front-test.true is in
    if-ok-two c.accept_with.result (λ out s f.
    ap (λ (q : Judged). with_states (map (state_of (map gone_of c.args.recorded.now.frames.now)) out.held.items) q)
    (last-is z c.args.coming.now.arrived.now.time c.args.recorded.now.frames.now j c.front_of-first.result
    c.loop-front.front out.passed out.last
    (Stopped c.args.coming.now.arrived.now.number) f.0 f.1)
    ∙ stopped-whole z last _ (arrival_of c.args.coming.now.arrived.now)
    (map gone_of c.args.recorded.now.frames.now) c.args.held.items
    c.loop-front.held.items
    c.loop-front.front j _ at out.held.items
    s
    (at-stop z last _ (arrival_of c.args.coming.now.arrived.now)
    (map gone_of c.args.recorded.now.frames.now) c.args.held.items
    c.loop-front.held.items
    c.loop-front.front j _ at (gone_of c.index-frames-front.result)
    (drop (c.loop-front.front + 1) (map gone_of c.args.recorded.now.frames.now)) next
    (sym (c.deviation_by.ensures z b.limits) ∙ c.in-Stopped.is)))
    (c.accept_with.ensures.defined z (map gone_of c.args.recorded.now.frames.now) last b.rates k t.ns
    (near-all c.args.bounds.now.rates
    (length c.args.recorded.now.frames.now) c.loop-front.invariant.bounds.0 c.loop-front.held.items
    c.loop-front.invariant.bounds.2)
    (have-to-pass z (arrival_of c.args.coming.now.arrived.now) last
    (map gone_of c.args.recorded.now.frames.now) c.loop-front.held.items
    at.none))
    c.accept_with.ensures.found

pub returns-in-Stopped-clause-within : goal.returns-in-Stopped-clause-within
returns-in-Stopped-clause-within c link by count r all =
    if-ok-on c.accept_with.result
    (λ out w. within-more c.args.bounds.now.rates (length c.args.recorded.now.frames.now) count
    out.held.items w)
    (c.accept_with.ensures.within link by (length c.args.recorded.now.frames.now) count r
    (c.loop-front.invariant.within link by count r all))

pub returns-in-Took-clause-defined : goal.returns-in-Took-clause-defined
returns-in-Took-clause-defined c z last j b k t none =
    let at = c.loop-front.invariant.defined z last j b k t none in
    let is : c.index-frames-front.result
    ≡ get_or c.args.recorded.now.frames.now c.loop-front.front c.index-frames-front.result =
    search rules in
    let next = gone-here c.args.recorded.now.frames.now c.loop-front.front c.index-frames-front.result
    c.loop-front-test.true is in
    let size = length-map c.args.recorded.now.frames.now gone_of in
    let lead_is = c.in_ok-ahead-in-Took.ensures ∙
    ap (λ (l : List StreamState). map (λ h. past (c.loop-front.front + 1) h)
    (filter (λ h. nat_eq h.passed c.loop-front.front) l)) c.as_slice-leading.ensures.value in
    let moved = lead-past
    (map gone_of c.args.recorded.now.frames.now) c.loop-front.held.items c.in_ok-ahead-in-Took.ahead.items
    c.loop-front.front
    (c.loop-front.front + 1)
    (within-frames c.args.bounds.now.rates c.args.recorded.now.frames.now c.loop-front.invariant.bounds.0
    c.loop-front.held.items
    c.loop-front.invariant.bounds.2)
    (let lt = c.loop-front-test.true in omega (arith, lt, size))
    at.at_front lead_is in
    if-ok-two c.accept_with-in-Took.result (λ out s f.
    ap (λ (q : Judged). with_states (map (state_of (map gone_of c.args.recorded.now.frames.now)) out.held.items) q)
    (last-is z c.args.coming.now.arrived.now.time c.args.recorded.now.frames.now j c.front_of-first.result
    c.loop-front.front out.passed out.last
    c.in-Took.finding f.0 f.1)
    ∙ took-whole z last _ (arrival_of c.args.coming.now.arrived.now)
    (map gone_of c.args.recorded.now.frames.now) c.args.held.items
    c.loop-front.held.items
    c.loop-front.front j _ at (gone_of c.index-frames-front.result)
    (drop (c.loop-front.front + 1) (map gone_of c.args.recorded.now.frames.now))
    c.in_ok-ahead-in-Took.ahead.items
    out.held.items c.in-Took.finding next (sym (c.deviation_by.ensures z b.limits) ∙ c.in-Took.is) moved
    s)
    (c.accept_with-in-Took.ensures.defined z (map gone_of c.args.recorded.now.frames.now) last b.rates k t.ns
    (near-all c.args.bounds.now.rates (length c.args.recorded.now.frames.now) c.loop-front.invariant.bounds.0
    c.in_ok-ahead-in-Took.ahead.items
    (past-within c.args.bounds.now.rates
    (length c.args.recorded.now.frames.now) c.loop-front.invariant.bounds.0 c.loop-front.front
    (c.loop-front.front + 1) c.loop-front.held.items c.in_ok-ahead-in-Took.ahead.items
    (let lt = c.loop-front-test.true in omega
    (arith, lt))
    lead_is c.loop-front.invariant.bounds.2))
    (past-passes z last (arrival_of c.args.coming.now.arrived.now) c.loop-front.front (c.loop-front.front + 1)
    c.loop-front.held.items
    c.in_ok-ahead-in-Took.ahead.items lead_is
    (have-to-pass z (arrival_of c.args.coming.now.arrived.now) last
    (map gone_of c.args.recorded.now.frames.now) c.loop-front.held.items
    at.none)))
    c.accept_with-in-Took.ensures.found

pub returns-in-Took-clause-within : goal.returns-in-Took-clause-within
returns-in-Took-clause-within c link by count r all =
    if-ok-on c.accept_with-in-Took.result
    (λ out w. within-more c.args.bounds.now.rates (length c.args.recorded.now.frames.now)
    count out.held.items w)
    (c.accept_with-in-Took.ensures.within link by (length c.args.recorded.now.frames.now) count r
    (past-within c.args.bounds.now.rates (length c.args.recorded.now.frames.now) count c.loop-front.front
    (c.loop-front.front + 1) c.loop-front.held.items c.in_ok-ahead-in-Took.ahead.items
    (let lt = c.loop-front-test.true in omega
    (arith, lt))
    (c.in_ok-ahead-in-Took.ensures ∙ ap (λ (l : List StreamState). map (λ h. past (c.loop-front.front + 1) h)
    (filter (λ h. nat_eq h.passed c.loop-front.front) l)) c.as_slice-leading.ensures.value)
    (c.loop-front.invariant.within link by count r all)))

pub returns-clause-defined : goal.returns-clause-defined
returns-clause-defined c z last j b k t none =
    let at = c.loop-front.invariant.defined z last j b k t none in
    let past_all = gone-past c.args.recorded.now.frames.now c.loop-front.front (let h = c.loop-front-test.false in
    omega (arith, h)) in
    if-ok-two c.accept_with-2.result (λ out s f.
    ap (λ (q : Judged). with_states (map (state_of (map gone_of c.args.recorded.now.frames.now)) out.held.items) q)
    (last-is z c.args.coming.now.arrived.now.time c.args.recorded.now.frames.now j c.front_of-first.result
    c.loop-front.front out.passed out.last
    (Stopped c.args.coming.now.arrived.now.number) f.0 f.1)
    ∙ stopped-whole z last _ (arrival_of c.args.coming.now.arrived.now)
    (map gone_of c.args.recorded.now.frames.now) c.args.held.items
    c.loop-front.held.items
    c.loop-front.front j _ at out.held.items
    s
    (at-end z last _ (arrival_of c.args.coming.now.arrived.now)
    (map gone_of c.args.recorded.now.frames.now) c.args.held.items
    c.loop-front.held.items
    c.loop-front.front j _ at past_all))
    (c.accept_with-2.ensures.defined z (map gone_of c.args.recorded.now.frames.now) last b.rates k t.ns
    (near-all c.args.bounds.now.rates
    (length c.args.recorded.now.frames.now) c.loop-front.invariant.bounds.0 c.loop-front.held.items
    c.loop-front.invariant.bounds.2)
    (have-to-pass z (arrival_of c.args.coming.now.arrived.now) last
    (map gone_of c.args.recorded.now.frames.now) c.loop-front.held.items
    at.none))
    c.accept_with-2.ensures.found

pub returns-clause-within : goal.returns-clause-within
returns-clause-within c link by count r all =
    if-ok-on c.accept_with-2.result
    (λ out w. within-more c.args.bounds.now.rates (length c.args.recorded.now.frames.now) count
    out.held.items w)
    (c.accept_with-2.ensures.within link by (length c.args.recorded.now.frames.now) count r
    (c.loop-front.invariant.within link by count r all))

pub accept_with-requires-in-Took : goal.accept_with-requires-in-Took
accept_with-requires-in-Took c =
    levels-all c.args.bounds.now.rates (length c.args.recorded.now.frames.now) c.loop-front.invariant.bounds.0
    c.in_ok-ahead-in-Took.ahead.items
    (past-within c.args.bounds.now.rates
    (length c.args.recorded.now.frames.now) c.loop-front.invariant.bounds.0 c.loop-front.front
    (c.loop-front.front + 1) c.loop-front.held.items c.in_ok-ahead-in-Took.ahead.items
    (let lt = c.loop-front-test.true in omega
    (arith, lt))
    (c.in_ok-ahead-in-Took.ensures ∙ ap (λ (l : List StreamState). map (λ h. past (c.loop-front.front + 1) h)
    (filter (λ h. nat_eq h.passed c.loop-front.front) l)) c.as_slice-leading.ensures.value)
    c.loop-front.invariant.bounds.2)

pub led_from-requires : goal.led_from-requires
led_from-requires c =
    All-same (λ (h : StreamState). IsSmall c.args.bounds.now.rates h) _ _ c.as_slice-asked.ensures.value
    (small-all c.args.bounds.now.rates (length c.args.recorded.now.frames.now) c.loop-front.invariant.bounds.0
    c.in_ok-lead.lead.items
    c.requires.few c.loop-front.invariant.bounds.1
    (past-within c.args.bounds.now.rates
    (length c.args.recorded.now.frames.now) c.loop-front.invariant.bounds.0 c.loop-front.front
    (c.loop-front.front + 1) c.loop-front.held.items c.in_ok-lead.lead.items (let lt = c.loop-front-test.true in
    omega (arith, lt))
    (c.in_ok-lead.ensures ∙ ap (λ (l : List StreamState). map (λ h. past (c.loop-front.front + 1) h)
    (filter (λ h. nat_eq h.passed c.loop-front.front) l)) c.as_slice-before.ensures.value)
    c.loop-front.invariant.bounds.2))

pub returns-then-has_any-clause-within : goal.returns-then-has_any-clause-within
returns-then-has_any-clause-within c link by count r all =
    c.in_ok-led.ensures.within link by count r
    (All-same (λ (h : StreamState). IsWithin c.args.bounds.now.rates (length c.args.recorded.now.frames.now) count h)
    _ _
    c.as_slice-asked.ensures.value
    (past-within c.args.bounds.now.rates (length c.args.recorded.now.frames.now) count c.loop-front.front
    (c.loop-front.front + 1) c.loop-front.held.items c.in_ok-lead.lead.items (let lt = c.loop-front-test.true in
    omega (arith, lt))
    (c.in_ok-lead.ensures ∙ ap (λ (l : List StreamState). map (λ h. past (c.loop-front.front + 1) h)
    (filter (λ h. nat_eq h.passed c.loop-front.front) l)) c.as_slice-before.ensures.value)
    (c.loop-front.invariant.within link by count r all)))

pub returns-in-Stopped-clause-passed : goal.returns-in-Stopped-clause-passed
returns-in-Stopped-clause-passed c =
    if-ok-on c.accept_with.result (λ out f. inside-on c.front_of-first.result c.loop-front.front out.passed
    c.args.recorded.now.frames.now f.0 c.loop-front.invariant.inside.0 c.loop-front.invariant.inside.1)
    c.accept_with.ensures.found

pub returns-in-Took-clause-passed : goal.returns-in-Took-clause-passed
returns-in-Took-clause-passed c =
    if-ok-on c.accept_with-in-Took.result (λ out f. inside-on c.front_of-first.result c.loop-front.front out.passed
    c.args.recorded.now.frames.now f.0 c.loop-front.invariant.inside.0 c.loop-front.invariant.inside.1)
    c.accept_with-in-Took.ensures.found

pub returns-clause-passed : goal.returns-clause-passed
returns-clause-passed c =
    if-ok-on c.accept_with-2.result (λ out f. inside-on c.front_of-first.result c.loop-front.front out.passed
    c.args.recorded.now.frames.now f.0 c.loop-front.invariant.inside.0 c.loop-front.invariant.inside.1)
    c.accept_with-2.ensures.found

pub returns-then-has_any-clause-passed : goal.returns-then-has_any-clause-passed
returns-then-has_any-clause-passed c =
    let low = c.loop-front.invariant.inside.0 in
    let lt = c.loop-front-test.true in record {
      order = omega (arith, low);
      within = omega (arith, lt);
    }
