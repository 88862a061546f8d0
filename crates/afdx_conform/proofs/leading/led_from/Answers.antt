use Rattle.std.proofs.Common.{length, List, map, drop, ap, ◌∙◌}
use Rattle.std.proofs.lemmas.List.Elements.{All-same}
use Rattle.afdx_conform.specs.Explanations.{link, levels_then}
use Rattle.afdx_conform.specs.HeldStates.{IsNext, IsSmall, IsCaseWithin, state_of}
use Rattle.afdx_conform.specs.Limits.{gone_of}
use Rattle.afdx_conform.specs.Marks.{arrival_of}
use Rattle.afdx_conform.specs.States.{State, led_by, states_at}
use Rattle.afdx_conform.specs.declared.states.Case.{Case}
use Rattle.afdx_conform.specs.declared.states.StreamState.{StreamState}
use Rattle.afdx_conform.proofs.KeepLemmas.{if-ok-on}
use Rattle.afdx_conform.proofs.DeviateLemmas.{of-cases, held-states}
use Rattle.afdx_conform.proofs.leading.led_from.Goals as goal

pub lead_all-requires-clause-small : goal.lead_all-requires-clause-small
lead_all-requires-clause-small c =
    All-same (λ (d : Case). IsSmall c.args.bounds.now.rates d.held) _ _ c.as_slice.ensures.value
    (of-cases (λ h. IsSmall c.args.bounds.now.rates h) c.in_ok-cases.cases.items c.args.held.now
    c.in_ok-cases.ensures.held c.requires)

pub returns-clause-defined : goal.returns-clause-defined
returns-clause-defined c z last b j t =
    if-ok-on c.lead_all.result (λ out e. e
    ∙ ap (λ (l : List State). led_by (λ s. states_at z (arrival_of c.args.coming.now.arrived.now)
    (levels_then z s.levels last (arrival_of c.args.coming.now.arrived.now)) s) l)
    (ap (λ (l : List Case). map (λ d. state_of (map gone_of c.args.frames.now) d.held) l) c.as_slice.ensures.value
    ∙ held-states (map gone_of c.args.frames.now) c.in_ok-cases.cases.items
    ∙ ap (λ (l : List StreamState). map (state_of (map gone_of c.args.frames.now)) l) c.in_ok-cases.ensures.held))
    (c.lead_all.ensures.defined z (arrival_of c.args.coming.now.arrived.now)
    (map gone_of c.args.frames.now) last b.rates
    j.charge t.ns
    (All-same (λ (d : Case). IsNext z (arrival_of c.args.coming.now.arrived.now)
    (drop d.held.passed (map gone_of c.args.frames.now)) d.next) _ _
    c.as_slice.ensures.value
    (c.in_ok-cases.ensures.next z b.limits t.opens)))

pub returns-clause-within : goal.returns-clause-within
returns-clause-within c link by count r all =
    c.lead_all.ensures.within link by (length c.args.frames.now) count r
    (All-same (λ (d : Case). IsCaseWithin c.args.bounds.now.rates (length c.args.frames.now) count d) _ _
    c.as_slice.ensures.value
    (c.in_ok-cases.ensures.within c.args.bounds.now.rates count all))
