use Rattle.std.proofs.Common.{◌≡◌, ◌+◌, ◌⊎◌, [], List, map, length, refl, sym, ap, ◌∙◌, subst}
use Rattle.std.specs.Prelude.{Contains, nat_eq}
use Rattle.std.specs.List.{filter}
use Rattle.afdx_conform.specs.Findings.{closed_to}
use Rattle.afdx_conform.specs.HeldStates.{past}
use Rattle.afdx_conform.specs.Leeway.{reach}
use Rattle.afdx_conform.specs.declared.states.StreamState.{StreamState}
use Rattle.afdx_conform.proofs.DeviateLemmas.{past-within}
use Rattle.afdx_conform.proofs.DeviateSteps.{front-start, within-frames}
use Rattle.afdx_conform.proofs.PlacesLemmas.{each-slice}
use Rattle.afdx_conform.proofs.SkipLemmas.{stands-after, skip-whole, same-count}
use Rattle.afdx_conform.proofs.judging.skip.Goals as goal

pub returns-clause-defined : goal.returns-clause-defined
returns-clause-defined c z time j b closed none sure s =
    let inside = within-frames c.args.bounds.now.rates c.args.recorded.now.frames.now
    (length c.args.judging.now.marks.items)
    c.args.judging.now.held.items s.within in
    let lead_is = c.in_ok-lead.ensures ∙ ap (λ (l : List StreamState). map (λ h. past c.args.closed h)
    (filter (λ h. nat_eq h.passed c.min-front.result) l)) c.as_slice.ensures.value in
    let whole = skip-whole z time c.args.closed c.front_of-foremost.result c.min-front.result
    c.args.recorded.now.frames.now
    c.args.recorded.now.arrivals.now
    c.args.judging.now.held.items c.in_ok-lead.lead.items c.unexplained_all.new.found.items
    c.unexplained_all.new.marks.items j closed
    none sure s.states inside
    (front-start c.args.recorded.now.frames.now c.args.judging.now.held.items c.as_slice-held.result.now
    c.front_of-foremost.result
    (length c.args.recorded.now.frames.now) c.as_slice-held.ensures.value inside c.front_of-foremost.ensures.greatest
    c.front_of-foremost.ensures.among refl)
    (subst (λ (l : List StreamState). ((l ≡ []) × (c.front_of-foremost.result ≡ length c.args.recorded.now.frames.now))
    ⊎ ((h : StreamState) × Contains l h × (h.passed ≡ c.front_of-foremost.result))) c.as_slice-held.ensures.value
    c.front_of-foremost.ensures.among)
    c.min-front.ensures lead_is
    (c.unexplained_all.ensures.found z (time + reach z.by) j b.limits (sym s.marks)) in
    stands-after c.args.bounds.now.rates c.args.recorded.now.frames.now c.args.recorded.now.arrivals.now j
    (closed_to z time j)
    c.args.judging.now _
    c.unexplained_all.new.found.items (time + reach z.by) s whole refl refl
    (same-count c.args.bounds.now.rates (length c.args.recorded.now.frames.now) (length c.args.judging.now.marks.items)
    (length c.unexplained_all.new.marks.items) c.in_ok-lead.lead.items (sym c.unexplained_all.ensures.length)
    (past-within c.args.bounds.now.rates (length c.args.recorded.now.frames.now) (length c.args.judging.now.marks.items)
    c.min-front.result
    c.args.closed c.args.judging.now.held.items c.in_ok-lead.lead.items c.requires.closed lead_is s.within))
    c.unexplained_all.ensures.length

pub returns-clause-within : goal.returns-clause-within
returns-clause-within c count all =
    past-within c.args.bounds.now.rates (length c.args.recorded.now.frames.now) count c.min-front.result
    c.args.closed c.args.judging.now.held.items c.in_ok-lead.lead.items c.requires.closed
    (c.in_ok-lead.ensures ∙ ap (λ (l : List StreamState). map (λ h. past c.args.closed h)
    (filter (λ h. nat_eq h.passed c.min-front.result) l)) c.as_slice.ensures.value) all

pub returns-clause-marks : goal.returns-clause-marks
returns-clause-marks c = c.unexplained_all.ensures.length

pub unexplained_all-requires-clause-each : goal.unexplained_all-requires-clause-each
unexplained_all-requires-clause-each c =
    each-slice c.args.known.now c.args.recorded.now.arrivals.now c.in_ok-each.each.items c.as_slice-2.result.now
    c.as_slice-2.ensures.value
    c.in_ok-each.ensures
