use Rattle.std.proofs.Common.{◌+◌, length, List, map, refl, sym, ap, ◌∙◌, subst, ℕ}
use Rattle.std.proofs.lemmas.List.Elements.{All-head}
use Rattle.std.specs.Prelude.{[], All}
use Rattle.afdx_conform.specs.Explanations.{link}
use Rattle.afdx_conform.specs.HeldStates.{IsWithin, state_of}
use Rattle.afdx_conform.specs.Levels.{Levels, later}
use Rattle.afdx_conform.specs.Limits.{gone_of}
use Rattle.afdx_conform.specs.Marks.{arrival_of}
use Rattle.afdx_conform.specs.States.{states_at}
use Rattle.afdx_conform.specs.declared.states.StreamState.{StreamState}
use Rattle.afdx_conform.proofs.AloneLemmas.{some-on}
use Rattle.afdx_conform.proofs.leading.led_one.Goals as goal

pub returns-clause-defined : goal.returns-clause-defined
returns-clause-defined c z last b j t =
    let next = c.next-next.ensures.defined z (arrival_of c.args.coming.now.arrived.now) b.limits refl refl t.opens in
    let lead = c.lead-accepted.ensures.defined z (arrival_of c.args.coming.now.arrived.now)
    (map gone_of c.args.frames.now)
    b.rates j.charge next in
    let levels = c.later-levels.ensures.moved (link z) z.by b.rates
    ∙ ap (λ (n : ℕ). later (link z) z.by n c.args.state.levels) t.ns in
    some-on c.only.result (λ h e.
    sym
    (ap (λ (v : Levels). states_at z (arrival_of c.args.coming.now.arrived.now) v
    (state_of (map gone_of c.args.frames.now) c.args.state)) levels)
    ∙ lead ∙ ap (λ (l : List StreamState). map (state_of (map gone_of c.args.frames.now)) l) e) c.only.ensures

pub returns-clause-within : goal.returns-clause-within
returns-clause-within c link by count r w =
    let all = c.lead-accepted.ensures.within (length c.args.frames.now) count w.passed w.waiting
    (c.later-levels.ensures.near link by r w.near) c.next-next.ensures.left in
    some-on c.only.result
    (λ h e. All-head (λ (k : StreamState). IsWithin c.args.bounds.now.rates (length c.args.frames.now)
    (count + 1) k) h []
    (subst (λ (l : List StreamState). All
    (λ k. IsWithin c.args.bounds.now.rates (length c.args.frames.now) (count + 1) k) l)
    e all))
    c.only.ensures
