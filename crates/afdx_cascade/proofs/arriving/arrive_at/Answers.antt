use Rattle.std.proofs.Common.{subst, inl, inr, refl, slice_set, ◌∷◌, sym}
use Rattle.std.proofs.lemmas.Option.{slice_get-get_or}
use Rattle.afdx_frame.specs.Parts.{bytes_of}
use Rattle.afdx_police.specs.Arrival.{Arrival, arrival_with}
use Rattle.afdx_network.specs.Events.{Came, admission_after}
use Rattle.std.proofs.lemmas.List.{length-set}
use Rattle.afdx_switch.proofs.ListLemmas.{set-cases}
use Rattle.afdx_network.specs.Network as network
use Rattle.afdx_network.proofs.StandsLemmas.{on-ok}
use Rattle.afdx_cascade.specs.SwitchEvents.{at_switch, came_to}
use Rattle.afdx_cascade.specs.Runs.{arriving}
use Rattle.afdx_cascade.specs.Standing.{Stands}
use Rattle.afdx_cascade.proofs.arriving.arrive_at.Goals as goal
use Rattle.afdx_cascade.proofs.StandingLemmas.{line-arrives}

pub returns-clause-stands : goal.returns-clause-stands
returns-clause-stands c =
    let within = rw (sym c.index-place.ensures.place) at c.requires.within in
    rw (sym c.index-place.ensures.place) (λ p at ring so_far st free.
    let x : Arrival = arrival_with c.args.tag c.args.time c.args.to.side c.args.to.port
    (bytes_of c.args.frame) in
    let k = c.index-place.result in
    on-ok c.arrive.result
    (network.StandsFor (p.tables k) c.arrive.new.self
    (Came (admission_after (p.tables k) (came_to k so_far) x) ∷ at_switch k so_far))
    (Stands p (slice_set c.args.networks.now k c.arrive.new.self) at ring
    (arriving p so_far k x ∷ so_far))
    (λ stands. line-arrives p c.args.networks.now at ring so_far
    (record { switch = k; arrival = x })
    c.arrive.new.self st within free stands)
    (c.arrive.ensures.stands (p.tables k) (at_switch k so_far)
    (st.all.each k _
    (slice_get-get_or c.args.networks.now k c.index-networks-place.result within))))

pub returns-clause-verdict : goal.returns-clause-verdict
returns-clause-verdict c =
    let within = rw (sym c.index-place.ensures.place) at c.requires.within in
    rw (sym c.index-place.ensures.place) (λ p at ring so_far st.
    let k = c.index-place.result in
    c.arrive.ensures.verdict (p.tables k) (at_switch k so_far)
    (st.all.each k _
    (slice_get-get_or c.args.networks.now k c.index-networks-place.result within)))

pub returns-clause-judged : goal.returns-clause-judged
returns-clause-judged c =
    let within = rw (sym c.index-place.ensures.place) at c.requires.within in
    rw (sym c.index-place.ensures.place) (λ p at ring so_far st.
    let k = c.index-place.result in
    c.arrive.ensures.judged (p.tables k) (at_switch k so_far)
    (st.all.each k _
    (slice_get-get_or c.args.networks.now k c.index-networks-place.result within)))

pub returns-clause-length : goal.returns-clause-length
returns-clause-length c =
    length-set c.args.networks.now c.index-place.result c.arrive.new.self

pub returns-clause-clock : goal.returns-clause-clock
returns-clause-clock c =
    let within = rw (sym c.index-place.ensures.place) at c.requires.within in
    λ k n at.
    elim (set-cases c.args.networks.now c.index-place.result c.arrive.new.self k n within at) [
      | inl here ↦ subst (λ m. network.IsUntil m c.args.time) (sym here.1) c.arrive.ensures.clock
      | inr there ↦ c.requires.clock k n there.1
    ]

pub returns-clause-still : goal.returns-clause-still
returns-clause-still c =
    let within = rw (sym c.index-place.ensures.place) at c.requires.within in
    rw (sym c.index-place.ensures.place) (λ n at.
    elim (set-cases c.args.networks.now c.index-place.result c.arrive.new.self c.index-place.result n within at) [
      | inl here ↦ subst (λ m. network.IsQuiet m c.args.time) (sym here.1) c.arrive.ensures.quiet
      | inr there ↦ absurd (there.0 refl)
    ])
