use Rattle.std.proofs.Common.{inl, inr, refl, slice_set, ◌≡◌, ◌∷◌, ◌∙◌, ap, sym, subst, ℕ, List}
use Rattle.std.specs.declared.alloc.AllocError.{AllocError}
use Rattle.std.specs.Prelude.{IfOk, OnErr, None, Result}
use Rattle.std.proofs.lemmas.Option.{slice_get-get_or}
use Rattle.afdx_frame.specs.Parts.{bytes_of}
use Rattle.afdx_frame.specs.declared.link.Side.{Side}
use Rattle.afdx_police.specs.Arrival.{Arrival, arrival_with}
use Rattle.afdx_port.specs.declared.left.Left.{Left}
use Rattle.afdx_switch.specs.Departures.{as_given}
use Rattle.afdx_switch.specs.HeldFrames.{HeldFrame}
use Rattle.afdx_switch.specs.Verdicts.{shape_fault}
use Rattle.afdx_network.specs.Events.{Came, admission_after}
use Rattle.std.proofs.lemmas.List.{length-set}
use Rattle.afdx_switch.proofs.ListLemmas.{set-cases}
use Rattle.afdx_network.specs.Network as network
use Rattle.afdx_network.proofs.StandsLemmas.{on-ok}
use Rattle.afdx_cascade.specs.Cables.{brought}
use Rattle.afdx_cascade.specs.Due.{OnCable}
use Rattle.afdx_cascade.specs.SwitchEvents.{at_switch, came_to, end_at}
use Rattle.afdx_cascade.specs.Runs.{arriving}
use Rattle.afdx_cascade.specs.Standing.{Stands}
use Rattle.afdx_cascade.proofs.arriving.bring_at.Goals as goal
use Rattle.afdx_cascade.proofs.StandingLemmas.{frame-arrives}

same-result : {X Y : Type 0} (result : Result X AllocError) (f : Y → X → Type 0) (x y : Y) → x ≡ y
    → IfOk result (f x) → IfOk result (f y)
same-result result f x y same = subst (λ z. IfOk result (f z)) same

-- the frame of a slot, by its parts
same-frame : (r : OnCable) (port tag time : ℕ) (side : Side) (bytes : List ℕ) → tag ≡ r.turn.entry.item.tag
    → time ≡ r.turn.end → side ≡ r.side → bytes ≡ r.turn.entry.item.bytes
    → arrival_with tag time side port bytes ≡ brought r.side port r.turn
same-frame r port tag time side bytes of-tag of-time on-side of-bytes =
    ap (λ t. arrival_with t time side port bytes) of-tag
    ∙ ap (λ t. arrival_with r.turn.entry.item.tag t side port bytes) of-time
    ∙ ap (λ s. arrival_with r.turn.entry.item.tag r.turn.end s port bytes) on-side
    ∙ ap (λ b. arrival_with r.turn.entry.item.tag r.turn.end r.side port b) of-bytes

pub returns-clause-judged : goal.returns-clause-judged
returns-clause-judged c =
    let within = rw (sym c.index-place.ensures.place) at c.requires.within in
    rw (sym c.index-place.ensures.place) (λ p at r rest so_far st on-side left.
    let k = c.index-place.result in
    let x : Arrival = arrival_with c.tag.result c.time.result c.side.result c.args.port
    (bytes_of c.frame.result) in
    let y : Arrival = brought r.side c.args.port r.turn in
    let same : x ≡ y =
    same-frame r c.args.port c.tag.result c.time.result c.side.result (bytes_of c.frame.result)
    (c.tag.ensures ∙ ap (λ (l : Left HeldFrame). l.item.tag) left)
    (c.time.ensures ∙ ap (λ (l : Left HeldFrame). l.end) left) (c.side.ensures ∙ on-side)
    (c.frame.ensures.bytes ∙ ap (λ (l : Left HeldFrame). l.item.bytes) left) in
    subst (λ z. OnErr c.arrive.result (shape_fault (p.tables k) z ≡ None)) same
    (c.arrive.ensures.judged (p.tables k) (at_switch k so_far)
    (st.all.each k _
    (slice_get-get_or c.args.networks.now k c.index-networks-place.result within))))

pub returns-clause-verdict : goal.returns-clause-verdict
returns-clause-verdict c =
    let within = rw (sym c.index-place.ensures.place) at c.requires.within in
    rw (sym c.index-place.ensures.place) (λ p at r rest so_far st on-side left.
    let k = c.index-place.result in
    let x : Arrival = arrival_with c.tag.result c.time.result c.side.result c.args.port
    (bytes_of c.frame.result) in
    let y : Arrival = brought r.side c.args.port r.turn in
    let same : x ≡ y =
    same-frame r c.args.port c.tag.result c.time.result c.side.result (bytes_of c.frame.result)
    (c.tag.ensures ∙ ap (λ (l : Left HeldFrame). l.item.tag) left)
    (c.time.ensures ∙ ap (λ (l : Left HeldFrame). l.end) left) (c.side.ensures ∙ on-side)
    (c.frame.ensures.bytes ∙ ap (λ (l : Left HeldFrame). l.item.bytes) left) in
    same-result c.arrive.result (λ z v.
    network.Tells v (admission_after (p.tables k) (came_to k so_far) z)) x y same
    (c.arrive.ensures.verdict (p.tables k) (at_switch k so_far)
    (st.all.each k _
    (slice_get-get_or c.args.networks.now k c.index-networks-place.result within))))

pub returns-clause-stands : goal.returns-clause-stands
returns-clause-stands c =
    let within = rw (sym c.index-place.ensures.place) at c.requires.within in
    rw (sym c.index-place.ensures.place) (λ p at r rest so_far plan st joined on-side left.
    let k = c.index-place.result in
    let x : Arrival = arrival_with c.tag.result c.time.result c.side.result c.args.port
    (bytes_of c.frame.result) in
    let y : Arrival = brought r.side c.args.port r.turn in
    let same : x ≡ y =
    same-frame r c.args.port c.tag.result c.time.result c.side.result (bytes_of c.frame.result)
    (c.tag.ensures ∙ ap (λ (l : Left HeldFrame). l.item.tag) left)
    (c.time.ensures ∙ ap (λ (l : Left HeldFrame). l.end) left) (c.side.ensures ∙ on-side)
    (c.frame.ensures.bytes ∙ ap (λ (l : Left HeldFrame). l.item.bytes) left) in
    on-ok c.arrive.result
    (network.StandsFor (p.tables k) c.arrive.new.self
    (Came (admission_after (p.tables k) (came_to k so_far) x) ∷ at_switch k so_far))
    (Stands p (slice_set c.args.networks.now k c.arrive.new.self) at rest
    (arriving p so_far k y ∷ so_far))
    (λ stands. frame-arrives p c.args.networks.now at r rest so_far
    (end_at k c.args.port) c.arrive.new.self plan st
    within joined
    (subst (λ z. network.StandsFor (p.tables k) c.arrive.new.self
    (Came (admission_after (p.tables k) (came_to k so_far) z) ∷ at_switch k so_far)) same stands))
    (c.arrive.ensures.stands (p.tables k) (at_switch k so_far)
    (st.all.each k _
    (slice_get-get_or c.args.networks.now k c.index-networks-place.result within))))

pub returns-clause-length : goal.returns-clause-length
returns-clause-length c =
    length-set c.args.networks.now c.index-place.result c.arrive.new.self

pub returns-clause-clock : goal.returns-clause-clock
returns-clause-clock c =
    let within = rw (sym c.index-place.ensures.place) at c.requires.within in
    λ k n at.
    elim (set-cases c.args.networks.now c.index-place.result c.arrive.new.self k n within at) [
      | inl here ↦ subst (λ m. network.IsUntil m (as_given c.args.departure.now).end)
          (sym here.1) (subst (λ t.
          network.IsUntil c.arrive.new.self t) c.time.ensures c.arrive.ensures.clock)
      | inr there ↦ c.requires.clock k n there.1
    ]

pub returns-clause-still : goal.returns-clause-still
returns-clause-still c =
    let within = rw (sym c.index-place.ensures.place) at c.requires.within in
    rw (sym c.index-place.ensures.place) (λ n at.
    elim (set-cases c.args.networks.now c.index-place.result c.arrive.new.self c.index-place.result n within at) [
      | inl here ↦ subst (λ m. network.IsQuiet m (as_given c.args.departure.now).end)
          (sym here.1) (subst (λ t.
          network.IsQuiet c.arrive.new.self t) c.time.ensures c.arrive.ensures.quiet)
      | inr there ↦ absurd (there.0 refl)
    ])
