use Rattle.std.proofs.Common.{◌<◌, ℕ, sym, ◌∙◌, arith, ap, refl, Some, slice_index_or}
use Rattle.std.proofs.lemmas.Option.{slice_get_read, slice_get-get_or}
use Rattle.afdx_switch.proofs.ForwardLemmas.{forwarded-step, adds-none, all-forwarded, kept-elsewhere}
use Rattle.afdx_switch.proofs.switch_state.forward.Goals.{then-offer, else-offer}
use Rattle.afdx_switch.proofs.switch_state.forward.Goals as goal

pub loop-place-preserved : goal.loop-place-preserved
loop-place-preserved c =
    let inv = c.loop-place.invariant in
    let place : ℕ = slice_index_or c.args.places.now c.loop-place.place-index 0 in
    let here = slice_get-get_or c.args.places.now c.loop-place.place-index 0 c.loop-place-test.true in
    let below : place < 24 = c.requires.places.within c.loop-place.place-index place here in
    let at = slice_get_read c.loop-place.ports _ place c.index-ports-place.result refl
    (omega (arith, below, inv.port_count)) c.index-ports-place.is ∙ ap Some c.index-ports-place.is in
    elim c.if-offer.branch [
      | then-offer w ↦
          rw w.lost-is
          (forwarded-step c.args.time c.args.priority c.args.places.now c.requires.places
          c.args.shares.now.items c.args.ports.now c.loop-place.place-index place
          c.loop-place.shares.items c.pop.new.self.items c.loop-place.ports c.loop-place.lost inv
          here _ c.offer.new.port c.in-Some.share c.offer.result w.add.new.self
          at c.in-Some.ensures.items c.offer.ensures
          (record {
            here = rw w.port_at.ensures at w.add.ensures.added ∙ sym w.if-offer.true;
            others = rw w.port_at.ensures at w.add.ensures.others;
          }))
      | else-offer w ↦
          rw w.lost-is
          (forwarded-step c.args.time c.args.priority c.args.places.now c.requires.places
          c.args.shares.now.items c.args.ports.now c.loop-place.place-index place
          c.loop-place.shares.items c.pop.new.self.items c.loop-place.ports c.loop-place.lost inv
          here _ c.offer.new.port c.in-Some.share c.offer.result c.loop-place.lost
          at c.in-Some.ensures.items c.offer.ensures
          (adds-none c.args.time c.args.priority c.args.places.now c.requires.places
          c.args.shares.now.items c.args.ports.now c.loop-place.place-index place
          c.loop-place.shares.items c.pop.new.self.items c.loop-place.ports c.loop-place.lost inv
          here c.offer.result w.if-offer.false))
    ]

pub returns-clause-offered : goal.returns-clause-offered
returns-clause-offered c f i o n shared at_o at_n =
    all-forwarded c.args.time c.args.priority c.args.places.now c.requires.places
    c.args.shares.now.items c.args.ports.now c.loop-place.place-index c.loop-place.shares.items
    c.loop-place.ports c.loop-place.lost
    c.loop-place.invariant (omega
    (arith, c.loop-place-test.false, c.loop-place.auto.place-index-end)) f i o n shared at_o at_n

pub returns-clause-others : goal.returns-clause-others
returns-clause-others c =
    kept-elsewhere c.args.time c.args.priority c.args.places.now c.requires.places
    c.args.shares.now.items c.args.ports.now c.loop-place.place-index c.loop-place.shares.items
    c.loop-place.ports c.loop-place.lost c.loop-place.invariant
