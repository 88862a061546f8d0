use Rattle.std.proofs.Common.{get_or, inl, inr, subst, ◌≡◌, sym}
use Rattle.std.specs.Prelude.{Some, slice_get}
use Rattle.std.proofs.lemmas.Option.{slice_get-get_or}
use Rattle.std.proofs.lemmas.List.{length-set}
use Rattle.afdx_switch.proofs.ListLemmas.{set-cases}
use Rattle.afdx_network.specs.Network as network
use Rattle.afdx_cascade.specs.SwitchEvents.{at_switch}
use Rattle.afdx_cascade.proofs.arriving.take_at.Goals as goal
use Rattle.afdx_cascade.proofs.CarriedLemmas.{turn-ends, frame-is-carried}
use Rattle.afdx_cascade.proofs.KeyLemmas.{others-set}

pub take_first-requires-clause-first : goal.take_first-requires-clause-first
take_first-requires-clause-first c =
    let within = rw (sym c.index-place.ensures.place) at c.requires.within in
    c.requires.first (get_or c.args.networks.now c.index-place.result c.index-networks-place.result)
    (subst (λ k. slice_get c.args.networks.now k
    ≡ Some (get_or c.args.networks.now c.index-place.result c.index-networks-place.result))
    c.index-place.ensures.place
    (slice_get-get_or c.args.networks.now c.index-place.result c.index-networks-place.result within))

pub returns : goal.returns
returns c =
    let within = rw (sym c.index-place.ensures.place) at c.requires.within in
    rw (sym c.index-place.ensures.place) (
    record {
      length = length-set c.args.networks.now c.index-place.result c.take_first.new.self;
      others = others-set c.args.networks.now c.index-place.result c.take_first.new.self within;
      clock = λ k n at.
          elim (set-cases c.args.networks.now c.index-place.result c.take_first.new.self k n within at) [
            | inl here ↦ subst (λ m. network.IsUntil m c.args.until) (sym here.1) c.take_first.ensures.clock
            | inr there ↦ c.requires.clock k n there.1
          ];
      gives = λ p at ring so_far plan st.
          let k = c.index-place.result in
          let n = c.args.networks.now in
          let g = c.take_first.ensures.given (p.tables k) (at_switch k so_far)
          (st.all.each k _ (slice_get-get_or n k c.index-networks-place.result within)) in
          record {
            departure = g.departure;
            in_time = g.in_time;
            hands = g.hands;
            new = c.take_first.new.self;
            stands = g.stands;
            next = g.next;
            first = g.first;
            ended = λ silent. turn-ends p n at ring so_far k g.departure c.take_first.new.self plan st within silent
                g.stands;
            carried = λ to young soon joined early below.
                frame-is-carried p n at ring so_far k g.departure c.take_first.new.self to plan st within young soon
                joined
                early below g.stands;
          };
    })
