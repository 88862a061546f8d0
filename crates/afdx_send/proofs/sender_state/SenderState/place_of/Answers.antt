use Rattle.std.proofs.Common.{arith, ap, sym, ◌∙◌, subst, ◌≡◌, ◌<◌, length, slice_get, Some, None, ℕ}
use Rattle.afdx_send.specs.Sender.{IsPlaceOf}
use Rattle.afdx_send.proofs.StandLemmas.{read_at}
use Rattle.afdx_send.proofs.sender_state.SenderState.place_of.Goals as goal

pub returns-in-Some : goal.returns-in-Some
returns-in-Some c = λ h st.
    let places = c.args.self.now.places.items in
    let below : c.from.result < length places = omega (arith, st.place_count, c.from.ensures) in
    let got : slice_get places c.from.result ≡ Some (Some c.in-Some.place) =
    read_at places c.from.result c.index.result.now below c.index.ensures
    ∙ ap (λ z. Some z) c.in-Some.is in
    subst (λ (p : ℕ). IsPlaceOf h.links c.args.vl.0 (Some p)) (sym c.from-in-Some.ensures)
    (subst (λ (z : ℕ). IsPlaceOf h.links z (Some c.in-Some.place)) c.from.ensures
    (st.places c.from.result (Some c.in-Some.place) got))

pub returns-in-None : goal.returns-in-None
returns-in-None c = λ h st.
    let places = c.args.self.now.places.items in
    let below : c.from.result < length places = omega (arith, st.place_count, c.from.ensures) in
    let got : slice_get places c.from.result ≡ Some None =
    read_at places c.from.result c.index.result.now below c.index.ensures
    ∙ ap (λ z. Some z) c.in-None.is in
    subst (λ (z : ℕ). IsPlaceOf h.links z None) c.from.ensures (st.places c.from.result None got)
