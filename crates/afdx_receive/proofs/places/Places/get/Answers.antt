use Rattle.std.proofs.Common.{◌≡◌, ◌∙◌, ◌+◌, ◌*◌, ◌%◌, Some, ap, sym}
use Rattle.std.specs.Prelude.{option_map}
use Rattle.afdx_receive.specs.Places.{Paged, slot_in}
use Rattle.afdx_receive.proofs.PlacesLemmas.{no_page, slot_within, place_read}
use Rattle.afdx_receive.proofs.places.Places.get.Goals as goal

pub returns-in_err-number : goal.returns-in_err-number
returns-in_err-number c = c.from_residual.ensures
    ∙ sym (no_page c.args.self.now c.args.vl.0 (sym c.number_of.ensures ∙ c.in_err-number.was))

pub index-requires : goal.index-requires
index-requires c =
    let paged : Paged = record { pages = c.self.inside.pages.items; slots = c.self.inside.slots.items } in
    let number = rw (← c.self.view_is) at (sym c.number_of.ensures ∙ c.in_ok-number.was) in
    let slot : slot_in paged c.args.vl.0 ≡ Some c.slot_on.result =
    ap (option_map (λ n. 16 * n + c.args.vl.0 % 16)) number ∙ ap Some (sym c.slot_on.ensures) in
    rw c.self.inside.slots.ok.0 (slot_within paged c.self.invariant c.args.vl.0 c.slot_on.result slot)

pub returns : goal.returns
returns c =
    let paged : Paged = record { pages = c.self.inside.pages.items; slots = c.self.inside.slots.items } in
    let number = rw (← c.self.view_is) at (sym c.number_of.ensures ∙ c.in_ok-number.was) in
    rw (← c.self.view_is) (place_read paged c.self.invariant c.args.vl.0 c.in_ok-number.number c.slot_on.result
    number c.slot_on.ensures c.index.result.now c.index.ensures)
