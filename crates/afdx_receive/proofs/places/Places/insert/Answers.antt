use Rattle.std.proofs.Common.{◌∙◌, ap, cond, nat_eq, Some}
use Rattle.afdx_receive.specs.Places.{Paged}
use Rattle.afdx_receive.proofs.PlacesLemmas.{place_updates}
use Rattle.afdx_receive.proofs.places.Places.insert.Goals as goal

pub returns-clause-updates : goal.returns-clause-updates
returns-clause-updates c q =
    let paged : Paged = record { pages = c.self.inside.pages.items; slots = c.self.inside.slots.items } in
    let slot = rw (← c.self.view_is) at c.in_ok-slot.ensures.slot in
    let same = rw (← c.self.view_is) at c.make_room.ensures.same in
    place_updates paged c.self.invariant c.args.vl.0 c.in_ok-slot.slot c.args.place slot q
    ∙ ap (cond (nat_eq c.args.vl.0 q) (Some c.args.place)) (same q)
