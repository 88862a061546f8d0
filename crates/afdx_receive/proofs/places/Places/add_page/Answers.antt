use Rattle.std.proofs.Common.{◌≡◌, ◌*◌, ◌/◌, None, length, arith}
use Rattle.afdx_receive.specs.Places.{Paged, number_in}
use Rattle.afdx_receive.proofs.PlacesLemmas.{longer_same, numbered, page_added, page_same}
use Rattle.afdx_receive.proofs.places.Places.add_page.Goals as goal

pub returns-in_err-lengthen-clause-same : goal.returns-in_err-lengthen-clause-same
returns-in_err-lengthen-clause-same c q =
    let paged : Paged = record { pages = c.self.inside.pages.items; slots = c.self.inside.slots.items } in
    rw (← c.self.view_is) (longer_same paged c.self.invariant c.lengthen.new.pages.items c.lengthen.ensures.same q)

pub returns-in_err-extend_from_slice-clause-same : goal.returns-in_err-extend_from_slice-clause-same
returns-in_err-extend_from_slice-clause-same c q =
    let paged : Paged = record { pages = c.self.inside.pages.items; slots = c.self.inside.slots.items } in
    rw (← c.self.view_is, c.in_err-extend_from_slice.ensures.items)
    (longer_same paged c.self.invariant c.lengthen.new.pages.items c.lengthen.ensures.same q)

pub invariant_of-self-2 : goal.invariant_of-self-2
invariant_of-self-2 c =
    let paged : Paged = record { pages = c.self.inside.pages.items; slots = c.self.inside.slots.items } in
    let none : number_in paged c.args.page ≡ None = rw (← c.self.view_is) at c.requires.none in
    let last : length paged.slots ≡ 16 * (c.len.result / 16) = omega (
      arith,
      c.self.invariant.whole,
      c.len.ensures,
      c.self.inside.slots.ok.0,
    ) in
    rw c.in_ok-extend_from_slice.ensures.items
    (page_added paged c.self.invariant c.lengthen.new.pages.items c.lengthen.ensures.same c.args.page
    (c.len.result / 16) none c.in_ok-lengthen.ensures.room last)

pub returns-clause-same : goal.returns-clause-same
returns-clause-same c q =
    let paged : Paged = record { pages = c.self.inside.pages.items; slots = c.self.inside.slots.items } in
    let none : number_in paged c.args.page ≡ None = rw (← c.self.view_is) at c.requires.none in
    let last : length paged.slots ≡ 16 * (c.len.result / 16) = omega (
      arith,
      c.self.invariant.whole,
      c.len.ensures,
      c.self.inside.slots.ok.0,
    ) in
    rw (← c.self.view_is, c.in_ok-extend_from_slice.ensures.items)
    (page_same paged c.self.invariant c.lengthen.new.pages.items c.lengthen.ensures.same c.args.page
    (c.len.result / 16) none c.in_ok-lengthen.ensures.room last q)

pub returns-clause-number : goal.returns-clause-number
returns-clause-number c =
    let paged : Paged = record { pages = c.self.inside.pages.items; slots = c.self.inside.slots.items } in
    let none : number_in paged c.args.page ≡ None = rw (← c.self.view_is) at c.requires.none in
    let last : length paged.slots ≡ 16 * (c.len.result / 16) = omega (
      arith,
      c.self.invariant.whole,
      c.len.ensures,
      c.self.inside.slots.ok.0,
    ) in
    numbered paged c.self.invariant c.lengthen.new.pages.items c.lengthen.ensures.same c.args.page
    (c.len.result / 16) none c.in_ok-lengthen.ensures.room last
