use Rattle.std.proofs.Common.{◌≡◌, ◌∙◌, Some, None, sym}
use Rattle.afdx_receive.specs.Places.{place_in}
use Rattle.afdx_receive.specs.Kept.{Kept}
use Rattle.afdx_receive.proofs.KeptLemmas.{none_found, memory_found, memory_kept, memory_updates}
use Rattle.afdx_receive.proofs.links.Links.consider.Goals as goal

pub returns-in_err-place-clause-none : goal.returns-in_err-place-clause-none
returns-in_err-place-clause-none c =
    let kept : Kept = record { places = c.self.inside.places; memories = c.self.inside.memories.items } in
    let placed : place_in kept.places c.args.vl.0 ≡ None =
    rw (← c.self.view_is) at (sym c.find.ensures.place ∙ c.in_err-place.was) in
    rw (← c.self.view_is, c.from_residual.ensures) (none_found kept c.args.vl.0 placed)

pub index_mut-requires : goal.index_mut-requires
index_mut-requires c =
    let kept : Kept = record { places = c.self.inside.places; memories = c.self.inside.memories.items } in
    let placed : place_in kept.places c.args.vl.0 ≡ Some c.in_ok-place.place =
    rw (← c.self.view_is) at (sym c.find.ensures.place ∙ c.in_ok-place.was) in
    rw c.self.inside.memories.ok.0 (c.self.invariant.within c.args.vl.0 c.in_ok-place.place placed)

pub invariant_of-self : goal.invariant_of-self
invariant_of-self c =
    let kept : Kept = record { places = c.self.inside.places; memories = c.self.inside.memories.items } in
    let placed : place_in kept.places c.args.vl.0 ≡ Some c.in_ok-place.place =
    rw (← c.self.view_is) at (sym c.find.ensures.place ∙ c.in_ok-place.was) in
    memory_kept kept c.self.invariant c.args.vl.0 c.in_ok-place.place placed c.consider.new.self
    c.index_mut.result.now c.index_mut.ensures.value c.consider.ensures.link

pub returns-clause-considered : goal.returns-clause-considered
returns-clause-considered c =
    let kept : Kept = record { places = c.self.inside.places; memories = c.self.inside.memories.items } in
    let placed : place_in kept.places c.args.vl.0 ≡ Some c.in_ok-place.place =
    rw (← c.self.view_is) at (sym c.find.ensures.place ∙ c.in_ok-place.was) in
    rw (← c.self.view_is) (record {
      memory = c.index_mut.result.now;
      moved = c.consider.new.self;
      found = memory_found kept c.self.invariant c.args.vl.0 c.in_ok-place.place placed
          c.index_mut.result.now c.index_mut.ensures.value;
      skew = c.consider.ensures.skew;
      stands = λ before link bytes. c.consider.ensures.standing before link bytes;
      remembers = λ before link bytes. c.consider.ensures.remembers before link bytes;
      updates = memory_updates kept c.self.invariant c.args.vl.0 c.in_ok-place.place placed c.consider.new.self;
    })
