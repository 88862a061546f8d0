use Rattle.std.proofs.Common.{refl, sym}
use Rattle.std.proofs.lemmas.Option.{slice_get_read}
use Rattle.afdx_cascade.specs.SwitchEvents.{at_switch}
use Rattle.afdx_cascade.proofs.arriving.early_at.Goals as goal

pub early-requires : goal.early-requires
early-requires c =
    let within = rw (sym c.index-place.ensures.place) at c.requires.within in
    let clock = rw (sym c.index-place.ensures.place) at c.requires.clock in
    clock c.index-networks-place.result
    (slice_get_read c.args.networks.now _ c.index-place.result c.index-networks-place.result refl within
    c.index-networks-place.is)

pub returns : goal.returns
returns c =
    let within = rw (sym c.index-place.ensures.place) at c.requires.within in
    rw (sym c.index-place.ensures.place) (λ p so_far tag stand fault.
    let k = c.index-place.result in
    let n = c.index-networks-place.result in
    c.early.ensures (p.tables k) (at_switch k so_far) tag
    (stand.each k n (slice_get_read c.args.networks.now _ k n refl within c.index-networks-place.is)) fault)
