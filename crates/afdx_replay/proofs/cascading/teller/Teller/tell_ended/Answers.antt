use Rattle.std.proofs.Common.{sym}
use Rattle.afdx_cascade.specs.Plans.{tables_of}
use Rattle.afdx_cascade.specs.SwitchEvents.{at_switch}
use Rattle.afdx_replay.proofs.CascadeEventLemmas.{ok-more, err-more, name-is, steady-departed, systems-at}
use Rattle.afdx_replay.proofs.CascadeEventLemmas.{told-departure, begun-departure}
use Rattle.afdx_replay.proofs.cascading.teller.Teller.tell_ended.Goals as goal

pub returns-clause-steady : goal.returns-clause-steady
returns-clause-steady g c h =
    steady-departed c.tell_departure.result c.args.self.now.counts c.tell_departure.new.counts h
    c.tell_departure.ensures.room c.tell_departure.ensures.accepted c.tell_departure.ensures.lost

pub returns-clause-told : goal.returns-clause-told
returns-clause-told g c =
    let ss = c.args.self.now.switches.now in
    let all = c.args.self.now.systems.items in
    let k = c.index-place.result in
    let name = c.name-name.result.now in
    let place = sym c.index-place.ensures.place in
    let named = rw place at (name-is ss c.args.switch.0 name c.name-name.ensures.name) in
    let within = rw place at c.requires.within in
    rw (sym c.index-place.ensures.place) (λ before d are hands.
    ok-more c.tell_departure.result
    (told-departure ss all k before name named c.tell_departure.new.systems c.args.self.now.counts
    c.tell_departure.new.counts (g.O.Sink.written c.args.output.now) (g.O.Sink.written c.tell_departure.new.output)
    d are within)
    (c.tell_departure.ensures.told (tables_of ss k) (at_switch k before) d
    (systems-at ss all k before name named c.index_mut-systems.result.now are within
    c.index_mut-systems.ensures.value) hands))

pub returns-clause-begun : goal.returns-clause-begun
returns-clause-begun g c =
    let ss = c.args.self.now.switches.now in
    let all = c.args.self.now.systems.items in
    let k = c.index-place.result in
    let name = c.name-name.result.now in
    let place = sym c.index-place.ensures.place in
    let named = rw place at (name-is ss c.args.switch.0 name c.name-name.ensures.name) in
    let within = rw place at c.requires.within in
    rw (sym c.index-place.ensures.place) (λ before d are hands.
    err-more c.tell_departure.result
    (begun-departure ss all k before name named (g.O.Sink.written c.args.output.now)
    (g.O.Sink.written c.tell_departure.new.output) d)
    (c.tell_departure.ensures.begun (tables_of ss k) (at_switch k before) d
    (systems-at ss all k before name named c.index_mut-systems.result.now are within
    c.index_mut-systems.ensures.value) hands))
