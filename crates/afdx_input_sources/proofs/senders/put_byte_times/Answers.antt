use Rattle.std.proofs.Common.{rules, arith, ◌≡◌, ◌<◌, ◌-◌, length, suc}
use Rattle.afdx_config.specs.Admission.{byte_ns}
use Rattle.afdx_config.specs.Rows.{system_row}
use Rattle.afdx_input_sources.specs.Claims.{own_systems}
use Rattle.afdx_input_sources.proofs.TableLemmas.{get-take, value-put}
use Rattle.afdx_input_sources.proofs.senders.put_byte_times.Goals as goal

pub loop-place-preserved : goal.loop-place-preserved
loop-place-preserved c =
    let i = c.loop-place.invariant in
    let t = c.args.tables.now in
    let positive : 0 < c.loop-place.place = search rules in
    let next : c.loop-place.place ≡ suc (c.loop-place.place - 1) = omega (arith, positive) in
    let below : c.loop-place.place - 1 < t.own = omega (arith, positive, i.within) in
    let inside : c.from.result < length c.loop-place.byte_ns.items = search rules in
    let s = system_row c.system.result.now in record {
      room = i.room;
      within = omega (arith, i.within);
      times = value-put (λ s. s.port) byte_ns (own_systems t) (c.loop-place.place - 1) c.loop-place.place
          c.from.result c.byte_ns.result s c.loop-place.byte_ns.items next c.from.ensures
          (c.byte_ns.ensures.time s c.system.ensures.row)
          (get-take t.systems t.own (c.loop-place.place - 1) s below c.system.ensures.row) inside i.times;
    }
