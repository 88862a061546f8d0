use Rattle.std.proofs.Common.{rules, arith, refl, ◌≡◌, ◌<◌, ◌-◌, length, suc}
use Rattle.afdx_config.specs.Rows.{system_row}
use Rattle.afdx_input_sources.specs.Claims.{own_systems}
use Rattle.afdx_input_sources.proofs.TableLemmas.{entry-put, get-take}
use Rattle.afdx_input_sources.proofs.senders.put_entries.Goals as goal

pub loop-place-preserved : goal.loop-place-preserved
loop-place-preserved c =
    let i = c.loop-place.invariant in
    let t = c.args.tables.now in
    let positive : 0 < c.loop-place.place = search rules in
    let next : c.loop-place.place ≡ suc (c.loop-place.place - 1) = omega (arith, positive) in
    let below : c.loop-place.place - 1 < t.own = omega (arith, positive, i.1) in
    let inside : c.from.result < length c.loop-place.entries.items = search rules in (
      i.0,
      omega (arith, i.1),
      λ other before. entry-put c.args.switch (own_systems t) (c.loop-place.place - 1) c.loop-place.place
          c.from.result _ (system_row c.system-system.result.now) c.loop-place.entries.items other next c.from.ensures
          refl (get-take t.systems t.own (c.loop-place.place - 1) (system_row c.system-system.result.now) below
          c.system-system.ensures.row) inside (i.2 other before),
    )
