use Rattle.std.proofs.Common.{◌≡◌, ◌<◌, length, false, refl, arith}
use Rattle.std.proofs.lemmas.List.{length-map}
use Rattle.std.proofs.lemmas.Grind.{common_steps}
use Rattle.afdx_config.specs.Rows.{port_row, port_rows}
use Rattle.afdx_config.specs.Reading.{has_port}
use Rattle.afdx_config.proofs.GatheredLemmas.{port_rows-push}
use Rattle.afdx_config.proofs.GrownLemmas.{no_ports, ports_push, own_push}
use Rattle.afdx_config.proofs.read_ports.coms_of.Goals as goal

pub loop-table-init : goal.loop-table-init
loop-table-init c = rw c.new-coms.ensures.items
    (record {
      so_far = refl;
      count = refl;
      lawful = no_ports (length c.args.ends.now) c.args.links.now;
      own = λ i p at. absurd (cc at);
    })

pub loop-table-preserved : goal.loop-table-preserved
loop-table-preserved c =
    let coms = c.loop-table.coms.items in
    let row = port_row c.in_ok-com.com in
    let fresh : has_port (port_rows coms) row.system row.link row.udp ≡ false =
    rw c.deref.ensures.value at c.in_ok-com.ensures.fresh in
    let room : length (port_rows coms) < 4096 = omega (arith, length-map coms port_row) in
    record {
      so_far = grind (arith, common_steps);
      count = grind (arith, common_steps);
      lawful = rw (c.in_ok-push.ensures.items, port_rows-push coms c.in_ok-com.com)
          (ports_push (length c.args.ends.now) c.args.links.now (port_rows coms) row
          c.loop-table.invariant.lawful room c.in_ok-com.ensures.lawful fresh);
      own = rw (c.in_ok-push.ensures.items, port_rows-push coms c.in_ok-com.com)
          (own_push c.args.own (port_rows coms) row c.loop-table.invariant.own c.in_ok-com.ensures.own);
    }
