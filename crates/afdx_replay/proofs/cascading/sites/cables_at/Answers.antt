use Rattle.std.proofs.Common.{sym, arith}
use Rattle.std.proofs.lemmas.List.FromFn.{map-range_with_len_more}
use Rattle.afdx_replay.specs.cascading.Sited.{has_cable}
use Rattle.afdx_replay.proofs.cascading.sites.cables_at.Goals as goal

pub loop-port-preserved : goal.loop-port-preserved
loop-port-preserved c =
    let port = c.loop-port.port in
    rw (
      c.in_ok-push.ensures.items,
      c.loop-port.invariant,
      c.is_some.ensures,
      c.far_end.ensures,
    )
    (sym (map-range_with_len_more (has_cable c.args.switches.now c.args.switch.0) 0 port port (omega arith)))
