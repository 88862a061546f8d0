use Rattle.std.proofs.Common.{◌+◌, ℕ, subst}
use Rattle.afdx_port.specs.History as queue
use Rattle.afdx_switch.specs.HeldFrames.{facts}
use Rattle.afdx_switch.specs.New.{IsNewPort}
use Rattle.afdx_switch.specs.Tables.{byte_ns_at, buffer_at}
use Rattle.afdx_switch.proofs.NewLemmas.{gathered-push}
use Rattle.afdx_switch.proofs.build.new_ports.Goals as goal

pub loop-place-preserved : goal.loop-place-preserved
loop-place-preserved c =
    let p = c.in_ok-new.field-0 in
    let stands : queue.StandsFor facts p
    (queue.no_calls (byte_ns_at c.args.tables.now (c.loop-place.place + 1))
    (buffer_at c.args.tables.now (c.loop-place.place + 1))) =
    subst (λ (n : ℕ). queue.StandsFor facts p
    (queue.no_calls n (buffer_at c.args.tables.now (c.loop-place.place + 1))))
    (rw c.port_at-port.ensures at c.byte_ns.ensures.is)
    (subst (λ (b : ℕ). queue.StandsFor facts p (queue.no_calls c.byte_ns.result b))
    (rw c.port_at-port.ensures at c.buffer.ensures.is) c.in_ok-new.ensures.stands) in
    rw c.in_ok-push.ensures.items
    (gathered-push (λ i q. IsNewPort c.args.tables.now i q) c.loop-place.place
    c.loop-place.ports.items p c.loop-place.invariant
    (record {
      stands = stands;
      quiet = c.in_ok-new.ensures.quiet;
      empty = c.in_ok-new.ensures.held;
      clock = c.in_ok-new.ensures.clock;
    }))
