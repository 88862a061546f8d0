use Rattle.std.proofs.Common.{refl, sym, ◌∙◌, rules}
use Rattle.afdx_config.specs.Rows.{port_row}
use Rattle.afdx_config.specs.Reading.{has_port}
use Rattle.afdx_receive.proofs.TableLemmas.{port_passed, port_added}
use Rattle.afdx_receive.proofs.receiver.ports_of.Goals as goal
use Rattle.afdx_receive.proofs.receiver.ports_of.Goals.{then-eq+in_ok-insert, else-eq}

pub loop-index-preserved : goal.loop-index-preserved
loop-index-preserved c =
    let ports = c.args.tables.now.ports in
    let port = port_row c.com-port.result.now in
    elim c.if-eq.branch [
      | then-eq+in_ok-insert w ↦
          rw w.ports-is (port_added c.args.system.0 ports c.loop-index.index port
          (record { link = c.com-port.result.now.link; udp = c.com-port.result.now.udp })
          c.loop-index.ports w.insert.new.self
          c.loop-index.invariant c.com-port.ensures.row (sym c.eq.ensures ∙ w.if-eq.true) refl refl
          w.in_ok-insert.ensures.updates.0)
      | else-eq w ↦
          rw w.ports-is (port_passed c.args.system.0 ports c.loop-index.index port c.loop-index.ports
          c.loop-index.invariant c.com-port.ensures.row (sym c.eq.ensures ∙ w.if-eq.false))
    ]

pub loop-index-init : goal.loop-index-init
unfolding has_port
loop-index-init c = search rules
