use Rattle.std.proofs.Common.{◌++◌, sym, ap, ◌∙◌}
use Rattle.afdx_admit.specs.Lines.{false_lines}
use Rattle.afdx_frame.proofs.FalseLinesLemmas.{none_added}
use Rattle.afdx_admit.proofs.PortLemmas.{port_lines-none}
use Rattle.afdx_admit.proofs.lines.add_port.Goals as goal

pub returns-in-None : goal.returns-in-None
returns-in-None g c =
    let old = g.C.Found.items c.args.found.now in
    none_added old
    ∙ ap (λ ls. old ++ false_lines ls)
    (sym (port_lines-none c.args.tables.now c.args.port (sym c.in-None.ensures.place)))
