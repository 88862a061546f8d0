use Rattle.afdx_port.proofs.TakeLemmas.{waits}
use Rattle.afdx_port.proofs.port.Port.take.Goals as goal

pub returns-then-is_quiet : goal.returns-then-is_quiet
returns-then-is_quiet g c =
    let clock = rw (← c.self.view_is) at c.requires.clock in
    let quiet = rw (← c.self.view_is) at (c.is_quiet.ensures.0 c.if-is_quiet.true) in
    rw (← c.self.view_is, c.wait.ensures)
    (waits g.T.HasLength.facts c.self.inside.state c.args.until g.met.T.HasLength.lawful c.self.invariant.0
    clock quiet)
