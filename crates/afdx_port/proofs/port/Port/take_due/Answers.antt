use Rattle.afdx_port.specs.Held.{due_of}
use Rattle.afdx_port.proofs.NextClassLemmas.{given-told}
use Rattle.afdx_port.proofs.port.Port.take_due.Goals as goal

pub take-left-requires-clause-due : goal.take-left-requires-clause-due
take-left-requires-clause-due g c =
    (given-told _ c.args.until (due_of g.T.HasLength.facts c.self.inside.state) c.turn-due.result
    c.self.invariant.1 (rw (← c.self.view_is) at c.requires.given) c.turn-due.ensures).0

pub take-left-requires-clause-given : goal.take-left-requires-clause-given
take-left-requires-clause-given g c =
    (given-told _ c.args.until (due_of g.T.HasLength.facts c.self.inside.state) c.turn-due.result
    c.self.invariant.1 (rw (← c.self.view_is) at c.requires.given) c.turn-due.ensures).1
