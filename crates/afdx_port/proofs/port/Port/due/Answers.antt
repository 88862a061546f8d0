use Rattle.std.proofs.Common.{◌∙◌}
use Rattle.afdx_port.specs.Held.{due_of}
use Rattle.afdx_port.proofs.DueLemmas.{next_due, if_due_comes}
use Rattle.afdx_port.proofs.TakeLemmas.{due_limit, if_all_done}
use Rattle.afdx_port.proofs.port.Port.due.Goals as goal

pub returns-clause-is_next : goal.returns-clause-is_next
returns-clause-is_next g c = λ h s st n.
    let p = c.self.inside.state in
    let limit = due_limit g.T.HasLength.facts p g.met.T.HasLength.lawful c.self.invariant.0 in
    c.due.ensures (due_of g.T.HasLength.facts p) c.self.invariant.1 limit
    ∙ next_due g.T.HasLength.facts p h s (rw (← c.self.view_is) at st) n

pub returns-clause-comes : goal.returns-clause-comes
returns-clause-comes g c = λ h st.
    let p = c.self.inside.state in
    let limit = due_limit g.T.HasLength.facts p g.met.T.HasLength.lawful c.self.invariant.0 in
    if_due_comes g.T.HasLength.facts p h c.due.result (rw (← c.self.view_is) at st)
    (c.due.ensures (due_of g.T.HasLength.facts p) c.self.invariant.1 limit)

pub returns-clause-all_done : goal.returns-clause-all_done
returns-clause-all_done g c = λ h st.
    let p = c.self.inside.state in
    let limit = due_limit g.T.HasLength.facts p g.met.T.HasLength.lawful c.self.invariant.0 in
    if_all_done g.T.HasLength.facts p h c.due.result (rw (← c.self.view_is) at st)
    (c.due.ensures (due_of g.T.HasLength.facts p) c.self.invariant.1 limit)
