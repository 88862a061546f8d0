use Rattle.std.proofs.Common.{sym, ◌∙◌}
use Rattle.afdx_send.proofs.NodeLemmas.{in_none, in_some}
use Rattle.afdx_send.proofs.agenda.Node.release.Goals as goal

pub returns-then-is_none : goal.returns-then-is_none
returns-then-is_none c =
    let n = c.self.inside in
    rw (← c.self.view_is) (sym (in_none n.time n.place (sym c.is_none.ensures ∙ c.if-is_none.true)))

pub returns : goal.returns
returns c =
    let n = c.self.inside in
    rw (← c.self.view_is) (sym (in_some n.time n.place (sym c.is_none.ensures ∙ c.if-is_none.false)))
