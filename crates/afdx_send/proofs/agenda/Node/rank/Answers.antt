use Rattle.std.proofs.Common.{◌∙◌}
use Rattle.afdx_send.proofs.NodeLemmas.{ranked}
use Rattle.afdx_send.proofs.agenda.Node.rank.Goals as goal

pub returns-clause-rank : goal.returns-clause-rank
returns-clause-rank c = rw (← c.self.view_is)
    (c.joined.ensures.sum
    ∙ (ranked c.self.inside.time c.self.inside.place c.joined.ensures.time c.joined.ensures.place).rank)

pub returns-clause-small : goal.returns-clause-small
returns-clause-small c = rw (← c.self.view_is)
    ((ranked c.self.inside.time c.self.inside.place c.joined.ensures.time c.joined.ensures.place).small)
