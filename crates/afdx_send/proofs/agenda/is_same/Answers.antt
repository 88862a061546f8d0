use Rattle.std.proofs.Common.{sym, ◌∙◌}
use Rattle.std.proofs.lemmas.Bool.{eqb-true}
use Rattle.afdx_send.proofs.NodeLemmas.{same_by_rank}
use Rattle.afdx_send.proofs.agenda.is_same.Goals as goal

pub returns : goal.returns
returns c same =
    same_by_rank c.args.a.now c.args.b.now c.rank.ensures.small c.rank-2.ensures.small
    (sym c.rank.ensures.rank ∙ eqb-true c.rank.result c.rank-2.result same ∙ c.rank-2.ensures.rank)
