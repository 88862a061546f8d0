use Rattle.std.proofs.Common.{arith, sym, subst, ◌≤◌, Option}
use Rattle.afdx_send.specs.Agenda.{IsSooner}
use Rattle.afdx_send.specs.Nodes.{rank_of}
use Rattle.afdx_send.specs.declared.agenda.NextRelease.{NextRelease}
use Rattle.afdx_send.proofs.NodeLemmas.{sooner_by_rank, sooner_other}
use Rattle.afdx_send.proofs.agenda.sooner.Goals as goal

pub returns-then-rank : goal.returns-then-rank
returns-then-rank c =
    let a = c.args.a.now in
    let b = c.args.b.now in
    let less : rank_of a ≤ rank_of b =
    (let r = c.rank.ensures.rank in let s = c.rank-2.ensures.rank in let t = c.if-rank.true in
    omega (arith, r, s, t)) in
    subst (λ (o : Option NextRelease). IsSooner o a b) (sym c.again.ensures)
    (sooner_by_rank a b c.rank.ensures.small c.rank-2.ensures.small less)

pub returns-else-rank : goal.returns-else-rank
returns-else-rank c =
    let a = c.args.a.now in
    let b = c.args.b.now in
    let less : rank_of b ≤ rank_of a =
    (let r = c.rank.ensures.rank in let s = c.rank-2.ensures.rank in let t = c.if-rank.false in
    omega (arith, r, s, t)) in
    subst (λ (o : Option NextRelease). IsSooner o a b) (sym c.again-else-rank.ensures)
    (sooner_other a b c.rank.ensures.small c.rank-2.ensures.small less)
