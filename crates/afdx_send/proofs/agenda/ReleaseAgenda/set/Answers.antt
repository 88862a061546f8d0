use Rattle.std.proofs.Common.{refl, subst, sym, ◌∙◌, ap, arith, ℕ, Option}
use Rattle.afdx_send.specs.declared.agenda.NextRelease.{NextRelease}
use Rattle.afdx_send.specs.Agenda.{IsSooner, IsTournament, times_of}
use Rattle.afdx_send.proofs.AgendaLemmas.{set_leaf, played_on, played_already, played, played_times}
use Rattle.afdx_send.proofs.agenda.ReleaseAgenda.set.Goals as goal

pub loop-node-init : goal.loop-node-init
loop-node-init c = (
  set_leaf c.args.self.now.count c.args.place c.args.self.now.nodes.items
      c.leaf.result c.requires.played c.requires.place,
  refl,
)

pub loop-node-preserved : goal.loop-node-preserved
loop-node-preserved c = (
  played_on c.args.self.now.count c.loop-node.node _ c.loop-node.self.nodes.items
      c.sooner-winner.result c.index.result.now c.index-in-loop-node.result.now
      c.loop-node.invariant.0 c.loop-node-test.true c.index.ensures c.index-in-loop-node.ensures
      c.sooner-winner.ensures,
  c.loop-node.invariant.1,
)

pub returns-clause-played : goal.returns-clause-played
returns-clause-played c = subst (λ (n : ℕ). IsTournament n c.loop-node.self.nodes.items) (sym c.loop-node.invariant.1)
    (played c.args.self.now.count c.args.place c.args.self.now.nodes.items
    c.loop-node.self.nodes.items c.args.time c.leaf.result c.loop-node.node c.requires.played
    c.leaf.ensures c.loop-node.invariant.0 c.loop-node-test.false)

pub returns-clause-set : goal.returns-clause-set
returns-clause-set c = ap (λ n. times_of n c.loop-node.self.nodes.items) c.loop-node.invariant.1 ∙
    played_times c.args.self.now.count c.args.place c.args.self.now.nodes.items
    c.loop-node.self.nodes.items c.args.time c.leaf.result c.loop-node.node c.leaf.ensures
    c.loop-node.invariant.0

pub returns-then-is_same-clause-played : goal.returns-then-is_same-clause-played
returns-then-is_same-clause-played c =
    let count = c.args.self.now.count in
    let nodes = c.loop-node.self.nodes.items in
    let same : IsSooner c.index-in-loop-node-2.result.now c.index.result.now c.index-in-loop-node.result.now =
    subst (λ (z : Option NextRelease). IsSooner z c.index.result.now c.index-in-loop-node.result.now)
    (c.is_same.ensures c.if-is_same.true) c.sooner-winner.ensures in
    let all = played_already count c.loop-node.node _ nodes c.index-in-loop-node-2.result.now
    c.index.result.now c.index-in-loop-node.result.now
    c.loop-node.invariant.0 c.loop-node-test.true c.index-in-loop-node-2.ensures c.index.ensures
    c.index-in-loop-node.ensures same in
    subst (λ (n : ℕ). IsTournament n nodes) (sym c.loop-node.invariant.1)
    (played count c.args.place c.args.self.now.nodes.items nodes c.args.time c.leaf.result 0
    c.requires.played c.leaf.ensures all (omega arith))

pub returns-then-is_same-clause-set : goal.returns-then-is_same-clause-set
returns-then-is_same-clause-set c =
    let count = c.args.self.now.count in
    let nodes = c.loop-node.self.nodes.items in
    let same : IsSooner c.index-in-loop-node-2.result.now c.index.result.now c.index-in-loop-node.result.now =
    subst (λ (z : Option NextRelease). IsSooner z c.index.result.now c.index-in-loop-node.result.now)
    (c.is_same.ensures c.if-is_same.true) c.sooner-winner.ensures in
    let all = played_already count c.loop-node.node _ nodes c.index-in-loop-node-2.result.now
    c.index.result.now c.index-in-loop-node.result.now
    c.loop-node.invariant.0 c.loop-node-test.true c.index-in-loop-node-2.ensures c.index.ensures
    c.index-in-loop-node.ensures same in
    ap (λ n. times_of n nodes) c.loop-node.invariant.1
    ∙ played_times count c.args.place c.args.self.now.nodes.items nodes c.args.time c.leaf.result 0 c.leaf.ensures all
