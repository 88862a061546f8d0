use Rattle.std.proofs.Common.{◌≡◌, ◌<◌, ◌≤◌, ℕ, length, sym, ap, ◌∙◌, subst, arith}
use Rattle.std.proofs.lemmas.List.{length-map, take_all}
use Rattle.std.proofs.lemmas.Option.{same_Some}
use Rattle.afdx_config.specs.Rows.{LinkRow, link_row}
use Rattle.afdx_command_conform.specs.Sight.{sight_in}
use Rattle.afdx_command_conform.specs.Tapped.{unseen_to}
use Rattle.afdx_command_conform.proofs.TappedLemmas.{unseen-next, unseen-none}
use Rattle.afdx_command_conform.proofs.tapped.unseen_to.Goals as goal

pub loop-rank-init : goal.loop-rank-init
loop-rank-init c = record {
  count = λ row at. sym (unseen-none c.args.tables.now (sight_in c.args.tables.now c.args.taps.now) c.args.side row);
  few = omega arith;
}

pub loop-rank-preserved : goal.loop-rank-preserved
loop-rank-preserved c = record {
  count = λ row at.
      let rank : ℕ = c.loop-rank.rank in
      let before = c.loop-rank.invariant.count row at in
      let here = c.unseen_at-count.ensures.count row at in
      let mine : link_row c.link.result.now ≡ row = same_Some (link_row c.link.result.now) row (sym c.link.ensures.row
      ∙ at) in
      let count = length-map c.link.result.now.to.items (λ i. i.0) in
      let test = c.loop-rank-test.true in
      let len = c.len-rank-end.ensures in
      let lt : rank < length row.to = subst (λ (r : LinkRow). rank < length r.to) mine
      (omega (arith, test, len, count)) in
      let next = unseen-next c.args.tables.now (sight_in c.args.tables.now c.args.taps.now) c.args.side row rank
      c.receiver-system.result.0
      (c.receiver-system.ensures.is row at) lt in
      omega (arith, before, here, next);
  few = let before = c.loop-rank.invariant.few in let here = c.unseen_at-count.ensures.few in
      omega (arith, before, here);
}

pub returns-clause-count : goal.returns-clause-count
returns-clause-count c l at =
    let mine : link_row c.link.result.now ≡ l = same_Some (link_row c.link.result.now) l (sym c.link.ensures.row ∙ at)
    in
    let count = length-map c.link.result.now.to.items (λ i. i.0) in
    let test = c.loop-rank-test.false in
    let len = c.len-rank-end.ensures in
    let le : length l.to ≤ c.loop-rank.rank = subst (λ (r : LinkRow). length r.to ≤ c.loop-rank.rank) mine
    (omega (arith, test, len, count)) in
    c.loop-rank.invariant.count l at
    ∙ ap (λ xs. unseen_to c.args.tables.now (sight_in c.args.tables.now c.args.taps.now) c.args.side l xs)
    (take_all c.loop-rank.rank l.to le)
