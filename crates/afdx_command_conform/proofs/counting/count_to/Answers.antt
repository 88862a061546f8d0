use Rattle.std.proofs.Common.{◌≡◌, ◌<◌, ◌≤◌, ◌∙◌, ℕ, length, refl, take, sym, ap, subst, arith}
use Rattle.std.proofs.lemmas.List.{length-map, take_all}
use Rattle.std.proofs.lemmas.Option.{same_Some}
use Rattle.afdx_law_bounds.specs.Tables.{port_of}
use Rattle.afdx_config.specs.Rows.{LinkRow, link_row}
use Rattle.afdx_command_conform.specs.Counting.{HasCounted, both_counted, counted_at, counted_to}
use Rattle.afdx_command_conform.proofs.CountingLemmas.{both-assoc, has-none, to-next, to-none}
use Rattle.afdx_command_conform.proofs.JoinLemmas.{any-in}
use Rattle.afdx_command_conform.proofs.counting.count_to.Goals as goal

pub loop-rank-init : goal.loop-rank-init
loop-rank-init c = record {
  findings = refl;
  left_out = refl;
  unseen = refl;
  exercised = refl;
  counted = λ c' until frames n row at sight ended has.
      subst (λ m. HasCounted (both_counted n m) c.args.totals.now)
      (sym (to-none c.args.tables.now c' until frames c.args.side row))
      (has-none n c.args.totals.now has);
}

pub loop-rank-preserved : goal.loop-rank-preserved
loop-rank-preserved c = record {
  findings = c.count_at.ensures.findings ∙ c.loop-rank.invariant.findings;
  left_out = c.count_at.ensures.left_out ∙ c.loop-rank.invariant.left_out;
  unseen = c.count_at.ensures.unseen ∙ c.loop-rank.invariant.unseen;
  exercised = c.count_at.ensures.exercised ∙ c.loop-rank.invariant.exercised;
  counted = λ c' until frames n row at sight ended has.
      let t = c.args.tables.now in
      let side = c.args.side in
      let s : ℕ = c.receiver-system.result.0 in
      let rank : ℕ = c.loop-rank.rank in
      let mine : link_row c.link.result.now ≡ row = same_Some (link_row c.link.result.now) row (sym c.link.ensures.row
      ∙ at) in
      let count = length-map c.link.result.now.to.items (λ i. i.0) in
      let test = c.loop-rank-test.true in
      let len = c.len-rank-end.ensures in
      let lt : rank < length row.to = subst (λ (r : LinkRow). rank < length r.to) mine
      (omega (arith, test, len, count)) in
      let is = c.receiver-system.ensures.is row at in
      let before = counted_to t c' until frames side row (take rank row.to) in
      subst (λ m. HasCounted m c.count_at.new.totals)
      (both-assoc n before (counted_at t c' until frames side row (port_of t s))
      ∙ ap (λ m. both_counted n m) (sym (to-next t c' until frames side row rank s is lt)))
      (c.count_at.ensures.counted c' until frames (both_counted n before) row at (any-in row.to rank s is lt)
      sight ended
      (c.loop-rank.invariant.counted c' until frames n row at sight ended has));
}

pub returns-clause-counted : goal.returns-clause-counted
returns-clause-counted c c' until frames n row at sight ended has =
    let t = c.args.tables.now in
    let mine : link_row c.link.result.now ≡ row = same_Some (link_row c.link.result.now) row (sym c.link.ensures.row
    ∙ at) in
    let count = length-map c.link.result.now.to.items (λ i. i.0) in
    let test = c.loop-rank-test.false in
    let len = c.len-rank-end.ensures in
    let whole = take_all c.loop-rank.rank row.to
    (subst (λ (r : LinkRow). length r.to ≤ c.loop-rank.rank) mine (omega (arith, test, len, count))) in
    subst (λ ls. HasCounted (both_counted n (counted_to t c' until frames c.args.side row ls)) c.loop-rank.totals) whole
    (c.loop-rank.invariant.counted c' until frames n row at sight ended has)
