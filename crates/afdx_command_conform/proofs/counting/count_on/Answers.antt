use Rattle.std.proofs.Common.{◌∙◌, ap, get_or, refl, take, sym, subst, arith}
use Rattle.std.proofs.lemmas.List.{take_all}
use Rattle.std.proofs.lemmas.Option.{slice_get-get_or}
use Rattle.afdx_config.specs.Rows.{LinkRow}
use Rattle.afdx_command_conform.specs.Counting.{HasCounted, both_counted, counted_among, counted_to}
use Rattle.afdx_command_conform.proofs.CountingLemmas.{among-next, among-none, both-assoc, has-none}
use Rattle.afdx_command_conform.proofs.GivenLemmas.{blank}
use Rattle.afdx_command_conform.proofs.counting.count_on.Goals as goal

pub loop-link-init : goal.loop-link-init
loop-link-init c = record {
  findings = refl;
  left_out = refl;
  unseen = refl;
  exercised = refl;
  counted = λ c' until frames n sight ended has.
      subst (λ m. HasCounted (both_counted n m) c.args.totals.now)
      (sym (among-none c.args.tables.now c' until frames c.args.side))
      (has-none n c.args.totals.now has);
}

pub loop-link-preserved : goal.loop-link-preserved
loop-link-preserved c = record {
  findings = c.count_to.ensures.findings ∙ c.loop-link.invariant.findings;
  left_out = c.count_to.ensures.left_out ∙ c.loop-link.invariant.left_out;
  unseen = c.count_to.ensures.unseen ∙ c.loop-link.invariant.unseen;
  exercised = c.count_to.ensures.exercised ∙ c.loop-link.invariant.exercised;
  counted = λ c' until frames n sight ended has.
      let t = c.args.tables.now in
      let place = c.loop-link.link in
      let l : LinkRow = get_or t.links place blank in
      let at = slice_get-get_or t.links place blank (let test = c.loop-link-test.true in let len =
      c.link_count-link-end.ensures in
      omega (arith, test, len)) in
      let before = counted_among t c' until frames c.args.side (take place t.links) in
      subst (λ m. HasCounted m c.count_to.new.totals)
      (both-assoc n before (counted_to t c' until frames c.args.side l l.to)
      ∙ ap (λ m. both_counted n m) (sym (among-next t c' until frames c.args.side t.links place l at)))
      (c.count_to.ensures.counted c' until frames (both_counted n before) l at sight ended
      (c.loop-link.invariant.counted c' until frames n sight ended has));
}

pub returns-clause-counted : goal.returns-clause-counted
returns-clause-counted c c' until frames n sight ended has =
    let t = c.args.tables.now in
    let test = c.loop-link-test.false in
    let len = c.link_count-link-end.ensures in
    subst (λ ls. HasCounted (both_counted n (counted_among t c' until frames c.args.side ls)) c.loop-link.totals)
    (take_all c.loop-link.link t.links (omega (arith, test, len)))
    (c.loop-link.invariant.counted c' until frames n sight ended has)
