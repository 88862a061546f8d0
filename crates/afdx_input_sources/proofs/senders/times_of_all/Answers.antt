use Rattle.std.proofs.Common.{rules, arith, ◌∷◌, []}
use Rattle.std.proofs.lemmas.List.{length-append}
use Rattle.afdx_input_sources.proofs.TableLemmas.{have-all, have-more}
use Rattle.afdx_input_sources.proofs.senders.times_of_all.Goals as goal

pub loop-place-preserved : goal.loop-place-preserved
loop-place-preserved c =
    let i = c.loop-place.invariant in
    let long = length-append c.loop-place.times.items (c.in_ok-of_switch.of_switch ∷ []) in
    rw c.in_ok-push.ensures.items (
      omega (arith, i.0, long),
      search rules,
      have-more c.loop-place.times.items c.in_ok-of_switch.of_switch c.args.switches.now c.loop-place.place _ i.0
          c.tables-tables.ensures.tables c.in_ok-of_switch.ensures i.2,
    )

pub returns : goal.returns
returns c =
    let i = c.loop-place.invariant in
    have-all c.loop-place.times.items c.args.switches.now
    (omega (arith, i.0, i.1, c.loop-place-test.false, c.id_count-place-end.ensures.count)) i.2
