use Rattle.std.proofs.Common.{arith, sym}
use Rattle.std.proofs.lemmas.List.{take_all}
use Rattle.afdx_solve.proofs.CascadeTextLemmas.{string-describes}
use Rattle.afdx_solve.proofs.TextLemmas.{at-switch, first-switch, next-switch}
use Rattle.afdx_solve.proofs.cascade_writing.cascade_text.Goals as goal

pub loop-i-init : goal.loop-i-init
loop-i-init c =
    let ss = c.args.switches.now in
    let at = at-switch ss 0 c.name.result.now c.tables.result.now c.name.ensures.name c.tables.ensures.tables in
    record {
      some = omega arith;
      so_far = rw (c.in_ok-put_switch.ensures, c.new-text.ensures.bytes) (sym (first-switch ss _ at));
    }

pub loop-i-preserved : goal.loop-i-preserved
loop-i-preserved c =
    let ss = c.args.switches.now in
    let i = c.loop-i.i in
    let at = at-switch ss i c.name-in-loop-i.result.now c.tables-in-loop-i.result.now
    c.name-in-loop-i.ensures.name c.tables-in-loop-i.ensures.tables in
    record {
      some = omega (arith, c.loop-i.invariant.some);
      so_far = rw (c.in_ok-put_next.ensures, c.loop-i.invariant.so_far)
          (sym (next-switch ss i _ c.loop-i.invariant.some at));
    }

pub returns-clause-spells : goal.returns-clause-spells
returns-clause-spells c =
    string-describes c.loop-i.text c.args.switches.now c.id_count-count.ensures.switches
    (rw (take_all c.loop-i.i c.args.switches.now (rw c.id_count-count.ensures.count at c.loop-i-test.false))
    at c.loop-i.invariant.so_far)
