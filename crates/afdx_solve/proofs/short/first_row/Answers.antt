use Rattle.std.proofs.Common.{◌≡◌, length, ap, ◌∙◌, arith}
use Rattle.afdx_config.specs.Rows.{Rows}
use Rattle.afdx_solve.specs.Short.{first_of, short_place}
use Rattle.afdx_solve.proofs.AtLemmas.{tables-one}
use Rattle.afdx_solve.proofs.ShortLemmas.{first-nowhere, first-next}
use Rattle.afdx_solve.proofs.short.first_row.Goals as goal

pub loop-i-init : goal.loop-i-init
loop-i-init c = λ t at. first-nowhere (short_place c.args.apart c.args.switches.now c.args.switch.0 t)

pub loop-i-preserved : goal.loop-i-preserved
loop-i-preserved c = λ t at.
    first-next (short_place c.args.apart c.args.switches.now c.args.switch.0 t) c.loop-i.i c.loop-i.first
    c.short_place-here.result _ (c.loop-i.invariant t at) (c.short_place-here.ensures t at) c.or-first.ensures

pub returns : goal.returns
returns c = λ t at.
    let ss = c.args.switches.now in
    let k = c.args.switch.0 in
    let same = tables-one ss k c.tables.result.now t c.tables.ensures.tables at in
    let count : c.loop-i.i ≡ length t.links =
    omega (arith, c.link_count-count.ensures.count, ap (λ (r : Rows). length r.links) same) in
    c.loop-i.invariant t at ∙ ap (first_of (short_place c.args.apart ss k t)) count
