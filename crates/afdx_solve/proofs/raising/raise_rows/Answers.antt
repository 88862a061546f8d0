use Rattle.std.proofs.Common.{◌≡◌, ◌||◌, ◌∙◌, Some, sym, ap, subst, arith}
use Rattle.afdx_config.specs.Rows.{Rows}
use Rattle.afdx_config.specs.AtSwitch.{tables_at}
use Rattle.afdx_solve.proofs.LoopLemmas.{RowSettled, raised-next, rows-settled, row-there, jitters-stay}
use Rattle.afdx_solve.proofs.LoopLemmas.{delays-below}
use Rattle.afdx_solve.proofs.raising.raise_rows.Goals.{then-raised, else-raised}
use Rattle.afdx_solve.proofs.raising.raise_rows.Goals as goal

pub raise_row-one-requires-clause-within : goal.raise_row-one-requires-clause-within
raise_row-one-requires-clause-within c =
    row-there c.args.switches.now c.loop-i.switches c.loop-i.invariant.raises.alike c.args.switch.0 c.tables.result.now
    c.tables.ensures.tables c.loop-i.i (omega (arith, c.link_count-count.ensures.count))

pub raise_row-one-requires-clause-jitters : goal.raise_row-one-requires-clause-jitters
raise_row-one-requires-clause-jitters c = λ t at.
    let u : Rows = c.tables.result.now in
    jitters-stay c.args.switches.now c.loop-i.switches c.loop-i.invariant.raises.alike c.args.switch.0
    c.loop-i.invariant.raises.more u t c.tables.ensures.tables at c.args.jitters.now
    (c.requires.jitters u c.tables.ensures.tables)

pub raise_row-one-requires-clause-delays : goal.raise_row-one-requires-clause-delays
raise_row-one-requires-clause-delays c = λ t at.
    let u : Rows = c.tables.result.now in
    delays-below c.args.switches.now c.loop-i.switches c.loop-i.invariant.raises.alike c.args.switch.0
    c.loop-i.invariant.raises.more u t c.tables.ensures.tables at c.args.delays.now
    (c.requires.delays u c.tables.ensures.tables)

pub loop-i-preserved : goal.loop-i-preserved
loop-i-preserved c =
    let o = c.args.options in
    let k = c.args.switch.0 in
    let one = c.raise_row-one.result in
    let both : c.if-raised.raised ≡ c.loop-i.raised || one =
    elim c.if-raised.branch [
      | then-raised w ↦ w.raised-is ∙ w.if-raised.true ∙ ap (λ b. b || one) (sym w.if-raised.true)
      | else-raised w ↦ w.raised-is ∙ ap (λ b. b || one) (sym w.if-raised.false)
    ] in
    raised-next o (RowSettled o k) c.args.switches.now c.loop-i.switches c.raise_row-one.new.switches c.loop-i.raised
    one
    c.if-raised.raised c.loop-i.i both c.loop-i.invariant c.raise_row-one.ensures.raises
    (λ no none t l at row.
    let same = c.raise_row-one.ensures.raises.same none ∙ c.loop-i.invariant.raises.same no in
    let at_old = subst (λ ss. tables_at ss k ≡ Some t) same at in
    c.raise_row-one.ensures.settled none t l at (c.requires.delays t at_old) row)

pub returns-clause-settled : goal.returns-clause-settled
returns-clause-settled c = λ none i t l at row.
    let u : Rows = c.tables.result.now in
    rows-settled c.args.options c.args.switch.0 c.args.switches.now c.loop-i.switches c.loop-i.raised c.loop-i.i u
    c.loop-i.invariant c.tables.ensures.tables (omega (arith, c.link_count-count.ensures.count)) none i t l at row
