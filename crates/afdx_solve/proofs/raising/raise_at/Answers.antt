use Rattle.std.proofs.Common.{◌≡◌, sym, subst, ◌||◌, Some}
use Rattle.afdx_config.specs.Rows.{Rows}
use Rattle.afdx_solve.specs.declared.delays.Delays.{Delays}
use Rattle.afdx_solve.specs.Raising.{Raises, AreDelaysBy, AreTimesSettled}
use Rattle.afdx_config.specs.AtSwitch.{tables_at}
use Rattle.afdx_solve.proofs.AtLemmas.{tables-one}
use Rattle.afdx_solve.proofs.DelayLemmas.{delays-of_class}
use Rattle.afdx_solve.proofs.RaisingLemmas.{raises-then}
use Rattle.afdx_solve.proofs.raising.raise_at.Goals as goal

pub raise_rows-rows-requires-clause-delays : goal.raise_rows-rows-requires-clause-delays
raise_rows-rows-requires-clause-delays c = λ t at.
    let u : Rows = c.tables-tables.result.now in
    let d : Delays = record { high = c.delays_of.result; low = c.delays_of-2.result } in
    let same : u ≡ t = tables-one c.args.switches.now c.args.switch.0 u t c.tables-tables.ensures.tables at in
    let exact : AreDelaysBy (λ kept needed. kept ≡ needed) u d = record {
      high = c.delays_of.ensures.count;
      low = c.delays_of-2.ensures.count;
      each = λ class. (delays-of_class u d c.delays_of.ensures c.delays_of-2.ensures class).each;
    } in
    subst (λ (r : Rows). AreDelaysBy (λ kept needed. kept ≡ needed) r d) same exact

pub returns-then-rows-clause-raises : goal.returns-then-rows-clause-raises
returns-then-rows-clause-raises c =
    subst (Raises c.args.options c.args.switches.now c.raise_buffer-buffer.new.switches) (sym c.if-rows.true)
    (subst (λ r. Raises c.args.options c.args.switches.now c.raise_buffer-buffer.new.switches
    (r || c.raise_buffer-buffer.result))
    c.if-rows.true
    (raises-then c.args.options c.args.switches.now c.raise_rows-rows.new.switches c.raise_buffer-buffer.new.switches
    c.raise_rows-rows.result c.raise_buffer-buffer.result c.raise_rows-rows.ensures.raises
    c.raise_buffer-buffer.ensures.raises))

pub returns-else-rows-clause-raises : goal.returns-else-rows-clause-raises
returns-else-rows-clause-raises c =
    subst (λ r. Raises c.args.options c.args.switches.now c.raise_buffer-buffer.new.switches
    (r || c.raise_buffer-buffer.result))
    c.if-rows.false
    (raises-then c.args.options c.args.switches.now c.raise_rows-rows.new.switches c.raise_buffer-buffer.new.switches
    c.raise_rows-rows.result c.raise_buffer-buffer.result c.raise_rows-rows.ensures.raises
    c.raise_buffer-buffer.ensures.raises)

pub returns-else-rows-clause-settled : goal.returns-else-rows-clause-settled
returns-else-rows-clause-settled c = λ none. record {
  buffer = λ t at. c.raise_buffer-buffer.ensures.settled none t at;
  times = λ i t l at row.
      let same = c.raise_buffer-buffer.ensures.raises.same none in
      subst (λ ss. AreTimesSettled c.args.options ss t c.args.switch.0 l) (sym same)
      (c.raise_rows-rows.ensures.settled c.if-rows.false i t l
      (subst (λ ss. tables_at ss c.args.switch.0 ≡ Some t) same at) row);
}
