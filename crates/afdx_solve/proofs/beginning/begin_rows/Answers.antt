use Rattle.std.proofs.Common.{◌≡◌, length, slice_get, Some, is_some, sym, ap, ◌∙◌, subst, arith}
use Rattle.std.proofs.lemmas.Option.{same_Some}
use Rattle.afdx_config.specs.Rows.{Rows, LinkRow, link_row}
use Rattle.afdx_config.specs.Changed.{with_times}
use Rattle.afdx_config.specs.Lawful.{IsLinkAmong}
use Rattle.afdx_config.specs.AtSwitch.{tables_at, link_at}
use Rattle.afdx_config.specs.ChangedSwitches.{with_times_at}
use Rattle.afdx_solve.proofs.AtLemmas.{link-at, tables-one}
use Rattle.afdx_solve.proofs.RaisedLemmas.{among}
use Rattle.afdx_solve.proofs.BeginLemmas.{first_rows, begun-lawful, rows-first, link-first, rows-next, rows-done, length-changed, count-first}
use Rattle.afdx_solve.proofs.beginning.begin_rows.Goals as goal

pub loop-i-init : goal.loop-i-init
loop-i-init c = rows-first c.args.options c.args.switches.now c.args.switch.0

pub tables-requires-in-loop-i : goal.tables-requires-in-loop-i
tables-requires-in-loop-i c =
    omega (
      arith,
      c.requires,
      ap length c.loop-i.invariant,
      length-changed (first_rows c.args.options c.loop-i.i) c.args.switches.now c.args.switch.0,
    )

pub link-requires : goal.link-requires
link-requires c =
    let k = c.args.switch.0 in
    let t : Rows = c.tables.result.now in
    let u : Rows = c.tables-in-loop-i.result.now in
    omega (
      arith,
      c.link_count-count.ensures.count,
      count-first c.args.options c.args.switches.now k c.loop-i.i t u c.tables.ensures.tables
          (ap (λ ss. tables_at ss k) (sym c.loop-i.invariant) ∙ c.tables-in-loop-i.ensures.tables),
    )

pub set_times-requires-clause-within : goal.set_times-requires-clause-within
set_times-requires-clause-within c =
    ap is_some (link-at c.loop-i.switches c.args.switch.0 c.loop-i.i c.tables-in-loop-i.result.now
    (link_row c.link.result.now) c.tables-in-loop-i.ensures.tables c.link.ensures.row)

pub set_times-requires-clause-lawful : goal.set_times-requires-clause-lawful
set_times-requires-clause-lawful c = λ t l at row.
    let ss = c.loop-i.switches in
    let k = c.args.switch.0 in
    let u : Rows = c.tables-in-loop-i.result.now in
    let m : LinkRow = link_row c.link.result.now in
    let times = c.begun_times-times.result in
    let may = begun-lawful c.args.options u.own (length u.systems) m
    (among u c.loop-i.i m c.tables-in-loop-i.ensures.lawful c.link.ensures.row c.link.ensures.lawful_row) in
    let tables_are : u ≡ t = tables-one ss k u t c.tables-in-loop-i.ensures.tables at in
    let row_is : m ≡ l = same_Some m l
    (sym c.link.ensures.row ∙ ap (λ (r : Rows). slice_get r.links c.loop-i.i) tables_are ∙ row) in
    subst (λ (r : Rows). IsLinkAmong r.own (length r.systems) (with_times times l)) tables_are
    (subst (λ (r : LinkRow). IsLinkAmong u.own (length u.systems) (with_times times r)) row_is
    (subst (λ x. IsLinkAmong u.own (length u.systems) (with_times x m)) (sym c.begun_times-times.ensures) may))

pub loop-i-preserved : goal.loop-i-preserved
loop-i-preserved c =
    let o = c.args.options in
    let old = c.args.switches.now in
    let k = c.args.switch.0 in
    let i = c.loop-i.i in
    let m : LinkRow = link_row c.link.result.now in
    let times = c.begun_times-times.result in
    let there : link_at old k i ≡ Some m =
    sym (link-first o old k i) ∙ ap (λ ss. link_at ss k i) (sym c.loop-i.invariant)
    ∙ link-at c.loop-i.switches k i c.tables-in-loop-i.result.now m c.tables-in-loop-i.ensures.tables
    c.link.ensures.row in
    c.set_times.ensures.changed ∙ ap (with_times_at k i times) c.loop-i.invariant
    ∙ rows-next o old k i times m there (ap (λ x. with_times x m) c.begun_times-times.ensures)

pub returns : goal.returns
returns c =
    c.loop-i.invariant
    ∙ rows-done c.args.options c.args.switches.now c.args.switch.0 c.loop-i.i c.tables.result.now
    c.tables.ensures.tables
    (omega (arith, c.link_count-count.ensures.count))
