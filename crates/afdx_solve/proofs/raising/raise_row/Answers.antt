use Rattle.std.proofs.Common.{◌≡◌, slice_get, sym, ap, ◌∙◌, subst, length, true}
use Rattle.std.proofs.lemmas.Option.{same_Some}
use Rattle.afdx_config.specs.Rows.{Rows, LinkRow, link_row}
use Rattle.afdx_config.specs.Changed.{with_times}
use Rattle.afdx_config.specs.Lawful.{IsLinkAmong}
use Rattle.afdx_config.specs.ChangedSwitches.{with_times_at}
use Rattle.afdx_solve.specs.SolvedCascade.{AreTimesAtMost}
use Rattle.afdx_solve.specs.Raising.{Raises, raised_times, AreTimesSettled, IsMoreIn, AreDelaysBy}
use Rattle.afdx_solve.proofs.AtLemmas.{tables-one}
use Rattle.afdx_solve.proofs.RaisedLemmas.{needed-are, row-settled, raised-lawful, row-raises, among}
use Rattle.afdx_solve.proofs.raising.raise_row.Goals as goal

pub set_times-requires-clause-lawful : goal.set_times-requires-clause-lawful
set_times-requires-clause-lawful c = λ t l at row.
    let ss = c.args.switches.now in
    let k = c.args.switch.0 in
    let u : Rows = c.tables.result.now in
    let m : LinkRow = link_row c.link-link.result.now in
    let at_u = c.tables.ensures.tables in
    let needed = c.needed_times-needed.result in
    let n = needed-are c.args.options ss u k m needed c.args.delays.now c.link-link.ensures.lawful_row
    (c.needed_times-needed.ensures.jitter u at_u) c.needed_times-needed.ensures.latency
    (c.needed_times-needed.ensures.skew u at_u) (c.requires.delays u at_u) in
    let may = raised-lawful c.args.options ss u k m needed
    (among u c.args.index m c.tables.ensures.lawful c.link-link.ensures.row c.link-link.ensures.lawful_row) n in
    let tables_are : u ≡ t = tables-one ss k u t at_u at in
    let row_is : m ≡ l = same_Some m l
    (sym c.link-link.ensures.row ∙ ap (λ (r : Rows). slice_get r.links c.args.index) tables_are ∙ row) in
    subst (λ (r : Rows). IsLinkAmong r.own (length r.systems) (with_times c.raised_times-times.result l)) tables_are
    (subst (λ (r : LinkRow). IsLinkAmong u.own (length u.systems) (with_times c.raised_times-times.result r)) row_is
    (subst (λ x. IsLinkAmong u.own (length u.systems) (with_times x m)) (sym c.raised_times-times.ensures) may))

pub returns-then-raised-clause-raises : goal.returns-then-raised-clause-raises
returns-then-raised-clause-raises c =
    let ss = c.args.switches.now in
    let k = c.args.switch.0 in
    let u : Rows = c.tables.result.now in
    let m : LinkRow = link_row c.link-link.result.now in
    let at_u = c.tables.ensures.tables in
    let needed = c.needed_times-needed.result in
    let n = needed-are c.args.options ss u k m needed c.args.delays.now c.link-link.ensures.lawful_row
    (c.needed_times-needed.ensures.jitter u at_u) c.needed_times-needed.ensures.latency
    (c.needed_times-needed.ensures.skew u at_u) (c.requires.delays u at_u) in
    let is_more : IsMoreIn m (raised_times c.args.options needed m) =
    subst (IsMoreIn m) c.raised_times-times.ensures (c.is_more-raised.ensures.more c.if-raised.true) in
    let raises = row-raises c.args.options ss k c.args.index u m at_u c.link-link.ensures.row needed n
    (among u c.args.index m c.tables.ensures.lawful c.link-link.ensures.row c.link-link.ensures.lawful_row) is_more in
    subst (Raises c.args.options ss c.set_times.new.self) (sym c.if-raised.true)
    (subst (λ x. Raises c.args.options ss x true)
    (sym (c.set_times.ensures.changed ∙ ap (λ x. with_times_at k c.args.index x ss) c.raised_times-times.ensures))
    raises)

pub returns-else-raised-clause-settled : goal.returns-else-raised-clause-settled
returns-else-raised-clause-settled c = λ not_raised t l at exact row.
    let ss = c.args.switches.now in
    let k = c.args.switch.0 in
    let u : Rows = c.tables.result.now in
    let m : LinkRow = link_row c.link-link.result.now in
    let at_u = c.tables.ensures.tables in
    let needed = c.needed_times-needed.result in
    let tables_are : u ≡ t = tables-one ss k u t at_u at in
    let row_is : m ≡ l = same_Some m l
    (sym c.link-link.ensures.row ∙ ap (λ (r : Rows). slice_get r.links c.args.index) tables_are ∙ row) in
    let none : AreTimesAtMost (with_times (raised_times c.args.options needed m) m) m =
    subst (λ x. AreTimesAtMost (with_times x m) m) c.raised_times-times.ensures
    (c.is_more-raised.ensures.none c.if-raised.false) in
    let exact_u = subst (λ (r : Rows). AreDelaysBy (λ kept needs. kept ≡ needs) r c.args.delays.now) (sym tables_are)
    exact in
    let settled = row-settled c.args.options ss u k m needed c.args.delays.now c.link-link.ensures.lawful_row
    (c.needed_times-needed.ensures.jitter u at_u) c.needed_times-needed.ensures.latency
    (c.needed_times-needed.ensures.skew u at_u) none exact_u in
    subst (λ (r : Rows). AreTimesSettled c.args.options ss r k l) tables_are
    (subst (AreTimesSettled c.args.options ss u k) row_is settled)
