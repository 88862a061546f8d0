use Rattle.std.proofs.Common.{◌≡◌, ◌++◌, sym, ap, subst, ◌∙◌, nat_lt, true, false}
use Rattle.std.proofs.lemmas.Option.{same_Some}
use Rattle.afdx_config.specs.Rows.{Rows, link_row}
use Rattle.afdx_frame.specs.Lines.{false_lines}
use Rattle.afdx_frame.proofs.FalseLinesLemmas.{none_added}
use Rattle.afdx_admit.specs.Cascade.{row_at, lines_of_row, lines_of_hop}
use Rattle.afdx_admit.specs.Walk.{Walks}
use Rattle.afdx_admit.proofs.CascadeLemmas.{row_can_send}
use Rattle.afdx_admit.proofs.CascadeFalseLemmas.{row-sent, row-fed}
use Rattle.afdx_admit.proofs.WalkLemmas.{walks_same}
use Rattle.afdx_admit.proofs.cascade_lines.add_row.Goals as goal

pub returns-then-is_own : goal.returns-then-is_own
returns-then-is_own g c = λ t at.
    let ss = c.args.switches.now in
    let k = c.args.switch.0 in
    let l = link_row c.args.link.now in
    let old = g.C.Found.items c.args.found.now in
    let same : c.tables-tables.result.now ≡ t = same_Some _ _ (sym c.tables-tables.ensures.tables ∙ at) in
    let own : nat_lt l.from t.own ≡ true =
    subst (λ (r : Rows). nat_lt l.from r.own ≡ true) same (sym c.is_own.ensures ∙ c.if-is_own.true) in
    none_added old ∙ ap (λ ls. old ++ false_lines ls) (sym (row-sent ss k t l own))

pub add_hop-requires : goal.add_hop-requires
add_hop-requires g c =
    row_can_send c.args.switches.now (row_at c.in-Some.field-0-0.0 (link_row c.in-Some.before.now))
    c.in-Some.ensures.stands

pub returns : goal.returns
returns g c = λ t at.
    let ss = c.args.switches.now in
    let k = c.args.switch.0 in
    let l = link_row c.args.link.now in
    let sum = c.in-Some-latency_of.sum in
    let old = g.C.Found.items c.args.found.now in
    let new = g.C.Found.items c.add_hop.new.found in
    let here : Rows = c.tables-tables.result.now in
    let before = row_at c.in-Some.field-0-0.0 (link_row c.in-Some.before.now) in
    let same : here ≡ t = same_Some _ _ (sym c.tables-tables.ensures.tables ∙ at) in
    let past : nat_lt l.from here.own ≡ false = sym c.is_own.ensures ∙ c.if-is_own.false in
    subst (λ (r : Rows). Walks g.C.Found.Stops old new (lines_of_row ss k r l) c.add_hop.result) same
    (walks_same g.C.Found.Stops old new (lines_of_hop k here before.row l sum) (lines_of_row ss k here l)
    c.add_hop.result
    (sym (row-fed ss k here l past before (sym c.in-Some.ensures.row) sum (sym c.in-Some-latency_of.ensures.sum)))
    c.add_hop.ensures)
