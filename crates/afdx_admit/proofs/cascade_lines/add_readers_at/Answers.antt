use Rattle.std.proofs.Common.{rules, ◌≡◌, ◌++◌, length, sym, ap, subst, ◌∙◌, arith}
use Rattle.afdx_config.specs.Rows.{Rows, link_row}
use Rattle.afdx_config.specs.Switches.{named_rows}
use Rattle.afdx_frame.specs.Lines.{false_lines, each_from}
use Rattle.afdx_frame.proofs.FalseLinesLemmas.{each_from-none, each_from-added}
use Rattle.afdx_admit.specs.Cascade.{reader_lines}
use Rattle.afdx_admit.specs.Walk.{Walks}
use Rattle.afdx_admit.proofs.CascadeLemmas.{with_name, readers-at, reader-at}
use Rattle.afdx_admit.proofs.WalkLemmas.{Stopped, walks_stop_at}
use Rattle.afdx_admit.proofs.cascade_lines.add_readers_at.Goals as goal

pub loop-i-init : goal.loop-i-init
loop-i-init g c =
    each_from-none (reader_lines c.args.switches.now c.args.switch.0) 0 (g.C.Found.items c.args.found.now)

pub returns-in_err-add_readers_of : goal.returns-in_err-add_readers_of
returns-in_err-add_readers_of g c =
    let ss = c.args.switches.now in
    let k = c.args.switch.0 in
    let i = c.loop-i.i in
    let t : Rows = c.tables-tables.result.now in
    let s = named_rows c.name-name.result.now t in
    let at = with_name _ c.name-name.result.now t c.name-name.ensures.name c.tables-tables.ensures.tables in
    let old = g.C.Found.items c.args.found.now in
    let found = g.C.Found.items c.loop-i.found in
    let stop = c.in_err-add_readers_of.field-0.0 in
    subst (λ ls. Walks g.C.Found.Stops old (g.C.Found.items c.add_readers_of.new.found) ls c.from_residual.result)
    (sym (readers-at ss k s at))
    (walks_stop_at g.C.Found.Stops (reader_lines ss k) 0 i i (length t.links) old found _ stop _ (search rules)
    (omega arith) (omega arith) c.loop-i.invariant
    (subst (λ ls. Stopped g.C.Found.Stops found ls stop)
    (sym (reader-at ss k s at i (link_row c.link.result.now) c.link.ensures.row)) c.in_err-add_readers_of.ensures))

pub loop-i-preserved : goal.loop-i-preserved
loop-i-preserved g c =
    let ss = c.args.switches.now in
    let k = c.args.switch.0 in
    let i = c.loop-i.i in
    let t : Rows = c.tables-tables.result.now in
    let s = named_rows c.name-name.result.now t in
    let at = with_name _ c.name-name.result.now t c.name-name.ensures.name c.tables-tables.ensures.tables in
    let found = g.C.Found.items c.loop-i.found in
    each_from-added (reader_lines ss k) 0 i i (g.C.Found.items c.args.found.now) found _ (omega arith)
    c.loop-i.invariant
    (c.in_ok-add_readers_of.ensures
    ∙ ap (λ ls. found ++ false_lines ls)
    (sym (reader-at ss k s at i (link_row c.link.result.now) c.link.ensures.row)))

pub returns : goal.returns
returns g c =
    let ss = c.args.switches.now in
    let k = c.args.switch.0 in
    let t : Rows = c.tables-tables.result.now in
    let all : c.loop-i.i ≡ length t.links = omega arith in
    let old = g.C.Found.items c.args.found.now in
    let at = with_name _ c.name-name.result.now t c.name-name.ensures.name c.tables-tables.ensures.tables in
    c.loop-i.invariant
    ∙ ap (λ n. old ++ false_lines (each_from (reader_lines ss k) 0 n)) all
    ∙ ap (λ ls. old ++ false_lines ls) (sym (readers-at ss k (named_rows c.name-name.result.now t) at))
