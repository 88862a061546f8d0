use Rattle.std.proofs.Common.{◌≡◌, Some, slice_get, length, sym, ap, subst, ◌∙◌, arith}
use Rattle.afdx_config.specs.Rows.{Rows, link_row}
use Rattle.afdx_config.specs.Switches.{NamedRows, start_lines, starts_lines, lines_of_start}
use Rattle.afdx_frame.specs.Lines.{first_false, each_from}
use Rattle.afdx_frame.proofs.FirstFalseLemmas.{so_far-start, so_far-next, so_far-found, so_far-end}
use Rattle.afdx_config.proofs.OverLemmas.{starts-at, start-at}
use Rattle.afdx_config.proofs.over_all.starts_fault_at.Goals as goal

pub loop-i-init : goal.loop-i-init
loop-i-init c =
    let ss = c.args.switches.now in
    let k = c.args.k in
    let s : NamedRows = c.at.result.now in
    let t : Rows = c.tables-tables.result.now in
    let same : t ≡ s.rows = c.tables-tables.ensures.tables in
    so_far-start (start_lines ss k) 0 (length t.links) (length t.links) (omega arith)

pub returns-in-Some : goal.returns-in-Some
returns-in-Some c =
    let ss = c.args.switches.now in
    let k = c.args.k in
    let s : NamedRows = c.at.result.now in
    let t : Rows = c.tables-tables.result.now in
    let same : t ≡ s.rows = c.tables-tables.ensures.tables in
    let all = first_false (each_from (start_lines ss k) 0 (length t.links)) in
    let whole : first_false (starts_lines ss k) ≡ all =
    ap first_false (starts-at ss k s c.at.ensures)
    ∙ ap (λ (r : Rows). first_false (each_from (start_lines ss k) 0 (length r.links))) (sym same) in
    let e = link_row c.link-link.result.now in
    let row : slice_get s.rows.links c.loop-i.i ≡ Some e =
    subst (λ (r : Rows). slice_get r.links c.loop-i.i ≡ Some e) same c.link-link.ensures.row in
    let said : first_false (start_lines ss k c.loop-i.i) ≡ c.start_fault.result =
    ap first_false (start-at ss k s c.at.ensures c.loop-i.i e row)
    ∙ ap (λ (r : Rows). first_false (lines_of_start ss r.own k c.loop-i.i e)) (sym same)
    ∙ ap (λ own. first_false (lines_of_start ss own k c.loop-i.i e)) (sym c.own_count-own.ensures.count)
    ∙ sym c.start_fault.ensures in
    sym (whole ∙ so_far-found (start_lines ss k) c.loop-i.i (length t.links) all c.in-Some.fault c.loop-i.invariant
    (omega arith) (said ∙ c.in-Some.is))

pub loop-i-preserved : goal.loop-i-preserved
loop-i-preserved c =
    let ss = c.args.switches.now in
    let k = c.args.k in
    let s : NamedRows = c.at.result.now in
    let t : Rows = c.tables-tables.result.now in
    let same : t ≡ s.rows = c.tables-tables.ensures.tables in
    let all = first_false (each_from (start_lines ss k) 0 (length t.links)) in
    let e = link_row c.link-link.result.now in
    let row : slice_get s.rows.links c.loop-i.i ≡ Some e =
    subst (λ (r : Rows). slice_get r.links c.loop-i.i ≡ Some e) same c.link-link.ensures.row in
    let said : first_false (start_lines ss k c.loop-i.i) ≡ c.start_fault.result =
    ap first_false (start-at ss k s c.at.ensures c.loop-i.i e row)
    ∙ ap (λ (r : Rows). first_false (lines_of_start ss r.own k c.loop-i.i e)) (sym same)
    ∙ ap (λ own. first_false (lines_of_start ss own k c.loop-i.i e)) (sym c.own_count-own.ensures.count)
    ∙ sym c.start_fault.ensures in
    so_far-next (start_lines ss k) c.loop-i.i (length t.links) all c.loop-i.invariant (said ∙ c.in_default.is)

pub returns : goal.returns
returns c =
    let ss = c.args.switches.now in
    let k = c.args.k in
    let s : NamedRows = c.at.result.now in
    let t : Rows = c.tables-tables.result.now in
    let same : t ≡ s.rows = c.tables-tables.ensures.tables in
    let all = first_false (each_from (start_lines ss k) 0 (length t.links)) in
    let whole : first_false (starts_lines ss k) ≡ all =
    ap first_false (starts-at ss k s c.at.ensures)
    ∙ ap (λ (r : Rows). first_false (each_from (start_lines ss k) 0 (length r.links))) (sym same) in
    sym (whole ∙ so_far-end (start_lines ss k) c.loop-i.i (length t.links) all c.loop-i.invariant (omega arith))
