use Rattle.std.proofs.Common.{◌≡◌, ℕ, ◌≤◌, ◌+◌, ◌-◌, Some, slice_get, length, sym, ap, subst, ◌∙◌, arith}
use Rattle.afdx_config.specs.Rows.{Rows, system_row}
use Rattle.afdx_config.specs.Switches.{NamedRows, neighbour_lines, neighbours_lines, lines_of_neighbour}
use Rattle.afdx_frame.specs.Lines.{first_false, each_from}
use Rattle.afdx_frame.proofs.FirstFalseLemmas.{IsSoFar, so_far-start, so_far-next, so_far-found, so_far-end}
use Rattle.afdx_config.proofs.OverLemmas.{neighbours-at, neighbour-at}
use Rattle.afdx_config.proofs.over_all.neighbours_fault_at.Goals as goal

below : (own ends : ℕ) → own ≤ ends → own + (ends - own) ≡ ends
below own ends h = omega (arith, h)

pub loop-i-init : goal.loop-i-init
loop-i-init c =
    let ss = c.args.switches.now in
    let k = c.args.k in
    let s : NamedRows = c.at-switch.result.now in
    let t : Rows = c.tables-tables.result.now in
    let same : t ≡ s.rows = c.tables-tables.ensures.tables in
    subst (λ from. IsSoFar (neighbour_lines ss k) from (length t.systems)
    (first_false (each_from (neighbour_lines ss k) t.own (length t.systems - t.own))))
    (sym c.own_count-own.ensures.count)
    (so_far-start (neighbour_lines ss k) t.own (length t.systems - t.own) (length t.systems)
    (below t.own (length t.systems)
    (subst (λ (r : Rows). r.own ≤ length r.systems) (sym same) c.tables-tables.ensures.lawful.own)))

pub returns-in-Some : goal.returns-in-Some
returns-in-Some c =
    let ss = c.args.switches.now in
    let k = c.args.k in
    let s : NamedRows = c.at-switch.result.now in
    let t : Rows = c.tables-tables.result.now in
    let same : t ≡ s.rows = c.tables-tables.ensures.tables in
    let all = first_false (each_from (neighbour_lines ss k) t.own (length t.systems - t.own)) in
    let whole : first_false (neighbours_lines ss k) ≡ all =
    ap first_false (neighbours-at ss k s c.at-switch.ensures)
    ∙ ap (λ (r : Rows). first_false (each_from (neighbour_lines ss k) r.own (length r.systems - r.own))) (sym same) in
    let e = system_row c.system-neighbour.result.now in
    let row : slice_get s.rows.systems c.loop-i.i ≡ Some e =
    subst (λ (r : Rows). slice_get r.systems c.loop-i.i ≡ Some e) same c.system-neighbour.ensures.row in
    let said : first_false (neighbour_lines ss k c.loop-i.i) ≡ c.neighbour_fault.result =
    ap first_false (neighbour-at ss k s c.at-switch.ensures c.loop-i.i e row)
    ∙ ap (λ (r : Rows). first_false (lines_of_neighbour ss s.name k (c.loop-i.i - r.own + 1) e)) (sym same)
    ∙ ap (λ own. first_false (lines_of_neighbour ss s.name k (c.loop-i.i - own + 1) e))
    (sym c.own_count-own.ensures.count)
    ∙ ap (λ name. first_false (lines_of_neighbour ss name k (c.loop-i.i - c.own_count-own.result + 1) e))
    (sym c.name.ensures.name)
    ∙ sym c.neighbour_fault.ensures in
    sym (whole ∙ so_far-found (neighbour_lines ss k) c.loop-i.i
    (length t.systems) all c.in-Some.fault c.loop-i.invariant
    (omega arith) (said ∙ c.in-Some.is))

pub loop-i-preserved : goal.loop-i-preserved
loop-i-preserved c =
    let ss = c.args.switches.now in
    let k = c.args.k in
    let s : NamedRows = c.at-switch.result.now in
    let t : Rows = c.tables-tables.result.now in
    let same : t ≡ s.rows = c.tables-tables.ensures.tables in
    let all = first_false (each_from (neighbour_lines ss k) t.own (length t.systems - t.own)) in
    let e = system_row c.system-neighbour.result.now in
    let row : slice_get s.rows.systems c.loop-i.i ≡ Some e =
    subst (λ (r : Rows). slice_get r.systems c.loop-i.i ≡ Some e) same c.system-neighbour.ensures.row in
    let said : first_false (neighbour_lines ss k c.loop-i.i) ≡ c.neighbour_fault.result =
    ap first_false (neighbour-at ss k s c.at-switch.ensures c.loop-i.i e row)
    ∙ ap (λ (r : Rows). first_false (lines_of_neighbour ss s.name k (c.loop-i.i - r.own + 1) e)) (sym same)
    ∙ ap (λ own. first_false (lines_of_neighbour ss s.name k (c.loop-i.i - own + 1) e))
    (sym c.own_count-own.ensures.count)
    ∙ ap (λ name. first_false (lines_of_neighbour ss name k (c.loop-i.i - c.own_count-own.result + 1) e))
    (sym c.name.ensures.name)
    ∙ sym c.neighbour_fault.ensures in
    so_far-next (neighbour_lines ss k) c.loop-i.i (length t.systems) all c.loop-i.invariant (said ∙ c.in_default.is)

pub returns : goal.returns
returns c =
    let ss = c.args.switches.now in
    let k = c.args.k in
    let s : NamedRows = c.at-switch.result.now in
    let t : Rows = c.tables-tables.result.now in
    let same : t ≡ s.rows = c.tables-tables.ensures.tables in
    let all = first_false (each_from (neighbour_lines ss k) t.own (length t.systems - t.own)) in
    let whole : first_false (neighbours_lines ss k) ≡ all =
    ap first_false (neighbours-at ss k s c.at-switch.ensures)
    ∙ ap (λ (r : Rows). first_false (each_from (neighbour_lines ss k) r.own (length r.systems - r.own))) (sym same) in
    sym (whole ∙ so_far-end (neighbour_lines ss k) c.loop-i.i (length t.systems) all c.loop-i.invariant (omega arith))
