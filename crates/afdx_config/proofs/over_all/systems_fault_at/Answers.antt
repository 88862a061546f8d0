use Rattle.std.proofs.Common.{◌≡◌, Some, slice_get, sym, ap, subst, ◌∙◌, arith}
use Rattle.afdx_config.specs.Rows.{Rows, system_row}
use Rattle.afdx_config.specs.Switches.{NamedRows, system_lines, systems_lines}
use Rattle.afdx_frame.specs.Lines.{first_false, each_from}
use Rattle.afdx_frame.proofs.FirstFalseLemmas.{so_far-start, so_far-next, so_far-found, so_far-end}
use Rattle.afdx_config.proofs.OverLemmas.{systems-at, system-at}
use Rattle.afdx_config.proofs.over_all.systems_fault_at.Goals as goal

pub loop-i-init : goal.loop-i-init
loop-i-init c =
    let ss = c.args.switches.now in
    let k = c.args.k in
    let s : NamedRows = c.at.result.now in
    let t : Rows = c.tables-tables.result.now in
    let same : t ≡ s.rows = c.tables-tables.ensures.tables in
    so_far-start (system_lines ss k) 0 t.own t.own (omega arith)

pub returns-in-Some : goal.returns-in-Some
returns-in-Some c =
    let ss = c.args.switches.now in
    let k = c.args.k in
    let s : NamedRows = c.at.result.now in
    let t : Rows = c.tables-tables.result.now in
    let same : t ≡ s.rows = c.tables-tables.ensures.tables in
    let all = first_false (each_from (system_lines ss k) 0 t.own) in
    let whole : first_false (systems_lines ss k) ≡ all =
    ap first_false (systems-at ss k s c.at.ensures)
    ∙ ap (λ (r : Rows). first_false (each_from (system_lines ss k) 0 r.own)) (sym same) in
    let e = system_row c.system-system.result.now in
    let row : slice_get s.rows.systems c.loop-i.i ≡ Some e =
    subst (λ (r : Rows). slice_get r.systems c.loop-i.i ≡ Some e) same c.system-system.ensures.row in
    let said : first_false (system_lines ss k c.loop-i.i) ≡ c.system_fault.result =
    ap first_false (system-at ss k s c.at.ensures c.loop-i.i e row) ∙ sym c.system_fault.ensures in
    sym (whole ∙ so_far-found (system_lines ss k) c.loop-i.i t.own all c.in-Some.fault c.loop-i.invariant
    (omega arith) (said ∙ c.in-Some.is))

pub loop-i-preserved : goal.loop-i-preserved
loop-i-preserved c =
    let ss = c.args.switches.now in
    let k = c.args.k in
    let s : NamedRows = c.at.result.now in
    let t : Rows = c.tables-tables.result.now in
    let same : t ≡ s.rows = c.tables-tables.ensures.tables in
    let all = first_false (each_from (system_lines ss k) 0 t.own) in
    let e = system_row c.system-system.result.now in
    let row : slice_get s.rows.systems c.loop-i.i ≡ Some e =
    subst (λ (r : Rows). slice_get r.systems c.loop-i.i ≡ Some e) same c.system-system.ensures.row in
    let said : first_false (system_lines ss k c.loop-i.i) ≡ c.system_fault.result =
    ap first_false (system-at ss k s c.at.ensures c.loop-i.i e row) ∙ sym c.system_fault.ensures in
    so_far-next (system_lines ss k) c.loop-i.i t.own all c.loop-i.invariant (said ∙ c.in_default.is)

pub returns : goal.returns
returns c =
    let ss = c.args.switches.now in
    let k = c.args.k in
    let s : NamedRows = c.at.result.now in
    let t : Rows = c.tables-tables.result.now in
    let same : t ≡ s.rows = c.tables-tables.ensures.tables in
    let all = first_false (each_from (system_lines ss k) 0 t.own) in
    let whole : first_false (systems_lines ss k) ≡ all =
    ap first_false (systems-at ss k s c.at.ensures)
    ∙ ap (λ (r : Rows). first_false (each_from (system_lines ss k) 0 r.own)) (sym same) in
    sym (whole ∙ so_far-end (system_lines ss k) c.loop-i.i t.own all c.loop-i.invariant (omega arith))
