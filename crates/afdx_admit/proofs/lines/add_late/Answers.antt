use Rattle.std.proofs.Common.{rules, ◌≡◌, ◌≤◌, ◌+◌, ◌++◌, ◌∷◌, [], ℕ, drop, length, map, sym, ap, subst, ◌∙◌, arith, Err}
use Rattle.std.proofs.Math.ListN.{drop_of_length-le}
use Rattle.std.proofs.lemmas.List.{append-nil}
use Rattle.afdx_config.specs.Rows.{LinkRow, link_row}
use Rattle.afdx_admit.specs.declared.fault.AdmitFault.{AdmitFault}
use Rattle.afdx_admit.specs.Late.{late_fault}
use Rattle.afdx_admit.specs.Lines.{Line, false_lines}
use Rattle.afdx_admit.specs.Walk.{Walks}
use Rattle.afdx_frame.proofs.FalseLinesLemmas.{false_lines-nil}
use Rattle.afdx_admit.proofs.FalseLinesLemmas.{row_line, class_lines, row_holds, row_fails, row_lines}
use Rattle.afdx_admit.proofs.WalkLemmas.{stopped_among}
use Rattle.afdx_admit.proofs.lines.add_late.Goals as goal
use Rattle.afdx_admit.proofs.lines.add_late.Goals.{then-is_late+in_ok-add, else-is_late}

pub returns-in_err-add : goal.returns-in_err-add
returns-in_err-add g c =
    let kept = c.args.kept.now in
    let system = c.args.system.0 in
    let links = c.args.tables.now.links in
    let old = g.C.Found.items c.args.found.now in
    let found = g.C.Found.items c.loop-i.found in
    let fault : ℕ → AdmitFault = late_fault kept.class kept.port kept.bound in
    let row = link_row c.link_at-link.result.now in
    let rest = false_lines (map (row_line system kept.class kept.wait kept.left fault) (drop (c.loop-i.i + 1) links)) in
    let all = class_lines system kept.class kept.wait kept.left fault links in
    let is : c.from_residual.result ≡ Err c.in_err-add.field-0.0 = search rules in
    subst (λ a. Walks g.C.Found.Stops old (g.C.Found.items c.add.new.self) all a) (sym is)
    (stopped_among g.C.Found.Stops old found c.fault.result rest (false_lines all) c.in_err-add.field-0.0
    (ap (λ f. (found ++ f ∷ []) ++ rest) c.fault.ensures
    ∙ row_fails system kept.class kept.wait kept.left fault links c.loop-i.i row c.link_at-link.ensures.row
    old found c.loop-i.invariant (sym c.is_late.ensures ∙ c.if-is_late.true)
    ∙ ap (λ fs. old ++ fs) (row_lines system kept.class kept.wait kept.left fault links))
    c.in_err-add.ensures.stopped)

pub loop-i-preserved : goal.loop-i-preserved
loop-i-preserved g c =
    let kept = c.args.kept.now in
    let system = c.args.system.0 in
    let links = c.args.tables.now.links in
    let old = g.C.Found.items c.args.found.now in
    let found = g.C.Found.items c.loop-i.found in
    let fault : ℕ → AdmitFault = late_fault kept.class kept.port kept.bound in
    let row = link_row c.link_at-link.result.now in
    let rest = false_lines (map (row_line system kept.class kept.wait kept.left fault) (drop (c.loop-i.i + 1) links)) in
    elim c.if-is_late.branch [
      | then-is_late+in_ok-add w ↦
          ap (λ v. g.C.Found.items v ++ rest) w.found-is
          ∙ ap (λ fs. fs ++ rest) (w.in_ok-add.ensures.added ∙ ap (λ f. found ++ f ∷ []) w.fault.ensures)
          ∙ row_fails system kept.class kept.wait kept.left fault links c.loop-i.i row c.link_at-link.ensures.row
          old found c.loop-i.invariant (sym c.is_late.ensures ∙ w.if-is_late.true)
      | else-is_late w ↦
          ap (λ v. g.C.Found.items v ++ rest) w.found-is
          ∙ row_holds system kept.class kept.wait kept.left fault links c.loop-i.i row c.link_at-link.ensures.row
          old found c.loop-i.invariant (sym c.is_late.ensures ∙ w.if-is_late.false)
    ]

pub returns : goal.returns
returns g c =
    let kept = c.args.kept.now in
    let system = c.args.system.0 in
    let links = c.args.tables.now.links in
    let old = g.C.Found.items c.args.found.now in
    let found = g.C.Found.items c.loop-i.found in
    let fault : ℕ → AdmitFault = late_fault kept.class kept.port kept.bound in
    let row : LinkRow → Line = row_line system kept.class kept.wait kept.left fault in
    let past : length links ≤ c.loop-i.i = omega arith in
    sym (append-nil found) ∙ ap (λ fs. found ++ fs) (sym false_lines-nil)
    ∙ ap (λ ls. found ++ false_lines (map row ls)) (sym (drop_of_length-le links past))
    ∙ c.loop-i.invariant
    ∙ ap (λ fs. old ++ fs) (row_lines system kept.class kept.wait kept.left fault links)
