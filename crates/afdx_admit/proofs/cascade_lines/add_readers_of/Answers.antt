use Rattle.std.proofs.Common.{rules, ◌<◌, ◌+◌, ◌++◌, drop, length, sym, ap, ◌∙◌, append_assoc, arith}
use Rattle.std.proofs.lemmas.List.{append-nil}
use Rattle.afdx_config.specs.Rows.{link_row}
use Rattle.afdx_config.specs.Switches.{named_rows}
use Rattle.afdx_frame.specs.Lines.{false_lines}
use Rattle.afdx_frame.proofs.FalseLinesLemmas.{false_lines-nil}
use Rattle.afdx_frame.proofs.ListLemmas.{AllByRecursion-slice_get}
use Rattle.afdx_admit.specs.Cascade.{lines_of_readers}
use Rattle.afdx_admit.proofs.ReadersLemmas.{place-at, no-place-past, lines_to, false-read, false-unread}
use Rattle.afdx_admit.proofs.WalkLemmas.{stopped_among, walks_end}
use Rattle.afdx_admit.proofs.cascade_lines.add_readers_of.Goals as goal
use Rattle.afdx_admit.proofs.cascade_lines.add_readers_of.Goals.{then-is_unread+in_ok-add, else-is_unread}

pub is_unread-requires : goal.is_unread-requires
is_unread-requires g c =
    let row = link_row c.args.link.now in
    let i = c.loop-place.place-index in
    let at = place-at c.deref-place-items.result.now c.args.link.now.to.items i (record { 0 = 0 })
    c.deref-place-items.ensures.value (omega arith) in
    AllByRecursion-slice_get (λ n. n < length c.args.tables.now.systems) row.to i _ c.requires.to at

pub returns-in_err-add : goal.returns-in_err-add
returns-in_err-add g c =
    let ss = c.args.switches.now in
    let k = c.args.switch.0 in
    let row = link_row c.args.link.now in
    let s = named_rows c.args.name.now c.args.tables.now in
    let i = c.loop-place.place-index in
    let old = g.C.Found.items c.args.found.now in
    let found = g.C.Found.items c.loop-place.found in
    let rest = false_lines (lines_to ss k s row (drop (i + 1) row.to)) in
    let stop = c.in_err-add.field-0.0 in
    let at = place-at c.deref-place-items.result.now c.args.link.now.to.items i (record { 0 = 0 })
    c.deref-place-items.ensures.value (omega arith) in
    walks_end g.C.Found.Stops old _ (lines_of_readers ss k s row) stop _ (search rules)
    (stopped_among g.C.Found.Stops old found _ rest (false_lines (lines_of_readers ss k s row)) stop
    (append_assoc found _ rest
    ∙ ap (λ fs. found ++ fs)
    (sym (false-unread ss k s row row.to i _ at (sym c.is_unread.ensures ∙ c.if-is_unread.true)))
    ∙ c.loop-place.invariant)
    c.in_err-add.ensures.stopped)

pub loop-place-preserved : goal.loop-place-preserved
loop-place-preserved g c =
    let ss = c.args.switches.now in
    let k = c.args.switch.0 in
    let row = link_row c.args.link.now in
    let s = named_rows c.args.name.now c.args.tables.now in
    let i = c.loop-place.place-index in
    let found = g.C.Found.items c.loop-place.found in
    let rest = false_lines (lines_to ss k s row (drop (i + 1) row.to)) in
    let at = place-at c.deref-place-items.result.now c.args.link.now.to.items i (record { 0 = 0 })
    c.deref-place-items.ensures.value (omega arith) in
    elim c.if-is_unread.branch [
      | then-is_unread+in_ok-add w ↦
          ap (λ v. g.C.Found.items v ++ rest) w.found-is
          ∙ ap (λ fs. fs ++ rest) w.in_ok-add.ensures.added
          ∙ append_assoc found _ rest
          ∙ ap (λ fs. found ++ fs)
          (sym (false-unread ss k s row row.to i _ at (sym c.is_unread.ensures ∙ w.if-is_unread.true)))
          ∙ c.loop-place.invariant
      | else-is_unread w ↦
          ap (λ v. g.C.Found.items v ++ rest) w.found-is
          ∙ ap (λ fs. found ++ fs)
          (sym (false-read ss k s row row.to i _ at (sym c.is_unread.ensures ∙ w.if-is_unread.false)))
          ∙ c.loop-place.invariant
    ]

pub returns : goal.returns
returns g c =
    let row = link_row c.args.link.now in
    let s = named_rows c.args.name.now c.args.tables.now in
    let found = g.C.Found.items c.loop-place.found in
    let past = no-place-past c.deref-place-items.result.now c.args.link.now.to.items c.loop-place.place-index
    c.deref-place-items.ensures.value (omega arith) in
    sym (append-nil found) ∙ ap (λ fs. found ++ fs) (sym false_lines-nil)
    ∙ ap (λ places. found ++ false_lines (lines_to c.args.switches.now c.args.switch.0 s row places)) (sym past)
    ∙ c.loop-place.invariant
