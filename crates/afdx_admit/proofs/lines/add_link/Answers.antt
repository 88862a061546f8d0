use Rattle.std.proofs.Common.{rules, ◌≡◌, ◌∷◌, [], Some, slice_index, slice_get, sym, ap, subst, ◌∙◌, nat_le, ℕ}
use Rattle.std.specs.Option.{option_map_or}
use Rattle.afdx_config.specs.Rows.{Rows, LinkRow, link_row}
use Rattle.afdx_admit.specs.declared.fault.AdmitFault.TheVariants.{LinkJitter, Skew}
use Rattle.afdx_admit.specs.Lines.{Line, allows_jitter, line, link_lines, lines_of_link, jitter_at}
use Rattle.afdx_admit.specs.Walk.{Walks}
use Rattle.afdx_frame.proofs.FalseLinesLemmas.{none_added}
use Rattle.afdx_admit.proofs.WalkLemmas.{walks_on, walks_stop}
use Rattle.afdx_admit.proofs.lines.add_link.Goals as goal

abbrev jitter_line : Rows → LinkRow → Line
jitter_line t l = line (allows_jitter t (jitter_at t l.from) l) (LinkJitter (record { 0 = l.vl }) (jitter_at t l.from))

abbrev skew_line : LinkRow → Line
skew_line l = line (nat_le l.latency_us l.skew_us) (Skew (record { 0 = l.vl }))

-- the lines that are asked are those of the link at the place
both : (t : Rows) (place needed : ℕ) (l : LinkRow) → slice_get t.links place ≡ Some l → needed ≡ jitter_at t l.from →
    line (allows_jitter t needed l) (LinkJitter (record { 0 = l.vl }) needed) ∷ skew_line l ∷ [] ≡ link_lines t place
unfolding link_lines
both t place needed l at same =
    ap (λ n. line (allows_jitter t n l) (LinkJitter (record { 0 = l.vl }) n) ∷ skew_line l ∷ []) same
    ∙ sym (ap (λ o. option_map_or (lines_of_link t) o []) at)

pub returns-in_err-add_if_false : goal.returns-in_err-add_if_false
returns-in_err-add_if_false g c =
    let t = c.args.tables.now in
    let l = link_row c.link-link.result.now in
    let needed = slice_index c.args.jitters.now l.from in
    let old = g.C.Found.items c.args.found.now in
    let jitter : Line = line c.allows_jitter-holds.result (LinkJitter (record { 0 = l.vl }) needed) in
    subst (λ ls. Walks g.C.Found.Stops old (g.C.Found.items c.add_if_false.new.found) ls c.from_residual.result)
    (ap (λ b. line b (LinkJitter (record { 0 = l.vl }) needed) ∷ skew_line l ∷ []) c.allows_jitter-holds.ensures
    ∙ both t c.args.index needed l c.link-link.ensures.row
    (c.requires.jitters.each l.from c.link-link.ensures.lawful_row.from))
    (walks_stop g.C.Found.Stops old old _ [] (jitter ∷ []) (skew_line l ∷ []) c.in_err-add_if_false.field-0.0 _
    (search rules) (none_added old) c.in_err-add_if_false.ensures)

pub returns : goal.returns
returns g c =
    let t = c.args.tables.now in
    let l = link_row c.link-link.result.now in
    let needed = slice_index c.args.jitters.now l.from in
    let old = g.C.Found.items c.args.found.now in
    let one = g.C.Found.items c.add_if_false.new.found in
    let jitter : Line = line c.allows_jitter-holds.result (LinkJitter (record { 0 = l.vl }) needed) in
    subst (λ ls. Walks g.C.Found.Stops old (g.C.Found.items c.add_if_false-2.new.found) ls c.add_if_false-2.result)
    (ap (λ b. line b (LinkJitter (record { 0 = l.vl }) needed) ∷ skew_line l ∷ []) c.allows_jitter-holds.ensures
    ∙ both t c.args.index needed l c.link-link.ensures.row
    (c.requires.jitters.each l.from c.link-link.ensures.lawful_row.from))
    (walks_on g.C.Found.Stops old one _ (jitter ∷ []) (skew_line l ∷ []) c.add_if_false-2.result
    c.in_ok-add_if_false.ensures c.add_if_false-2.ensures)
