use Rattle.std.proofs.Common.{◌≡◌, arith, sym, ◌∙◌, subst}
use Rattle.std.proofs.lemmas.Option.{same_Some, slice_get_within}
use Rattle.afdx_config.specs.Rows.{LinkRow, link_row, system_row}
use Rattle.afdx_law_bounds.specs.Tables.{port_of}
use Rattle.afdx_senders.proofs.TermLemmas.{port_is}
use Rattle.afdx_senders.proofs.sites.SenderSites.port_of.Goals as goal

pub returns : goal.returns
returns c l at =
    let t = c.args.self.now.tables.now in
    let row : LinkRow = link_row c.link.result.now in
    let mine : row ≡ l = same_Some row l (sym c.link.ensures.row ∙ at) in
    subst (λ (r : LinkRow). c.system.result.now.port ≡ port_of t r.from) mine
    (sym (port_is t row.from (system_row c.system.result.now) c.system.ensures.row))

pub returns-then-place-link_count : goal.returns-then-place-link_count
returns-then-place-link_count c l at =
    let within = slice_get_within c.args.self.now.tables.now.links c.args.place l at in
    let past = c.if-place-link_count.true in
    let count = c.link_count.ensures.count in
    absurd (omega (arith, within, past, count))
