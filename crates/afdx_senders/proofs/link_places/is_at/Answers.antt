use Rattle.std.proofs.Common.{rules, ◌≡◌, ℕ, Some, subst}
use Rattle.afdx_config.specs.Reading.{link_of}
use Rattle.afdx_config.specs.Rows.{LinkRow, link_row}
use Rattle.afdx_senders.proofs.link_places.is_at.Goals as goal

pub returns-clause-found : goal.returns-clause-found
returns-clause-found c same =
    let links = c.args.tables.now.links in
    let row : LinkRow = link_row c.link-link.result.now in
    let found : link_of links row.vl ≡ Some c.args.place =
    (c.each_row_is_found.ensures c.args.tables.now c.link-link.ensures.lawful).by_vl c.args.place row
    c.link-link.ensures.row in
    let is : row.vl ≡ c.args.vl.0 = search (rules, same) in
    subst (λ (vl : ℕ). link_of links vl ≡ Some c.args.place) is found
