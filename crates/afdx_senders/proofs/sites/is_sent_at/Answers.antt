use Rattle.std.proofs.Common.{◌≡◌, sym, ◌∙◌, subst}
use Rattle.std.proofs.lemmas.Option.{same_Some}
use Rattle.std.specs.Prelude.{nat_eq}
use Rattle.afdx_config.specs.Rows.{LinkRow, link_row, system_row}
use Rattle.afdx_senders.specs.Sites.{is_sent_at}
use Rattle.afdx_senders.proofs.SiteLemmas.{heard_there, sent_own}
use Rattle.afdx_senders.proofs.sites.is_sent_at.Goals as goal

pub returns-then-is_own-clause-sent : goal.returns-then-is_own-clause-sent
returns-then-is_own-clause-sent c l at =
    let t = c.args.tables.now in
    let row : LinkRow = link_row c.link.result.now in
    let mine : row ≡ l = same_Some row l (sym c.link.ensures.row ∙ at) in
    subst (λ (r : LinkRow). nat_eq c.system.result.now.port c.args.port ≡ is_sent_at t r c.args.port) mine
    (sent_own t row (system_row c.system.result.now) c.args.port (sym c.is_own.ensures ∙ c.if-is_own.true)
    c.system.ensures.row)

pub returns-then-is_own-clause-heard : goal.returns-then-is_own-clause-heard
returns-then-is_own-clause-heard c here =
    let row : LinkRow = link_row c.link.result.now in
    heard_there c.args.tables.now row.from (system_row c.system.result.now) c.args.port
    (c.systems_listen.ensures c.args.tables.now c.link.ensures.lawful)
    (sym c.is_own.ensures ∙ c.if-is_own.true) c.system.ensures.row here
