use Rattle.std.proofs.Common.{◌≡◌, false, sym, ◌∙◌, subst}
use Rattle.std.proofs.lemmas.Option.{same_Some}
use Rattle.afdx_config.specs.Rows.{LinkRow, link_row, system_row}
use Rattle.afdx_frame.specs.declared.link.Side.TheVariants.{B}
use Rattle.afdx_senders.specs.Sites.{recorded_in}
use Rattle.afdx_senders.specs.Terms.{is_paired}
use Rattle.afdx_senders.proofs.TermLemmas.{paired_if, unpaired_if}
use Rattle.afdx_senders.proofs.sites.SenderSites.is_paired.Goals as goal

pub returns-then-has : goal.returns-then-has
returns-then-has c l at =
    let t = c.args.self.now.tables.now in
    let seen = recorded_in c.args.self.now.recorded in
    let row : LinkRow = link_row c.link.result.now in
    let mine : row ≡ l = same_Some row l (sym c.link.ensures.row ∙ at) in
    c.has-then-has.ensures
    ∙ subst (λ (r : LinkRow). seen B c.system.result.now.port ≡ is_paired t seen r) mine
    (paired_if t seen row (system_row c.system.result.now) c.system.ensures.row (sym c.has.ensures ∙ c.if-has.true))

pub returns-else-has : goal.returns-else-has
returns-else-has c l at =
    let t = c.args.self.now.tables.now in
    let seen = recorded_in c.args.self.now.recorded in
    let row : LinkRow = link_row c.link.result.now in
    let mine : row ≡ l = same_Some row l (sym c.link.ensures.row ∙ at) in
    c.if-has.false
    ∙ subst (λ (r : LinkRow). false ≡ is_paired t seen r) mine
    (unpaired_if t seen row (system_row c.system.result.now) c.system.ensures.row (sym c.has.ensures ∙ c.if-has.false))
