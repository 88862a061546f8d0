use Rattle.std.proofs.Common.{◌≡◌, sym, ap, ◌∙◌}
use Rattle.std.proofs.lemmas.Option.{same_Some}
use Rattle.afdx_config.specs.Rows.{LinkRow, link_row, system_row}
use Rattle.afdx_senders.specs.Sites.{recorded_in}
use Rattle.afdx_senders.specs.Terms.{id_of, terms_at}
use Rattle.afdx_senders.proofs.TermLemmas.{id_is}
use Rattle.afdx_senders.proofs.sites.SenderSites.source.Goals as goal

pub returns : goal.returns
returns c k l at leeway apart =
    let t = c.args.self.now.tables.now in
    let row : LinkRow = link_row c.link.result.now in
    let mine : row ≡ l = same_Some row l (sym c.link.ensures.row ∙ at) in
    c.new.ensures (terms_at t (recorded_in c.args.self.now.recorded) k c.args.place l) (record {
      of_rule = sym (c.rule_at-rule.ensures l at);
      from = ap (λ (r : LinkRow). id_of t r.from) (sym mine)
          ∙ id_is t row.from (system_row c.system.result.now) c.system.ensures.row;
      leeway = sym leeway;
      copies = apart;
      sides = sym (c.is_paired-is_paired.ensures l at);
    })
