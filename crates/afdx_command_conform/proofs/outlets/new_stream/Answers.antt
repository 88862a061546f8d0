use Rattle.std.proofs.Common.{◌≡◌, ◌*◌, get_or, sym, ap, ◌∙◌}
use Rattle.std.proofs.lemmas.Option.{same_Some, slice_get-get_or}
use Rattle.afdx_config.specs.Rows.{LinkRow, link_row}
use Rattle.afdx_command_conform.specs.Frames.{terms_at}
use Rattle.afdx_command_conform.specs.Sight.{Sight}
use Rattle.afdx_command_conform.proofs.KeyLemmas.{no-system}
use Rattle.afdx_command_conform.proofs.OutletLemmas.{byte-same}
use Rattle.afdx_command_conform.proofs.outlets.new_stream.Goals as goal

pub returns-clause-stands : goal.returns-clause-stands
returns-clause-stands c c' until time port l at there ruled =
    let t = c.args.rules.now.tables.now in
    let s = c.args.outlet.system.0 in
    let row : LinkRow = link_row c.link.result.now in
    let is : row ≡ l = same_Some row l (sym c.link.ensures.row ∙ at) in
    let here = slice_get-get_or t.systems s no-system c.requires.system in
    c.new.ensures.stands (terms_at t c' until l port) time
    (ap (λ (o : Sight). o.rule l) (sym ruled.sight) ∙ sym (c.rule_at-rule.ensures l at))
    (ap (λ (o : Sight). o.latency_ns l port) (sym ruled.sight)
    ∙ ap (λ (x : LinkRow). 1000 * x.latency_us) (sym is))
    (ap (λ (o : Sight). o.byte_ns l port) (sym ruled.sight)
    ∙ byte-same t s port (get_or t.systems s no-system) c.byte_ns-byte_ns.result c.link.ensures.lawful here there
    (c.byte_ns-byte_ns.ensures.time (get_or t.systems s no-system) here)) (sym ruled.by)
