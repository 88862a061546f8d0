use Rattle.std.proofs.Common.{ℕ, Some, get_or, ap, sym, ◌∙◌}
use Rattle.std.proofs.lemmas.Option.{slice_get-get_or}
use Rattle.afdx_config.specs.Rows.{LinkRow}
use Rattle.afdx_command_conform.specs.Sight.{sight_in}
use Rattle.afdx_command_conform.specs.Tapped.{is_heard_at, link_to}
use Rattle.afdx_command_conform.proofs.StrangerLemmas.{stranger-no, stranger-none, stranger-unheard}
use Rattle.afdx_command_conform.proofs.GivenLemmas.{blank}
use Rattle.afdx_command_conform.proofs.tapped.heard_outlet.Goals as goal

pub returns-then-is_heard-clause-strange : goal.returns-then-is_heard-clause-strange
returns-then-is_heard-clause-strange c x side port named =
    let t = c.args.tables.now in
    let sight = sight_in c.args.tables.now c.args.taps.now in
    let link : ℕ = c.in-Some.link in
    let l : LinkRow = get_or t.links link blank in
    let at = slice_get-get_or t.links link blank c.in-Some.ensures.link.1 in
    sym (stranger-no t sight x link l (sym named ∙ c.in-Some.ensures.link.0)
    (ap (λ p. link_to t link p) port ∙ (c.in-Some.ensures.to l at).0)
    (ap (λ d. is_heard_at t sight d (Some link)) side ∙ sym c.is_heard.ensures.at ∙ c.if-is_heard.true))

pub returns-else-is_heard-clause-strange : goal.returns-else-is_heard-clause-strange
returns-else-is_heard-clause-strange c x side port named =
    let t = c.args.tables.now in
    let sight = sight_in c.args.tables.now c.args.taps.now in
    sym (stranger-unheard t sight x c.in-Some.link (sym named ∙ c.in-Some.ensures.link.0)
    (ap (λ d. is_heard_at t sight d (Some c.in-Some.link)) side ∙ sym c.is_heard.ensures.at ∙ c.if-is_heard.false))

pub returns-in-None-clause-strange : goal.returns-in-None-clause-strange
returns-in-None-clause-strange c x side port named =
    sym (stranger-none c.args.tables.now (sight_in c.args.tables.now c.args.taps.now) x c.args.port c.args.named
    port (sym named)
    c.in-None.ensures.none)
