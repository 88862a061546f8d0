use Rattle.std.proofs.Common.{true, false, get_or, sym, ◌∙◌}
use Rattle.std.proofs.lemmas.Option.{slice_get-get_or}
use Rattle.afdx_config.specs.Rows.{LinkRow, example_link}
use Rattle.afdx_senders.specs.Sites.{among_of}
use Rattle.afdx_senders.proofs.SiteLemmas.{beyond_is_none, sent_at, sent_nowhere}
use Rattle.afdx_senders.proofs.sites.SenderSites.sent_by.Goals as goal

pub returns-then-is_sent_at-clause-whose : goal.returns-then-is_sent_at-clause-whose
returns-then-is_sent_at-clause-whose c =
    let t = c.args.self.now.tables.now in
    let among = among_of c.args.self.now in
    let l : LinkRow = get_or t.links c.in-Some.place example_link in
    let at = slice_get-get_or t.links c.in-Some.place example_link c.in-Some.ensures.known in
    sym (sent_at t among c.args.port c.args.vl c.in-Some.place l true (sym c.in-Some.ensures.place) at
    (sym (c.is_sent_at.ensures.sent l at) ∙ c.if-is_sent_at.true))

pub returns-else-is_sent_at-clause-whose : goal.returns-else-is_sent_at-clause-whose
returns-else-is_sent_at-clause-whose c =
    let t = c.args.self.now.tables.now in
    let among = among_of c.args.self.now in
    let l : LinkRow = get_or t.links c.in-Some.place example_link in
    let at = slice_get-get_or t.links c.in-Some.place example_link c.in-Some.ensures.known in
    sym (sent_at t among c.args.port c.args.vl c.in-Some.place l false (sym c.in-Some.ensures.place) at
    (sym (c.is_sent_at.ensures.sent l at) ∙ c.if-is_sent_at.false))

pub returns-in-None-clause-whose : goal.returns-in-None-clause-whose
returns-in-None-clause-whose c =
    let s = c.args.self.now in
    c.sent_beyond.ensures
    ∙ sym (sent_nowhere s.tables.now (among_of s) c.args.port c.args.vl (sym c.in-None.ensures.place))

pub returns-then-is_sent_at-clause-heard : goal.returns-then-is_sent_at-clause-heard
returns-then-is_sent_at-clause-heard c place is = c.is_sent_at.ensures.heard c.if-is_sent_at.true

pub returns-in-None-clause-heard : goal.returns-in-None-clause-heard
returns-in-None-clause-heard c place is =
    absurd (beyond_is_none (among_of c.args.self.now) c.args.vl.0 place (sym c.sent_beyond.ensures ∙ is))
