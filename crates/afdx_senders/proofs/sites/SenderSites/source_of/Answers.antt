use Rattle.std.proofs.Common.{true, false, sym, ◌∙◌}
use Rattle.afdx_senders.specs.Sites.{among_of, recorded_in}
use Rattle.afdx_senders.proofs.SiteLemmas.{named_nothing, named_some, site_known, site_unknown}
use Rattle.afdx_senders.proofs.sites.SenderSites.source_of.Goals as goal

pub returns-in_default : goal.returns-in_default
returns-in_default c =
    let s = c.args.self.now in
    sym (named_nothing s.tables.now (among_of s) (recorded_in s.recorded) c.args.x.now c.in_default.is)

pub returns-then-not-has : goal.returns-then-not-has
returns-then-not-has c =
    let s = c.args.self.now in
    let x = c.args.x.now in
    sym (named_some s.tables.now (among_of s) (recorded_in s.recorded) x c.in-Some.vl false c.in-Some.is
    (site_unknown s.tables.now (recorded_in s.recorded) x.side x.port (sym c.has.ensures ∙ c.if-not-has.true)))

pub returns-then-is_heard : goal.returns-then-is_heard
returns-then-is_heard c =
    let s = c.args.self.now in
    let x = c.args.x.now in
    c.sent_by-whose.ensures.whose
    ∙ sym (named_some s.tables.now (among_of s) (recorded_in s.recorded) x c.in-Some.vl true c.in-Some.is
    (site_known s.tables.now (recorded_in s.recorded) x.side x.port true
    (sym c.if-is_heard.true ∙ c.is_heard.ensures c.sent_by-whose.ensures.heard)
    (sym c.has.ensures ∙ c.if-not-has.false)))

pub returns-else-is_heard : goal.returns-else-is_heard
returns-else-is_heard c =
    let s = c.args.self.now in
    let x = c.args.x.now in
    sym (named_some s.tables.now (among_of s) (recorded_in s.recorded) x c.in-Some.vl false c.in-Some.is
    (site_known s.tables.now (recorded_in s.recorded) x.side x.port false
    (sym c.if-is_heard.false ∙ c.is_heard.ensures c.sent_by-whose.ensures.heard)
    (sym c.has.ensures ∙ c.if-not-has.false)))
