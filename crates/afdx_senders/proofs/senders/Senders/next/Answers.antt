use Rattle.std.proofs.Common.{ap, arith, sym, subst}
use Rattle.afdx_config.specs.Rows.{Rows}
use Rattle.afdx_senders.specs.Lines.{AddsLines}
use Rattle.afdx_senders.specs.Settling.{AreSources, Settled, lines_told}
use Rattle.afdx_senders.specs.declared.senders.Senders.{Senders}
use Rattle.afdx_senders.proofs.BegunLemmas.{has_begun}
use Rattle.afdx_senders.proofs.FollowedLemmas.{if_none}
use Rattle.afdx_senders.proofs.HistoryLemmas.{always_err, is_settled, tells_next}
use Rattle.afdx_senders.proofs.OwnLemmas.{all_sources}
use Rattle.afdx_senders.proofs.SettlingLemmas.{takes_of}
use Rattle.afdx_senders.proofs.senders.Senders.next.Goals as goal

pub returns-clause-told : goal.returns-clause-told
returns-clause-told c z by xs told h later ends =
    let t = c.args.self.now.sites.tables.now in
    let mid = c.settle.new.self in
    let end = c.take_line.new.self in
    let line = c.take_line.result in
    let taken = c.take_line.ensures in
    let is = h.setup.tables in
    let sources = subst (λ (r : Rows). AreSources r z.asked.until h.at) (sym is) (all_sources z xs h.at h.own) in
    let far = c.in_ok-settle.ensures.settled h.at z.asked.until h.stand sources ends in
    let settled = subst (λ (r : Rows). Settled r c.args.before h.at far.0 mid) is far.1 in
    let adds = subst (λ (r : Rows). AddsLines (lines_told r far.0) c.args.self.now.found mid.found) is far.2 in
    let then_told = is_settled z by c.args.before xs told c.args.self.now mid h later far.0 settled adds
    c.in_ok-settle.ensures.sites c.in_ok-settle.ensures.room in
    tells_next z c.args.before xs told mid end then_told taken.sites taken.room taken.stands
    line
    (takes_of c.args.before mid.found end.found line taken.first taken.in_time taken.rest taken.none
    (if_none (λ same. ap (λ (x : Senders). x.found) same) line taken.same)) taken.numbers

pub returns-in_err-settle-clause-refused : goal.returns-in_err-settle-clause-refused
returns-in_err-settle-clause-refused c z by xs told h =
    always_err (has_begun z by xs told _ h.lines) c.from_residual.result

pub returns-clause-less : goal.returns-clause-less
returns-clause-less c z by xs told h later ends some =
    let sources = subst (λ (r : Rows). AreSources r z.asked.until h.at) (sym h.setup.tables)
    (all_sources z xs h.at h.own) in
    let no_more = c.in_ok-settle.ensures.left h.at z.asked.until h.stand sources ends in
    let less = c.take_line.ensures.less some in omega (arith, no_more, less)
