-- It joins those in the queue, or those that came late.
use Rattle.std.proofs.Common.{arith}
use Rattle.afdx_input_sources.specs.Holding.{arrival_item, rank}
use Rattle.afdx_input_sources.proofs.HoldingLemmas.{behind-more, behind-push, put-late, queued, rising-push}
use Rattle.afdx_input_sources.proofs.held.HeldArrivals.hold.Goals as goal

pub returns-in_ok-push_back : goal.returns-in_ok-push_back
returns-in_ok-push_back c =
    rw (← c.self.view_is, c.in_ok-push_back.ensures.items, c.in_ok-arrival.ensures)
    (queued c.self.inside.queue.items c.self.inside.late.data.items
    (arrival_item c.args.number c.args.found c.args.bytes.now))

pub returns-in_ok-push : goal.returns-in_ok-push
returns-in_ok-push c =
    rw (← c.self.view_is, ← c.in_ok-arrival.ensures)
    (put-late c.self.inside.queue.items c.self.inside.late.data.items c.push.new.self.data.items
    c.in_ok-arrival.arrival c.in_ok-push.ensures.permutation)

pub invariant_of-self : goal.invariant_of-self
invariant_of-self c =
    let queue = c.self.inside.queue.items in
    let x = c.in_ok-arrival.arrival in
    let same = c.rank-rank.ensures in
    let le = c.if-self-rank.true in
    let behind = behind-more queue c.self.inside.newest (rank x) (omega (arith, le, same)) c.self.invariant.2 in
    rw (c.in_ok-push_back.ensures.items, same) (
      rising-push queue x c.self.invariant.0 behind,
      c.self.invariant.1,
      behind-push queue x behind,
    )
