use Rattle.std.proofs.Common.{sym, subst}
use Rattle.afdx_cascade.specs.Turning.{AreInTransit}
use Rattle.afdx_cascade.proofs.taking.turn_next.Goals as goal
use Rattle.afdx_cascade.proofs.KeepLemmas.{turn-keeps}
use Rattle.afdx_cascade.proofs.TurningLemmas.{on-err}
use Rattle.afdx_cascade.proofs.EndLemmas.{ring-end, ring-by, ring-late, all-done}
use Rattle.afdx_cascade.proofs.FirstTurnLemmas.{first-given}
use Rattle.afdx_cascade.proofs.NextLemmas.{first-within, time-by, turn-lacks, until-more, quiet-end, quiet-by}

pub turn_at-requires-clause-within : goal.turn_at-requires-clause-within
turn_at-requires-clause-within c =
    let s = c.requires.sound in
    first-within s.0 c.args.networks.now s.1 s.2 s.3 c.args.first c.given_at-at.result s.4 c.requires.first
    c.if-first-ge-ORDER_WITHOUT_TURN.false c.given_at-at.ensures.low c.given_at-at.ensures.high

pub turn_at-requires-clause-clock : goal.turn_at-requires-clause-clock
turn_at-requires-clause-clock c k n at =
    let s = c.requires.sound in
    until-more n s.1 c.given_at-at.result
    (time-by s.0 c.args.networks.now s.1 s.2 s.3 c.args.first c.given_at-at.result s.4 c.requires.first
    c.if-first-ge-ORDER_WITHOUT_TURN.false c.given_at-at.ensures.low c.given_at-at.ensures.high)
    (s.4.clock k n at)

pub turn_at-requires-clause-first : goal.turn_at-requires-clause-first
turn_at-requires-clause-first c n here =
    first-given c.args.networks.now c.args.first c.given_at-at.result c.requires.first
    c.if-first-ge-ORDER_WITHOUT_TURN.false c.given_at-at.ensures.low n here

pub returns-clause-turns : goal.returns-clause-turns
returns-clause-turns c p time ring so_far keeps early ends transit = record {
  at = c.given_at-at.result;
  in_time = c.if-at-until.false;
  is = turn-keeps p so_far c.args.networks.now c.turn_at.new.networks c.turn_at.new.transit.items time
      c.given_at-at.result ring c.args.first c.turn_at.result keeps c.requires.first
      c.if-first-ge-ORDER_WITHOUT_TURN.false early c.given_at-at.ensures.low c.given_at-at.ensures.high
      (c.turn_at.ensures.gives p time ring so_far keeps.plan ends keeps.stands
      (subst (λ w. AreInTransit p w ring) (sym c.in_ok-try_reserve.ensures.items) transit))
      c.turn_at.ensures.length c.turn_at.ensures.clock;
}

pub returns-in_err-try_reserve-clause-judged : goal.returns-in_err-try_reserve-clause-judged
returns-in_err-try_reserve-clause-judged c p time ring so_far keeps early =
    on-err c.from_residual.result _
    (turn-lacks p c.args.networks.now time ring so_far c.args.first c.given_at-at.result keeps c.requires.first
    c.if-first-ge-ORDER_WITHOUT_TURN.false c.given_at-at.ensures.low c.given_at-at.ensures.high c.args.until
    c.if-at-until.false early)

pub returns-then-first-ge-ORDER_WITHOUT_TURN-clause-quiet : goal.returns-then-first-ge-ORDER_WITHOUT_TURN-clause-quiet
returns-then-first-ge-ORDER_WITHOUT_TURN-clause-quiet c k n here =
    quiet-end c.args.networks.now c.args.first c.args.until c.requires.first
    c.if-first-ge-ORDER_WITHOUT_TURN.true k n here

pub returns-then-at-until-clause-quiet : goal.returns-then-at-until-clause-quiet
returns-then-at-until-clause-quiet c k n here =
    quiet-by c.args.networks.now c.args.first c.args.until c.given_at-at.result c.requires.first
    c.if-at-until.true c.given_at-at.ensures.high k n here

pub returns-then-first-ge-ORDER_WITHOUT_TURN-clause-empty : goal.returns-then-first-ge-ORDER_WITHOUT_TURN-clause-empty
returns-then-first-ge-ORDER_WITHOUT_TURN-clause-empty c p time ring so_far keeps early by =
    ring-end p c.args.networks.now time ring so_far keeps c.args.first.order
    c.if-first-ge-ORDER_WITHOUT_TURN.true early

pub returns-then-at-until-clause-empty : goal.returns-then-at-until-clause-empty
returns-then-at-until-clause-empty c p time ring so_far keeps early by =
    ring-by p c.args.networks.now time ring so_far keeps c.args.first.order c.given_at-at.result
    c.args.until c.if-at-until.true c.given_at-at.ensures.high by early

pub returns-then-first-ge-ORDER_WITHOUT_TURN-clause-all_done
    : goal.returns-then-first-ge-ORDER_WITHOUT_TURN-clause-all_done
returns-then-first-ge-ORDER_WITHOUT_TURN-clause-all_done c p time ring so_far keeps early late =
    all-done p c.args.networks.now time c.args.until ring so_far c.args.first keeps c.requires.first
    (ring-end p c.args.networks.now time ring so_far keeps c.args.first.order
    c.if-first-ge-ORDER_WITHOUT_TURN.true early) late
    (λ k n here. quiet-end c.args.networks.now c.args.first c.args.until c.requires.first
    c.if-first-ge-ORDER_WITHOUT_TURN.true k n here)

pub returns-then-at-until-clause-all_done : goal.returns-then-at-until-clause-all_done
returns-then-at-until-clause-all_done c p time ring so_far keeps early late =
    all-done p c.args.networks.now time c.args.until ring so_far c.args.first keeps c.requires.first
    (ring-late p c.args.networks.now time ring so_far keeps c.args.first.order
    c.given_at-at.result c.args.until c.if-at-until.true c.given_at-at.ensures.high late early) late
    (λ k n here. quiet-by c.args.networks.now c.args.first c.args.until c.given_at-at.result
    c.requires.first c.if-at-until.true c.given_at-at.ensures.high k n here)
