-- No frame leaves a port sooner than it can.
use Rattle.std.proofs.Common.{◌≡◌, ℕ, ◌+◌, ◌*◌, List, [], ◌∷◌, length, sym, ap, ◌∙◌, subst, arith, inl, inr}
use Rattle.std.specs.Prelude.{slice_get, Some, ◌⊎◌}
use Rattle.std.specs.List.{AllByRecursion}
use Rattle.afdx_frame.specs.Regulation.{wire_of}
use Rattle.afdx_frame.specs.declared.link.Side.{Side}
use Rattle.afdx_config.specs.Rows.{Rows}
use Rattle.afdx_police.specs.Arrival.{Arrival}
use Rattle.afdx_port.specs.Schedule.{Entry, Turn, IsNext, lasting}
use Rattle.afdx_law_bounds.specs.Outputs.{AreTimed}
use Rattle.afdx_switch.specs.HeldFrames.{HeldFrame}
use Rattle.afdx_switch.specs.Tables.{byte_ns_at, entries_at, carried}
use Rattle.afdx_switch.proofs.LawLemmas.{entry-from}
use Rattle.afdx_network.specs.Events.{Left, Departure, departure_with, admissions, departures, departures_of, turns_at, all_events}
use Rattle.afdx_network.specs.Order.{IsAmong}
use Rattle.afdx_network.proofs.EventLemmas.{at-port-of, is-either}
use Rattle.afdx_law_promises.specs.NoSooner.{EndsNoSooner, NoneEndsTooSoon, NoneLeavesTooSoon, NoneLeavesTooSoonSoFar}
use Rattle.afdx_law_promises.proofs.EventLemmas.{no-left}
use Rattle.afdx_law_promises.proofs.PortLemmas.{its-turns}

-- what a port holds of a frame has the frame's length
length-kept : (t : Rows) (side : Side) (port : ℕ) (arrivals : List Arrival) (i : ℕ)
    (e : Entry HeldFrame) → slice_get (entries_at t side port arrivals) i ≡ Some e
    → e.bytes ≡ length e.item.bytes
unfolding carried
length-kept t side port arrivals i e at =
    let from = entry-from t side port arrivals i e at in
    ap (λ (d : Entry HeldFrame). d.bytes) from.is
    ∙ sym (ap (λ (d : Entry HeldFrame). length d.item.bytes) from.is)

ends-no-sooner : (byte_ns : ℕ) (entries : List (Entry HeldFrame)) (earlier : List (Turn HeldFrame))
    (s : Turn HeldFrame) → IsNext byte_ns entries earlier s → s.entry.bytes ≡ length s.entry.item.bytes
    → EndsNoSooner byte_ns s
ends-no-sooner byte_ns entries earlier s next kept slot =
    let lasts : s.end ≡ s.moment + wire_of (length s.entry.item.bytes) * byte_ns =
    next.lasts ∙ ap (λ b. s.moment + lasting byte_ns b s.entry.bytes) slot
    ∙ ap (λ n. s.moment + wire_of n * byte_ns) kept in
    let come = next.come in
    omega (arith, lasts, come)

pub none-ends-too-soon : NoneEndsTooSoon
none-ends-too-soon t arrivals side port [] are = tt
none-ends-too-soon t arrivals side port (s ∷ earlier) are = (
  ends-no-sooner (byte_ns_at t port) (entries_at t side port arrivals) earlier s are.0
      (length-kept t side port arrivals s.place s.entry are.0.own.stands),
  none-ends-too-soon t arrivals side port earlier are.1,
)

-- ---- the departures

one-no-sooner : (t : Rows) (side : Side) (port : ℕ) (d : Departure) (turns : List (Turn HeldFrame))
    → AllByRecursion (EndsNoSooner (byte_ns_at t port)) turns
    → IsAmong (Left d) (departures_of side port turns) → EndsNoSooner (byte_ns_at t d.port) d.turn
one-no-sooner t side port d [] all h = absurd h
one-no-sooner t side port d (s ∷ earlier) all (inl same) =
    let is : d ≡ departure_with side port (length earlier) s = cc same in
    subst (λ (e : Departure). EndsNoSooner (byte_ns_at t e.port) e.turn) (sym is) all.0
one-no-sooner t side port d (s ∷ earlier) all (inr rest) =
    one-no-sooner t side port d earlier all.1 rest

pub departs-no-sooner : (t : Rows) (arrivals : List Arrival) (d : Departure) → AreTimed arrivals
    → IsAmong (Left d) (all_events t arrivals) → EndsNoSooner (byte_ns_at t d.port) d.turn
departs-no-sooner t arrivals d timed h = by (is-either t arrivals (Left d) h)
  where
    by : IsAmong (Left d) (admissions t arrivals)
        ⊎ ((side : Side) × IsAmong (Left d) (departures t side arrivals))
        → EndsNoSooner (byte_ns_at t d.port) d.turn
    by (inl own) = absurd (no-left t arrivals d own)
    by (inr left) =
        let at = at-port-of t left.0 arrivals (Left d) left.1 in
        let turns = turns_at t left.0 at.port arrivals in
        one-no-sooner t left.0 at.port d turns
        (none-ends-too-soon t arrivals left.0 at.port turns
        (its-turns t left.0 at.port arrivals timed).each_next) at.among

pub none-leaves-too-soon : NoneLeavesTooSoon
none-leaves-too-soon t arrivals events timed are d h =
    departs-no-sooner t arrivals d timed (are.own (Left d) h)

pub none-leaves-too-soon-so-far : NoneLeavesTooSoonSoFar
none-leaves-too-soon-so-far t arrivals events timed are d h =
    departs-no-sooner t arrivals d timed (are.own (Left d) h).0
