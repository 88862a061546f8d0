-- What a cable brought so far are the first of the turns of the port at its other end.
use Rattle.std.proofs.Common.{◌≡◌, ℕ, ◌≤◌, Bool, true, false, not, List, [], ◌∷◌, ◌++◌}
use Rattle.std.proofs.Common.{inl, inr, map, refl, sym, ap, ◌∙◌, subst, arith}
use Rattle.std.specs.Prelude.{if◌then◌else◌}
use Rattle.std.proofs.lemmas.Bool.{cases_lt}
use Rattle.afdx_frame.specs.declared.link.Side.{Side}
use Rattle.afdx_config.specs.Rows.{LinkRow}
use Rattle.afdx_police.specs.Arrival.{Arrival}
use Rattle.afdx_port.specs.Schedule.{Entry, Turn, AreTurns, end_of}
use Rattle.afdx_port.proofs.TurnLemmas.{nat_lt-true, nat_lt-false}
use Rattle.afdx_switch.specs.Admitted.{slots}
use Rattle.afdx_switch.specs.HeldFrames.{HeldFrame}
use Rattle.afdx_switch.specs.Tables.{rule_of, byte_ns_at, entries_at}
use Rattle.afdx_law_promises.specs.Sent.{arrivals_at}
use Rattle.afdx_cascade.specs.Cables.{Hop, GoesOn, brought, brought_by}
use Rattle.afdx_cascade.specs.SwitchEvents.{Plan, IsPlan, SwitchEvent, KeepsRules, came_to, in_clock, turns_of, end_at}
use Rattle.afdx_cascade.specs.Again.{IsNextThere, BroughtIsAccepted}
use Rattle.afdx_cascade.proofs.CableLemmas.{again}

record IsCut (side : Side) (port : ℕ) (turns : List (Turn HeldFrame))
    (arrivals : List Arrival) : Type 0 where
  dropped : List (Turn HeldFrame)
  kept : List (Turn HeldFrame)
  all : turns ≡ dropped ++ kept
  brings : brought_by side port kept ≡ arrivals

with-one : (side : Side) (port : ℕ) (s : Turn HeldFrame) (turns : List (Turn HeldFrame))
    (arrivals : List Arrival)
    → IsCut side port turns arrivals → IsCut side port (s ∷ turns) arrivals
with-one side port s turns arrivals is = record {
  dropped = s ∷ is.dropped;
  kept = is.kept;
  all = ap (λ ts. s ∷ ts) is.all;
  brings = is.brings;
}

cut-turns : (side : Side) (port : ℕ) (turns : List (Turn HeldFrame))
    (waiting arrivals : List Arrival)
    → brought_by side port turns ≡ waiting ++ arrivals → IsCut side port turns arrivals
cut-turns side port turns [] arrivals same =
    record { dropped = []; kept = turns; all = refl; brings = same }
cut-turns side port [] (w ∷ waiting) arrivals same = absurd (cc same)
cut-turns side port (s ∷ earlier) (w ∷ waiting) arrivals same =
    by s.too_old same (λ e. cut-turns side port earlier (w ∷ waiting) arrivals e)
    (λ e. cut-turns side port earlier waiting arrivals e)
  where
    by : (b : Bool) → map (brought side port) (if not b then s ∷ slots earlier else slots earlier)
        ≡ w ∷ waiting ++ arrivals
        → (brought_by side port earlier ≡ w ∷ waiting ++ arrivals
        → IsCut side port earlier arrivals)
        → (brought_by side port earlier ≡ waiting ++ arrivals → IsCut side port earlier arrivals)
        → IsCut side port (s ∷ earlier) arrivals
    by true e same-waits fewer = with-one side port s earlier arrivals (same-waits e)
    by false e same-waits fewer = with-one side port s earlier arrivals (fewer (cc e))

pub first-turns : (byte_ns : ℕ) (entries : List (Entry HeldFrame))
    (dropped kept : List (Turn HeldFrame))
    → AreTurns byte_ns entries (dropped ++ kept) → AreTurns byte_ns entries kept
first-turns byte_ns entries [] kept are = are
first-turns byte_ns entries (s ∷ dropped) kept are = first-turns byte_ns entries dropped kept are.1

-- the turns that are over by then are the first of all
pub no-late : (byte_ns : ℕ) (entries : List (Entry HeldFrame)) (turns : List (Turn HeldFrame))
    → AreTurns byte_ns entries turns
    → end_of turns ≤ 1000032768000000 → in_clock turns ≡ turns
no-late byte_ns entries [] are soon = refl
no-late byte_ns entries (s ∷ earlier) are soon =
    let lasts = are.0.lasts in
    let after = are.0.after in
    ap (λ b. if not b then s ∷ in_clock earlier else in_clock earlier)
    (nat_lt-false 1000032768000000 s.end soon)
    ∙ ap (λ ts. s ∷ ts) (no-late byte_ns entries earlier are.1 (omega (arith, lasts, after, soon)))

pub clock-cut : (byte_ns : ℕ) (entries : List (Entry HeldFrame)) (turns : List (Turn HeldFrame))
    → AreTurns byte_ns entries turns
    → (dropped : List (Turn HeldFrame)) × (turns ≡ dropped ++ in_clock turns)
clock-cut byte_ns entries [] are = ([], refl)
clock-cut byte_ns entries (s ∷ earlier) are = elim (cases_lt 1000032768000000 s.end) [
  | inl late ↦ (let rest = clock-cut byte_ns entries earlier are.1 in (
    s ∷ rest.0,
    ap (λ ts. s ∷ ts) rest.1
        ∙ ap (λ b. s ∷ rest.0 ++ (if not b then s ∷ in_clock earlier else in_clock earlier))
        (sym (nat_lt-true 1000032768000000 s.end late)),
  ))
  | inr soon ↦ ([], sym (no-late byte_ns entries (s ∷ earlier) are soon))
]

-- what is known of a link at a switch, over what came there
abbrev pub hop : Plan → List SwitchEvent → ℕ → LinkRow → Hop
hop c so_far k l = record { tables = c.tables k; link = l; arrivals = came_to k so_far }

-- the cable brings the first of what left
pub goes-on : (c : Plan) (so_far : List SwitchEvent) (side : Side) (j k : ℕ) (before next : LinkRow)
    → IsPlan c → KeepsRules c so_far → IsNextThere c j k before next
    → GoesOn side (hop c so_far j before) (hop c so_far k next)
goes-on c so_far side j k before next plan rules there =
    let to = (rule_of (c.tables k) next).port in
    let byte_ns = byte_ns_at (c.tables j) there.port in
    let entries = entries_at (c.tables j) side there.port (came_to j so_far) in
    let turns = turns_of j side there.port so_far in
    let carries = rules.cables k to side (end_at j there.port) there.cable in
    let cut = cut-turns side to (in_clock turns) carries.waiting (arrivals_at side to (came_to k so_far))
    carries.brings in
    let ends = plan.ports k to (end_at j there.port) there.cable in
    let are = rules.turns j there.port side ends.0 ends.1 in
    let clock = clock-cut byte_ns entries turns are in
    record {
      port = there.port;
      turns = cut.kept;
      gives = record {
        goes = there.goes;
        are = first-turns byte_ns entries cut.dropped cut.kept
            (subst (AreTurns byte_ns entries) cut.all
            (first-turns byte_ns entries clock.0 (in_clock turns) (subst (AreTurns byte_ns entries) clock.1 are)));
      };
      brings = sym cut.brings;
      row = there.row;
    }

pub brought-accepted : BroughtIsAccepted
brought-accepted c so_far side j k before next later past x plan rules there run_j run_k came
    on-side at-port named =
    (again side (hop c so_far j before) (hop c so_far k next)
    (record { place = there.place; stands = there.stands; run = run_j })
    (record { place = there.next_place; stands = there.next_stands; run = run_k })
    (goes-on c so_far side j k before next plan rules there)).none_dropped later past x came on-side at-port named
