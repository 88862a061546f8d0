-- Events are those of the definition of an output port, whether its tables are admitted or not.
use Rattle.std.proofs.Common.{◌≡◌, ℕ, zero, suc, ◌+◌, ◌<◌, ◌≤◌, Bool, true, false, List, [], ◌∷◌, ◌++◌}
use Rattle.std.proofs.Common.{length, nat_lt, refl, sym, ap, ◌∙◌, subst, arith, inl, inr}
use Rattle.std.specs.Prelude.{Option, Some, None, if◌then◌else◌, ◌⊎◌}
use Rattle.std.proofs.lemmas.Bool.{cases_eq}
use Rattle.std.proofs.lemmas.Bool.Decides.{nat_tests}
use Rattle.afdx_frame.specs.declared.link.Side.{Side}
use Rattle.afdx_config.specs.Rows.{Rows}
use Rattle.afdx_police.specs.Arrival.{Arrival}
use Rattle.afdx_port.specs.Schedule.{Turn, IsLost}
use Rattle.afdx_port.proofs.TurnLemmas.{same_schedule}
use Rattle.afdx_law_bounds.specs.Offered.{is_lost, entries_of}
use Rattle.afdx_law_bounds.specs.Outputs.{Row, AreTimed, entry_of, with_sent, offers_at}
use Rattle.afdx_switch.specs.HeldFrames.{HeldFrame}
use Rattle.afdx_switch.specs.Tables.{rows_of, output_at, byte_ns_at, carried, entries_at}
use Rattle.afdx_switch.specs.Verdicts.{is_share_lost, is_lost_at, numbers, lost_ports}
use Rattle.afdx_network.specs.Events.{Came, Admission, turns_at}
use Rattle.afdx_law_promises.specs.ByDefinition.{AreItsOnlyTurns, sender_to, IsLostBySchedule, Enters}
use Rattle.afdx_law_promises.specs.ByDefinition.{EntriesGrow, IsByDefinition}
use Rattle.afdx_law_promises.specs.ByDefinition.{LossesAreByDefinition, EventsAreByDefinition, EventsSoFarAreByDefinition}
use Rattle.afdx_law_promises.specs.Lines.{IsIn}
use Rattle.afdx_law_promises.proofs.EventLemmas.{IsAdmission, came-of, taken-at-port, taken-so-far}
use Rattle.afdx_law_promises.proofs.LineLemmas.{in-filter, filter-in}
use Rattle.afdx_law_promises.proofs.PortLemmas.{its-turns}

-- ---- a port has one schedule

pub only-turns : (t : Rows) (side : Side) (port : ℕ) (arrivals : List Arrival) → AreTimed arrivals
    → AreItsOnlyTurns t side port arrivals (turns_at t side port arrivals)
only-turns t side port arrivals timed = record {
  are = its-turns t side port arrivals timed;
  only = λ others are. same_schedule (byte_ns_at t port) (entries_at t side port arrivals) others
      (turns_at t side port arrivals) are (its-turns t side port arrivals timed);
}

-- ---- what is lost, is lost by it

below : (m n : ℕ) → nat_lt m n ≡ true → m < n
below m n is = grind (arith, nat_tests, is)

not-below : (m n : ℕ) → nat_lt m n ≡ false → m < n → ⊥
not-below m n is lt = grind (arith, nat_tests, is, lt)

module _ (t : Rows) (side : Side) (port : ℕ) (past : List Arrival) (x : Arrival)
    (timed : AreTimed past) where
  abbrev is_lost_by : Row → Bool
  is_lost_by r =
      is_lost (byte_ns_at t port) t.buffer (entries_at t side port past) (entry_of (carried t) r x)

  lost-is : (r : Row) → sender_to t side port past x ≡ Some r → is_lost_by r ≡ true
      → IsLostBySchedule t side port past x
  unfolding turns_at
  lost-is r goes is = record {
    row = r;
    goes = goes;
    turns = turns_at t side port past;
    are = only-turns t side port past timed;
    no_room = below _ _ is;
  }

  kept-is : (r : Row) → is_lost_by r ≡ false → IsLostBySchedule t side port past x → ⊥
  unfolding turns_at
  kept-is r is lost =
      let same : turns_at t side port past ≡ lost.turns =
      lost.are.only (turns_at t side port past) (its-turns t side port past timed) in
      not-below _ _ is
      (subst (λ (ts : List (Turn HeldFrame)).
      IsLost t.buffer (entries_at t side port past) ts x.time (length x.bytes)) (sym same) lost.no_room)

  enters : (o : Option Row) → sender_to t side port past x ≡ o
      → Enters t side port past x o (entries_of (byte_ns_at t port) t.buffer
      (with_sent (carried t) x o (offers_at (carried t) (rows_of t) (output_at t side port) past)))
  enters None is = refl
  enters (Some r) is = by (is_lost_by r) refl
    where
      by : (b : Bool) → is_lost_by r ≡ b
          → (IsLostBySchedule t side port past x × ((if b then entries_at t side port past
          else entries_at t side port past ++ entry_of (carried t) r x ∷ []) ≡ entries_at t side port past))
          ⊎ ((IsLostBySchedule t side port past x → ⊥) × ((if b then entries_at t side port past
          else entries_at t side port past ++ entry_of (carried t) r x ∷ [])
          ≡ entries_at t side port past ++ entry_of (carried t) r x ∷ []))
      by true lost = inl (lost-is r is lost, refl)
      by false kept = inr (kept-is r kept, refl)

entries-grow : (t : Rows) (side : Side) (port : ℕ) (arrivals : List Arrival) → AreTimed arrivals
    → EntriesGrow t side port arrivals
unfolding offers_at
entries-grow t side port [] timed = refl
entries-grow t side port (x ∷ past) timed = (
  enters t side port past x timed.1 (sender_to t side port past x) refl,
  entries-grow t side port past timed.1,
)

-- ---- the ports of a switch

up : ℕ → ℕ → List ℕ
up zero n = []
up (suc count) n = n ∷ up count (n + 1)

in-up : (count n port : ℕ) → n ≤ port → port < n + count → IsIn port (up count n)
unfolding up
in-up zero n port low high = absurd (omega (arith, low, high))
in-up (suc count) n port low high = elim (cases_eq port n) [
  | inl same ↦ inl same
  | inr other ↦ inr (in-up count (n + 1) port (omega (arith, low, other)) (omega (arith, high)))
]

in-numbers : (port : ℕ) → 1 ≤ port → port ≤ 24 → IsIn port numbers
unfolding up
in-numbers port low high = in-up 24 1 port low (omega (arith, high))

-- ---- the copies of an arrival

lost-at : (t : Rows) (past : List Arrival) (x : Arrival) (port : ℕ) → AreTimed past
    → is_lost_at t past x port ≡ true → IsLostBySchedule t x.side port past x
unfolding is_lost_at
lost-at t past x port timed lost = by (sender_to t x.side port past x) refl lost
  where
    by : (o : Option Row) → sender_to t x.side port past x ≡ o → is_share_lost t past x port o ≡ true
        → IsLostBySchedule t x.side port past x
    by None goes is = absurd (cc is)
    by (Some r) goes is = lost-is t x.side port past x timed r goes is

lost-there : (t : Rows) (past : List Arrival) (x : Arrival) (port : ℕ) → AreTimed past
    → IsLostBySchedule t x.side port past x → is_lost_at t past x port ≡ true
unfolding is_lost_at
lost-there t past x port timed lost =
    ap (is_share_lost t past x port) lost.goes ∙ by (is_share_lost t past x port (Some lost.row)) refl
  where
    by : (b : Bool) → is_share_lost t past x port (Some lost.row) ≡ b → b ≡ true
    by true is = refl
    by false is = absurd (kept-is t x.side port past x timed lost.row is lost)

lost-by-schedule : (t : Rows) (past : List Arrival) (x : Arrival) → AreTimed past → (port : ℕ)
    → 1 ≤ port → port ≤ 24 → (IsIn port (lost_ports t past x) → IsLostBySchedule t x.side port past x)
    × (IsLostBySchedule t x.side port past x → IsIn port (lost_ports t past x))
unfolding lost_ports
lost-by-schedule t past x timed port low high = (
  λ h. lost-at t past x port timed (in-filter (is_lost_at t past x) port numbers h).1,
  λ lost. filter-in (is_lost_at t past x) port numbers (in-numbers port low high)
      (lost-there t past x port timed lost),
)

pub losses-by-definition : LossesAreByDefinition
losses-by-definition t past x port timed = (lost-at t past x port timed, lost-there t past x port timed)

-- ---- events

timed-before : (arrivals later : List Arrival) (x : Arrival) (past : List Arrival)
    → arrivals ≡ later ++ x ∷ past → AreTimed arrivals → AreTimed past
timed-before arrivals later x past came timed =
    from later (subst AreTimed came timed)
  where
    from : (ys : List Arrival) → AreTimed (ys ++ x ∷ past) → AreTimed past
    from [] both = both.1
    from (y ∷ ys) both = from ys both.1

by-definition : (t : Rows) (arrivals : List Arrival) (c : Admission) → AreTimed arrivals
    → IsAdmission t arrivals c → IsByDefinition t arrivals c
by-definition t arrivals c timed a =
    let before = timed-before arrivals a.later c.arrival a.past a.came timed in
    record {
      later = a.later;
      past = a.past;
      came = a.came;
      reason = ap (λ (d : Admission). d.reason) a.is;
      lost = λ port low high.
          (let both = lost-by-schedule t a.past c.arrival before port low high in
          subst (λ (ports : List ℕ). (IsIn port ports → IsLostBySchedule t c.arrival.side port a.past c.arrival)
          × (IsLostBySchedule t c.arrival.side port a.past c.arrival → IsIn port ports))
          (sym (ap (λ (d : Admission). d.lost) a.is)) both);
    }

pub events-by-definition : EventsAreByDefinition
events-by-definition t arrivals events lawful timed are = record {
  timed = timed;
  in_order = are;
  admissions = λ c h. by-definition t arrivals c timed (came-of t arrivals c (are.own (Came c) h));
  entries = λ side port. entries-grow t side port arrivals timed;
  turns = λ side port low high.
      subst (AreItsOnlyTurns t side port arrivals)
      (sym (taken-at-port t arrivals events side port lawful timed low high are))
      (only-turns t side port arrivals timed);
}

pub so-far-by-definition : EventsSoFarAreByDefinition
so-far-by-definition t arrivals events lawful timed are = record {
  timed = timed;
  in_order = are;
  admissions = λ c h. by-definition t arrivals c timed (came-of t arrivals c (are.own (Came c) h).0);
  entries = λ side port. entries-grow t side port arrivals timed;
  turns = λ side port low high.
      (let more = taken-so-far t arrivals events side port lawful timed low high are in
      (more.0, subst (AreItsOnlyTurns t side port arrivals) more.1 (only-turns t side port arrivals timed)));
}
