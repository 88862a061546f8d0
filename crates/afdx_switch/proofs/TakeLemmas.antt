-- The next turn of the switch, as the port whose turn is given first gives it.
use Rattle.std.proofs.Common.{◌≡◌, ◌≢◌, ℕ, zero, suc, ◌<◌, ◌≤◌, ◌+◌, List, ◌∷◌, length, set, refl}
use Rattle.std.proofs.Common.{sym, ap, ◌∙◌, arith, subst, inl, inr}
use Rattle.std.specs.Prelude.{Option, Some, None, IfSome, IfNone}
use Rattle.std.specs.Prelude.{slice_get, All, sum_by, get_or}
use Rattle.std.proofs.lemmas.Bool.{cases_eq, ne_eqb}
use Rattle.std.proofs.lemmas.List.{length-set}
use Rattle.std.proofs.lemmas.List.Sums.{sum_by-set}
use Rattle.std.proofs.lemmas.Option.{slice_get_cases, slice_get_within, slice_get-get_or}
use Rattle.afdx_frame.specs.declared.link.Side.{Side}
use Rattle.afdx_config.specs.Rows.{Rows}
use Rattle.afdx_port.specs.Due.{given_at, IsAfter, order_of}
use Rattle.afdx_port.specs.Held as held
use Rattle.afdx_port.specs.History as queue
use Rattle.afdx_port.specs.Ports.{AreLimited, AreServed}
use Rattle.afdx_port.specs.Schedule.{Turn}
use Rattle.afdx_port.specs.declared.left.Due.{Due}
use Rattle.afdx_port.specs.declared.left.Left.{Left}
use Rattle.afdx_port.specs.declared.port_state.PortState.{PortState}
use Rattle.afdx_port.proofs.DueLemmas.{next_due, quiet_after}
use Rattle.afdx_port.proofs.FirstLemmas.{all-quiet, least-order, least-place}
use Rattle.afdx_port.proofs.TakeLemmas as port
use Rattle.afdx_port.proofs.TurnLemmas.{eqb-same}
use Rattle.afdx_switch.specs.HeldFrames.{HeldFrame, facts}
use Rattle.afdx_switch.specs.Switching as switch
use Rattle.afdx_switch.specs.Switching.{SwitchHistory, PortTurn, StandsFor, IsNextAt, IsNextOf, IsDue}
use Rattle.afdx_switch.specs.Switching.{IsDone, GoesBefore, calls_at, taken_at, with_take}
use Rattle.afdx_switch.specs.Sound.{IsPortSound, IsLineSound}
use Rattle.afdx_switch.specs.Tables.{byte_ns_at, buffer_at, entries_at}
use Rattle.afdx_switch.specs.declared.line.Line.{Line}
use Rattle.afdx_switch.specs.declared.switch_state.SwitchState.{SwitchState}
use Rattle.afdx_switch.proofs.ListLemmas.{set-cases, all-set, all-at}

taken-here : (port : ℕ) (s : Turn HeldFrame) (earlier : List PortTurn)
    → taken_at port (record { port = port; turn = s } ∷ earlier) ≡ s ∷ taken_at port earlier
unfolding taken_at
taken-here port s earlier = rw (eqb-same port port refl) refl

taken-there : (n port : ℕ) (s : Turn HeldFrame) (earlier : List PortTurn) → port ≢ n
    → taken_at port (record { port = n; turn = s } ∷ earlier) ≡ taken_at port earlier
unfolding taken_at
taken-there n port s earlier other = rw (ne_eqb n port (λ same. other (sym same))) refl

-- late enough, a port that gives no turn by then has none to come
nothing-due : (ports : List (PortState HeldFrame)) (until i : ℕ) (p : PortState HeldFrame)
    → All (λ q. held.IsQuiet facts q until) ports → AreLimited facts ports (length ports)
    → 1200000000000000 ≤ until → slice_get ports i ≡ Some p → held.due_of facts p ≡ None
nothing-due ports until i p quiet limited late at = by (held.due_of facts p) refl
  where
    by : (o : Option Due) → held.due_of facts p ≡ o → held.due_of facts p ≡ None
    by None e = e
    by (Some d) e =
        let after : until < given_at d = subst (λ z. IfSome z (λ x. IsAfter until x)) e
        (all-at (λ q. held.IsQuiet facts q until) ports i p quiet at) in
        absurd (omega (arith, after, late, limited i p d (slice_get_within ports i p at) at e))

-- where the port that goes first is known, none gives a turn by a time exactly where it gives none
pub quiet-iff : (ports : List (PortState HeldFrame)) (place time : ℕ) (p : PortState HeldFrame) (o : Option Due)
    → AreServed facts ports place → slice_get ports place ≡ Some p → o ≡ held.due_of facts p →
    (All (λ q. held.IsQuiet facts q time) ports → IfSome o (λ e. IsAfter time e))
    × (IfSome o (λ e. IsAfter time e) → All (λ q. held.IsQuiet facts q time) ports)
quiet-iff ports place time p o served at is = (
  λ quiet. subst (λ z. IfSome z (λ e. IsAfter time e)) (sym is)
      (all-at (λ q. held.IsQuiet facts q time) ports place p quiet at),
  λ after. all-quiet facts ports place served p at time (subst (λ z. IfSome z (λ e. IsAfter time e)) is after),
)

module _ (t : Rows) (side : Side) (w : SwitchState) (h : SwitchHistory) (st : StandsFor t side w h) where
  -- the turn that is due at a port
  due-at : (i : ℕ) (p : PortState HeldFrame) (s : Turn HeldFrame) → slice_get w.ports.items i ≡ Some p
      → IsNextAt t side h (i + 1) s → held.due_of facts p ≡ Some (queue.due_at s)
  due-at i p s at next = next_due facts p (calls_at t side (i + 1) h p.clock) s (st.ports i p at) next

  port-at : (i : ℕ) → i < 24 → (p : PortState HeldFrame) × (slice_get w.ports.items i ≡ Some p)
  port-at i below = elim (slice_get_cases w.ports.items i).1 [
    | inl found ↦ (found.0, found.2)
    | inr past ↦ absurd (omega (arith, below, past.0, st.port_count))
  ]

  -- time passes
  pub stands-later : (time : ℕ) → StandsFor t side (record w { clock = time }) (switch.at h time)
  stands-later time = record {
    time = refl;
    line_count = st.line_count;
    lines = st.lines;
    places = st.places;
    port_count = st.port_count;
    ports = st.ports;
  }

  -- where none gives a turn by a time, each next turn is given after it
  pub quiet-next : (time : ℕ) → All (λ p. held.IsQuiet facts p time) w.ports.items
      → (port : ℕ) (s : Turn HeldFrame) → 1 ≤ port → port ≤ 24 → IsNextAt t side h port s
      → IsAfter time (queue.due_at s)
  quiet-next time quiet zero s low high next = absurd (omega (arith, low))
  quiet-next time quiet (suc i) s low high next =
      let found = port-at i (omega (arith, high)) in
      let next_i : IsNextAt t side h (i + 1) s = subst (λ n. IsNextAt t side h n s) (omega arith) next in
      quiet_after facts found.0 (calls_at t side (i + 1) h found.0.clock) time s
      (st.ports i found.0 found.1) (all-at (λ p. held.IsQuiet facts p time) w.ports.items i
      found.0 quiet found.1) next_i

  -- late enough, where no port gives a turn by then, each entry has had its turn
  pub all-done : (until : ℕ) → All (λ p. held.IsQuiet facts p until) w.ports.items
      → AreLimited facts w.ports.items (length w.ports.items) → 1200000000000000 ≤ until →
      (port : ℕ) → 1 ≤ port → port ≤ 24 → IsDone t side h port
  all-done until quiet limited late zero low high = absurd (omega (arith, low))
  all-done until quiet limited late (suc i) low high =
      let found = port-at i (omega (arith, high)) in
      let none = nothing-due w.ports.items until i found.0 quiet limited late found.1 in
      subst (λ n. IsDone t side h n) (omega arith)
      (port.all_done facts found.0 (calls_at t side (i + 1) h found.0.clock)
      (st.ports i found.0 found.1) none)

  -- the port whose turn goes first
  module _ (served : AreServed facts w.ports.items w.first) (p : PortState HeldFrame)
      (at : slice_get w.ports.items w.first ≡ Some p) where
    -- where nothing is due there, each entry of each port has had its turn
    pub first-done : (o : Option Due) → o ≡ held.due_of facts p → (port : ℕ) → 1 ≤ port → port ≤ 24
        → IfNone o (IsDone t side h port)
    first-done None is port low high =
        all-done 1200000000000000 (all-quiet facts w.ports.items w.first served p at 1200000000000000
        (subst (λ z. IfSome z (λ d. IsAfter 1200000000000000 d)) is tt)) served.limit (omega arith) port low high
    first-done (Some d) is port low high = tt

    module _ (turn : Turn HeldFrame) (next : IsNextAt t side h (w.first + 1) turn) where
      before : (port : ℕ) (s : Turn HeldFrame) → 1 ≤ port → port ≤ 24 → IsNextAt t side h port s
          → GoesBefore (record { port = w.first + 1; turn = turn }) port s
      before zero s low high is_next = absurd (omega (arith, low))
      before (suc i) s low high is_next =
          let found = port-at i (omega (arith, high)) in
          let next_i : IsNextAt t side h (i + 1) s = subst (λ n. IsNextAt t side h n s) (omega arith) is_next in
          let mine = due-at w.first p turn at next in
          let other = due-at i found.0 s found.1 next_i in
          let below : i < length w.ports.items = omega (arith, st.port_count, high) in
          let least : order_of (queue.due_at turn) ≤ order_of (queue.due_at s) =
          least-order facts w.ports.items w.first served p at (queue.due_at turn) mine i found.0
          (queue.due_at s) below found.1 other in
          elim (cases_eq (order_of (queue.due_at turn)) (order_of (queue.due_at s))) [
            | inl same ↦
                (let on = least-place facts w.ports.items w.first served p at (queue.due_at turn) mine i
                found.0 (queue.due_at s) below found.1 other same in
                inr (same, omega (arith, on)))
            | inr apart ↦ inl (omega (arith, least, apart))
          ]

      -- it is the next one of the switch
      pub next-of : IsNextOf t side h (record { port = w.first + 1; turn = turn })
      next-of = record {
        port_first = omega arith;
        port_last = omega (arith, served.first.below, st.port_count);
        next = next;
        first = before;
      }

    -- what is due there is due at the switch
    pub due-comes : (o : Option Due)
        → IfSome o (λ e. (s : Turn HeldFrame) × IsNextAt t side h (w.first + 1) s × (e ≡ queue.due_at s))
        → IfSome o (λ e. IsDue t side h e)
    due-comes None comes = tt
    due-comes (Some e) comes =
        record {
          gone = record { port = w.first + 1; turn = comes.0 };
          next = next-of comes.0 comes.1;
          is = comes.2;
        }

    -- it is another one after a call, and all else is as it was
    module _ (taken : List PortTurn) (until : ℕ) (new : PortState HeldFrame) where
      abbrev later : SwitchHistory
      later = record { arrivals = h.arrivals; taken = taken; time = until }

      stands-set : queue.StandsFor facts new (calls_at t side (w.first + 1) later until) →
          ((i : ℕ) (q : PortState HeldFrame) → i ≢ w.first → slice_get w.ports.items i ≡ Some q
          → queue.StandsFor facts q (calls_at t side (i + 1) later q.clock)) →
          (after : SwitchState) → after.clock ≡ until → after.lines ≡ w.lines
          → after.places ≡ w.places → after.ports.items ≡ set w.ports.items w.first new →
          StandsFor t side after later
      stands-set mine others after clock lines places ports = record {
        time = clock;
        line_count = rw lines st.line_count;
        lines = λ i r line at_r at_line. st.lines i r line at_r (sym (ap (λ ls. slice_get ls.items i) lines) ∙ at_line);
        places = λ vl k at_vl. st.places vl k (sym (ap (λ ps. slice_get ps.items vl) places) ∙ at_vl);
        port_count = ap length ports ∙ length-set w.ports.items w.first new ∙ st.port_count;
        ports = λ i q at_q. elim (set-cases w.ports.items w.first new i q served.first.below
            (sym (ap (λ ps. slice_get ps i) ports) ∙ at_q)) [
              | inl here ↦ here-stands i q here.0 here.1
              | inr there ↦ others i q there.0 there.1
            ];
      }
        where
          here-stands : (i : ℕ) (q : PortState HeldFrame) → i ≡ w.first → q ≡ new
              → queue.StandsFor facts q (calls_at t side (i + 1) later q.clock)
          here-stands i q same is =
              let here : queue.StandsFor facts new (calls_at t side (w.first + 1) later new.clock) =
              subst (λ k. queue.StandsFor facts new (calls_at t side (w.first + 1) later k)) (sym mine.clock) mine in
              subst (λ k. queue.StandsFor facts q (calls_at t side (k + 1) later q.clock)) (sym same)
              (subst (λ z. queue.StandsFor facts z (calls_at t side (w.first + 1) later z.clock)) (sym is) here)

    -- it gave its turn
    module _ (until : ℕ) (new : PortState HeldFrame) (left : Left HeldFrame)
        (gives : queue.Gives facts (calls_at t side (w.first + 1) h p.clock) until left new) where
      abbrev pub gone : PortTurn
      gone = record { port = w.first + 1; turn = gives.turn }

      abbrev calls-with : ℕ → List (Turn HeldFrame) → ℕ → queue.PortHistory HeldFrame
      calls-with port turns time = record {
        byte_ns = byte_ns_at t port;
        buffer = buffer_at t port;
        entries = entries_at t side port h.arrivals;
        taken = turns;
        time = time;
      }

      pub stands-after : (after : SwitchState) → after.clock ≡ until → after.lines ≡ w.lines
          → after.places ≡ w.places → after.ports.items ≡ set w.ports.items w.first new →
          StandsFor t side after (with_take h gone until)
      stands-after after clock lines places ports =
          stands-set (gone ∷ h.taken) until new
          (subst (λ ts. queue.StandsFor facts new (calls-with (w.first + 1) ts until))
          (sym (taken-here (w.first + 1) gives.turn h.taken)) gives.stands)
          (λ i q other at_q. subst (λ ts. queue.StandsFor facts q (calls-with (i + 1) ts q.clock))
          (sym (taken-there (w.first + 1) (i + 1) gives.turn h.taken (λ same. other (omega (arith, same)))))
          (st.ports i q at_q)) after clock lines places ports

-- what the ports hold, where one is another
pub held-set : (ports : List (PortState HeldFrame)) (place : ℕ) (p new : PortState HeldFrame)
    → slice_get ports place ≡ Some p →
    sum_by (λ q. held.frames_held q) (set ports place new) + held.frames_held p
    ≡ sum_by (λ q. held.frames_held q) ports + held.frames_held new
held-set ports place p new at =
    let below = slice_get_within ports place p at in
    let here : slice_get ports place ≡ Some (get_or ports place p) = slice_get-get_or ports place p below in
    let same : get_or ports place p ≡ p = cc in
    subst (λ (q : PortState HeldFrame). sum_by (λ q. held.frames_held q) (set ports place new) + held.frames_held q
    ≡ sum_by (λ q. held.frames_held q) ports + held.frames_held new) same
    (sum_by-set (λ q. held.frames_held q) ports place new p below)

-- a port that gave its turn, or had none to give, is sound still
pub taken-sound : (ports : List (PortState HeldFrame)) (time until place : ℕ) (p new : PortState HeldFrame) →
    All (IsPortSound time) ports → time ≤ until → place < length ports
    → slice_get ports place ≡ Some p → held.last_time new ≡ until →
    ((h : queue.PortHistory HeldFrame) → queue.StandsFor facts p h
    → (later : queue.PortHistory HeldFrame) × queue.StandsFor facts new later)
    → All (IsPortSound until) (set ports place new)
taken-sound ports time until place p new all on below at clock moves =
    let sound = all-at (IsPortSound time) ports place p all at in
    let moved = moves sound.calls sound.stands in
    all-set (IsPortSound until) ports place new below
    (λ k d lt. (let s = all k d lt in
    record { in_time = omega (arith, s.in_time, on); calls = s.calls; stands = s.stands }))
    (record { in_time = omega (arith, clock); calls = moved.0; stands = moved.1 })

pub lines-later : (lines : List Line) (time until : ℕ) → time ≤ until → All (IsLineSound time) lines
    → All (IsLineSound until) lines
lines-later lines time until later all k d lt = let s = all k d lt in
    record { in_time = omega (arith, s.in_time, later); wait = s.wait; goes = s.goes }

pub ports-later : (ports : List (PortState HeldFrame)) (time until : ℕ) → time ≤ until
    → All (IsPortSound time) ports → All (IsPortSound until) ports
ports-later ports time until later all k d lt = let s = all k d lt in
    record { in_time = omega (arith, s.in_time, later); calls = s.calls; stands = s.stands }
