-- What the events of a cascade are at its parts.
use Rattle.std.proofs.Common.{◌≡◌, ℕ, zero, suc, ◌<◌, ◌≤◌, ◌⊎◌, Bool, true, false, List, [], ◌∷◌, ◌++◌}
use Rattle.std.proofs.Common.{length, map, refl, sym, ap, ◌∙◌, subst, arith, inl, inr}
use Rattle.std.specs.Prelude.{if◌then◌else◌, is_none, reverse, Some}
use Rattle.std.proofs.lemmas.List.{length-reverse}
use Rattle.afdx_config.specs.Rows.{Rows}
use Rattle.afdx_frame.specs.declared.link.Side.{Side}
use Rattle.afdx_frame.specs.declared.link.Side.TheVariants.{A, B}
use Rattle.afdx_frame.proofs.ListLemmas.{slice_get-within}
use Rattle.afdx_police.specs.Arrival.{Arrival}
use Rattle.afdx_port.specs.Schedule.{Entry, Turn, AreTurns, IsSchedule}
use Rattle.afdx_port.specs.ScheduleOf.{AreInOrder, schedule_of}
use Rattle.afdx_port.proofs.ScheduleLemmas.{schedule_of_is}
use Rattle.afdx_port.proofs.TurnLemmas.{next_of, schedule_begins}
use Rattle.afdx_switch.specs.Admitted.{slots}
use Rattle.afdx_switch.specs.HeldFrames.{HeldFrame}
use Rattle.afdx_switch.specs.Switching as switch
use Rattle.afdx_switch.specs.Switching.{SwitchHistory, IsDone, IsNextAt, taken_at}
use Rattle.afdx_switch.specs.Tables.{byte_ns_at, entries_at}
use Rattle.afdx_switch.specs.declared.switch_state.SwitchState.{SwitchState}
use Rattle.afdx_switch.proofs.LawLemmas.{taken-turns}
use Rattle.afdx_network.specs.Events.{Event, Left, calls_on, arrivals_in}
use Rattle.afdx_network.specs.Network as network
use Rattle.afdx_network.specs.Network.{IsNextOn, departure_after}
use Rattle.afdx_network.specs.Order.{AreEvents, side_number}
use Rattle.afdx_network.specs.declared.network.Network.{Network}
use Rattle.afdx_network.proofs.FirstLemmas.{are-all, are-first}
use Rattle.afdx_network.proofs.OrderedLemmas.{begins, one-order}
use Rattle.afdx_law_promises.specs.Sent.{arrivals_at}
use Rattle.afdx_law_promises.proofs.ListLemmas.{reverse-cons}
use Rattle.afdx_cascade.specs.Cables.{brought, brought_by}
use Rattle.afdx_cascade.specs.Cascade.{StandsFor}
use Rattle.afdx_cascade.specs.Parts.{SwitchBeginsAlone, SwitchRunsAlone, CablesBringAll, ListedIsListed, EventsAreOfList}
use Rattle.afdx_cascade.specs.Parts.{AreTaken, frames_of}
use Rattle.afdx_cascade.specs.Runs.{Line, IsNextEvent, IsNextLine, IsDue, arriving, event_at, turn_phase}
use Rattle.afdx_cascade.specs.SwitchEvents.{Plan, SwitchEvent}
use Rattle.afdx_cascade.specs.SwitchEvents.{at_switch, came_to, count_if, in_clock, listed, passes, turns_of, with_listed}
use Rattle.afdx_cascade.specs.declared.cascade.Cascade.{Cascade}
use Rattle.afdx_cascade.proofs.AcceptedLemmas.{no-taken}
use Rattle.afdx_cascade.proofs.CountedLemmas.{events-counted}
use Rattle.afdx_cascade.proofs.MoreLemmas.{there-or-past}
use Rattle.afdx_cascade.proofs.OnceLemmas.{at-most-listed}
use Rattle.afdx_cascade.proofs.RunLemmas.{events-one}

-- ---- a switch

in-time : (t : Rows) (side : Side) (w : SwitchState) (h : SwitchHistory) (port : ℕ)
    → switch.StandsFor t side w h → 1 ≤ port → port ≤ 24
    → AreInOrder (entries_at t side port h.arrivals)
in-time t side w h zero st low high = absurd (omega (arith, low))
in-time t side w h (suc i) st low high =
    let p = slice_get-within w.ports.items i (omega (arith, st.port_count, high)) in
    subst (λ k. AreInOrder (entries_at t side k h.arrivals)) (omega arith)
    (st.ports i p.0 p.1).in_order

-- where no turn comes next at a port, it has given all its turns
all-given : (t : Rows) (side : Side) (w : SwitchState) (h : SwitchHistory) (port : ℕ)
    → switch.StandsFor t side w h → 1 ≤ port → port ≤ 24
    → ((s : Turn HeldFrame) → IsNextAt t side h port s → ⊥) → IsDone t side h port
all-given t side w h port st low high none = by later.0 later.1
  where
    entries : List (Entry HeldFrame)
    entries = entries_at t side port h.arrivals

    all : IsSchedule (byte_ns_at t port) entries (schedule_of (byte_ns_at t port) entries)
    all = schedule_of_is (byte_ns_at t port) entries (in-time t side w h port st low high)

    later : (more : List (Turn HeldFrame))
        × (schedule_of (byte_ns_at t port) entries ≡ more ++ taken_at port h.taken)
    later = schedule_begins (byte_ns_at t port) entries _ _ all (taken-turns t side w h port st low high)

    by : (more : List (Turn HeldFrame))
        → schedule_of (byte_ns_at t port) entries ≡ more ++ taken_at port h.taken
        → IsDone t side h port
    by [] is = subst (λ turns. IsSchedule (byte_ns_at t port) entries turns) is all
    by (s ∷ more) is = absurd (
        let next = next_of (byte_ns_at t port) entries (s ∷ more) (taken_at port h.taken)
        (subst (λ turns. AreTurns (byte_ns_at t port) entries turns) is all.each_next) (omega arith) in
        none next.0 next.1)

all-events : (t : Rows) (n : Network) (events : List Event) → network.StandsFor t n events
    → ((side : Side) (port : ℕ) (s : Turn HeldFrame) → 1 ≤ port → port ≤ 24
    → IsNextOn t events side port s → ⊥)
    → AreEvents t (arrivals_in events) events
all-events t n events st none =
    are-all t n events st
    (λ port low high. all-given t A n.switches.a (calls_on A events (switch.last_time n.switches.a))
    port st.on_a low high (λ s next. none A port s low high next))
    (λ port low high. all-given t B n.switches.b (calls_on B events (switch.last_time n.switches.b))
    port st.on_b low high (λ s next. none B port s low high next))

-- the network of a switch
network-of : (c : Plan) (w : Cascade) (so_far : List SwitchEvent) (k : ℕ) → StandsFor c w so_far
    → k < c.count
    → (n : Network) × network.StandsFor (c.tables k) n (at_switch k so_far)
network-of c w so_far k st within = elim (there-or-past w.networks.items k) [
  | inl found ↦ (found.0, st.keeps.stands.all.each k found.0 found.1)
  | inr past ↦ absurd (let count = st.count in omega (arith, within, past, count))
]

pub begins-alone : SwitchBeginsAlone
begins-alone c w so_far k st within =
    let n = network-of c w so_far k st within in
    begins (c.tables k) (at_switch k so_far)
    (are-first (c.tables k) n.0 (at_switch k so_far) n.1)

pub runs-alone : SwitchRunsAlone
runs-alone c w so_far k st none within =
    let n = network-of c w so_far k st within in
    one-order (c.tables k) (came_to k so_far) (at_switch k so_far)
    (all-events (c.tables k) n.0 (at_switch k so_far) n.1
    (λ side port s low high next. none
    (s.end ∷ turn_phase s.too_old ∷ side_number side ∷ k ∷ port ∷ [])
    (event_at k (Left (departure_after (at_switch k so_far) side port s)))
    (inl (record {
      k = k;
      side = side;
      port = port;
      turn = s;
      low = low;
      high = high;
      next = next;
      place_is = refl;
      is = refl;
    }))))

-- ---- a cable

last-of : {X : Type 0} (xs : List X)
    → (xs ≡ []) ⊎ ((before : List X) × (x : X) × (xs ≡ before ++ x ∷ []))
last-of [] = inl refl
last-of (x ∷ xs) = elim (last-of xs) [
  | inl none ↦ inr ([], x, ap (λ ys. x ∷ ys) none)
  | inr found ↦ inr (x ∷ found.0, found.1, ap (λ ys. x ∷ ys) found.2)
]

pub split-end : {X : Type 0} (before : List X) (x : X) (ys : List X)
    → (before ++ x ∷ []) ++ ys ≡ before ++ x ∷ ys
split-end [] x ys = refl
split-end (b ∷ before) x ys = ap (λ zs. b ∷ zs) (split-end before x ys)

pub cables-bring : CablesBringAll
cables-bring c [] k port side other rules none joined =
    ap (λ ts. brought_by side port (in_clock ts)) (no-taken other.port)
cables-bring c (h ∷ before) k port side other rules none joined =
    let carries = rules.0.cables k port side other joined in
    elim (last-of carries.waiting) [
      | inl empty ↦ carries.brings ∙ ap (λ ws. ws ++ arrivals_at side port (came_to k (h ∷ before))) empty
      | inr found ↦ absurd (none
          (found.1.time ∷ 1 ∷ side_number side ∷ other.switch ∷ other.port ∷ [])
          (arriving c (h ∷ before) k found.1)
          (inr (record {
            k = k;
            side = side;
            port = port;
            other = other;
            joined = joined;
            later = found.0;
            arrival = found.1;
            waits = carries.brings
                ∙ ap (λ ws. ws ++ arrivals_at side port (came_to k (h ∷ before))) found.2
                ∙ split-end found.0 found.1 (arrivals_at side port (came_to k (h ∷ before)));
            place_is = refl;
            is = refl;
          })))
    ]

-- ---- the list

-- what a cable brings arrives at its end
pub at-port : (side : Side) (port : ℕ) (turns : List (Turn HeldFrame)) (later : List Arrival)
    (x : Arrival) (rest : List Arrival)
    → map (brought side port) turns ≡ later ++ x ∷ rest → x.port ≡ port
at-port side port [] [] x rest is = absurd (cc is)
at-port side port [] (y ∷ later) x rest is = absurd (cc is)
at-port side port (s ∷ turns) [] x rest is =
    let first : brought side port s ≡ x = cc is in sym (ap (λ (y : Arrival). y.port) first)
at-port side port (s ∷ turns) (y ∷ later) x rest is =
    at-port side port turns later x rest (cc is)

-- what is due is no frame of the list
due-same : (c : Plan) (before : List SwitchEvent) (place : List ℕ) (h : SwitchEvent)
    → IsDue c before place h → listed c (h ∷ before) ≡ listed c before
due-same c before place h (inl turn) =
    ap (λ (g : SwitchEvent). with_listed c g.switch g.event (listed c before)) turn.is
due-same c before place h (inr frame) =
    ap (λ (g : SwitchEvent). with_listed c g.switch g.event (listed c before)) frame.is
    ∙ ap (λ o. if is_none o then frame.arrival ∷ listed c before else listed c before) there
  where
    there : c.far_end frame.k frame.arrival.port ≡ Some frame.other
    there =
        let at = at-port frame.side frame.port
        (slots (in_clock (turns_of frame.other.switch frame.side frame.other.port before)))
        frame.later frame.arrival (arrivals_at frame.side frame.port (came_to frame.k before))
        frame.waits in
        subst (λ p. c.far_end frame.k p ≡ Some frame.other) (sym at) frame.joined

line-more : (c : Plan) (lines left rest : List Line) (before : List SwitchEvent) (h : SwitchEvent)
    → IsNextLine c before left h rest → AreTaken c lines before left
    → AreTaken c lines (h ∷ before) rest
line-more c lines left rest before h next some = record {
  taken = next.line ∷ some.taken;
  are = some.are ∙ ap (λ ls. reverse some.taken ++ ls) next.are
      ∙ sym (split-end (reverse some.taken) next.line rest)
      ∙ ap (λ ls. ls ++ rest) (sym (reverse-cons next.line some.taken));
  listed_is =
      ap (λ (g : SwitchEvent). with_listed c g.switch g.event (listed c before)) next.is
      ∙ ap (λ o. if is_none o then next.line.arrival ∷ listed c before else listed c before) next.free
      ∙ ap (λ xs. next.line.arrival ∷ xs) some.listed_is;
}

pub are-taken : ListedIsListed
are-taken c lines rest [] runs = record { taken = []; are = sym runs; listed_is = refl }
are-taken c lines rest (h ∷ before) runs =
    by runs.2 (are-taken c lines runs.0 before runs.1)
  where
    by : IsNextEvent c before runs.0 h rest → AreTaken c lines before runs.0
        → AreTaken c lines (h ∷ before) rest
    by (inl due) some = record {
      taken = some.taken;
      are = some.are ∙ ap (λ ls. reverse some.taken ++ ls) (sym due.1);
      listed_is = due-same c before due.0.place h due.0.due ∙ some.listed_is;
    }
    by (inr line) some = line-more c lines runs.0 rest before h line some

-- ---- all events of a list

frames-length : (lines : List Line) → length (frames_of lines) ≡ length lines
frames-length [] = refl
frames-length (line ∷ lines) = ap suc (frames-length lines)

no-more : {X : Type 0} (xs : List X) → xs ++ [] ≡ xs
no-more [] = refl
no-more (x ∷ xs) = ap (λ ys. x ∷ ys) (no-more xs)

count-back : (test : Arrival → Bool) (lines : List Line)
    → count_if test (frames_of (reverse lines)) ≡ count_if test (frames_of lines)
count-back test [] = refl
count-back test (line ∷ lines) =
    ap (λ ls. count_if test (frames_of ls)) (reverse-cons line lines)
    ∙ parts (reverse lines)
    ∙ back (count-back test lines)
  where
    parts : (ls : List Line) → count_if test (frames_of (ls ++ line ∷ []))
        ≡ count_if test (frames_of (line ∷ ls))
    parts [] = refl
    parts (l ∷ ls) = turned (test l.arrival) (test line.arrival) (parts ls)
      where
        turned : (a b : Bool) → count_if test (frames_of (ls ++ line ∷ []))
            ≡ (if b then suc (count_if test (frames_of ls)) else count_if test (frames_of ls))
            → (if a then suc (count_if test (frames_of (ls ++ line ∷ [])))
            else count_if test (frames_of (ls ++ line ∷ [])))
            ≡ (if b then suc (if a then suc (count_if test (frames_of ls))
            else count_if test (frames_of ls))
            else (if a then suc (count_if test (frames_of ls)) else count_if test (frames_of ls)))
        turned true true is = ap suc is
        turned true false is = ap suc is
        turned false true is = is
        turned false false is = is

    back : count_if test (frames_of (reverse lines)) ≡ count_if test (frames_of lines)
        → count_if test (frames_of (line ∷ reverse lines)) ≡ count_if test (frames_of (line ∷ lines))
    back is = ap (λ n. if test line.arrival then suc n else n) is

pub are-of-list : EventsAreOfList
are-of-list c w lines events st all =
    let some = are-taken c lines [] events all.runs in
    let whole : lines ≡ reverse some.taken = some.are ∙ no-more (reverse some.taken) in
    record {
      once = λ side k test.
          (let most = at-most-listed c events side k test st.keeps.plan st.keeps.stands.rules in
          let same : count_if (passes side test) (listed c events)
          ≡ count_if (passes side test) (frames_of lines) =
          ap (count_if (passes side test)) some.listed_is
          ∙ sym (count-back (passes side test) some.taken)
          ∙ ap (λ ls. count_if (passes side test) (frames_of ls)) (sym whole) in
          omega (arith, most, same));
      few =
          (let counted = (events-counted c w events st).events in
          let size : length (listed c events) ≡ length lines =
          ap length some.listed_is ∙ frames-length some.taken ∙ sym (length-reverse some.taken)
          ∙ ap length (sym whole) in
          omega (arith, counted, size));
      one = λ others are. events-one c lines others events are all;
    }
