-- The promises, of the lines that tell of events.
use Rattle.std.proofs.Common.{◌≡◌, ℕ, ◌+◌, ◌*◌, ◌≤◌, ◌&&◌, Bool, true, false, List, [], ◌∷◌, ◌++◌, length, map}
use Rattle.std.proofs.Common.{filter, refl, sym, ap, ◌∙◌, subst, arith, inl, inr}
use Rattle.std.specs.Prelude.{Option, Some, None, is_none, slice_get, reverse, if◌then◌else◌, ◌⊎◌}
use Rattle.std.specs.List.{AllByRecursion}
use Rattle.std.proofs.lemmas.Bool.{eq-eqb, and_parts}
use Rattle.afdx_frame.specs.declared.link.Side.{Side}
use Rattle.afdx_frame.specs.Regulation.{wire_of}
use Rattle.afdx_frame.proofs.SideLemmas.{is_side-same}
use Rattle.afdx_config.specs.Lawful.{IsLawfulSwitch}
use Rattle.afdx_config.specs.Rows.{LinkRow, Rows}
use Rattle.afdx_police.specs.Arrival.{Arrival, is_side, names, own}
use Rattle.afdx_police.specs.declared.shape.Reason.{Reason}
use Rattle.std.proofs.lemmas.List.{map-append}
use Rattle.std.proofs.lemmas.List.Elements.{filter-append}
use Rattle.afdx_port.specs.Schedule.{Turn}
use Rattle.afdx_switch.specs.Admitted as switch
use Rattle.afdx_switch.specs.Admitted.{IsAdmittedRun, Passing, passing, passing_in}
use Rattle.afdx_switch.specs.Admitted.{accepted_on, accepted_frames}
use Rattle.afdx_switch.specs.Admitted.{frames_among, frames_left, slots}
use Rattle.afdx_switch.specs.HeldFrames.{HeldFrame}
use Rattle.afdx_switch.specs.Laws.{is_of}
use Rattle.afdx_switch.specs.Tables.{rule_of, goes_to, byte_ns_at}
use Rattle.afdx_switch.specs.Verdicts.{reason_of}
use Rattle.afdx_network.specs.Events.{Event, Came, Left, Departure, departures, admissions, all_events, turns_at}
use Rattle.afdx_network.specs.Order.{IsAmong, events_of, events_so_far}
use Rattle.afdx_switch.proofs.ArrivalLemmas.{same-side}
use Rattle.afdx_network.proofs.EventLemmas.{turn-of, at-port-of, is-either}
use Rattle.afdx_network.proofs.OrderedLemmas.{are-events, are-so-far}
use Rattle.afdx_law_promises.specs.Lines.{Line, Verdict, Departed, Received, Judged, Leaving, IsIn}
use Rattle.afdx_law_promises.specs.Lines.{judged_in, arrivals_judged, verdicts_on, accepted_in, left_in}
use Rattle.afdx_law_promises.specs.Lines.{is_leaving, frames_at, leaving, told_by}
use Rattle.afdx_law_promises.specs.Promises.{AreVerdicts, frames_due, AreFrames, AreFirstFrames}
use Rattle.afdx_law_promises.specs.Promises.{LeavesInTime, AllLeaveInTime, AreAlone, told, told_so_far}
use Rattle.afdx_law_promises.specs.WindowRule.{AreByWindowRule}
use Rattle.afdx_law_promises.proofs.EventLemmas.{is_at, turns_in, at-port-are, turns-back, so-far-is}
use Rattle.afdx_law_promises.proofs.EventLemmas.{turns-more, no-left, as-promised}
use Rattle.afdx_law_promises.proofs.LineLemmas.{in-filter, filter-in, in-append, in-map, map-in}
use Rattle.afdx_law_promises.proofs.LineLemmas.{map-filter, verdicts-arrivals, verdicts-told}
use Rattle.afdx_law_promises.proofs.LineLemmas.{verdicts-told-so-far, departures_in, told-left}
use Rattle.afdx_law_promises.proofs.LineLemmas.{left-among, frames-told, slots-back}
use Rattle.afdx_law_promises.proofs.ListLemmas.{filter-reverse, map-reverse, same-reversed}
use Rattle.afdx_law_promises.proofs.PortLemmas.{entries_back, in-reverse, in-time, left-are-accepted, left-back}
use Rattle.afdx_law_promises.proofs.NoSoonerLemmas.{departs-no-sooner}
use Rattle.afdx_law_promises.proofs.PromiseLemmas.{no-row, unknown-reason}
use Rattle.afdx_police.proofs.FrameLemmas.{IsFrameOn}
use Rattle.afdx_police.specs.Verdicts.{accepted_arrivals}
use Rattle.afdx_law_promises.proofs.ReceiverLemmas.{accepted-frames, vl-is, none-is}
use Rattle.afdx_law_promises.proofs.RuleLemmas.{one-verdicts, verdicts_of, own_verdicts, own-verdicts}

-- ---- verdicts

-- the verdicts are those of the switches
verdict-in : (t : Rows) (arrivals : List Arrival) (v : Judged) → IsIn v (verdicts_of t arrivals)
    → (past : List Arrival) × (v.reason ≡ reason_of t past v.arrival)
unfolding verdicts_of
verdict-in t [] v h = absurd h
verdict-in t (x ∷ past) v (inl same) = (
  past,
  ap (λ (w : Judged). w.reason) same
      ∙ ap (λ y. reason_of t past y) (sym (ap (λ (w : Judged). w.arrival) same)),
)
verdict-in t (x ∷ past) v (inr rest) = verdict-in t past v rest

pub verdicts-are : (t : Rows) (arrivals : List Arrival) (lines : List Line)
    → IsLawfulSwitch t → judged_in lines ≡ verdicts_of t arrivals → AreVerdicts t arrivals lines
verdicts-are t arrivals lines lawful same = record {
  each = ap arrivals_judged same ∙ verdicts-arrivals t arrivals;
  own = λ side place l at. subst (λ vs. AreByWindowRule (rule_of t l) (own_verdicts l.vl side vs))
      (sym same) (own-verdicts t l side place lawful at arrivals).rule;
  unknown = λ v h none. (let w = verdict-in t arrivals v (subst (IsIn v) same h) in w.1
      ∙ unknown-reason t w.0 v.arrival (no-row t v.arrival.bytes lawful none));
}

accepted-are : (t : Rows) (arrivals : List Arrival) (lines : List Line)
    (side : Side) (place : ℕ)
    (l : LinkRow) → IsLawfulSwitch t → judged_in lines ≡ verdicts_of t arrivals
    → slice_get t.links place ≡ Some l →
    accepted_in (verdicts_on l.vl side lines) ≡ accepted_on t l side arrivals
accepted-are t arrivals lines side place l lawful same at =
    ap (λ vs. accepted_in (own_verdicts l.vl side vs)) same
    ∙ (own-verdicts t l side place lawful at arrivals).accepted

judged-line : (v : Judged) (lines : List Line) → IsIn v (judged_in lines) → IsIn (Verdict v) lines
unfolding judged_in
judged-line v [] h = absurd h
judged-line v (Verdict w ∷ before) (inl same) = inl (ap (λ x. Verdict x) same)
judged-line v (Verdict w ∷ before) (inr later) = inr (judged-line v before later)
judged-line v (Departed d ∷ before) h = inr (judged-line v before h)
judged-line v (Received d system answer ∷ before) h = inr (judged-line v before h)

-- ---- frames

left-back-all : (t : Rows) (arrivals : List Arrival) (side : Side) (port place : ℕ) (l : LinkRow)
    → IsAdmittedRun t arrivals → slice_get t.links place ≡ Some l →
    frames_among l.vl (entries_back (slots (turns_at t side port arrivals)))
    ≡ (if goes_to t l port then map passing (accepted_on t l side arrivals) else [])
left-back-all t arrivals side port place l run at = by (goes_to t l port) refl
  where
    frames : List Passing
    frames = frames_among l.vl (entries_back (slots (turns_at t side port arrivals)))

    back : frames_left l.vl (turns_at t side port arrivals) ≡ reverse frames
    back =
        let es = entries_back (slots (turns_at t side port arrivals)) in
        ap (frames_among l.vl) (in-reverse (slots (turns_at t side port arrivals)))
        ∙ ap (map passing_in) (filter-reverse (is_of l.vl) es)
        ∙ map-reverse passing_in (filter (is_of l.vl) es)

    by : (b : Bool) → goes_to t l port ≡ b → frames ≡ (if b then map passing (accepted_on t l side arrivals) else [])
    by true goes = left-back t arrivals side port place l run at goes
    by false stays = same-reversed frames []
        (sym back ∙ left-are-accepted t arrivals side port place l run at
        ∙ ap (λ b. if b then accepted_frames t l side arrivals else []) stays)

due-are : (t : Rows) (arrivals : List Arrival) (lines : List Line) (side : Side) (port place : ℕ)
    (l : LinkRow) → IsAdmittedRun t arrivals → judged_in lines ≡ verdicts_of t arrivals
    → slice_get t.links place ≡ Some l →
    frames_among l.vl (entries_back (turns_at t side port arrivals)) ≡ frames_due t l side port lines
due-are t arrivals lines side port place l run same at =
    sym (slots-back l.vl (turns_at t side port arrivals)
    (λ k d lt own. (in-time t arrivals side port place l run at k d lt own).0))
    ∙ left-back-all t arrivals side port place l run at
    ∙ ap (λ xs. if goes_to t l port then map passing xs else [])
    (sym (accepted-are t arrivals lines side place l run.lawful same at))

told-are : (t : Rows) (arrivals : List Arrival) (side : Side) (port vl : ℕ)
    → IsAdmittedRun t arrivals → 1 ≤ port → port ≤ 24 →
    frames_at vl side port (told t arrivals) ≡ frames_among vl (entries_back (turns_at t side port arrivals))
told-are t arrivals side port vl run low high =
    frames-told t vl side port (events_of t arrivals)
    ∙ ap (λ es. frames_among vl (entries_back (turns_in es)))
    (at-port-are t arrivals (events_of t arrivals) side port run.lawful run.timed low high
    (are-events t arrivals))
    ∙ ap (λ ts. frames_among vl (entries_back ts)) (turns-back side port (turns_at t side port arrivals))

pub frames-are : (t : Rows) (arrivals : List Arrival) → IsAdmittedRun t arrivals → AreFrames t (told t arrivals)
frames-are t arrivals run side port place l low high at =
    told-are t arrivals side port l.vl run low high
    ∙ due-are t arrivals (told t arrivals) side port place l run
    (verdicts-told t arrivals (events_of t arrivals) run.timed (are-events t arrivals)) at

-- ---- so far

back-more : (vl : ℕ) (later begun : List (Turn HeldFrame))
    → frames_among vl (entries_back (later ++ begun)) ≡ frames_among vl (entries_back later)
    ++ frames_among vl (entries_back begun)
back-more vl later begun =
    ap (λ es. map passing_in (filter (is_of vl) es)) (map-append (λ s. s.entry) later begun)
    ∙ ap (map passing_in) (filter-append (is_of vl) (entries_back later) (entries_back begun))
    ∙ map-append passing_in (filter (is_of vl) (entries_back later)) (filter (is_of vl) (entries_back begun))

pub first-frames : (t : Rows) (arrivals : List Arrival) → IsAdmittedRun t arrivals
    → AreFirstFrames t (told_so_far t arrivals)
first-frames t arrivals run side port place l low high at =
    let begun = events_so_far t arrivals in
    let are = are-so-far t arrivals in
    let more = so-far-is t arrivals begun are in
    let all : turns_at t side port arrivals ≡ turns_in (filter (is_at side port) more.0)
    ++ turns_in (filter (is_at side port) begun) =
    sym (ap turns_in (at-port-are t arrivals (events_of t arrivals) side port run.lawful run.timed
    low high (are-events t arrivals)) ∙ turns-back side port (turns_at t side port arrivals))
    ∙ ap (λ es. turns_in (filter (is_at side port) es)) more.1
    ∙ ap turns_in (filter-append (is_at side port) more.0 begun)
    ∙ turns-more (filter (is_at side port) more.0) (filter (is_at side port) begun) in (
      frames_among l.vl (entries_back (turns_in (filter (is_at side port) more.0))),
      sym (due-are t arrivals (told_so_far t arrivals) side port place l run
          (verdicts-told-so-far t arrivals begun run.timed are) at)
          ∙ ap (λ ts. frames_among l.vl (entries_back ts)) all
          ∙ back-more l.vl (turns_in (filter (is_at side port) more.0)) (turns_in (filter (is_at side port) begun))
          ∙ ap (λ fs. frames_among l.vl (entries_back (turns_in (filter (is_at side port) more.0)))
          ++ fs) (sym (frames-told t l.vl side port begun)),
    )

pub all-are-first : (t : Rows) (lines : List Line) → AreFrames t lines → AreFirstFrames t lines
all-are-first t lines all side port place l low high at = ([], sym (all side port place l low high at))

-- ---- in time

-- the accepted arrival whose frame a departure is
pub record IsAcceptedAs (t : Rows) (lines : List Line) (d : Leaving) (l : LinkRow) : Type 0 where
  pub arrival : Arrival
  pub among : IsIn arrival (accepted_in (verdicts_on l.vl d.side lines))
  pub verdict : IsIn (Verdict (record { arrival = arrival; reason = None })) lines
  pub frame : d.frame ≡ passing arrival
  pub side : d.side ≡ arrival.side
  pub named : names l.vl arrival.bytes ≡ true
  pub goes : goes_to t l d.port ≡ true

accepted-as : (t : Rows) (lines : List Line) (d : Leaving) (l : LinkRow)
    → IsIn d.frame (frames_due t l d.side d.port lines) → IsAcceptedAs t lines d l
accepted-as t lines d l due = by (goes_to t l d.port) refl due
  where
    by : (b : Bool) → goes_to t l d.port ≡ b
        → IsIn d.frame (if b then map passing (accepted_in (verdicts_on l.vl d.side lines)) else [])
        → IsAcceptedAs t lines d l
    by false stays h = absurd h
    by true goes h =
        let x = in-map passing d.frame (accepted_in (verdicts_on l.vl d.side lines)) h in
        let v = in-map (λ (w : Judged). w.arrival) x.0
        (filter (λ w. is_none w.reason) (verdicts_on l.vl d.side lines)) x.1 in
        let kept = in-filter (λ (w : Judged). is_none w.reason) v.0 (verdicts_on l.vl d.side lines) v.1 in
        let own_one = in-filter (λ (w : Judged). is_side d.side w.arrival.side
        && names l.vl w.arrival.bytes) v.0 (judged_in lines) kept.0 in
        let parts = and_parts (is_side d.side v.0.arrival.side) (names l.vl v.0.arrival.bytes) own_one.1 in
        let is : v.0 ≡ record { arrival = x.0; reason = None } =
        ap (λ (y : Arrival). record { arrival = y; reason = v.0.reason }) (sym v.2)
        ∙ ap (λ (o : Option Reason). record { arrival = x.0; reason = o })
        (none-is v.0.reason kept.1) in
        record {
          arrival = x.0;
          among = x.1;
          verdict = subst (λ w. IsIn (Verdict w) lines) is (judged-line v.0 lines own_one.0);
          frame = x.2;
          side = is_side-same d.side v.0.arrival.side parts.0 ∙ ap (λ (y : Arrival). y.side) (sym v.2);
          named = ap (λ (y : Arrival). names l.vl y.bytes) v.2 ∙ parts.1;
          goes = goes;
        }

-- the port of a departure is one of the switch
record HasPort (d : Departure) : Type 0 where
  low : 1 ≤ d.port
  high : d.port ≤ 24

port-of : (t : Rows) (arrivals : List Arrival) (d : Departure)
    → IsAmong (Left d) (admissions t arrivals)
    ⊎ ((side : Side) × IsAmong (Left d) (departures t side arrivals)) → HasPort d
port-of t arrivals d (inl own) = absurd (no-left t arrivals d own)
port-of t arrivals d (inr left) =
    let at = at-port-of t left.0 arrivals (Left d) left.1 in
    let r = turn-of left.0 at.port (turns_at t left.0 at.port arrivals) (Left d) at.among in
    let same : d ≡ r.d = cc r.is in
    let port : d.port ≡ at.port = ap (λ (e : Departure). e.port) same ∙ r.port_is in
    record { low = omega (arith, port, at.low); high = omega (arith, port, at.high) }

all-in : {X : Type 0} (P : X → Type 0) (x : X) (xs : List X) → AllByRecursion P xs → IsIn x xs → P x
all-in P x [] all h = absurd h
all-in P x (y ∷ ys) all (inl same) = subst P (sym same) all.0
all-in P x (y ∷ ys) all (inr later) = all-in P x ys all.1 later

module _ (t : Rows) (arrivals : List Arrival) (events : List Event) (run : IsAdmittedRun t arrivals)
    (judged : judged_in (told_by t events) ≡ verdicts_of t arrivals)
    (own_events : (e : Event) → IsAmong e events → IsAmong e (all_events t arrivals))
    (first : AreFirstFrames t (told_by t events)) where
  -- a departure among them, its line, and the arrival
  pub record IsLineOf (d : Departure) : Type 0 where
    pub in_time : switch.IsInTime t d.turn
    pub line : IsIn (leaving d) (left_in (told_by t events))
    pub accepted : IsAcceptedAs t (told_by t events) (leaving d) in_time.link

  in-departures : (d : Departure) (es : List Event) → IsAmong (Left d) es → IsIn d (departures_in es)
  unfolding departures_in
  in-departures d [] h = absurd h
  in-departures d (Came c ∷ before) (inl same) = absurd (cc same)
  in-departures d (Came c ∷ before) (inr later) = in-departures d before later
  in-departures d (Left e ∷ before) (inl same) = inl (cc same)
  in-departures d (Left e ∷ before) (inr later) = inr (in-departures d before later)

  pub line-of : (d : Departure) → IsAmong (Left d) events → IsLineOf d
  line-of d h =
      let soon = (as-promised t arrivals (events_of t arrivals) run
      (are-events t arrivals)).departures d
      ((are-events t arrivals).all (Left d) (own_events (Left d) h)) in
      let range = port-of t arrivals d (is-either t arrivals (Left d) (own_events (Left d) h)) in
      let line : IsIn (leaving d) (left_in (told_by t events)) =
      subst (IsIn (leaving d)) (sym (told-left t events))
      (map-in leaving d (departures_in events) (in-departures d events h)) in
      let is : is_leaving soon.link.vl d.side d.port (leaving d) ≡ true =
      rw (same-side d.side, eq-eqb d.port d.port refl) soon.named in
      let there : IsIn (passing_in d.turn.entry) (frames_at soon.link.vl d.side d.port (told_by t events)) =
      map-in (λ (x : Leaving). x.frame) (leaving d)
      (filter (is_leaving soon.link.vl d.side d.port) (left_in (told_by t events)))
      (filter-in (is_leaving soon.link.vl d.side d.port) (leaving d)
      (left_in (told_by t events)) line is) in
      let due = first d.side d.port soon.place soon.link range.low range.high soon.stands in
      let among : IsIn (passing_in d.turn.entry) (frames_due t soon.link d.side d.port (told_by t events)) =
      subst (IsIn (passing_in d.turn.entry)) (sym due.1)
      (in-append (passing_in d.turn.entry) due.0
      (frames_at soon.link.vl d.side d.port (told_by t events)) there) in
      record { in_time = soon; line = line; accepted = accepted-as t (told_by t events) (leaving d) soon.link among }

  -- its frame is one of its link
  pub frame-of : (d : Departure) (h : IsAmong (Left d) events)
      → IsFrameOn (line-of d h).in_time.link.vl d.turn.entry.item.bytes
  frame-of d h =
      let is = line-of d h in
      let l = is.in_time.link in
      let among : IsIn is.accepted.arrival (accepted_on t l d.side arrivals) =
      subst (IsIn is.accepted.arrival)
      (accepted-are t arrivals (told_by t events) d.side is.in_time.place l run.lawful judged
      is.in_time.stands) is.accepted.among in
      let frame : IsFrameOn (rule_of t l).vl is.accepted.arrival.bytes =
      all-in (λ (x : Arrival). IsFrameOn (rule_of t l).vl x.bytes) is.accepted.arrival
      (accepted_on t l d.side arrivals)
      (accepted-frames (rule_of t l) (own l.vl d.side arrivals)) among in
      subst (IsFrameOn l.vl) (sym (ap (λ (p : Passing). p.bytes) is.accepted.frame))
      (subst (λ vl. IsFrameOn vl is.accepted.arrival.bytes) (vl-is t l) frame)

  pub lines-in-time : AllLeaveInTime t (told_by t events)
  lines-in-time d h =
      let e = in-map leaving d (departures_in events) (subst (IsIn d) (told-left t events) h) in
      let among = left-among e.0 events e.1 in
      let is = line-of e.0 among in
      let time : e.0.turn.entry.time ≡ is.accepted.arrival.time = ap (λ (p : Passing). p.time) is.accepted.frame in
      subst (LeavesInTime t (told_by t events)) (sym e.2) (record {
        arrival = is.accepted.arrival;
        accepted = is.accepted.verdict;
        frame = is.accepted.frame;
        side = is.accepted.side;
        place = is.in_time.place;
        link = is.in_time.link;
        stands = is.in_time.stands;
        named = is.accepted.named;
        goes = is.accepted.goes;
        within = (let late = is.in_time.within in omega (arith, late, time));
        no_sooner = subst (λ (p : Passing). p.time + wire_of (length p.bytes) * byte_ns_at t e.0.port ≤ e.0.turn.end)
            is.accepted.frame (departs-no-sooner t arrivals e.0 run.timed (own_events (Left e.0) among)
            is.in_time.not_old);
      })

-- ---- alone

own-judged : (t : Rows) (arrivals : List Arrival) (lines : List Line) (side : Side) (l : LinkRow)
    → AreVerdicts t arrivals lines → arrivals_judged (verdicts_on l.vl side lines)
    ≡ own l.vl side arrivals
own-judged t arrivals lines side l are =
    map-filter (λ (v : Judged). v.arrival)
    (λ (x : Arrival). is_side side x.side && names l.vl x.bytes) (judged_in lines)
    ∙ ap (filter (λ (x : Arrival). is_side side x.side && names l.vl x.bytes)) are.each

pub lines-are-alone : (t : Rows) (arrivals : List Arrival) (lines : List Line)
    → AreVerdicts t arrivals lines → AreFrames t lines → AreAlone t arrivals lines
lines-are-alone t arrivals lines verdicts frames others other_lines side place l also forwarded at same = record {
  verdicts = equal;
  frames = λ port low high. frames side port place l low high at
      ∙ ap (λ vs. if goes_to t l port then map passing (accepted_in vs) else []) equal
      ∙ sym (forwarded side port place l low high at);
}
  where
    equal : verdicts_on l.vl side lines ≡ verdicts_on l.vl side other_lines
    equal = one-verdicts (rule_of t l) (verdicts_on l.vl side lines) (verdicts_on l.vl side other_lines)
        (own-judged t arrivals lines side l verdicts ∙ same ∙ sym (own-judged t others other_lines side l also))
        (verdicts.own side place l at) (also.own side place l at)
