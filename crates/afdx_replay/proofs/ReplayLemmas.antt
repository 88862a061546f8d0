-- What a replay has told, one event more, and what it answers then.
use Rattle.std.proofs.Common.{◌≡◌, ℕ, ◌+◌, ◌≤◌, List, [], ◌∷◌, ◌++◌, length, refl, ap, sym, ◌∙◌}
use Rattle.std.proofs.Common.{subst, Option, Some, None, Bool, true, false, arith, append_assoc, append-nil}
use Rattle.std.proofs.Common.{if◌then◌else◌}
use Rattle.std.specs.Prelude.{IfSome}
use Rattle.std.specs.Io.KnownBytes.{Appends}
use Rattle.std.proofs.KnownBytes.{Appends-trans, Appends-nil}
use Rattle.afdx_frame.specs.declared.link.Side.{Side}
use Rattle.afdx_config.specs.Rows.{Rows}
use Rattle.afdx_police.specs.Arrival.{Arrival}
use Rattle.afdx_police.specs.declared.shape.Reason.{Reason}
use Rattle.afdx_input_lines.specs.Calls.{AppendsFront}
use Rattle.afdx_input_lines.specs.Lines.{lines_of}
use Rattle.afdx_input_lines.specs.declared.fault.RunFault.TheVariants as run
use Rattle.afdx_end_systems.specs.Handovers.{HandedOver}
use Rattle.afdx_end_systems.specs.Receptions.{reception_line, is_delivered}
use Rattle.afdx_end_systems.specs.StandsFor as systems
use Rattle.afdx_end_systems.specs.declared.systems.Systems.{Systems}
use Rattle.afdx_network.specs.Events.{Event, Came, Left, Admission, Departure, arrivals_in}
use Rattle.afdx_network.specs.Order.{AreEvents, events_of}
use Rattle.afdx_network.specs.Network as network
use Rattle.afdx_network.specs.declared.network.Network.{Network}
use Rattle.afdx_switch.specs.Departures.{giving_side}
use Rattle.afdx_switch.specs.declared.switch.Departure.{Departure as HandedOut}
use Rattle.afdx_switch.specs.declared.verdict.Verdict.{Verdict}
use Rattle.afdx_network.proofs.FirstLemmas.{are-first, so-far}
use Rattle.afdx_network.proofs.OrderedLemmas.{one-order, one-order-so-far, begins}
use Rattle.afdx_replay.specs.policing.Text.{verdict_line}
use Rattle.afdx_replay.specs.replaying.Text.{handed_over, frames_left, departure_line, heard}
use Rattle.afdx_replay.specs.replaying.Text.{lines_after, lines_at, loss_lines, admission_lines, place_text, replay_text}
use Rattle.afdx_command_tables.specs.Counts.{no_counts}
use Rattle.afdx_replay.specs.replaying.Text.{with_admission, with_departure, with_event, replay_counts}
use Rattle.afdx_command_tables.specs.Counts.{with_lines}
use Rattle.afdx_replay.specs.replaying.Replayed.{WritesSoFar, WritesSome, WritesAll, HasTold, AreTold}
use Rattle.afdx_replay.specs.replaying.Replayed.{ToldAll, TellsDeparture, HasRoom, AreLow}
use Rattle.afdx_input_sources.specs.Items.{most_frames}
use Rattle.afdx_input_sources.specs.Listed.{frames, arrivals_of}
use Rattle.afdx_command_tables.specs.declared.summary.Summary.{Summary}
use Rattle.afdx_input_sources.specs.Stops.{StopsAt}
use Rattle.afdx_input_sources.proofs.RunLemmas.{IsDone, GaveLines-start}
use Rattle.afdx_text.proofs.OutputLemmas.{whole_front as front-whole, front-more, front-longer}

abbrev pub hand : Side → ℕ → ℕ → ℕ → List ℕ → HandedOver
hand side port time line bytes = record { side = side; port = port; time = time; line = line; bytes = bytes }

-- what is handed out for a departure
module _ (name : List ℕ) (value : HandedOut) (d : Departure) (h : network.Hands value d) where
  pub line-is : departure_line value.left.too_old value.left.item.tag
      value.left.end (place_text (giving_side value) name) value.port
      ≡ departure_line d.turn.too_old d.turn.entry.item.tag d.turn.end (place_text d.side name) d.port
  line-is =
      ap (λ l. departure_line l.too_old l.item.tag l.end (place_text (giving_side value) name) value.port) h.left
      ∙ ap (λ s. departure_line d.turn.too_old d.turn.entry.item.tag d.turn.end (place_text s name)
      value.port) h.side
      ∙ ap (λ k. departure_line d.turn.too_old d.turn.entry.item.tag d.turn.end (place_text d.side name) k) h.port

module _ (value : HandedOut) (d : Departure) (h : network.Hands value d) where
  pub old-is : value.left.too_old ≡ d.turn.too_old
  old-is = ap (λ l. l.too_old) h.left

  pub handed-is : (side : Side) (port time line : ℕ) (bytes : List ℕ) → side ≡ giving_side value → port ≡ value.port
      → time ≡ value.left.end → line ≡ value.left.item.tag
      → bytes ≡ value.left.item.bytes →
      hand side port time line bytes ≡ handed_over d
  handed-is side port time line bytes s p e l b =
      let end : time ≡ d.turn.end = e ∙ ap (λ x. x.end) h.left in
      let tag : line ≡ d.turn.entry.item.tag = l ∙ ap (λ x. x.item.tag) h.left in
      let all : bytes ≡ d.turn.entry.item.bytes = b ∙ ap (λ x. x.item.bytes) h.left in
      let number : port ≡ d.port = p ∙ h.port in
      ap (λ s. hand s port time line bytes) (s ∙ h.side) ∙ ap (λ k. hand d.side k time line bytes) number
      ∙ ap (λ k. hand d.side d.port k line bytes) end
      ∙ ap (λ k. hand d.side d.port d.turn.end k bytes) tag
      ∙ ap (λ k. hand d.side d.port d.turn.end d.turn.entry.item.tag k) all

module _ (name : List ℕ) (t : Rows) (before : List Event) (d : Departure) where
  -- the lines of a departure that was too old, and of one whose frame came to its system
  old-lines : d.turn.too_old ≡ true →
      departure_line true d.turn.entry.item.tag d.turn.end (place_text d.side name) d.port
      ≡ lines_at name t before (Left d)
  old-lines e =
      sym (append-nil (departure_line true d.turn.entry.item.tag d.turn.end (place_text d.side name) d.port))
      ∙ ap (λ b. departure_line b d.turn.entry.item.tag d.turn.end (place_text d.side name) d.port
      ++ heard b t (frames_left before) (handed_over d)) (sym e)

  pub left-lines : d.turn.too_old ≡ false →
      departure_line false d.turn.entry.item.tag d.turn.end (place_text d.side name) d.port
      ++ reception_line t (frames_left before) (handed_over d) ≡ lines_at name t before (Left d)
  left-lines e = ap (λ b. departure_line b d.turn.entry.item.tag d.turn.end (place_text d.side name) d.port
      ++ heard b t (frames_left before) (handed_over d)) (sym e)

  -- it is told
  pub tells-old : (s : Systems) (old counts : Summary) (a b : Option (List ℕ)) → d.turn.too_old ≡ true
      → systems.StandsFor t s (frames_left before) → counts ≡ with_departure old true false
      → Appends a b (departure_line true d.turn.entry.item.tag d.turn.end (place_text d.side name) d.port)
      → TellsDeparture name t s old counts before d a b
  tells-old s old counts a b e stands more written = record {
    systems_are = subst (λ b.
        systems.StandsFor t s (if b then frames_left before else handed_over d
        ∷ frames_left before)) (sym e) stands;
    counted = more ∙ ap (λ b. with_departure old b
        (is_delivered t (frames_left before) (handed_over d))) (sym e);
    written = subst (λ x. Appends a b x) (old-lines e) written;
  }

  pub tells-left : (s : Systems) (old counts : Summary) (a b : Option (List ℕ)) (delivered : Bool)
      → d.turn.too_old ≡ false → systems.StandsFor t s (handed_over d ∷ frames_left before)
      → delivered ≡ is_delivered t (frames_left before) (handed_over d) → counts ≡ with_departure old false delivered →
      Appends a b (departure_line false d.turn.entry.item.tag d.turn.end (place_text d.side name) d.port
      ++ reception_line t (frames_left before) (handed_over d))
      → TellsDeparture name t s old counts before d a b
  tells-left s old counts a b delivered e stands heard_is more written = record {
    systems_are = subst (λ b.
        systems.StandsFor t s (if b then frames_left before else handed_over d
        ∷ frames_left before)) (sym e) stands;
    counted =
        more ∙ ap (λ m. with_departure old false m) heard_is
        ∙ ap (λ b. with_departure old b (is_delivered t (frames_left before) (handed_over d))) (sym e);
    written = subst (λ x. Appends a b x) (left-lines e) written;
  }

-- a line, and what is told of the frame behind it
module _ (t : Rows) (before : List HandedOver) (h other : HandedOver) (a m b : Option (List ℕ))
    (line : List ℕ) (same : h ≡ other) (first : Appends a m line) where
  pub heard-whole : Appends m b (reception_line t before h) → Appends a b (line ++ reception_line t before other)
  heard-whole more = Appends-trans a m b line (reception_line t before other) first
      (subst (λ z. Appends m b (reception_line t before z)) same more)

  pub heard-front : AppendsFront m b (reception_line t before h)
      → AppendsFront a b (line ++ reception_line t before other)
  heard-front more = front-more a m b line (reception_line t before other) first
      (subst (λ z. AppendsFront m b (reception_line t before z)) same more)

pub text-start : (t : Rows) → replay_text t [] ≡ []
unfolding replay_text
text-start t = refl

pub text-more : (t : Rows) (e : Event) (before : List Event) → replay_text t (e ∷ before)
    ≡ replay_text t before ++ lines_after t before e
unfolding replay_text
text-more t e before = refl

counts-more : (t : Rows) (e : Event) (before : List Event) → replay_counts t (e ∷ before)
    ≡ with_event t before e (replay_counts t before)
unfolding replay_counts
counts-more t e before = refl

counts-start : (t : Rows) → replay_counts t [] ≡ no_counts
unfolding replay_counts
counts-start t = refl

-- a departure more is told
pub told-left : (t : Rows) (n after : Network) (s systems_after : Systems)
    (counts counts_after : Summary) (old middle new : Option (List ℕ)) (before : List Event)
    (d : Departure) →
    HasTold t n s counts old middle before → network.StandsFor t after (Left d ∷ before)
    → TellsDeparture [] t systems_after counts counts_after before d middle new →
    HasTold t after systems_after counts_after old new (Left d ∷ before)
told-left t n after s systems_after counts counts_after old middle new before d h stands tells = record {
  switches_are = stands;
  systems_are = tells.systems_are;
  counted = tells.counted ∙ ap (λ k. with_event t before (Left d) k) h.counted
      ∙ sym (counts-more t (Left d) before);
  written = subst (λ x. Appends old new x) (sym (text-more t (Left d) before))
      (Appends-trans old middle new (replay_text t before) (lines_after t before (Left d)) h.written
      tells.written);
}

-- the lines of a verdict that tells an admission
pub lines-told : (name : List ℕ) (v : Verdict) (c : Admission) → network.Tells v c
    → verdict_line c.arrival.tag (place_text c.arrival.side name) (network.reason_in v)
    ++ loss_lines c.arrival.tag (place_text c.arrival.side name) (network.lost_in v) ≡ admission_lines name c
lines-told name v c tells =
    ap (λ r. verdict_line c.arrival.tag (place_text c.arrival.side name) r
    ++ loss_lines c.arrival.tag (place_text c.arrival.side name) (network.lost_in v)) tells.reason
    ∙ ap (λ l. verdict_line c.arrival.tag (place_text c.arrival.side name) c.reason
    ++ loss_lines c.arrival.tag (place_text c.arrival.side name) l) tells.lost

-- an arrival more is told
pub told-came : (t : Rows) (n after : Network) (s : Systems) (counts counts_after : Summary)
    (old middle new : Option (List ℕ)) (before : List Event) (c : Admission)
    (reason : Option Reason) (lost : ℕ) (lines : List ℕ) →
    HasTold t n s counts old middle before → network.StandsFor t after (Came c ∷ before)
    → reason ≡ c.reason → lost ≡ length c.lost
    → counts_after ≡ with_admission counts reason lost → lines ≡ admission_lines [] c →
    Appends middle new lines → HasTold t after s counts_after old new (Came c ∷ before)
told-came t n after s counts counts_after old middle new before c reason lost lines h stands
    reason_is lost_is more is w = record {
      switches_are = stands;
      systems_are = h.systems_are;
      counted =
          more ∙ ap (λ k. with_admission k reason lost) h.counted
          ∙ ap (λ r. with_admission (replay_counts t before) r lost) reason_is
          ∙ ap (λ k. with_admission (replay_counts t before) c.reason k) lost_is
          ∙ sym (counts-more t (Came c) before);
      written = subst (λ x. Appends old new x) (sym (text-more t (Came c) before))
          (Appends-trans old middle new (replay_text t before) (admission_lines [] c) h.written
          (subst (λ x. Appends middle new x) is w));
    }

-- ---- beginnings

-- the text of more events begins with that of these
text-later : (t : Rows) (later events : List Event) → (rest : List ℕ)
    × (replay_text t (later ++ events) ≡ replay_text t events ++ rest)
text-later t [] events = ([], sym (append-nil (replay_text t events)))
text-later t (e ∷ later) events =
    let r = text-later t later events in (
      r.0 ++ lines_after t (later ++ events) e,
      text-more t e (later ++ events)
          ∙ ap (λ (xs : List ℕ). xs ++ lines_after t (later ++ events) e) r.1
          ∙ append_assoc (replay_text t events) r.0 (lines_after t (later ++ events) e),
    )

-- what begins the text of the events so far begins that of all events
pub some-of : (t : Rows) (n : Network) (events : List Event) (old new : Option (List ℕ))
    → network.StandsFor t n events → AppendsFront old new (replay_text t events)
    → WritesSome t old new (arrivals_in events)
some-of t n events old new st front =
    let all = begins t events (are-first t n events st) in
    let more = text-later t all.0 events in
    subst (λ es. AppendsFront old new (replay_text t es)) (sym all.1)
    (subst (λ x. AppendsFront old new x) (sym more.1)
    (front-longer old new (replay_text t events) more.0 front))

pub told-some : (t : Rows) (n : Network) (s : Systems) (counts : Summary)
    (old new : Option (List ℕ)) (events : List Event) → HasTold t n s counts old new events
    → WritesSome t old new (arrivals_in events)
told-some t n s counts old new events h =
    some-of t n events old new h.switches_are (front-whole old new (replay_text t events) h.written)

-- a beginning of the lines of one event more is written
pub begun-left : (t : Rows) (n after : Network) (s : Systems) (counts : Summary)
    (old middle new : Option (List ℕ)) (before : List Event) (d : Departure) →
    HasTold t n s counts old middle before → network.StandsFor t after (Left d ∷ before)
    → AppendsFront middle new (lines_after t before (Left d)) →
    WritesSome t old new (arrivals_in before)
begun-left t n after s counts old middle new before d h stands w =
    some-of t after (Left d ∷ before) old new stands
    (subst (λ x. AppendsFront old new x) (sym (text-more t (Left d) before))
    (front-more old middle new (replay_text t before) (lines_after t before (Left d)) h.written w))

pub begun-came : (t : Rows) (n after : Network) (s : Systems) (counts : Summary)
    (old middle new : Option (List ℕ)) (before : List Event) (c : Admission) (lines : List ℕ) →
    HasTold t n s counts old middle before → network.StandsFor t after (Came c ∷ before)
    → lines ≡ admission_lines [] c → AppendsFront middle new lines
    → WritesSome t old new (c.arrival ∷ arrivals_in before)
begun-came t n after s counts old middle new before c lines h stands is w =
    some-of t after (Came c ∷ before) old new stands
    (subst (λ x. AppendsFront old new x) (sym (text-more t (Came c) before))
    (front-more old middle new (replay_text t before) (admission_lines [] c) h.written
    (subst (λ x. AppendsFront middle new x) is w)))

pub are-some : (t : Rows) (n : Network) (s : Systems) (counts : Summary) (old new : Option (List ℕ))
    (past : List Arrival) → AreTold t n s counts old new past → WritesSome t old new past
are-some t n s counts old new past h =
    subst (λ p. WritesSome t old new p) h.arrivals_are (told-some t n s counts old new h.events h.told)

-- what is told of arrivals is the text of the events up to the last of them
pub are-so-far : (t : Rows) (n : Network) (s : Systems) (counts : Summary)
    (old new : Option (List ℕ)) (past : List Arrival) → AreTold t n s counts old new past
    → WritesSoFar t old new past
are-so-far t n s counts old new past h =
    let st = h.told.switches_are in
    let is = one-order-so-far t (arrivals_in h.events) h.events
    (so-far t h.events st.follows (are-first t n h.events st) h.at_arrival) in
    subst (λ p. WritesSoFar t old new p) h.arrivals_are
    (subst (λ es. Appends old new (replay_text t es)) is h.told.written)

-- where these are all events
pub told-all : (t : Rows) (n : Network) (s : Systems) (counts : Summary) (old new : Option (List ℕ))
    (events : List Event) → HasTold t n s counts old new events
    → AreEvents t (arrivals_in events) events →
    ToldAll t counts old new (arrivals_in events)
told-all t n s counts old new events h all =
    let is = one-order t (arrivals_in events) events all in
    record {
      counted = h.counted ∙ ap (λ es. replay_counts t es) is;
      written = subst (λ es. Appends old new (replay_text t es)) is h.written;
    }

-- ---- the start and the end

pub are-told-start : (t : Rows) (n : Network) (s : Systems) (output : Option (List ℕ))
    → network.StandsFor t n [] → systems.StandsFor t s [] → AreTold t n s no_counts output output []
are-told-start t n s output switches hears = record {
  events = [];
  arrivals_are = refl;
  at_arrival = tt;
  told = record {
    switches_are = switches;
    systems_are = hears;
    counted = sym (counts-start t);
    written = subst (λ x. Appends output output x) (sym (text-start t)) (Appends-nil output);
  };
}

done-all : (t : Rows) (told : List Arrival → Type 0) (counts summary : Summary) (n : ℕ)
    (lines : List (List ℕ)) (old new : Option (List ℕ)) → IsDone frames told n lines
    → ((past : List Arrival) → told past → ToldAll t counts old new past) →
    summary ≡ with_lines counts n → WritesAll t lines old new summary
done-all t told counts summary n lines old new h all e =
    let a = all (arrivals_of lines (length lines)) h.are_told in
    record {
      sound = h.sound;
      written = a.written;
      counted = e ∙ ap (λ c. with_lines c n) a.counted
          ∙ ap (λ k. with_lines (replay_counts t (events_of t (arrivals_of lines (length lines))))
          k) h.all;
    }

pub told-done : (t : Rows) (told : List Arrival → Type 0) (counts summary : Summary) (n : ℕ)
    (input old new : Option (List ℕ)) → IfSome input (λ bytes. IsDone frames told n (lines_of bytes)) →
    ((past : List Arrival) → told past → ToldAll t counts old new past)
    → summary ≡ with_lines counts n
    → IfSome input (λ bytes. WritesAll t (lines_of bytes) old new summary)
told-done t told counts summary n None old new h all e = tt
told-done t told counts summary n (Some bytes) old new h all e =
    done-all t told counts summary n (lines_of bytes) old new h all e

pub room-start : (held n : ℕ) → held ≡ 0 → n ≡ 0 → HasRoom no_counts held n
room-start held n h k = record {
  verdicts = omega (arith, k);
  losses = omega (arith, k);
  turns = omega (arith, h, k);
  messages = omega arith;
}

pub room-less : (counts : Summary) (held more n : ℕ) → held ≤ more → HasRoom counts more n → HasRoom counts held n
room-less counts held more n le h =
    record {
      verdicts = h.verdicts;
      losses = h.losses;
      turns = omega (arith, le, h.turns);
      messages = h.messages;
    }

pub room-came : (counts after : Summary) (reason : Option Reason) (lost held n : ℕ) → lost ≤ 24
    → after ≡ with_admission counts reason lost → HasRoom counts held n → HasRoom after (held + 24) (n + 1)
room-came counts after reason lost held n few e h = rw e (by reason)
  where
    by : (r : Option Reason) → HasRoom (with_admission counts r lost) (held + 24) (n + 1)
    by None =
        let verdicts = h.verdicts in
        let losses = h.losses in
        let turns = h.turns in
        record {
          verdicts = omega (arith, verdicts);
          losses = omega (arith, losses, few);
          turns = omega (arith, turns);
          messages = h.messages;
        }
    by (Some r) =
        let verdicts = h.verdicts in
        let losses = h.losses in
        let turns = h.turns in
        record {
          verdicts = omega (arith, verdicts);
          losses = omega (arith, losses);
          turns = omega (arith, turns);
          messages = h.messages;
        }

-- there is room for one more of each
pub room-low : (counts : Summary) (held n : ℕ) → n ≤ most_frames → HasRoom counts held n → AreLow counts
room-low counts held n few h =
    let verdicts = h.verdicts in
    let losses = h.losses in
    let turns = h.turns in
    let messages = h.messages in
    record {
      accepted = omega (arith, few, verdicts);
      dropped = omega (arith, few, verdicts);
      lost = omega (arith, few, losses);
      departed = omega (arith, few, turns);
      too_old = omega (arith, few, turns);
      delivered = omega (arith, few, turns, messages);
    }

-- ---- where a replay stops

-- memory ran out before anything was read
pub stops-start : (t : Rows) (input output : Option (List ℕ)) →
    IfSome input (λ bytes. StopsAt (WritesSoFar t output output) (WritesSome t output output) bytes input run.Memory)
stops-start t None output = tt
stops-start t (Some bytes) output = (
  0,
  GaveLines-start (Some bytes),
  record {
    within = omega arith;
    sound = λ k lt. absurd (omega (arith, lt));
    are_told = (
      [],
      replay_text t (events_of t (arrivals_of (lines_of bytes) 0)),
      refl,
      Appends-nil output,
    );
  },
)
