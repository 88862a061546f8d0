-- What a replay tells of a network whose tables are admitted.
use Rattle.std.proofs.Common.{append_assoc, ◌≡◌, ℕ, ◌==◌, ◌&&◌, Bool, true, false, not, List, []}
use Rattle.std.proofs.Common.{◌∷◌, ◌++◌, length, refl, sym, ap, ◌∙◌, subst, arith, inl, inr}
use Rattle.std.specs.Prelude.{Option, Some, None, if◌then◌else◌}
use Rattle.afdx_frame.proofs.BuiltLemmas.{built_is_computed}
use Rattle.afdx_config.specs.Reading.{listener_at}
use Rattle.afdx_config.specs.Rows.{Rows}
use Rattle.afdx_police.specs.Arrival.{Arrival}
use Rattle.afdx_police.specs.declared.shape.Reason.{Reason}
use Rattle.afdx_switch.specs.Admitted.{IsAdmittedRun}
use Rattle.afdx_network.specs.Events.{Event, Came, Left, Admission, Departure}
use Rattle.afdx_network.specs.Order.{IsAmong, events_of, events_so_far}
use Rattle.afdx_network.proofs.OrderedLemmas.{are-events, are-so-far}
use Rattle.afdx_law_promises.specs.NetworkPromises.{EventsKeepPromises, EventsSoFarKeepPromises}
use Rattle.afdx_law_promises.specs.Lines.{Departed, leaving, with_reception, told_by}
use Rattle.afdx_law_promises.specs.Promises.{told, told_so_far}
use Rattle.afdx_law_promises.specs.Receptions.{brought, brought_by}
use Rattle.afdx_law_promises.proofs.AcceptedLemmas.{told-accepted, told-so-far-accepted}
use Rattle.afdx_law_promises.proofs.EventLemmas.{as-promised, so-far-promised}
use Rattle.afdx_law_promises.proofs.ToldLemmas as promise
use Rattle.afdx_end_systems.specs.Handovers.{came_to, arrival_of}
use Rattle.afdx_end_systems.specs.Receptions.{line_at, reception_line, is_delivered}
use Rattle.afdx_replay.specs.policing.Text.{verdict_line}
use Rattle.afdx_text.specs.OutLines.{side_text}
use Rattle.afdx_replay.specs.replaying.Promises.{text_of, ReplayIsAsPromised, ReplaySoFarIsAsPromised, NoneIsCounted}
use Rattle.afdx_replay.specs.replaying.Text.{handed_over, frames_left, loss_lines, departure_line}
use Rattle.afdx_replay.specs.replaying.Text.{heard, lines_after, replay_text, replay_counts}
use Rattle.afdx_replay.specs.replaying.Text.{with_admission, with_departure}
use Rattle.afdx_command_tables.specs.declared.summary.Summary.{Summary}

-- ---- events of which no copy is lost and none is too old

record AreKept (events : List Event) : Type 0 where
  came : (c : Admission) → IsAmong (Came c) events → c.lost ≡ []
  left : (d : Departure) → IsAmong (Left d) events → d.turn.too_old ≡ false

older : (e : Event) (before : List Event) → AreKept (e ∷ before) → AreKept before
older e before kept = record { came = λ c h. kept.came c (inr h); left = λ d h. kept.left d (inr h) }

append-none : (xs : List ℕ) → xs ++ [] ≡ xs
append-none [] = refl
append-none (x ∷ xs) = ap (λ ys. x ∷ ys) (append-none xs)

-- ---- what is handed over is what the events bring

handed-are-brought : (port : ℕ) (events : List Event) → came_to port (frames_left events) ≡ brought_by port events
unfolding came_to brought_by
handed-are-brought port [] = refl
handed-are-brought port (Came c ∷ before) = handed-are-brought port before
handed-are-brought port (Left d ∷ before) = by d.turn.too_old (d.port == port) (handed-are-brought port before)
  where
    by : (old here : Bool) → came_to port (frames_left before) ≡ brought_by port before →
        came_to port (if old then frames_left before else handed_over d ∷ frames_left before)
        ≡ (if (d.port == port) && not old then brought d.side d.turn
        ∷ brought_by port before else brought_by port before)
    by true here rest = rest
        ∙ sym (ap (λ b. if b then brought d.side d.turn ∷ brought_by port before else brought_by
        port before) (and-false (d.port == port)))
      where
        and-false : (b : Bool) → (b && false) ≡ false
        and-false true = refl
        and-false false = refl
    by false here rest = at (d.port == port)
      where
        at : (b : Bool) → (if b then arrival_of (handed_over d)
            ∷ came_to port (frames_left before) else came_to port (frames_left before))
            ≡ (if b && true then brought d.side d.turn ∷ brought_by port before else brought_by port
            before)
        at true = ap (λ zs. brought d.side d.turn ∷ zs) rest
        at false = rest

-- its lines are those that tell it
lines-kept : (t : Rows) (before : List Event) (e : Event) → AreKept (e ∷ before)
    → text_of t (told_by t before) ++ lines_after t before e ≡ text_of t (told_by t (e ∷ before))
unfolding text_of told_by reception_line
lines-kept t before (Came c) kept =
    ap (λ ports. text_of t (told_by t before)
    ++ (verdict_line c.arrival.tag (side_text c.arrival.side) c.reason
    ++ loss_lines c.arrival.tag (side_text c.arrival.side) ports)) (kept.came c (inl refl))
    ∙ ap (λ zs. text_of t (told_by t before) ++ zs)
    (append-none (verdict_line c.arrival.tag (side_text c.arrival.side) c.reason))
lines-kept t before (Left d) kept =
    ap (λ b. text_of t (told_by t before)
    ++ (departure_line b d.turn.entry.item.tag d.turn.end (side_text d.side) d.port
    ++ heard b t (frames_left before) (handed_over d))) (kept.left d (inl refl))
    ∙ ap (λ past. text_of t (told_by t before)
    ++ (departure_line false d.turn.entry.item.tag d.turn.end (side_text d.side) d.port
    ++ line_at t past (handed_over d) (listener_at t d.port)))
    (handed-are-brought d.port before)
    ∙ by (listener_at t d.port)
  where
    by : (o : Option ℕ) → text_of t (told_by t before)
        ++ (departure_line false d.turn.entry.item.tag d.turn.end (side_text d.side) d.port
        ++ line_at t (brought_by d.port before) (handed_over d) o)
        ≡ text_of t (with_reception t (brought_by d.port before) (leaving d) o
        (Departed (leaving d) ∷ told_by t before))
    by None = ap (λ zs. text_of t (told_by t before) ++ zs)
        (append-none (departure_line false d.turn.entry.item.tag d.turn.end (side_text d.side) d.port))
    by (Some k) = sym (append_assoc (text_of t (told_by t before))
        (departure_line false d.turn.entry.item.tag d.turn.end (side_text d.side) d.port)
        (line_at t (brought_by d.port before) (handed_over d) (Some k)))

text-kept : (t : Rows) (events : List Event) → AreKept events → replay_text t events ≡ text_of t (told_by t events)
unfolding replay_text text_of told_by
text-kept t [] kept = refl
text-kept t (e ∷ before) kept =
    ap (λ text. text ++ lines_after t before e) (text-kept t before (older e before kept))
    ∙ lines-kept t before e kept

with-none-lost : (s : Summary) (o : Option Reason) (n : ℕ) → n ≡ 0 → s.lost ≡ 0 → (with_admission s o n).lost ≡ 0
with-none-lost s None n none zero_so_far = omega (arith, none, zero_so_far)
with-none-lost s (Some r) n none zero_so_far = zero_so_far

same-lost : (s : Summary) (old message : Bool) → (with_departure s old message).lost ≡ s.lost
same-lost s true message = refl
same-lost s false true = refl
same-lost s false false = refl

same-old : (s : Summary) (o : Option Reason) (n : ℕ) → (with_admission s o n).too_old ≡ s.too_old
same-old s None n = refl
same-old s (Some r) n = refl

kept-old : (s : Summary) (old message : Bool) → old ≡ false → (with_departure s old message).too_old ≡ s.too_old
kept-old s true message slot = absurd (cc slot)
kept-old s false true slot = refl
kept-old s false false slot = refl

none-lost : (t : Rows) (events : List Event) → AreKept events → (replay_counts t events).lost ≡ 0
unfolding replay_counts
none-lost t [] kept = refl
none-lost t (Came c ∷ before) kept =
    with-none-lost (replay_counts t before) c.reason (length c.lost)
    (ap length (kept.came c (inl refl))) (none-lost t before (older (Came c) before kept))
none-lost t (Left d ∷ before) kept =
    same-lost (replay_counts t before) d.turn.too_old
    (is_delivered t (frames_left before) (handed_over d))
    ∙ none-lost t before (older (Left d) before kept)

none-old : (t : Rows) (events : List Event) → AreKept events → (replay_counts t events).too_old ≡ 0
unfolding replay_counts
none-old t [] kept = refl
none-old t (Came c ∷ before) kept = same-old (replay_counts t before) c.reason (length c.lost)
    ∙ none-old t before (older (Came c) before kept)
none-old t (Left d ∷ before) kept =
    kept-old (replay_counts t before) d.turn.too_old
    (is_delivered t (frames_left before) (handed_over d)) (kept.left d (inl refl))
    ∙ none-old t before (older (Left d) before kept)

-- ---- the laws

module _ (t : Rows) (arrivals : List Arrival) (run : IsAdmittedRun t arrivals) where
  promised : EventsKeepPromises t arrivals (events_of t arrivals)
  promised = as-promised t arrivals (events_of t arrivals) run (are-events t arrivals)

  kept : AreKept (events_of t arrivals)
  kept = record { came = λ c h. (promised.admissions c h).lost; left = λ d h. (promised.departures d h).not_old }

  promised_so_far : EventsSoFarKeepPromises t arrivals (events_so_far t arrivals)
  promised_so_far = so-far-promised t arrivals (events_so_far t arrivals) run (are-so-far t arrivals)

kept-after : (later events : List Event) → AreKept (later ++ events) → AreKept events
kept-after [] events all = all
kept-after (e ∷ later) events all = kept-after later events (older e (later ++ events) all)

-- the text of first events is that of the lines that tell them
pub first-text : (t : Rows) (arrivals : List Arrival) (later events : List Event)
    → events_of t arrivals ≡ later ++ events → IsAdmittedRun t arrivals
    → replay_text t events ≡ text_of t (told_by t events)
first-text t arrivals later events are run =
    text-kept t events (kept-after later events (subst AreKept are (kept t arrivals run)))

pub replay-promised : ReplayIsAsPromised
replay-promised t arrivals run = record {
  lines = told t arrivals;
  written = text-kept t (events_of t arrivals) (kept t arrivals run);
  promises = promise.kept t arrivals run;
  accepted = told-accepted built_is_computed t arrivals run.lawful run.timed;
  once = promise.told-once built_is_computed t arrivals run;
  once_so_far = promise.told-once-so-far built_is_computed t arrivals run;
}

pub so-far-told : ReplaySoFarIsAsPromised
so-far-told t arrivals run =
    let promised = promised_so_far t arrivals run in
    record {
      lines = told_so_far t arrivals;
      written = text-kept t (events_so_far t arrivals)
          (record {
            came = λ c h. (promised.admissions c h).lost;
            left = λ d h. (promised.departures d h).not_old;
          });
      promises = promise.kept-so-far t arrivals run;
      accepted = told-so-far-accepted built_is_computed t arrivals run.lawful run.timed;
    }

pub none-counted : NoneIsCounted
none-counted t arrivals run =
    record {
      lost = none-lost t (events_of t arrivals) (kept t arrivals run);
      too_old = none-old t (events_of t arrivals) (kept t arrivals run);
    }
