-- How far a replay of several switches has come: which events these are, and how many.
use Rattle.std.proofs.Common.{◌≡◌, ℕ, suc, ◌+◌, ◌*◌, ◌≤◌, ◌<◌, List, [], ◌∷◌, ◌++◌, length, reverse, refl, ap, sym, ◌∙◌}
use Rattle.std.proofs.Common.{subst, Option, Some, None, Bool, true, false, is_none, arith, append_assoc, append-nil, inl, inr}
use Rattle.std.proofs.Common.{if◌then◌else◌}
use Rattle.std.proofs.lemmas.List.{length-append, length-map, length-reverse, reverse-append}
use Rattle.std.specs.Io.KnownBytes.{Appends}
use Rattle.std.proofs.KnownBytes.{Appends-trans}
use Rattle.afdx_config.specs.Rows.{Rows}
use Rattle.afdx_config.specs.Switches.{NamedRows}
use Rattle.afdx_cascade.specs.Cascade.{StandsFor, AreFrom}
use Rattle.afdx_cascade.specs.Once.{accepted_in, is_acceptance}
use Rattle.afdx_cascade.specs.Parts.{frames_of}
use Rattle.afdx_cascade.specs.Plans.{plan_of, tables_of}
use Rattle.afdx_cascade.specs.Runs.{Line, Runs, IsFirstDue, IsNextLine, arriving}
use Rattle.afdx_cascade.specs.SwitchEvents.{SwitchEvent, at_switch, came_to, listed}
use Rattle.afdx_cascade.specs.declared.cascade.Cascade.{Cascade}
use Rattle.afdx_cascade.proofs.CountedLemmas.{events-counted}
use Rattle.afdx_cascade.proofs.KeptLemmas.{keeps-all}
use Rattle.afdx_frame.proofs.BuiltLemmas.{built_is_computed}
use Rattle.afdx_cascade.proofs.PartLemmas.{are-taken, runs-alone, cables-bring, are-of-list}
use Rattle.afdx_end_systems.specs.Receptions.{is_delivered}
use Rattle.afdx_network.specs.Order.{events_of}
use Rattle.afdx_replay.proofs.CascadePartLemmas.{own-is, parts-so-far}
use Rattle.afdx_replay.proofs.CascadePromisedLemmas.{admitted-run, promised-at}
use Rattle.afdx_replay.proofs.CascadeWholeLemmas.{whole-events}
use Rattle.afdx_replay.proofs.PromisedLemmas.{first-text}
use Rattle.afdx_input_sources.specs.Items.{most_frames}
use Rattle.afdx_input_lines.specs.Calls.{AppendsFront}
use Rattle.afdx_input_lines.specs.declared.watched.Watched.{Watched}
use Rattle.afdx_network.specs.Events.{Event, Came, Left}
use Rattle.afdx_police.specs.declared.shape.Reason.{Reason}
use Rattle.afdx_command_tables.specs.declared.summary.Summary.{Summary}
use Rattle.afdx_text.proofs.OutputLemmas.{whole_front as front-whole, front-more}
use Rattle.afdx_cascade.specs.Keeping.{IsNothingDue}
use Rattle.afdx_cascade.specs.Runs.{AreAll}
use Rattle.afdx_command_tables.specs.Counts.{no_counts}
use Rattle.afdx_replay.specs.cascading.Early.{HearsEarly}
use Rattle.afdx_replay.specs.cascading.Ran.{AreInParts, WritesSome, WritesSoFar, WritesAll}
use Rattle.afdx_replay.specs.cascading.Ran.{HearsSome, HearsSoFar, HearsAll}
use Rattle.afdx_replay.specs.cascading.Text.{cascade_text, cascade_counts, event_lines, own_text}
use Rattle.afdx_replay.specs.cascading.Told.{AreFirst, AreInTime, AreSteady, AreTold, HasTold, IsFor, TellsOne, latest_line, total}
use Rattle.afdx_replay.specs.declared.cascading.teller.Teller.{Teller}
use Rattle.afdx_replay.specs.replaying.Replayed.{AreLow}
use Rattle.afdx_replay.specs.replaying.Text.{with_admission, with_departure, with_event, frames_left, handed_over, replay_text}

-- ---- counts

total-admission : (c : Summary) (reason : Option Reason) (lost : ℕ)
    → total (with_admission c reason lost) ≡ total c + 1
total-admission c None lost = omega arith
total-admission c (Some r) lost = omega arith

total-departure : (c : Summary) (old delivered : Bool) → total (with_departure c old delivered) ≡ total c + 1
total-departure c true delivered = omega arith
total-departure c false true = omega arith
total-departure c false false = omega arith

pub total-event : (t : Rows) (before : List Event) (e : Event) (c : Summary)
    → total (with_event t before e c) ≡ total c + 1
total-event t before (Came a) c = total-admission c a.reason (length a.lost)
total-event t before (Left d) c =
    total-departure c d.turn.too_old (is_delivered t (frames_left before) (handed_over d))

pub total-is : (s : List NamedRows) (events : List SwitchEvent) → total (cascade_counts s events) ≡ length events
unfolding cascade_counts
total-is s [] = refl
total-is s (h ∷ before) =
    let rest = total-is s before in
    let more = total-event (tables_of s h.switch) (at_switch h.switch before) h.event (cascade_counts s before) in
    omega (arith, rest, more)

accepted-departure : (c : Summary) (old delivered : Bool) → (with_departure c old delivered).accepted ≡ c.accepted
accepted-departure c true delivered = refl
accepted-departure c false true = refl
accepted-departure c false false = refl

accepted-event : (t : Rows) (before : List Event) (e : Event) (c : Summary) → (with_event t before e c).accepted
    ≡ (if is_acceptance e then suc c.accepted else c.accepted)
accepted-event t before (Left d) c =
    accepted-departure c d.turn.too_old (is_delivered t (frames_left before) (handed_over d))
accepted-event t before (Came a) c = by a.reason
  where
    by : (r : Option Reason) → (with_admission c r (length a.lost)).accepted
        ≡ (if is_none r then suc c.accepted else c.accepted)
    by None = omega arith
    by (Some r) = refl

pub accepted-is : (s : List NamedRows) (events : List SwitchEvent)
    → (cascade_counts s events).accepted ≡ accepted_in events
unfolding cascade_counts
accepted-is s [] = refl
accepted-is s (h ∷ before) =
    accepted-event (tables_of s h.switch) (at_switch h.switch before) h.event (cascade_counts s before)
    ∙ ap (λ (n : ℕ). if is_acceptance h.event then suc n else n) (accepted-is s before)

-- ---- first events

pub reverse-more : (x : Line) (past later : List Line) → reverse past ++ x ∷ later ≡ reverse (x ∷ past) ++ later
reverse-more x past later =
    sym (append_assoc (reverse past) (x ∷ []) later)
    ∙ ap (λ ls. ls ++ later) (sym (reverse-append (x ∷ []) past))

module _ (s : List NamedRows) (past : List Line) (until : ℕ) (events : List SwitchEvent)
    (first : AreFirst s past until events) where
  -- one that is due
  pub first-due : (h : SwitchEvent)
      → ((lines : List Line) → AreFrom until lines → IsFirstDue (plan_of s) events lines h)
      → AreFirst s past until (h ∷ events)
  first-due h next later from = (later, first later from, inl (next later from, refl))

  -- the arrival of a line's frame
  pub first-line : (x : Line) → until ≤ x.arrival.time
      → ((rest : List Line) → IsNextLine (plan_of s) events (x ∷ rest)
      (arriving (plan_of s) events x.switch x.arrival) rest)
      → AreFirst s (x ∷ past) x.arrival.time (arriving (plan_of s) events x.switch x.arrival ∷ events)
  first-line x le next later from =
      subst (λ ls. Runs (plan_of s) ls (arriving (plan_of s) events x.switch x.arrival ∷ events) later)
      (reverse-more x past later) (x ∷ later, first (x ∷ later) le, inr (next later))

  -- the lines were all taken
  pub first-taken : Runs (plan_of s) (reverse past) events []
  first-taken = subst (λ ls. Runs (plan_of s) ls events []) (append-nil (reverse past)) (first [] tt)

  listed-count : length (listed (plan_of s) events) ≡ length past
  listed-count =
      let taken = are-taken (plan_of s) (reverse past) [] events first-taken in
      let lines : length (reverse past) ≡ length (reverse taken.taken ++ []) = ap length taken.are in
      let count = length-append (reverse taken.taken) [] in
      let there = length-reverse taken.taken in
      let here = length-reverse past in
      let frames : length (frames_of taken.taken) ≡ length taken.taken =
      length-map taken.taken (λ (l : Line). l.arrival) in
      let is = ap length taken.listed_is in
      omega (arith, lines, count, there, here, frames, is)

  -- so there are few
  pub few-events : (w : Cascade) → StandsFor (plan_of s) w events → length past ≤ most_frames
      → (length events ≤ 1153 * most_frames) × (accepted_in events ≤ 24 * most_frames)
  few-events w stands few =
      let counted = events-counted (plan_of s) w events stands in
      let count = listed-count in
      let e = counted.events in
      let a = counted.accepted in
      (omega (arith, count, e, few), omega (arith, count, a, few))

  pub low-counts : (w : Cascade) (counts : Summary) → StandsFor (plan_of s) w events → length past ≤ most_frames
      → counts ≡ cascade_counts s events → AreSteady counts → AreLow counts
  low-counts w counts stands few is steady =
      let few = few-events w stands few in
      let all : total counts ≡ length events = ap total is ∙ total-is s events in
      let accepted : counts.accepted ≡ accepted_in events = ap (λ (c : Summary). c.accepted) is
      ∙ accepted-is s events in
      let f = few.0 in
      let g = few.1 in
      let losses = steady.losses in
      let messages = steady.messages in
      record {
        accepted = omega (arith, all, f);
        dropped = omega (arith, all, f);
        lost = omega (arith, accepted, g, losses);
        departed = omega (arith, all, f);
        too_old = omega (arith, all, f);
        delivered = omega (arith, all, f, messages);
      }

-- ---- one event more

counts-more : (s : List NamedRows) (h : SwitchEvent) (before : List SwitchEvent) → cascade_counts s (h ∷ before)
    ≡ with_event (tables_of s h.switch) (at_switch h.switch before) h.event (cascade_counts s before)
unfolding cascade_counts
counts-more s h before = refl

pub text-more : (s : List NamedRows) (h : SwitchEvent) (before : List SwitchEvent)
    → cascade_text s (h ∷ before) ≡ cascade_text s before ++ event_lines s before h
unfolding cascade_text
text-more s h before = refl

pub text-start : (s : List NamedRows) → cascade_text s [] ≡ []
unfolding cascade_text
text-start s = refl

pub counts-start : (s : List NamedRows) → cascade_counts s [] ≡ no_counts
unfolding cascade_counts
counts-start s = refl

module _ {D : Type 0} (contents : D → Option (List ℕ)) (s : List NamedRows) (w after : Cascade)
    (t told : Teller D) (start : Option (Watched D)) (old middle new : Option (List ℕ))
    (before : List SwitchEvent) (h : SwitchEvent) (has : HasTold contents s w t start old middle before) where
  -- it is told
  pub told-event : IsFor s told → StandsFor (plan_of s) after (h ∷ before)
      → TellsOne s told.systems.items t.counts told.counts middle new before h
      → HearsEarly contents s start told.early (h ∷ before)
      → HasTold contents s after told start old new (h ∷ before)
  told-event fits stands one heard = record {
    fits = fits;
    switches_are = stands;
    systems_are = one.systems_are;
    counted = one.counted
        ∙ ap (λ c. with_event (tables_of s h.switch) (at_switch h.switch before) h.event c) has.counted
        ∙ sym (counts-more s h before);
    written = subst (λ x. Appends old new x) (sym (text-more s h before))
        (Appends-trans old middle new (cascade_text s before) (event_lines s before h) has.written one.written);
    heard = heard;
  }

  -- a beginning of its lines is written
  pub begun-event : AppendsFront middle new (event_lines s before h)
      → AppendsFront old new (cascade_text s (h ∷ before))
  begun-event front = subst (λ x. AppendsFront old new x) (sym (text-more s h before))
      (front-more old middle new (cascade_text s before) (event_lines s before h) has.written front)

-- ---- the parts

pub in-parts : (s : List NamedRows) (past : List Line) (w : Cascade) (events : List SwitchEvent)
    → StandsFor (plan_of s) w events → AreAll (plan_of s) (reverse past) events → AreInTime past
    → AreInParts s (reverse past) events
in-parts s past w events stands all soon = record {
  own = own;
  alone = alone;
  promised = λ admitted k within.
      promised-at s w events stands k within (own_text s k events) (alone k within) admitted;
  told = λ admitted k within.
      alone k within
      ∙ first-text (tables_of s k) (came_to k events) [] (events_of (tables_of s k) (came_to k events)) refl
      (admitted-run s w events stands k within admitted);
  whole = whole-events s past w events stands all soon;
  end_to_end = λ are admitted.
      keeps-all built_is_computed s events (whole-events s past w events stands all soon are admitted);
  cables = λ k port side other joined.
      cables-bring (plan_of s) events k port side other stands.keeps.stands.rules all.none joined;
  listed = are-of-list (plan_of s) w (reverse past) events stands all;
}
  where
    own : (k : ℕ) → k < length s → at_switch k events ≡ events_of (tables_of s k) (came_to k events)
    own k within = runs-alone (plan_of s) w events k stands all.none within

    alone : (k : ℕ) → k < length s → own_text s k events
        ≡ replay_text (tables_of s k) (events_of (tables_of s k) (came_to k events))
    alone k within = own-is s k events ∙ ap (replay_text (tables_of s k)) (own k within)

-- ---- what is written then

module _ {D : Type 0} (contents : D → Option (List ℕ)) (s : List NamedRows) (past : List Line)
    (start : Option (Watched D)) (old new : Option (List ℕ)) where
  hears-some : (w : Cascade) (t : Teller D) (until : ℕ) (middle : Option (List ℕ)) (events : List SwitchEvent)
      → HasTold contents s w t start old middle events → AreFirst s past until events
      → HearsSome contents s past start t.early
  hears-some w t until middle events has first = record {
    events = events;
    left = [];
    few = omega arith;
    first = first-taken s past until events first;
    heard = has.heard;
  }

  -- of events that are told
  pub told-some : (w : Cascade) (t : Teller D) (until : ℕ) (events : List SwitchEvent)
      → HasTold contents s w t start old new events → AreFirst s past until events
      → WritesSome s past old new × HearsSome contents s past start t.early
  told-some w t until events has first = (
    record {
      events = events;
      first = first-taken s past until events first;
      parts = parts-so-far s past w events has.switches_are (first-taken s past until events first);
      written = front-whole old new (cascade_text s events) has.written;
    },
    hears-some w t until new events has first,
  )

  -- up to the last line
  pub told-so-far : (w : Cascade) (t : Teller D) → AreTold contents s w t start old new past
      → WritesSoFar s past old new × HearsSoFar contents s past start t.early
  told-so-far w t told = (
    record {
      events = told.events;
      first = first-taken s past (latest_line past) told.events told.first;
      parts = parts-so-far s past w told.events told.told.switches_are
          (first-taken s past (latest_line past) told.events told.first);
      at_line = told.at_line;
      brought = told.brought;
      written = told.told.written;
    },
    record {
      events = told.events;
      first = first-taken s past (latest_line past) told.events told.first;
      at_line = told.at_line;
      heard = told.told.heard;
    },
  )

  -- where nothing is due any more
  pub told-all : (w : Cascade) (t : Teller D) (until : ℕ) (events : List SwitchEvent)
      → HasTold contents s w t start old new events → AreFirst s past until events
      → AreInTime past → IsNothingDue (plan_of s) events
      → WritesAll s past old new t.counts × HearsAll contents s past start t.early
  told-all w t until events has first soon none =
      let all : AreAll (plan_of s) (reverse past) events =
      record { runs = first-taken s past until events first; none = none } in (
        record {
          events = events;
          all = all;
          parts = in-parts s past w events has.switches_are all soon;
          written = has.written;
          counted = has.counted;
        },
        record { events = events; all = all; heard = has.heard },
      )

  -- a beginning of the lines of the next event
  pub begun-some : (middle : Option (List ℕ)) (w after : Cascade) (t : Teller D) (until : ℕ)
      (events : List SwitchEvent) (h : SwitchEvent) (early : Option (Watched D))
      → StandsFor (plan_of s) after (h ∷ events)
      → HasTold contents s w t start old middle events → AreFirst s past until events
      → AreFirst s past until (h ∷ events) → early ≡ t.early → AppendsFront middle new (event_lines s events h)
      → WritesSome s past old new × HearsSome contents s past start early
  begun-some middle w after t until events h early stands has first next same front = (
    record {
      events = h ∷ events;
      first = first-taken s past until (h ∷ events) next;
      parts = parts-so-far s past after (h ∷ events) stands (first-taken s past until (h ∷ events) next);
      written = begun-event contents s w w t t start old middle new events h has front;
    },
    subst (λ e. HearsSome contents s past start e) (sym same) (hears-some w t until middle events has first),
  )
