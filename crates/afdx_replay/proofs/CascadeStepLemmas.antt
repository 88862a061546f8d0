-- A step of a replay of several switches: one event more is told, or a beginning of it.
use Rattle.std.proofs.Common.{◌≡◌, ℕ, ◌-◌, ◌*◌, ◌≤◌, ◌<◌, List, [], ◌∷◌, length, reverse, refl, ap}
use Rattle.std.proofs.Common.{sym, ◌∙◌, subst, Option, None, true, false, arith, append-nil}
use Rattle.std.specs.List.{AllByRecursion}
use Rattle.std.proofs.KnownBytes.{Appends-nil}
use Rattle.afdx_cascade.specs.Cascade.{AreFrom, ArrivesNext, GivesNext, IsUntil, StandsFor, TellsArrival, TellsEvent, line_at}
use Rattle.afdx_cascade.specs.Plans.{plan_of}
use Rattle.afdx_cascade.specs.Runs.{Line, Runs, arriving}
use Rattle.afdx_cascade.specs.SwitchEvents.{Plan, SwitchEvent, came_to}
use Rattle.afdx_cascade.specs.Turning.{WasEarlyBy, switch_of}
use Rattle.afdx_cascade.specs.declared.cascade.Cascade.{Cascade}
use Rattle.afdx_cascade.specs.declared.told.Happened.{Happened}
use Rattle.afdx_cascade.specs.declared.told.Happened.TheVariants.{Ended, Carried, Came}
use Rattle.afdx_cascade.specs.declared.told.SitedPort.{SitedPort}
use Rattle.afdx_cascade.proofs.EarlyLemmas.{early-told, early-none}
use Rattle.afdx_cascade.proofs.MoreLemmas.{came-same}
use Rattle.afdx_cascade.proofs.NextLemmas.{until-more}
use Rattle.afdx_command_tables.specs.Counts.{no_counts}
use Rattle.afdx_config.specs.Switches.{NamedRows}
use Rattle.afdx_input_sources.specs.Engine.{Item}
use Rattle.afdx_input_sources.specs.Items.{arrivals, most_frames}
use Rattle.afdx_input_sources.specs.Listed.{frames}
use Rattle.afdx_input_sources.specs.Lists.{latest_in}
use Rattle.afdx_input_lines.specs.Calls.{AppendsFront}
use Rattle.afdx_input_lines.specs.declared.frame_line.Heading.{Heading}
use Rattle.afdx_input_lines.specs.declared.watched.Watched.{Watched}
use Rattle.afdx_network.specs.Events.{admission_after}
use Rattle.afdx_network.specs.Network.{reason_in}
use Rattle.afdx_police.specs.Arrival.{Arrival}
use Rattle.afdx_police.specs.Verdicts.{is_over_rate}
use Rattle.afdx_switch.specs.Departures.{as_given}
use Rattle.afdx_switch.specs.Early.{IsEarlyBy}
use Rattle.afdx_switch.specs.Verdicts.{shape_fault}
use Rattle.afdx_switch.specs.declared.verdict.Verdict.{Verdict}
use Rattle.afdx_cascade.specs.declared.cable.InTransit.{InTransit}
use Rattle.afdx_replay.specs.cascading.Early.{HearsEarly}
use Rattle.afdx_replay.specs.cascading.Ran.{HearsSome, WritesSome}
use Rattle.afdx_replay.specs.cascading.Sited.{lines_in}
use Rattle.afdx_replay.specs.cascading.Text.{event_lines}
use Rattle.afdx_replay.specs.cascading.Told.{AreFirst, AreSteady, HasTold, IsFor, SystemsAre, TellsOne}
use Rattle.afdx_replay.specs.cascading.Told.{ToldUntil, latest_line, port_of, total}
use Rattle.afdx_replay.specs.declared.cascading.teller.Teller.{Teller}
use Rattle.afdx_replay.specs.replaying.Replayed.{AreLow}
use Rattle.afdx_replay.proofs.CascadePartLemmas.{parts-so-far}
use Rattle.afdx_replay.proofs.CascadeRunLemmas.{begun-event, counts-start, few-events, first-due}
use Rattle.afdx_replay.proofs.CascadeRunLemmas.{first-taken, low-counts, reverse-more, text-start, told-event}
use Rattle.afdx_replay.proofs.CascadeRunLemmas.{total-is}

-- ---- times

transit-more : (vs : List InTransit) (time at : ℕ) → time ≤ at
    → AllByRecursion (λ v. (as_given v.departure).end ≤ time) vs
    → AllByRecursion (λ v. (as_given v.departure).end ≤ at) vs
transit-more [] time at le by = tt
transit-more (v ∷ vs) time at le by =
    ((let here = by.0 in omega (arith, here, le)), transit-more vs time at le by.1)

pub until-later : (w : Cascade) (time at : ℕ) → time ≤ at → IsUntil w time → IsUntil w at
until-later w time at le is = record {
  networks = λ k n there. until-more n time at le (is.networks k n there);
  transit = transit-more w.transit.items time at le is.transit;
}

from-later : (lines : List Line) (until at : ℕ) → until ≤ at → AreFrom at lines → AreFrom until lines
from-later [] until at le from = tt
from-later (x ∷ lines) until at le from = omega (arith, from, le)

pub first-later : (s : List NamedRows) (past : List Line) (until at : ℕ) (events : List SwitchEvent) → until ≤ at
    → AreFirst s past until events → AreFirst s past at events
first-later s past until at events le first lines from = first lines (from-later lines until at le from)

pub latest-same : (past : List (Item Heading)) → latest_line (lines_in past) ≡ latest_in frames (arrivals past)
latest-same [] = refl
latest-same (x ∷ past) = refl

-- ---- a frame of the list

module _ (c : Plan) (new : Cascade) (so_far : List SwitchEvent) (at : ℕ) (x : Arrival) (v : Verdict)
    (next : ArrivesNext c new so_far (line_at at x) v) where
  -- by how much it came too early
  pub arrived-early : (wait : ℕ) → is_over_rate (reason_in v) ≡ true
      → (shape_fault (c.tables at) x ≡ None
      → IsEarlyBy (c.tables at) (came_to at (arriving c so_far at x ∷ so_far)) x wait)
      → WasEarlyBy (c.tables at) (came_to at so_far) x wait
  arrived-early wait over early =
      early-told (c.tables at) (came_to at so_far) x (reason_in v) next.tells.reason wait over
      (λ sound. subst (λ (past : List Arrival). IsEarlyBy (c.tables at) past x wait)
      (came-same at (admission_after (c.tables at) (came_to at so_far) x) so_far) (early sound))

  pub arrived-other : is_over_rate (reason_in v) ≡ false → WasEarlyBy (c.tables at) (came_to at so_far) x 0
  arrived-other other =
      early-none (c.tables at) (came_to at so_far) x (reason_in v) next.tells.reason other

  -- what is told of it
  pub arrived : (k wait : ℕ) → at ≡ k → WasEarlyBy (c.tables at) (came_to at so_far) x wait
      → ArrivesNext c new so_far (line_at k x) v
      × TellsArrival c so_far (port_of (line_at k x)) x.tag v wait (arriving c so_far k x)
  arrived k wait is early =
      subst (λ j. ArrivesNext c new so_far (line_at j x) v
      × TellsArrival c so_far (port_of (line_at j x)) x.tag v wait (arriving c so_far j x)) is (
        next,
        record {
          arrival = x;
          is = refl;
          side = refl;
          port = refl;
          tag_is = refl;
          tells = next.tells;
          was_early = early;
        },
      )

-- ---- where an event happened

place-is : (c : Plan) (so_far : List SwitchEvent) (happened : Happened) (h : SwitchEvent)
    → TellsEvent c so_far happened h → switch_of happened ≡ h.switch
place-is c so_far (Ended k departure) h tells = sym (ap (λ (e : SwitchEvent). e.switch) tells.1)
place-is c so_far (Carried at time tag) h tells = sym (ap (λ (e : SwitchEvent). e.switch) tells.1)
place-is c so_far (Came at time tag v wait) h tells = sym (ap (λ (e : SwitchEvent). e.switch) tells.0.is)

-- ---- one event more

pub told-start : {D : Type 0} (contents : D → Option (List ℕ)) (s : List NamedRows) (w : Cascade) (t : Teller D)
    (output : Option (List ℕ)) → IsFor s t → StandsFor (plan_of s) w [] → SystemsAre s t.systems.items []
    → t.counts ≡ no_counts → t.early ≡ None → HasTold contents s w t None output output []
told-start contents s w t output fits stands systems counts early = record {
  fits = fits;
  switches_are = stands;
  systems_are = systems;
  counted = counts ∙ sym (counts-start s);
  written = rw (text-start s) (Appends-nil output);
  heard = subst (λ e. HearsEarly contents s None e []) (sym early) tt;
}

module _ {D : Type 0} (contents : D → Option (List ℕ)) (s : List NamedRows) (w : Cascade) (t : Teller D)
    (start : Option (Watched D)) (old middle : Option (List ℕ)) (past : List Line) (until : ℕ)
    (events : List SwitchEvent) (has : HasTold contents s w t start old middle events)
    (first : AreFirst s past until events) where
  pub own-fits : IsFor t.switches.now t
  own-fits = subst (λ u. IsFor u t) (sym has.fits.switches_are) has.fits

  pub step-low : length past ≤ most_frames → AreSteady t.counts → AreLow t.counts
  step-low few steady = low-counts s past until events first w t.counts has.switches_are few has.counted steady

  pub step-total : total t.counts ≡ length events
  step-total = ap total has.counted ∙ total-is s events

  pub step-few : length past ≤ most_frames → length events ≤ 1153 * most_frames
  step-few few = (few-events s past until events first w has.switches_are few).0

  module _ (after : Cascade) (new : Teller D) (out : Option (List ℕ)) (h : SwitchEvent)
      (stands : StandsFor (plan_of s) after (h ∷ events)) where
    -- it is told, of the teller's own switches
    pub step-told : IsFor t.switches.now new
        → (SystemsAre t.switches.now t.systems.items events
        → TellsOne t.switches.now new.systems.items t.counts new.counts middle out events h)
        → (HearsEarly contents t.switches.now start t.early events
        → HearsEarly contents t.switches.now start new.early (h ∷ events))
        → HasTold contents s after new start old out (h ∷ events)
    step-told fits told heard =
        let e = has.fits.switches_are in
        told-event contents s w after t new start old middle out events h has
        (subst (λ u. IsFor u new) e fits) stands
        (subst (λ u. SystemsAre u t.systems.items events
        → TellsOne u new.systems.items t.counts new.counts middle out events h) e told has.systems_are)
        (subst (λ u. HearsEarly contents u start t.early events
        → HearsEarly contents u start new.early (h ∷ events)) e heard has.heard)

  -- the systems of its own switches
  pub own-systems : SystemsAre t.switches.now t.systems.items events
  own-systems = subst (λ u. SystemsAre u t.systems.items events) (sym has.fits.switches_are) has.systems_are

  pub own-event : (happened : Happened) (h : SwitchEvent) → TellsEvent (plan_of s) events happened h
      → TellsEvent (plan_of t.switches.now) events happened h
  own-event happened h tells =
      subst (λ u. TellsEvent (plan_of u) events happened h) (sym has.fits.switches_are) tells

  pub own-arrival : (at : SitedPort) (tag : ℕ) (v : Verdict) (wait : ℕ) (h : SwitchEvent)
      → TellsArrival (plan_of s) events at tag v wait h → TellsArrival (plan_of t.switches.now) events at tag v wait h
  own-arrival at tag v wait h tells =
      subst (λ u. TellsArrival (plan_of u) events at tag v wait h) (sym has.fits.switches_are) tells

  pub own-lines : (out : Option (List ℕ)) (h : SwitchEvent)
      → AppendsFront middle out (event_lines t.switches.now events h) → AppendsFront middle out (event_lines s events h)
  own-lines out h front =
      subst (λ u. AppendsFront middle out (event_lines u events h)) has.fits.switches_are front

  pub step-within : (after : Cascade) (happened : Happened)
      (n : GivesNext (plan_of s) after until events happened) → switch_of happened < length t.systems.items
  step-within after happened n =
      let is = place-is (plan_of s) events happened n.event n.tells in
      let within = n.stands.inside.0.0 in
      let size = has.fits.systems_are in
      omega (arith, is, within, size)

  -- a beginning of the lines of a line's frame is written
  pub begun-line : (out : Option (List ℕ)) (x : Line) (early : Option (Watched D)) (after : Cascade)
      → StandsFor (plan_of s) after (arriving (plan_of s) events x.switch x.arrival ∷ events)
      → until ≤ x.arrival.time
      → AreFirst s (x ∷ past) x.arrival.time (arriving (plan_of s) events x.switch x.arrival ∷ events)
      → early ≡ t.early
      → AppendsFront middle out (event_lines s events (arriving (plan_of s) events x.switch x.arrival))
      → WritesSome s (x ∷ past) old out × HearsSome contents s (x ∷ past) start early
  begun-line out x early after stands le next same front =
      let h : SwitchEvent = arriving (plan_of s) events x.switch x.arrival in (
        record {
          events = h ∷ events;
          first = first-taken s (x ∷ past) x.arrival.time (h ∷ events) next;
          parts = parts-so-far s (x ∷ past) after (h ∷ events) stands
              (first-taken s (x ∷ past) x.arrival.time (h ∷ events) next);
          written = begun-event contents s w w t t start old middle out events h has front;
        },
        record {
          events = events;
          left = x ∷ [];
          few = omega arith;
          first = subst (λ ls. Runs (plan_of s) ls events (x ∷ []))
              (reverse-more x past [] ∙ append-nil (reverse (x ∷ past))) (first (x ∷ []) le);
          heard = subst (λ e. HearsEarly contents s start e events) (sym same) has.heard;
        },
      )

-- ---- the loop

module _ {D : Type 0} (contents : D → Option (List ℕ)) (w0 w after : Cascade) (t0 t new : Teller D)
    (out0 middle out : Option (List ℕ)) (until : ℕ) where
  abbrev pub AllTold : Cascade → Teller D → Option (List ℕ) → Type 0
  AllTold v u text =
      (s : List NamedRows) (start : Option (Watched D)) (first : Option (List ℕ)) (past : List Line)
      (events : List SwitchEvent) → HasTold contents s w0 t0 start first out0 events → AreFirst s past until events
      → ToldUntil contents s v u start first text past until

  -- there is room for more
  abbrev pub HasPast : Type 0
  HasPast =
      (s : List NamedRows) × (start : Option (Watched D)) × (first : Option (List ℕ)) × (past : List Line)
      × (events : List SwitchEvent) × HasTold contents s w0 t0 start first out0 events
      × AreFirst s past until events × (length past ≤ most_frames)

  -- an event is given and told
  pub record Steps (happened : Happened) : Type 0 where
    pub told : AllTold w t middle
    pub given : (c : Plan) (so_far : List SwitchEvent) → StandsFor c w so_far
        → GivesNext c after until so_far happened
    pub fits : IsFor t.switches.now new
    pub tells : (before : List SwitchEvent) (h : SwitchEvent) → SystemsAre t.switches.now t.systems.items before
        → TellsEvent (plan_of t.switches.now) before happened h
        → TellsOne t.switches.now new.systems.items t.counts new.counts middle out before h
    pub hears : (before : List SwitchEvent) (h : SwitchEvent) (start : Option (Watched D))
        → TellsEvent (plan_of t.switches.now) before happened h
        → HearsEarly contents t.switches.now start t.early before
        → HearsEarly contents t.switches.now start new.early (h ∷ before)

  module _ (happened : Happened) (step : Steps happened) where
    more-told : (s : List NamedRows) (start : Option (Watched D)) (first : Option (List ℕ)) (past : List Line)
        (k : ToldUntil contents s w t start first middle past until)
        → (n : GivesNext (plan_of s) after until k.events happened)
        → HasTold contents s after new start first out (n.event ∷ k.events)
    more-told s start first past k n =
        let own = own-event contents s w t start first middle past until k.events k.told k.first happened n.event
        n.tells in
        step-told contents s w t start first middle past until k.events k.told k.first after new out n.event n.stands
        step.fits (λ systems. step.tells k.events n.event systems own) (step.hears k.events n.event start own)

    pub steps-told : AllTold after new out
    steps-told s start first past events has is =
        let k = step.told s start first past events has is in
        let n = step.given (plan_of s) k.events k.told.switches_are in
        record {
          events = n.event ∷ k.events;
          first = first-due s past until k.events k.first n.event n.next;
          told = more-told s start first past k n;
        }

    pub steps-clock : HasPast → IsUntil after until
    steps-clock room =
        let k = step.told room.0 room.1 room.2 room.3 room.4 room.5 room.6 in
        (step.given (plan_of room.0) k.events k.told.switches_are).clock

    pub steps-less : HasPast → 1153 * most_frames - total new.counts < 1153 * most_frames - total t.counts
    steps-less room =
        let k = step.told room.0 room.1 room.2 room.3 room.4 room.5 room.6 in
        let n = step.given (plan_of room.0) k.events k.told.switches_are in
        let next = first-due room.0 room.3 until k.events k.first n.event n.next in
        let told = more-told room.0 room.1 room.2 room.3 k n in
        let was = step-total contents room.0 w t room.1 room.2 middle room.3 until k.events k.told k.first in
        let is = step-total contents room.0 after new room.1 room.2 out room.3 until (n.event ∷ k.events) told next in
        let few = step-few contents room.0 after new room.1 room.2 out room.3 until (n.event ∷ k.events) told next
        room.7 in
        omega (arith, was, is, few)
