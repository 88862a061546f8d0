-- A frame of the list arrives at one of several switches, after what happened before it.
use Rattle.std.proofs.Common.{◌≡◌, ℕ, ◌≤◌, List, [], ◌∷◌, length, refl, sym, ◌∙◌, subst, Option, arith}
use Rattle.std.proofs.Common.{inl}
use Rattle.std.specs.Prelude.{Err, Ok, OnErr, OnOk, Result}
use Rattle.std.proofs.lemmas.List.{length-map}
use Rattle.afdx_cascade.specs.Cascade.{ArrivesNext, IsUntil, StandsFor, TellsArrival}
use Rattle.afdx_cascade.specs.Plans.{plan_of, tables_of}
use Rattle.afdx_cascade.specs.Runs.{Line, arriving}
use Rattle.afdx_cascade.specs.SwitchEvents.{SwitchEvent, at_switch, came_to}
use Rattle.afdx_cascade.specs.declared.cascade.Cascade.{Cascade}
use Rattle.afdx_cascade.proofs.MoreLemmas.{at-same}
use Rattle.afdx_config.specs.Switches.{NamedRows}
use Rattle.afdx_input_sources.specs.Engine.{Item}
use Rattle.afdx_input_sources.specs.Items.{CanFollow, most_frames}
use Rattle.afdx_frame.proofs.ListLemmas.{slice_get-within}
use Rattle.afdx_input_lines.specs.Calls.{AppendsFront}
use Rattle.afdx_input_lines.specs.declared.frame_line.Heading.{Heading}
use Rattle.afdx_input_lines.specs.declared.watched.Watched.{Watched}
use Rattle.afdx_network.specs.Events.{admission_after, arrivals_in}
use Rattle.afdx_network.specs.Order.{IsAmong}
use Rattle.afdx_switch.specs.declared.verdict.Verdict.{Verdict}
use Rattle.afdx_replay.specs.cascading.Early.{HearsEarly}
use Rattle.afdx_replay.specs.cascading.Items.{TellsItems}
use Rattle.afdx_replay.specs.cascading.Ran.{HearsSome, WritesSome}
use Rattle.afdx_replay.specs.cascading.Sited.{IsAtPlace, line_of, lines_in}
use Rattle.afdx_replay.specs.cascading.Text.{event_lines}
use Rattle.afdx_replay.specs.cascading.Told.{AreFirst, AreTold, EndsAtLine, IsFor, SystemsAre, TellsOne}
use Rattle.afdx_replay.specs.cascading.Told.{ToldUntil, latest_line, port_of}
use Rattle.afdx_replay.specs.declared.cascading.run.Cascading.{Cascading}
use Rattle.afdx_replay.specs.declared.cascading.teller.Teller.{Teller}
use Rattle.afdx_replay.proofs.CascadePromisedLemmas.{below-time}
use Rattle.afdx_replay.proofs.CascadeRunLemmas.{first-line}
use Rattle.afdx_replay.proofs.CascadeStepLemmas.{begun-line, first-later, latest-same, own-arrival, own-lines}
use Rattle.afdx_replay.proofs.CascadeStepLemmas.{step-told, until-later}

-- ---- times

-- no event stands behind the time up to which the switches were used
pub line-late : (s : List NamedRows) (w : Cascade) (past : List Line) (events : List SwitchEvent) (at : ℕ)
    → StandsFor (plan_of s) w events → EndsAtLine s past events → IsUntil w at → latest_line past ≤ at
line-late s w [] events at stands ends until = omega arith
line-late s w (x ∷ past) events at stands ends until =
    let h : SwitchEvent = arriving (plan_of s) ends.0 x.switch x.arrival in
    let there : StandsFor (plan_of s) w (h ∷ ends.0) = subst (StandsFor (plan_of s) w) ends.1 stands in
    let inside = there.inside.0.0 in
    let count = there.count in
    let n = slice_get-within w.networks.items x.switch (omega (arith, inside, count)) in
    below-time x.arrival.time at
    (1 ∷ (admission_after (tables_of s x.switch) (came_to x.switch ends.0) x.arrival).place ∷ [])
    (1 ∷ length (arrivals_in (at_switch x.switch (h ∷ ends.0))) ∷ [])
    ((there.keeps.stands.all.each x.switch n.0 n.1).past at (until.networks x.switch n.0 n.1) h.event
    (subst (IsAmong h.event) (sym (at-same x.switch h.event ends.0)) (inl refl)))

pub lines-few : (past : List (Item Heading)) → length past ≤ most_frames → length (lines_in past) ≤ most_frames
lines-few past few = let same = length-map past line_of in omega (arith, same, few)

-- ---- the arrival

module _ {D : Type 0} (contents : D → Option (List ℕ)) (s : List NamedRows) (w after : Cascade) (t new : Teller D)
    (start : Option (Watched D)) (old middle out : Option (List ℕ)) (past : List Line) (x : Line)
    (v : Verdict) (wait : ℕ)
    (k : ToldUntil contents s w t start old middle past x.arrival.time)
    (next : ArrivesNext (plan_of s) after k.events x v)
    (tells : TellsArrival (plan_of s) k.events (port_of x) x.arrival.tag v wait
    (arriving (plan_of s) k.events x.switch x.arrival)) where
  abbrev event : SwitchEvent
  event = arriving (plan_of s) k.events x.switch x.arrival

  own : TellsArrival (plan_of t.switches.now) k.events (port_of x) x.arrival.tag v wait event
  own = own-arrival contents s w t start old middle past x.arrival.time k.events k.told k.first (port_of x)
      x.arrival.tag v wait event tells

  arrival-first : AreFirst s (x ∷ past) x.arrival.time (event ∷ k.events)
  arrival-first = first-line s past x.arrival.time k.events k.first x (omega arith) next.next

  -- it is told
  pub arrival-told : IsFor t.switches.now new
      → ((before : List SwitchEvent) (h : SwitchEvent) → SystemsAre t.switches.now t.systems.items before
      → TellsArrival (plan_of t.switches.now) before (port_of x) x.arrival.tag v wait h
      → TellsOne t.switches.now new.systems.items t.counts new.counts middle out before h)
      → ((before : List SwitchEvent) (h : SwitchEvent) (start : Option (Watched D))
      → TellsArrival (plan_of t.switches.now) before (port_of x) x.arrival.tag v wait h
      → HearsEarly contents t.switches.now start t.early before
      → HearsEarly contents t.switches.now start new.early (h ∷ before))
      → AreTold contents s after new start old out (x ∷ past)
  arrival-told fits told heard = record {
    events = event ∷ k.events;
    first = arrival-first;
    at_line = (k.events, refl);
    brought = next.brought;
    told = step-told contents s w t start old middle past x.arrival.time k.events k.told k.first after new out event
        next.stands fits (λ systems. told k.events event systems own) (heard k.events event start own);
  }

  -- a beginning of its lines is written
  pub arrival-begun : (early : Option (Watched D)) → early ≡ t.early
      → ((before : List SwitchEvent) (h : SwitchEvent)
      → TellsArrival (plan_of t.switches.now) before (port_of x) x.arrival.tag v wait h
      → AppendsFront middle out (event_lines t.switches.now before h))
      → WritesSome s (x ∷ past) old out × HearsSome contents s (x ∷ past) start early
  arrival-begun early same begun =
      begun-line contents s w t start old middle past x.arrival.time k.events k.told k.first out x early after
      next.stands (omega arith) arrival-first same
      (own-lines contents s w t start old middle past x.arrival.time k.events k.told k.first out event
      (begun k.events event own))

-- ---- the items of a source

module _ {D : Type 0} (contents : D → Option (List ℕ)) (rules : List NamedRows × Option (Watched D))
    (m : Cascading D) (old middle : Option (List ℕ)) (past : List (Item Heading))
    (h : TellsItems contents rules m old middle past) where
  -- what comes next comes no earlier
  pub items-first : (at : ℕ) → IsUntil m.cascade at → AreFirst rules.0 (lines_in past) at h.told.events
  items-first at until =
      first-later rules.0 (lines_in past) (latest_line (lines_in past)) at h.told.events
      (line-late rules.0 m.cascade (lines_in past) h.told.events at h.told.told.switches_are h.told.at_line until)
      h.told.first

  items-until : (x : Item Heading) → CanFollow past x → latest_line (lines_in past) ≤ x.head.time
  items-until x follows =
      let same = latest-same past in
      let order = follows.in_order.order in
      omega (arith, same, order)

  pub items-clock : (x : Item Heading) → CanFollow past x → IsUntil m.cascade x.head.time
  items-clock x follows =
      until-later m.cascade (latest_line (lines_in past)) x.head.time (items-until x follows) h.clock

-- two that are told by one teller are of the same switches
pub same-switches : {D : Type 0} (s u : List NamedRows) (t : Teller D) → IsFor s t → IsFor u t → s ≡ u
same-switches s u t a b = sym a.switches_are ∙ b.switches_are

pub place-of : (s u : List NamedRows) (x : Item Heading) → s ≡ u → IsAtPlace s x → IsAtPlace u x
place-of s u x same place = subst (λ v. IsAtPlace v x) same place

-- ---- what a call answers

pub ok-by : {V E : Type 0} (r : Result V E) (P : Type 0) → ((v : V) → r ≡ Ok v → P) → OnOk r P
ok-by (Ok v) P f = f v refl
ok-by (Err e) P f = tt

pub err-by : {V E : Type 0} (r : Result V E) (P : Type 0) → ((e : E) → r ≡ Err e → P) → OnErr r P
err-by (Ok v) P f = tt
err-by (Err e) P f = f e refl

pub ok-of : {V E : Type 0} {r : Result V E} {v : V} (P : Type 0) → r ≡ Ok v → OnOk r P → P
ok-of P is h = subst (λ z. OnOk z P) is h

pub err-of : {V E : Type 0} {r : Result V E} {e : E} (P : Type 0) → r ≡ Err e → OnErr r P → P
err-of P is h = subst (λ z. OnErr z P) is h
