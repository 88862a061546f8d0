-- The lines of all events, and those up to the last arrival, keep the promises.
use Rattle.std.proofs.Common.{◌≡◌, ℕ, ◌*◌, ◌<◌, true, List, [], ◌∷◌, ◌++◌, length, map, filter, take}
use Rattle.std.proofs.Common.{sym, ap, ◌∙◌, subst}
use Rattle.std.specs.Prelude.{Some, max, reverse, slice_get}
use Rattle.afdx_frame.specs.Reading.{BuiltIsComputed}
use Rattle.afdx_frame.specs.declared.link.Side.{Side}
use Rattle.afdx_frame.specs.declared.link.Side.TheVariants.{A, B}
use Rattle.afdx_frame.proofs.ListLemmas.{AllByRecursion-slice_get}
use Rattle.afdx_config.specs.Lawful.{IsSystem}
use Rattle.afdx_config.specs.Reading.{has_port}
use Rattle.afdx_config.specs.LawfulStream.{Sending}
use Rattle.afdx_config.specs.Rows.{SystemRow, LinkRow, Rows, is_to}
use Rattle.afdx_config.specs.SentList.{Message}
use Rattle.afdx_police.specs.Arrival.{Arrival}
use Rattle.afdx_receive.specs.Arrivals.{frames_of}
use Rattle.afdx_switch.specs.Admitted.{IsAdmittedRun, slots as slots_in}
use Rattle.afdx_switch.specs.Streams.{AreFirstOf}
use Rattle.afdx_switch.specs.Switching.{taken_at}
use Rattle.afdx_network.specs.Events.{Event, all_events, turns_on}
use Rattle.afdx_network.specs.Order.{IsAmong, AreInOrder, events_of, events_so_far}
use Rattle.afdx_network.proofs.OrderedLemmas.{are-events, are-so-far}
use Rattle.afdx_law_promises.specs.Lines.{judged_in, messages_told, told_by}
use Rattle.afdx_law_promises.specs.Promises.{AreFirstFrames, AreReceived, PromisesAreKept}
use Rattle.afdx_law_promises.specs.Promises.{PromisesAreKeptSoFar, MessagesAreToldOnce}
use Rattle.afdx_law_promises.specs.Promises.{MessagesAreToldOnceSoFar, told, told_so_far}
use Rattle.afdx_law_promises.specs.Receptions.{ComeInOrder, answers_by_rules, brought, brought_by}
use Rattle.afdx_law_promises.proofs.BroughtLemmas.{AreLater, slots_of}
use Rattle.afdx_law_promises.proofs.EventLemmas.{brought-by-side, brought-in-order, events-bring, taken-in}
use Rattle.afdx_law_promises.proofs.HeadlineLemmas.{verdicts-are, frames-are, first-frames}
use Rattle.afdx_law_promises.proofs.HeadlineLemmas.{all-are-first, line-of, frame-of, lines-in-time}
use Rattle.afdx_law_promises.proofs.HeadlineLemmas.{lines-are-alone}
use Rattle.afdx_law_promises.proofs.HeardLemmas.{AreSlots, lines-heard, answers-by-events, messages-by-events}
use Rattle.afdx_law_promises.proofs.HeardLemmas.{slots-before}
use Rattle.afdx_law_promises.proofs.LineLemmas.{verdicts-told, verdicts-told-so-far, came-told}
use Rattle.afdx_law_promises.proofs.OnceLemmas.{IsStreamTo, from-slots, messages-once, messages-so-far}
use Rattle.afdx_law_promises.proofs.ReceiverLemmas.{answers-own}
use Rattle.afdx_law_promises.proofs.RuleLemmas.{verdicts_of}

module _ (t : Rows) (arrivals : List Arrival) (events : List Event) (run : IsAdmittedRun t arrivals)
    (judged : judged_in (told_by t events) ≡ verdicts_of t arrivals)
    (own_events : (e : Event) → IsAmong e events → IsAmong e (all_events t arrivals))
    (first : AreFirstFrames t (told_by t events)) where
  are-slots : AreSlots events
  are-slots = record {
    kept = λ d h. (line-of t arrivals events run judged own_events first d h).in_time.not_old;
    frame = λ d h. (_, frame-of t arrivals events run judged own_events first d h);
  }

  lines-received : AreInOrder events → AreReceived t (told_by t events)
  lines-received order = record {
    heard = λ d system answer h. lines-heard t events d system answer h;
    in_order = λ port. subst ComeInOrder (sym (came-told t port events are-slots.kept))
        (brought-in-order port events order);
    answers = λ system place s l stands is_own at goes.
        answers-by-events t system s l.vl run.lawful stands is_own events are-slots
        ∙ answers-own t system place l run.lawful at goes _
        ∙ ap (λ zs. answers_by_rules (1000 * l.skew_us) (has_port t.ports system l.vl)
        (frames_of l.vl zs)) (sym (came-told t s.port events are-slots.kept));
  }

pub kept : PromisesAreKept
kept t arrivals run =
    let events = events_of t arrivals in
    let are = are-events t arrivals in
    let judged = verdicts-told t arrivals events run.timed are in
    let frames = frames-are t arrivals run in
    let first = all-are-first t (told t arrivals) frames in
    let verdicts = verdicts-are t arrivals (told t arrivals) run.lawful judged in
    record {
      verdicts = verdicts;
      frames = frames;
      latency = lines-in-time t arrivals events run judged are.own first;
      receptions = lines-received t arrivals events run judged are.own first are.in_order;
      isolation = lines-are-alone t arrivals (told t arrivals) verdicts frames;
    }

pub kept-so-far : PromisesAreKeptSoFar
kept-so-far t arrivals run =
    let events = events_so_far t arrivals in
    let are = are-so-far t arrivals in
    let judged = verdicts-told-so-far t arrivals events run.timed are in
    let first = first-frames t arrivals run in
    let own_events = λ (e : Event) (h : IsAmong e events). (are.own e h).0 in
    record {
      verdicts = verdicts-are t arrivals (told_so_far t arrivals) run.lawful judged;
      frames = first;
      latency = lines-in-time t arrivals events run judged own_events first;
      receptions = lines-received t arrivals events run judged own_events first are.in_order;
    }

-- ---- exactly once

module _ (t : Rows) (arrivals : List Arrival) (run : IsAdmittedRun t arrivals) where
  slots : AreSlots (events_of t arrivals)
  slots = are-slots t arrivals (events_of t arrivals) run
      (verdicts-told t arrivals (events_of t arrivals) run.timed (are-events t arrivals))
      (are-events t arrivals).own
      (all-are-first t (told t arrivals) (frames-are t arrivals run))

pub told-once : BuiltIsComputed → MessagesAreToldOnce
told-once computed t arrivals run system place s l messages stream stands at goes between is fed =
    let row : IsSystem t.profile s = AllByRecursion-slice_get (IsSystem t.profile) t.systems system s
    run.lawful.systems.each stands in
    ap reverse (messages-by-events t system s l.vl run.lawful stands between.to (events_of t arrivals)
    (slots t arrivals run))
    ∙ messages-once computed t arrivals system place s l messages stream _ run stands at goes between is fed
    (events-bring t arrivals (events_of t arrivals) s.port run.lawful run.timed row.port.0
    row.port.1 (are-events t arrivals))

pub told-once-so-far : BuiltIsComputed → MessagesAreToldOnceSoFar
told-once-so-far computed t arrivals run system place s l messages stream stands at goes between is sent =
    let row : IsSystem t.profile s = AllByRecursion-slice_get (IsSystem t.profile) t.systems system s
    run.lawful.systems.each stands in
    ap reverse (messages-by-events t system s l.vl run.lawful stands between.to (events_of t arrivals)
    (slots t arrivals run))
    ∙ messages-so-far computed t arrivals system place s l messages stream _ run stands at goes between is sent
    (events-bring t arrivals (events_of t arrivals) s.port run.lawful run.timed row.port.0
    row.port.1 (are-events t arrivals))

-- ---- so far

slots-after : (later events : List Event) → AreSlots (later ++ events) → AreSlots events
slots-after [] events are = are
slots-after (e ∷ later) events are = slots-after later events (slots-before e (later ++ events) are)

order-after : (later events : List Event) → AreInOrder (later ++ events) → AreInOrder events
order-after [] events order = order
order-after (e ∷ later) events order = order-after later events order.1

module _ (computed : BuiltIsComputed) (t : Rows) (arrivals : List Arrival) (run : IsAdmittedRun t arrivals)
    (later events : List Event) (are : events_of t arrivals ≡ later ++ events) (system place : ℕ) (s : SystemRow)
    (l : LinkRow) (messages : List Message) (stream : List Sending) (stands : slice_get t.systems system ≡ Some s)
    (own : system < t.own) (at : slice_get t.links place ≡ Some l) (goes : is_to system l ≡ true)
    (to : IsStreamTo l messages stream) where
  -- the lines of first events tell the messages of a stream as far as their slots brought copies of it on a side
  pub told-by-slots : (xs : Side → List Arrival) → ((side : Side) → AreFirstOf side stream (xs side))
      → ((side : Side) → AreLater (1000 * to.row.latency_us) (xs side)
      (slots_of l.vl (taken_at s.port (turns_on side events))))
      → reverse (messages_told system l.vl (told_by t events))
      ≡ filter (λ m. has_port t.ports system l.vl m.udp) (take (max (length (xs A)) (length (xs B))) messages)
  told-by-slots xs sent brings =
      ap reverse (messages-by-events t system s l.vl run.lawful stands own events
      (slots-after later events (subst AreSlots are (slots t arrivals run))))
      ∙ from-slots computed t system place l messages stream run.lawful at goes to (brought_by s.port events) xs
      (λ side. taken_at s.port (turns_on side events))
      (brought-in-order s.port events
      (order-after later events (subst AreInOrder are (are-events t arrivals).in_order)))
      (λ side. brought-by-side side s.port events
      ∙ ap (λ ts. map (brought side) (slots_in ts)) (sym (taken-in side s.port events)))
      sent brings
