-- Exactly once through an admitted cascade.
use Rattle.std.proofs.Common.{◌≡◌, ℕ, suc, ◌+◌, ◌*◌, ◌<◌, ◌≤◌, Bool, true, false, ◌||◌, List, [], ◌∷◌, ◌++◌}
use Rattle.std.proofs.Common.{length, map, filter, take, refl, sym, ap, ◌∙◌, subst, arith, nat_eq, nat_lt}
use Rattle.std.proofs.Common.{Some, slice_get}
use Rattle.std.specs.Prelude.{max, if◌then◌else◌}
use Rattle.std.specs.List.{list_any}
use Rattle.std.proofs.lemmas.Bool.{eqb-true, lt-ltb, ltb-false, ltb-true}
use Rattle.std.proofs.lemmas.Option.{same_Some, slice_get_within}
use Rattle.afdx_frame.specs.Reading.{BuiltIsComputed}
use Rattle.afdx_frame.specs.declared.link.Side.{Side}
use Rattle.afdx_frame.specs.declared.link.Side.TheVariants.{A, B}
use Rattle.afdx_frame.proofs.ListLemmas.{AllByRecursion-slice_get}
use Rattle.afdx_config.proofs.LawfulLinkLemmas.{with-others}
use Rattle.afdx_config.specs.Lawful.{IsLink, IsLinkUpTo, jitter_from_any, jitter_from_system}
use Rattle.afdx_config.specs.LawfulStream.{Sending}
use Rattle.afdx_config.specs.Rows.{LinkRow, Rows}
use Rattle.afdx_config.specs.SentList.{Message}
use Rattle.afdx_config.specs.Switches.{NamedRows}
use Rattle.afdx_admit.specs.Cascade.{RowAt, is_sent_here}
use Rattle.afdx_police.specs.Arrival.{Arrival, own}
use Rattle.afdx_port.specs.Schedule.{Turn}
use Rattle.afdx_switch.specs.Admitted.{IsAdmittedRun, slots}
use Rattle.afdx_switch.specs.HeldFrames.{HeldFrame}
use Rattle.afdx_switch.specs.Laws.{is_of}
use Rattle.afdx_switch.specs.Streams.{AreFirstOf}
use Rattle.afdx_switch.specs.Switching.{taken_at}
use Rattle.afdx_switch.proofs.StreamLemmas.{accepted-stream}
use Rattle.afdx_network.specs.Events.{Event, turns_on}
use Rattle.afdx_network.specs.Order.{events_of}
use Rattle.afdx_network.proofs.OrderedLemmas.{are-events}
use Rattle.afdx_law_promises.specs.Lines.{told_by}
use Rattle.afdx_law_promises.proofs.BroughtLemmas.{AreLater}
use Rattle.afdx_law_promises.proofs.EventLemmas.{taken-at-port}
use Rattle.afdx_law_promises.proofs.OnceLemmas.{IsStreamTo}
use Rattle.afdx_law_promises.proofs.PromiseLemmas.{goes-there}
use Rattle.afdx_law_promises.proofs.SentLemmas.{take-all}
use Rattle.afdx_law_promises.proofs.ToldLemmas.{told-by-slots}
use Rattle.afdx_cascade.specs.Admitted.{AreRowsBefore, IsAdmittedCascade, IsRow, hops_at}
use Rattle.afdx_cascade.specs.Cables.{brought, brought_by, named}
use Rattle.afdx_cascade.specs.EndToEnd.{EachLeaves, FirstOfThemLeave, IsWayTo, accepted_of, begins_at}
use Rattle.afdx_cascade.specs.EndToEnd.{left_from}
use Rattle.afdx_cascade.specs.Plans.{plan_of, tables_of}
use Rattle.afdx_cascade.specs.Receivers.{IsWayToSystem, IsStreamFrom, heard_by, messages_at}
use Rattle.afdx_cascade.specs.Receivers.{most_left, most_sent, sent_on}
use Rattle.afdx_cascade.specs.Receivers.{MessagesComeSoFar, MessagesComeOnce, OneSideIsEnough, FirstMessagesCome}
use Rattle.afdx_cascade.specs.SwitchEvents.{SwitchEvent, at_switch, came_to}
use Rattle.afdx_cascade.specs.Ways.{latency_of}
use Rattle.afdx_cascade.proofs.EndToEndLemmas.{accepted-is, first-is, first-links-leave, links-leave, row-latency}
use Rattle.afdx_cascade.proofs.EndToEndLemmas.{row-port, sent-latency}
use Rattle.afdx_cascade.proofs.FedLemmas.{before-is, row-here, sent-here, switch-of, tables-at, way-takes}
use Rattle.afdx_cascade.proofs.WayHopLemmas.{hop-is}
use Rattle.afdx_cascade.proofs.WholeLemmas.{all-turned}

-- ---- slots that leave a port

module _ (delay vl : ℕ) (side : Side) (port : ℕ) where
  later-by : (ss : List (Turn HeldFrame)) (xs : List Arrival)
      → EachLeaves delay xs (named vl (map (brought side port) ss))
      → AreLater delay xs (filter (λ s. is_of vl s.entry) ss)
  later-by [] [] each = tt
  later-by [] (x ∷ xs) each = absurd each
  later-by (s ∷ ss) xs each = by (is_of vl s.entry) xs each (λ ys rest. later-by ss ys rest)
    where
      by : (b : Bool) (ys : List Arrival)
          → EachLeaves delay ys (if b then brought side port s ∷ named vl (map (brought side port) ss)
          else named vl (map (brought side port) ss))
          → ((zs : List Arrival) → EachLeaves delay zs (named vl (map (brought side port) ss))
          → AreLater delay zs (filter (λ z. is_of vl z.entry) ss))
          → AreLater delay ys (if b then s ∷ filter (λ z. is_of vl z.entry) ss else filter (λ z. is_of vl z.entry) ss)
      by false ys each rest = rest ys each
      by true [] each rest = absurd each
      by true (y ∷ ys) each rest = (
        record {
          bytes = each.0.bytes;
          after = (let later = each.0.later in omega (arith, later));
          within = each.0.within;
        },
        rest ys each.1,
      )

switch-within : (ss : List NamedRows) (r : RowAt) → IsRow ss r → r.switch < length ss
switch-within ss r is =
    let s = switch-of ss r is in
    slice_get_within ss r.switch s.0 s.1

-- what leaves is as much as what came
as-many : (delay : ℕ) (came left : List Arrival) → EachLeaves delay came left → length came ≡ length left
as-many delay [] [] each = refl
as-many delay [] (y ∷ left) each = absurd each
as-many delay (x ∷ came) [] each = absurd each
as-many delay (x ∷ came) (y ∷ left) each = ap suc (as-many delay came left each.1)

first-gone : (side : Side) (stream : List Sending) (waiting gone : List Arrival)
    → AreFirstOf side stream (waiting ++ gone) → AreFirstOf side stream gone
first-gone side stream [] gone are = are
first-gone side stream (x ∷ waiting) gone are = first-gone side stream waiting gone are.1

-- ---- the row of a way as a receiver sees it

-- a link has one identifier on its way
first-vl : (ss : List NamedRows) (r : RowAt) (before : List RowAt) → AreRowsBefore ss r before
    → (begins_at r before).row.vl ≡ r.row.vl
first-vl ss r [] are = refl
first-vl ss r (b ∷ before) are = first-vl ss b before are.1 ∙ (before-is ss r b are.0).row.vl_is

-- a link that goes to a system of the switch
to-system : (system own : ℕ) (to : List ℕ) → system < own → list_any (λ place. nat_eq place system) to ≡ true
    → list_any (λ place. nat_lt place own) to ≡ true
to-system system own [] within goes = absurd (cc goes)
to-system system own (place ∷ to) within goes =
    by (nat_eq place system) refl goes (λ rest. to-system system own to within rest)
  where
    by : (b : Bool) → nat_eq place system ≡ b → (b || list_any (λ p. nat_eq p system) to) ≡ true
        → (list_any (λ p. nat_eq p system) to ≡ true → list_any (λ p. nat_lt p own) to ≡ true)
        → (nat_lt place own || list_any (λ p. nat_lt p own) to) ≡ true
    by true is all rest =
        let here = eqb-true place system is in
        ap (λ b. b || list_any (λ p. nat_lt p own) to) (lt-ltb place own (omega (arith, here, within)))
    by false is all rest = or-true (nat_lt place own) (list_any (λ p. nat_lt p own) to) (rest all)
      where
        or-true : (a b : Bool) → b ≡ true → (a || b) ≡ true
        or-true true b is = refl
        or-true false b is = is

-- a system sends the row where a way begins
first-sent : (ss : List NamedRows) (r : RowAt) (before : List RowAt) → AreRowsBefore ss r before
    → is_sent_here ss (begins_at r before) ≡ true
first-sent ss r [] are = are
first-sent ss r (b ∷ before) are = first-sent ss b before are.1

module _ (ss : List NamedRows) (so_far : List SwitchEvent) (r : RowAt) (before : List RowAt) (system : ℕ)
    (all : IsAdmittedCascade ss so_far) (way : IsWayToSystem ss r before system) where
  abbrev first : RowAt
  first = begins_at r before

  abbrev t : Rows
  t = tables_of ss r.switch

  abbrev t0 : Rows
  t0 = tables_of ss first.switch

  first-row : IsRow ss first
  first-row = first-is ss r before way.row way.are

  run : IsAdmittedRun t (came_to r.switch so_far)
  run = (hop-is ss so_far r all way.row).run

  run0 : IsAdmittedRun t0 (came_to first.switch so_far)
  run0 = (hop-is ss so_far first all first-row).run

  place0 : ℕ
  place0 = (hop-is ss so_far first all first-row).place

  stands0 : slice_get t0.links place0 ≡ Some first.row
  unfolding place0
  stands0 = (hop-is ss so_far first all first-row).stands

  sum : ℕ
  sum = (row-latency ss r all.admitted way.row).0

  -- its port, with its way
  way-to : IsWayTo ss r before sum way.receiver.port
  unfolding sum
  way-to = record {
    row = way.row;
    are = way.are;
    latency = (row-latency ss r all.admitted way.row).1;
    goes = goes-there t system way.receiver r.row run.lawful way.stands way.goes;
  }

  -- ---- the link as its receiver sees it

  -- the sum of the way's latencies is at most the receiver's skew
  fast : sum ≤ r.row.skew_us
  fast = by (nat_lt r.row.from s.0.rows.own) refl
    where
      s : (z : NamedRows) × (slice_get ss r.switch ≡ Some z)
      s = switch-of ss r way.row

      by : (b : Bool) → nat_lt r.row.from s.0.rows.own ≡ b → sum ≤ r.row.skew_us
      by true ours =
          let hop = hop-is ss so_far r all way.row in
          let one : sum ≡ r.row.latency_us = same_Some sum r.row.latency_us (sym way-to.latency
          ∙ sent-latency ss r (slice_get_within ss r.switch s.0 s.1) (sent-here ss r s.0 s.1 ∙ ours)) in
          let most = run.admitted.skews hop.place r.row hop.stands in omega (arith, one, most)
      by false past =
          let hop = all.admitted.hops r.switch s.0 s.1 way.row.place r.row (row-here ss r s.0 way.row s.1)
          (ltb-false r.row.from s.0.rows.own past) in
          let one : sum ≡ hop.sum = same_Some sum hop.sum (sym way-to.latency ∙ hop.way) in
          let own = way.own in
          let here : t.own ≡ s.0.rows.own = ap (λ (z : Rows). z.own) (tables-at ss r.switch s.0 s.1) in
          let most = hop.skew (to-system system s.0.rows.own r.row.to (omega (arith, own, here)) way.goes) in
          omega (arith, one, most)

  link-up : (q : RowAt) → IsRow ss q → IsLinkUpTo jitter_from_any (length (tables_of ss q.switch).systems) q.row
  link-up q is =
      let hop = hop-is ss so_far q all is in
      AllByRecursion-slice_get (IsLinkUpTo jitter_from_any (length (tables_of ss q.switch).systems))
      (tables_of ss q.switch).links hop.place q.row hop.run.lawful.links.each hop.stands

  some : 1 ≤ sum
  some =
      let least = (link-up r way.row).latency_us.0 in
      let parts : latency_of (hops_at ss so_far before) + 1000 * r.row.latency_us ≡ 1000 * sum =
      way-takes ss so_far r before sum way.are way-to.latency in
      omega (arith, least, parts)

  -- a system sends it with a jitter of at most a BAG
  jitter : first.row.jitter_us ≤ 1000 * first.row.bag_ms
  jitter =
      let s = switch-of ss first first-row in
      let ours = ltb-true first.row.from s.0.rows.own
      (sym (sent-here ss first s.0 s.1) ∙ first-sent ss r before way.are) in
      let here : t0.own ≡ s.0.rows.own = ap (λ (z : Rows). z.own) (tables-at ss first.switch s.0 s.1) in
      run0.lawful.sent place0 first.row stands0 (omega (arith, ours, here))

  -- its first row, with the latency of the whole way and the receiver's skew
  abbrev seen : LinkRow
  seen = record first.row { latency_us = sum; skew_us = r.row.skew_us }

  is-link : IsLink (length t0.systems) seen
  is-link =
      let last = link-up r way.row in
      with-others jitter_from_any jitter_from_system (length t0.systems) first.row (link-up first first-row)
      first.row.policing first.row.jitter_us sum r.row.skew_us jitter
      (some, (let least = fast in let most = last.skew_us.1 in omega (arith, least, most))) last.skew_us

  module _ (computed : BuiltIsComputed) (messages : List Message) (stream : List Sending)
      (is : IsStreamFrom ss first messages stream)
      (sent : (side : Side) → AreFirstOf side stream (sent_on ss so_far first side)) where
    to : IsStreamTo r.row messages stream
    to = record {
      sender = is.sender;
      row = seen;
      ends = length t0.systems;
      link = is-link;
      vl = first-vl ss r before way.are;
      skew = refl;
      fast = fast;
      lawful = record {
        moments = is.lawful.moments;
        moment_count = is.lawful.moment_count;
        message_count = is.lawful.message_count;
        sendable = λ place m at. record {
          buildable = (is.lawful.sendable place m at).buildable;
          bytes = (is.lawful.sendable place m at).bytes;
        };
        apart = is.lawful.apart;
        shaped = is.lawful.shaped;
        sent = λ k x y at_x at_y. record {
          a = (is.lawful.sent k x y at_x at_y).a;
          b = (is.lawful.sent k x y at_x at_y).b;
          a_length = (is.lawful.sent k x y at_x at_y).a_length;
          b_length = (is.lawful.sent k x y at_x at_y).b_length;
        };
      };
    }

    -- the first switch accepts what its sender sends
    accepted : (side : Side) → accepted_of ss so_far side first ≡ sent_on ss so_far first side
    accepted side =
        sym (accepted-is t0 place0 first.row side run0.lawful stands0 (came_to first.switch so_far))
        ∙ (accepted-stream t0 is.sender first.row messages stream is.lawful computed side
        (own first.row.vl side (came_to first.switch so_far)) (sent side)).arrivals

    module _ (later events : List Event) (are : events_of t (came_to r.switch so_far) ≡ later ++ events)
        (xs : Side → List Arrival) (firsts : (side : Side) → AreFirstOf side stream (xs side))
        (leave : (side : Side) → EachLeaves (1000 * sum) (xs side) (named r.row.vl
        (brought_by side way.receiver.port (taken_at way.receiver.port (turns_on side events))))) where
      -- the lines of these events tell the messages of the frames that left
      told : messages_at system r (told_by t events)
          ≡ heard_by ss system r (take (max (length (xs A)) (length (xs B))) messages)
      unfolding to
      told =
          let hop = hop-is ss so_far r all way.row in
          told-by-slots computed t (came_to r.switch so_far) run later events are system hop.place way.receiver
          r.row messages stream way.stands way.own hop.stands way.goes to xs firsts (λ side.
          later-by (1000 * sum) r.row.vl side way.receiver.port
          (slots (taken_at way.receiver.port (turns_on side events))) (xs side) (leave side))

-- ---- the laws

pub messages-so-far : BuiltIsComputed → MessagesComeSoFar
messages-so-far computed ss so_far events r before system messages stream way is sent =
    let all = events.cascade in
    let port = way.receiver.port in
    let to = way-to ss so_far r before system all way in
    let within = row-port ss so_far r port all to.goes in
    let arrivals = came_to r.switch so_far in
    let t = tables_of ss r.switch in
    let ran = run ss so_far r before system all way in
    told ss so_far r before system all way computed messages stream is sent [] (events_of t arrivals) refl
    (sent_on ss so_far (begins_at r before)) sent (λ side.
    subst (λ ts. EachLeaves (1000 * sum ss so_far r before system all way) (sent_on ss so_far (begins_at r before) side)
    (named r.row.vl (brought_by side port ts)))
    (all-turned (plan_of ss) so_far r.switch port side all.rules ran.timed events.none within.0 within.1
    ∙ sym (taken-at-port t arrivals (events_of t arrivals) side port ran.lawful ran.timed within.0 within.1
    (are-events t arrivals)))
    (subst (λ xs. EachLeaves (1000 * sum ss so_far r before system all way) xs
    (left_from so_far side r.switch port r.row.vl))
    (accepted ss so_far r before system all way computed messages stream is sent side)
    (links-leave ss so_far side r before (sum ss so_far r before system all way) port events to)))

most-sent-on : (ss : List NamedRows) (so_far : List SwitchEvent) (first : RowAt) (side : Side)
    → length (sent_on ss so_far first side) ≤ most_sent ss so_far first
most-sent-on ss so_far first A = omega arith
most-sent-on ss so_far first B = omega arith

pub one-side : BuiltIsComputed → OneSideIsEnough
one-side computed ss so_far events r before system messages stream whole way is sent fed =
    let first = begins_at r before in
    let most = most-sent-on ss so_far first whole in
    let all = fed.whole in
    let count = is.lawful.message_count in
    messages-so-far computed ss so_far events r before system messages stream way is sent
    ∙ ap (heard_by ss system r) (take-all (most_sent ss so_far first) messages (omega (arith, most, all, count)))

pub messages-once : BuiltIsComputed → MessagesComeOnce
messages-once computed ss so_far events r before system messages stream way is fed =
    one-side computed ss so_far events r before system messages stream A way is (λ side. (fed side).frames) (fed A)

pub first-messages : BuiltIsComputed → FirstMessagesCome
first-messages computed ss so_far all begun r before system messages stream way is sent =
    let port = way.receiver.port in
    let some = begun r.switch (switch-within ss r way.row) in
    told ss so_far r before system all way computed messages stream is sent some.0 (at_switch r.switch so_far) some.1
    (λ side. (part side).gone) (λ side. gone-first side) (λ side. (part side).leave)
    ∙ ap (λ n. heard_by ss system r (take n messages)) counts
  where
    part : (side : Side) → FirstOfThemLeave (1000 * sum ss so_far r before system all way)
        (accepted_of ss so_far side (begins_at r before))
        (left_from so_far side r.switch way.receiver.port r.row.vl)
    part side = first-links-leave ss so_far side r before (sum ss so_far r before system all way) way.receiver.port all
        (way-to ss so_far r before system all way)

    gone-first : (side : Side) → AreFirstOf side stream (part side).gone
    gone-first side = first-gone side stream (part side).waiting (part side).gone
        (subst (AreFirstOf side stream)
        (sym (accepted ss so_far r before system all way computed messages stream is sent side) ∙ (part side).all)
        (sent side))

    many : (side : Side) → length (part side).gone
        ≡ length (left_from so_far side r.switch way.receiver.port r.row.vl)
    many side = as-many (1000 * sum ss so_far r before system all way) (part side).gone
        (left_from so_far side r.switch way.receiver.port r.row.vl) (part side).leave

    counts : max (length (part A).gone) (length (part B).gone) ≡ most_left so_far r way.receiver.port
    counts = ap (λ n. max n (length (part B).gone)) (many A)
        ∙ ap (λ n. max (length (left_from so_far A r.switch way.receiver.port r.row.vl)) n) (many B)
