-- From what the senders of several switches took to what the receivers are told.
use Rattle.std.proofs.Common.{◌≡◌, ℕ, ◌<◌, ◌≤◌, ◌==◌, ◌&&◌, List, [], ◌∷◌, length, take}
use Rattle.std.proofs.Common.{refl, sym, ap, subst, ◌∙◌, arith, Some, None, slice_get}
use Rattle.std.specs.Prelude.{reverse, Ok}
use Rattle.std.specs.List.{AllByRecursion}
use Rattle.std.proofs.lemmas.List.{reverse-reverse}
use Rattle.afdx_frame.proofs.ListLemmas.{AllByRecursion-slice_get, slice_get-within}
use Rattle.afdx_frame.specs.Sides.{is_side}
use Rattle.afdx_frame.specs.declared.link.Side.{Side}
use Rattle.afdx_admit.specs.Cascade.{RowAt}
use Rattle.afdx_config.specs.Admission.{IsAdmitted}
use Rattle.afdx_config.specs.Lawful.{IsLawfulSwitch, IsSystem}
use Rattle.afdx_config.specs.Rows.{SystemRow, Rows}
use Rattle.afdx_config.specs.Switches.{NamedRows, AreSwitches, far_end}
use Rattle.afdx_police.specs.Arrival.{Arrival}
use Rattle.afdx_port.specs.Schedule.{Turn}
use Rattle.afdx_input_lines.specs.Lines.{lines_of}
use Rattle.afdx_input_lines.specs.SitedLines.{NamedCables, SitedFrame, sited_line_says}
use Rattle.afdx_input_lines.proofs.SitedLemmas.{sited_line_says_nothing}
use Rattle.afdx_cascade.specs.EndToEnd.{begins_at}
use Rattle.afdx_cascade.specs.Parts.{frames_to}
use Rattle.afdx_cascade.specs.Plans.{plan_of, tables_of}
use Rattle.afdx_cascade.specs.Receivers.{IsWayToSystem, heard_by, lines_of as lines_told, messages_at, most_sent}
use Rattle.afdx_cascade.specs.Released.{HasEmitted}
use Rattle.afdx_cascade.specs.SwitchEvents.{SwitchEvent, came_to}
use Rattle.afdx_cascade.proofs.EndToEndLemmas.{first-is}
use Rattle.afdx_cascade.proofs.FedLemmas.{row-here, switch-of, tables-at}
use Rattle.afdx_cascade.proofs.LinesLemmas.{ports-lines}
use Rattle.afdx_cascade.proofs.PlanLemmas.{lawful-at}
use Rattle.afdx_cascade.proofs.ReleasedLemmas.{one-side-brings, released-once, released-so-far}
use Rattle.afdx_cascade.proofs.WholeLemmas.{system-free}
use Rattle.afdx_input_sources.specs.Lists.{items_of}
use Rattle.afdx_law_promises.specs.Sent.{AreSentAs, IsMerged, IsMergedSoFar, arrivals_at, frame_on}
use Rattle.afdx_law_promises.proofs.SentLemmas.{all-earlier, copy-is, take-all}
use Rattle.afdx_replay.specs.cascading.Ran.{lists}
use Rattle.afdx_replay.specs.cascading.Sited.{sites_of}
use Rattle.afdx_input_runs.specs.ListText.{switch_name}
use Rattle.afdx_send.specs.Emissions.{own, sent_list}
use Rattle.afdx_send.specs.Frames.{Frame}
use Rattle.afdx_command_tables.specs.sending.Events.{Event, taken_by, turns_in}
use Rattle.afdx_law_text.specs.Several.{AreHeardAsTaken, AreHeardSoFar, HasSentFrom, HoldsFirstOf, HoldsTextOf, IsReplayed}
use Rattle.afdx_law_text.specs.Several.{RunsBringTaken, WrittenIsSentFrom, TakenComesByOneSide, TakenComesEndToEnd, TakenComesSoFar, lines_there, messages_of, says_there, text_of}
use Rattle.afdx_law_text.proofs.EmittedLemmas as emitted
use Rattle.afdx_law_text.proofs.EmittedLemmas.{Laws, sent-messages}
use Rattle.afdx_law_text.proofs.EndToEndLemmas.{lines-first, not-empty, snoc-same}
use Rattle.afdx_law_text.proofs.SendLineLemmas.{CanBeRead, IsFine, Tests, line_on, lines_on, no-return, refused}
use Rattle.afdx_law_text.proofs.SendLineLemmas.{refused-least, text-at-port}
use Rattle.afdx_law_text.proofs.SentLineLemmas.{AtLeast, lower-least}
use Rattle.afdx_replay.proofs.SiteLemmas.{found, free-at, word}
use Rattle.afdx_law_text.proofs.SitedLineLemmas.{frame_at, sited-says}
use Rattle.afdx_cascade.specs.Turning.{end_of}
use Rattle.afdx_input_lines.specs.SitedLines.{place_named}
use Rattle.afdx_port.proofs.TurnLemmas.{eqb-same}
use Rattle.afdx_send.specs.Sender.{SenderHistory}
use Rattle.afdx_law_text.proofs.SitedPortLemmas.{AreSaidAt, said-there}

-- ---- the lines of a text, read

module _ (ss : List NamedRows) (are : AreSwitches ss) (k : ℕ) (within : k < length ss) (s : SystemRow)
    (one : 1 ≤ s.port) (most : s.port ≤ 24) (free : far_end ss k s.port ≡ None) where
  abbrev sites : List NamedCables
  sites = sites_of ss

  abbrev name : List ℕ
  name = switch_name ss k

  turn-says : (side : Side) (turn : Turn Frame) → CanBeRead s turn
      → sited_line_says sites 0 (line_on name s side turn)
      ≡ Ok (Some (frame_at k turn.end side s.port (frame_on s side turn.entry.item)))
  turn-says side turn can =
      let w = word ss are k within in
      ap (λ n. sited_line_says sites 0 (line_on n s side turn)) w.is
      ∙ sited-says sites k w.first w.rest (ap (place_named sites) (sym w.is) ∙ found ss are k within) w.least side
      s.port
      turn.end (frame_on s side turn.entry.item) one most can.early (can.frames side)
      (free-at ss are k within s.port most free)

  tests : Tests name s (λ side port line. says_there k side port (sited_line_says sites 0 line))
  tests = record {
    turn = λ side own port turn can. ap (says_there k side port) (turn-says own turn can)
        ∙ ap (λ b. b && (is_side side own && (port == s.port))) (eqb-same k k refl);
    refusal = λ side port n fault few. ap (says_there k side port)
        (sited_line_says_nothing sites 0 (refused n fault) (refused n fault)
        (no-return (refused n fault) (omega arith) (refused-least n fault few)) refl);
  }

  name-least : AtLeast 32 name
  name-least = let w = word ss are k within in
      subst (AtLeast 32) (sym w.is) (lower-least 32 48 (w.first ∷ w.rest) (omega arith) w.least)

  at-port : (side : Side) (events : List Event) → AllByRecursion (IsFine s) events
      → lines_there sites k side s.port (lines_of (text_of ss k s events)) ≡ lines_on name s side (turns_in events)
  at-port side events fine = text-at-port name name-least s most
      (λ own at line. says_there k own at (sited_line_says sites 0 line)) tests side events fine

  sent-as : (side : Side) (turns : List (Turn Frame)) (xs : List Arrival) → AllByRecursion (CanBeRead s) turns
      → AreSaidAt sites xs (lines_on name s side turns) → AreSentAs s side turns xs
  sent-as side [] [] can said = tt
  sent-as side [] (x ∷ past) can said = not-empty said.0 said.1 (sym said.2)
  sent-as side (turn ∷ earlier) [] can said = not-empty (lines_on name s side earlier) (line_on name s side turn) said
  sent-as side (turn ∷ earlier) (x ∷ past) can said =
      let same = snoc-same (lines_on name s side earlier) said.0 (line_on name s side turn) said.1 said.2 in
      let f = frame_at k turn.end side s.port (frame_on s side turn.entry.item) in
      let says = sym (turn-says side turn can.0) ∙ ap (sited_line_says sites 0) same.1 ∙ said.3.said in
      let is : f ≡ said.3.frame = cc says in (
        record {
          time = said.3.time ∙ sym (ap (λ (z : SitedFrame). z.frame.time) is);
          bytes = said.3.bytes
              ∙ sym (ap (λ (z : SitedFrame). z.frame.bytes) is) ∙ sym (copy-is s turn side);
        },
        sent-as side earlier past can.1 (subst (λ (z : List (List ℕ)). AreSaidAt sites past z) (sym same.0) said.4),
      )

-- ---- all of it

module _ (laws : Laws) (ss : List NamedRows) (list : List (List ℕ)) (events : List SwitchEvent) (k sender : ℕ)
    (s : SystemRow) (given : List (List ℕ)) (sends : List Event) (run : IsReplayed ss list events)
    (from : HasSentFrom ss k sender s given sends) where
  abbrev t : Rows
  t = tables_of ss k

  here : (z : NamedRows) × (slice_get ss k ≡ Some z)
  here = slice_get-within ss k from.within

  lawful : IsLawfulSwitch t
  lawful = subst IsLawfulSwitch (sym (tables-at ss k here.0 here.1)) (lawful-at ss run.are k here.0 here.1)

  admitted : IsAdmitted t
  admitted = subst IsAdmitted (sym (tables-at ss k here.0 here.1)) (run.admitted.each k here.0 here.1)

  is_system : IsSystem t.profile s
  is_system = AllByRecursion-slice_get (IsSystem t.profile) t.systems sender s lawful.systems.each from.sent.stands

  free : far_end ss k s.port ≡ None
  free = system-free ss run.are k sender s from.sent.stands from.own from.within

  can : AllByRecursion (CanBeRead s) (turns_in sends)
  can = emitted.can laws t lawful admitted sender from.own s given sends from.sent

  fine : AllByRecursion (IsFine s) sends
  fine = emitted.fine laws t lawful admitted sender from.own s given sends from.sent

  -- what comes at its port is what the lines there say
  by-lines : (side : Side)
      → AreSaidAt (sites_of ss) (arrivals_at side s.port (came_to k events))
      (lines_there (sites_of ss) k side s.port list)
  by-lines side =
      let past = items_of (lists ss) list (length list) in
      subst (λ (xs : List Arrival). AreSaidAt (sites_of ss) xs (lines_there (sites_of ss) k side s.port list))
      (ap (λ ls. arrivals_at side s.port (frames_to k ls)) (sym (reverse-reverse past))
      ∙ sym (ports-lines (plan_of ss) (reverse past) events side k s.port run.all (ap end_of free)))
      (subst (λ (z : List (List ℕ)).
      AreSaidAt (sites_of ss) (arrivals_at side s.port (frames_to k past)) (lines_there (sites_of ss) k side s.port z))
      (take-all (length list) list (omega arith))
      (said-there (sites_of ss) k side s.port list (length list) (omega arith) run.sound))

  of-text : (side : Side) → lines_there (sites_of ss) k side s.port (lines_of (text_of ss k s sends))
      ≡ lines_on (switch_name ss k) s side (turns_in sends)
  of-text side = at-port ss run.are k from.within s is_system.port.0 is_system.port.1 free side sends fine

  -- so where these are those of the text, it is what it sent
  side-merged : (side : Side) → lines_there (sites_of ss) k side s.port list
      ≡ lines_there (sites_of ss) k side s.port (lines_of (text_of ss k s sends))
      → AreSentAs s side (turns_in sends) (arrivals_at side s.port (came_to k events))
  side-merged side holds =
      sent-as ss run.are k from.within s is_system.port.0 is_system.port.1 free side (turns_in sends)
      (arrivals_at side s.port (came_to k events)) can
      (subst (AreSaidAt (sites_of ss) (arrivals_at side s.port (came_to k events))) (holds ∙ of-text side)
      (by-lines side))

  first-merged : ((side : Side) → HoldsFirstOf ss k s side list (text_of ss k s sends))
      → IsMergedSoFar s (turns_in sends) (came_to k events)
  first-merged holds side =
      let first = lines-first (switch_name ss k) s side (turns_in sends) (lines_there (sites_of ss) k side s.port list)
      (holds side).0 (sym (of-text side) ∙ (holds side).1) in (
        first.0,
        first.1,
        first.2,
        sent-as ss run.are k from.within s is_system.port.0 is_system.port.1 free side first.1
            (arrivals_at side s.port (came_to k events))
            (all-earlier (CanBeRead s) first.0 first.1
            (subst (λ (z : List (Turn Frame)). AllByRecursion (CanBeRead s) z) first.2 can))
            (subst (AreSaidAt (sites_of ss) (arrivals_at side s.port (came_to k events))) (sym first.3)
            (by-lines side)),
      )

  module _ (r : RowAt) (before : List RowAt) (system : ℕ) (way : IsWayToSystem ss r before system)
      (at_k : (begins_at r before).switch ≡ k) (by_it : (begins_at r before).row.from ≡ sender) where
    abbrev first : RowAt
    first = begins_at r before

    -- its row there
    place : (i : ℕ) × (slice_get t.links i ≡ Some first.row)
    place =
        let is = first-is ss r before way.row way.are in
        let z = switch-of ss first is in (
          is.place,
          ap (λ j. slice_get (tables_of ss j).links is.place) (sym at_k)
              ∙ ap (λ (q : Rows). slice_get q.links is.place) (tables-at ss first.switch z.0 z.1)
              ∙ row-here ss first z.0 is z.1,
        )

    ready : emitted.IsReady laws t lawful admitted sender from.own s given sends from.sent first.row
    ready = emitted.ready laws t lawful admitted sender from.own s given sends from.sent place.0 first.row place.1 by_it

    abbrev h : SenderHistory
    h = emitted.h laws t lawful admitted sender from.own s given sends from.sent

    has-emitted : HasEmitted ss first h ready.0
    has-emitted = record {
      stands = ap (λ j. slice_get (tables_of ss j).systems first.row.from) at_k
          ∙ ap (slice_get t.systems) by_it ∙ from.sent.stands;
      buildable = emitted.build laws t lawful admitted sender from.own s given sends from.sent;
      lawfully = ready.1.emits;
    }

    -- at the first switch of the way
    moved : IsMerged s (turns_in sends) (came_to k events) → IsMerged s (turns_in sends) (came_to first.switch events)
    moved merged = subst (λ j. IsMerged s (turns_in sends) (came_to j events)) (sym at_k) merged

    moved-first : IsMergedSoFar s (turns_in sends) (came_to k events)
        → IsMergedSoFar s (turns_in sends) (came_to first.switch events)
    moved-first merged = subst (λ j. IsMergedSoFar s (turns_in sends) (came_to j events)) (sym at_k) merged

    as-taken : messages_at system r (lines_told ss events r.switch)
        ≡ heard_by ss system r (sent_list (own ready.0 ready.1.emits.released))
        → AreHeardAsTaken ss events r first system (taken_by first.row.vl sends)
    as-taken all =
        let told = all ∙ ap (heard_by ss system r) (sent-messages (own ready.0 ready.1.emits.released)) in
        record {
          releases = own ready.0 ready.1.emits.released;
          all = ready.2;
          told = told;
          of_one_sub = λ one. told ∙ ap (λ ms. heard_by ss system r (messages_of ms)) (ready.2.of_one_sub one);
        }

    heard : HoldsTextOf ss k s list (text_of ss k s sends)
        → AreHeardAsTaken ss events r first system (taken_by first.row.vl sends)
    unfolding has-emitted
    heard holds = as-taken (released-once laws.computed ss events r before system ready.0 h run.kept.once way
        has-emitted
        (moved (λ side. side-merged side (holds side))))

    heard-by-one : ((side : Side) → HoldsFirstOf ss k s side list (text_of ss k s sends)) → (whole : Side)
        → lines_there (sites_of ss) k whole s.port list
        ≡ lines_there (sites_of ss) k whole s.port (lines_of (text_of ss k s sends))
        → AreHeardAsTaken ss events r first system (taken_by first.row.vl sends)
    unfolding has-emitted
    heard-by-one holds whole all_come = as-taken (one-side-brings laws.computed ss events r before system ready.0 h
        whole
        run.kept.once_so_far way has-emitted (moved-first (first-merged holds))
        (subst (λ j. AreSentAs s whole (turns_in sends) (arrivals_at whole s.port (came_to j events))) (sym at_k)
        (side-merged whole all_come)))

    heard-so-far : ((side : Side) → HoldsFirstOf ss k s side list (text_of ss k s sends))
        → AreHeardSoFar ss events r first system (taken_by first.row.vl sends) (most_sent ss events first)
    unfolding has-emitted
    heard-so-far holds = record {
      releases = own ready.0 ready.1.emits.released;
      all = ready.2;
      told = released-so-far laws.computed ss events r before system ready.0 h run.kept.once_so_far way has-emitted
          (moved-first (first-merged holds))
          ∙ ap (λ ms. heard_by ss system r (take (most_sent ss events first) ms))
          (sent-messages (own ready.0 ready.1.emits.released));
    }

pub taken-comes : Laws → TakenComesEndToEnd
taken-comes laws ss list events k sender s given sends run from holds r before system way at_k by_it =
    heard laws ss list events k sender s given sends run from r before system way at_k by_it holds

pub taken-by-one : Laws → TakenComesByOneSide
taken-by-one laws ss list events k sender s given sends run from holds whole all_come r before system way at_k by_it =
    heard-by-one laws ss list events k sender s given sends run from r before system way at_k by_it holds whole all_come

pub taken-so-far : Laws → TakenComesSoFar
taken-so-far laws ss list events k sender s given sends run from holds r before system way at_k by_it =
    heard-so-far laws ss list events k sender s given sends run from r before system way at_k by_it holds

-- ---- of the two runs

pub written-from : WrittenIsSentFrom
written-from ss k sender s given text sends within is_own stands sent early = (
  record {
    within = within;
    own = is_own;
    sent = record {
      stands = stands;
      sound = sent.sound;
      are_events = sent.writes.are_events;
      are_done = sent.writes.are_done;
      early = early;
    };
  },
  sent.writes.written,
)

pub runs-bring : Laws → RunsBringTaken
runs-bring laws ss k sender s given text bytes old new sends replays are admitted within is_own stands sent early holds
    ran =
    let w = written-from ss k sender s given text sends within is_own stands sent early in
    taken-comes laws ss (lines_of bytes) ran.told.events k sender s (lines_of given) sent.writes.events
    (record {
      are = are;
      admitted = admitted;
      sound = ran.sound;
      all = ran.told.all;
      kept = ran.told.parts.end_to_end are admitted;
    }) w.0 (subst (HoldsTextOf ss k s (lines_of bytes)) w.1 holds)
