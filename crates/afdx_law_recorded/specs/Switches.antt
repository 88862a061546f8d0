-- All links of a switch a side, as they were recorded: what came to it from its systems, and what
-- left its ports, on both sides. Lists have the newest first.
use Rattle.std.specs.Prelude.{◌≡◌, ℕ, ◌*◌, ◌<◌, ◌≤◌, ◌&&◌, nat_eq, true, None, Some, List, [], filter, map, reverse, slice_get}
use Rattle.afdx_frame.specs.Sides.{is_side}
use Rattle.afdx_frame.specs.declared.link.Side.{Side}
use Rattle.afdx_config.specs.Admission.{IsServing}
use Rattle.afdx_config.specs.Lawful.{IsLawfulSwitch}
use Rattle.afdx_config.specs.Reading.{has_port}
use Rattle.afdx_config.specs.Rows.{LinkRow, Rows, SystemRow, is_to}
use Rattle.afdx_police.specs.Arrival.{Arrival, names, own}
use Rattle.afdx_police.specs.Spacing.{AreUpTo}
use Rattle.afdx_law_bounds.specs.Tables.{byte_ns_at, port_of, rule_of}
use Rattle.afdx_conform.specs.Headline.{AreTheirFrames}
use Rattle.afdx_conform.specs.Leeway.{Leeway}
use Rattle.afdx_conform.specs.Streams.{Gone, Terms}
use Rattle.afdx_receive.specs.Delivery.{delivered}
use Rattle.afdx_receive.specs.Integrity.{Incoming}
use Rattle.afdx_lawful.specs.Accepted.{arrivals_of}
use Rattle.afdx_lawful.specs.Sources.{Way, apart_by, left_by}
use Rattle.afdx_senders.specs.AllLines.{all_lines}
use Rattle.afdx_senders.specs.Setups.{Setup, own_frames}
use Rattle.afdx_senders.specs.Terms.{terms_at}
use Rattle.afdx_law_recorded.specs.OneSide.{IsShown}
use Rattle.afdx_law_recorded.specs.Receivers.{AreHeard, messages_sent}

-- what a link's stream at a port is judged by, and how the system at that port gets the link
abbrev pub stream_at : Rows → Leeway → (until : ℕ) → LinkRow → (port : ℕ) → Terms
stream_at t by until l port = record {
  rule = rule_of t l;
  latency_ns = 1000 * l.latency_us;
  byte_ns = byte_ns_at t port;
  by = by;
  until = until;
}

abbrev pub way_at : Rows → LinkRow → (port : ℕ) → Way
way_at t l port = record {
  skew = 1000 * l.skew_us;
  latency = 1000 * l.latency_us;
  byte_ns = byte_ns_at t port;
}

-- of all that left what left a port on a side of a link
abbrev pub gone_as : Arrival → Gone
gone_as x = record { number = x.tag; time = x.time; bytes = x.bytes }

abbrev pub left_of : (vl : ℕ) → Side → (port : ℕ) → List Arrival → List Gone
left_of vl side port left =
    map gone_as
    (filter (λ x. is_side x.side side && nat_eq x.port port && names vl x.bytes) left)

-- Stamps and clocks are exact, accounts are asked at once, a frame takes nothing inside beyond its
-- latency, and nothing went before.
pub record IsExactFromReset (by : Leeway) : Type 0 where
  pub slack : by.slack ≡ 0
  pub between : by.between ≡ 0
  pub drift : by.drift ≡ 0
  pub inner : by.inner ≡ 0
  pub asked : by.asked ≡ 0
  pub start : by.start ≡ None

-- The switch has lawful tables that keep admission. All its systems that send are judged as senders
-- and were recorded on both sides, exactly; and of their links copies may be sent no further apart
-- than the way of each receiver leaves them.
pub record AllAreJudged (z : Setup) : Type 0 where
  pub lawful : IsLawfulSwitch z.tables
  pub serving : IsServing z.tables
  pub exact : IsExactFromReset z.asked.by
  pub judged : (place : ℕ) (l : LinkRow) →
      slice_get z.tables.links place ≡ Some l →
      l.from < z.tables.own →
      z.is_judged place ≡ true
  pub recorded : (side : Side) (place : ℕ) (l : LinkRow) →
      slice_get z.tables.links place ≡ Some l →
      l.from < z.tables.own →
      z.recorded side (port_of z.tables l.from) ≡ true
  pub near : (place system bytes : ℕ) (l : LinkRow) (s : SystemRow) →
      slice_get z.tables.links place ≡ Some l →
      slice_get z.tables.systems system ≡ Some s →
      is_to system l ≡ true →
      l.from < z.tables.own →
      l.lmin ≤ bytes →
      apart_by (terms_at z.tables z.recorded z.asked place l) z.asked.given bytes
      ≤ left_by (way_at z.tables l s.port) bytes

-- Of what came, by time, no line is told of any sender; and of no stream of their links, at a
-- receiver's port, anything is found of what came and left, and nothing is open.
pub record NothingIsTold (z : Setup) (until : ℕ) (came left : List Arrival) : Type 0 where
  pub by_time : AreUpTo z.asked.until (map (λ x. x.time) came)
  pub no_line : all_lines z came ≡ []
  pub streams : (side : Side) (place system : ℕ) (l : LinkRow) (s : SystemRow) →
      slice_get z.tables.links place ≡ Some l →
      slice_get z.tables.systems system ≡ Some s →
      is_to system l ≡ true →
      l.from < z.tables.own →
      IsShown (stream_at z.tables z.asked.by until l s.port) (own l.vl side came)
      (left_of l.vl side s.port left)

-- Of a link and one of its receivers: on each side exactly what the link's system sent left the
-- receiver's port, in order and in time; and what the rules of integrity and redundancy make of it
-- are the messages to the receiver's UDP ports, each once and in order.
pub record EachCameOnce (z : Setup) (until : ℕ) (came left : List Arrival) (place system : ℕ)
    (l : LinkRow) (s : SystemRow) (heard : List Incoming) : Type 0 where
  pub frames : (side : Side) →
      AreTheirFrames (stream_at z.tables z.asked.by until l s.port)
      (arrivals_of (terms_at z.tables z.recorded z.asked place l) side (own_frames z place came))
      (left_of l.vl side s.port left)
  pub messages :
      reverse (delivered (1000 * l.skew_us) (has_port z.tables.ports system l.vl) heard)
      ≡ filter (λ m. has_port z.tables.ports system l.vl m.udp)
      (messages_sent (own_frames z place came))

-- So it is of each link that a system of the switch sends, at each of its receivers.
abbrev pub AllComeOnce : Type 0
AllComeOnce =
    (z : Setup) (until : ℕ) (came left : List Arrival) (place system : ℕ) (l : LinkRow)
    (s : SystemRow) (heard : List Incoming) →
    AllAreJudged z →
    NothingIsTold z until came left →
    slice_get z.tables.links place ≡ Some l →
    slice_get z.tables.systems system ≡ Some s →
    is_to system l ≡ true →
    l.from < z.tables.own →
    AreHeard l.vl (λ side. left_of l.vl side s.port left) heard →
    EachCameOnce z until came left place system l s heard
