-- What leaves a switch as it is promised, whatever tells of it. Lists have the latest first.
use Rattle.std.specs.Prelude.{◌≡◌, ℕ, ◌+◌, ◌*◌, ◌≤◌, true, if◌then◌else◌, Some, List, [], filter, length, map, slice_get}
use Rattle.std.specs.List.{AllByRecursion}
use Rattle.afdx_frame.specs.Ports.{last_port}
use Rattle.afdx_frame.specs.Regulation.{wire_of}
use Rattle.afdx_frame.specs.declared.link.Side.{Side}
use Rattle.afdx_config.specs.Rows.{LinkRow, Rows}
use Rattle.afdx_police.specs.Arrival.{Arrival, names}
use Rattle.afdx_switch.specs.Admitted.{accepted_on, passing}
use Rattle.afdx_switch.specs.Tables.{byte_ns_at, goes_to}
use Rattle.afdx_law_promises.specs.Lines.{Leaving, is_leaving}

-- a frame is of a link that goes to the port where it left, and in time: not before it came and had
-- its time on the wire
pub record LeavesAsPromised (t : Rows) (d : Leaving) : Type 0 where
  pub place : ℕ
  pub link : LinkRow
  pub stands : slice_get t.links place ≡ Some link
  pub named : names link.vl d.frame.bytes ≡ true
  pub goes : goes_to t link d.port ≡ true
  pub within : d.time ≤ d.frame.time + 1000 * link.latency_us
  pub no_sooner : d.frame.time + wire_of (length d.frame.bytes) * byte_ns_at t d.port ≤ d.time

-- so all of these are; and of each link those that left at a port that it goes to are, in order,
-- the frames that the switch of the side accepts of its own arrivals, and at other ports none
pub record LeaveAsPromised (t : Rows) (arrivals : List Arrival) (left : List Leaving) : Type 0 where
  pub each : AllByRecursion (LeavesAsPromised t) left
  pub frames : (side : Side) (port place : ℕ) (l : LinkRow) →
      1 ≤ port →
      port ≤ last_port →
      slice_get t.links place ≡ Some l →
      map (λ d. d.frame) (filter (is_leaving l.vl side port) left)
      ≡ (if goes_to t l port then map passing (accepted_on t l side arrivals) else [])
