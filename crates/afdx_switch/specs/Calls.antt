-- What each call of a switch does, whatever calls the switch stands for.
use Rattle.std.specs.Prelude.{◌≡◌, ◌↔◌, ℕ, ◌+◌, ◌≤◌, true, None, Some, Option, Result, List, ◌∷◌}
use Rattle.std.specs.Prelude.{IfOk, OnOk, OnErr, IfSome, IfNone, MatchOption, slice_get}
use Rattle.afdx_config.specs.Lawful.{IsLawfulSwitch}
use Rattle.afdx_config.specs.Rows.{LinkRow, Rows}
use Rattle.afdx_frame.specs.Ports.{last_port}
use Rattle.afdx_frame.specs.declared.link.Side.{Side}
use Rattle.afdx_frame.specs.declared.link.Side.TheVariants.{A}
use Rattle.afdx_police.specs.Arrival.{arrival_with, names, own}
use Rattle.afdx_port.specs.Due.{given_at, IsAfter}
use Rattle.afdx_port.specs.History.{due_at}
use Rattle.afdx_port.specs.Ports.{order_at}
use Rattle.afdx_port.specs.Schedule.{Turn}
use Rattle.afdx_port.specs.Times.{drain_end}
use Rattle.afdx_port.specs.declared.left.Due.{Due}
use Rattle.afdx_switch.specs.Admitted.{IsAdmittedRun, LosesNothing, IsInTime, HaveLeft}
use Rattle.afdx_switch.specs.Departures.{giving_side}
use Rattle.afdx_switch.specs.Early.{IsEarlyBy}
use Rattle.afdx_switch.specs.HeldFrames.{HeldFrame}
use Rattle.afdx_switch.specs.LinkFrames.{AreFirstEntered}
use Rattle.afdx_switch.specs.Regular.{IsRegularAt, IsAccepted}
use Rattle.afdx_switch.specs.Streams.{IsNextOfStream}
use Rattle.afdx_switch.specs.Switching.{SwitchHistory, StandsFor, IsQuiet, IsNextAt, IsDue, IsDone}
use Rattle.afdx_switch.specs.Switching.{Gives, with_arrival, at, taken_at, frames_held, last_time}
use Rattle.afdx_switch.specs.Tables.{rule_of, entries_at}
use Rattle.afdx_switch.specs.Verdicts.{IsVerdict, shape_fault}
use Rattle.afdx_switch.specs.declared.switch.Departure.{Departure}
use Rattle.afdx_switch.specs.declared.switch_state.SwitchState.{SwitchState}
use Rattle.afdx_switch.specs.declared.verdict.Verdict.{Verdict}

-- `arrive` takes in a frame at a time, or lacks memory
pub record Arrives {E : Type 0} (old new : SwitchState) (tag time port : ℕ) (bytes : List ℕ)
    (result : Result Verdict E) : Type 0 where
  pub verdict : (t : Rows) (side : Side) (h : SwitchHistory) →
      StandsFor t side old h →
      IfOk result (IsVerdict t h.arrivals (arrival_with tag time side port bytes))
  pub stands : (t : Rows) (side : Side) (h : SwitchHistory) →
      StandsFor t side old h →
      OnOk result (StandsFor t side new (with_arrival h (arrival_with tag time side port bytes)))
  -- on admitted tables no copy is lost; a stream that keeps its gap, as a lawful one does, is
  -- accepted
  pub kept : (t : Rows) (side : Side) (h : SwitchHistory) →
      StandsFor t side old h →
      IsAdmittedRun t (arrival_with tag time side port bytes ∷ h.arrivals) →
      IfOk result LosesNothing
  pub regular : (t : Rows) (side : Side) (h : SwitchHistory) (place : ℕ) (l : LinkRow) →
      StandsFor t side old h →
      IsLawfulSwitch t →
      slice_get t.links place ≡ Some l →
      names l.vl bytes ≡ true →
      (rule_of t l).port ≡ port →
      let arrivals = own l.vl side (arrival_with tag time side port bytes ∷ h.arrivals) in
      IsRegularAt (rule_of t l) arrivals → IfOk result IsAccepted
  pub accepted : (t : Rows) (side : Side) (h : SwitchHistory) (place : ℕ) (l : LinkRow) →
      StandsFor t side old h →
      IsLawfulSwitch t →
      slice_get t.links place ≡ Some l →
      IsNextOfStream t l h.arrivals (arrival_with tag time side port bytes) →
      IfOk result IsAccepted
  -- memory is lacked only for a frame whose shape has no fault, and then nothing changed
  pub judged : (t : Rows) (side : Side) (h : SwitchHistory) →
      StandsFor t side old h →
      OnErr result (shape_fault t (arrival_with tag time side port bytes) ≡ None)
  pub refused : OnErr result (new ≡ old)
  pub quiet : IsQuiet new time
  pub held : frames_held new ≤ frames_held old + last_port
  pub clock : OnOk result (last_time new ≡ time)

-- `due` says when the next turn of all ports is over
pub record TellsDue (w : SwitchState) (result : Option Due) : Type 0 where
  pub comes : (t : Rows) (side : Side) (h : SwitchHistory) →
      StandsFor t side w h →
      IfSome result (λ due. IsDue t side h due)
  pub all_done : (t : Rows) (side : Side) (h : SwitchHistory) (port : ℕ) →
      StandsFor t side w h →
      1 ≤ port →
      port ≤ last_port →
      IfNone result (IsDone t side h port)
  pub quiet : (time : ℕ) → IsQuiet w time ↔ IfSome result (λ due. IsAfter time due)
  pub limit : IfSome result (λ due. given_at due ≤ drain_end)

-- `order` says where the turn that `due` tells stands in the order of turns
pub record TellsOrder (w : SwitchState) (result : ℕ) : Type 0 where
  pub due : Option Due
  pub tells : TellsDue w due
  pub is : result ≡ order_at due

-- `early` says by how much a frame without a fault in its shape comes too early
abbrev pub TellsEarly : SwitchState → (time port : ℕ) → List ℕ → (result : ℕ) → Type 0
TellsEarly w time port bytes result = (t : Rows) (side : Side) (h : SwitchHistory) (tag : ℕ) →
    StandsFor t side w h →
    let arrival = arrival_with tag time side port bytes in
    shape_fault t arrival ≡ None → IsEarlyBy t h.arrivals arrival result

-- `take` gives the next turn of all ports, if it is over by a time
pub record Takes (old new : SwitchState) (until : ℕ) (result : Option Departure) : Type 0 where
  pub given : (t : Rows) (side : Side) (h : SwitchHistory) →
      StandsFor t side old h →
      IfSome result (λ d. Gives t side h until d new)
  -- a switch by itself is on side A
  pub side : IfSome result (λ d. giving_side d ≡ A)
  -- what a port gave of a link's frames is what entered there, in order; on admitted tables a turn
  -- is in time
  pub own : (t : Rows) (side : Side) (h : SwitchHistory) (vl : ℕ) →
      IsLawfulSwitch t →
      IfSome result (λ d. (g : Gives t side h until d new) → AreFirstEntered t side vl h g.gone)
  pub in_time : (t : Rows) (side : Side) (h : SwitchHistory) →
      IsAdmittedRun t h.arrivals →
      IfSome result (λ d. (g : Gives t side h until d new) → IsInTime t g.gone.turn)
  -- else no turn is over by then
  pub none : (t : Rows) (side : Side) (h : SwitchHistory) →
      StandsFor t side old h →
      IfNone result (StandsFor t side new (at h until))
  pub no_more : (t : Rows) (side : Side) (h : SwitchHistory) (port : ℕ) (s : Turn HeldFrame) →
      StandsFor t side old h →
      1 ≤ port →
      port ≤ last_port →
      IsNextAt t side h port s →
      IfNone result (IsAfter until (due_at s))
  -- and each frame whose latency is past has left, late enough all have
  pub left : (t : Rows) (side : Side) (h : SwitchHistory) (port place : ℕ) (l : LinkRow) →
      StandsFor t side old h →
      IsAdmittedRun t h.arrivals →
      1 ≤ port →
      port ≤ last_port →
      slice_get t.links place ≡ Some l →
      let entries = entries_at t side port h.arrivals in
      IfNone result (HaveLeft l until entries (taken_at port h.taken))
  pub all_done : (t : Rows) (side : Side) (h : SwitchHistory) (port : ℕ) →
      StandsFor t side old h →
      drain_end ≤ until →
      1 ≤ port →
      port ≤ last_port →
      IfNone result (IsDone t side h port)
  pub gives : IfNone result (IsQuiet old until)
  pub quiet : IfNone result (IsQuiet new until)
  pub held : MatchOption result (frames_held new ≡ frames_held old)
      (λ _. frames_held new + 1 ≡ frames_held old)
  pub clock : last_time new ≡ until
