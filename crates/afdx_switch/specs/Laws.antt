-- What is true of the definitions, and of each switch that stands for calls.
use Rattle.std.specs.Prelude.{◌≡◌, ℕ, ◌≤◌, Bool, true, false, IfSome, Some, None, List, [], ◌∷◌, ◌++◌, filter}
use Rattle.afdx_frame.specs.declared.link.Side.{Side}
use Rattle.afdx_frame.specs.Ports.{last_port}
use Rattle.afdx_config.specs.Lawful.{IsLawfulSwitch}
use Rattle.afdx_config.specs.Rows.{Rows}
use Rattle.afdx_police.specs.Arrival.{Arrival, is_side, names, own}
use Rattle.afdx_police.specs.declared.shape.Reason.{Reason}
use Rattle.afdx_port.specs.Classes.{GoInOrder}
use Rattle.afdx_port.specs.Schedule.{Entry, AreTurns}
use Rattle.afdx_law_bounds.specs.Outputs.{Row, entry_of}
use Rattle.afdx_switch.specs.HeldFrames.{HeldFrame}
use Rattle.afdx_switch.specs.Tables.{row_named, byte_ns_at, carried, entries_at}
use Rattle.afdx_switch.specs.Ports.{holds}
use Rattle.afdx_switch.specs.Verdicts.{reason_of, is_lost_at, numbers, lost_ports, IsVerdict}
use Rattle.afdx_switch.specs.declared.ports.PortSet.{PortSet}
use Rattle.afdx_switch.specs.declared.verdict.Verdict.TheVariants.{Accepted}
use Rattle.afdx_switch.specs.Switching.{SwitchHistory, StandsFor, taken_at}
use Rattle.afdx_switch.specs.declared.switch_state.SwitchState.{SwitchState}

-- a verdict comes from the own arrivals of the link that the frame names: where those are equal, it
-- is
abbrev pub VerdictsAreOwn : Type 0
VerdictsAreOwn = (t : Rows) (past other : List Arrival) (x : Arrival) →
    IfSome (row_named t x.bytes) (λ r. own r.rule.vl x.side past ≡ own r.rule.vl x.side other) →
    reason_of t past x ≡ reason_of t other x

-- what one more arrival adds to the entries of a port
pub record EntriesStep (t : Rows) (side : Side) (port : ℕ) (x : Arrival)
    (past : List Arrival) : Type 0 where
  -- nothing if it came to the other side, or is dropped
  pub other_side : is_side side x.side ≡ false →
      entries_at t side port (x ∷ past) ≡ entries_at t side port past
  pub dropped : (reason : Reason) →
      reason_of t past x ≡ Some reason →
      entries_at t x.side port (x ∷ past) ≡ entries_at t x.side port past
  -- or if its link doesn't go there, or it is lost there
  pub elsewhere : (r : Row) →
      reason_of t past x ≡ None →
      row_named t x.bytes ≡ Some r →
      r.goes_to port ≡ false →
      entries_at t x.side port (x ∷ past) ≡ entries_at t x.side port past
  pub lost : is_lost_at t past x port ≡ true →
      entries_at t x.side port (x ∷ past) ≡ entries_at t x.side port past
  -- otherwise its own entry
  pub entered : (r : Row) →
      reason_of t past x ≡ None →
      row_named t x.bytes ≡ Some r →
      r.goes_to port ≡ true →
      is_lost_at t past x port ≡ false →
      entries_at t x.side port (x ∷ past) ≡ entries_at t x.side port past
      ++ entry_of (carried t) r x ∷ []

abbrev pub EntriesGrow : Type 0
EntriesGrow = (t : Rows) (side : Side) (port : ℕ) (x : Arrival) (past : List Arrival) →
    IsLawfulSwitch t → EntriesStep t side port x past

-- the entry is of a frame of this link
abbrev pub is_of : ℕ → Entry HeldFrame → Bool
is_of vl e = names vl e.item.bytes

-- the turns that a switch gave at a port are the first of the port's schedule, each next after
-- those before it
abbrev pub TakenAreTurns : Type 0
TakenAreTurns = (t : Rows) (side : Side) (w : SwitchState) (h : SwitchHistory) (port : ℕ) →
    StandsFor t side w h → 1 ≤ port → port ≤ last_port →
    AreTurns (byte_ns_at t port) (entries_at t side port h.arrivals) (taken_at port h.taken)

-- the frames of a link leave a port, or are dropped there as too old, in the order in which they
-- came: those that have had their turns, and then those that haven't, are its entries
abbrev pub LinksGoInOrder : Type 0
LinksGoInOrder = (t : Rows) (side : Side) (w : SwitchState) (h : SwitchHistory) (port vl : ℕ) →
    IsLawfulSwitch t →
    StandsFor t side w h → 1 ≤ port → port ≤ last_port →
    GoInOrder (is_of vl) (entries_at t side port h.arrivals) (taken_at port h.taken)

-- the calls with one more arrival, at no later time
abbrev pub with_other : SwitchHistory → Arrival → SwitchHistory
with_other h x = record { arrivals = x ∷ h.arrivals; taken = h.taken; time = h.time }

-- an arrival on the other side changes nothing
abbrev pub OtherSideIsApart : Type 0
OtherSideIsApart = (t : Rows) (side : Side) (w : SwitchState) (h : SwitchHistory) (x : Arrival) →
    StandsFor t side w h → is_side side x.side ≡ false → StandsFor t side w (with_other h x)

-- the ports of an answer's set, in ascending order, are those at which the arrival is lost
abbrev pub LostPortsAreListed : Type 0
LostPortsAreListed = (t : Rows) (past : List Arrival) (x : Arrival) (lost : PortSet) →
    IsVerdict t past x (Accepted lost) → filter (holds lost) numbers ≡ lost_ports t past x
