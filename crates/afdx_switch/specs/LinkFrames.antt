-- The frames of one link at one output port: those that enter it, and those that have had their
-- turns. On any tables, admitted or not.
use Rattle.std.specs.Prelude.{◌≡◌, ℕ, ◌≤◌, ◌&&◌, Bool, false, not, is_none, if◌then◌else◌, List, [], ◌∷◌, ◌++◌, filter, map, Some, slice_get}
use Rattle.std.specs.Option.{option_map_or}
use Rattle.afdx_frame.specs.declared.link.Side.{Side}
use Rattle.afdx_frame.specs.Ports.{last_port}
use Rattle.afdx_config.specs.Lawful.{IsLawfulSwitch}
use Rattle.afdx_config.specs.Rows.{Rows}
use Rattle.afdx_police.specs.Arrival.{Arrival, is_side, names}
use Rattle.afdx_port.specs.Classes.{entries_in}
use Rattle.afdx_port.specs.Schedule.{Turn}
use Rattle.afdx_law_bounds.specs.Outputs.{Row}
use Rattle.afdx_switch.specs.HeldFrames.{HeldFrame}
use Rattle.afdx_switch.specs.Laws.{is_of}
use Rattle.afdx_switch.specs.Switching.{PortTurn, SwitchHistory, StandsFor, IsDone, taken_at}
use Rattle.afdx_switch.specs.Tables.{rows_of, row_named, carried}
use Rattle.afdx_switch.specs.Verdicts.{reason_of, is_lost_at}
use Rattle.afdx_switch.specs.declared.switch_state.SwitchState.{SwitchState}

-- the link that the frame names goes to this port
abbrev pub goes_on : Rows → ℕ → List ℕ → Bool
goes_on t port bytes = option_map_or (λ r. r.goes_to port) (row_named t bytes) false

-- after these arrivals this one enters the port: it came to the port's side, is accepted, its link
-- goes there, and it is not lost there
abbrev pub enters : Rows → Side → ℕ → List Arrival → Arrival → Bool
enters t side port past x =
    is_side side x.side && (is_none (reason_of t past x)
    && (goes_on t port x.bytes && not (is_lost_at t past x port)))

-- the frames of the link with this identifier that enter, each with its tag, the first one first
unfoldable pub entered : Rows → Side → ℕ → ℕ → List Arrival → List HeldFrame
entered t side port vl [] = []
entered t side port vl (x ∷ past) =
    if names vl x.bytes && enters t side port past x
    then entered t side port vl past ++ carried t x ∷ []
    else entered t side port vl past

-- the frames of the link that had these turns, the first one first
abbrev pub frames_of : ℕ → List (Turn HeldFrame) → List HeldFrame
frames_of vl turns = map (λ e. e.item) (filter (is_of vl) (entries_in turns))

-- the frames of a link that a port gave are the first of those that entered it, byte for byte and
-- with their tags; others wait
abbrev pub FramesAreOwn : Type 0
FramesAreOwn = (t : Rows) (side : Side) (w : SwitchState) (h : SwitchHistory) (port vl : ℕ) →
    IsLawfulSwitch t →
    StandsFor t side w h → 1 ≤ port → port ≤ last_port →
    (waiting : List HeldFrame) ×
    (entered t side port vl h.arrivals ≡ frames_of vl (taken_at port h.taken) ++ waiting)

-- so it is with one turn more at its port
abbrev pub AreFirstEntered : Rows → Side → ℕ → SwitchHistory → PortTurn → Type 0
AreFirstEntered t side vl h gone =
    (waiting : List HeldFrame) ×
    (entered t side gone.port vl h.arrivals
    ≡ frames_of vl (taken_at gone.port (gone ∷ h.taken)) ++ waiting)

-- and all of them where each entry of the port has had its turn
abbrev pub AllFramesAreOwn : Type 0
AllFramesAreOwn = (t : Rows) (side : Side) (h : SwitchHistory) (port vl : ℕ) →
    IsLawfulSwitch t → IsDone t side h port →
    entered t side port vl h.arrivals ≡ frames_of vl (taken_at port h.taken)

-- no frame of a link enters a port that it doesn't go to
abbrev pub OthersGetNone : Type 0
OthersGetNone = (t : Rows) (side : Side) (port vl : ℕ) (arrivals : List Arrival) →
    ((place : ℕ) (r : Row) → slice_get (rows_of t) place ≡ Some r → r.rule.vl ≡ vl →
    r.goes_to port ≡ false) →
    entered t side port vl arrivals ≡ []
