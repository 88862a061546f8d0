-- What comes to the system at a port from both switches, and what its receiver answers. Lists have
-- the newest first.
use Rattle.std.specs.Prelude.{◌≡◌, ℕ, ◌+◌, ◌*◌, ◌≤◌, ◌&&◌, nat_eq, ◌==◌, nat_lt, Bool, not, if◌then◌else◌, Result, Ok, Err, List, [], ◌∷◌, filter, map}
use Rattle.std.specs.List.{AllByRecursion}
use Rattle.afdx_frame.specs.declared.link.Side.{Side}
use Rattle.afdx_frame.specs.declared.link.Side.TheVariants.{A, B}
use Rattle.afdx_frame.specs.declared.fault.MacFault.{MacFault}
use Rattle.afdx_frame.specs.Parts.{FrameParts, frame_of}
use Rattle.afdx_frame.specs.Sides.{is_side}
use Rattle.afdx_config.specs.Rows.{Rows}
use Rattle.afdx_config.specs.SentList.{Message}
use Rattle.afdx_police.specs.Arrival.{Arrival}
use Rattle.afdx_port.specs.Schedule.{Turn}
use Rattle.afdx_switch.specs.Admitted.{slots}
use Rattle.afdx_switch.specs.HeldFrames.{HeldFrame}
use Rattle.afdx_receive.specs.Answers.{Answer, answer_after, answer_to}
use Rattle.afdx_receive.specs.Arrivals.{Arrived, arrived}
use Rattle.afdx_receive.specs.Delivery.{with_answer}
use Rattle.afdx_receive.specs.Integrity.{Incoming}
use Rattle.afdx_network.specs.Events.{Event, Came, Left, turns_at}
use Rattle.afdx_network.specs.Order.{side_number}

-- what a slot brings: the frame, when the slot ends, by the network of its side
abbrev pub brought : Side → Turn HeldFrame → Arrived
brought side s = arrived s.end side s.entry.item.bytes

-- it came by this side
abbrev pub is_from : Side → Arrived → Bool
is_from side x = is_side x.side side

-- frames come by time, at one time that of side A first
abbrev pub order_of : Arrived → ℕ
order_of x = 2 * x.time + side_number x.side

abbrev pub ComeInOrder : List Arrived → Type 0
ComeInOrder [] = Unit {0}
ComeInOrder (x ∷ past) = AllByRecursion (λ y. order_of y ≤ order_of x) past × ComeInOrder past

-- this is what comes to the system at a port: what leaves that port on each side, merged
pub record AreReceptions (t : Rows) (port : ℕ) (arrivals : List Arrival)
    (came : List Arrived) : Type 0 where
  pub by_side : (side : Side) → filter (is_from side) came
      ≡ map (brought side) (slots (turns_at t side port arrivals))
  pub in_order : ComeInOrder came

-- the same by putting each in its place
abbrev pub put_in : Arrived → List Arrived → List Arrived
put_in x [] = x ∷ []
put_in x (y ∷ past) = if nat_lt (order_of x) (order_of y) then y ∷ put_in x past else x ∷ y ∷ past

abbrev pub merged : List Arrived → List Arrived → List Arrived
merged others [] = others
merged others (x ∷ past) = put_in x (merged others past)

unfoldable pub receptions_at : Rows → ℕ → List Arrival → List Arrived
receptions_at t port arrivals = merged (map (brought A) (slots (turns_at t A port arrivals)))
    (map (brought B) (slots (turns_at t B port arrivals)))

-- of these events, what they bring to the system at a port: the frames that left it
unfoldable pub brought_by : ℕ → List Event → List Arrived
brought_by port [] = []
brought_by port (Came c ∷ before) = brought_by port before
brought_by port (Left d ∷ before) = if d.port == port && not d.turn.too_old
    then brought d.side d.turn ∷ brought_by port before else brought_by port before

-- a receiver's answers to all frames of a link
abbrev pub with_answer_on : ℕ → Answer → Result FrameParts MacFault → List Answer → List Answer
with_answer_on vl answer (Ok frame) before = if nat_eq frame.link.0 vl then answer ∷ before
    else before
with_answer_on vl answer (Err fault) before = before

unfoldable pub answers_on : Rows → ℕ → ℕ → List Arrived → List Answer
answers_on t system vl [] = []
answers_on t system vl (x ∷ past) = with_answer_on vl (answer_to t system past x)
    (frame_of x.bytes) (answers_on t system vl past)

-- the rules' answers to these frames of a link
unfoldable pub answers_by_rules : ℕ → (ℕ → Bool) → List Incoming → List Answer
answers_by_rules skew is_open [] = []
answers_by_rules skew is_open (frame ∷ before) = answer_after skew is_open before frame ∷
    answers_by_rules skew is_open before

-- the messages among answers
abbrev pub messages_in : List Answer → List Message
messages_in [] = []
messages_in (answer ∷ before) = with_answer answer (messages_in before)
