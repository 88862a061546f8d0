-- What a number of a recording becomes: an arrival, or a frame that left, or it is skipped, or a
-- fault of the recording.
use Rattle.std.specs.Prelude.{ℕ, ◌+◌, ◌-◌, Bool, true, false, not, ◌&&◌, ◌||◌, ◌==◌, ◌*◌, nat_lt, List, length, take}
use Rattle.std.specs.Prelude.{Option, Some, None, is_some, Result, Ok, Err, if◌then◌else◌}
use Rattle.std.specs.Option.{option_or, unwrap_or}
use Rattle.afdx_frame.specs.Layout.{link_named_by}
use Rattle.afdx_frame.specs.Sealing.{sequence_of, is_sealed}
use Rattle.afdx_frame.specs.declared.seals.Seal.{Seal}
use Rattle.afdx_frame.specs.declared.seals.Seal.TheVariants as seal
use Rattle.afdx_frame.specs.declared.link.Side.{Side}
use Rattle.afdx_frame.specs.declared.link.Side.TheVariants.{A, B}
use Rattle.afdx_input_lines.specs.declared.frame_line.FrameKind.{FrameKind}
use Rattle.afdx_input_lines.specs.declared.frame_line.FrameKind.TheVariants.{Good, Bad, Raw}
use Rattle.afdx_input_lines.specs.declared.role.Role.{Role}
use Rattle.afdx_input_lines.specs.declared.role.Role.TheVariants.{Came, Left}
use Rattle.afdx_input_lines.specs.declared.recording_fault.RecordingFault.TheVariants.{NotEthernet, NoTime}
use Rattle.afdx_input_lines.specs.declared.recording_fault.RecordingFault.TheVariants.{BadTime, Cut}
use Rattle.afdx_input_lines.specs.declared.recording_fault.RecordingFault.TheVariants.{FcsUnclear}
use Rattle.afdx_input_files.specs.declared.recorded.Stamp.{Stamp}
use Rattle.afdx_input_files.specs.declared.recorded.Stamp.TheVariants.{Missing, Bad, At}
use Rattle.afdx_input_files.specs.declared.recorded.CheckSequence.{CheckSequence}
use Rattle.afdx_input_files.specs.declared.recorded.CheckSequence.TheVariants.{Unsaid, Without, With}
use Rattle.afdx_input_files.specs.declared.recorded.RecordedFrame.{RecordedFrame}
use Rattle.afdx_input_files.specs.declared.recorded.Recorded.{Recorded}
use Rattle.afdx_input_files.specs.declared.recorded.Recorded.TheVariants as recorded
use Rattle.afdx_input_sources.specs.declared.entering.Entrance.{Entrance}
use Rattle.afdx_input_sources.specs.declared.becoming.FoundFrame.{FoundFrame}
use Rattle.afdx_input_sources.specs.declared.becoming.NoArrival.{NoArrival}
use Rattle.afdx_input_sources.specs.declared.becoming.NoArrival.TheVariants.{Skipped, Faulted}
use Rattle.afdx_input_sources.specs.declared.becoming.RecordingOptions.{RecordingOptions}
use Rattle.afdx_input_sources.specs.declared.places.TapPoint.{TapPoint}
use Rattle.afdx_input_sources.specs.declared.skipped.Skipped.TheVariants.{NoFrame, LeftOut, NotAfdx}
use Rattle.afdx_input_sources.specs.declared.skipped.Skipped.TheVariants.{UnknownSender, NoNetwork}
use Rattle.afdx_input_sources.specs.declared.skipped.Skipped.TheVariants.{BeforeOrigin}
use Rattle.afdx_input_sources.specs.declared.places.TapPort.{TapPort}
use Rattle.afdx_input_sources.specs.Places.{place_of, role_of, is_left_out, side_of, entry_said, allows}
use Rattle.afdx_input_sources.specs.Claims.{Ports, side_claimed}

-- what the options say: the place of each interface, whether one of which nothing is said is left
-- out, whether frames end with their check sequence, the moment that is time 0, the network whose
-- recording it is, whether it is the second of two, by how many arrivals times may go back, and
-- whether stamps are those of first bits, of what came in and of what left
pub record Options : Type 0 where
  pub place : ℕ → Option TapPoint
  pub leaves_unsaid : Bool
  pub fcs : Option Bool
  pub origin : Option ℕ
  pub network : Option Side
  pub is_second : Bool
  pub reorder : ℕ
  pub from_start : Bool
  pub left_from_start : Bool

abbrev pub options_of : RecordingOptions → Options
options_of options = record {
  place = place_of options.interfaces;
  leaves_unsaid = options.leaves_unsaid;
  fcs = options.fcs;
  origin = options.origin;
  network = options.network;
  is_second = options.is_second;
  reorder = options.reorder;
  from_start = options.from_start;
  left_from_start = options.left_from_start;
}

-- ---- one check after another: the first that is false decides

infixl 10 ◌>>=◌
abbrev pub ◌>>=◌ : {X Y : Type 0} → Result X NoArrival → (X → Result Y NoArrival) →
    Result Y NoArrival
(Ok x) >>= f = f x
(Err why) >>= f = Err why

infixl 10 ◌>>◌
abbrev pub ◌>>◌ : {X Y : Type 0} → Result X NoArrival → Result Y NoArrival → Result Y NoArrival
(Ok x) >> next = next
(Err why) >> next = Err why

abbrev pub check : Bool → NoArrival → Result (Unit {0}) NoArrival
check b why = if b then Ok tt else Err why

abbrev pub or_else : {X : Type 0} → Option X → NoArrival → Result X NoArrival
or_else (Some x) why = Ok x
or_else None why = Err why

-- ---- what is recorded of a frame

-- the link type of Ethernet
abbrev pub ethernet : ℕ
ethernet = 1

-- the moment of a stamp
abbrev pub moment_of : ℕ → Stamp → Result ℕ NoArrival
moment_of n Missing = Err (Faulted (NoTime n))
moment_of n Bad = Err (Faulted (BadTime n))
moment_of n (At moment) = Ok moment

-- whether a frame ends with its check sequence, if that is said: by an option, else by the recorder
abbrev pub ends_with_sequence : Option Bool → CheckSequence → Option Bool
ends_with_sequence (Some said) recorder = Some said
ends_with_sequence None With = Some true
ends_with_sequence None Without = Some false
ends_with_sequence None Unsaid = None

-- fewer bytes were captured than the frame had: 4 fewer are lawful where an option says that no
-- frame has its check sequence
abbrev pub is_cut : Option Bool → (original captured : ℕ) → Bool
is_cut (Some false) original captured =
    nat_lt captured original && not (captured + 4 == original)
is_cut fcs original captured = nat_lt captured original

-- the moment of an Ethernet frame that is whole
unfoldable pub whole_moment : Option Bool → ℕ → RecordedFrame → ℕ → Result ℕ NoArrival
whole_moment fcs n frame captured = do
  check (frame.link_type == ethernet) (Faulted (NotEthernet n))
  moment ← moment_of n frame.stamp
  check (not (is_cut fcs frame.original captured)) (Faulted (Cut n))
  Ok moment

-- ---- where it came in

-- the side that is said: that of the network whose recording it is, or of the place
abbrev pub side_said : (network : Option Side) → Option TapPoint → Option Side
side_said network place = option_or network (side_of place)

-- where the frame's bytes claim that it came in, if the place allows for it
abbrev pub only_if : {X : Type 0} → (X → Bool) → Option X → Option X
only_if holds (Some x) = if holds x then Some x else None
only_if holds None = None

abbrev pub entry_claimed : Option TapPoint → Ports → List ℕ → Option TapPort
entry_claimed place ports bytes = only_if (allows place) (ports.entry bytes)

-- where it came in: what the place says, else what its bytes claim
abbrev pub entry_of : Option TapPoint → Ports → List ℕ → Option TapPort
entry_of place ports bytes = option_or (entry_said place) (entry_claimed place ports bytes)

-- the side, the switch or the port is taken from the frame's bytes
abbrev pub is_claimed : (network : Option Side) → Option TapPoint → Ports → Bool
is_claimed network place ports =
    not (is_some (side_said network place))
    || (ports.are_claimed && not (is_some (entry_said place)))

-- the source address names the other network than that by which the frame came
abbrev pub is_other : (side : Side) → (named : Option Side) → Bool
is_other A (Some B) = true
is_other B (Some A) = true
is_other side named = false

-- which is asked of what came in alone
abbrev pub is_contradicted : Role → Side → List ℕ → Bool
is_contradicted Came side bytes = is_other side (side_claimed bytes)
is_contradicted Left side bytes = false

-- the address names a link; of what left any frame is taken
abbrev pub is_taken : Role → List ℕ → Bool
is_taken Came bytes = is_some (link_named_by bytes)
is_taken Left bytes = true

abbrev pub entrance_with : Role → Side → TapPort → (claimed contradicted : Bool) → Entrance
entrance_with role side entry claimed contradicted = record {
  role = role;
  side = side;
  entry = entry;
  is_claimed = claimed;
  is_contradicted = contradicted;
}

unfoldable pub entrance_of : (network : Option Side) → Option TapPoint → Ports → List ℕ →
    Result Entrance NoArrival
entrance_of network place ports bytes = do
  check (is_taken (role_of place) bytes) (Skipped NotAfdx)
  entry ← or_else (entry_of place ports bytes) (Skipped UnknownSender)
  side ← or_else (option_or (side_said network place) (side_claimed bytes)) (Skipped NoNetwork)
  Ok (entrance_with (role_of place) side entry (is_claimed network place ports)
      (is_contradicted (role_of place) side bytes))

-- ---- its check sequence

-- what the check sequence of bytes is that end with their own
abbrev pub residue : ℕ
residue = 0x2144df1c

-- what is done with the recorded bytes of a frame, as with those of a line of a list: they are
-- taken as they are where they have their check sequence, else they are sealed, or sealed wrongly
-- where the recorder found a wrong one. None: it isn't said whether they have one, and it seems so
abbrev pub sealed_as : Bool → FrameKind
sealed_as found_wrong = if found_wrong then Bad else Good

unfoldable pub kind_with : Option Bool → Bool → List ℕ → Option FrameKind
kind_with (Some true) found_wrong bytes = Some Raw
kind_with (Some false) found_wrong bytes = Some (sealed_as found_wrong)
kind_with None found_wrong bytes =
    if sequence_of bytes == residue then None else Some (sealed_as found_wrong)

-- the check sequence is the last four of the bytes that were recorded
abbrev pub has_own : FrameKind → List ℕ → Bool
has_own Raw bytes = is_sealed bytes
has_own _ bytes = false

-- the arrival's message: its bytes before those of its seal
abbrev pub without_own : Bool → List ℕ → List ℕ
without_own own bytes = if own then take (length bytes - 4) bytes else bytes

abbrev pub message_with : FrameKind → List ℕ → List ℕ
message_with kind bytes = without_own (has_own kind bytes) bytes

-- and that seal
abbrev pub seal_by : FrameKind → Bool → Seal
seal_by Raw own = if own then seal.Right else seal.Missing
seal_by Good own = seal.Right
seal_by Bad own = seal.Wrong

abbrev pub seal_with : FrameKind → List ℕ → Seal
seal_with kind bytes = seal_by kind (has_own kind bytes)

-- ---- its length

-- with its check sequence
abbrev pub whole_length : Option Bool → List ℕ → ℕ
whole_length (Some true) bytes = length bytes
whole_length _ bytes = length bytes + 4

-- how long it lasts where it came in, or left, in ns
abbrev pub line_time : Ports → TapPort → Option Bool → List ℕ → ℕ
line_time ports entry has_sequence bytes =
    whole_length has_sequence bytes * unwrap_or (ports.byte_ns entry.switch entry.port) 0

-- the greatest moment that is told; far behind all that a stamp can say
abbrev pub latest_moment : ℕ
latest_moment = 18446744073709551615

-- that of its last bit, where that of its first is stamped, and it lasts so long
abbrev pub last_bit : (n stamp time : ℕ) → Result ℕ NoArrival
last_bit n stamp time =
    if nat_lt latest_moment (stamp + time) then Err (Faulted (BadTime n)) else Ok (stamp + time)

-- stamps of frames of this role are those of first bits
abbrev pub is_from_start : Options → Role → Bool
is_from_start options Came = options.from_start
is_from_start options Left = options.left_from_start

-- that of its last bit, by its stamp
abbrev pub moment_by : (from_start : Bool) → (n stamp time : ℕ) → Result ℕ NoArrival
moment_by from_start n stamp time = if from_start then last_bit n stamp time else Ok stamp

-- the most recorded bytes of an arrival that are used: no switch takes a longer frame
abbrev pub most_used : ℕ
most_used = 2000

abbrev pub first_bytes : List ℕ → List ℕ
first_bytes bytes = take most_used bytes

-- of a longer one these bytes, as they are
abbrev pub kind_used : FrameKind → List ℕ → FrameKind
kind_used kind bytes = if nat_lt most_used (length bytes) then Raw else kind

-- ---- all of it

-- the moment is before that of time 0
abbrev pub is_before : Option ℕ → ℕ → Bool
is_before (Some origin) moment = nat_lt moment origin
is_before None moment = false

abbrev pub found_with : (is_second : Bool) → ℕ → Entrance → FrameKind → FoundFrame
found_with is_second moment entrance kind = record {
  moment = moment;
  role = entrance.role;
  is_second = is_second;
  side = entrance.side;
  switch = entrance.entry.switch;
  port = entrance.entry.port;
  is_claimed = entrance.is_claimed;
  is_contradicted = entrance.is_contradicted;
  kind = kind;
}

-- what frame n becomes
unfoldable pub frame_becomes : Options → Ports → (n : ℕ) → RecordedFrame → List ℕ →
    Result FoundFrame NoArrival
frame_becomes options ports n frame bytes = do
  check (not (is_left_out options.leaves_unsaid (options.place frame.interface))) (Skipped LeftOut)
  stamp ← whole_moment options.fcs n frame (length bytes)
  entrance ← entrance_of options.network (options.place frame.interface) ports bytes
  moment ← moment_by (is_from_start options entrance.role) n stamp (line_time ports entrance.entry
      (ends_with_sequence options.fcs frame.check_sequence) bytes)
  check (not (is_before options.origin moment)) (Skipped BeforeOrigin)
  kind ← or_else (kind_with (ends_with_sequence options.fcs frame.check_sequence)
      frame.found_wrong bytes) (Faulted (FcsUnclear n))
  Ok (found_with options.is_second moment entrance (kind_used kind bytes))

-- the same of whatever takes the number n
abbrev pub becomes : Options → Ports → (n : ℕ) → Recorded → List ℕ → Result FoundFrame NoArrival
becomes options ports n recorded.NoFrame bytes = Err (Skipped NoFrame)
becomes options ports n (recorded.Frame frame) bytes = frame_becomes options ports n frame bytes
