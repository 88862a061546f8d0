-- What one line of a frame list says.
use Rattle.std.specs.Prelude.{ℕ, ◌==◌, nat_lt, ◌||◌, List, [], ◌∷◌, Option, Some, None, Result}
use Rattle.std.specs.Prelude.{if◌then◌else◌}
use Rattle.afdx_frame.specs.Sealing.{sealed, sealed_wrongly}
use Rattle.afdx_frame.specs.Seals.{whole}
use Rattle.afdx_frame.specs.declared.link.Side.{Side}
use Rattle.afdx_frame.specs.declared.link.Side.TheVariants.{A, B}
use Rattle.afdx_frame.specs.Ports.{last_port}
use Rattle.afdx_input_lines.specs.Letters.{letter_A, letter_B, letter_F, letter_R}
use Rattle.afdx_input_lines.specs.Splitting.{between_spaces, number_of}
use Rattle.afdx_input_lines.specs.Fields.{cut, time_fault, fault_or}
use Rattle.afdx_input_lines.specs.Forms.{Form, from_five, five_of, said_by}
use Rattle.afdx_input_lines.specs.declared.frame_line.FrameKind.{FrameKind}
use Rattle.afdx_input_lines.specs.declared.frame_line.FrameKind.TheVariants.{Good, Bad, Raw}
use Rattle.afdx_input_lines.specs.declared.frame_line.Fields.{Fields}
use Rattle.afdx_input_lines.specs.declared.frame_line.Heading.{Heading}
use Rattle.afdx_input_lines.specs.declared.fault.LineFault.{LineFault}
use Rattle.afdx_input_lines.specs.declared.fault.LineFault.TheVariants.{BadPort}

-- a frame that comes in at a switch
pub record ListedFrame : Type 0 where
  pub time : ℕ
  pub side : Side
  pub port : ℕ
  pub bytes : List ℕ

-- `F`, `B` or `R`
abbrev pub kind_of : List ℕ → Option FrameKind
kind_of (letter ∷ []) =
    if letter == letter_F then Some Good
    else if letter == letter_B then Some Bad
    else if letter == letter_R then Some Raw
    else None
kind_of _ = None

-- `A` or `B`
abbrev pub side_of : List ℕ → Option Side
side_of (letter ∷ []) =
    if letter == letter_A then Some A else if letter == letter_B then Some B else None
side_of _ = None

-- the five fields of a frame line
pub record FrameFields : Type 0 where
  pub kind : FrameKind
  pub time : ℕ
  pub side : Side
  pub port : ℕ
  pub digits : List ℕ

-- the five fields of a frame line are these
abbrev pub frame_fields_with : FrameKind → ℕ → Side → ℕ → List ℕ → FrameFields
frame_fields_with kind time side port digits =
    record { kind = kind; time = time; side = side; port = port; digits = digits }

-- the fields that these texts write
abbrev pub frame_fields_from : List ℕ → List ℕ → List ℕ → List ℕ → List ℕ →
    Option FrameFields
frame_fields_from kind time side port digits = from_five frame_fields_with
    (kind_of kind) (number_of time) (side_of side) (number_of port) digits

-- the fields of a text, which stand between spaces
unfoldable pub frame_fields : List ℕ → Option FrameFields
frame_fields text = five_of frame_fields_from (between_spaces text)

-- the frame of a line: sealed, sealed wrongly, or the bytes as they are
unfoldable pub frame_bytes : FrameKind → List ℕ → List ℕ
frame_bytes Good bytes = sealed bytes
frame_bytes Bad bytes = sealed_wrongly bytes
frame_bytes Raw bytes = bytes

-- the frame of a line with these fields and bytes
abbrev pub frame_said : FrameFields → List ℕ → ListedFrame
frame_said fields bytes = record {
  time = fields.time;
  side = fields.side;
  port = fields.port;
  bytes = frame_bytes fields.kind bytes;
}

-- the fault of a port that is not one of 1 to 24
abbrev pub port_fault : ℕ → Option LineFault
port_fault port = if nat_lt port 1 || nat_lt last_port port then Some BadPort else None

-- the first false check of a time and a port, after a frame of the latest time
abbrev pub numbers_fault : ℕ → ℕ → ℕ → Option LineFault
numbers_fault time port latest = fault_or (time_fault time latest) (port_fault port)

-- frame lines
abbrev pub frame_form : Form FrameFields ListedFrame
frame_form = record {
  fields = frame_fields;
  digits = λ fields. fields.digits;
  fault = λ latest fields. numbers_fault fields.time fields.port latest;
  item = frame_said;
}

-- what a line says that comes after a frame of the latest time: a frame, or nothing, or why it
-- can't be read
unfoldable pub line_says : ℕ → List ℕ → Result (Option ListedFrame) LineFault
line_says latest line = said_by frame_form latest line

-- the frame of a heading and its message
abbrev pub listed_frame : Heading → List ℕ → ListedFrame
listed_frame heading message = record {
  time = heading.time;
  side = heading.side;
  port = heading.port;
  bytes = whole heading.seal message;
}

-- the fields that the program read
abbrev pub frame_fields_of : Fields → FrameFields
frame_fields_of fields =
    frame_fields_with fields.kind fields.time fields.side fields.port fields.digits.now

-- as much of the numbers of a frame line as 64 bits hold
abbrev pub cut_frame : FrameFields → FrameFields
cut_frame fields = record fields { time = cut fields.time; port = cut fields.port }
