-- What one line says of a frame list of several switches a side.
use Rattle.std.specs.Prelude.{ℕ, Bool, false, List, Option, Some, None, Result}
use Rattle.std.specs.Prelude.{position, slice_get, get_or, if◌then◌else◌}
use Rattle.std.specs.Option.{option_map_or}
use Rattle.std.specs.Str.{bytes_eq}
use Rattle.afdx_frame.specs.declared.link.Side.{Side}
use Rattle.afdx_input_lines.specs.Splitting.{between_spaces, number_of}
use Rattle.afdx_input_lines.specs.Fields.{fault_or}
use Rattle.afdx_input_lines.specs.Forms.{Form, from_six, six_of, said_by}
use Rattle.afdx_input_lines.specs.FrameLines.{ListedFrame, FrameFields, frame_fields_with, frame_said}
use Rattle.afdx_input_lines.specs.FrameLines.{kind_of, side_of, numbers_fault, listed_frame}
use Rattle.afdx_input_lines.specs.FrameLines.{frame_fields_of, cut_frame}
use Rattle.afdx_input_lines.specs.declared.frame_line.FrameKind.{FrameKind}
use Rattle.afdx_input_lines.specs.declared.frame_line.Heading.{Heading}
use Rattle.afdx_input_lines.specs.declared.sited_line.Sited.{Sited}
use Rattle.afdx_input_lines.specs.declared.fault.LineFault.{LineFault}
use Rattle.afdx_input_lines.specs.declared.fault.LineFault.TheVariants.{BadPort}

-- a switch as frame lists name it, and at the place of each port's number, from 0, whether a cable
-- to another switch is there
pub record NamedCables : Type 0 where
  pub name : List ℕ
  pub cables : List Bool

-- the place of the switch of this name, from 0
unfoldable pub place_named : List NamedCables → List ℕ → Option ℕ
place_named switches name = position (λ s. bytes_eq name s.name) switches

-- a cable is at this port of the switch at this place
unfoldable pub is_cable_at : List NamedCables → ℕ → ℕ → Bool
is_cable_at switches place port =
    option_map_or (λ s. get_or s.cables port false) (slice_get switches place) false

-- a frame that comes in at the switch at this place
pub record SitedFrame : Type 0 where
  pub switch : ℕ
  pub frame : ListedFrame

-- the six fields of a line: the place of the switch that it names, and the others
pub record SitedFields : Type 0 where
  pub switch : ℕ
  pub frame : FrameFields

-- the six fields of a line are these
abbrev pub sited_fields_with : FrameKind → ℕ → Side → ℕ → ℕ → List ℕ → SitedFields
sited_fields_with kind time side switch port digits =
    record { switch = switch; frame = frame_fields_with kind time side port digits }

-- the fields that these texts write
abbrev pub sited_fields_from : List NamedCables → List ℕ → List ℕ → List ℕ → List ℕ → List ℕ →
    List ℕ → Option SitedFields
sited_fields_from switches kind time side name port digits = from_six sited_fields_with
    (kind_of kind) (number_of time) (side_of side) (place_named switches name) (number_of port)
    digits

-- the fields of a text, which stand between spaces
unfoldable pub sited_fields : List NamedCables → List ℕ → Option SitedFields
sited_fields switches text = six_of (sited_fields_from switches) (between_spaces text)

-- the frame of a line with these fields and bytes
abbrev pub sited_said : SitedFields → List ℕ → SitedFrame
sited_said fields bytes =
    record { switch = fields.switch; frame = frame_said fields.frame bytes }

-- the fault of a port where a cable is: what comes there is computed
abbrev pub cable_fault : List NamedCables → ℕ → ℕ → Option LineFault
cable_fault switches place port = if is_cable_at switches place port then Some BadPort else None

-- the first false check of a time and a port of the switch at this place, after a frame of the
-- latest time
abbrev pub sited_fault : List NamedCables → ℕ → ℕ → ℕ → ℕ → Option LineFault
sited_fault switches place time port latest =
    fault_or (numbers_fault time port latest) (cable_fault switches place port)

-- frame lines that name one of these switches
abbrev pub sited_form : List NamedCables → Form SitedFields SitedFrame
sited_form switches = record {
  fields = sited_fields switches;
  digits = λ fields. fields.frame.digits;
  fault = λ latest fields.
      sited_fault switches fields.switch fields.frame.time fields.frame.port latest;
  item = sited_said;
}

-- what a line says that comes after a frame of the latest time: a frame, or nothing, or why it
-- can't be read
unfoldable pub sited_line_says : List NamedCables → ℕ → List ℕ →
    Result (Option SitedFrame) LineFault
sited_line_says switches latest line = said_by (sited_form switches) latest line

-- the frame of a heading and its message
abbrev pub sited_frame : Heading → List ℕ → SitedFrame
sited_frame heading message =
    record { switch = heading.switch; frame = listed_frame heading message }

-- the fields that the program read
abbrev pub sited_fields_of : Sited → SitedFields
sited_fields_of sited = record { switch = sited.switch; frame = frame_fields_of sited.fields }

-- as much of the numbers of a line as 64 bits hold
abbrev pub cut_sited : SitedFields → SitedFields
cut_sited fields = record fields { frame = cut_frame fields.frame }
