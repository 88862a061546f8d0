-- The fields of a frame line.
use Rattle.std.proofs.Common.{◌≡◌, ℕ, ◌≤◌, List, [], ◌∷◌, true, refl}
use Rattle.std.proofs.Common.{ap, ap₂, arith, Option, Some, None, Ok}
use Rattle.std.proofs.lemmas.Grind.{common_steps}
use Rattle.std.specs.Option.{option_map}
use Rattle.std.specs.Str.Lines.{strip_carriage_return}
use Rattle.afdx_frame.specs.declared.link.Side.{Side}
use Rattle.afdx_input_lines.specs.declared.frame_line.FrameKind.{FrameKind}
use Rattle.afdx_input_lines.specs.declared.fault.LineFault.{LineFault}
use Rattle.afdx_input_lines.specs.Splitting.{between_spaces, number_of}
use Rattle.afdx_input_lines.specs.Fields.{cut, cut_number, is_skipped, fault_or, time_fault}
use Rattle.afdx_input_lines.specs.Forms.{from_five, five_of, if_no_more}
use Rattle.afdx_input_lines.specs.FrameLines.{kind_of, side_of, frame_fields_with, frame_fields_from, cut_frame}
use Rattle.afdx_input_lines.specs.FrameLines.{ListedFrame, frame_form, port_fault, numbers_fault, line_says}
use Rattle.afdx_frame.specs.Times.{latest_listed}
use Rattle.afdx_frame.specs.Ports.{last_port}
use Rattle.afdx_input_lines.proofs.FieldLemmas.{time_fault-cut, time_fault-none}
use Rattle.afdx_input_lines.proofs.FormLemmas.{IsCut, five_fields, says_nothing, says-from, says-alone}

from_five-cut : (kind : Option FrameKind) (time : Option ℕ) (side : Option Side) (port : Option ℕ) (digits : List ℕ)
    → from_five frame_fields_with kind (cut_number time) side (cut_number port) digits
    ≡ option_map cut_frame (from_five frame_fields_with kind time side port digits)
from_five-cut None time side port digits = refl
from_five-cut (Some kind) None side port digits = refl
from_five-cut (Some kind) (Some time) None port digits = refl
from_five-cut (Some kind) (Some time) (Some side) None digits = refl
from_five-cut (Some kind) (Some time) (Some side) (Some port) [] = refl
from_five-cut (Some kind) (Some time) (Some side) (Some port) (digit ∷ digits) = refl

-- the fields before the fourth space, and what stands behind it
pub frame_five : (kind time side port digits : List ℕ) →
    if_no_more frame_form (from_five frame_fields_with (kind_of kind) (cut_number (number_of time))
    (side_of side) (cut_number (number_of port)) digits)
    ≡ option_map cut_frame (five_of frame_fields_from (kind ∷ time ∷ side ∷ port ∷ between_spaces digits))
frame_five kind time side port digits =
    five_fields frame_form frame_fields_with (λ a b c d x. refl) frame_fields_from cut_frame
    kind time side port digits _ _ _ _ (from_five-cut _ _ _ _ digits)

port_fault-cut : (port : ℕ) → port_fault (cut port) ≡ port_fault port
port_fault-cut port = grind (arith, common_steps)

pub port_fault-none : (port : ℕ) → port_fault port ≡ None → (1 ≤ port) × (port ≤ last_port)
port_fault-none port h = grind (arith, common_steps, h)

-- no check of the numbers is false
pub numbers_fault-none : (time port latest : ℕ) → numbers_fault time port latest ≡ None
    → (time_fault time latest ≡ None) × (port_fault port ≡ None)
numbers_fault-none time port latest h = by (time_fault time latest) h
  where
    by : (o : Option LineFault) → fault_or o (port_fault port) ≡ None → (o ≡ None) × (port_fault port ≡ None)
    by None h = (refl, h)
    by (Some fault) h = cc

pub frame_is_cut : (latest : ℕ) → latest ≤ latest_listed → IsCut frame_form cut_frame latest
frame_is_cut latest low = record {
  same_fault = λ fields. ap₂ fault_or (time_fault-cut fields.time latest low) (port_fault-cut fields.port);
  whole = λ fields none.
      let parts = numbers_fault-none fields.time fields.port latest none in
      let early = time_fault-none fields.time latest parts.0 in
      let small = port_fault-none fields.port parts.1 in
      let time : cut fields.time ≡ fields.time = omega (arith, early.0) in
      let port : cut fields.port ≡ fields.port = omega (arith, small.1) in
      rw (time, port) refl;
}

pub line_says_nothing : (latest : ℕ) (line text : List ℕ) → text ≡ strip_carriage_return line
    → is_skipped text ≡ true → line_says latest line ≡ Ok None
unfolding line_says
line_says_nothing latest line text e h = says_nothing frame_form latest line text e h

pub time_fault-alone : (time latest : ℕ) → time_fault time latest ≡ None → time_fault time 0 ≡ None
time_fault-alone time latest none = let parts = time_fault-none time latest none in grind (arith, common_steps, parts.0)

-- what a line says after others it says alone
pub line_says-alone : (latest : ℕ) (line : List ℕ) (o : Option ListedFrame) → line_says latest line ≡ Ok o
    → line_says 0 line ≡ Ok o
unfolding line_says
line_says-alone latest line o h =
    says-alone frame_form (λ latest fields none.
    let parts = numbers_fault-none fields.time fields.port latest none in
    ap₂ fault_or (time_fault-alone fields.time latest parts.0) parts.1) latest line o h

-- a frame isn't earlier than what came before it
pub line_says-later : (latest : ℕ) (line : List ℕ) (frame : ListedFrame) → line_says latest line ≡ Ok (Some frame)
    → latest ≤ frame.time
unfolding line_says
line_says-later latest line frame h =
    let s = says-from frame_form latest line frame h in
    let parts = numbers_fault-none s.fields.time s.fields.port latest s.sound in
    let later = time_fault-none s.fields.time latest parts.0 in
    let same : s.fields.time ≡ frame.time = ap (λ (f : ListedFrame). f.time) s.is in
    omega (arith, later.1, same)
