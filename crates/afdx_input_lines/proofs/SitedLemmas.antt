-- The fields of a frame line that names a switch.
use Rattle.std.proofs.Common.{◌≡◌, ℕ, ◌≤◌, List, [], ◌∷◌, true, refl, ap, ap₂, ◌∙◌}
use Rattle.std.proofs.Common.{arith, Option, Some, None, Ok}
use Rattle.std.specs.Option.{option_map}
use Rattle.std.specs.Str.Lines.{strip_carriage_return}
use Rattle.afdx_frame.specs.Times.{latest_listed}
use Rattle.afdx_frame.specs.declared.link.Side.{Side}
use Rattle.afdx_input_lines.specs.declared.frame_line.FrameKind.{FrameKind}
use Rattle.afdx_input_lines.specs.declared.fault.LineFault.{LineFault}
use Rattle.afdx_input_lines.specs.Splitting.{between_spaces, number_of}
use Rattle.afdx_input_lines.specs.Fields.{cut, cut_number, is_skipped, fault_or}
use Rattle.afdx_input_lines.specs.Forms.{from_six, six_of, if_no_more}
use Rattle.afdx_input_lines.specs.FrameLines.{kind_of, side_of, numbers_fault, cut_frame}
use Rattle.afdx_input_lines.specs.SitedLines.{NamedCables, SitedFrame, SitedFields, place_named}
use Rattle.afdx_input_lines.specs.SitedLines.{sited_fields_with, sited_fields_from, cut_sited, sited_form, sited_fault}
use Rattle.afdx_input_lines.specs.SitedLines.{cable_fault, sited_line_says}
use Rattle.afdx_input_lines.proofs.FormLemmas.{IsCut, six_fields, says_nothing, says-alone}
use Rattle.afdx_input_lines.proofs.FrameLemmas.{frame_is_cut, numbers_fault-none, port_fault-none, time_fault-alone}

from_six-cut : (kind : Option FrameKind) (time : Option ℕ) (side : Option Side) (switch port : Option ℕ)
    (digits : List ℕ) → from_six sited_fields_with kind (cut_number time) side switch (cut_number port) digits
    ≡ option_map cut_sited (from_six sited_fields_with kind time side switch port digits)
from_six-cut None time side switch port digits = refl
from_six-cut (Some kind) None side switch port digits = refl
from_six-cut (Some kind) (Some time) None switch port digits = refl
from_six-cut (Some kind) (Some time) (Some side) None port digits = refl
from_six-cut (Some kind) (Some time) (Some side) (Some switch) None digits = refl
from_six-cut (Some kind) (Some time) (Some side) (Some switch) (Some port) [] = refl
from_six-cut (Some kind) (Some time) (Some side) (Some switch) (Some port) (digit ∷ digits) = refl

-- both checks are true
fault_or-none : (first next : Option LineFault) → fault_or first next ≡ None → (first ≡ None) × (next ≡ None)
fault_or-none None next h = (refl, h)
fault_or-none (Some fault) next h = cc

module _ (switches : List NamedCables) where
  -- the fields before the fifth space, and what stands behind it
  pub sited_six : (kind time side name port digits : List ℕ) →
      if_no_more (sited_form switches) (from_six sited_fields_with (kind_of kind) (cut_number (number_of time))
      (side_of side) (place_named switches name) (cut_number (number_of port)) digits)
      ≡ option_map cut_sited
      (six_of (sited_fields_from switches) (kind ∷ time ∷ side ∷ name ∷ port ∷ between_spaces digits))
  sited_six kind time side name port digits =
      six_fields (sited_form switches) sited_fields_with (λ a b c d e x. refl) (sited_fields_from switches) cut_sited
      kind time side name port digits _ _ _ _ _ (from_six-cut _ _ _ _ _ digits)

  -- no check of the numbers is false, and no cable is at the port
  pub sited_fault-none : (place time port latest : ℕ) → sited_fault switches place time port latest ≡ None
      → (numbers_fault time port latest ≡ None) × (cable_fault switches place port ≡ None)
  sited_fault-none place time port latest h =
      fault_or-none (numbers_fault time port latest) (cable_fault switches place port) h

  -- a port for which a cable is looked up is a small number
  cable_fault-cut : (place time port latest : ℕ) (o : Option LineFault) → numbers_fault time port latest ≡ o
      → fault_or o (cable_fault switches place (cut port)) ≡ fault_or o (cable_fault switches place port)
  cable_fault-cut place time port latest (Some fault) e = refl
  cable_fault-cut place time port latest None e =
      let small = port_fault-none port (numbers_fault-none time port latest e).1 in
      let whole : cut port ≡ port = omega (arith, small.1) in
      ap (cable_fault switches place) whole

  sited_fault-cut : (latest : ℕ) → latest ≤ latest_listed → (fields : SitedFields)
      → sited_fault switches fields.switch (cut fields.frame.time) (cut fields.frame.port) latest
      ≡ sited_fault switches fields.switch fields.frame.time fields.frame.port latest
  sited_fault-cut latest low fields =
      ap (λ o. fault_or o (cable_fault switches fields.switch (cut fields.frame.port)))
      ((frame_is_cut latest low).same_fault fields.frame)
      ∙ cable_fault-cut fields.switch fields.frame.time fields.frame.port latest _ refl

  pub sited_is_cut : (latest : ℕ) → latest ≤ latest_listed → IsCut (sited_form switches) cut_sited latest
  sited_is_cut latest low = record {
    same_fault = sited_fault-cut latest low;
    whole = λ fields none.
        let numbers = (sited_fault-none fields.switch fields.frame.time fields.frame.port latest none).0 in
        let frame : cut_frame fields.frame ≡ fields.frame = (frame_is_cut latest low).whole fields.frame numbers in
        rw frame refl;
  }

  pub sited_line_says_nothing : (latest : ℕ) (line text : List ℕ) → text ≡ strip_carriage_return line
      → is_skipped text ≡ true → sited_line_says switches latest line ≡ Ok None
  unfolding sited_line_says
  sited_line_says_nothing latest line text e h = says_nothing (sited_form switches) latest line text e h

  -- what a line says after others it says alone
  pub sited_line_says-alone : (latest : ℕ) (line : List ℕ) (o : Option SitedFrame)
      → sited_line_says switches latest line ≡ Ok o → sited_line_says switches 0 line ≡ Ok o
  unfolding sited_line_says
  sited_line_says-alone latest line o h =
      says-alone (sited_form switches) (λ latest fields none.
      let parts = sited_fault-none fields.switch fields.frame.time fields.frame.port latest none in
      let numbers = numbers_fault-none fields.frame.time fields.frame.port latest parts.0 in
      ap₂ fault_or (ap₂ fault_or (time_fault-alone fields.frame.time latest numbers.0) numbers.1) parts.1)
      latest line o h
