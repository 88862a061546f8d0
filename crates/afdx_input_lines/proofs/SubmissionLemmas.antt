-- The fields of a submission line.
use Rattle.std.proofs.Common.{◌≡◌, ℕ, ◌-◌, ◌^◌, ◌≤◌, ◌<◌, List, [], ◌∷◌, refl, arith, Option, Some, None}
use Rattle.std.proofs.lemmas.Grind.{common_steps}
use Rattle.std.specs.Option.{option_map}
use Rattle.afdx_frame.specs.Times.{latest_listed}
use Rattle.afdx_input_lines.specs.Splitting.{between_spaces, number_of}
use Rattle.afdx_input_lines.specs.Fields.{cut, cut_number}
use Rattle.afdx_input_lines.specs.Forms.{from_five, five_of, if_no_more}
use Rattle.afdx_input_lines.specs.SubmissionLines.{at_most, submission_fields_with, submission_fields_from}
use Rattle.afdx_input_lines.specs.SubmissionLines.{cut_submission, submission_form}
use Rattle.afdx_input_lines.proofs.FieldLemmas.{time_fault-cut, time_fault-none}
use Rattle.afdx_input_lines.proofs.FormLemmas.{IsCut, five_fields}

-- no number over a limit is cut off to one under it
at_most-cut : (limit : ℕ) (number : Option ℕ) → limit < 2 ^ 64 - 1
    → at_most limit (cut_number number) ≡ at_most limit number
at_most-cut limit None small = refl
at_most-cut limit (Some n) small = grind (arith, common_steps)

from_five-cut : (time vl sub udp : Option ℕ) (digits : List ℕ)
    → from_five submission_fields_with (cut_number time) vl sub udp digits
    ≡ option_map cut_submission (from_five submission_fields_with time vl sub udp digits)
from_five-cut None vl sub udp digits = refl
from_five-cut (Some time) None sub udp digits = refl
from_five-cut (Some time) (Some vl) None udp digits = refl
from_five-cut (Some time) (Some vl) (Some sub) None digits = refl
from_five-cut (Some time) (Some vl) (Some sub) (Some udp) [] = refl
from_five-cut (Some time) (Some vl) (Some sub) (Some udp) (digit ∷ digits) = refl

-- the fields before the fourth space, and what stands behind it
pub submission_five : (time vl sub udp digits : List ℕ) →
    if_no_more submission_form (from_five submission_fields_with (cut_number (number_of time))
    (at_most 65535 (cut_number (number_of vl))) (at_most 255 (cut_number (number_of sub)))
    (at_most 65535 (cut_number (number_of udp))) digits)
    ≡ option_map cut_submission (five_of submission_fields_from (time ∷ vl ∷ sub ∷ udp ∷ between_spaces digits))
submission_five time vl sub udp digits =
    rw (
      at_most-cut 65535 (number_of vl) (omega arith),
      at_most-cut 255 (number_of sub) (omega arith),
      at_most-cut 65535 (number_of udp) (omega arith),
    )
    (five_fields submission_form submission_fields_with (λ a b c d x. refl) submission_fields_from
    cut_submission time vl sub udp digits _ _ _ _ (from_five-cut _ _ _ _ digits))

pub submission_is_cut : (latest : ℕ) → latest ≤ latest_listed → IsCut submission_form cut_submission latest
submission_is_cut latest low = record {
  same_fault = λ fields. time_fault-cut fields.time latest low;
  whole = λ fields none.
      let early = time_fault-none fields.time latest none in
      let time : cut fields.time ≡ fields.time = omega (arith, early.0) in
      rw time refl;
}
