-- What one line of a submission list says.
use Rattle.std.specs.Prelude.{ℕ, nat_lt, List, Option, Some, None, Result, if◌then◌else◌}
use Rattle.afdx_input_lines.specs.Splitting.{between_spaces, number_of}
use Rattle.afdx_input_lines.specs.Fields.{cut, time_fault}
use Rattle.afdx_input_lines.specs.Forms.{Form, from_five, five_of, said_by}
use Rattle.afdx_input_lines.specs.declared.submission_line.Handed.{Handed}
use Rattle.afdx_input_lines.specs.declared.submission_line.Fields.{Fields}
use Rattle.afdx_input_lines.specs.declared.fault.LineFault.{LineFault}

-- a message that is handed to a sender: for a link's sub-VL, to a UDP port
pub record Submission : Type 0 where
  pub time : ℕ
  pub vl : ℕ
  pub sub : ℕ
  pub udp : ℕ
  pub payload : List ℕ

-- a number that isn't over its limit
abbrev pub at_most : ℕ → Option ℕ → Option ℕ
at_most limit None = None
at_most limit (Some n) = if nat_lt limit n then None else Some n

-- the five fields of a submission line
pub record SubmissionFields : Type 0 where
  pub time : ℕ
  pub vl : ℕ
  pub sub : ℕ
  pub udp : ℕ
  pub digits : List ℕ

-- the five fields of a submission line are these
abbrev pub submission_fields_with : ℕ → ℕ → ℕ → ℕ → List ℕ → SubmissionFields
submission_fields_with time vl sub udp digits =
    record { time = time; vl = vl; sub = sub; udp = udp; digits = digits }

-- the fields that these texts write
abbrev pub submission_fields_from : List ℕ → List ℕ → List ℕ → List ℕ → List ℕ →
    Option SubmissionFields
submission_fields_from time vl sub udp digits = from_five submission_fields_with
    (number_of time) (at_most 65535 (number_of vl)) (at_most 255 (number_of sub))
    (at_most 65535 (number_of udp)) digits

-- the fields of a text, which stand between spaces
unfoldable pub submission_fields : List ℕ → Option SubmissionFields
submission_fields text = five_of submission_fields_from (between_spaces text)

-- the submission of a line with these fields and bytes
abbrev pub submission_with : SubmissionFields → List ℕ → Submission
submission_with fields bytes = record {
  time = fields.time;
  vl = fields.vl;
  sub = fields.sub;
  udp = fields.udp;
  payload = bytes;
}

-- submission lines
abbrev pub submission_form : Form SubmissionFields Submission
submission_form = record {
  fields = submission_fields;
  digits = λ fields. fields.digits;
  fault = λ latest fields. time_fault fields.time latest;
  item = submission_with;
}

-- what a line says that comes after a submission of the latest time: a submission, or nothing, or
-- why it can't be read
unfoldable pub submission_said : ℕ → List ℕ → Result (Option Submission) LineFault
submission_said latest line = said_by submission_form latest line

-- the submission of what is handed over, and its bytes
abbrev pub submission_of : Handed → List ℕ → Submission
submission_of handed bytes = record {
  time = handed.time;
  vl = handed.vl;
  sub = handed.sub;
  udp = handed.udp;
  payload = bytes;
}

-- the fields that the program read
abbrev pub submission_fields_of : Fields → SubmissionFields
submission_fields_of fields =
    submission_fields_with fields.time fields.vl fields.sub fields.udp fields.digits.now

-- as much of the time of a submission line as 64 bits hold
abbrev pub cut_submission : SubmissionFields → SubmissionFields
cut_submission fields = record fields { time = cut fields.time }
