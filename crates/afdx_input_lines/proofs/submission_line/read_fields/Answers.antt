use Rattle.std.proofs.Common.{refl}
use Rattle.afdx_input_lines.specs.SubmissionLines.{submission_fields}
use Rattle.afdx_input_lines.proofs.FieldLemmas.{rest_is_none}
use Rattle.afdx_input_lines.proofs.SubmissionLemmas.{submission_five}
use Rattle.afdx_input_lines.proofs.submission_line.read_fields.Goals as goal

pub returns-in_default : goal.returns-in_default
unfolding submission_fields
returns-in_default c = rw (
  c.split_number-time.ensures.2,
  rest_is_none c.split_number-time.result.1 c.in_default.not-Some,
) refl

pub returns-in_default-rest : goal.returns-in_default-rest
unfolding submission_fields
returns-in_default-rest c =
    rw (
      c.split_number-time.ensures.2,
      c.in-Some.is,
      c.split_number-vl.ensures.2,
      rest_is_none c.split_number-vl.result.1 c.in_default-rest.not-Some,
    ) refl

pub returns-in_default-rest-2 : goal.returns-in_default-rest-2
unfolding submission_fields
returns-in_default-rest-2 c =
    rw (
      c.split_number-time.ensures.2,
      c.in-Some.is,
      c.split_number-vl.ensures.2,
      c.in-Some-rest.is,
      c.split_number-sub.ensures.2,
      rest_is_none c.split_number-sub.result.1
          c.in_default-rest-2.not-Some,
    ) refl

pub returns-in_default-rest-3 : goal.returns-in_default-rest-3
unfolding submission_fields
returns-in_default-rest-3 c =
    rw (
      c.split_number-time.ensures.2,
      c.in-Some.is,
      c.split_number-vl.ensures.2,
      c.in-Some-rest.is,
      c.split_number-sub.ensures.2,
      c.in-Some-rest-2.is,
      c.split_number-udp.ensures.2,
      rest_is_none c.split_number-udp.result.1 c.in_default-rest-3.not-Some,
    ) refl

pub returns : goal.returns
unfolding submission_fields
returns c =
    rw (
      c.split_number-time.ensures.2,
      c.in-Some.is,
      c.split_number-vl.ensures.2,
      c.in-Some-rest.is,
      c.split_number-sub.ensures.2,
      c.in-Some-rest-2.is,
      c.split_number-udp.ensures.2,
      c.in-Some-rest-3.is,
      c.fields_from.ensures,
      c.split_number-time.ensures.1,
      c.port_of.ensures,
      c.split_number-vl.ensures.1,
      c.sub_of.ensures,
      c.split_number-sub.ensures.1,
      c.port_of-2.ensures,
      c.split_number-udp.ensures.1,
    )
    (submission_five c.split_number-time.ensures.0 c.split_number-vl.ensures.0
    c.split_number-sub.ensures.0 c.split_number-udp.ensures.0 c.in-Some-rest-3.digits.now)
