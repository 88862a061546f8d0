use Rattle.std.proofs.Common.{refl}
use Rattle.afdx_input_lines.specs.FrameLines.{frame_fields}
use Rattle.afdx_input_lines.proofs.FieldLemmas.{rest_is_none}
use Rattle.afdx_input_lines.proofs.FrameLemmas.{frame_five}
use Rattle.afdx_input_lines.proofs.frame_line.read_fields.Goals as goal

pub returns-in_default : goal.returns-in_default
unfolding frame_fields
returns-in_default c = rw (c.first_field.ensures.parts, rest_is_none c.first_field.result.1 c.in_default.not-Some) refl

pub returns-in_default-rest : goal.returns-in_default-rest
unfolding frame_fields
returns-in_default-rest c =
    rw (
      c.first_field.ensures.parts,
      c.in-Some.is,
      c.split_long_number-time.ensures.2,
      rest_is_none c.split_long_number-time.result.1 c.in_default-rest.not-Some,
    ) refl

pub returns-in_default-rest-2 : goal.returns-in_default-rest-2
unfolding frame_fields
returns-in_default-rest-2 c =
    rw (
      c.first_field.ensures.parts,
      c.in-Some.is,
      c.split_long_number-time.ensures.2,
      c.in-Some-rest.is,
      c.first_field-2.ensures.parts,
      rest_is_none c.first_field-2.result.1 c.in_default-rest-2.not-Some,
    ) refl

pub returns-in_default-rest-3 : goal.returns-in_default-rest-3
unfolding frame_fields
returns-in_default-rest-3 c =
    rw (
      c.first_field.ensures.parts,
      c.in-Some.is,
      c.split_long_number-time.ensures.2,
      c.in-Some-rest.is,
      c.first_field-2.ensures.parts,
      c.in-Some-rest-2.is,
      c.split_number-port.ensures.2,
      rest_is_none c.split_number-port.result.1 c.in_default-rest-3.not-Some,
    ) refl

pub returns : goal.returns
unfolding frame_fields
returns c =
    rw (
      c.first_field.ensures.parts,
      c.in-Some.is,
      c.split_long_number-time.ensures.2,
      c.in-Some-rest.is,
      c.first_field-2.ensures.parts,
      c.in-Some-rest-2.is,
      c.split_number-port.ensures.2,
      c.in-Some-rest-3.is,
      c.fields_from.ensures,
      c.read_kind.ensures,
      c.split_long_number-time.ensures.1,
      c.read_side.ensures,
      c.split_number-port.ensures.1,
    )
    (frame_five c.first_field.result.0.now c.split_long_number-time.ensures.0
    c.first_field-2.result.0.now c.split_number-port.ensures.0 c.in-Some-rest-3.digits.now)
