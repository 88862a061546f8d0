use Rattle.std.proofs.Common.{refl}
use Rattle.afdx_input_lines.specs.SitedLines.{sited_fields}
use Rattle.afdx_input_lines.proofs.FieldLemmas.{rest_is_none}
use Rattle.afdx_input_lines.proofs.SitedLemmas.{sited_six}
use Rattle.afdx_input_lines.proofs.sited_line.read_sited.Goals as goal

pub returns-in_default-clause-fields : goal.returns-in_default-clause-fields
unfolding sited_fields
returns-in_default-clause-fields c =
    rw (
      c.first_field.ensures.parts,
      rest_is_none c.first_field.result.1 c.in_default.not-Some,
    ) refl

pub returns-in_default-rest-clause-fields : goal.returns-in_default-rest-clause-fields
unfolding sited_fields
returns-in_default-rest-clause-fields c =
    rw (
      c.first_field.ensures.parts,
      c.in-Some.is,
      c.split_number-time.ensures.2,
      rest_is_none c.split_number-time.result.1 c.in_default-rest.not-Some,
    ) refl

pub returns-in_default-rest-2-clause-fields : goal.returns-in_default-rest-2-clause-fields
unfolding sited_fields
returns-in_default-rest-2-clause-fields c =
    rw (
      c.first_field.ensures.parts,
      c.in-Some.is,
      c.split_number-time.ensures.2,
      c.in-Some-rest.is,
      c.first_field-2.ensures.parts,
      rest_is_none c.first_field-2.result.1 c.in_default-rest-2.not-Some,
    ) refl

pub returns-in_default-rest-3-clause-fields : goal.returns-in_default-rest-3-clause-fields
unfolding sited_fields
returns-in_default-rest-3-clause-fields c =
    rw (
      c.first_field.ensures.parts,
      c.in-Some.is,
      c.split_number-time.ensures.2,
      c.in-Some-rest.is,
      c.first_field-2.ensures.parts,
      c.in-Some-rest-2.is,
      c.first_field-3.ensures.parts,
      rest_is_none c.first_field-3.result.1 c.in_default-rest-3.not-Some,
    ) refl

pub returns-in_default-rest-4-clause-fields : goal.returns-in_default-rest-4-clause-fields
unfolding sited_fields
returns-in_default-rest-4-clause-fields c =
    rw (
      c.first_field.ensures.parts,
      c.in-Some.is,
      c.split_number-time.ensures.2,
      c.in-Some-rest.is,
      c.first_field-2.ensures.parts,
      c.in-Some-rest-2.is,
      c.first_field-3.ensures.parts,
      c.in-Some-rest-3.is,
      c.split_number-port.ensures.2,
      rest_is_none c.split_number-port.result.1 c.in_default-rest-4.not-Some,
    ) refl

pub returns-clause-fields : goal.returns-clause-fields
unfolding sited_fields
returns-clause-fields c =
    rw (
      c.first_field.ensures.parts,
      c.in-Some.is,
      c.split_number-time.ensures.2,
      c.in-Some-rest.is,
      c.first_field-2.ensures.parts,
      c.in-Some-rest-2.is,
      c.first_field-3.ensures.parts,
      c.in-Some-rest-3.is,
      c.split_number-port.ensures.2,
      c.in-Some-rest-4.is,
      c.sited_from.ensures,
      c.read_kind.ensures,
      c.split_number-time.ensures.1,
      c.read_side.ensures,
      c.place_named-switch.ensures.place,
      c.split_number-port.ensures.1,
    )
    (sited_six c.args.switches.now c.first_field.result.0.now c.split_number-time.ensures.0
    c.first_field-2.result.0.now c.first_field-3.result.0.now c.split_number-port.ensures.0
    c.in-Some-rest-4.digits.now)
