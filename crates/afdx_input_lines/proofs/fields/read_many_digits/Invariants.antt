use Rattle.std.proofs.Common.{◌≡◌, ◌^◌, ◌-◌, min, take, true}
use Rattle.afdx_input_lines.specs.Splitting.{all_digits, number_after}
use Rattle.afdx_input_lines.proofs.fields.read_many_digits.Given as goal

abbrev pub invariant-loop-digit : goal.invariant-loop-digit
invariant-loop-digit l = record {
  digits : all_digits (take l.digit-index l.text) ≡ true;
  value : l.value ≡ min (number_after 0 (take l.digit-index l.text)) (2 ^ 64 - 1);
}
