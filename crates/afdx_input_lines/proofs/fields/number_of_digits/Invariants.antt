use Rattle.std.proofs.Common.{◌≡◌, take, true}
use Rattle.afdx_input_lines.specs.Splitting.{all_digits, number_after}
use Rattle.afdx_input_lines.proofs.fields.number_of_digits.Given as goal

abbrev pub invariant-loop-at : goal.invariant-loop-at
invariant-loop-at l = record {
  digits : all_digits (take l.at l.digits) ≡ true;
  value : l.value ≡ number_after 0 (take l.at l.digits);
}
