use Rattle.std.proofs.Common.{◌≡◌, length}
use Rattle.afdx_input_lines.specs.Splitting.{all_digits}
use Rattle.afdx_explain.proofs.forms.are_digits.Given as goal

abbrev pub invariant-loop-word : goal.invariant-loop-word
invariant-loop-word l = all_digits l.word ≡ all_digits l.initial.word

abbrev pub decreases-loop-word : goal.decreases-loop-word
decreases-loop-word l = length l.word
