use Rattle.std.proofs.Common.{arith, take, get_or, length, ◌≡◌, ◌<◌, sym, ◌∙◌}
use Rattle.std.proofs.lemmas.Grind.{common_steps}
use Rattle.std.proofs.lemmas.List.{take_more, length-take-le}
use Rattle.afdx_input_lines.proofs.FieldLemmas.{number_after_push, all_digits_push, few_digits}
use Rattle.afdx_input_lines.proofs.SpaceLemmas.{number_before}
use Rattle.afdx_input_lines.proofs.fields.split_few_digits.Goals as goal

pub returns-then-not-is_ascii_digit : goal.returns-then-not-is_ascii_digit
returns-then-not-is_ascii_digit c =
    let text = c.args.text.now in
    let within : c.loop-at.at < length text = omega (arith, c.min-most.ensures, c.loop-at-test.true) in
    let some : 0 < c.loop-at.at = grind (arith, common_steps, c.if-at-eq0.false) in
    let space : get_or text c.loop-at.at 0 ≡ 32 = grind (arith, common_steps, c.if-byte-ne32.false) in
    let split = number_before text c.loop-at.at c.loop-at.value some within
    c.loop-at.invariant.digits c.loop-at.invariant.value space
    (omega (arith, c.loop-at.auto.value-fits)) in
    (take c.loop-at.at text, split.0, split.1)

pub overflow_mul-value : goal.overflow_mul-value
overflow_mul-value c =
    let size = length-take-le c.loop-at.at c.args.text.now (omega (arith, c.min-most.ensures, c.loop-at-test.true)) in
    let small = few_digits (take c.loop-at.at c.args.text.now) c.loop-at.invariant.digits
    (omega (arith, size, c.min-most.ensures, c.loop-at-test.true)) in
    omega (arith, small, c.loop-at.invariant.value)

pub overflow_add-value : goal.overflow_add-value
overflow_add-value c =
    let size = length-take-le c.loop-at.at c.args.text.now (omega (arith, c.min-most.ensures, c.loop-at-test.true)) in
    let small = few_digits (take c.loop-at.at c.args.text.now) c.loop-at.invariant.digits
    (omega (arith, size, c.min-most.ensures, c.loop-at-test.true)) in
    omega (arith, small, c.loop-at.invariant.value, c.from.ensures)

pub loop-at-preserved : goal.loop-at-preserved
loop-at-preserved c =
    let text = c.args.text.now in
    let byte = get_or text c.loop-at.at 0 in
    let more = take_more text c.loop-at.at 0 (omega (arith, c.min-most.ensures, c.loop-at-test.true)) in
    let digit = sym c.is_ascii_digit.ensures.value ∙ c.if-not-is_ascii_digit.false in
    let pushed = number_after_push 0 (take c.loop-at.at text) byte in
    record {
      digits = rw more (all_digits_push (take c.loop-at.at text) byte c.loop-at.invariant.digits digit);
      value = rw more (rw pushed (omega (arith, c.loop-at.invariant.value, c.from.ensures)));
    }
