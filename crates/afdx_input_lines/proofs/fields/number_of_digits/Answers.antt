use Rattle.std.proofs.Common.{arith, take, get_or}
use Rattle.std.proofs.lemmas.List.{take_more, length-take-le}
use Rattle.afdx_input_lines.proofs.FieldLemmas.{number_after_push, all_digits_push, digit_at, few_digits, from_48}
use Rattle.afdx_input_lines.proofs.fields.number_of_digits.Goals as goal

pub overflow_mul-value : goal.overflow_mul-value
overflow_mul-value c =
    let digits = c.args.digits.now in
    let size = length-take-le c.loop-at.at digits (omega (arith, c.loop-at-test.true)) in
    let small = few_digits (take c.loop-at.at digits) c.loop-at.invariant.digits
    (omega (arith, size, c.requires.few, c.loop-at-test.true)) in
    omega (arith, small, c.loop-at.invariant.value)

pub overflow_sub-digits : goal.overflow_sub-digits
overflow_sub-digits c =
    from_48 (get_or c.args.digits.now c.loop-at.at 0)
    (digit_at c.args.digits.now c.loop-at.at (omega (arith, c.loop-at-test.true)) c.requires.digits)

pub overflow_add-value : goal.overflow_add-value
overflow_add-value c =
    let digits = c.args.digits.now in
    let size = length-take-le c.loop-at.at digits (omega (arith, c.loop-at-test.true)) in
    let small = few_digits (take c.loop-at.at digits) c.loop-at.invariant.digits
    (omega (arith, size, c.requires.few, c.loop-at-test.true)) in
    omega (arith, small, c.loop-at.invariant.value, c.from.ensures)

pub loop-at-preserved : goal.loop-at-preserved
loop-at-preserved c =
    let digits = c.args.digits.now in
    let byte = get_or digits c.loop-at.at 0 in
    let more = take_more digits c.loop-at.at 0 (omega (arith, c.loop-at-test.true)) in
    let digit = digit_at digits c.loop-at.at (omega (arith, c.loop-at-test.true)) c.requires.digits in
    let pushed = number_after_push 0 (take c.loop-at.at digits) byte in
    record {
      digits = rw more (all_digits_push (take c.loop-at.at digits) byte c.loop-at.invariant.digits digit);
      value = rw more (rw pushed (omega (arith, c.loop-at.invariant.value, c.from.ensures)));
    }
