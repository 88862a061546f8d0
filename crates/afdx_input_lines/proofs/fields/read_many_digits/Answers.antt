use Rattle.std.proofs.Common.{arith, take, get_or, refl, sym, ◌∙◌}
use Rattle.std.proofs.lemmas.List.{take_more}
use Rattle.afdx_input_lines.proofs.FieldLemmas.{all_digits_not, number_of_not, number_after_push, all_digits_push}
use Rattle.afdx_input_lines.proofs.fields.read_many_digits.Goals as goal

pub returns-then-not-is_ascii_digit : goal.returns-then-not-is_ascii_digit
returns-then-not-is_ascii_digit c =
    rw (number_of_not c.args.text.now
    (all_digits_not c.args.text.now c.loop-digit.digit-index (omega arith)
    (sym c.is_ascii_digit.ensures.value ∙ c.if-not-is_ascii_digit.true))) refl

pub loop-digit-preserved : goal.loop-digit-preserved
loop-digit-preserved c =
    let more = take_more c.args.text.now c.loop-digit.digit-index 0 (omega arith) in
    let digit = sym c.is_ascii_digit.ensures.value ∙ c.if-not-is_ascii_digit.false in
    let pushed = number_after_push 0 (take c.loop-digit.digit-index c.args.text.now)
    (get_or c.args.text.now c.loop-digit.digit-index 0) in
    record {
      digits = rw more (all_digits_push (take c.loop-digit.digit-index c.args.text.now)
          (get_or c.args.text.now c.loop-digit.digit-index 0) c.loop-digit.invariant.digits digit);
      value = rw more (rw pushed (omega (arith, c.loop-digit.invariant.value)));
    }
