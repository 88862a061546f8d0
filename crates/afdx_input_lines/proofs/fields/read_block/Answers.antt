use Rattle.std.proofs.Common.{ℕ, ◌≡◌, ◌≤◌, ◌+◌, ◌*◌, arith, subst, slice_index, length}
use Rattle.std.proofs.lemmas.Grind.{common_steps}
use Rattle.hex.proofs.Pairs.{decode_start, decode_step, decode_done}
use Rattle.afdx_input_lines.proofs.DigitLemmas.{AreValues, digit_of, more_values, pair_of}
use Rattle.afdx_input_lines.proofs.fields.read_block.Goals as goal

pub values-init : goal.values-init
values-init c = λ small at below. absurd (omega (arith, below))

pub values-preserved : goal.values-preserved
values-preserved c = λ small.
    let one : c.digit_value-value.result ≤ 15 = omega (arith, small, c.max-greatest.ensures) in
    let was : c.values.greatest ≤ 15 = omega (arith, small, c.max-greatest.ensures) in
    let is = digit_of (slice_index c.args.digits.now c.values.at) c.digit_value-value.result
    c.digit_value-value.ensures one in
    more_values c.args.digits.now c.values.values c.values.at c.digit_value-value.result
    (omega arith) is one (c.values.invariant was)

pub bytes-init : goal.bytes-init
bytes-init c = record {
  values = λ small.
      let all : c.values.at ≡ length c.args.digits.now = omega arith in
      subst (λ (n : ℕ). AreValues c.args.digits.now c.values.values n) all (c.values.invariant small);
  bytes = λ small. decode_start c.args.digits.now c.args.bytes.now;
}

pub bytes-preserved : goal.bytes-preserved
bytes-preserved c = record {
  values = c.bytes.invariant.values;
  bytes = λ small.
      let digits = c.args.digits.now in
      let values = c.values.values in
      let at : ℕ = 2 * c.bytes.i in
      let high = c.bytes.invariant.values small (2 * c.bytes.i) (omega arith) in
      let low = c.bytes.invariant.values small (2 * c.bytes.i + 1) (omega arith) in
      let byte = pair_of (slice_index digits at) (slice_index digits (at + 1))
      (slice_index values at) (slice_index values (at + 1)) at high.0 low.0 high.1 low.1 in
      decode_step digits c.bytes.bytes c.bytes.i _ (omega arith) (omega arith) byte (c.bytes.invariant.bytes small);
}

pub returns : goal.returns
returns c = λ h.
    let small : c.values.greatest ≤ 15 = grind (arith, common_steps, h) in
    decode_done c.args.digits.now c.bytes.bytes c.bytes.i (omega arith) (omega arith) (c.bytes.invariant.bytes small)
