use Rattle.std.proofs.Common.{arith, ◌≡◌, ◌∷◌, [], true, false, length, refl, sym, ◌∙◌, ap, Some}
use Rattle.std.specs.Prelude.{◌/◌}
use Rattle.std.specs.Str.{bytes_eq}
use Rattle.afdx_input_lines.proofs.FieldLemmas.{dash_is_no_bytes, digits_are, digits_are_bad, written_over}
use Rattle.afdx_input_lines.proofs.fields.read_bytes.Goals as goal

pub returns-then-eq-clause-read : goal.returns-then-eq-clause-read
returns-then-eq-clause-read c =
    let same : bytes_eq c.args.digits.now (45 ∷ []) ≡ true =
    rw c.as_slice.ensures at (sym c.eq.ensures ∙ c.if-eq.true) in
    dash_is_no_bytes c.args.digits.now same ∙ ap Some (sym c.clear.ensures.items)

pub returns-in-Ok-clause-read : goal.returns-in-Ok-clause-read
returns-in-Ok-clause-read c =
    let other : bytes_eq c.args.digits.now (45 ∷ []) ≡ false =
    rw c.as_slice.ensures at (sym c.eq.ensures ∙ c.if-eq.false) in
    let half : length c.as_mut_slice.result.now ≡ length c.args.digits.now / 2 =
    c.as_mut_slice.ensures.len ∙ c.in_ok-resize.ensures.len in
    let same : length c.decode_to_slice.new.out ≡ length c.resize.new.self.items =
    omega (arith, c.decode_to_slice.auto.out, ap length c.as_mut_slice.ensures.value) in
    digits_are c.args.digits.now c.decode_to_slice.new.out _ other half c.in-Ok.ensures.value
    ∙ ap Some (sym (written_over c.decode_to_slice.new.out c.resize.new.self.items
    c.resize.new.self.len same c.resize.new.self.ok.0))

pub returns-in-Err-clause-err : goal.returns-in-Err-clause-err
returns-in-Err-clause-err c =
    let other : bytes_eq c.args.digits.now (45 ∷ []) ≡ false =
    rw c.as_slice.ensures at (sym c.eq.ensures ∙ c.if-eq.false) in
    let half : length c.as_mut_slice.result.now ≡ length c.args.digits.now / 2 =
    c.as_mut_slice.ensures.len ∙ c.in_ok-resize.ensures.len in (
      digits_are_bad c.args.digits.now c.decode_to_slice.new.out _ c.in-Err.field-0 other half
          c.in-Err.ensures.value,
      refl,
    )
