use Rattle.std.proofs.Common.{ℕ, List, ◌≡◌, ◌≤◌, ◌+◌, ◌*◌, ◌-◌, ◌/◌, ◌∙◌, ◌++◌, refl, arith, length}
use Rattle.std.proofs.Common.{take, drop, ap, subst}
use Rattle.std.proofs.lemmas.Grind.{common_steps}
use Rattle.std.proofs.lemmas.List.{take_all, length-drop}
use Rattle.std.proofs.lemmas.Slice.{take-put_mid}
use Rattle.hex.specs.Hex.{encode_lower, encode_with}
use Rattle.afdx_text.proofs.EncodingLemmas.{more_digits, last_digits}
use Rattle.afdx_text.proofs.digits.encode_blocks.Goals as goal

pub loop-block-init : goal.loop-block-init
unfolding encode_with
loop-block-init c = refl

pub loop-block-preserved : goal.loop-block-preserved
loop-block-preserved c =
    let bytes : List ℕ = c.args.bytes.now in
    let at : ℕ = c.loop-block.block * 16 in
    let size : at + 16 - at ≡ 16 = omega arith in
    let some : List ℕ = take (at + 16 - at) (drop at bytes) in
    let within : 2 * at + 32 ≤ length c.loop-block.digits = omega arith in
    let part : length c.encode_block.new.digits ≡ 32 = grind (arith, common_steps, c.encode_block.auto.digits) in
    more_digits bytes some c.loop-block.digits _ at ((c.loop-block.block + 1) * 16) (omega arith)
    (ap (λ (k : ℕ). take k (drop at bytes)) size)
    (take-put_mid (2 * at) _ c.loop-block.digits c.encode_block.new.digits _ (omega (arith, part))
    (omega (arith, within))
    ∙ ap (λ (ds : List ℕ). take (2 * at) c.loop-block.digits ++ ds) c.encode_block.ensures) c.loop-block.invariant

pub returns : goal.returns
returns c =
    let bytes : List ℕ = c.args.bytes.now in
    let digits : List ℕ = c.loop-block.digits in
    let so_far : ℕ = (length bytes - 1) / 16 * 16 in
    let at : ℕ = length bytes - 16 in
    let last : List ℕ = take (at + 16 - at) (drop at bytes) in
    let done : c.loop-block.block ≡ (length bytes - 1) / 16 = omega arith in
    let whole : last ≡ drop at bytes = take_all (at + 16 - at) (drop at bytes) (omega (arith, length-drop at bytes)) in
    let part : length c.encode_block-2.new.digits ≡ 32 = grind (arith, common_steps, c.encode_block-2.auto.digits) in
    let within : 2 * at ≤ length digits = omega arith in
    let inv = subst (λ (k : ℕ). take (2 * (k * 16)) digits ≡ encode_lower (take (k * 16) bytes))
    done c.loop-block.invariant in
    last_digits bytes last digits _ at so_far (omega arith) (omega arith) whole (grind (arith, common_steps, part))
    (take-put_mid (2 * at) _ digits c.encode_block-2.new.digits (2 * length bytes) (omega (arith, part, within)) within
    ∙ ap (λ (ds : List ℕ). take (2 * at) digits ++ ds) c.encode_block-2.ensures) inv
