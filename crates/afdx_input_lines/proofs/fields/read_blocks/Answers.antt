use Rattle.std.proofs.Common.{ℕ, List, ◌≡◌, ◌≤◌, ◌+◌, ◌*◌, ◌-◌, ◌/◌, ◌∙◌, sym, arith, length, take, drop, ap, subst}
use Rattle.std.proofs.lemmas.Grind.{common_steps}
use Rattle.std.proofs.lemmas.Slice.{take-put_mid}
use Rattle.std.proofs.lemmas.List.{take_all, length-drop}
use Rattle.hex.specs.Hex.{decode_pairs}
use Rattle.hex.proofs.Pairs.{prepend, decode_start}
use Rattle.afdx_input_lines.proofs.DigitLemmas.{more_block, last_block}
use Rattle.afdx_input_lines.proofs.fields.read_blocks.Goals as goal

pub loop-block-init : goal.loop-block-init
loop-block-init c = decode_start c.args.digits.now c.args.bytes.now

pub loop-block-preserved : goal.loop-block-preserved
loop-block-preserved c =
    let digits : List ℕ = c.args.digits.now in
    let at : ℕ = c.loop-block.block * 32 in
    let some : List ℕ = take (2 * at + 64 - 2 * at) (drop (2 * at) digits) in
    let size : 2 * at + 64 - 2 * at ≡ 64 = omega arith in
    let within : at + 32 ≤ length c.loop-block.bytes = omega arith in
    let long : length some ≡ 2 * 32 = grind (arith, common_steps) in
    let part : length c.read_block.new.bytes ≡ 32 = grind (arith, common_steps, c.read_block.auto.bytes) in
    more_block digits some c.loop-block.bytes _ c.read_block.new.bytes at 32
    ((c.loop-block.block + 1) * 32) (omega arith)
    (ap (λ (k : ℕ). take k (drop (2 * at) digits)) size) long (c.read_block.ensures c.if-not-read_block.false)
    (take-put_mid at _ c.loop-block.bytes c.read_block.new.bytes _ (omega (arith, part))
    (omega (arith, within))) c.loop-block.invariant

pub returns : goal.returns
returns c = λ h.
    let digits : List ℕ = c.args.digits.now in
    let bytes : List ℕ = c.loop-block.bytes in
    let so_far : ℕ = (length c.args.bytes.now - 1) / 32 * 32 in
    let at : ℕ = length bytes - 32 in
    let last : List ℕ = take (2 * at + 64 - 2 * at) (drop (2 * at) digits) in
    let done : c.loop-block.block ≡ (length c.args.bytes.now - 1) / 32 = omega arith in
    let within : at ≤ length bytes = omega arith in
    let whole : last ≡ drop (2 * at) digits =
    take_all (2 * at + 64 - 2 * at) (drop (2 * at) digits)
    (omega (arith, length-drop (2 * at) digits)) in
    let read = sym (ap (decode_pairs 0) whole) ∙ c.read_block-2.ensures h in
    let part : length c.read_block-2.new.bytes ≡ length bytes - at =
    grind (arith, common_steps, c.read_block-2.auto.bytes) in
    let inv = subst (λ (k : ℕ). decode_pairs 0 digits
    ≡ prepend (take (k * 32) bytes) (decode_pairs (2 * (k * 32)) (drop (2 * (k * 32)) digits)))
    done c.loop-block.invariant in
    last_block digits bytes _ c.read_block-2.new.bytes at so_far (omega arith) (omega arith)
    (grind (arith, common_steps, part))
    (take-put_mid at _ bytes c.read_block-2.new.bytes (length bytes) (omega (arith, part, within)) within) read inv
