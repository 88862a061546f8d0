use Rattle.std.proofs.Common.{ℕ, List, ◌≡◌, ◌∙◌, ◌/◌, ◌%◌, map, take, slice_index, refl, ap, arith}
use Rattle.std.proofs.lemmas.List.{take_all}
use Rattle.hex.specs.Hex.{lower_digits}
use Rattle.afdx_text.proofs.BlockLemmas.{front_of, back_of, woven, stored}
use Rattle.afdx_text.proofs.digits.encode_block.Goals as goal

pub returns : goal.returns
returns c =
    let bytes : List ℕ = c.args.bytes.now in
    let h : List ℕ = c.high_digits.result in
    let l : List ℕ = c.low_digits.result in
    let whole : take 16 bytes ≡ bytes = take_all 16 bytes (omega (arith, c.requires.size)) in
    let high = c.high_digits.ensures ∙ ap (map (λ byte. slice_index lower_digits (byte / 16))) whole in
    let low = c.low_digits.ensures ∙ ap (map (λ byte. slice_index lower_digits (byte % 16))) whole in
    stored c.args.digits.now (front_of h l) (back_of h l)
    (omega (arith, c.requires.size, c.requires.pairs)) refl refl
    ∙ woven bytes h l c.requires.size high low
