use Rattle.std.proofs.Common.{bit_and, ◌%◌, ◌∙◌, arith}
use Rattle.std.proofs.lemmas.Simd.{zip2_splat}
use Rattle.hex.specs.Hex.{lower_digits}
use Rattle.afdx_text.proofs.BlockLemmas.{low_ok, looked_up, halves_are_rests}
use Rattle.afdx_text.proofs.digits.low_digits.Goals as goal

pub swizzle : goal.swizzle
swizzle c = low_ok c.args.bytes c.fits-bytes

pub returns : goal.returns
returns c =
    let v = c.args.bytes in
    looked_up lower_digits (λ x. x % 16) v _ c.fits-bytes
    (zip2_splat bit_and v 16 15 c.fits-bytes.0 ∙ halves_are_rests v) (λ x h. omega arith)
