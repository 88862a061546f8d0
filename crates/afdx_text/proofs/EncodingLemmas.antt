-- Hexadecimal digits that are written block by block.
use Rattle.std.proofs.Common.{◌≡◌, ℕ, ◌+◌, ◌*◌, ◌/◌, ◌%◌, ◌≤◌, List, [], ◌∷◌, ◌++◌, length, take}
use Rattle.std.proofs.Common.{drop, slice_index, refl, sym, ap, ap₂, ◌∙◌, arith}
use Rattle.std.proofs.lemmas.List.{take-append-drop, take_all, take_at, take-take, length-take-le}
use Rattle.std.proofs.Math.Seq.{take-add}
use Rattle.hex.specs.Hex.{encode_with, encode_lower, lower_digits}
use Rattle.hex.proofs.HexLemmas.{length-encode_with}

-- the digits of some bytes after others
encode_append : (t xs ys : List ℕ) → encode_with t (xs ++ ys) ≡ encode_with t xs ++ encode_with t ys
unfolding encode_with
encode_append t [] ys = refl
encode_append t (x ∷ xs) ys =
    ap (λ (ds : List ℕ). slice_index t (x / 16) ∷ slice_index t (x % 16) ∷ ds) (encode_append t xs ys)

-- a block more
pub more_digits : (bytes some old new : List ℕ) (at next : ℕ) → next ≡ at + 16 → some ≡ take 16 (drop at bytes) →
    take (2 * next) new ≡ take (2 * at) old ++ encode_lower some → take (2 * at) old ≡ encode_lower (take at bytes) →
    take (2 * next) new ≡ encode_lower (take next bytes)
more_digits bytes some old new at next n is put inv =
    put ∙ ap₂ (λ (xs ys : List ℕ). xs ++ encode_lower ys) inv is
    ∙ sym (encode_append lower_digits (take at bytes) (take 16 (drop at bytes)))
    ∙ ap encode_lower (sym (take-add at 16 bytes) ∙ ap (λ (k : ℕ). take k bytes) (sym n))

-- the first digits of some bytes
take_encoded : (k : ℕ) (bytes : List ℕ) → k ≤ length bytes → take (2 * k) (encode_lower bytes)
    ≡ encode_lower (take k bytes)
take_encoded k bytes within =
    let size : length (encode_lower (take k bytes)) ≡ 2 * k =
    length-encode_with lower_digits (take k bytes) ∙ ap (λ (n : ℕ). 2 * n) (length-take-le k bytes within) in
    ap (λ (xs : List ℕ). take (2 * k) (encode_lower xs)) (sym (take-append-drop k bytes))
    ∙ ap (take (2 * k)) (encode_append lower_digits (take k bytes) (drop k bytes))
    ∙ take_at (encode_lower (take k bytes)) (encode_lower (drop k bytes)) (2 * k) size

-- the last block, which may begin among bytes whose digits stand there
pub last_digits : (bytes last old new : List ℕ) (at so_far : ℕ) → at ≤ so_far
    → so_far ≤ length bytes → last ≡ drop at bytes →
    length new ≤ 2 * length bytes → take (2 * length bytes) new ≡ take (2 * at) old ++ encode_lower last →
    take (2 * so_far) old ≡ encode_lower (take so_far bytes) → new ≡ encode_lower bytes
last_digits bytes last old new at so_far back within is long put inv =
    let size : length (take so_far bytes) ≡ so_far = length-take-le so_far bytes within in
    let front : take (2 * at) old ≡ encode_lower (take at bytes) =
    sym (take-take (2 * at) (2 * so_far) old (omega (arith, back))) ∙ ap (take (2 * at)) inv
    ∙ take_encoded at (take so_far bytes) (omega (arith, back, size))
    ∙ ap encode_lower (take-take at so_far bytes back) in
    sym (take_all (2 * length bytes) new long) ∙ put ∙ ap₂ (λ (xs ys : List ℕ). xs ++ encode_lower ys) front is
    ∙ sym (encode_append lower_digits (take at bytes) (drop at bytes)) ∙ ap encode_lower (take-append-drop at bytes)
