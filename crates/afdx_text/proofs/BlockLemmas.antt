-- The digits of a block of bytes, which are read from a table in one step and then woven.
use Rattle.std.proofs.Common.{◌≡◌, ℕ, zero, suc, ◌+◌, ◌*◌, ◌/◌, ◌%◌, ◌^◌, ◌<◌, List, [], ◌∷◌, ◌++◌}
use Rattle.std.proofs.Common.{map, length, get_or, replicate, slice_index, bit_and, refl, sym, ap}
use Rattle.std.proofs.Common.{ap₂, ◌∙◌, arith, w8, Fits}
use Rattle.std.proofs.lemmas.List.{get_or-map, length-map, ext_get_or, take_all}
use Rattle.std.proofs.lemmas.Nat.{and_le_r, and_mask}
use Rattle.std.proofs.lemmas.Simd.{Each1-all, Each1-weaker, Each1-zip2, Each2-splat}
use Rattle.std.proofs.lemmas.Simd.{below_from_Fits, length-zip2, swz_l, SwzOk, SwzOk-from_below}
use Rattle.std.proofs.lemmas.Simd.{length-swz_l, get_or-swz_l_below}
use Rattle.std.proofs.lemmas.Simd.{length-put_chunk, take_more_put_chunk}
use lib.Lanes.{zip2, pick_l, put_chunk, Each1}
use Rattle.hex.specs.Hex.{encode_with, encode_lower, lower_digits}

abbrev pub IsBlock : List ℕ → Type 0
IsBlock v = (length v ≡ 16) × Each1 (Fits w8) v

lane_fits : (v : List ℕ) (i : ℕ) → Each1 (Fits w8) v → get_or v i 0 < 256
lane_fits [] i h = omega arith
lane_fits (x ∷ xs) zero h = h.0.fits
lane_fits (x ∷ xs) (suc i) h = lane_fits xs i h.1

abbrev pub down : ℕ → ℕ → ℕ
down a b = a / 2 ^ b

-- the table has a digit at each half of a byte
pub high_ok : (v : List ℕ) → IsBlock v → SwzOk w8 16 16 0 (zip2 down v (replicate 16 4))
high_ok v fits =
    let small = Each1-weaker (λ a. a < 256) (λ a. a / 16 < 16) (λ a h. omega arith) v (below_from_Fits w8 v fits.1) in
    SwzOk-from_below w8 16 1 16 0 (zip2 down v (replicate 16 4)) refl
    (omega (arith, length-zip2 down v (replicate 16 4) fits.0))
    (Each1-zip2 down (λ j. j < 16) v (replicate 16 4) (Each2-splat (λ a b. down a b < 16) v 16 4 small))

pub low_ok : (v : List ℕ) → IsBlock v → SwzOk w8 16 16 0 (zip2 bit_and v (replicate 16 15))
low_ok v fits =
    let small = Each1-all (λ a. bit_and a 15 < 16) (λ a. omega (arith, and_le_r a 15)) v in
    SwzOk-from_below w8 16 1 16 0 (zip2 bit_and v (replicate 16 15)) refl
    (omega (arith, length-zip2 bit_and v (replicate 16 15) fits.0))
    (Each1-zip2 bit_and (λ j. j < 16) v (replicate 16 15) (Each2-splat (λ a b. bit_and a b < 16) v 16 15 small))

-- the low half of a byte is its rest
pub halves_are_rests : (v : List ℕ) → map (λ x. bit_and x 15) v ≡ map (λ x. x % 16) v
halves_are_rests [] = refl
halves_are_rests (x ∷ xs) = ap₂ (λ (y : ℕ) (ys : List ℕ). y ∷ ys) (and_mask x 4) (halves_are_rests xs)

-- the table t, read at the places g x below 16
pub looked_up : (t : List ℕ) (g : ℕ → ℕ) (v js : List ℕ) → IsBlock v → js ≡ map g v → ((x : ℕ) → x < 256 → g x < 16) →
    swz_l w8 16 t 0 js ≡ map (λ x. get_or t (g x) 0) v
looked_up t g v js fits e small =
    let long : length js ≡ 16 = ap length e ∙ length-map v g ∙ fits.0 in
    ext_get_or 0 _ _ (length-swz_l w8 16 t 0 js ∙ long ∙ sym (length-map v (λ x. get_or t (g x) 0) ∙ fits.0)) (λ i h.
    let below_16 : i < 16 = omega (arith, h, length-swz_l w8 16 t 0 js, long) in
    let within : i < length v = omega (arith, below_16, fits.0) in
    let is : get_or js i 0 ≡ g (get_or v i 0) = ap (λ l. get_or l i 0) e ∙ get_or-map g v i 0 0 within in
    let below : get_or js i 0 < 16 = omega (arith, is, small (get_or v i 0) (lane_fits v i fits.1)) in
    let place : 16 * ((0 + i) / 16) + get_or js i 0 ≡ get_or js i 0 = omega (arith, below_16) in
    get_or-swz_l_below w8 16 t 0 js i (omega (arith, below_16, long)) below
    ∙ ap (λ k. get_or t k 0) (place ∙ is) ∙ sym (get_or-map (λ x. get_or t (g x) 0) v i 0 0 within))

-- the first digits and the second ones in turn
abbrev pub front_of : List ℕ → List ℕ → List ℕ
front_of h l = pick_l 0 (h ++ l) (0 ∷ 16 ∷ 1 ∷ 17 ∷ 2 ∷ 18 ∷ 3 ∷ 19 ∷ 4 ∷ 20 ∷ 5 ∷ 21 ∷ 6 ∷ 22 ∷ 7 ∷ 23 ∷ [])

abbrev pub back_of : List ℕ → List ℕ → List ℕ
back_of h l = pick_l 0 (h ++ l) (8 ∷ 24 ∷ 9 ∷ 25 ∷ 10 ∷ 26 ∷ 11 ∷ 27 ∷ 12 ∷ 28 ∷ 13 ∷ 29 ∷ 14 ∷ 30 ∷ 15 ∷ 31 ∷ [])

pub woven : (bytes h l : List ℕ) → length bytes ≡ 16 → h ≡ map (λ byte. slice_index lower_digits (byte / 16)) bytes →
    l ≡ map (λ byte. slice_index lower_digits (byte % 16)) bytes → front_of h l ++ back_of h l ≡ encode_lower bytes
unfolding encode_with
woven [] h l size is_h is_l = absurd (omega (arith, size))
woven (b0 ∷ []) h l size is_h is_l = absurd (omega (arith, size))
woven (b0 ∷ b1 ∷ []) h l size is_h is_l = absurd (omega (arith, size))
woven (b0 ∷ b1 ∷ b2 ∷ []) h l size is_h is_l = absurd (omega (arith, size))
woven (b0 ∷ b1 ∷ b2 ∷ b3 ∷ []) h l size is_h is_l = absurd (omega (arith, size))
woven (b0 ∷ b1 ∷ b2 ∷ b3 ∷ b4 ∷ []) h l size is_h is_l = absurd (omega (arith, size))
woven (b0 ∷ b1 ∷ b2 ∷ b3 ∷ b4 ∷ b5 ∷ []) h l size is_h is_l = absurd (omega (arith, size))
woven (b0 ∷ b1 ∷ b2 ∷ b3 ∷ b4 ∷ b5 ∷ b6 ∷ []) h l size is_h is_l = absurd (omega (arith, size))
woven (b0 ∷ b1 ∷ b2 ∷ b3 ∷ b4 ∷ b5 ∷ b6 ∷ b7 ∷ []) h l size is_h is_l = absurd (omega (arith, size))
woven (b0 ∷ b1 ∷ b2 ∷ b3 ∷ b4 ∷ b5 ∷ b6 ∷ b7 ∷ b8 ∷ []) h l size is_h is_l = absurd (omega (arith, size))
woven (b0 ∷ b1 ∷ b2 ∷ b3 ∷ b4 ∷ b5 ∷ b6 ∷ b7 ∷ b8 ∷ b9 ∷ []) h l size is_h is_l = absurd (omega (arith, size))
woven (b0 ∷ b1 ∷ b2 ∷ b3 ∷ b4 ∷ b5 ∷ b6 ∷ b7 ∷ b8 ∷ b9 ∷ b10 ∷ []) h l size is_h is_l = absurd (omega (arith, size))
woven (b0 ∷ b1 ∷ b2 ∷ b3 ∷ b4 ∷ b5 ∷ b6 ∷ b7 ∷ b8 ∷ b9 ∷ b10 ∷ b11 ∷ []) h l size is_h is_l =
    absurd (omega (arith, size))
woven (b0 ∷ b1 ∷ b2 ∷ b3 ∷ b4 ∷ b5 ∷ b6 ∷ b7 ∷ b8 ∷ b9 ∷ b10 ∷ b11 ∷ b12 ∷ []) h l size is_h is_l =
    absurd (omega (arith, size))
woven (b0 ∷ b1 ∷ b2 ∷ b3 ∷ b4 ∷ b5 ∷ b6 ∷ b7 ∷ b8 ∷ b9 ∷ b10 ∷ b11 ∷ b12 ∷ b13 ∷ []) h l size is_h
    is_l = absurd (omega (arith, size))
woven (b0 ∷ b1 ∷ b2 ∷ b3 ∷ b4 ∷ b5 ∷ b6 ∷ b7 ∷ b8 ∷ b9 ∷ b10 ∷ b11 ∷ b12 ∷ b13 ∷ b14 ∷ []) h l size
    is_h is_l = absurd (omega (arith, size))
woven (b0 ∷ b1 ∷ b2 ∷ b3 ∷ b4 ∷ b5 ∷ b6 ∷ b7 ∷ b8 ∷ b9 ∷ b10 ∷ b11 ∷ b12 ∷ b13 ∷ b14 ∷ b15 ∷ []) h l
    size is_h is_l = rw (is_h, is_l) refl
woven (b0 ∷ b1 ∷ b2 ∷ b3 ∷ b4 ∷ b5 ∷ b6 ∷ b7 ∷ b8 ∷ b9 ∷ b10 ∷ b11 ∷ b12 ∷ b13 ∷ b14 ∷ b15 ∷ b16
    ∷ more) h l size is_h is_l = absurd (omega (arith, size))

-- two stores side by side
pub stored : (digits front back : List ℕ) → length digits ≡ 32 → length front ≡ 16 → length back ≡ 16 →
    put_chunk 16 (put_chunk 0 digits front) back ≡ front ++ back
stored digits front back size f b =
    let first : List ℕ = put_chunk 0 digits front in
    let same : length first ≡ 32 = length-put_chunk 0 digits front ∙ size in
    sym (take_all 32 (put_chunk 16 first back) (omega (arith, length-put_chunk 16 first back, same)))
    ∙ take_more_put_chunk 16 first back 32 (omega (arith, b)) (omega (arith, same))
    ∙ ap (λ (xs : List ℕ). xs ++ back) (take_more_put_chunk 0 digits front 16 (omega (arith, f)) (omega (arith, size)))
