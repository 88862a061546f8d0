-- What is left of a message, and the register: the shift over both is the same all along.
use Rattle.std.proofs.Common.{◌≡◌, ℕ, zero, suc, ◌+◌, ◌*◌, ◌^◌, ◌<◌, ◌≤◌, inl}
use Rattle.std.proofs.Common.{inr, List, [], ◌∷◌, ◌++◌}
use Rattle.std.proofs.Common.{length, take, drop, get_or, refl, sym, ap, ◌∙◌}
use Rattle.std.proofs.Common.{arith}
use Rattle.std.specs.Prelude.{bit_xor}
use Rattle.std.specs.Int.Bits.{xor_zero_r}
use Rattle.std.proofs.Common.{ap₂}
use Rattle.std.specs.Simd.{first_chunks}
use Rattle.std.proofs.Math.Nat.{zero-mul, suc-mul}
use Rattle.std.proofs.lemmas.List.{length-append}
use Rattle.std.proofs.lemmas.List.{drop_more, drop-drop}
use Rattle.std.proofs.lemmas.List.{length-take, length-drop, take-append-drop, get_or-take}
use Rattle.std.proofs.lemmas.List.{get_or-drop, get_or_past}
use Rattle.std.proofs.lemmas.Bool.{cases_lt}
use Rattle.std.proofs.Common.{pow-add}
use Rattle.afdx_frame.specs.Register.{shift, number}
use Rattle.afdx_frame.specs.Sealing.{AreBytes}
use Rattle.afdx_frame.proofs.RegisterLemmas.{shift_front}

pub left : List ℕ → ℕ → ℕ
left rest register = shift (8 * length rest) (bit_xor register (number rest))

pub left-is : (rest : List ℕ) (register : ℕ) → left rest register ≡ shift (8 * length rest)
    (bit_xor register (number rest))
unfolding left
left-is rest register = refl

pub left-none : (register : ℕ) → left [] register ≡ register
unfolding left number shift
left-none register = xor_zero_r register

pub pow_byte : (n : ℕ) → 2 ^ (8 * suc n) ≡ 2 ^ (8 * n) * 256
pow_byte n = ap (λ (k : ℕ). 2 ^ k) (width n) ∙ pow-add 2 (8 * n) 8 where
  width : (n : ℕ) → 8 * suc n ≡ 8 * n + 8
  width n = omega arith

pub number-append : (xs ys : List ℕ) → number (xs ++ ys) ≡ number ys * 2 ^ (8 * length xs) + number xs
unfolding number
number-append [] ys = omega arith
number-append (x ∷ xs) ys =
    ap (λ (n : ℕ). n * 256 + x) (number-append xs ys)
    ∙ omega (arith, ap (λ (n : ℕ). number ys * n) (pow_byte (length xs)))

pub number_lt : (xs : List ℕ) → AreBytes xs → number xs < 2 ^ (8 * length xs)
unfolding number
number_lt [] h = omega arith
number_lt (x ∷ xs) h = omega (arith, number_lt xs (λ i. h (suc i)), h 0, pow_byte (length xs))

pub left-append : (xs ys : List ℕ) (register next : ℕ) → AreBytes xs
    → next ≡ shift (8 * length xs) (bit_xor register (number xs))
    → left ys next ≡ left (xs ++ ys) register
unfolding left
left-append xs ys register next h e =
    ap (λ (c : ℕ). shift (8 * length ys) (bit_xor c (number ys))) e
    ∙ sym (shift_front (8 * length xs) (8 * length ys) register (number ys) (number xs) (number_lt xs h))
    ∙ sym (ap₂ (λ (w n : ℕ). shift w (bit_xor register n)) width (number-append xs ys))
  where
    width : 8 * length (xs ++ ys) ≡ 8 * length xs + 8 * length ys
    width = omega (arith, length-append xs ys)

pub left-byte : (bytes : List ℕ) (i register next : ℕ) → AreBytes bytes → i < length bytes
    → next ≡ shift 8 (bit_xor register (get_or bytes i 0))
    → left (drop (i + 1) bytes) next ≡ left (drop i bytes) register
unfolding number
left-byte bytes i register next h within e =
    left-append (get_or bytes i 0 ∷ []) (drop (i + 1) bytes) register next one
    (e ∙ ap (λ (n : ℕ). shift 8 (bit_xor register n)) (omega arith))
    ∙ ap (λ (l : List ℕ). left l register) (sym (drop_more bytes i 0 within))
  where
    one : AreBytes (get_or bytes i 0 ∷ [])
    one zero = h i
    one (suc k) = omega arith

pub left-block : (bytes : List ℕ) (i register next : ℕ) → AreBytes bytes → i * 8 + 8 ≤ length bytes
    → next ≡ shift 64 (bit_xor register (number (take 8 (drop (i * 8) bytes))))
    → left (drop ((i + 1) * 8) bytes) next ≡ left (drop (i * 8) bytes) register
left-block bytes i register next h within e =
    ap (λ (l : List ℕ). left l next) (ap (λ (n : ℕ). drop n bytes) after ∙ sym (drop-drop 8 (i * 8) bytes))
    ∙ left-append (take 8 (drop (i * 8) bytes)) (drop 8 (drop (i * 8) bytes)) register next block
    (e ∙ ap (λ (n : ℕ). shift (8 * n) (bit_xor register (number (take 8 (drop (i * 8) bytes))))) long)
    ∙ ap (λ (l : List ℕ). left l register) (take-append-drop 8 (drop (i * 8) bytes))
  where
    after : (i + 1) * 8 ≡ i * 8 + 8
    after = omega arith

    long : 8 ≡ length (take 8 (drop (i * 8) bytes))
    long = omega (arith, length-take 8 (drop (i * 8) bytes), length-drop (i * 8) bytes)

    block : AreBytes (take 8 (drop (i * 8) bytes))
    block k = elim (cases_lt k 8) [
      | inl lt ↦ rw (get_or-take 8 (drop (i * 8) bytes) k 0 lt, get_or-drop) (h (i * 8 + k))
      | inr le ↦ rw (get_or_past (take 8 (drop (i * 8) bytes)) k 0 (omega (arith, long))) (omega arith)
    ]

pub AreBytes-take : (n : ℕ) (bytes : List ℕ) → AreBytes bytes → AreBytes (take n bytes)
AreBytes-take n bytes h i = elim (cases_lt i n) [
  | inl lt ↦ rw (get_or-take n bytes i 0 lt) (h i)
  | inr le ↦ rw (get_or_past (take n bytes) i 0 (omega (arith, length-take n bytes))) (omega arith)
]

pub AreBytes-drop : (n : ℕ) (bytes : List ℕ) → AreBytes bytes → AreBytes (drop n bytes)
AreBytes-drop n bytes h i = rw get_or-drop (h (n + i))

-- a block by its place
pub get_or-first_chunks : (n k : ℕ) (xs : List ℕ) (i : ℕ) → i < k
    → get_or (first_chunks n k xs) i [] ≡ take n (drop (i * n) xs)
get_or-first_chunks n zero xs i h = absurd (omega arith)
get_or-first_chunks n (suc k) xs zero h = ap (λ (m : ℕ). take n (drop m xs)) (sym (zero-mul n))
get_or-first_chunks n (suc k) xs (suc i) h =
    get_or-first_chunks n k (drop n xs) i (omega arith)
    ∙ ap (take n) (drop-drop (i * n) n xs ∙ ap (λ (m : ℕ). drop m xs) (omega (arith, suc-mul i n)))
