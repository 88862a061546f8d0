-- Whole ns of units of a power of ten or two.
use Rattle.std.proofs.Common.{◌≡◌, ℕ, ◌+◌, ◌-◌, ◌*◌, ◌/◌, ◌%◌, ◌^◌, ◌<◌, ◌≤◌, ap, sym, ◌∙◌, arith, add-mul, Option, SomeIff}
use Rattle.std.proofs.Math.Nat.{mul-div_cancel, div-div-eq-div-mul, mul-add-div_right, mul_assoc, div-eq_of_lt, div-le_self, one-le-pow}
use Rattle.std.proofs.Math.Nat.{pow-le-pow_right, lt_of_lt_of_le}
use Rattle.std.proofs.lemmas.Nat.{pow-add, div-add-mod', div_below, pow_pos, shr-shr, one_shl}

pub ten_some : (n : ℕ) → 0 < 10 ^ n
ten_some n = omega (arith, one-le-pow n 10 (omega arith))

-- units of 10^-n s, n at most 9
pub coarse_tens : (t n : ℕ) → n ≤ 9 → t * 1000000000 / 10 ^ n ≡ t * 10 ^ (9 - n)
coarse_tens t n h =
    let back : 9 - n + n ≡ 9 = omega (arith, h) in
    let parts : 10 ^ (9 - n) * 10 ^ n ≡ 1000000000 = sym (pow-add 10 (9 - n) n) ∙ ap (λ (k : ℕ). 10 ^ k) back in
    ap (λ (s : ℕ). t * s / 10 ^ n) (sym parts)
    ∙ ap (λ (x : ℕ). x / 10 ^ n) (sym (mul_assoc t (10 ^ (9 - n)) (10 ^ n)))
    ∙ mul-div_cancel (t * 10 ^ (9 - n)) (ten_some n)

-- and n at least 9
pub fine_tens : (t n : ℕ) → 9 ≤ n → t * 1000000000 / 10 ^ n ≡ t / 10 ^ (n - 9)
fine_tens t n h =
    let back : 9 + (n - 9) ≡ n = omega (arith, h) in
    let parts : 1000000000 * 10 ^ (n - 9) ≡ 10 ^ n = sym (pow-add 10 9 (n - 9)) ∙ ap (λ (k : ℕ). 10 ^ k) back in
    ap (λ (d : ℕ). t * 1000000000 / d) (sym parts)
    ∙ sym (div-div-eq-div-mul (t * 1000000000) 1000000000 (10 ^ (n - 9)))
    ∙ ap (λ (x : ℕ). x / 10 ^ (n - 9)) (mul-div_cancel t (omega arith))

pub none_of_many : (t d : ℕ) → t < 2 ^ 64 → 2 ^ 64 ≤ d → t / d ≡ 0
none_of_many t d h k = div-eq_of_lt (omega (arith, h, k))

pub tens_fit : (t d : ℕ) → t < 2 ^ 64 → t / d < 2 ^ 64
tens_fit t d h = omega (arith, div-le_self t d, h)

-- whole seconds and a fraction
pub split_units : (t s w : ℕ) → 0 < w → t * s / w ≡ t / w * s + t % w * s / w
split_units t s w some =
    let turned : t / w * w * s ≡ t / w * s * w = grind arith in
    let parts : t * s ≡ t / w * s * w + t % w * s =
    ap (λ (x : ℕ). x * s) (sym (div-add-mod' t w)) ∙ add-mul (t / w * w) (t % w) s
    ∙ ap (λ (x : ℕ). x + t % w * s) turned in
    ap (λ (x : ℕ). x / w) parts ∙ mul-add-div_right some (t / w * s) (t % w * s)

-- 64 bits of units of 2^-32 s are whole ns in 64 bits
pub words_fit : (t : ℕ) → t < 2 ^ 64 → t * 1000000000 / 4294967296 < 2 ^ 64
words_fit t h = div_below (t * 1000000000) 4294967296 (2 ^ 64) (omega arith) (omega (arith, h))

pub none_of_fine : (x n : ℕ) → x < 2 ^ 64 → 64 ≤ n → x / 2 ^ n ≡ 0
none_of_fine x n h k =
    let large : 2 ^ 64 ≤ 2 ^ n = pow-le-pow_right (omega arith) k in div-eq_of_lt (lt_of_lt_of_le h large)

pub fine_twos : (x n : ℕ) → 32 ≤ n → x / 4294967296 / 2 ^ (n - 32) ≡ x / 2 ^ n
fine_twos x n h =
    let back : 32 + (n - 32) ≡ n = omega (arith, h) in
    shr-shr x 32 (n - 32) ∙ ap (λ (k : ℕ). x / 2 ^ k) back

pub fine_fit : (x n : ℕ) → x < 2 ^ 64 → x / 2 ^ n < 2 ^ 64
fine_fit x n h = omega (arith, div-le_self x (2 ^ n), h)

pub sum_is : (r : Option ℕ) (ns a b x : ℕ) → ns ≡ a → x ≡ a + b → SomeIff r (ns + b < 2 ^ 64) (ns + b)
    → SomeIff r (x < 2 ^ 64) x
sum_is r ns a b x h k sum = rw (k, ← h) sum

pub split_shifted : (t n : ℕ) → n < 32 → (t * 1000000000 / 2 ^ n
    ≡ t / (1 * 2 ^ n % 2 ^ 64) * 1000000000 + t % (1 * 2 ^ n % 2 ^ 64) * 1000000000 / (1 * 2 ^ n % 2 ^ 64))
split_shifted t n h = rw (one_shl n 64 (omega (arith, h))) (split_units t 1000000000 (2 ^ n) (pow_pos n))
