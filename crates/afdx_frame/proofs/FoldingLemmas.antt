-- Folding: a sparse multiple of the generator leaves nothing in the register.
use Rattle.std.proofs.Common.{◌≡◌, ℕ, zero, suc, ◌+◌, ◌*◌, ◌/◌, ◌%◌, ◌^◌, ◌<◌, ◌⊎◌, inl, inr}
use Rattle.std.proofs.Common.{refl, sym, ap, ap₂, ◌∙◌, arith}
use Rattle.std.specs.Prelude.{bit_xor}
use Rattle.std.specs.Int.Bits.{xor_comm, xor_assoc, xor_zero_r, xor_self, xor_shifted, xor_block}
use Rattle.std.proofs.Common.{pow-add}
use Rattle.std.proofs.Math.Nat.{pow-suc, zero-mul}
use Rattle.std.proofs.Math.Pow.{pow_pos}
use Rattle.afdx_frame.specs.Register.{shift}
use Rattle.afdx_frame.proofs.RegisterLemmas.{shift_xor, shift-pow, shift-add, cases_parity, xor_swap}

pub scaled_xor : (k a b : ℕ) → bit_xor (a * 2 ^ k) (b * 2 ^ k) ≡ bit_xor a b * 2 ^ k
scaled_xor k a b =
    ap₂ bit_xor (padded a) (padded b) ∙ xor_block k a b 0 0 pos pos ∙ sym (padded (bit_xor a b))
  where
    pos : 0 < 2 ^ k
    pos = pow_pos k

    padded : (n : ℕ) → n * 2 ^ k ≡ n * 2 ^ k + 0
    padded n = omega arith

-- ---- multiples of a polynomial with five terms

pub multiple : (p q r s : ℕ) → ℕ → ℕ
multiple p q r s w =
    bit_xor (bit_xor (bit_xor (bit_xor w (w * 2 ^ p)) (w * 2 ^ q)) (w * 2 ^ r)) (w * 2 ^ s)

multiple_xor : (p q r s a b : ℕ)
    → multiple p q r s (bit_xor a b) ≡ bit_xor (multiple p q r s a) (multiple p q r s b)
unfolding multiple
multiple_xor p q r s a b =
    ap₂ bit_xor (ap₂ bit_xor (ap₂ bit_xor (ap (bit_xor (bit_xor a b)) (sym (scaled_xor p a b))
    ∙ xor_swap a b (a * 2 ^ p) (b * 2 ^ p)) (sym (scaled_xor q a b))
    ∙ xor_swap (bit_xor a (a * 2 ^ p)) (bit_xor b (b * 2 ^ p)) (a * 2 ^ q) (b * 2 ^ q))
    (sym (scaled_xor r a b))
    ∙ xor_swap (bit_xor (bit_xor a (a * 2 ^ p)) (a * 2 ^ q)) (bit_xor (bit_xor b (b * 2 ^ p)) (b * 2 ^ q))
    (a * 2 ^ r) (b * 2 ^ r)) (sym (scaled_xor s a b))
    ∙ xor_swap (bit_xor (bit_xor (bit_xor a (a * 2 ^ p)) (a * 2 ^ q)) (a * 2 ^ r))
    (bit_xor (bit_xor (bit_xor b (b * 2 ^ p)) (b * 2 ^ q)) (b * 2 ^ r)) (a * 2 ^ s) (b * 2 ^ s)

swapped : (n j k : ℕ) → n * 2 ^ j * 2 ^ k ≡ n * 2 ^ k * 2 ^ j
swapped n j k = grind arith

multiple_scaled : (p q r s k w : ℕ) → multiple p q r s (w * 2 ^ k) ≡ multiple p q r s w * 2 ^ k
unfolding multiple
multiple_scaled p q r s k w =
    ap₂ bit_xor (ap₂ bit_xor (ap₂ bit_xor (ap (bit_xor (w * 2 ^ k)) (swapped w k p)
    ∙ scaled_xor k w (w * 2 ^ p)) (swapped w k q)
    ∙ scaled_xor k (bit_xor w (w * 2 ^ p)) (w * 2 ^ q)) (swapped w k r)
    ∙ scaled_xor k (bit_xor (bit_xor w (w * 2 ^ p)) (w * 2 ^ q)) (w * 2 ^ r)) (swapped w k s)
    ∙ scaled_xor k (bit_xor (bit_xor (bit_xor w (w * 2 ^ p)) (w * 2 ^ q)) (w * 2 ^ r)) (w * 2 ^ s)

multiple_zero : (p q r s : ℕ) → multiple p q r s 0 ≡ 0
unfolding multiple
multiple_zero p q r s = rw (zero-mul (2 ^ p), zero-mul (2 ^ q), zero-mul (2 ^ r), zero-mul (2 ^ s)) refl

shift_zero : (k : ℕ) → shift k 0 ≡ 0
shift_zero k = ap (shift k) none ∙ shift-pow k 0 where
  none : 0 ≡ 0 * 2 ^ k
  none = omega arith

shift_twice : (k n : ℕ) → shift (suc k) (n * 2 ^ 1) ≡ shift k n
shift_twice k n = ap (λ (w : ℕ). shift w (n * 2 ^ 1)) width ∙ shift-add 1 k (n * 2 ^ 1)
    ∙ ap (shift k) (shift-pow 1 n)
  where
    width : suc k ≡ 1 + k
    width = omega arith

-- all multiples vanish if the polynomial itself does
multiples_vanish : (p q r s k : ℕ) → shift k (multiple p q r s 1) ≡ 0
    → (b w : ℕ) → w < 2 ^ b → shift (b + k) (multiple p q r s w) ≡ 0
multiples_vanish p q r s k h zero w below =
    ap (λ (n : ℕ). shift (0 + k) (multiple p q r s n)) none
    ∙ ap (shift (0 + k)) (multiple_zero p q r s) ∙ shift_zero (0 + k)
  where
    none : w ≡ 0
    none = omega arith
multiples_vanish p q r s k h (suc b) w below =
    ap (λ (n : ℕ). shift (suc b + k) (multiple p q r s n)) parts
    ∙ ap (shift (suc b + k)) (multiple_xor p q r s (w / 2 * 2 ^ 1) (w % 2)
    ∙ ap (λ (n : ℕ). bit_xor n (multiple p q r s (w % 2))) (multiple_scaled p q r s 1 (w / 2)))
    ∙ shift_xor (suc b + k) (multiple p q r s (w / 2) * 2 ^ 1) (multiple p q r s (w % 2))
    ∙ ap₂ bit_xor (front (multiples_vanish p q r s k h b (w / 2) half)) (last (w % 2) (cases_parity w))
  where
    half : w / 2 < 2 ^ b
    half = omega (arith, pow-suc 2 b)

    parts : w ≡ bit_xor (w / 2 * 2 ^ 1) (w % 2)
    parts = omega arith ∙ sym (xor_shifted (w / 2) 1 (w % 2) (omega arith))

    front : shift (b + k) (multiple p q r s (w / 2)) ≡ 0
        → shift (suc b + k) (multiple p q r s (w / 2) * 2 ^ 1) ≡ 0
    front less = ap (λ (n : ℕ). shift n (multiple p q r s (w / 2) * 2 ^ 1)) width
        ∙ shift_twice (b + k) (multiple p q r s (w / 2))
        ∙ less
      where
        width : suc b + k ≡ suc (b + k)
        width = omega arith

    last : (n : ℕ) → (n ≡ 0) ⊎ (n ≡ 1) → shift (suc b + k) (multiple p q r s n) ≡ 0
    last n (inl e) = ap (λ (m : ℕ). shift (suc b + k) (multiple p q r s m)) e
        ∙ ap (shift (suc b + k)) (multiple_zero p q r s) ∙ shift_zero (suc b + k)
    last n (inr e) = ap (λ (m : ℕ). shift (suc b + k) (multiple p q r s m)) e
        ∙ ap (λ (m : ℕ). shift m (multiple p q r s 1)) width
        ∙ shift-add k (suc b) (multiple p q r s 1) ∙ ap (shift (suc b)) h ∙ shift_zero (suc b)
      where
        width : suc b + k ≡ k + suc b
        width = omega arith

-- the polynomial itself
generator_divides : shift 2400 (multiple 2400 1688 1464 1160 1) ≡ 0
unfolding shift multiple
generator_divides = refl

pub multiple-vanishes : (k w : ℕ) → w < 2 ^ 128 → shift (2528 + k) (multiple 2400 1688 1464 1160 w) ≡ 0
multiple-vanishes k w h =
    shift-add 2528 k (multiple 2400 1688 1464 1160 w)
    ∙ ap (shift k) (multiples_vanish 2400 1688 1464 1160 2400 generator_divides 128 w h)
    ∙ shift_zero k

-- ---- what a block adds behind it

pub behind : (p q r s : ℕ) → ℕ → ℕ
behind p q r s v = bit_xor (bit_xor (bit_xor (v * 2 ^ p) (v * 2 ^ q)) (v * 2 ^ r)) (v * 2 ^ s)

later : (k p v : ℕ) → v * 2 ^ (k + p) ≡ v * 2 ^ p * 2 ^ k
later k p v = ap (λ (n : ℕ). v * n) (pow-add 2 k p) ∙ grind arith

-- five terms are the block, and what it adds behind it
multiple_is : (p q r s v : ℕ) → v < 2 ^ 128
    → multiple (128 + p) (128 + q) (128 + r) (128 + s) v ≡ behind p q r s v * 2 ^ 128 + v
unfolding multiple behind
multiple_is p q r s v h =
    ap₂ bit_xor (ap₂ bit_xor (ap₂ bit_xor (ap (bit_xor v) (later 128 p v)) (later 128 q v)
    ∙ xor_assoc v (v * 2 ^ p * 2 ^ 128) (v * 2 ^ q * 2 ^ 128)
    ∙ ap (bit_xor v) (scaled_xor 128 (v * 2 ^ p) (v * 2 ^ q))) (later 128 r v)
    ∙ xor_assoc v (bit_xor (v * 2 ^ p) (v * 2 ^ q) * 2 ^ 128) (v * 2 ^ r * 2 ^ 128)
    ∙ ap (bit_xor v) (scaled_xor 128 (bit_xor (v * 2 ^ p) (v * 2 ^ q)) (v * 2 ^ r))) (later 128 s v)
    ∙ xor_assoc v (bit_xor (bit_xor (v * 2 ^ p) (v * 2 ^ q)) (v * 2 ^ r) * 2 ^ 128) (v * 2 ^ s * 2 ^ 128)
    ∙ ap (bit_xor v) (scaled_xor 128 (bit_xor (bit_xor (v * 2 ^ p) (v * 2 ^ q)) (v * 2 ^ r)) (v * 2 ^ s))
    ∙ xor_comm v (bit_xor (bit_xor (bit_xor (v * 2 ^ p) (v * 2 ^ q)) (v * 2 ^ r)) (v * 2 ^ s) * 2 ^ 128)
    ∙ xor_shifted (bit_xor (bit_xor (bit_xor (v * 2 ^ p) (v * 2 ^ q)) (v * 2 ^ r)) (v * 2 ^ s)) 128 v h

-- a block is taken away, and added behind it
pub taken_away : (k rest v : ℕ) → v < 2 ^ 128
    → shift (2528 + k) (rest * 2 ^ 128 + v) ≡ shift (2400 + k) (bit_xor rest (behind 2272 1560 1336 1032 v))
taken_away k rest v h =
    sym (xor_zero_r (shift (2528 + k) (rest * 2 ^ 128 + v)))
    ∙ ap (bit_xor (shift (2528 + k) (rest * 2 ^ 128 + v))) (sym (multiple-vanishes k v h))
    ∙ sym (shift_xor (2528 + k) (rest * 2 ^ 128 + v) (multiple 2400 1688 1464 1160 v))
    ∙ ap (shift (2528 + k)) whole
    ∙ ap (λ (w : ℕ). shift w (bit_xor rest (behind 2272 1560 1336 1032 v) * 2 ^ 128)) width
    ∙ shift-add 128 (2400 + k) (bit_xor rest (behind 2272 1560 1336 1032 v) * 2 ^ 128)
    ∙ ap (shift (2400 + k)) (shift-pow 128 (bit_xor rest (behind 2272 1560 1336 1032 v)))
  where
    width : 2528 + k ≡ 128 + (2400 + k)
    width = omega arith

    whole : bit_xor (rest * 2 ^ 128 + v) (multiple 2400 1688 1464 1160 v)
        ≡ bit_xor rest (behind 2272 1560 1336 1032 v) * 2 ^ 128
    whole = ap (bit_xor (rest * 2 ^ 128 + v)) (multiple_is 2272 1560 1336 1032 v h)
        ∙ xor_block 128 rest (behind 2272 1560 1336 1032 v) v v h h
        ∙ ap (λ (n : ℕ). bit_xor rest (behind 2272 1560 1336 1032 v) * 2 ^ 128 + n) (xor_self v)
        ∙ omega arith

-- what is added to the parts is added to the whole
pub gathered : (p q r s v b w x y z : ℕ)
    → bit_xor (bit_xor (bit_xor (bit_xor b (bit_xor w (v * 2 ^ p))) (bit_xor x (v * 2 ^ q)))
    (bit_xor y (v * 2 ^ r))) (bit_xor z (v * 2 ^ s))
    ≡ bit_xor (bit_xor (bit_xor (bit_xor (bit_xor b w) x) y) z) (behind p q r s v)
unfolding behind
gathered p q r s v b w x y z =
    ap (λ (n : ℕ). bit_xor (bit_xor (bit_xor n (bit_xor x (v * 2 ^ q))) (bit_xor y (v * 2 ^ r)))
    (bit_xor z (v * 2 ^ s))) (sym (xor_assoc b w (v * 2 ^ p)))
    ∙ ap (λ (n : ℕ). bit_xor (bit_xor n (bit_xor y (v * 2 ^ r))) (bit_xor z (v * 2 ^ s)))
    (xor_swap (bit_xor b w) (v * 2 ^ p) x (v * 2 ^ q))
    ∙ ap (λ (n : ℕ). bit_xor n (bit_xor z (v * 2 ^ s)))
    (xor_swap (bit_xor (bit_xor b w) x) (bit_xor (v * 2 ^ p) (v * 2 ^ q)) y (v * 2 ^ r))
    ∙ xor_swap (bit_xor (bit_xor (bit_xor b w) x) y)
    (bit_xor (bit_xor (v * 2 ^ p) (v * 2 ^ q)) (v * 2 ^ r)) z (v * 2 ^ s)
