-- The numbers of a link's levels.
use Rattle.std.proofs.Common.{◌≡◌, ℕ, ◌+◌, ◌*◌, ◌-◌, ◌<◌, ◌≤◌, refl, ap, ◌∙◌, arith}
use Rattle.std.proofs.Math.Nat.{mul-le-mul_left, le-mul_of_pos_right}
use Rattle.std.specs.Prelude.{IsTrue, zero, suc, ◌/◌}
use Rattle.afdx_police.proofs.AccountLemmas.{is_bag-divides, factor_positive}
use Rattle.afdx_frame.specs.Regulation.{Regulation, bag, is_bag}
use Rattle.afdx_conform.specs.Accounts.{AreRates, AreNear}
use Rattle.afdx_conform.specs.Leeway.{Leeway}
use Rattle.afdx_conform.specs.Levels.{Levels, levels_with, later, cost, fastest, slowest}
use Rattle.afdx_conform.specs.Ranges.{AreInRange}
use Rattle.afdx_conform.specs.declared.levels.Rates.{Rates}

turned : (p b c : ℕ) → p * b * c ≡ p * (b * c)
turned p b c = grind arith

pub rated-cost : (link : Regulation) (by : Leeway) (rates : Rates) (charge : ℕ) → AreRates link by rates
    → rates.byte_cost * charge ≡ cost link by charge
rated-cost link by rates charge r = ap (λ n. n * charge) r.byte_cost ∙ turned 1000000 (bag link) charge

pub levels-same : (a b c d : ℕ) → a ≡ c → b ≡ d → levels_with a b ≡ levels_with c d
levels-same a b c d p q = rw (p, q) refl

product : (a b m n : ℕ) → a ≤ m → b ≤ n → a * b ≤ m * n
product a b m n h k =
    let one : a * b ≤ a * n = mul-le-mul_left a k in
    let two : n * a ≤ n * m = mul-le-mul_left n h in
    let left : a * n ≡ n * a = grind arith in
    let right : m * n ≡ n * m = grind arith in
    omega (arith, one, two, left, right)

pub in-range : (smax fill ms j d s q : ℕ) → smax ≤ 1538 → fill ≡ 1000000 * ms + 1000 * j → 0 < ms → ms ≤ 128
    → j ≤ 1000 * ms + 100000
    → d ≤ 1000 → s ≤ 1000000 → q ≤ 1000000
    → AreInRange (1000000 * (smax * fill)) (smax * (1000000 + d) * (s + s + q))
    (smax * (1000000 - d) * (s + s + q)) (1000000 * (1000000 * ms))
in-range smax fill ms j d s q a is some b c e f g =
    let most : fill ≤ 356000000 = omega (arith, is, b, c) in
    let one : smax * fill ≤ 1538 * 356000000 = product smax fill 1538 356000000 a most in
    let two : smax * (1000000 + d) ≤ 1538 * 1001000 = product smax (1000000 + d) 1538 1001000 a (omega (arith, e)) in
    let three : smax * (1000000 + d) * (s + s + q) ≤ 1538 * 1001000 * 3000000 =
    product (smax * (1000000 + d)) (s + s + q) (1538 * 1001000) 3000000 two (omega (arith, f, g)) in
    let four : smax * (1000000 - d) ≤ smax * (1000000 + d) = mul-le-mul_left smax (omega arith) in
    let five : smax * (1000000 - d) * (s + s + q) ≤ smax * (1000000 + d) * (s + s + q) =
    product (smax * (1000000 - d)) (s + s + q) (smax * (1000000 + d)) (s + s + q) four (omega arith) in
    record { level = omega (arith, one, three); slips = five; byte = omega (arith, b); some = omega (arith, some) }

-- a gap has 1 to 128 ms
pub bag-high : (ms : ℕ) → IsTrue (is_bag ms) → ms ≤ 128
bag-high ms h =
    let e = is_bag-divides ms h in
    let more : ms ≤ ms * (128 / ms) = le-mul_of_pos_right ms (factor_positive ms (128 / ms) e) in
    omega (arith, e, more)

pub bag-low : (ms : ℕ) → IsTrue (is_bag ms) → 0 < ms
bag-low zero h = let e = is_bag-divides 0 h in absurd (omega (arith, e))
bag-low (suc ms) h = omega arith

near-less : (lo hi slip a b : ℕ) → b ≤ a → lo ≤ hi + slip → lo - a ≤ hi - b + slip
near-less lo hi slip a b h k = omega (arith, h, k)

-- the bounds come no further apart with time
pub near-later : (link : Regulation) (by : Leeway) (rates : Rates) (levels : Levels) (ns : ℕ) → AreRates link by rates
    → AreNear rates levels → AreNear rates (later link by ns levels)
near-later link by rates levels ns r near =
    let slower : slowest link by ≤ fastest link by = mul-le-mul_left link.smax (omega arith) in
    let same : ns ≤ ns = omega arith in
    near-less levels.lo levels.hi rates.fast_slip (fastest link by * ns) (slowest link by * ns)
    (product (slowest link by) ns (fastest link by) ns slower same) near
