-- How great bursts and rates can be.
use Rattle.std.proofs.Common.{◌≡◌, ℕ, ◌+◌, ◌*◌, ◌/◌, ◌≤◌, Bool, true, false, ◌==◌, []}
use Rattle.std.proofs.Common.{◌∷◌, if◌then◌else◌, refl, ap, arith}
use Rattle.std.proofs.Math.Nat.{mul-le-mul_left}
use Rattle.std.specs.Prelude.{IsTrue}
use Rattle.afdx_frame.specs.Regulation.{gaps, is_bag, byte_units, cap, fill_rate}
use Rattle.afdx_frame.proofs.ListLemmas.{AllByRecursion-one_of}
use Rattle.afdx_config.specs.Rows.{LinkRow}
use Rattle.afdx_config.specs.Reading.{rates}
use Rattle.afdx_config.specs.Lawful.{IsLinkUpTo, IsOneOf, jitter_from_any}
use Rattle.afdx_config.specs.Flows.{regulation_of_link}

-- a gap, and how often 128 ms holds it
pub record IsGap (b : ℕ) : Type 0 where
  pub whole : (128 / b) * b ≡ 128
  pub some : 1 ≤ b
  pub often : 1 ≤ 128 / b
  pub many : 128 / b ≤ 128

pub is_gap : (b : ℕ) → IsTrue (is_bag b) → IsGap b
is_gap b h = AllByRecursion-one_of IsGap b gaps (
  record { whole = refl; some = omega arith; often = omega arith; many = omega arith },
  (
    record { whole = refl; some = omega arith; often = omega arith; many = omega arith },
    (
      record { whole = refl; some = omega arith; often = omega arith; many = omega arith },
      (
        record { whole = refl; some = omega arith; often = omega arith; many = omega arith },
        (
          record { whole = refl; some = omega arith; often = omega arith; many = omega arith },
          (
            record { whole = refl; some = omega arith; often = omega arith; many = omega arith },
            (
              record { whole = refl; some = omega arith; often = omega arith; many = omega arith },
              (record { whole = refl; some = omega arith; often = omega arith; many = omega arith }, tt),
            ),
          ),
        ),
      ),
    ),
  ),
) h

-- a rate of either profile
pub record IsRate (r : ℕ) : Type 0 where
  pub some : 1 ≤ r
  pub fast : 1 ≤ 8000 / r
  pub slow : 8000 / r ≤ 800
  pub whole : byte_units / (8000 / r) * (8000 / r) ≡ byte_units

pub is_rate : (profile r : ℕ) → IsOneOf (rates profile) r → IsRate r
is_rate profile r h = by (profile == 2) h
  where
    by : (b : Bool) → IsOneOf (if b then 10 ∷ 100 ∷ 1000 ∷ [] else 10 ∷ 100 ∷ []) r → IsRate r
    by true h = AllByRecursion-one_of IsRate r (10 ∷ 100 ∷ 1000 ∷ []) (
      record { some = omega arith; fast = omega arith; slow = omega arith; whole = refl },
      (
        record { some = omega arith; fast = omega arith; slow = omega arith; whole = refl },
        (record { some = omega arith; fast = omega arith; slow = omega arith; whole = refl }, tt),
      ),
    ) h
    by false h = AllByRecursion-one_of IsRate r (10 ∷ 100 ∷ []) (
      record { some = omega arith; fast = omega arith; slow = omega arith; whole = refl },
      (record { some = omega arith; fast = omega arith; slow = omega arith; whole = refl }, tt),
    ) h

module _ {greatest : ℕ → ℕ} (systems : ℕ) (l : LinkRow) (lawful : IsLinkUpTo greatest systems l) where
  pub smax_small : (regulation_of_link l).smax ≤ 1538
  smax_small = let few = lawful.lmax.1 in omega arith

  pub rate_small : fill_rate (regulation_of_link l) ≤ 196864
  rate_small =
      let g = is_gap l.bag_ms lawful.bag_ms in
      let few = smax_small in
      let most : (l.lmax + 20) * (128 / l.bag_ms) ≤ (l.lmax + 20) * 128 = mul-le-mul_left (l.lmax + 20) g.many in
      omega (arith, most, few)

  pub rate_some : 1 ≤ fill_rate (regulation_of_link l)
  rate_some =
      let g = is_gap l.bag_ms lawful.bag_ms in
      let least : (l.lmax + 20) * 1 ≤ (l.lmax + 20) * (128 / l.bag_ms) = mul-le-mul_left (l.lmax + 20) g.often in
      omega (arith, least)

-- the BAG and the jitter are at most 102 times the BAG, where it is 1 ms or more
pub cap_small : (systems : ℕ) (l : LinkRow) → IsLinkUpTo jitter_from_any systems l
    → cap (regulation_of_link l) ≤ 20080128000000
cap_small systems l lawful =
    let g = is_gap l.bag_ms lawful.bag_ms in
    let q = 128 / l.bag_ms in
    let few : 1000000 * l.bag_ms + 1000 * l.jitter_us ≤ 102000000 * l.bag_ms =
    omega (arith, lawful.jitter_us.1, g.some) in
    let first : (l.lmax + 20) * q * (1000000 * l.bag_ms + 1000 * l.jitter_us)
    ≤ (l.lmax + 20) * q * (102000000 * l.bag_ms) = mul-le-mul_left ((l.lmax + 20) * q) few in
    let whole : (l.lmax + 20) * (q * l.bag_ms) ≡ (l.lmax + 20) * 128 = ap (λ z. (l.lmax + 20) * z) g.whole in
    let most = lawful.lmax.1 in
    omega (arith, first, whole, most)

pub frame_small : (smax b : ℕ) → smax ≤ 1538 → b ≤ 800 → smax * b ≤ 1230400
frame_small smax b h g =
    let first : smax * b ≤ smax * 800 = mul-le-mul_left smax g in
    omega (arith, first, h)
