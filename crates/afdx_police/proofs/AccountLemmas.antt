-- The window rule is the test of an account.
use Rattle.std.proofs.Common.{◌≡◌, ℕ, zero, suc, ◌+◌, ◌*◌, ◌-◌, ◌/◌, ◌<◌, ◌≤◌, max, Bool, true}
use Rattle.std.proofs.Common.{false, ◌||◌, ◌↔◌, List, [], ◌∷◌, refl, subst, ◌∙◌, arith, eqb}
use Rattle.std.proofs.Math.Nat.{mul-le-mul_left, lt_of_mul-lt-mul_left}
use Rattle.std.proofs.lemmas.Bool.{leb-true, le-leb, eqb-true, and_from, and_parts}
use Rattle.std.specs.Prelude.{IsTrue, All}
use Rattle.std.specs.List.{list_any}
use Rattle.afdx_frame.specs.Regulation.{Regulation, bag, jitter, byte_units, fill_rate, cap}
use Rattle.afdx_police.specs.Account.{overdrawn, missing, level}
use Rattle.afdx_police.specs.Rule.{is_bag}
use Rattle.afdx_police.specs.Window.{Charged, keeps_window, keeps_windows, fits}

-- a number of milliseconds whose gap goes into 128 milliseconds
abbrev IsBag : ℕ → Type 0
IsBag ms = ms * (128 / ms) ≡ 128

-- P of each number of a list
abbrev Each : (ℕ → Type 0) → List ℕ → Type 0
Each P [] = Unit {0}
Each P (x ∷ xs) = P x × Each P xs

any_of : (P : ℕ → Type 0) (xs : List ℕ) (n : ℕ) → Each P xs → list_any (λ x. eqb x n) xs ≡ true → P n
any_of P [] n all h = absurd (cc)
any_of P (x ∷ xs) n all h = any_here P x xs n all (eqb x n) refl h (any_of P xs n all.1)
  where
    any_here : (P : ℕ → Type 0) (x : ℕ) (xs : List ℕ) (n : ℕ) → Each P (x ∷ xs) → (b : Bool)
        → eqb x n ≡ b → (b || list_any (λ y. eqb y n) xs) ≡ true
        → (list_any (λ y. eqb y n) xs ≡ true → P n) → P n
    any_here P x xs n all true e h rest = subst P (eqb-true x n e) all.0
    any_here P x xs n all false e h rest = rest h

-- a gap divides 128 milliseconds
pub is_bag-divides : (ms : ℕ) → is_bag ms ≡ true → IsBag ms
is_bag-divides ms h = any_of IsBag (1 ∷ 2 ∷ 4 ∷ 8 ∷ 16 ∷ 32 ∷ 64 ∷ 128 ∷ []) ms
    (refl, (refl, (refl, (refl, (refl, (refl, (refl, (refl, tt)))))))) h

-- and is at least one
pub is_bag-positive : (ms : ℕ) → is_bag ms ≡ true → 1 ≤ ms
is_bag-positive ms h = any_of (λ n. 1 ≤ n) (1 ∷ 2 ∷ 4 ∷ 8 ∷ 16 ∷ 32 ∷ 64 ∷ 128 ∷ []) ms (
  omega arith,
  (
    omega arith,
    (omega arith, (omega arith, (omega arith, (omega arith, (omega arith, (omega arith, tt)))))),
  ),
) h

-- each window, in the account's units: the load of `units` at `time` against the window that begins with each of these
abbrev EachWindow : Regulation → List Charged → ℕ → ℕ → ℕ → Type 0
EachWindow link [] taken time units = Unit {0}
EachWindow link (first ∷ before) taken time units =
    (byte_units * (taken + first.charge) + units ≤ fill_rate link * (time - first.time) + cap link)
    × EachWindow link before (taken + first.charge) time units

-- over numbers: adding the time to the window
gap-add : (r s u t : ℕ) → s ≤ u → u ≤ t → r * (u - s) + r * (t - u) ≡ r * (t - s)
gap-add r s u t su ut = grind arith

-- the windows keep the units exactly if there is room for them in the account
overdrawn-windows : (link : Regulation) (xs : List Charged) (taken time units : ℕ)
    → overdrawn link xs taken time + units ≤ cap link → EachWindow link xs taken time units
unfolding overdrawn
overdrawn-windows link [] taken time units h = tt
overdrawn-windows link (x ∷ xs) taken time units h =
    (omega (arith, h), overdrawn-windows link xs (taken + x.charge) time units (omega (arith, h)))

windows-overdrawn : (link : Regulation) (xs : List Charged) (taken time units : ℕ)
    → units ≤ cap link → EachWindow link xs taken time units → overdrawn link xs taken time + units
    ≤ cap link
unfolding overdrawn
windows-overdrawn link [] taken time units alone h = omega (arith, alone)
windows-overdrawn link (x ∷ xs) taken time units alone h =
    let before : overdrawn link xs (taken + x.charge) time + units ≤ cap link =
    windows-overdrawn link xs (taken + x.charge) time units alone h.1 in
    omega (arith, h.0, before)

-- over numbers: the window rule in bytes and nanoseconds is the one in the account's units, m of
-- which go to a unit of the rule
into-units : (m ms s n p b j : ℕ) → ms * m ≡ 128 → b ≡ 1000000 * ms → b * n ≤ s * (p + b + j)
    → byte_units * n ≤ s * m * p + s * m * (b + j)
into-units m ms s n p b j is-bag e h =
    let scaled : m * (b * n) ≤ m * (s * (p + b + j)) = mul-le-mul_left m h in
    let left : m * (b * n) ≡ 1000000 * (ms * m) * n = rw e (grind arith) in
    let units : m * (b * n) ≡ byte_units * n = left ∙ rw is-bag refl in
    omega (arith, scaled, units)

pub factor_positive : (ms m : ℕ) → ms * m ≡ 128 → 0 < m
factor_positive ms zero h = absurd (omega (arith, h))
factor_positive ms (suc m) h = omega arith

from-units : (m ms s n p b j : ℕ) → ms * m ≡ 128 → b ≡ 1000000 * ms
    → byte_units * n ≤ s * m * p + s * m * (b + j) → b * n ≤ s * (p + b + j)
from-units m ms s n p b j is-bag e h =
    let left : m * (b * n) ≡ 1000000 * (ms * m) * n = rw e (grind arith) in
    let units : m * (b * n) ≡ byte_units * n = left ∙ rw is-bag refl in
    let positive : 0 < m = factor_positive ms m is-bag in
    let right : m * suc (s * (p + b + j)) ≡ s * m * p + s * m * (b + j) + m = omega arith in
    let below : m * (b * n) < m * suc (s * (p + b + j)) = omega (arith, units, h, right, positive) in
    let small : b * n < suc (s * (p + b + j)) = lt_of_mul-lt-mul_left m below in
    omega (arith, small)

keeps-units : (link : Regulation) → IsBag link.bag_ms → (start taken : ℕ) (a : Charged)
    → keeps_window link start taken a ≡ true →
    byte_units * taken + byte_units * a.charge ≤ fill_rate link * (a.time - start) + cap link
keeps-units link is-bag start taken a h =
    let units : byte_units * (taken + a.charge) ≤ fill_rate link * (a.time - start) + cap link
    = into-units (128 / link.bag_ms) link.bag_ms link.smax (taken + a.charge) (a.time - start)
    (bag link) (jitter link) is-bag refl (leb-true _ _ h) in
    omega (arith, units)

units-keep : (link : Regulation) → IsBag link.bag_ms → (start taken : ℕ) (a : Charged) →
    byte_units * taken + byte_units * a.charge ≤ fill_rate link * (a.time - start) + cap link
    → keeps_window link start taken a ≡ true
units-keep link is-bag start taken a h =
    let units : byte_units * (taken + a.charge) ≤ fill_rate link * (a.time - start) + cap link = omega (arith, h) in
    le-leb _ _ (from-units (128 / link.bag_ms) link.bag_ms link.smax (taken + a.charge)
    (a.time - start) (bag link) (jitter link) is-bag refl units)

-- the window of a frame alone, in the account's units
alone-units : (link : Regulation) → IsBag link.bag_ms → (a : Charged) → keeps_window link a.time 0 a
    ≡ true → byte_units * a.charge ≤ cap link
alone-units link is-bag a h =
    let none : a.time - a.time ≡ 0 = omega arith in
    let kept = rw none at (keeps-units link is-bag a.time 0 a h) in
    omega (arith, kept)

-- the tests of all windows, in the account's units
keeps-windows : (link : Regulation) → IsBag link.bag_ms
    → (xs : List Charged) (taken : ℕ) (a : Charged) → keeps_windows link xs taken a ≡ true
    → EachWindow link xs taken a.time (byte_units * a.charge)
unfolding keeps_windows
keeps-windows link is-bag [] taken a h = tt
keeps-windows link is-bag (x ∷ xs) taken a h =
    let both : (keeps_window link x.time (taken + x.charge) a ≡ true)
    × (keeps_windows link xs (taken + x.charge) a ≡ true) = and_parts _ _ h in (
      keeps-units link is-bag x.time (taken + x.charge) a both.0,
      keeps-windows link is-bag xs (taken + x.charge) a both.1,
    )

windows-keep : (link : Regulation) → IsBag link.bag_ms
    → (xs : List Charged) (taken : ℕ) (a : Charged)
    → EachWindow link xs taken a.time (byte_units * a.charge) → keeps_windows link xs taken a ≡ true
unfolding keeps_windows
windows-keep link is-bag [] taken a h = refl
windows-keep link is-bag (x ∷ xs) taken a h =
    and_from _ _ (units-keep link is-bag x.time (taken + x.charge) a h.0)
    (windows-keep link is-bag xs (taken + x.charge) a h.1)

fits-has_room : (link : Regulation) → IsBag link.bag_ms → (xs : List Charged) (a : Charged)
    → fits link xs a ≡ true → missing link xs a.time + byte_units * a.charge ≤ cap link
fits-has_room link is-bag xs a h =
    let both : (keeps_window link a.time 0 a ≡ true) × (keeps_windows link xs 0 a ≡ true) = and_parts _ _ h in
    windows-overdrawn link xs 0 a.time (byte_units * a.charge) (alone-units link is-bag a both.0)
    (keeps-windows link is-bag xs 0 a both.1)

has_room-fits : (link : Regulation) → IsBag link.bag_ms → (xs : List Charged) (a : Charged)
    → missing link xs a.time + byte_units * a.charge ≤ cap link → fits link xs a ≡ true
has_room-fits link is-bag xs a h =
    and_from _ _ (units-keep link is-bag a.time 0 a (omega (arith, h)))
    (windows-keep link is-bag xs 0 a (overdrawn-windows link xs 0 a.time (byte_units * a.charge) h))

-- a frame fits by the window rule exactly if the account has room for its charge
pub fits-room : (link : Regulation) → IsTrue (is_bag link.bag_ms) → (accepted : List Charged) (a : Charged) →
    (fits link accepted a ≡ true) ↔ (missing link accepted a.time + byte_units * a.charge ≤ cap link)
fits-room link is-bag xs a = (
  fits-has_room link (is_bag-divides link.bag_ms is-bag) xs a,
  has_room-fits link (is_bag-divides link.bag_ms is-bag) xs a,
)

pub fits-level : (link : Regulation) → IsTrue (is_bag link.bag_ms)
    → (accepted : List Charged) (a : Charged) → 0 < a.charge →
    (fits link accepted a ≡ true) ↔ (byte_units * a.charge ≤ level link accepted a.time)
fits-level link is-bag xs a some =
    let room = fits-room link is-bag xs a in
    (λ h. omega (arith, room.0 h), λ h. room.1 (omega (arith, h, some)))

overdrawn-later : (link : Regulation) (xs : List Charged) (taken time later : ℕ)
    → All (λ x. x.time ≤ time) xs → time ≤ later →
    overdrawn link xs taken later ≡ overdrawn link xs taken time - fill_rate link * (later - time)
unfolding overdrawn
overdrawn-later link [] taken time later came h = omega arith
overdrawn-later link (x ∷ xs) taken time later came h =
    let first : x.time ≤ time = came 0 x (omega arith) in
    let gap : fill_rate link * (time - x.time) + fill_rate link * (later - time)
    ≡ fill_rate link * (later - x.time) = gap-add (fill_rate link) x.time time later first h in
    let rest : overdrawn link xs (taken + x.charge) later
    ≡ overdrawn link xs (taken + x.charge) time - fill_rate link * (later - time)
    = overdrawn-later link xs (taken + x.charge) time later (λ k d below. came (suc k) d (omega (arith, below))) h in
    omega (arith, gap, rest)

-- what is missing is filled as the time goes on
pub missing-later : (link : Regulation) (xs : List Charged) (time later : ℕ)
    → All (λ x. x.time ≤ time) xs → time ≤ later →
    missing link xs later ≡ missing link xs time - fill_rate link * (later - time)
missing-later link xs time later came h = overdrawn-later link xs 0 time later came h

-- `charge` bytes more after the windows
overdrawn-more : (link : Regulation) (xs : List Charged) (taken charge time : ℕ) →
    max (byte_units * charge) (overdrawn link xs (taken + charge) time)
    ≡ overdrawn link xs taken time + byte_units * charge
unfolding overdrawn
overdrawn-more link [] taken charge time = omega arith
overdrawn-more link (x ∷ xs) taken charge time =
    let order : taken + charge + x.charge ≡ taken + x.charge + charge = omega arith in
    let rest : max (byte_units * charge) (overdrawn link xs (taken + x.charge + charge) time)
    ≡ overdrawn link xs (taken + x.charge) time + byte_units * charge
    = overdrawn-more link xs (taken + x.charge) charge time in
    rw order (omega (arith, rest))

-- and what is missing grows by the charge of a frame that is accepted at that time
pub missing-accept : (link : Regulation) (xs : List Charged) (a : Charged) →
    missing link (a ∷ xs) a.time ≡ missing link xs a.time + byte_units * a.charge
unfolding overdrawn
missing-accept link xs a =
    let none : a.time - a.time ≡ 0 = omega arith in
    let more : max (byte_units * a.charge) (overdrawn link xs (0 + a.charge) a.time)
    ≡ overdrawn link xs 0 a.time + byte_units * a.charge = overdrawn-more link xs 0 a.charge a.time in
    rw none (omega (arith, more))
