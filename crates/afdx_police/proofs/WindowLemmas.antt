-- The test of all windows says that each one keeps the rule.
use Rattle.std.proofs.Common.{◌≡◌, ℕ, zero, suc, ◌+◌, ◌*◌, ◌-◌, ◌<◌, ◌≤◌, ◌↔◌, true, List, [], ◌∷◌}
use Rattle.std.proofs.Common.{length, take, refl, arith, add-one}
use Rattle.std.specs.Prelude.{slice_index_or}
use Rattle.std.proofs.lemmas.Bool.{leb-true, le-leb, and_from, and_parts}
use Rattle.std.proofs.lemmas.List.Sums.{sum_by-cons}
use Rattle.afdx_frame.specs.Regulation.{Regulation, bag, jitter}
use Rattle.afdx_police.specs.Window.{Charged, total_charge, keeps_window, keeps_windows, fits, Fits}

-- the windows that begin with one of these, after which frames of `taken` bytes came
abbrev Windows : Regulation → List Charged → ℕ → Charged → Type 0
Windows link xs taken a = (k : ℕ) → k < length xs →
    bag link * (taken + total_charge (take (suc k) xs) + a.charge)
    ≤ link.smax * ((a.time - (slice_index_or xs k a).time) + bag link + jitter link)

-- a window of one frame more
total-more : (taken : ℕ) (x : Charged) (xs : List Charged) → taken + total_charge (x ∷ xs)
    ≡ taken + x.charge + total_charge xs
total-more taken x xs = rw (sum_by-cons (λ (y : Charged). y.charge) x xs) (omega arith)

total-one : (taken : ℕ) (x : Charged) → taken + total_charge (x ∷ []) ≡ taken + x.charge
total-one taken x = omega arith

each-window : (link : Regulation) (xs : List Charged) (taken : ℕ) (a : Charged)
    → keeps_windows link xs taken a ≡ true → Windows link xs taken a
unfolding keeps_windows
each-window link [] taken a h k below = absurd (omega (arith, below))
each-window link (x ∷ xs) taken a h zero below =
    let both : (keeps_window link x.time (taken + x.charge) a ≡ true)
    × (keeps_windows link xs (taken + x.charge) a ≡ true) = and_parts _ _ h in
    rw (total-one taken x) (leb-true _ _ both.0)
each-window link (x ∷ xs) taken a h (suc k) below =
    let both : (keeps_window link x.time (taken + x.charge) a ≡ true)
    × (keeps_windows link xs (taken + x.charge) a ≡ true) = and_parts _ _ h in
    rw (total-more taken x (take (suc k) xs)) (each-window link xs (taken + x.charge) a both.1 k (omega (arith, below)))

windows-each : (link : Regulation) (xs : List Charged) (taken : ℕ) (a : Charged)
    → Windows link xs taken a → keeps_windows link xs taken a ≡ true
unfolding keeps_windows
windows-each link [] taken a h = refl
windows-each link (x ∷ xs) taken a h =
    and_from _ _ (le-leb _ _ (rw (total-one taken x) at (h 0 (omega arith))))
    (windows-each link xs (taken + x.charge) a
    (λ k below. rw (total-more taken x (take (suc k) xs)) at (h (suc k) (omega (arith, below)))))

-- the window of a frame alone
alone-window : (link : Regulation) (a : Charged) → keeps_window link a.time 0 a ≡ true
    → bag link * a.charge ≤ link.smax * (bag link + jitter link)
alone-window link a h =
    let none : a.time - a.time ≡ 0 = omega arith in
    let alone = rw none at (leb-true _ _ h) in
    omega (arith, alone)

window-alone : (link : Regulation) (a : Charged)
    → bag link * a.charge ≤ link.smax * (bag link + jitter link) → keeps_window link a.time 0 a ≡ true
window-alone link a h =
    let none : a.time - a.time ≡ 0 = omega arith in
    le-leb _ _ (rw none (omega (arith, h)))

-- a window's number of frames, said in two ways
counted : (link : Regulation) (xs : List Charged) (a : Charged) (k : ℕ) →
    bag link * (0 + total_charge (take (suc k) xs) + a.charge)
    ≤ link.smax * ((a.time - (slice_index_or xs k a).time) + bag link + jitter link) →
    bag link * (total_charge (take (k + 1) xs) + a.charge)
    ≤ link.smax * ((a.time - (slice_index_or xs k a).time) + bag link + jitter link)
counted link xs a k h = rw (add-one k) (omega (arith, h))

recounted : (link : Regulation) (xs : List Charged) (a : Charged) (k : ℕ) →
    bag link * (total_charge (take (k + 1) xs) + a.charge)
    ≤ link.smax * ((a.time - (slice_index_or xs k a).time) + bag link + jitter link) →
    bag link * (0 + total_charge (take (suc k) xs) + a.charge)
    ≤ link.smax * ((a.time - (slice_index_or xs k a).time) + bag link + jitter link)
recounted link xs a k h = let g = rw (add-one k) at h in omega (arith, g)

pub fits-Fits : (link : Regulation) (xs : List Charged) (a : Charged) → (fits link xs a ≡ true) ↔ Fits link xs a
fits-Fits link xs a = (there, back)
  where
    there : fits link xs a ≡ true → Fits link xs a
    there h =
        let both : (keeps_window link a.time 0 a ≡ true) × (keeps_windows link xs 0 a ≡ true) = and_parts _ _ h in
        record {
          alone = alone-window link a both.0;
          windows = λ k below. counted link xs a k (each-window link xs 0 a both.1 k below);
        }

    back : Fits link xs a → fits link xs a ≡ true
    back h = and_from _ _ (window-alone link a h.alone)
        (windows-each link xs 0 a (λ k below. recounted link xs a k (h.windows k below)))
