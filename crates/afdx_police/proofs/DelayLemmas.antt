-- Frames that were accepted once are accepted later, where the jitter has room for their delay.
use Rattle.std.proofs.Common.{◌≡◌, ℕ, ◌+◌, ◌*◌, ◌-◌, ◌<◌, ◌≤◌, Bool, true, false, List, [], ◌∷◌, refl, ◌∙◌, ap, subst, arith}
use Rattle.std.specs.Prelude.{if◌then◌else◌}
use Rattle.std.proofs.Math.Nat.{mul-le-mul_left}
use Rattle.std.proofs.lemmas.Bool.{leb-true, le-leb, and_from, and_parts, cond-true}
use Rattle.afdx_frame.specs.Regulation.{Regulation, bag, jitter}
use Rattle.afdx_police.specs.Delayed.{HasRoom, IsDelayed, AreDelayed, IsRefusedLater}
use Rattle.afdx_police.specs.Window.{Charged, keeps_window, keeps_windows, fits, with_next, accepted_of}

-- each of these fits after those before it
abbrev pub AllFit : Regulation → List Charged → Type 0
AllFit link [] = Unit {0}
AllFit link (x ∷ past) = (fits link past x ≡ true) × AllFit link past

pub accepted-fit : (link : Regulation) (came : List Charged) → AllFit link (accepted_of link came)
unfolding accepted_of
accepted-fit link [] = tt
accepted-fit link (x ∷ past) = by (fits link (accepted_of link past) x) refl (accepted-fit link past)
  where
    by : (b : Bool) → fits link (accepted_of link past) x ≡ b → AllFit link (accepted_of link past)
        → AllFit link (if b then x ∷ accepted_of link past else accepted_of link past)
    by true fit rest = (fit, rest)
    by false fit rest = rest

pub fit-accepted : (link : Regulation) (xs : List Charged) → AllFit link xs → accepted_of link xs ≡ xs
unfolding accepted_of
fit-accepted link [] fit = refl
fit-accepted link (x ∷ past) fit =
    ap (λ (list : List Charged). with_next link list x) (fit-accepted link past fit.1)
    ∙ cond-true (fits link past x) (x ∷ past) past fit.0

-- over numbers: a window is at most the delay shorter
window-later : (delay b s c f t j taken b1 s1 c1 f1 t1 j1 taken1 : ℕ) → b1 ≡ b → s1 ≡ s → c1 ≡ c → taken1 ≡ taken
    → t ≤ t1 → f1 ≤ f + delay → j + delay ≤ j1 → b * (taken + c) ≤ s * ((t - f) + b + j)
    → b1 * (taken1 + c1) ≤ s1 * ((t1 - f1) + b1 + j1)
window-later delay b s c f t j taken b1 s1 c1 f1 t1 j1 taken1 eb es ec et later soon room h =
    let longer : (t - f) + b + j ≤ (t1 - f1) + b + j1 = omega (arith, later, soon, room) in
    let more : s * ((t - f) + b + j) ≤ s * ((t1 - f1) + b + j1) = mul-le-mul_left s longer in
    rw (eb, es, ec, et) (omega (arith, h, more))

module _ (delay : ℕ) (before next : Regulation) (room : HasRoom delay before next) where
  same-bag : bag next ≡ bag before
  same-bag = ap (λ n. 1000000 * n) room.bag_ms

  delayed-windows : (xs ys : List Charged) (taken taken1 : ℕ) (x y : Charged) → taken1 ≡ taken
      → AreDelayed delay xs ys → IsDelayed delay x y → keeps_windows before xs taken x ≡ true
      → keeps_windows next ys taken1 y ≡ true
  unfolding keeps_windows
  delayed-windows [] [] taken taken1 x y same are is h = refl
  delayed-windows [] (w ∷ ys) taken taken1 x y same are is h = absurd are
  delayed-windows (v ∷ xs) [] taken taken1 x y same are is h = absurd are
  delayed-windows (v ∷ xs) (w ∷ ys) taken taken1 x y same are is h =
      let both : (keeps_window before v.time (taken + v.charge) x ≡ true)
      × (keeps_windows before xs (taken + v.charge) x ≡ true) = and_parts _ _ h in
      let more : taken1 + w.charge ≡ taken + v.charge = rw (same, are.0.charge) refl in
      and_from _ _ (le-leb _ _
      (window-later delay (bag before) before.smax x.charge v.time x.time (jitter before) (taken + v.charge)
      (bag next) next.smax y.charge w.time y.time (jitter next) (taken1 + w.charge)
      same-bag room.smax is.charge more is.after are.0.within room.jitter (leb-true _ _ both.0)))
      (delayed-windows xs ys (taken + v.charge) (taken1 + w.charge) x y more are.1 is both.1)

  pub delayed-fits : (xs ys : List Charged) (x y : Charged) → AreDelayed delay xs ys → IsDelayed delay x y
      → fits before xs x ≡ true → fits next ys y ≡ true
  delayed-fits xs ys x y are is h =
      let both : (keeps_window before x.time 0 x ≡ true) × (keeps_windows before xs 0 x ≡ true) = and_parts _ _ h in
      and_from _ _ (le-leb _ _
      (window-later delay (bag before) before.smax x.charge x.time x.time (jitter before) 0
      (bag next) next.smax y.charge y.time y.time (jitter next) 0
      same-bag room.smax is.charge refl is.after is.within room.jitter (leb-true _ _ both.0)))
      (delayed-windows xs ys 0 0 x y refl are is both.1)

  pub delayed-fit : (xs ys : List Charged) → AreDelayed delay xs ys → AllFit before xs → AllFit next ys
  delayed-fit [] [] are fit = tt
  delayed-fit [] (y ∷ ys) are fit = absurd are
  delayed-fit (x ∷ xs) [] are fit = absurd are
  delayed-fit (x ∷ xs) (y ∷ ys) are fit = (delayed-fits xs ys x y are.1 are.0 fit.0, delayed-fit xs ys are.1 fit.1)

pub delayed-accepted : (delay : ℕ) (before next : Regulation) (came later : List Charged)
    → HasRoom delay before next → AreDelayed delay (accepted_of before came) later
    → accepted_of next later ≡ later
delayed-accepted delay before next came later room are =
    fit-accepted next later
    (delayed-fit delay before next room (accepted_of before came) later are (accepted-fit before came))

-- ---- the room is needed

-- over numbers: two frames of the greatest size, as close as the window rule lets them
close-enough : (b s j : ℕ) → j ≤ b → b * (0 + s + s) ≤ s * (((b - j) - 0) + b + j)
close-enough b s j small =
    let whole : ((b - j) - 0) + b + j ≡ b + b = omega (arith, small) in
    rw whole (omega arith)

too-close : (delay b s j b1 s1 j1 : ℕ) → 0 < s → b1 ≡ b → s1 ≡ s → j + delay ≤ b → j1 < j + delay
    → b1 * (0 + s + s) ≤ s1 * (((b - j) - delay) + b1 + j1) → ⊥
too-close delay b s j b1 s1 j1 some eb es fits short h =
    let same : b * (0 + s + s) ≤ s * (((b - j) - delay) + b + j1) = rw (eb, es) at h in
    let shorter : ((b - j) - delay) + b + j1 + 1 ≤ b + b = omega (arith, fits, short) in
    let more : s * (((b - j) - delay) + b + j1 + 1) ≤ s * (b + b) = mul-le-mul_left s shorter in
    omega (arith, some, same, more)

module _ (delay : ℕ) (before next : Regulation) (some : 0 < before.smax)
    (same_gap : next.bag_ms ≡ before.bag_ms) (same_size : next.smax ≡ before.smax)
    (fit : jitter before + delay ≤ bag before) (short : jitter next < jitter before + delay) where
  abbrev frame_at : ℕ → Charged
  frame_at time = record { time = time; charge = before.smax }

  abbrev came : List Charged
  came = frame_at (bag before - jitter before) ∷ frame_at 0 ∷ []

  abbrev later : List Charged
  later = frame_at (bag before - jitter before) ∷ frame_at delay ∷ []

  alone : (time : ℕ) → keeps_window before time 0 (frame_at time) ≡ true
  alone time =
      let none : time - time ≡ 0 = omega arith in
      le-leb _ _ (rw none (omega arith))

  both-fit : AllFit before came
  unfolding keeps_windows
  both-fit =
      let window : keeps_window before 0 (0 + before.smax) (frame_at (bag before - jitter before)) ≡ true =
      le-leb _ _ (close-enough (bag before) before.smax (jitter before) (omega (arith, fit))) in (
        and_from _ _ (alone (bag before - jitter before)) (and_from _ _ window refl),
        (and_from _ _ (alone 0) refl, tt),
      )

  refused : AllFit next later → ⊥
  unfolding keeps_windows
  refused all =
      let gap : bag next ≡ bag before = ap (λ n. 1000000 * n) same_gap in
      let window : bag next * (0 + before.smax + before.smax)
      ≤ next.smax * (((bag before - jitter before) - delay) + bag next + jitter next) =
      leb-true _ _ (and_parts _ _ (and_parts _ _ all.0).1).0 in
      too-close delay (bag before) before.smax (jitter before) (bag next) next.smax (jitter next) some gap
      same_size fit short window

  pub refused-later : IsRefusedLater delay before next
  refused-later = record {
    came = came;
    later = later;
    accepted = fit-accepted before came both-fit;
    delayed = (
      record { charge = refl; after = omega arith; within = omega arith },
      (record { charge = refl; after = omega arith; within = omega arith }, tt),
    );
    refused = λ same. refused (subst (AllFit next) same (accepted-fit next later));
  }
