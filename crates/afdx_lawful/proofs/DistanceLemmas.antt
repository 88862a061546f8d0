-- How far apart the frames of a right sender are stamped: copies are near, and frames that are far
-- from each other by their places aren't.
use Rattle.std.proofs.Common.{◌≡◌, ◌⊎◌, inl, inr, ℕ, zero, suc, ◌+◌, ◌*◌, ◌-◌, ◌/◌, ◌<◌, ◌≤◌, List, sym, ap, ◌∙◌, subst}
use Rattle.std.proofs.Common.{arith, drop, length, take}
use Rattle.std.proofs.Math.Nat.{div-mul-le_self, mul-le-mul_left, mul_comm}
use Rattle.std.proofs.lemmas.Nat.{le-div}
use Rattle.std.proofs.lemmas.List.{length-append, length-drop, length-take-le}
use Rattle.afdx_frame.specs.Regulation.{bag, jitter}
use Rattle.afdx_frame.specs.declared.link.Side.{Side}
use Rattle.afdx_frame.specs.declared.link.Side.TheVariants.{A, B}
use Rattle.afdx_config.specs.Numbers.{after_steps, next_number}
use Rattle.afdx_config.proofs.NumberLemmas.{steps_low}
use Rattle.afdx_conform.specs.Levels.{parts}
use Rattle.afdx_conform.specs.Right.{GoesOn, IsStamped}
use Rattle.afdx_conform.proofs.LevelLemmas.{bag-low}
use Rattle.afdx_police.specs.Rule.{regulation_of}
use Rattle.afdx_receive.proofs.StepsLemmas.{Where, where_steps}
use Rattle.std.proofs.lemmas.Bool.{cases_lt}
use Rattle.afdx_lawful.specs.Flaws.{common}
use Rattle.afdx_lawful.specs.Partners.{other}
use Rattle.afdx_lawful.specs.Right.{Sent}
use Rattle.afdx_lawful.specs.RightTwice.{AreSentTwice, IsInRange, IsRightTwice}
use Rattle.afdx_lawful.specs.Sources.{Came, Source, apart, apart_by, fast, hold, slip, slow}
use Rattle.afdx_lawful.proofs.RightLemmas.{IsBehind, more_behind, one_behind}

-- ---- numbers

steps_add : (m n from : ℕ) → after_steps (m + n) from ≡ after_steps m (after_steps n from)
unfolding after_steps
steps_add zero n from = ap (λ k. after_steps k from) (none n)
  where
    none : (n : ℕ) → 0 + n ≡ n
    none n = omega arith
steps_add (suc m) n from = ap (λ k. after_steps k from) (more m n) ∙ ap next_number (steps_add m n from)
  where
    more : (m n : ℕ) → suc m + n ≡ suc (m + n)
    more m n = omega arith

back_again : (d from : ℕ) → from ≤ 255 → 0 < d → after_steps d from ≡ from → 255 ≤ d
back_again d from low some back = by (cases_lt 255 d)
  where
    near : d ≤ 255 → (255 < from + d) ⊎ (from + d ≤ 255) → Where d from → 255 ≤ d
    near few (inl far) at = omega (arith, at.around far, back)
    near few (inr close) at = absurd (omega (arith, at.on close, back, some))

    by : (255 < d) ⊎ (d ≤ 255) → 255 ≤ d
    by (inl more) = omega (arith, more)
    by (inr few) = near few (cases_lt 255 (from + d)) (where_steps d from low few)

-- frames of two places with one number stand 255 places from each other, or more
pub same_number : (k m : ℕ) → k < m → after_steps k 0 ≡ after_steps m 0 → k + 255 ≤ m
same_number k m less same =
    let split : (m - k) + k ≡ m = omega (arith, less) in
    let back : after_steps (m - k) (after_steps k 0) ≡ after_steps k 0 =
    sym (steps_add (m - k) k 0) ∙ ap (λ n. after_steps n 0) split ∙ sym same in
    let far = back_again (m - k) (after_steps k 0) (steps_low k 0 (omega arith)) (omega (arith, less)) back in
    omega (arith, far, less)

-- so does a number that few steps lead to, of a frame that was sent before
pub few_steps : (k m steps : ℕ) → k < m → steps ≤ 45 → after_steps steps (after_steps m 0) ≡ after_steps k 0 →
    k + 210 ≤ m
few_steps k m steps less few leads =
    let far = same_number k (steps + m) (omega (arith, less)) (sym leads ∙ sym (steps_add steps m 0)) in
    omega (arith, far, few)

-- ---- lengths

common_long : (b : List ℕ) → 64 ≤ length b → length (common b) + 5 ≡ length b
common_long b long =
    let front : length (take 11 b) ≡ 11 = length-take-le 11 b (omega (arith, long)) in
    let rest : length (take (length b - 4) b) ≡ length b - 4 = length-take-le (length b - 4) b (omega arith) in
    let back : length (drop 12 (take (length b - 4) b)) ≡ length (take (length b - 4) b) - 12 =
    length-drop 12 (take (length b - 4) b) in
    let whole = length-append (take 11 b) (drop 12 (take (length b - 4) b)) in
    omega (arith, front, rest, back, whole, long)

pub same_long : (a b : List ℕ) → 64 ≤ length a → 64 ≤ length b → common a ≡ common b → length a ≡ length b
same_long a b long long' same =
    let here = common_long a long in
    let there = common_long b long' in
    omega (arith, here, there, ap length same)

-- ---- by stamps

div-less : (m n k : ℕ) → 0 < k → m ≤ n → m / k ≤ n / k
div-less m n k some le = let part = div-mul-le_self m k in le-div (m / k) n k some (omega (arith, part, le))

module _ (s : Source) (range : IsInRange s) where
  slow-low : 999000 ≤ slow s
  slow-low = omega (arith, range.leeway.drift)

  -- the greatest skew, by a recorder's clock
  abbrev longest : ℕ
  longest = parts * 100000000 / slow s

  longest-small : longest ≤ 100100101
  longest-small =
      let part : longest * slow s ≤ parts * 100000000 = div-mul-le_self (parts * 100000000) (slow s) in
      let low : longest * 999000 ≤ longest * slow s = mul-le-mul_left longest slow-low in
      omega (arith, part, low)

  apart-small : (x : Came) → apart s x ≤ longest
  apart-small x =
      div-less (parts * apart_by s s.given (length x.bytes)) (parts * 100000000) (slow s) (omega (arith, slow-low))
      (mul-le-mul_left parts (range.apart (length x.bytes)))

  pub apart-held : (x : Came) → apart s x + slip s ≤ hold s
  apart-held x = omega (arith, apart-small x)

  -- by so much may one moment be behind another, if the clock goes on by so much
  slow-moments : (a mx cx my cy : ℕ) → GoesOn s.by mx cx my cy → cy ≤ cx + a → my ≤ mx + parts * a / slow s
  slow-moments a mx cx my cy g near =
      let most : parts * (cy - cx) ≤ parts * a = mul-le-mul_left parts (omega (arith, near)) in
      let turn : (my - mx) * slow s ≡ slow s * (my - mx) = mul_comm (my - mx) (slow s) in
      let part = le-div (my - mx) (parts * a) (slow s) (omega (arith, slow-low))
      (omega (arith, turn, g.slowest, most)) in
      omega (arith, part, g.moments)

  -- a frame isn't stamped later than its copy by more than it may be
  near-behind : (x y : Sent) → IsStamped s.by.slack x.came.time x.moment → IsStamped s.by.slack y.came.time y.moment →
      y.clock ≤ x.clock + apart_by s s.given (length y.came.bytes) →
      GoesOn s.by x.moment x.clock y.moment y.clock ⊎ GoesOn s.by y.moment y.clock x.moment x.clock →
      y.came.time ≤ x.came.time + apart s y.came + slip s
  near-behind x y sx sy near (inl g) =
      let le = slow-moments (apart_by s s.given (length y.came.bytes)) x.moment x.clock y.moment y.clock g near in
      omega (arith, le, sx.early, sy.late)
  near-behind x y sx sy near (inr g) = omega (arith, g.moments, sx.early, sy.late)

  -- 210 gaps, but for the jitter, are longer than twice the greatest skew, as far as stamps and clocks tell
  long-gap : (n : ℕ) (v x : Sent) → IsBehind s n v x → v.clock ≤ v.release + jitter (regulation_of s.rule) →
      x.release ≤ x.clock → 210 ≤ n → v.moment + 208700000 ≤ x.moment
  long-gap n v x b soon released far =
      let gaps : bag (regulation_of s.rule) * 210 ≤ bag (regulation_of s.rule) * n =
      mul-le-mul_left (bag (regulation_of s.rule)) far in
      let some : 0 < s.rule.bag_ms = bag-low s.rule.bag_ms range.rule.bag in
      let clocks : v.clock + 209000000 ≤ x.clock =
      omega (arith, gaps, some, b.release, soon, released, range.rule.jitter) in
      let quick : (x.moment - v.moment) * fast s ≤ (x.moment - v.moment) * 1001000 =
      mul-le-mul_left (x.moment - v.moment) (omega (arith, range.leeway.drift)) in
      let turn : (x.moment - v.moment) * fast s ≡ fast s * (x.moment - v.moment) =
      mul_comm (x.moment - v.moment) (fast s) in
      omega (arith, clocks, quick, turn, b.fastest, b.moments)

module _ (s : Source) (xs : List Came) (range : IsInRange s) (r : IsRightTwice s xs) where
  pub copies-of : (side : Side) (k : ℕ) → k < r.count → AreSentTwice s (r.sent side k) (r.sent (other side) k)
  copies-of A k less = r.copies k less
  copies-of B k less = turned (r.copies k less)
    where
      turned : AreSentTwice s (r.sent A k) (r.sent B k) → AreSentTwice s (r.sent B k) (r.sent A k)
      turned h = record { same = sym h.same; x_soon = h.y_soon; y_soon = h.x_soon; goes_on = swapped h.goes_on }
        where
          swapped : {X Y : Type 0} → X ⊎ Y → Y ⊎ X
          swapped (inl x) = inr x
          swapped (inr y) = inl y

  -- the copy of a frame isn't stamped later by more than it may be
  pub copy-near : (side : Side) (k : ℕ) → k < r.count →
      (r.sent (other side) k).came.time
      ≤ (r.sent side k).came.time + apart s (r.sent (other side) k).came + slip s
  copy-near side k less =
      let c = copies-of side k less in
      near-behind s range (r.sent side k) (r.sent (other side) k) (r.lawful side k less).stamped
      (r.lawful (other side) k less).stamped c.y_soon c.goes_on

  pub long-on : (side : Side) (k : ℕ) → k < r.count → 64 ≤ length (r.sent side k).came.bytes
  long-on side k less = omega (arith, range.rule.shortest, (r.lawful side k less).frame.least)

  -- both may be as far apart as each other
  pub apart-same : (side : Side) (k : ℕ) → k < r.count →
      apart s (r.sent (other side) k).came ≡ apart s (r.sent side k).came
  apart-same side k less =
      ap (λ n. parts * apart_by s s.given n / slow s)
      (same_long (r.sent (other side) k).came.bytes (r.sent side k).came.bytes (long-on (other side) k less)
      (long-on side k less) (sym (copies-of side k less).same))

  chain : (side : Side) (d k m : ℕ) → k + suc d ≡ m → m < r.count → IsBehind s (suc d) (r.sent side k) (r.sent side m)
  chain side zero k m e less =
      let next : k + 1 ≡ m = omega (arith, e) in
      subst (λ (n : ℕ). IsBehind s 1 (r.sent side k) (r.sent side n)) next
      (one_behind s (r.sent side k) (r.sent side (k + 1)) (r.follow side k (omega (arith, e, less))))
  chain side (suc d) k m e less =
      let one : suc d + 1 ≡ suc (suc d) = omega arith in
      subst (λ (n : ℕ). IsBehind s n (r.sent side k) (r.sent side m)) one
      (more_behind s (suc d) (r.sent side k) (r.sent side (k + 1)) (r.sent side m)
      (r.follow side k (omega (arith, e, less))) (chain side d (k + 1) m (omega (arith, e)) less))

  behind-by : (side : Side) (k m : ℕ) → k < m → m < r.count → IsBehind s (m - k) (r.sent side k) (r.sent side m)
  behind-by side k m less within =
      let same : suc (m - k - 1) ≡ m - k = omega (arith, less) in
      subst (λ (n : ℕ). IsBehind s n (r.sent side k) (r.sent side m)) same
      (chain side (m - k - 1) k m (omega (arith, less)) within)

  -- a frame that stands 210 places behind another, on the other side, isn't near it
  pub far-behind : (side : Side) (k m : ℕ) → k + 210 ≤ m → m < r.count →
      (r.sent (other side) k).came.time + hold s < (r.sent side m).came.time
  far-behind side k m far within =
      let here = r.lawful side m within in
      let there = r.lawful side k (omega (arith, far, within)) in
      let near = copy-near side k (omega (arith, far, within)) in
      let most = apart-small s range (r.sent (other side) k).came in
      let gap = long-gap s range (m - k) (r.sent side k) (r.sent side m)
      (behind-by side k m (omega (arith, far)) within) there.soon here.released (omega (arith, far)) in
      let small = longest-small s range in
      omega (arith, here.stamped.early, there.stamped.late, near, most, gap, small, range.leeway.slack)
