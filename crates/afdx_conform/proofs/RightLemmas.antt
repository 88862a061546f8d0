-- A right switch is explained.
use Rattle.std.proofs.Common.{◌≡◌, ℕ, suc, ◌+◌, ◌*◌, ◌-◌, ◌/◌, ◌<◌, ◌≤◌, max, Bool, true, false, ◌&&◌, List, [], ◌∷◌, ◌++◌, map, length, refl, sym, ap, ◌∙◌, subst, arith}
use Rattle.std.proofs.Math.Nat.{mul-le-mul_left, le_of_mul-le-mul_left, mul-sub, lt_of_mul-lt-mul_left}
use Rattle.std.proofs.lemmas.Nat.{le-div}
use Rattle.std.proofs.lemmas.Grind.{div_ceil_times}
use Rattle.std.proofs.lemmas.Bool.{leb-true, le-leb, leb-false, lt-leb, and_from, lt-ltb}
use Rattle.std.proofs.lemmas.Slice.Eq.{bytes_eq-Decides}
use Rattle.std.specs.Prelude.{IsTrue, nat_le, if◌then◌else◌, Option, Some, None}
use Rattle.std.specs.Int.{div_ceil}
use Rattle.std.specs.List.{AllByRecursion}
use Rattle.std.proofs.lemmas.List.Elements.{All-from_recursion}
use Rattle.std.specs.Str.{bytes_eq}
use Rattle.afdx_frame.specs.Regulation.{Regulation, bag, jitter, byte_units, cap, fill_rate, is_bag}
use Rattle.afdx_police.specs.Account.{missing, overdrawn}
use Rattle.afdx_police.specs.Arrival.{Arrival}
use Rattle.afdx_police.specs.Window as window
use Rattle.afdx_police.specs.Window.{Charged}
use Rattle.afdx_conform.specs.Leeway.{Leeway, reach, account_slip}
use Rattle.afdx_conform.specs.Levels.{Levels, parts, first_levels, may_pass, has_to_pass, charged, refused, later, full, cost, fast_slip, slow_slip, fastest, slowest}
use Rattle.afdx_conform.specs.Streams.{Gone, Terms, fits, is_open, is_begun, is_begun_by, is_no_sooner, is_in_time, wire_time, latency}
use Rattle.afdx_conform.specs.Explanations.{accepted_in, arrivals_in, from_time, link, charge, levels_by, levels_after, IsAllowed, AreAllowed, ArePairs}
use Rattle.afdx_conform.specs.Right.{Asked, Comes, IsStamped, GoesOn, seen, accepted_after, is_accepted, answers_of, accepted_asked, IsFirst, IsFrom, GoByClock, LeavesAs, LeavesLater, IsUnseen, EachLeaves, AllLeaveLater, RightIsExplained}
use Rattle.afdx_conform.proofs.ExactLemmas.{IsLevel, level-later, tests-same, charged-is, units, positive, full-number}

-- ---- over numbers

split : (a x g : ℕ) → a * (x + g) ≡ a * x + a * g
split a x g = grind arith

lower-move : (a lo l f x d y g : ℕ) → lo ≤ l + a * x → f ≤ a * d → x + d ≡ y + g → lo - a * g ≤ (l - f) + a * y
lower-move a lo l f x d y g h k e =
    let one = split a x d in
    let two = split a y g in
    let same : a * (x + d) ≡ a * (y + g) = ap (λ n. a * n) e in
    omega (arith, h, k, one, two, same)

upper-move : (b hi l f x d y g : ℕ) → l ≤ hi - b * x → b * d ≤ f → x + d ≡ y + g → l - f ≤ (hi - b * g) - b * y
upper-move b hi l f x d y g h k e =
    let one = split b x d in
    let two = split b y g in
    let same : b * (x + d) ≡ b * (y + g) = ap (λ n. b * n) e in
    omega (arith, h, k, one, two, same)

turn3 : (q m d : ℕ) → q * m * d ≡ q * (m * d)
turn3 q m d = grind arith

scaled : (q m p d e : ℕ) → m * d ≤ p * e → q * m * d ≤ q * p * e
scaled q m p d e h =
    let up : q * (m * d) ≤ q * (p * e) = mul-le-mul_left q h in
    let one = turn3 q m d in
    let two = turn3 q p e in
    omega (arith, up, one, two)

-- ---- a level that is within its bounds

-- the account is asked about the time of the stamp
record IsNear (by : Leeway) (stamp moment : ℕ) : Type 0 where
  pub late : stamp ≤ moment + by.slack
  pub early : moment ≤ stamp + by.slack + by.asked

near : (by : Leeway) (x : Asked) → Comes by x → IsNear by x.arrival.time x.asked_at
near by x h =
    let late = h.stamped.late in
    let early = h.stamped.early in
    let after = h.not_before in
    let soon = h.soon in
    record { late = omega (arith, late, after); early = omega (arith, early, soon) }

-- the true level, between the bounds of levels of this stamp, at this moment
record IsWithin (l : Regulation) (by : Leeway) (level : ℕ) (levels : Levels) (stamp moment : ℕ) : Type 0 where
  pub lower : levels.lo ≤ level + fastest l by * (moment + by.slack - stamp)
  pub upper : level ≤ levels.hi - slowest l by * (moment + by.slack - stamp)

module _ (l : Regulation) (is : IsTrue (is_bag l.bag_ms)) (by : Leeway) where
  within-later : (level : ℕ) (levels : Levels) (stamp moment clock stamp1 moment1 clock1 : ℕ)
      → IsNear by stamp moment → IsNear by stamp1 moment1 → stamp ≤ stamp1
      → GoesOn by moment clock moment1 clock1 → IsWithin l by level levels stamp moment
      → IsWithin l by (level - l.smax * 1000000 * (clock1 - clock)) (later l by (stamp1 - stamp) levels) stamp1 moment1
  within-later level levels stamp moment clock stamp1 moment1 clock1 at at1 order on w =
      let late = at.late in
      let late1 = at1.late in
      let moments = on.moments in
      let same : (moment + by.slack - stamp) + (moment1 - moment) ≡ (moment1 + by.slack - stamp1) + (stamp1 - stamp)
      = omega (arith, late, late1, moments, order) in
      record {
        lower = lower-move (fastest l by) levels.lo level (l.smax * 1000000 * (clock1 - clock))
            (moment + by.slack - stamp) (moment1 - moment) (moment1 + by.slack - stamp1) (stamp1 - stamp) w.lower
            (scaled l.smax 1000000 (1000000 + by.drift) (clock1 - clock) (moment1 - moment) on.fastest) same;
        upper = upper-move (slowest l by) levels.hi level (l.smax * 1000000 * (clock1 - clock))
            (moment + by.slack - stamp) (moment1 - moment) (moment1 + by.slack - stamp1) (stamp1 - stamp) w.upper
            (scaled l.smax (1000000 - by.drift) 1000000 (moment1 - moment) (clock1 - clock) on.slowest) same;
      }

  module _ (level c stamp moment : ℕ) (levels : Levels) (at : IsNear by stamp moment)
      (w : IsWithin l by level levels stamp moment) where
    fast-within : fastest l by * (moment + by.slack - stamp) ≤ fast_slip l by
    fast-within = let early = at.early in mul-le-mul_left (fastest l by) (omega (arith, early))

    slow-within : slowest l by * (moment + by.slack - stamp) ≤ slow_slip l by
    slow-within = let early = at.early in mul-le-mul_left (slowest l by) (omega (arith, early))

    -- it had room: it may pass
    may-within : level + cost l by c ≤ full l by → IsTrue (may_pass l by c levels)
    may-within room = let lower = w.lower in let slip = fast-within in
        le-leb (levels.lo + cost l by c) (full l by + fast_slip l by) (omega (arith, room, lower, slip))

    -- it had none: it doesn't have to pass
    must-within : full l by < level + cost l by c → has_to_pass l by c levels ≡ false
    must-within none = let upper = w.upper in
        lt-leb (levels.hi + cost l by c) (full l by) (omega (arith, none, upper))

    charged-within : level + cost l by c ≤ full l by → IsWithin l by (level + cost l by c) (charged l by c levels)
        stamp moment
    charged-within room =
        let lower = w.lower in
        let upper = w.upper in
        let slip = slow-within in
        record { lower = omega (arith, lower); upper = omega (arith, room, upper, slip) }

    refused-within : full l by < level + cost l by c → IsWithin l by level (refused l by c levels) stamp moment
    refused-within none =
        let lower = w.lower in
        record { lower = omega (arith, lower, none); upper = w.upper }

-- ---- the account in whole units of a level

greater : (k a b : ℕ) → k * max a b ≡ max (k * a) (k * b)
greater k a b = grind (arith, mul-le-mul_left)

loads : (k b n : ℕ) → k * (b * n) ≡ k * b * n
loads k b n = grind arith

fills : (k q g : ℕ) → k * (q * g) ≡ q * k * g
fills k q g = grind arith

module _ (l : Regulation) (is : IsTrue (is_bag l.bag_ms)) where
  lack-of : List Charged → ℕ → ℕ → ℕ
  lack-of [] taken time = 0
  lack-of (x ∷ before) taken time =
      max (bag l * (taken + x.charge) - l.smax * (time - x.time)) (lack-of before (taken + x.charge) time)

  lacks : (xs : List Charged) (taken time : ℕ) → overdrawn l xs taken time ≡ (128 / l.bag_ms) * lack-of xs taken time
  unfolding overdrawn lack-of
  lacks [] taken time = omega arith
  lacks (x ∷ xs) taken time =
      let k : ℕ = 128 / l.bag_ms in
      let n : ℕ = taken + x.charge in
      let g : ℕ = time - x.time in
      let rest : overdrawn l xs (taken + x.charge) time ≡ (128 / l.bag_ms) * lack-of xs (taken + x.charge) time
      = lacks xs (taken + x.charge) time in
      let loaded : (128 / l.bag_ms) * (bag l * (taken + x.charge)) ≡ byte_units * (taken + x.charge)
      = loads (128 / l.bag_ms) (bag l) (taken + x.charge) ∙ ap (λ m. m * (taken + x.charge)) (units l is 0) in
      let filled : (128 / l.bag_ms) * (l.smax * (time - x.time)) ≡ fill_rate l * (time - x.time)
      = fills (128 / l.bag_ms) l.smax (time - x.time) in
      let less = mul-sub (128 / l.bag_ms) (bag l * (taken + x.charge)) (l.smax * (time - x.time)) in
      let most = greater (128 / l.bag_ms) (bag l * (taken + x.charge) - l.smax * (time - x.time))
      (lack-of xs (taken + x.charge) time) in
      omega (arith, rest, loaded, filled, less, most)

  -- what is missing is a level
  whole-level : (xs : List Charged) (time : ℕ) → IsLevel l is 0 xs time (1000000 * lack-of xs 0 time)
  whole-level xs time =
      let e = lacks xs 0 time in
      turn-two (128 / l.bag_ms) (lack-of xs 0 time) ∙ ap (λ n. 1000000 * n) (sym e)
    where
      turn-two : (k n : ℕ) → k * (1000000 * n) ≡ 1000000 * (k * n)
      turn-two k n = grind arith

  -- an account that holds its cap has a level of at most a full one
  whole-full : (by : Leeway) (xs : List Charged) (time : ℕ) → missing l xs time ≤ cap l → 1000000 * lack-of xs 0 time
      ≤ full l by
  whole-full by xs time h =
      let e = whole-level xs time in
      let f = full-number (128 / l.bag_ms) 1000000 l.smax (bag l + jitter l) in
      let up : 1000000 * missing l xs time ≤ 1000000 * cap l = mul-le-mul_left 1000000 h in
      let below : (128 / l.bag_ms) * (1000000 * lack-of xs 0 time) ≤ (128 / l.bag_ms) * full l by =
      omega (arith, up, e, f) in
      le_of_mul-le-mul_left below (positive l is 0)

-- ---- over what came

later-came : (time later : ℕ) (xs : List Charged) → time ≤ later → AllByRecursion (λ c. c.time ≤ time) xs
    → AllByRecursion (λ c. c.time ≤ later) xs
later-came time later [] h all = tt
later-came time later (x ∷ xs) h all = (let a = all.0 in omega (arith, a, h), later-came time later xs h all.1)

module _ (z : Terms) (is : IsTrue (is_bag z.rule.bag_ms)) where
  -- the switch's level when an arrival comes, these levels and what was accepted before
  record Stands (acc : List Charged) (clock stamp moment : ℕ) (levels : Levels) : Type 0 where
    pub level : ℕ
    pub exact : IsLevel (link z) is 0 acc clock level
    pub came : AllByRecursion (λ c. c.time ≤ clock) acc
    pub within : IsWithin (link z) z.by level levels stamp moment

  -- a step to the next arrival
  stands-later : (acc : List Charged) (clock stamp moment clock1 stamp1 moment1 : ℕ) (levels : Levels)
      → Stands acc clock stamp moment levels → IsNear z.by stamp moment → IsNear z.by stamp1 moment1 → stamp ≤ stamp1
      → GoesOn z.by moment clock moment1 clock1
      → Stands acc clock1 stamp1 moment1 (later (link z) z.by (stamp1 - stamp) levels)
  stands-later acc clock stamp moment clock1 stamp1 moment1 levels s at at1 order on = record {
    level = s.level - (link z).smax * 1000000 * (clock1 - clock);
    exact = level-later (link z) is 0 acc clock clock1 s.level
        (All-from_recursion (λ (c : Charged). c.time ≤ clock) acc s.came) on.clocks s.exact;
    came = later-came clock clock1 acc on.clocks s.came;
    within = within-later (link z) is z.by s.level levels stamp moment clock stamp1 moment1 clock1 at at1 order on
        s.within;
  }

  -- the first arrival, after a reset or from the start
  stands-first : (start : Option ℕ) (first : List Charged) (moment clock : ℕ) (x : Asked)
      → IsFirst z start first moment clock → GoesOn z.by moment clock x.asked_at x.asked_clock
      → IsNear z.by x.arrival.time x.asked_at
      → IsFrom z start x.arrival.time
      → Stands first x.asked_clock x.arrival.time x.asked_at
      (later (link z) z.by (x.arrival.time - from_time start) (first_levels (link z) z.by start))
  unfolding overdrawn
  stands-first None first moment clock x none on at from =
      subst (λ (acc : List Charged). Stands acc x.asked_clock x.arrival.time x.asked_at
      (later (link z) z.by (x.arrival.time - from_time None) (first_levels (link z) z.by None))) (sym none) (record {
        level = 0;
        exact = nothing;
        came = tt;
        within = record { lower = omega arith; upper = omega arith };
      })
    where
      nothing : IsLevel (link z) is 0 [] x.asked_clock 0
      nothing = omega arith
  stands-first (Some start) first moment clock x is_first on at from =
      let level0 : ℕ = 1000000 * lack-of (link z) is first 0 clock in
      let low = whole-full (link z) is z.by first clock is_first.1 in
      let moments = on.moments in
      let late = at.late in
      let early = is_first.0 in
      let span : (x.arrival.time - start) + (x.asked_at + z.by.slack - x.arrival.time) ≤ (x.asked_at - moment)
      + account_slip z.by
      = omega (arith, moments, late, early, from) in
      let more = mul-le-mul_left (slowest (link z) z.by) span in
      let one = split (slowest (link z) z.by) (x.arrival.time - start) (x.asked_at + z.by.slack - x.arrival.time) in
      let two = split (slowest (link z) z.by) (x.asked_at - moment) (account_slip z.by) in
      let drained = scaled (link z).smax (1000000 - z.by.drift) 1000000 (x.asked_at - moment) (x.asked_clock - clock)
      on.slowest in
      record {
        level = 1000000 * lack-of (link z) is first 0 clock - (link z).smax * 1000000 * (x.asked_clock - clock);
        exact = level-later (link z) is 0 first clock x.asked_clock (1000000 * lack-of (link z) is first 0 clock)
            (All-from_recursion (λ (c : Charged). c.time ≤ clock) first is_first.2) on.clocks
            (whole-level (link z) is first clock);
        came = later-came clock x.asked_clock first on.clocks is_first.2;
        within = record { lower = omega arith; upper = omega (arith, low, more, one, two, drained) };
      }

  abbrev if-accepted : Bool → List Charged → Asked → List Charged
  if-accepted b acc x = if b then seen z x ∷ acc else acc

  -- what is known once an arrival was answered
  record Answers (first : List Charged) (x : Asked) (before : List Asked) : Type 0 where
    pub stands : Stands (accepted_after z first (x ∷ before)) x.asked_clock x.arrival.time x.asked_at
        (levels_after z (answers_of z first (x ∷ before)))
    pub allowed : AreAllowed z (answers_of z first (x ∷ before))

  module _ (acc : List Charged) (x : Asked) (levels : Levels) (at : IsNear z.by x.arrival.time x.asked_at)
      (s : Stands acc x.asked_clock x.arrival.time x.asked_at levels) where
    abbrev room : Bool
    room = nat_le (s.level + cost (link z) z.by (charge z x.arrival)) (full (link z) z.by)

    room-is : room ≡ window.fits (link z) acc (seen z x)
    room-is = tests-same (link z) is 0 acc (seen z x) s.level s.exact

    answered-so : (b : Bool) → window.fits (link z) acc (seen z x) ≡ b
        → Stands (if-accepted b acc x) x.asked_clock x.arrival.time x.asked_at (levels_by z b x.arrival levels)
        × IsAllowed z levels b x.arrival
    answered-so true e =
        let h : s.level + cost (link z) z.by (charge z x.arrival) ≤ full (link z) z.by
        = leb-true (s.level + cost (link z) z.by (charge z x.arrival)) (full (link z) z.by) (room-is ∙ e) in (
          record {
            level = s.level + cost (link z) z.by (charge z x.arrival);
            exact = charged-is (link z) is 0 acc (seen z x) s.level s.exact;
            came = (omega arith, s.came);
            within = charged-within (link z) is z.by s.level (charge z x.arrival) x.arrival.time x.asked_at levels at
                s.within h;
          },
          may-within (link z) is z.by s.level (charge z x.arrival) x.arrival.time x.asked_at levels at s.within h,
        )
    answered-so false e =
        let h : full (link z) z.by < s.level + cost (link z) z.by (charge z x.arrival)
        = leb-false (s.level + cost (link z) z.by (charge z x.arrival)) (full (link z) z.by) (room-is ∙ e) in (
          record {
            level = s.level;
            exact = s.exact;
            came = s.came;
            within = refused-within (link z) is z.by s.level (charge z x.arrival) x.arrival.time x.asked_at levels at
                s.within h;
          },
          must-within (link z) is z.by s.level (charge z x.arrival) x.arrival.time x.asked_at levels at s.within h,
        )

  answers-first : (first : List Charged) (moment clock : ℕ) (x : Asked) → IsFirst z z.by.start first moment clock
      → GoByClock z moment clock (x ∷ []) → Answers first x []
  unfolding GoByClock accepted_after answers_of levels_after AreAllowed arrivals_in
  answers-first first moment clock x is_first go =
      let stands = stands-first z.by.start first moment clock x is_first go.0 (near z.by x go.1) go.2 in
      let answer = answered-so first x (later (link z) z.by (x.arrival.time - from_time z.by.start)
      (first_levels (link z) z.by
      z.by.start))
      (near z.by x go.1) stands (is_accepted z first [] x) refl in
      record { stands = answer.0; allowed = (answer.1, tt) }

  answers-next : (first : List Charged) (moment clock : ℕ) (x w : Asked) (before : List Asked)
      → GoByClock z moment clock (x ∷ w ∷ before) → IsNear z.by w.arrival.time w.asked_at → Answers first w before
      → Answers first x (w ∷ before)
  unfolding GoByClock accepted_after answers_of levels_after AreAllowed arrivals_in
  answers-next first moment clock x w before go at so_far =
      let stands = stands-later (accepted_after z first (w ∷ before)) w.asked_clock w.arrival.time w.asked_at
      x.asked_clock x.arrival.time x.asked_at
      (levels_after z (answers_of z first (w ∷ before))) so_far.stands at (near z.by x go.1) go.2 go.0 in
      let answer = answered-so (accepted_after z first (w ∷ before)) x
      (later (link z) z.by (x.arrival.time - w.arrival.time) (levels_after z (answers_of z first (w ∷ before))))
      (near z.by x go.1) stands (is_accepted z first (w ∷ before) x) refl in
      record { stands = answer.0; allowed = (answer.1, so_far.allowed) }

  stamped-of : (moment clock : ℕ) (x : Asked) (before : List Asked) → GoByClock z moment clock (x ∷ before)
      → IsNear z.by x.arrival.time x.asked_at
  unfolding GoByClock
  stamped-of moment clock x [] go = near z.by x go.1
  stamped-of moment clock x (w ∷ before) go = near z.by x go.1

  answers-all : (first : List Charged) (moment clock : ℕ) (x : Asked) (before : List Asked)
      → IsFirst z z.by.start first moment clock
      → GoByClock z moment clock (x ∷ before) → Answers first x before
  unfolding GoByClock
  answers-all first moment clock x [] is_first go = answers-first first moment clock x is_first go
  answers-all first moment clock x (w ∷ before) is_first go =
      answers-next first moment clock x w before go (stamped-of moment clock w before go.3)
      (answers-all first moment clock w before is_first go.3)

  allowed-all : (first : List Charged) (moment clock : ℕ) (asked : List Asked) → IsFirst z z.by.start first moment clock
      → GoByClock z moment clock asked → AreAllowed z (answers_of z first asked)
  unfolding answers_of AreAllowed
  allowed-all first moment clock [] is_first go = tt
  allowed-all first moment clock (x ∷ before) is_first go =
      (answers-all first moment clock x before is_first go).allowed

-- ---- frames

swap : (a b : ℕ) → a * b ≡ b * a
swap a b = grind arith

ceil-le : (n m d : ℕ) → 0 < d → n ≤ d * m → div_ceil n d ≤ m
ceil-le n m d some h =
    let near = (div_ceil_times n d some).1 in
    let turned = swap (div_ceil n d) d in
    let more : d * suc m ≡ d * m + d = grind arith in
    let below : d * div_ceil n d < d * suc m = omega (arith, near, h, turned, more) in
    let less : div_ceil n d < suc m = lt_of_mul-lt-mul_left d below in
    omega (arith, less)

module _ (z : Terms) (slow : z.by.drift < parts) where
  -- by the recorder's clock
  spent : (x : Asked) (y : Gone) (h : LeavesAs z x y) → (wire_time z x.arrival.bytes ≤ h.moment - x.moment)
      × (h.moment - x.moment ≤ latency z)
  spent x y h =
      let sooner = h.no_sooner in
      let in_time = h.in_time in
      let on = h.goes_on in
      let fastest = on.fastest in
      let slowest = on.slowest in
      let wire : (length x.arrival.bytes + 8) * z.byte_ns ≤ h.clock - x.clock = omega (arith, sooner) in
      let wires : 1000000 * ((length x.arrival.bytes + 8) * z.byte_ns) ≤ 1000000 * (h.clock - x.clock) =
      mul-le-mul_left 1000000 wire in
      let late : h.clock - x.clock ≤ z.latency_ns + z.by.inner = omega (arith, in_time) in
      let lates : 1000000 * (h.clock - x.clock) ≤ 1000000 * (z.latency_ns + z.by.inner) = mul-le-mul_left 1000000 late
      in
      let turned = swap (h.moment - x.moment) (1000000 - z.by.drift) in (
        ceil-le (1000000 * ((length x.arrival.bytes + 8) * z.byte_ns)) (h.moment - x.moment) (1000000 + z.by.drift)
            (omega arith) (omega (arith, wires, fastest)),
        le-div (h.moment - x.moment) (1000000 * (z.latency_ns + z.by.inner)) (1000000 - z.by.drift)
            (omega (arith, slow)) (omega (arith, lates, slowest, turned)),
      )

  leaves-fits : (x : Asked) (y : Gone) → IsStamped z.by.slack x.arrival.time x.moment → LeavesAs z x y
      → IsTrue (fits z x.arrival y)
  unfolding fits
  leaves-fits x y at h =
      let span = spent x y h in
      let quick = span.0 in
      let slowly = span.1 in
      let moments = h.goes_on.moments in
      let late = at.late in
      let early = at.early in
      let late1 = h.stamped.late in
      let early1 = h.stamped.early in
      and_from (bytes_eq x.arrival.bytes y.bytes && is_no_sooner z x.arrival y) (is_in_time z x.arrival y)
      (and_from (bytes_eq x.arrival.bytes y.bytes) (is_no_sooner z x.arrival y)
      ((bytes_eq-Decides x.arrival.bytes y.bytes).1 h.bytes)
      (le-leb (x.arrival.time + wire_time z x.arrival.bytes) (y.time + reach z.by)
      (omega (arith, quick, moments, late, early1))))
      (le-leb y.time (x.arrival.time + latency z + reach z.by)
      (omega (arith, slowly, moments, early, late1)))

  later-open : (x : Asked) → IsStamped z.by.slack x.arrival.time x.moment → LeavesLater z x
      → IsTrue (is_open z x.arrival)
  unfolding is_open
  later-open x at h =
      let span = spent x h.frame h.leaves in
      let slowly = span.1 in
      let moments = h.leaves.goes_on.moments in
      let early = at.early in
      let late1 = h.leaves.stamped.late in
      let unseen = h.unseen in
      lt-ltb z.until (x.arrival.time + latency z + reach z.by + reach z.by)
      (omega (arith, slowly, moments, early, late1, unseen))

-- ---- all of it

answers-arrivals : (z : Terms) (first : List Charged) (asked : List Asked)
    → arrivals_in (answers_of z first asked) ≡ map (λ x. x.arrival) asked
unfolding answers_of arrivals_in
answers-arrivals z first [] = refl
answers-arrivals z first (x ∷ before) = ap (λ (l : List Arrival). x.arrival ∷ l) (answers-arrivals z first before)

answers-accepted : (z : Terms) (first : List Charged) (asked : List Asked)
    → accepted_in (answers_of z first asked) ≡ map (λ x. x.arrival) (accepted_asked z first asked)
unfolding answers_of accepted_in accepted_asked
answers-accepted z first [] = refl
answers-accepted z first (x ∷ before) = by (is_accepted z first before x) (answers-accepted z first before)
  where
    by : (b : Bool) → accepted_in (answers_of z first before) ≡ map (λ x. x.arrival) (accepted_asked z first before)
        → (if b then x.arrival ∷ accepted_in (answers_of z first before) else accepted_in (answers_of z first before))
        ≡ map (λ x. x.arrival) (if b then x ∷ accepted_asked z first before else accepted_asked z first before)
    by true e = ap (λ (l : List Arrival). x.arrival ∷ l) e
    by false e = e

-- all of these are stamped
abbrev AreStamped : Terms → List Asked → Type 0
AreStamped z xs = AllByRecursion (λ x. IsStamped z.by.slack x.arrival.time x.moment) xs

stamped-all : (z : Terms) (moment clock : ℕ) (asked : List Asked) → GoByClock z moment clock asked → AreStamped z asked
unfolding GoByClock
stamped-all z moment clock [] go = tt
stamped-all z moment clock (x ∷ []) go = (go.1.stamped, tt)
stamped-all z moment clock (x ∷ w ∷ before) go = (go.1.stamped, stamped-all z moment clock (w ∷ before) go.3)

accepted-stamped : (z : Terms) (first : List Charged) (asked : List Asked) → AreStamped z asked
    → AreStamped z (accepted_asked z first asked)
unfolding accepted_asked
accepted-stamped z first [] all = tt
accepted-stamped z first (x ∷ before) all = by (is_accepted z first before x) (accepted-stamped z first before all.1)
  where
    by : (b : Bool) → AreStamped z (accepted_asked z first before)
        → AreStamped z (if b then x ∷ accepted_asked z first before else accepted_asked z first before)
    by true rest = (all.0, rest)
    by false rest = rest

stamped-left : (z : Terms) (xs ys : List Asked) → AreStamped z (xs ++ ys) → AreStamped z xs
stamped-left z [] ys all = tt
stamped-left z (x ∷ xs) ys all = (all.0, stamped-left z xs ys all.1)

stamped-right : (z : Terms) (xs ys : List Asked) → AreStamped z (xs ++ ys) → AreStamped z ys
stamped-right z [] ys all = all
stamped-right z (x ∷ xs) ys all = stamped-right z xs ys all.1

map-joined : (xs ys : List Asked) → map (λ x. x.arrival) (xs ++ ys) ≡ map (λ x. x.arrival) xs ++ map (λ x. x.arrival) ys
map-joined [] ys = refl
map-joined (x ∷ xs) ys = ap (λ (l : List Arrival). x.arrival ∷ l) (map-joined xs ys)

module _ (z : Terms) (slow : z.by.drift < parts) where
  all-open : (xs : List Asked) → AreStamped z xs → AllLeaveLater z xs
      → AllByRecursion (λ x. IsTrue (is_open z x)) (map (λ x. x.arrival) xs)
  unfolding AllLeaveLater
  all-open [] at all = tt
  all-open (x ∷ xs) at all = (later-open z slow x at.0 all.0, all-open xs at.1 all.1)

  begun-by : (start : Option ℕ) (y : Gone) → IsUnseen z start y → is_begun_by z start y ≡ true
  begun-by None y h = absurd h
  begun-by (Some start) y h =
      let slowly = (spent z slow h.of y h.leaves).1 in
      let moments = h.leaves.goes_on.moments in
      let early = h.stamped.early in
      let late1 = h.leaves.stamped.late in
      let before = h.before in
      lt-ltb y.time (start + latency z + reach z.by) (omega (arith, slowly, moments, early, late1, before))

  unseen-begun : (ys : List Gone) → AllByRecursion (λ y. IsUnseen z z.by.start y) ys
      → AllByRecursion (λ y. IsTrue (is_begun z y)) ys
  unfolding is_begun
  unseen-begun [] all = tt
  unseen-begun (y ∷ ys) all = (begun-by z.by.start y all.0, unseen-begun ys all.1)

  all-pairs : (xs : List Asked) (ys : List Gone) → AreStamped z xs → EachLeaves z xs ys
      → ArePairs z (map (λ x. x.arrival) xs) ys
  unfolding EachLeaves ArePairs
  all-pairs [] ys at all = unseen-begun ys all
  all-pairs (x ∷ xs) [] at all = absurd all
  all-pairs (x ∷ xs) (y ∷ ys) at all = (leaves-fits z slow x y at.0 all.0, all-pairs xs ys at.1 all.1)

pub right_explained : RightIsExplained
right_explained z asked frames is slow right =
    let at = stamped-all z right.moment right.clock asked right.go_on in
    let accepted = subst (λ (l : List Asked). AreStamped z l) right.accepted (accepted-stamped z right.first asked at)
    in
    record {
      answers = answers_of z right.first asked;
      are_answered = answers-arrivals z right.first asked;
      are_allowed = allowed-all z is right.first right.moment right.clock asked right.is_first right.go_on;
      waiting = map (λ x. x.arrival) right.waiting;
      took = map (λ x. x.arrival) right.took;
      accepted = answers-accepted z right.first asked
          ∙ ap (λ (l : List Asked). map (λ x. x.arrival) l) right.accepted
          ∙ map-joined right.waiting right.took;
      are_open = all-open z slow right.waiting (stamped-left z right.waiting right.took accepted) right.later;
      are_pairs = all-pairs z slow right.took frames (stamped-right z right.waiting right.took accepted) right.leave;
    }
