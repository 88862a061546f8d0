-- Levels of exact stamps are those of the link's account.
use Rattle.std.proofs.Common.{◌≡◌, ℕ, ◌+◌, ◌*◌, ◌-◌, ◌/◌, ◌<◌, ◌≤◌, Bool, true, false, List, [], ◌∷◌, refl, sym, ap, ◌∙◌, subst, arith}
use Rattle.std.proofs.Math.Nat.{mul-le-mul_left, le_of_mul-le-mul_left, mul-sub}
use Rattle.std.proofs.lemmas.Bool.{leb-true, le-leb, leb-false}
use Rattle.std.specs.Prelude.{IsTrue, All, nat_le, if◌then◌else◌, Option, Some, None, is_none}
use Rattle.std.specs.Option.{option_or}
use Rattle.std.specs.List.{AllByRecursion}
use Rattle.std.proofs.lemmas.List.Elements.{All-from_recursion}
use Rattle.afdx_frame.specs.Regulation.{Regulation, bag, jitter, byte_units, cap, is_bag}
use Rattle.afdx_police.specs.Account.{missing, overdrawn}
use Rattle.afdx_police.specs.Arrival.{Arrival}
use Rattle.afdx_police.specs.Rule.{Rule, regulation_of}
use Rattle.afdx_police.specs.Shape.{fault_of}
use Rattle.afdx_police.specs.Verdicts.{accepted_arrivals, charged_by, accepted_own, reason_after}
use Rattle.afdx_police.specs.Window as window
use Rattle.afdx_police.specs.Window.{Charged}
use Rattle.afdx_police.specs.declared.shape.Reason.{Reason}
use Rattle.afdx_police.specs.declared.shape.Reason.TheVariants.{OverRate}
use Rattle.afdx_police.proofs.AccountLemmas.{is_bag-divides, factor_positive, missing-later, missing-accept, fits-room}
use Rattle.afdx_conform.specs.Leeway.{Leeway}
use Rattle.afdx_conform.specs.Levels.{Levels, levels_with, may_pass, has_to_pass, charged, refused, later, full, cost, fast_slip}
use Rattle.afdx_conform.specs.Streams.{Terms}
use Rattle.afdx_conform.specs.Explanations.{Answered, answered, accepted_in, arrivals_in, last_time, charge, levels_then, levels_after, IsAllowed, AreAllowed}
use Rattle.afdx_conform.specs.Headline.{sound_of, GoByTime}

-- no leeway but for an inner delay
abbrev pub exact : ℕ → Leeway
exact inner = record { slack = 0; between = 0; drift = 0; inner = inner; asked = 0; start = None }

-- over numbers: an account's unit is `k` of a level's, and `p` of its own
later-number : (k p s lo miss g : ℕ) → k * lo ≡ p * miss → k * (lo - s * p * g) ≡ p * (miss - s * k * g)
later-number k p s lo miss g e =
    let left : k * (lo - s * p * g) ≡ k * lo - k * (s * p * g) = mul-sub k lo (s * p * g) in
    let right : p * (miss - s * k * g) ≡ p * miss - p * (s * k * g) = mul-sub p miss (s * k * g) in
    let same : k * (s * p * g) ≡ p * (s * k * g) = grind arith in
    omega (arith, left, right, same, e)

cost-number : (k p b c u : ℕ) → k * b ≡ u → k * (p * (b * c)) ≡ p * (u * c)
cost-number k p b c u e =
    let turned : k * (p * (b * c)) ≡ p * (k * b * c) = grind arith in
    turned ∙ ap (λ n. p * (n * c)) e

pub full-number : (k p s w : ℕ) → k * (p * (s * w)) ≡ p * (s * k * w)
full-number k p s w = grind arith

sum-number : (k p lo c miss u : ℕ) → k * lo ≡ p * miss → k * c ≡ p * u → k * (lo + c) ≡ p * (miss + u)
sum-number k p lo c miss u a b = omega (arith, a, b)

room-there : (k p lo c f miss u w : ℕ) → k * lo ≡ p * miss → k * c ≡ p * u → k * f ≡ p * w → 0 < p
    → lo + c ≤ f → miss + u ≤ w
room-there k p lo c f miss u w a b e some h =
    let up : k * (lo + c) ≤ k * f = mul-le-mul_left k h in
    let sum = sum-number k p lo c miss u a b in
    let down : p * (miss + u) ≤ p * w = omega (arith, up, sum, e) in
    le_of_mul-le-mul_left down some

room-back : (k p lo c f miss u w : ℕ) → k * lo ≡ p * miss → k * c ≡ p * u → k * f ≡ p * w → 0 < k
    → miss + u ≤ w → lo + c ≤ f
room-back k p lo c f miss u w a b e some h =
    let up : p * (miss + u) ≤ p * w = mul-le-mul_left p h in
    let sum = sum-number k p lo c miss u a b in
    let down : k * (lo + c) ≤ k * f = omega (arith, up, sum, e) in
    le_of_mul-le-mul_left down some

same-tests : (a b : Bool) → (a ≡ true → b ≡ true) → (b ≡ true → a ≡ true) → a ≡ b
same-tests true true f g = refl
same-tests true false f g = sym (f refl)
same-tests false true f g = g refl
same-tests false false f g = refl

module _ (l : Regulation) (is : IsTrue (is_bag l.bag_ms)) (inner : ℕ) where
  k : ℕ
  k = 128 / l.bag_ms

  by : Leeway
  by = exact inner

  -- the level is what the account of these lacks
  abbrev pub IsLevel : List Charged → ℕ → ℕ → Type 0
  IsLevel accepted time lo = (128 / l.bag_ms) * lo ≡ 1000000 * missing l accepted time

  pub units : (128 / l.bag_ms) * bag l ≡ byte_units
  units = let e : l.bag_ms * (128 / l.bag_ms) ≡ 128 = is_bag-divides l.bag_ms is in
      let turned : (128 / l.bag_ms) * (1000000 * l.bag_ms) ≡ 1000000 * (l.bag_ms * (128 / l.bag_ms)) = grind arith in
      turned ∙ ap (λ n. 1000000 * n) e

  pub positive : 0 < 128 / l.bag_ms
  positive = factor_positive l.bag_ms (128 / l.bag_ms) (is_bag-divides l.bag_ms is)

  pub level-later : (accepted : List Charged) (time at lo : ℕ) → All (λ x. x.time ≤ time) accepted → time ≤ at
      → IsLevel accepted time lo → IsLevel accepted at (lo - l.smax * 1000000 * (at - time))
  level-later accepted time at lo came h e =
      later-number (128 / l.bag_ms) 1000000 l.smax lo (missing l accepted time) (at - time) e
      ∙ ap (λ n. 1000000 * n) (sym (missing-later l accepted time at came h))

  -- the tests are the window rule's
  pub tests-same : (accepted : List Charged) (x : Charged) (lo : ℕ) → IsLevel accepted x.time lo
      → (nat_le (lo + cost l (exact inner) x.charge) (full l (exact inner)) ≡ window.fits l accepted x)
  tests-same accepted x lo e =
      let c = cost-number (128 / l.bag_ms) 1000000 (bag l) x.charge byte_units units in
      let f = full-number (128 / l.bag_ms) 1000000 l.smax (bag l + jitter l) in
      let room = fits-room l is accepted x in
      same-tests _ _
      (λ h. room.1 (room-there (128 / l.bag_ms) 1000000 lo (cost l (exact inner) x.charge) (full l (exact inner))
      (missing l accepted x.time) (byte_units * x.charge) (cap l) e c f (omega arith) (leb-true _ _ h)))
      (λ h. le-leb _ _ (room-back (128 / l.bag_ms) 1000000 lo (cost l (exact inner) x.charge) (full l (exact inner))
      (missing l accepted x.time) (byte_units * x.charge) (cap l) e c f positive (room.0 h)))

-- one answer more, over levels that are one number
module _ (l : Regulation) (is : IsTrue (is_bag l.bag_ms)) (inner : ℕ) (accepted : List Charged) (x : Charged) (lo : ℕ)
    (e : IsLevel l is inner accepted x.time lo) where
  may-fits : may_pass l (exact inner) x.charge (levels_with lo lo) ≡ window.fits l accepted x
  may-fits =
      let none : full l (exact inner) + fast_slip l (exact inner) ≡ full l (exact inner) = omega arith in
      ap (λ n. nat_le (lo + cost l (exact inner) x.charge) n) none ∙ tests-same l is inner accepted x lo e

  must-fits : has_to_pass l (exact inner) x.charge (levels_with lo lo) ≡ window.fits l accepted x
  must-fits = tests-same l is inner accepted x lo e

  same-levels : (a b c d : ℕ) → a ≡ c → b ≡ d → levels_with a b ≡ levels_with c d
  same-levels a b c d p q = rw (p, q) refl

  -- accepted, and it fits
  charged-level : window.fits l accepted x ≡ true
      → charged l (exact inner) x.charge (levels_with lo lo)
      ≡ levels_with (lo + cost l (exact inner) x.charge) (lo + cost l (exact inner) x.charge)
  charged-level fit =
      let room = leb-true (lo + cost l (exact inner) x.charge) (full l (exact inner)) (must-fits ∙ fit) in
      same-levels _ _ _ _ refl (omega (arith, room))

  pub charged-is : IsLevel l is inner (x ∷ accepted) x.time (lo + cost l (exact inner) x.charge)
  charged-is =
      sum-number (128 / l.bag_ms) 1000000 lo (cost l (exact inner) x.charge) (missing l accepted x.time)
      (byte_units * x.charge)
      e (cost-number (128 / l.bag_ms) 1000000 (bag l) x.charge byte_units (units l is inner))
      ∙ ap (λ n. 1000000 * n) (sym (missing-accept l accepted x))

  -- refused, and it doesn't fit
  refused-level : window.fits l accepted x ≡ false
      → refused l (exact inner) x.charge (levels_with lo lo) ≡ levels_with lo lo
  refused-level fit =
      let over : nat_le (lo + cost l (exact inner) x.charge) (full l (exact inner)) ≡ false = must-fits ∙ fit in
      let beyond = leb-false (lo + cost l (exact inner) x.charge) (full l (exact inner)) over in
      same-levels _ _ _ _ (omega (arith, beyond)) refl

-- ---- over a link's own arrivals

module _ (rule : Rule) (is : IsTrue (is_bag rule.bag_ms)) (latency_ns byte_ns inner until : ℕ) where
  abbrev pub z : Terms
  z = record { rule = rule; latency_ns = latency_ns; byte_ns = byte_ns; by = exact inner; until = until }

  abbrev l : Regulation
  l = regulation_of rule

  abbrev last : List Arrival → ℕ
  last past = last_time (exact inner) (sound_of rule past)

  -- the answers are the window rule's, and what they leave is the account
  pub record IsAt (past : List Arrival) (answers : List Answered) : Type 0 where
    pub are_answered : arrivals_in answers ≡ sound_of rule past
    pub are_allowed : AreAllowed z answers
    pub same : accepted_in answers ≡ accepted_arrivals rule past
    pub lo : ℕ
    pub levels_are : levels_after z answers ≡ levels_with lo lo
    pub level : IsLevel l is inner (accepted_own rule past) (last past) lo
    pub came : AllByRecursion (λ c. c.time ≤ last past) (accepted_own rule past)

  at-first : IsAt [] []
  unfolding arrivals_in AreAllowed accepted_in accepted_arrivals sound_of levels_after accepted_own overdrawn
  at-first = record {
    are_answered = refl;
    are_allowed = tt;
    same = refl;
    lo = 0;
    levels_are = refl;
    level = omega arith;
    came = tt;
  }

  -- its verdict, without a fault
  fit-of : List Arrival → Arrival → Bool
  fit-of past x = window.fits l (accepted_own rule past) (charged_by rule x)

  reason-sound : (past : List Arrival) (x : Arrival) → fault_of (Some rule) x.port x.bytes ≡ None
      → is_none (reason_after rule past x) ≡ fit-of past x
  unfolding reason_after fit-of
  reason-sound past x sound = rw sound (by (fit-of past x))
    where
      by : (b : Bool) → is_none (option_or None (if b then None else Some OverRate)) ≡ b
      by true = refl
      by false = refl

  reason-fault : (past : List Arrival) (x : Arrival) (why : Reason) → fault_of (Some rule) x.port x.bytes ≡ Some why
      → is_none (reason_after rule past x) ≡ false
  unfolding reason_after
  reason-fault past x why faulty = rw faulty refl

  sound-here : (past : List Arrival) (x : Arrival) → fault_of (Some rule) x.port x.bytes ≡ None
      → sound_of rule (x ∷ past) ≡ x ∷ sound_of rule past
  unfolding sound_of
  sound-here past x sound = rw sound refl

  sound-not : (past : List Arrival) (x : Arrival) (why : Reason) → fault_of (Some rule) x.port x.bytes ≡ Some why
      → sound_of rule (x ∷ past) ≡ sound_of rule past
  unfolding sound_of
  sound-not past x why faulty = rw faulty refl

  if-so : {X : Type 0} (b c : Bool) (u v : X) → b ≡ c → (if b then u else v) ≡ (if c then u else v)
  if-so b c u v e = ap (λ (d : Bool). if d then u else v) e

  own-by : (past : List Arrival) (x : Arrival) (b : Bool) → is_none (reason_after rule past x) ≡ b
      → accepted_own rule (x ∷ past) ≡ (if b then charged_by rule x ∷ accepted_own rule past else accepted_own rule
      past)
  unfolding accepted_own reason_after
  own-by past x b e = if-so _ b (charged_by rule x ∷ accepted_own rule past) (accepted_own rule past) e

  arrivals-by : (past : List Arrival) (x : Arrival) (b : Bool) → is_none (reason_after rule past x) ≡ b
      → accepted_arrivals rule (x ∷ past) ≡ (if b then x ∷ accepted_arrivals rule past else accepted_arrivals rule past)
  unfolding accepted_arrivals
  arrivals-by past x b e = if-so _ b (x ∷ accepted_arrivals rule past) (accepted_arrivals rule past) e

  last-before : (past : List Arrival) (time : ℕ) → AllByRecursion (λ w. w.time ≤ time) past → last past ≤ time
  unfolding sound_of
  last-before [] time all = omega arith
  last-before (w ∷ past) time all = by (is_none (fault_of (Some rule) w.port w.bytes)) (last-before past time all.1)
    where
      by : (b : Bool) → last past ≤ time
          → last_time (exact inner) (if b then w ∷ sound_of rule past else sound_of rule past) ≤ time
      by true h = all.0
      by false h = h

  came-later : (time later : ℕ) (xs : List Charged) → time ≤ later → AllByRecursion (λ c. c.time ≤ time) xs
      → AllByRecursion (λ c. c.time ≤ later) xs
  came-later time later [] h all = tt
  came-later time later (x ∷ xs) h all = (let a = all.0 in omega (arith, a, h), came-later time later xs h all.1)

  came-with : (past : List Arrival) (time : ℕ) (xs : List Charged) → accepted_own rule past ≡ xs → last past ≡ time
      → AllByRecursion (λ c. c.time ≤ time) xs → AllByRecursion (λ c. c.time ≤ last past) (accepted_own rule past)
  came-with past time xs e t all =
      subst (λ (list : List Charged). AllByRecursion (λ c. c.time ≤ last past) list) (sym e)
      (subst (λ (n : ℕ). AllByRecursion (λ (c : Charged). c.time ≤ n) xs) (sym t) all)

  step-fault : (past : List Arrival) (answers : List Answered) (x : Arrival) (why : Reason)
      → fault_of (Some rule) x.port x.bytes ≡ Some why → IsAt past answers → IsAt (x ∷ past) answers
  step-fault past answers x why faulty at =
      let dropped = reason-fault past x why faulty in
      let own : accepted_own rule (x ∷ past) ≡ accepted_own rule past = own-by past x false dropped in
      let came : accepted_arrivals rule (x ∷ past) ≡ accepted_arrivals rule past = arrivals-by past x false dropped in
      let none : sound_of rule (x ∷ past) ≡ sound_of rule past = sound-not past x why faulty in record {
        are_answered = at.are_answered ∙ sym none;
        are_allowed = at.are_allowed;
        same = at.same ∙ sym came;
        lo = at.lo;
        levels_are = at.levels_are;
        level = rw (own, none) at.level;
        came = rw (own, none) at.came;
      }

  module _ (past : List Arrival) (answers : List Answered) (x : Arrival)
      (sound : fault_of (Some rule) x.port x.bytes ≡ None) (older : AllByRecursion (λ w. w.time ≤ x.time) past)
      (at : IsAt past answers) where
    abbrev lo-then : ℕ
    lo-then = at.lo - l.smax * 1000000 * (x.time - last past)

    abbrev now : Levels
    now = levels_then z (levels_after z answers) (last_time (exact inner) (arrivals_in answers)) x

    level-then : IsLevel l is inner (accepted_own rule past) x.time lo-then
    level-then = level-later l is inner (accepted_own rule past) (last past) x.time at.lo
        (All-from_recursion (λ (c : Charged). c.time ≤ last past) (accepted_own rule past) at.came)
        (last-before past x.time older) at.level

    now-is : now ≡ levels_with lo-then lo-then
    now-is =
        ap (λ (v : Levels). levels_then z v (last_time (exact inner) (arrivals_in answers)) x) at.levels_are
        ∙ ap (λ (came : List Arrival). levels_then z (levels_with at.lo at.lo) (last_time (exact inner) came) x)
        at.are_answered

    abbrev fit : Bool
    fit = window.fits l (accepted_own rule past) (charged_by rule x)

    may-is : may_pass l (exact inner) (charge z x) now ≡ fit
    may-is = ap (λ (v : Levels). may_pass l (exact inner) (charge z x) v) now-is
        ∙ may-fits l is inner (accepted_own rule past) (charged_by rule x) lo-then level-then

    must-is : has_to_pass l (exact inner) (charge z x) now ≡ fit
    must-is = ap (λ (v : Levels). has_to_pass l (exact inner) (charge z x) v) now-is
        ∙ must-fits l is inner (accepted_own rule past) (charged_by rule x) lo-then level-then

    reason-is : is_none (reason_after rule past x) ≡ fit
    unfolding fit-of
    reason-is = reason-sound past x sound

    -- a frame that fits, and is accepted
    step-accepted : fit ≡ true → IsAt (x ∷ past) (answered x true ∷ answers)
    unfolding arrivals_in AreAllowed accepted_in levels_after
    step-accepted e =
        let own : accepted_own rule (x ∷ past) ≡ charged_by rule x ∷ accepted_own rule past =
        own-by past x true (reason-is ∙ e) in
        let came : accepted_arrivals rule (x ∷ past) ≡ x ∷ accepted_arrivals rule past =
        arrivals-by past x true (reason-is ∙ e) in
        let here : sound_of rule (x ∷ past) ≡ x ∷ sound_of rule past = sound-here past x sound in
        let last-is : last (x ∷ past) ≡ x.time = ap (λ (list : List Arrival). last_time (exact inner) list) here in
        record {
          are_answered = ap (λ (list : List Arrival). x ∷ list) at.are_answered ∙ sym here;
          are_allowed = (may-is ∙ e, at.are_allowed);
          same = ap (λ (list : List Arrival). x ∷ list) at.same ∙ sym came;
          lo = lo-then + cost l (exact inner) (charge z x);
          levels_are = ap (λ (v : Levels). charged l (exact inner) (charge z x) v) now-is
              ∙ charged-level l is inner (accepted_own rule past) (charged_by rule x) lo-then level-then e;
          level = rw (own, last-is) (charged-is l is inner (accepted_own rule past) (charged_by rule x) lo-then
              level-then);
          came = came-with (x ∷ past) x.time (charged_by rule x ∷ accepted_own rule past) own last-is (
            omega arith,
            came-later (last past) x.time (accepted_own rule past) (last-before past x.time older)
                at.came,
          );
        }

    -- one that doesn't, and is refused
    step-refused : fit ≡ false → IsAt (x ∷ past) (answered x false ∷ answers)
    unfolding arrivals_in AreAllowed accepted_in levels_after
    step-refused e =
        let own : accepted_own rule (x ∷ past) ≡ accepted_own rule past = own-by past x false (reason-is ∙ e) in
        let came : accepted_arrivals rule (x ∷ past) ≡ accepted_arrivals rule past = arrivals-by past x false
        (reason-is ∙ e) in
        let here : sound_of rule (x ∷ past) ≡ x ∷ sound_of rule past = sound-here past x sound in
        let last-is : last (x ∷ past) ≡ x.time = ap (λ (list : List Arrival). last_time (exact inner) list) here in
        record {
          are_answered = ap (λ (list : List Arrival). x ∷ list) at.are_answered ∙ sym here;
          are_allowed = (must-is ∙ e, at.are_allowed);
          same = at.same ∙ sym came;
          lo = lo-then;
          levels_are = ap (λ (v : Levels). refused l (exact inner) (charge z x) v) now-is
              ∙ refused-level l is inner (accepted_own rule past) (charged_by rule x) lo-then level-then e;
          level = rw (own, last-is) level-then;
          came = came-with (x ∷ past) x.time (accepted_own rule past) own last-is
              (came-later (last past) x.time (accepted_own rule past) (last-before past x.time older) at.came);
        }

  answer-is : (past : List Arrival) (answers : List Answered) (x : Arrival) (b : Bool)
      (sound : fault_of (Some rule) x.port x.bytes ≡ None) (older : AllByRecursion (λ w. w.time ≤ x.time) past)
      (at : IsAt past answers)
      → IsAllowed z (levels_then z (levels_after z answers) (last_time (exact inner) (arrivals_in answers)) x) b x
      → IsAt (x ∷ past) (answered x b ∷ answers)
  answer-is past answers x true sound older at allowed =
      step-accepted past answers x sound older at (sym (may-is past answers x sound older at) ∙ allowed)
  answer-is past answers x false sound older at allowed =
      step-refused past answers x sound older at (sym (must-is past answers x sound older at) ∙ allowed)

  exactly-by : (past : List Arrival) (x : Arrival) → AllByRecursion (λ w. w.time ≤ x.time) past
      → (answers : List Answered) → arrivals_in answers ≡ sound_of rule (x ∷ past) → AreAllowed z answers
      → ((a : List Answered) → arrivals_in a ≡ sound_of rule past → AreAllowed z a → IsAt past a)
      → (fault : Option Reason) → fault_of (Some rule) x.port x.bytes ≡ fault → IsAt (x ∷ past) answers
  unfolding arrivals_in AreAllowed
  exactly-by past x older answers same allowed so_far (Some why) faulty =
      step-fault past answers x why faulty (so_far answers (same ∙ sound-not past x why faulty) allowed)
  exactly-by past x older [] same allowed so_far None sound =
      let some : [] ≡ (x ∷ sound_of rule past) = same ∙ sound-here past x sound in absurd (cc)
  exactly-by past x older (a ∷ answers) same allowed so_far None sound =
      let all : (a.arrival ∷ arrivals_in answers) ≡ (x ∷ sound_of rule past) = same ∙ sound-here past x sound in
      let head : a.arrival ≡ x = cc in
      let tail : arrivals_in answers ≡ sound_of rule past = cc in
      let is : a ≡ answered x a.accepted = ap (λ (v : Arrival). answered v a.accepted) head in
      let allowed_so : AreAllowed z (answered x a.accepted ∷ answers) =
      subst (λ (b : Answered). AreAllowed z (b ∷ answers)) is allowed in
      subst (λ (b : Answered). IsAt (x ∷ past) (b ∷ answers)) (sym is)
      (answer-is past answers x a.accepted sound older (so_far answers tail allowed_so.1) allowed_so.0)

  -- whatever answers are allowed are the window rule's
  pub exactly : (own : List Arrival) → GoByTime own → (answers : List Answered)
      → arrivals_in answers ≡ sound_of rule own
      → AreAllowed z answers → IsAt own answers
  unfolding arrivals_in AreAllowed sound_of GoByTime
  exactly [] order [] same allowed = at-first
  exactly [] order (a ∷ answers) same allowed = absurd (cc)
  exactly (x ∷ past) order answers same allowed =
      exactly-by past x order.0 answers same allowed (λ a s h. exactly past order.1 a s h)
      (fault_of (Some rule) x.port x.bytes) refl

  -- and there are such answers
  pub some-answers : (own : List Arrival) → GoByTime own → (answers : List Answered) × IsAt own answers
  unfolding GoByTime
  some-answers [] order = ([], at-first)
  some-answers (x ∷ past) order = by (fault_of (Some rule) x.port x.bytes) refl (some-answers past order.1)
    where
      by : (fault : Option Reason) → fault_of (Some rule) x.port x.bytes ≡ fault
          → (answers : List Answered) × IsAt past answers → (answers : List Answered) × IsAt (x ∷ past) answers
      by (Some why) faulty so_far = (so_far.0, step-fault past so_far.0 x why faulty so_far.1)
      by None sound so_far = fits-by (window.fits l (accepted_own rule past) (charged_by rule x)) refl
        where
          fits-by : (b : Bool) → window.fits l (accepted_own rule past) (charged_by rule x) ≡ b
              → (answers : List Answered) × IsAt (x ∷ past) answers
          fits-by true e = (answered x true ∷ so_far.0, step-accepted past so_far.0 x sound order.0 so_far.1 e)
          fits-by false e = (answered x false ∷ so_far.0, step-refused past so_far.0 x sound order.0 so_far.1 e)
