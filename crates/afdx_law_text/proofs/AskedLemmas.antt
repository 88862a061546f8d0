-- A switch that asks each account as its frame comes, by the clock of the list. Lists have the newest first.
use Rattle.std.proofs.Common.{◌≡◌, ℕ, ◌-◌, ◌≤◌, Bool, true, false, not, ◌&&◌, List, [], ◌∷◌, map, refl, sym, ap, ◌∙◌, arith}
use Rattle.std.proofs.Math.Nat.{mul-le-mul_right}
use Rattle.std.proofs.lemmas.Bool.{ltb-true, lt-ltb, ltb-false, le-ltb}
use Rattle.std.specs.Prelude.{IsTrue, nat_lt, is_none, filter, if◌then◌else◌, Option, Some, None}
use Rattle.std.specs.List.{AllByRecursion}
use Rattle.afdx_frame.specs.Regulation.{is_bag}
use Rattle.afdx_police.specs.Arrival.{Arrival}
use Rattle.afdx_police.specs.Shape.{fault_of}
use Rattle.afdx_police.specs.Verdicts.{accepted_arrivals, charged_by, accepted_own, reason_after}
use Rattle.afdx_police.specs.Window as window
use Rattle.afdx_police.specs.Window.{Charged}
use Rattle.afdx_police.specs.declared.shape.Reason.{Reason}
use Rattle.afdx_conform.specs.Explanations.{from_time, link}
use Rattle.afdx_conform.specs.Headline.{sound_of, GoByTime}
use Rattle.afdx_conform.specs.Leeway.{Leeway}
use Rattle.afdx_conform.specs.Right.{Asked, Comes, GoesOn, accepted_after, is_accepted, accepted_asked, IsFirst, IsFrom, GoByClock}
use Rattle.afdx_conform.specs.Streams.{Terms}
use Rattle.afdx_law_text.proofs.RuleLemmas.{accepted-keep, arrivals-by, at-most-cap, fit-of, own-by, own-keep, reason-fault, reason-sound, sound-by-time, sound-keep}
use Rattle.afdx_law_text.proofs.ListLemmas.{filter-none, filter-whole, filter-keeps}

-- ---- clocks

-- a clock that is the recorders' own goes on as it may
pub goes-on : (by : Leeway) (moment later : ℕ) → moment ≤ later → GoesOn by moment moment later later
goes-on by moment later h = record {
  moments = h;
  clocks = h;
  slowest = mul-le-mul_right (later - moment) (omega arith);
  fastest = mul-le-mul_right (later - moment) (omega arith);
}

-- ---- what is asked

-- as its frame comes
abbrev pub ask : Arrival → Asked
ask x = record { arrival = x; moment = x.time; clock = x.time; asked_at = x.time; asked_clock = x.time }

module _ (z : Terms) (ends : ℕ → Bool) (later : (m n : ℕ) → m ≤ n → ends m ≡ true → ends n ≡ true)
    (q : Arrival → Bool) where
  -- from the start on, and not behind the end
  abbrev pub in_span : ℕ → Bool
  in_span time = not (nat_lt time (from_time z.by.start)) && not (ends time)

  abbrev pub is_kept : Arrival → Bool
  is_kept x = in_span x.time && q x

  -- the test leaves out none of the right shape
  abbrev pub IsHarmless : Arrival → Type 0
  IsHarmless x = fault_of (Some z.rule) x.port x.bytes ≡ None → q x ≡ true

  abbrev pub asks : List Arrival → List Asked
  asks own = map ask (sound_of z.rule (filter is_kept own))

  -- before the start
  abbrev is_early : Arrival → Bool
  is_early x = nat_lt x.time (from_time z.by.start)

  abbrev pub first : List Arrival → List Charged
  first own = accepted_own z.rule (filter is_early own)

  all-early : (x : Arrival) (past : List Arrival) → is_early x ≡ true → AllByRecursion (λ w. w.time ≤ x.time) past
      → AllByRecursion (λ w. is_early w ≡ true) past
  all-early x [] early all = tt
  all-early x (w ∷ past) early all =
      let below = ltb-true x.time (from_time z.by.start) early in
      let at = all.0 in
      (lt-ltb w.time (from_time z.by.start) (omega (arith, below, at)), all-early x past early all.1)

  none-kept : (xs : List Arrival) → AllByRecursion (λ w. is_early w ≡ true) xs
      → AllByRecursion (λ w. is_kept w ≡ false) xs
  none-kept [] all = tt
  none-kept (x ∷ xs) all = (rw all.0 refl, none-kept xs all.1)

  -- all of them are early
  asks-none : (xs : List Arrival) → AllByRecursion (λ w. is_early w ≡ true) xs → asks xs ≡ []
  unfolding sound_of
  asks-none xs all = ap (λ (l : List Arrival). map ask (sound_of z.rule l)) (filter-none is_kept xs (none-kept xs all))

  asks-pass : (x : Arrival) (past : List Arrival) → is_kept x ≡ false → asks (x ∷ past) ≡ asks past
  asks-pass x past off = rw off refl

  asks-unsound : (x : Arrival) (past : List Arrival) (why : Reason) → fault_of (Some z.rule) x.port x.bytes ≡ Some why
      → asks (x ∷ past) ≡ asks past
  unfolding sound_of
  asks-unsound x past why faulty = by (is_kept x)
    where
      by : (b : Bool) → map ask (sound_of z.rule (if b then x ∷ filter is_kept past else filter is_kept past))
          ≡ map ask (sound_of z.rule (filter is_kept past))
      by true = rw faulty refl
      by false = refl

  asks-sound : (x : Arrival) (past : List Arrival) → is_kept x ≡ true → fault_of (Some z.rule) x.port x.bytes ≡ None
      → asks (x ∷ past) ≡ ask x ∷ asks past
  unfolding sound_of
  asks-sound x past on sound = rw (on, sound) refl

  span-kept : (x : Arrival) → is_early x ≡ false → ends x.time ≡ false → IsHarmless x
      → fault_of (Some z.rule) x.port x.bytes ≡ None → is_kept x ≡ true
  span-kept x early behind harmless sound = rw (early, behind, harmless sound) refl

  past-known : (x : Arrival) (past : List Arrival) → ends x.time ≡ false → AllByRecursion (λ w. w.time ≤ x.time) past
      → AllByRecursion (λ w. ends w.time ≡ false) past
  past-known x [] off all = tt
  past-known x (w ∷ past) off all = (by (ends w.time) refl, past-known x past off all.1)
    where
      by : (b : Bool) → ends w.time ≡ b → b ≡ false
      by false e = refl
      by true e = absurd (let up = later w.time x.time all.0 e in cc (up, off))

  nothing-so-far : accepted_after z (first []) (asks []) ≡ accepted_own z.rule []
  unfolding accepted_after sound_of
  nothing-so-far = refl

  early-so-far : (x : Arrival) (past : List Arrival) → is_early x ≡ true → AllByRecursion (λ w. w.time ≤ x.time) past
      → accepted_after z (first (x ∷ past)) (asks (x ∷ past)) ≡ accepted_own z.rule (x ∷ past)
  unfolding accepted_after
  early-so-far x past e older =
      let all : AllByRecursion (λ w. is_early w ≡ true) (x ∷ past) = (e, all-early x past e older) in
      ap (λ (l : List Asked). accepted_after z (first (x ∷ past)) l) (asks-none (x ∷ past) all)
      ∙ ap (λ (l : List Arrival). accepted_own z.rule l) (filter-whole is_early (x ∷ past) all)

  first-same : (x : Arrival) (past : List Arrival) → is_early x ≡ false → first (x ∷ past) ≡ first past
  first-same x past e = rw e refl

  with-one : (x : Arrival) (past : List Arrival) (xs : List Charged) (ys : List Asked)
      → accepted_after z xs ys ≡ accepted_own z.rule past → fault_of (Some z.rule) x.port x.bytes ≡ None
      → accepted_after z xs (ask x ∷ ys) ≡ accepted_own z.rule (x ∷ past)
  unfolding accepted_after
  with-one x past xs ys rest sound =
      ap (λ (l : List Charged). window.with_next (link z) l (charged_by z.rule x)) rest
      ∙ sym (own-by z.rule past x (fit-of z.rule past x) (reason-sound z.rule past x sound))

  -- what the switch has accepted then is what the rule accepts
  accepted-so-far : (own : List Arrival) → GoByTime own → AllByRecursion IsHarmless own
      → AllByRecursion (λ w. ends w.time ≡ false) own
      → accepted_after z (first own) (asks own) ≡ accepted_own z.rule own
  unfolding GoByTime
  accepted-so-far [] order fine known = nothing-so-far
  accepted-so-far (x ∷ past) order fine known =
      by (is_early x) refl (fault_of (Some z.rule) x.port x.bytes) refl
      (accepted-so-far past order.1 fine.1 known.1)
    where
      by : (b : Bool) → is_early x ≡ b → (f : Option Reason) → fault_of (Some z.rule) x.port x.bytes ≡ f
          → accepted_after z (first past) (asks past) ≡ accepted_own z.rule past
          → accepted_after z (first (x ∷ past)) (asks (x ∷ past)) ≡ accepted_own z.rule (x ∷ past)
      by true e f g rest = early-so-far x past e order.0
      by false e None g rest =
          ap (λ (l : List Asked). accepted_after z (first (x ∷ past)) l)
          (asks-sound x past (span-kept x e known.0 fine.0 g) g)
          ∙ ap (λ (l : List Charged). accepted_after z l (ask x ∷ asks past)) (first-same x past e)
          ∙ with-one x past (first past) (asks past) rest g
      by false e (Some why) g rest =
          ap (λ (l : List Asked). accepted_after z (first (x ∷ past)) l) (asks-unsound x past why g)
          ∙ ap (λ (l : List Charged). accepted_after z l (asks past)) (first-same x past e)
          ∙ rest
          ∙ sym (own-by z.rule past x false (reason-fault z.rule past x why g))

  abbrev pub spans : Arrival → Bool
  spans x = in_span x.time

  no-span : (xs : List Arrival) → AllByRecursion (λ w. is_early w ≡ true) xs → AllByRecursion (λ w. spans w ≡ false) xs
  no-span [] all = tt
  no-span (x ∷ xs) all = (rw all.0 refl, no-span xs all.1)

  nothing-asked : accepted_asked z (first []) (asks []) ≡ map ask (filter spans (accepted_arrivals z.rule []))
  unfolding accepted_asked sound_of accepted_arrivals
  nothing-asked = refl

  module _ (x : Arrival) (past : List Arrival) where
    early-asked : is_early x ≡ true → AllByRecursion (λ w. w.time ≤ x.time) past
        → accepted_asked z (first (x ∷ past)) (asks (x ∷ past))
        ≡ map ask (filter spans (accepted_arrivals z.rule (x ∷ past)))
    unfolding accepted_asked
    early-asked e older =
        let all : AllByRecursion (λ w. is_early w ≡ true) (x ∷ past) = (e, all-early x past e older) in
        ap (λ (l : List Asked). accepted_asked z (first (x ∷ past)) l) (asks-none (x ∷ past) all)
        ∙ sym (ap (λ (l : List Arrival). map ask l) (filter-none spans (accepted_arrivals z.rule (x ∷ past))
        (no-span (accepted_arrivals z.rule (x ∷ past)) (accepted-keep z.rule (λ w. is_early w ≡ true) (x ∷ past) all))))

    -- one that isn't asked
    pass-by : (b : Bool) → is_none (reason_after z.rule past x) ≡ b → spans x ≡ false
        → filter spans (accepted_arrivals z.rule (x ∷ past)) ≡ filter spans (accepted_arrivals z.rule past)
    pass-by true e off = ap (λ (l : List Arrival). filter spans l) (arrivals-by z.rule past x true e) ∙ rw off refl
    pass-by false e off = ap (λ (l : List Arrival). filter spans l) (arrivals-by z.rule past x false e)

    passed : is_early x ≡ false → asks (x ∷ past) ≡ asks past
        → filter spans (accepted_arrivals z.rule (x ∷ past)) ≡ filter spans (accepted_arrivals z.rule past)
        → accepted_asked z (first past) (asks past) ≡ map ask (filter spans (accepted_arrivals z.rule past))
        → accepted_asked z (first (x ∷ past)) (asks (x ∷ past)) ≡ map ask
        (filter spans (accepted_arrivals z.rule (x ∷ past)))
    passed e same left rest =
        ap (λ (l : List Asked). accepted_asked z (first (x ∷ past)) l) same
        ∙ ap (λ (l : List Charged). accepted_asked z l (asks past)) (first-same x past e)
        ∙ rest ∙ sym (ap (λ (l : List Arrival). map ask l) left)

    -- one that is
    one-asked : (b : Bool) → is_none (reason_after z.rule past x) ≡ b → spans x ≡ true
        → is_accepted z (first past) (asks past) (ask x) ≡ b
        → accepted_asked z (first past) (asks past) ≡ map ask (filter spans (accepted_arrivals z.rule past))
        → accepted_asked z (first past) (ask x ∷ asks past) ≡ map ask
        (filter spans (accepted_arrivals z.rule (x ∷ past)))
    unfolding accepted_asked
    one-asked true e on same rest =
        rw same (ap (λ (l : List Asked). ask x ∷ l) rest
        ∙ sym (ap (λ (l : List Arrival). map ask (filter spans l)) (arrivals-by z.rule past x true e) ∙ rw on refl))
    one-asked false e on same rest =
        rw same (rest ∙ sym (ap (λ (l : List Arrival). map ask (filter spans l)) (arrivals-by z.rule past x false e)))

  -- so it accepts of what is asked just what the rule accepts
  pub asked-accepted : (own : List Arrival) → GoByTime own → AllByRecursion IsHarmless own
      → accepted_asked z (first own) (asks own) ≡ map ask (filter spans (accepted_arrivals z.rule own))
  unfolding GoByTime
  asked-accepted [] order fine = nothing-asked
  asked-accepted (x ∷ past) order fine =
      by (is_early x) refl (ends x.time) refl (fault_of (Some z.rule) x.port x.bytes) refl
      (asked-accepted past order.1 fine.1)
    where
      by : (b : Bool) → is_early x ≡ b → (c : Bool) → ends x.time ≡ c → (f : Option Reason)
          → fault_of (Some z.rule) x.port x.bytes ≡ f
          → accepted_asked z (first past) (asks past) ≡ map ask (filter spans (accepted_arrivals z.rule past))
          → accepted_asked z (first (x ∷ past)) (asks (x ∷ past)) ≡ map ask
          (filter spans (accepted_arrivals z.rule (x ∷ past)))
      by true e c k f g rest = early-asked x past e order.0
      by false e true k f g rest =
          passed x past e (asks-pass x past (rw (e, k) refl))
          (pass-by x past (is_none (reason_after z.rule past x)) refl (rw (e, k) refl)) rest
      by false e false k (Some why) g rest =
          passed x past e (asks-unsound x past why g)
          (ap (λ (l : List Arrival). filter spans l) (arrivals-by z.rule past x false
          (reason-fault z.rule past x why g))) rest
      by false e false k None g rest =
          ap (λ (l : List Asked). accepted_asked z (first (x ∷ past)) l)
          (asks-sound x past (span-kept x e k fine.0 g) g)
          ∙ ap (λ (l : List Charged). accepted_asked z l (ask x ∷ asks past)) (first-same x past e)
          ∙ one-asked x past (fit-of z.rule past x) (reason-sound z.rule past x g) (rw (e, k) refl)
          (ap (λ (l : List Charged). window.fits (link z) l (charged_by z.rule x))
          (accepted-so-far past order.1 fine.1 (past-known x past k order.0))) rest

  -- ---- the clock

  from-start : (start : Option ℕ) (time : ℕ) → from_time start ≤ time → IsFrom z start time
  from-start None time h = tt
  from-start (Some start) time h = h

  comes : (x : Arrival) → Comes z.by (ask x)
  comes x = record {
    stamped = record { late = omega arith; early = omega arith };
    not_before = omega arith;
    soon = omega arith;
  }

  go-by-clock : (xs : List Arrival) → GoByTime xs → AllByRecursion (λ w. from_time z.by.start ≤ w.time) xs
      → GoByClock z (from_time z.by.start) (from_time z.by.start) (map ask xs)
  unfolding GoByClock GoByTime
  go-by-clock [] order all = tt
  go-by-clock (x ∷ []) order all =
      (goes-on z.by (from_time z.by.start) x.time all.0, comes x, from-start z.by.start x.time all.0)
  go-by-clock (x ∷ w ∷ xs) order all =
      (goes-on z.by w.time x.time order.0.0, comes x, order.0.0, go-by-clock (w ∷ xs) order.1 all.1)

  kept-by-time : (xs : List Arrival) → GoByTime xs → GoByTime (filter is_kept xs)
  unfolding GoByTime
  kept-by-time [] order = tt
  kept-by-time (x ∷ xs) order =
      by (is_kept x) (filter-keeps (λ (w : Arrival). w.time ≤ x.time) is_kept xs order.0) (kept-by-time xs order.1)
    where
      by : (b : Bool) → AllByRecursion (λ w. w.time ≤ x.time) (filter is_kept xs) → GoByTime (filter is_kept xs)
          → GoByTime (if b then x ∷ filter is_kept xs else filter is_kept xs)
      by true below rest = (below, rest)
      by false below rest = rest

  kept-late : (xs : List Arrival) → AllByRecursion (λ w. from_time z.by.start ≤ w.time) (filter is_kept xs)
  kept-late [] = tt
  kept-late (x ∷ xs) = by (is_early x) refl (not (ends x.time)) (q x) (kept-late xs)
    where
      by : (b : Bool) → is_early x ≡ b → (c d : Bool)
          → AllByRecursion (λ w. from_time z.by.start ≤ w.time) (filter is_kept xs)
          → AllByRecursion (λ w. from_time z.by.start ≤ w.time)
          (if (not b && c) && d then x ∷ filter is_kept xs else filter is_kept xs)
      by true e c d rest = rest
      by false e false d rest = rest
      by false e true false rest = rest
      by false e true true rest = (ltb-false x.time (from_time z.by.start) e, rest)

  pub asks-by-clock : (own : List Arrival) → GoByTime own
      → GoByClock z (from_time z.by.start) (from_time z.by.start) (asks own)
  asks-by-clock own order =
      go-by-clock (sound_of z.rule (filter is_kept own))
      (sound-by-time z.rule (filter is_kept own) (kept-by-time own order))
      (sound-keep z.rule (λ w. from_time z.by.start ≤ w.time) (filter is_kept own) (kept-late own))

  -- ---- what was accepted before

  early-by-time : (xs : List Arrival) → GoByTime xs → GoByTime (filter is_early xs)
  unfolding GoByTime
  early-by-time [] order = tt
  early-by-time (x ∷ xs) order =
      by (is_early x) (filter-keeps (λ (w : Arrival). w.time ≤ x.time) is_early xs order.0) (early-by-time xs order.1)
    where
      by : (b : Bool) → AllByRecursion (λ w. w.time ≤ x.time) (filter is_early xs) → GoByTime (filter is_early xs)
          → GoByTime (if b then x ∷ filter is_early xs else filter is_early xs)
      by true below rest = (below, rest)
      by false below rest = rest

  early-before : (xs : List Arrival) → AllByRecursion (λ w. w.time ≤ from_time z.by.start) (filter is_early xs)
  early-before [] = tt
  early-before (x ∷ xs) = by (is_early x) refl (early-before xs)
    where
      by : (b : Bool) → is_early x ≡ b → AllByRecursion (λ w. w.time ≤ from_time z.by.start) (filter is_early xs)
          → AllByRecursion (λ w. w.time ≤ from_time z.by.start)
          (if b then x ∷ filter is_early xs else filter is_early xs)
      by true e rest = (let below = ltb-true x.time (from_time z.by.start) e in omega (arith, below), rest)
      by false e rest = rest

  none-early : (xs : List Arrival) → from_time z.by.start ≡ 0 → filter is_early xs ≡ []
  none-early xs e = filter-none is_early xs (all xs)
    where
      all : (l : List Arrival) → AllByRecursion (λ w. is_early w ≡ false) l
      all [] = tt
      all (w ∷ l) = (le-ltb w.time (from_time z.by.start) (omega (arith, e)), all l)

  no-first : (own : List Arrival) → from_time z.by.start ≡ 0 → first own ≡ []
  unfolding accepted_own
  no-first own e = ap (λ (l : List Arrival). accepted_own z.rule l) (none-early own e)

  pub is-first : IsTrue (is_bag z.rule.bag_ms) → (own : List Arrival) → GoByTime own
      → IsFirst z z.by.start (first own) (from_time z.by.start) (from_time z.by.start)
  is-first is own order = by z.by.start refl
    where
      by : (start : Option ℕ) → z.by.start ≡ start
          → IsFirst z start (first own) (from_time z.by.start) (from_time z.by.start)
      by None e = no-first own (ap from_time e)
      by (Some start) e =
          let at : from_time z.by.start ≡ start = ap from_time e in (
            omega (arith, at),
            at-most-cap z.rule is (filter is_early own) (from_time z.by.start) (early-by-time own order)
                (early-before own),
            own-keep z.rule (from_time z.by.start) (filter is_early own) (early-before own),
          )
