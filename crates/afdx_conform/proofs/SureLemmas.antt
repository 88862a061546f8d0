-- With exact stamps and clocks, from a reset on, there is always one state.
use Rattle.std.proofs.Common.{◌≡◌, ℕ, ◌+◌, ◌*◌, ◌-◌, Bool, true, false, ◌&&◌, Option, List, [], ◌∷◌, ◌++◌, ◌⊎◌, inl, inr, length, refl, sym, ap, ◌∙◌, subst, arith}
use Rattle.std.proofs.lemmas.Bool.{leb-true, leb-false, eq-eqb}
use Rattle.std.proofs.lemmas.List.{append-nil}
use Rattle.std.specs.Prelude.{if◌then◌else◌, ◌||◌, nat_eq, nat_le, nat_lt, not, Some, None}
use Rattle.afdx_frame.specs.Regulation.{Regulation}
use Rattle.afdx_police.specs.Arrival.{Arrival}
use Rattle.afdx_police.specs.Shape.{fault_of}
use Rattle.afdx_police.specs.declared.shape.Reason.{Reason}
use Rattle.afdx_conform.specs.Explanations.{link, charge, last_time, levels_then}
use Rattle.afdx_conform.specs.Findings.{Judged, lead, with_rest, has_some, front_rest, unexplained, skipped, closed_by, closed_to, with_states, aged, as_accepted, asked, deviation_of, deviates_by, deviates, answered_by, few_of, most_states, came_by, came_to, is_uncertain, one_if, sound_events, judged_after, one_more, thinned_onto}
use Rattle.afdx_conform.specs.Headline.{IsAccountKnown}
use Rattle.afdx_conform.specs.Leeway.{Leeway, account_slip, reach}
use Rattle.afdx_conform.specs.Levels.{Levels, parts, fastest, slowest, full, cost, fast_slip, first_levels, later, charged, refused, may_pass, has_to_pass}
use Rattle.afdx_conform.specs.States.{Event, Came, Closing, State, state_with, arrivals_came, led_by, kept, are_behind, first_states, accepted_states, states_at}
use Rattle.afdx_conform.specs.Streams.{Gone, Terms, fits, is_open, is_begun, is_begun_by}
use Rattle.afdx_conform.specs.Sure.{ExactIsSure}
use Rattle.afdx_conform.specs.declared.finding.Deviation.{Deviation}
use Rattle.afdx_conform.specs.declared.finding.Deviation.TheVariants as deviation
use Rattle.afdx_conform.proofs.FindingLemmas.{if-both}
use Rattle.afdx_conform.proofs.HeldLemmas.{if-true, if-false}

-- ---- levels that are one number

abbrev AreEven : Levels → Type 0
AreEven levels = levels.lo ≡ levels.hi

module _ (l : Regulation) (by : Leeway) (slack : by.slack ≡ 0) (drift : by.drift ≡ 0) (asks : by.asked ≡ 0) where
  no-slip : (n : ℕ) → n * account_slip by ≡ 0
  no-slip n =
      let none : account_slip by ≡ 0 = omega (arith, slack, asks) in
      ap (λ m. n * m) none ∙ omega arith

  same-rate : fastest l by ≡ slowest l by
  same-rate = ap (λ d. l.smax * (parts + d)) drift ∙ sym (ap (λ d. l.smax * (parts - d)) drift)

  later-even : (ns : ℕ) (levels : Levels) → AreEven levels → AreEven (later l by ns levels)
  later-even ns levels e = ap (λ n. n - fastest l by * ns) e ∙ ap (λ n. levels.hi - n * ns) same-rate

  same-tests : (c : ℕ) (levels : Levels) → AreEven levels → may_pass l by c levels ≡ has_to_pass l by c levels
  same-tests c levels e =
      let none = no-slip (fastest l by) in
      let same : full l by + fast_slip l by ≡ full l by = omega (arith, none) in
      ap (λ n. nat_le (n + cost l by c) (full l by + fast_slip l by)) e
      ∙ ap (λ n. nat_le (levels.hi + cost l by c) n) same

  charged-even : (c : ℕ) (levels : Levels) → AreEven levels → has_to_pass l by c levels ≡ true
      → AreEven (charged l by c levels)
  charged-even c levels e h =
      let none = no-slip (slowest l by) in
      let room = leb-true (levels.hi + cost l by c) (full l by) h in
      omega (arith, none, room, e)

  refused-even : (c : ℕ) (levels : Levels) → AreEven levels → has_to_pass l by c levels ≡ false
      → AreEven (refused l by c levels)
  refused-even c levels e h =
      let over = leb-false (levels.hi + cost l by c) (full l by) h in
      omega (arith, over, e)

-- ---- one state

record IsOne (states : List State) : Type 0 where
  pub of : State
  pub is : states ≡ of ∷ []
  pub even : AreEven of.levels

lead-one : (s : State) → lead (s ∷ []) ≡ s ∷ []
unfolding front_rest kept
lead-one s = if-true (nat_eq (length s.rest) (length s.rest)) (s ∷ []) [] (eq-eqb (length s.rest) (length s.rest) refl)

module _ (z : Terms) (e : IsAccountKnown z) where
  -- an arrival leads to one, or has to pass and leads to none
  abbrev IsLed : Arrival → Levels → List State → Type 0
  IsLed x levels l = IsOne l ⊎ ((l ≡ []) × (has_to_pass (link z) z.by (charge z x) levels ≡ true))

  led-one : (x : Arrival) (levels : Levels) (s : State) → AreEven levels → IsLed x levels (states_at z x levels s)
  unfolding states_at
  led-one x levels s even =
      by (may_pass (link z) z.by (charge z x) levels) (has_to_pass (link z) z.by (charge z x) levels) refl
      (same-tests (link z) z.by e.slack e.drift e.asked (charge z x) levels even)
    where
      accepts : (rest : List Gone) → has_to_pass (link z) z.by (charge z x) levels ≡ true
          → IsLed x levels (accepted_states z x (charged (link z) z.by (charge z x) levels) s.waiting rest ++ [])
      accepts [] h = if-both (λ (l : List State). IsLed x levels (l ++ [])) (is_open z x) (_ ∷ []) []
          (inl (record {
            of = _;
            is = refl;
            even =
                charged-even (link z) z.by e.slack e.drift e.asked (charge z x) levels even h;
          }))
          (inr (refl, h))
      accepts (y ∷ rest) h = if-both (λ (l : List State). IsLed x levels (l ++ [])) (fits z x y) (_ ∷ []) []
          (inl (record {
            of = _;
            is = refl;
            even =
                charged-even (link z) z.by e.slack e.drift e.asked (charge z x) levels even h;
          }))
          (inr (refl, h))

      by : (b c : Bool) → has_to_pass (link z) z.by (charge z x) levels ≡ c → b ≡ c
          → IsLed x levels ((if b then accepted_states z x (charged (link z) z.by (charge z x) levels) s.waiting s.rest
          else [])
          ++ (if c then [] else state_with s.rest (refused (link z) z.by (charge z x) levels) s.waiting ∷ []))
      by true true h same = accepts s.rest h
      by false false h same = inl (record {
        of = _;
        is = refl;
        even = refused-even (link z) z.by e.slack e.drift e.asked (charge z x) levels even h;
      })
      by true false h same = absurd (cc)
      by false true h same = absurd (cc)

  led-by-one : (to : State → List State) (s : State) → led_by to (s ∷ []) ≡ to s ++ []
  unfolding led_by
  led-by-one to s = refl

  led-of : (x : Arrival) (levels : Levels) (l m : List State) → m ≡ l ++ [] → IsLed x levels l → IsLed x levels m
  led-of x levels l m same (inl o) = inl (record { of = o.of; is = same ∙ append-nil l ∙ o.is; even = o.even })
  led-of x levels l m same (inr h) = inr (same ∙ append-nil l ∙ h.0, h.1)

  -- ---- a deviation at an arrival that has to pass

  abbrev HasTo : Arrival → State → Type 0
  HasTo x s = has_to_pass (link z) z.by (charge z x) s.levels ≡ true

  deviates-one : (behind : List Arrival) (x : Arrival) (s : State) (l : List State) (rest : List Gone) (j : Judged)
      → l ≡ s ∷ []
      → AreEven s.levels → HasTo x s → IsOne (deviates z behind x l rest j).states
  unfolding deviates
  deviates-one behind x s l [] j is even h = record {
    of = _;
    is = ap (λ (k : List State). as_accepted z x k) is;
    even = charged-even (link z) z.by e.slack e.drift e.asked (charge z x) s.levels even h;
  }
  deviates-one behind x s l (y ∷ rest) j is even h =
      by (deviation_of z behind x y)
      (deviates-one behind x (state_with rest s.levels s.waiting) (with_rest rest (lead l)) rest
      (unexplained z x.time y j) leads even h)
    where
      leads : with_rest rest (lead l) ≡ state_with rest s.levels s.waiting ∷ []
      leads = ap (λ (k : List State). with_rest rest (lead k)) is
          ∙ ap (λ (k : List State). with_rest rest k) (lead-one s)

      next : Judged
      next = deviates z behind x (with_rest rest (lead l)) rest (unexplained z x.time y j)

      asked-is : IsLed x s.levels (asked z x rest l)
      asked-is = led-of x s.levels (states_at z x s.levels (state_with rest s.levels s.waiting)) (asked z x rest l)
          (ap (λ (k : List State). led_by (λ t. states_at z x t.levels t) k) leads
          ∙ led-by-one (λ t. states_at z x t.levels t) (state_with rest s.levels s.waiting))
          (led-one x s.levels (state_with rest s.levels s.waiting) even)

      asks : (k : List State) → IsLed x s.levels k → IsOne next.states
          → IsOne (if has_some k then with_states k (unexplained z x.time y j) else next).states
      asks [] o n = n
      asks (t ∷ k) (inl o) n = o
      asks (t ∷ k) (inr o) n = absurd (let none = o.0 in cc)

      by : (d : Deviation) → IsOne next.states → IsOne (deviates_by z d x l y rest j next).states
      by deviation.Stopped n = record {
        of = _;
        is = ap (λ (k : List State). as_accepted z x k) is;
        even = charged-even (link z) z.by e.slack e.drift e.asked (charge z x) s.levels even h;
      }
      by (deviation.Took finding) n = record {
        of = _;
        is = ap (λ (k : List State). with_rest rest (as_accepted z x (lead k))) is
            ∙ ap (λ (k : List State). with_rest rest (as_accepted z x k)) (lead-one s);
        even = charged-even (link z) z.by e.slack e.drift e.asked (charge z x) s.levels even h;
      }
      by deviation.Other n = asks (asked z x rest l) asked-is n

  deviates-count : (behind : List Arrival) (x : Arrival) (l : List State) (rest : List Gone) (j : Judged)
      → (deviates z behind x l rest j).uncertain ≡ j.uncertain
  unfolding deviates unexplained
  deviates-count behind x l [] j = refl
  deviates-count behind x l (y ∷ rest) j =
      by (deviation_of z behind x y) (deviates-count behind x (with_rest rest (lead l)) rest (unexplained z x.time y j))
    where
      next : Judged
      next = deviates z behind x (with_rest rest (lead l)) rest (unexplained z x.time y j)

      by : (d : Deviation) → next.uncertain ≡ j.uncertain → (deviates_by z d x l y rest j next).uncertain ≡ j.uncertain
      by deviation.Stopped n = refl
      by (deviation.Took finding) n = refl
      by deviation.Other n =
          if-both (λ (k : Judged). k.uncertain ≡ j.uncertain) (has_some (asked z x rest l))
          (with_states (asked z x rest l) (unexplained z x.time y j)) next refl n

  -- ---- all events

  record IsEven (j : Judged) : Type 0 where
    pub one : IsOne j.states
    pub certain : j.uncertain ≡ 0
    pub sure : j.is_unsure ≡ false

  thinned-one : (s : State) → thinned_onto [] (s ∷ []) ≡ s ∷ []
  unfolding thinned_onto one_more
  thinned-one s = refl

  few-even : (n : ℕ) (j : Judged) → IsOne j.states → j.uncertain + n ≡ 0 → IsEven (few_of z n j)
  few-even n j o c =
      let is : thinned_onto [] j.states ≡ o.of ∷ [] = ap (λ (l : List State). thinned_onto [] l) o.is
      ∙ thinned-one o.of in
      record {
        one = record { of = o.of; is = is; even = o.even };
        certain = c;
        sure = ap (λ (l : List State). nat_lt most_states (length l)) is;
      }

  not-both : (b c : Bool) → b ≡ c → (b && not c) ≡ false
  not-both true true h = refl
  not-both false c h = refl
  not-both true false h = absurd (cc)

  came-even : (behind : List Arrival) (last : ℕ) (x : Arrival) (j : Judged) → IsEven j
      → IsEven (came_to z behind last x j)
  unfolding came_to
  came-even behind last x j v =
      subst (λ (k : Judged). IsEven k)
      (sym (if-false j.is_unsure j (came_by z behind last x (fault_of (Some z.rule) x.port x.bytes) j) v.sure))
      (by (fault_of (Some z.rule) x.port x.bytes))
    where
      at : Levels
      at = levels_then z v.one.of.levels last x

      even : AreEven at
      even = later-even (link z) z.by e.slack e.drift e.asked (x.time - last) v.one.of.levels v.one.even

      led : List State
      led = led_by (λ s. states_at z x (levels_then z s.levels last x) s) j.states

      led-is : IsLed x at led
      led-is = led-of x at (states_at z x at v.one.of) led
          (ap (λ (k : List State). led_by (λ s. states_at z x (levels_then z s.levels last x) s) k) v.one.is
          ∙ led-by-one (λ s. states_at z x (levels_then z s.levels last x) s) v.one.of)
          (led-one x at v.one.of even)

      answered : (l : List State) → IsLed x at l → IsOne (answered_by z behind last x l j).states
      answered [] (inl o) = absurd (let none = o.is in cc)
      answered [] (inr h) =
          deviates-one behind x (state_with v.one.of.rest at v.one.of.waiting) (aged z last x j.states)
          (front_rest j.states) j
          (ap (λ (k : List State). aged z last x k) v.one.is) even h.1
      answered (s ∷ l) (inl o) = o
      answered (s ∷ l) (inr h) = absurd (let none = h.0 in cc)

      same-count : (l : List State) → (answered_by z behind last x l j).uncertain ≡ j.uncertain
      same-count [] = deviates-count behind x (aged z last x j.states) (front_rest j.states) j
      same-count (s ∷ l) = refl

      none-uncertain : is_uncertain z last x j.states ≡ false
      none-uncertain = ap (λ (k : List State). is_uncertain z last x k) v.one.is
          ∙ ap (λ (b : Bool). b || false)
          (not-both (may_pass (link z) z.by (charge z x) at) (has_to_pass (link z) z.by (charge z x) at)
          (same-tests (link z) z.by e.slack e.drift e.asked (charge z x) at even))

      by : (fault : Option Reason) → IsEven (came_by z behind last x fault j)
      by None =
          let count = same-count led in
          let none = v.certain in
          let f = few-even (one_if z (is_uncertain z last x j.states)) (answered_by z behind last x led j)
          (answered led led-is)
          (ap (λ (b : Bool). (answered_by z behind last x led j).uncertain + one_if z b) none-uncertain
          ∙ omega (arith, count, none)) in
          record { one = f.one; certain = f.certain; sure = f.sure }
      by (Some reason) = record { one = v.one; certain = v.certain; sure = v.sure }

  skipped-even : (time : ℕ) (s : State) (front : List State) (rest : List Gone) (j : Judged) → front ≡ s ∷ []
      → AreEven s.levels
      → j.uncertain ≡ 0 → j.is_unsure ≡ false → IsEven (skipped z time front rest j)
  unfolding skipped unexplained
  skipped-even time s front [] j is even c sure = record {
    one = record { of = _; is = ap (λ (k : List State). with_rest [] k) is; even = even };
    certain = c;
    sure = sure;
  }
  skipped-even time s front (y ∷ rest) j is even c sure =
      if-both (λ (k : Judged). IsEven k) (are_behind time rest)
      (with_states (with_rest rest front) (unexplained z (time + reach z.by) y j)) _
      (record {
        one = record { of = _; is = ap (λ (k : List State). with_rest rest k) is; even = even };
        certain = c;
        sure = sure;
      })
      (skipped-even time s front rest (unexplained z (time + reach z.by) y j) is even c sure)

  closed-even : (time : ℕ) (j : Judged) → IsEven j → IsEven (closed_to z time j)
  unfolding closed_to kept
  closed-even time j v =
      subst (λ (k : Judged). IsEven k)
      (sym (if-false j.is_unsure j (closed_by z time (kept (λ s. are_behind time s.rest) j.states) j) v.sure))
      (subst (λ (l : List State). IsEven (closed_by z time l j))
      (sym (ap (λ (l : List State). kept (λ s. are_behind time s.rest) l) v.one.is))
      (by (are_behind time v.one.of.rest)))
    where
      by : (b : Bool) → IsEven (closed_by z time (if b then v.one.of ∷ [] else []) j)
      by true = record {
        one = record { of = v.one.of; is = refl; even = v.one.even };
        certain = v.certain;
        sure =
            v.sure;
      }
      by false = skipped-even time v.one.of (lead j.states) (front_rest j.states) j
          (ap (λ (l : List State). lead l) v.one.is ∙ lead-one v.one.of) v.one.even v.certain v.sure

  first-one : (levels : Levels) (ys : List Gone) → AreEven levels → IsOne (first_states z levels ys)
  unfolding first_states is_begun
  first-one levels [] even = record { of = _; is = refl; even = even }
  first-one levels (y ∷ ys) even = record {
    of = _;
    is = ap (λ (o : Option ℕ). state_with (y ∷ ys) levels 0 ∷
        (if is_begun_by z o y then first_states z levels ys else [])) e.start;
    even = even;
  }

  even-after : (ys : List Gone) (behind : List Arrival) (events : List Event) → IsEven (judged_after z ys behind events)
  unfolding judged_after
  even-after ys behind [] = record {
    one = first-one (first_levels (link z) z.by z.by.start) ys
        (subst (λ (o : Option ℕ). AreEven (first_levels (link z) z.by o)) (sym e.start) refl);
    certain = refl;
    sure = refl;
  }
  even-after ys behind (Came x ∷ before) =
      came-even behind (last_time z.by (arrivals_came (sound_events z before))) x
      (judged_after z ys (x ∷ behind) before)
      (even-after ys (x ∷ behind) before)
  even-after ys behind (Closing time ∷ before) =
      closed-even time (judged_after z ys behind before) (even-after ys behind before)

pub exact_sure : ExactIsSure
exact_sure z ys behind events e =
    let v = even-after z e ys behind events in
    record { one = ap (λ (l : List State). length l) v.one.is; certain = v.certain; sure = v.sure }
