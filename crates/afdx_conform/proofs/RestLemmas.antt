-- What the frames that are left after an event have in common.
use Rattle.std.proofs.Common.{◌≡◌, ℕ, ◌+◌, ◌<◌, Bool, true, false, Option, List, [], ◌∷◌, ◌++◌, map, refl, sym, subst}
use Rattle.std.proofs.lemmas.Bool.{ltb-true, and_parts}
use Rattle.std.specs.Prelude.{if◌then◌else◌, nat_lt, not, Some, None}
use Rattle.std.specs.List.{AllByRecursion, list_all, filter}
use Rattle.afdx_police.specs.Arrival.{Arrival}
use Rattle.afdx_police.specs.Shape.{fault_of}
use Rattle.afdx_police.specs.declared.shape.Reason.{Reason}
use Rattle.afdx_conform.specs.Explanations.{link, charge, last_time, levels_then}
use Rattle.afdx_conform.specs.Findings.{Judged, lead, with_rest, has_some, front_rest, unexplained, skipped, closed_by, closed_to, with_states, aged, as_accepted, asked, deviation_of, deviates_by, deviates, answered_by, came_by, came_to, sound_events, judged_after, one_more, thinned_onto, does_more}
use Rattle.afdx_conform.specs.Leeway.{reach}
use Rattle.afdx_conform.specs.Levels.{Levels, charged, refused, first_levels, may_pass, has_to_pass}
use Rattle.afdx_conform.specs.States.{Event, Came, Closing, State, state_with, arrivals_came, led_by, kept, are_behind, first_states, accepted_states, states_at}
use Rattle.afdx_conform.specs.Streams.{Gone, Terms, fits, is_open, is_begun}
use Rattle.afdx_conform.specs.declared.finding.Deviation.{Deviation}
use Rattle.afdx_conform.specs.declared.finding.Deviation.TheVariants as deviation
use Rattle.afdx_conform.proofs.EveryLemmas.{every-append}
use Rattle.afdx_conform.proofs.FindingLemmas.{if-both}
use Rattle.afdx_conform.proofs.HeldLemmas.{if-false}

module _ (R : Gone → Type 0) where
  -- R holds of all frames that are left
  abbrev pub Holds : List State → Type 0
  Holds states = AllByRecursion (λ s. AllByRecursion R s.rest) states

  abbrev Has : State → Type 0
  Has s = AllByRecursion R s.rest

  holds-kept : (test : State → Bool) (l : List State) → Holds l → Holds (kept test l)
  unfolding kept
  holds-kept test [] h = tt
  holds-kept test (s ∷ l) h =
      if-both (λ (k : List State). Holds k) (test s) (s ∷ kept test l) (kept test l) (h.0, holds-kept test l h.1)
      (holds-kept test l h.1)

  holds-filter : (test : State → Bool) (l : List State) → Holds l → Holds (filter test l)
  holds-filter test [] h = tt
  holds-filter test (s ∷ l) h =
      if-both (λ (k : List State). Holds k) (test s) (s ∷ filter test l) (filter test l) (h.0, holds-filter test l h.1)
      (holds-filter test l h.1)

  holds-led : (to : State → List State) → ((s : State) → Has s → Holds (to s)) → (l : List State) → Holds l
      → Holds (led_by to l)
  unfolding led_by
  holds-led to goes [] h = tt
  holds-led to goes (s ∷ l) h = every-append Has (to s) (led_by to l) (goes s h.0) (holds-led to goes l h.1)

  holds-map : (f : State → State) → ((s : State) → Has s → Has (f s)) → (l : List State) → Holds l → Holds (map f l)
  holds-map f goes [] h = tt
  holds-map f goes (s ∷ l) h = (goes s h.0, holds-map f goes l h.1)

  holds-rest : (rest : List Gone) → AllByRecursion R rest → (l : List State) → Holds (with_rest rest l)
  holds-rest rest r [] = tt
  holds-rest rest r (s ∷ l) = (r, holds-rest rest r l)

  front-has : (l : List State) → Holds l → AllByRecursion R (front_rest l)
  unfolding front_rest
  front-has [] h = tt
  front-has (s ∷ []) h = h.0
  front-has (s ∷ t ∷ l) h =
      if-both (λ (r : List Gone). AllByRecursion R r) _ s.rest (front_rest (t ∷ l)) h.0 (front-has (t ∷ l) h.1)

  holds-one : (s : State) (l : List State) → Has s → Holds l → Holds (one_more s l)
  unfolding one_more
  holds-one s l a h = if-both (λ (k : List State). Holds k) _ l (filter (λ x. not (does_more s x)) l ++ (s ∷ [])) h
      (every-append Has (filter (λ x. not (does_more s x)) l) (s ∷ []) (holds-filter (λ x. not (does_more s x)) l h)
      (a, tt))

  holds-thinned : (few l : List State) → Holds few → Holds l → Holds (thinned_onto few l)
  unfolding thinned_onto
  holds-thinned few [] f h = f
  holds-thinned few (s ∷ l) f h = holds-thinned (one_more s few) l (holds-one s few h.0 f) h.1

  module _ (z : Terms) where
    holds-first : (levels : Levels) (ys : List Gone) → AllByRecursion R ys → Holds (first_states z levels ys)
    unfolding first_states
    holds-first levels [] h = (tt, tt)
    holds-first levels (y ∷ ys) h = (
      h,
      if-both (λ (k : List State). Holds k) (is_begun z y) (first_states z levels ys) [] (holds-first levels ys h.1) tt,
    )

    holds-at : (x : Arrival) (levels : Levels) (s : State) → Has s → Holds (states_at z x levels s)
    unfolding states_at
    holds-at x levels s h =
        every-append Has
        (if may_pass (link z) z.by (charge z x) levels
        then accepted_states z x (charged (link z) z.by (charge z x) levels) s.waiting s.rest else [])
        (if has_to_pass (link z) z.by (charge z x) levels then []
        else state_with s.rest (refused (link z) z.by (charge z x) levels) s.waiting ∷ [])
        (if-both (λ (k : List State). Holds k) (may_pass (link z) z.by (charge z x) levels) _ [] (accepted s.rest h) tt)
        (if-both (λ (k : List State). Holds k) (has_to_pass (link z) z.by (charge z x) levels) [] _ tt (h, tt))
      where
        accepted : (rest : List Gone) → AllByRecursion R rest
            → Holds (accepted_states z x (charged (link z) z.by (charge z x) levels) s.waiting rest)
        accepted [] r = if-both (λ (k : List State). Holds k) (is_open z x)
            (state_with [] (charged (link z) z.by (charge z x) levels) (s.waiting + 1) ∷ []) [] (tt, tt) tt
        accepted (y ∷ rest) r = if-both (λ (k : List State). Holds k) (fits z x y)
            (state_with rest (charged (link z) z.by (charge z x) levels) s.waiting ∷ []) [] (r.1, tt) tt

    holds-aged : (last : ℕ) (x : Arrival) (l : List State) → Holds l → Holds (aged z last x l)
    holds-aged last x l h = holds-map (λ s. state_with s.rest (levels_then z s.levels last x) s.waiting) (λ s a. a) l h

    holds-accepted : (x : Arrival) (l : List State) → Holds l → Holds (as_accepted z x l)
    holds-accepted x l h =
        holds-map (λ s. state_with s.rest (charged (link z) z.by (charge z x) s.levels) s.waiting) (λ s a. a) l h

    holds-skipped : (time : ℕ) (front : List State) (rest : List Gone) (j : Judged) → AllByRecursion R rest
        → Holds (skipped z time front rest j).states
    unfolding skipped
    holds-skipped time front [] j r = holds-rest [] tt front
    holds-skipped time front (y ∷ rest) j r =
        if-both (λ (k : Judged). Holds k.states) (are_behind time rest)
        (with_states (with_rest rest front) (unexplained z (time + reach z.by) y j)) _ (holds-rest rest r.1 front)
        (holds-skipped time front rest (unexplained z (time + reach z.by) y j) r.1)

    pub holds-closed : (time : ℕ) (j : Judged) → Holds j.states → Holds (closed_to z time j).states
    unfolding closed_to
    holds-closed time j h =
        if-both (λ (k : Judged). Holds k.states) j.is_unsure j _ h
        (by (kept (λ s. are_behind time s.rest) j.states) (holds-kept (λ s. are_behind time s.rest) j.states h))
      where
        by : (l : List State) → Holds l → Holds (closed_by z time l j).states
        by [] k = holds-skipped time (lead j.states) (front_rest j.states) j (front-has j.states h)
        by (s ∷ l) k = k

    holds-deviates : (behind : List Arrival) (x : Arrival) (l : List State) (rest : List Gone) (j : Judged) → Holds l
        → AllByRecursion R rest → Holds (deviates z behind x l rest j).states
    unfolding deviates
    holds-deviates behind x l [] j h r = holds-accepted x l h
    holds-deviates behind x l (y ∷ rest) j h r =
        by (deviation_of z behind x y)
        (holds-deviates behind x (with_rest rest (lead l)) rest (unexplained z x.time y j)
        (holds-rest rest r.1 (lead l)) r.1)
      where
        next : Judged
        next = deviates z behind x (with_rest rest (lead l)) rest (unexplained z x.time y j)

        by : (d : Deviation) → Holds next.states → Holds (deviates_by z d x l y rest j next).states
        by deviation.Stopped k = holds-accepted x l h
        by (deviation.Took finding) k = holds-rest rest r.1 (as_accepted z x (lead l))
        by deviation.Other k =
            if-both (λ (u : Judged). Holds u.states) (has_some (asked z x rest l))
            (with_states (asked z x rest l) (unexplained z x.time y j)) next
            (holds-led (λ s. states_at z x s.levels s) (λ s a. holds-at x s.levels s a) (with_rest rest (lead l))
            (holds-rest rest r.1 (lead l))) k

    pub holds-came : (behind : List Arrival) (last : ℕ) (x : Arrival) (j : Judged) → Holds j.states
        → Holds (came_to z behind last x j).states
    unfolding came_to
    holds-came behind last x j h =
        if-both (λ (k : Judged). Holds k.states) j.is_unsure j _ h (by (fault_of (Some z.rule) x.port x.bytes))
      where
        led : Holds (led_by (λ s. states_at z x (levels_then z s.levels last x) s) j.states)
        led = holds-led (λ s. states_at z x (levels_then z s.levels last x) s)
            (λ s a. holds-at x (levels_then z s.levels last x) s a) j.states h

        answered : (l : List State) → Holds l → Holds (answered_by z behind last x l j).states
        answered [] k = holds-deviates behind x (aged z last x j.states) (front_rest j.states) j
            (holds-aged last x j.states h) (front-has j.states h)
        answered (s ∷ l) k = k

        by : (fault : Option Reason) → Holds (came_by z behind last x fault j).states
        by None = holds-thinned [] _ tt (answered _ led)
        by (Some reason) = h

    pub holds-after : (ys : List Gone) (behind : List Arrival) (events : List Event) → AllByRecursion R ys
        → Holds (judged_after z ys behind events).states
    unfolding judged_after
    holds-after ys behind [] h = holds-first (first_levels (link z) z.by z.by.start) ys h
    holds-after ys behind (Came x ∷ before) h =
        holds-came behind (last_time z.by (arrivals_came (sound_events z before))) x
        (judged_after z ys (x ∷ behind) before)
        (holds-after ys (x ∷ behind) before h)
    holds-after ys behind (Closing time ∷ before) h =
        holds-closed time (judged_after z ys behind before) (holds-after ys behind before h)

-- ---- behind a closing

abbrev pub IsPast : ℕ → Gone → Type 0
IsPast time y = time < y.time

past-all : (time : ℕ) (rest : List Gone) → are_behind time rest ≡ true → AllByRecursion (IsPast time) rest
unfolding are_behind
past-all time [] e = tt
past-all time (y ∷ rest) e =
    let both = and_parts (nat_lt time y.time) (list_all (λ w. nat_lt time w.time) rest) e in
    (ltb-true time y.time both.0, past-all time rest both.1)

past-kept : (time : ℕ) (l : List State) → Holds (IsPast time) (kept (λ s. are_behind time s.rest) l)
unfolding kept
past-kept time [] = tt
past-kept time (s ∷ l) = by (are_behind time s.rest) refl (past-kept time l)
  where
    by : (b : Bool) → are_behind time s.rest ≡ b → Holds (IsPast time) (kept (λ s. are_behind time s.rest) l)
        → Holds (IsPast time)
        (if b then s ∷ kept (λ s. are_behind time s.rest) l else kept (λ s. are_behind time s.rest) l)
    by true e more = (past-all time s.rest e, more)
    by false e more = more

past-skipped : (z : Terms) (time : ℕ) (front : List State) (rest : List Gone) (j : Judged)
    → Holds (IsPast time) (skipped z time front rest j).states
unfolding skipped
past-skipped z time front [] j = holds-rest (IsPast time) [] tt front
past-skipped z time front (y ∷ rest) j =
    by (are_behind time rest) refl (past-skipped z time front rest (unexplained z (time + reach z.by) y j))
  where
    next : Judged
    next = unexplained z (time + reach z.by) y j

    by : (b : Bool) → are_behind time rest ≡ b → Holds (IsPast time) (skipped z time front rest next).states
        → Holds (IsPast time)
        (if b then with_states (with_rest rest front) next else skipped z time front rest next).states
    by true e more = holds-rest (IsPast time) rest (past-all time rest e) front
    by false e more = more

pub past-closed : (z : Terms) (time : ℕ) (j : Judged) → j.is_unsure ≡ false
    → Holds (IsPast time) (closed_to z time j).states
unfolding closed_to
past-closed z time j sure =
    subst (λ (k : Judged). Holds (IsPast time) k.states)
    (sym (if-false j.is_unsure j (closed_by z time (kept (λ s. are_behind time s.rest) j.states) j) sure))
    (by (kept (λ s. are_behind time s.rest) j.states) (past-kept time j.states))
  where
    by : (l : List State) → Holds (IsPast time) l → Holds (IsPast time) (closed_by z time l j).states
    by [] h = past-skipped z time (lead j.states) (front_rest j.states) j
    by (s ∷ l) h = h
