-- While no arrival is open none waits in a state.
use Rattle.std.proofs.Common.{◌≡◌, ℕ, suc, ◌+◌, Bool, true, false, Option, List, [], ◌∷◌, ◌++◌, map, refl, sym, subst, arith}
use Rattle.std.specs.Prelude.{All, if◌then◌else◌, nat_eq, ◌&&◌, not, Some, None}
use Rattle.std.specs.List.{AllByRecursion, list_all, filter}
use Rattle.afdx_police.specs.Arrival.{Arrival}
use Rattle.afdx_police.specs.Shape.{fault_of}
use Rattle.afdx_police.specs.declared.shape.Reason.{Reason}
use Rattle.afdx_conform.specs.Ahead.{NoneIsOpen}
use Rattle.afdx_conform.specs.Explanations.{link, charge, last_time, levels_then}
use Rattle.afdx_conform.specs.Findings.{Judged, lead, with_rest, has_some, front_rest, unexplained, skipped, closed_by, closed_to, with_states, aged, as_accepted, asked, deviation_of, deviates_by, deviates, answered_by, came_by, came_to, sound_events, judged_after, one_more, thinned_onto, does_more}
use Rattle.afdx_conform.specs.Leeway.{reach}
use Rattle.afdx_conform.specs.Levels.{Levels, charged, refused, first_levels, may_pass, has_to_pass}
use Rattle.afdx_conform.specs.States.{Event, Came, Closing, State, state_with, arrivals_came, led_by, kept, are_behind, first_states, accepted_states, states_at}
use Rattle.afdx_conform.specs.Streams.{Gone, Terms, fits, is_open, is_begun}
use Rattle.afdx_conform.specs.declared.finding.Deviation.{Deviation}
use Rattle.afdx_conform.specs.declared.finding.Deviation.TheVariants as deviation
use Rattle.afdx_conform.specs.declared.states.StreamState.{StreamState}
use Rattle.afdx_conform.proofs.EveryLemmas.{every-append}
use Rattle.afdx_conform.proofs.FindingLemmas.{if-both}

-- none waits in the state, or in each
abbrev IsStill : State → Type 0
IsStill s = s.waiting ≡ 0

abbrev pub AreStill : List State → Type 0
AreStill states = AllByRecursion (λ s. s.waiting ≡ 0) states

still-kept : (test : State → Bool) (l : List State) → AreStill l → AreStill (kept test l)
unfolding kept
still-kept test [] h = tt
still-kept test (s ∷ l) h =
    if-both (λ (k : List State). AreStill k) (test s) (s ∷ kept test l) (kept test l) (h.0, still-kept test l h.1)
    (still-kept test l h.1)

still-filter : (test : State → Bool) (l : List State) → AreStill l → AreStill (filter test l)
still-filter test [] h = tt
still-filter test (s ∷ l) h =
    if-both (λ (k : List State). AreStill k) (test s) (s ∷ filter test l) (filter test l) (h.0, still-filter test l h.1)
    (still-filter test l h.1)

still-led : (to : State → List State) → ((s : State) → IsStill s → AreStill (to s)) → (l : List State) → AreStill l
    → AreStill (led_by to l)
unfolding led_by
still-led to goes [] h = tt
still-led to goes (s ∷ l) h = every-append IsStill (to s) (led_by to l) (goes s h.0) (still-led to goes l h.1)

still-map : (f : State → State) → ((s : State) → IsStill s → IsStill (f s)) → (l : List State) → AreStill l
    → AreStill (map f l)
still-map f goes [] h = tt
still-map f goes (s ∷ l) h = (goes s h.0, still-map f goes l h.1)

still-rest : (rest : List Gone) (l : List State) → AreStill l → AreStill (with_rest rest l)
still-rest rest l h = still-map (λ s. state_with rest s.levels s.waiting) (λ s a. a) l h

still-one : (s : State) (l : List State) → IsStill s → AreStill l → AreStill (one_more s l)
unfolding one_more
still-one s l a h = if-both (λ (k : List State). AreStill k) _ l (filter (λ x. not (does_more s x)) l ++ (s ∷ [])) h
    (every-append IsStill (filter (λ x. not (does_more s x)) l) (s ∷ []) (still-filter (λ x. not (does_more s x)) l h)
    (a, tt))

still-thinned : (few l : List State) → AreStill few → AreStill l → AreStill (thinned_onto few l)
unfolding thinned_onto
still-thinned few [] f h = f
still-thinned few (s ∷ l) f h = still-thinned (one_more s few) l (still-one s few h.0 f) h.1

module _ (z : Terms) where
  still-lead : (l : List State) → AreStill l → AreStill (lead l)
  still-lead l h = still-kept _ l h

  still-first : (levels : Levels) (ys : List Gone) → AreStill (first_states z levels ys)
  unfolding first_states
  still-first levels [] = (refl, tt)
  still-first levels (y ∷ ys) = (
    refl,
    if-both (λ (k : List State). AreStill k) (is_begun z y) (first_states z levels ys) [] (still-first levels ys) tt,
  )

  still-at : (x : Arrival) → is_open z x ≡ false → (levels : Levels) (s : State) → IsStill s
      → AreStill (states_at z x levels s)
  unfolding states_at
  still-at x shut levels s h =
      every-append IsStill
      (if may_pass (link z) z.by (charge z x) levels
      then accepted_states z x (charged (link z) z.by (charge z x) levels) s.waiting s.rest else [])
      (if has_to_pass (link z) z.by (charge z x) levels then []
      else state_with s.rest (refused (link z) z.by (charge z x) levels) s.waiting ∷ [])
      (if-both (λ (k : List State). AreStill k) (may_pass (link z) z.by (charge z x) levels) _ [] (accepted s.rest) tt)
      (if-both (λ (k : List State). AreStill k) (has_to_pass (link z) z.by (charge z x) levels) [] _ tt (h, tt))
    where
      accepted : (rest : List Gone)
          → AreStill (accepted_states z x (charged (link z) z.by (charge z x) levels) s.waiting rest)
      accepted [] = subst (λ (b : Bool). AreStill
          (if b then state_with [] (charged (link z) z.by (charge z x) levels) (s.waiting + 1) ∷ [] else []))
          (sym shut) tt
      accepted (y ∷ rest) = if-both (λ (k : List State). AreStill k) (fits z x y)
          (state_with rest (charged (link z) z.by (charge z x) levels) s.waiting ∷ []) [] (h, tt) tt

  still-aged : (last : ℕ) (x : Arrival) (l : List State) → AreStill l → AreStill (aged z last x l)
  still-aged last x l h = still-map (λ s. state_with s.rest (levels_then z s.levels last x) s.waiting) (λ s a. a) l h

  still-accepted : (x : Arrival) (l : List State) → AreStill l → AreStill (as_accepted z x l)
  still-accepted x l h =
      still-map (λ s. state_with s.rest (charged (link z) z.by (charge z x) s.levels) s.waiting) (λ s a. a) l h

  still-skipped : (time : ℕ) (front : List State) (rest : List Gone) (j : Judged) → AreStill front
      → AreStill (skipped z time front rest j).states
  unfolding skipped
  still-skipped time front [] j h = still-rest [] front h
  still-skipped time front (y ∷ rest) j h =
      if-both (λ (k : Judged). AreStill k.states) (are_behind time rest)
      (with_states (with_rest rest front) (unexplained z (time + reach z.by) y j)) _ (still-rest rest front h)
      (still-skipped time front rest (unexplained z (time + reach z.by) y j) h)

  still-closed : (time : ℕ) (j : Judged) → AreStill j.states → AreStill (closed_to z time j).states
  unfolding closed_to
  still-closed time j h =
      if-both (λ (k : Judged). AreStill k.states) j.is_unsure j _ h
      (by (kept (λ s. are_behind time s.rest) j.states) (still-kept (λ s. are_behind time s.rest) j.states h))
    where
      by : (l : List State) → AreStill l → AreStill (closed_by z time l j).states
      by [] k = still-skipped time (lead j.states) (front_rest j.states) j (still-lead j.states h)
      by (s ∷ l) k = k

  still-deviates : (behind : List Arrival) (x : Arrival) → is_open z x ≡ false
      → (l : List State) (rest : List Gone) (j : Judged)
      → AreStill l → AreStill (deviates z behind x l rest j).states
  unfolding deviates
  still-deviates behind x shut l [] j h = still-accepted x l h
  still-deviates behind x shut l (y ∷ rest) j h =
      by (deviation_of z behind x y)
      (still-deviates behind x shut (with_rest rest (lead l)) rest (unexplained z x.time y j)
      (still-rest rest (lead l) (still-lead l h)))
    where
      next : Judged
      next = deviates z behind x (with_rest rest (lead l)) rest (unexplained z x.time y j)

      by : (d : Deviation) → AreStill next.states → AreStill (deviates_by z d x l y rest j next).states
      by deviation.Stopped k = still-accepted x l h
      by (deviation.Took finding) k =
          still-rest rest (as_accepted z x (lead l)) (still-accepted x (lead l) (still-lead l h))
      by deviation.Other k =
          if-both (λ (u : Judged). AreStill u.states) (has_some (asked z x rest l))
          (with_states (asked z x rest l) (unexplained z x.time y j)) next
          (still-led (λ s. states_at z x s.levels s) (λ s a. still-at x shut s.levels s a) (with_rest rest (lead l))
          (still-rest rest (lead l) (still-lead l h))) k

  still-came : (behind : List Arrival) (last : ℕ) (x : Arrival) (j : Judged) → is_open z x ≡ false → AreStill j.states
      → AreStill (came_to z behind last x j).states
  unfolding came_to
  still-came behind last x j shut h =
      if-both (λ (k : Judged). AreStill k.states) j.is_unsure j _ h (by (fault_of (Some z.rule) x.port x.bytes))
    where
      led : AreStill (led_by (λ s. states_at z x (levels_then z s.levels last x) s) j.states)
      led = still-led (λ s. states_at z x (levels_then z s.levels last x) s)
          (λ s a. still-at x shut (levels_then z s.levels last x) s a) j.states h

      answered : (l : List State) → AreStill l → AreStill (answered_by z behind last x l j).states
      answered [] k = still-deviates behind x shut (aged z last x j.states) (front_rest j.states) j
          (still-aged last x j.states h)
      answered (s ∷ l) k = k

      by : (fault : Option Reason) → AreStill (came_by z behind last x fault j).states
      by None = still-thinned [] _ tt (answered _ led)
      by (Some reason) = h

  pub still-after : (ys : List Gone) (behind : List Arrival) (events : List Event) → NoneIsOpen z events
      → AreStill (judged_after z ys behind events).states
  unfolding judged_after NoneIsOpen
  still-after ys behind [] h = still-first (first_levels (link z) z.by z.by.start) ys
  still-after ys behind (Came x ∷ before) h =
      still-came behind (last_time z.by (arrivals_came (sound_events z before))) x
      (judged_after z ys (x ∷ behind) before) h.0 (still-after ys (x ∷ behind) before h.1)
  still-after ys behind (Closing time ∷ before) h =
      still-closed time (judged_after z ys behind before) (still-after ys behind before h)

-- ---- as the code tests it

pub none-waits : (held : List StreamState) → All (λ h. h.waiting ≡ 0) held → list_all (λ h. nat_eq h.waiting 0) held ≡
    true
none-waits [] all = refl
none-waits (h ∷ held) all =
    subst (λ (n : ℕ). (nat_eq n 0 && list_all (λ k. nat_eq k.waiting 0) held) ≡ true) (sym (all 0 h (omega arith)))
    (none-waits held (λ i d lt. all (suc i) d (omega (arith, lt))))
