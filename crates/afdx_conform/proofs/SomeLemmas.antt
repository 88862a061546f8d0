-- A state is always left.
use Rattle.std.proofs.Common.{◌≡◌, ℕ, ◌+◌, Bool, true, false, Option, List, [], ◌∷◌, refl}
use Rattle.std.specs.Prelude.{if◌then◌else◌, Some, None}
use Rattle.afdx_police.specs.Arrival.{Arrival}
use Rattle.afdx_police.specs.Shape.{fault_of}
use Rattle.afdx_police.specs.declared.shape.Reason.{Reason}
use Rattle.afdx_conform.specs.Explanations.{link, charge, last_time, levels_then}
use Rattle.afdx_conform.specs.Findings.{Judged, lead, with_rest, has_some, front_rest, unexplained, skipped, closed_by, closed_to, with_states, aged, as_accepted, asked, deviation_of, deviates_by, deviates, answered_by, came_by, came_to, sound_events, judged_after, thinned_onto}
use Rattle.afdx_conform.specs.Laws.{IsSomeState}
use Rattle.afdx_conform.specs.Leeway.{reach}
use Rattle.afdx_conform.specs.Levels.{charged, first_levels}
use Rattle.afdx_conform.specs.States.{Event, Came, Closing, State, state_with, arrivals_came, led_by, kept, are_behind, states_at}
use Rattle.afdx_conform.specs.Streams.{Gone, Terms}
use Rattle.afdx_conform.specs.declared.finding.Deviation.{Deviation}
use Rattle.afdx_conform.specs.declared.finding.Deviation.TheVariants as deviation
use Rattle.afdx_conform.proofs.FindingLemmas.{if-both, some-enough, first-some}
use Rattle.afdx_conform.proofs.FrontLemmas.{thinned-enough}
use Rattle.afdx_conform.proofs.LaterStates.{map-some, lead-some}

module _ (z : Terms) where
  rest-some : (rest : List Gone) (l : List State) → IsSomeState l → IsSomeState (with_rest rest l)
  rest-some rest l h = map-some (λ s. state_with rest s.levels s.waiting) l h

  accepted-some : (x : Arrival) (l : List State) → IsSomeState l → IsSomeState (as_accepted z x l)
  accepted-some x l h = map-some (λ s. state_with s.rest (charged (link z) z.by (charge z x) s.levels) s.waiting) l h

  has-is : (l : List State) → has_some l ≡ true → IsSomeState l
  has-is [] e = absurd (cc)
  has-is (s ∷ l) e = tt

  skipped-some : (time : ℕ) (front : List State) (rest : List Gone) (j : Judged) → IsSomeState front
      → IsSomeState (skipped z time front rest j).states
  unfolding skipped
  skipped-some time front [] j h = rest-some [] front h
  skipped-some time front (y ∷ rest) j h =
      if-both (λ (r : Judged). IsSomeState r.states) (are_behind time rest) _ _ (rest-some rest front h)
      (skipped-some time front rest (unexplained z (time + reach z.by) y j) h)

  pub closed-some : (time : ℕ) (j : Judged) → IsSomeState j.states → IsSomeState (closed_to z time j).states
  unfolding closed_to
  closed-some time j h =
      if-both (λ (r : Judged). IsSomeState r.states) j.is_unsure j _ h
      (by (kept (λ s. are_behind time s.rest) j.states))
    where
      by : (l : List State) → IsSomeState (closed_by z time l j).states
      by [] = skipped-some time (lead j.states) (front_rest j.states) j (lead-some j.states h)
      by (s ∷ l) = tt

  deviates-some : (behind : List Arrival) (x : Arrival) (l : List State) (rest : List Gone) (j : Judged) → IsSomeState l
      → IsSomeState (deviates z behind x l rest j).states
  unfolding deviates
  deviates-some behind x l [] j h = accepted-some x l h
  deviates-some behind x l (y ∷ rest) j h =
      by (deviation_of z behind x y)
      (deviates-some behind x (with_rest rest (lead l)) rest (unexplained z x.time y j)
      (rest-some rest (lead l) (lead-some l h)))
    where
      next : Judged
      next = deviates z behind x (with_rest rest (lead l)) rest (unexplained z x.time y j)

      asks : (b : Bool) → has_some (asked z x rest l) ≡ b → IsSomeState next.states
          → IsSomeState (if b then with_states (asked z x rest l) (unexplained z x.time y j) else next).states
      asks true e k = has-is (asked z x rest l) e
      asks false e k = k

      by : (d : Deviation) → IsSomeState next.states → IsSomeState (deviates_by z d x l y rest j next).states
      by deviation.Stopped k = accepted-some x l h
      by (deviation.Took finding) k =
          rest-some rest (as_accepted z x (lead l)) (accepted-some x (lead l) (lead-some l h))
      by deviation.Other k = asks (has_some (asked z x rest l)) refl k

  thinned-some : (l : List State) → IsSomeState l → IsSomeState (thinned_onto [] l)
  thinned-some l h = some-enough l (thinned_onto [] l)
      (thinned-enough [] [] l (record { among = λ t m. m; outdone = λ t m. absurd m })) h

  pub came-some : (behind : List Arrival) (last : ℕ) (x : Arrival) (j : Judged) → IsSomeState j.states
      → IsSomeState (came_to z behind last x j).states
  unfolding came_to
  came-some behind last x j h =
      if-both (λ (r : Judged). IsSomeState r.states) j.is_unsure j _ h (by (fault_of (Some z.rule) x.port x.bytes))
    where
      answered : (l : List State) → IsSomeState (answered_by z behind last x l j).states
      answered [] = deviates-some behind x (aged z last x j.states) (front_rest j.states) j
          (map-some (λ s. state_with s.rest (levels_then z s.levels last x) s.waiting) j.states h)
      answered (s ∷ l) = tt

      by : (fault : Option Reason) → IsSomeState (came_by z behind last x fault j).states
      by None = thinned-some _ (answered (led_by (λ s. states_at z x (levels_then z s.levels last x) s) j.states))
      by (Some reason) = h

pub some-after : (z : Terms) (ys : List Gone) (behind : List Arrival) (events : List Event)
    → IsSomeState (judged_after z ys behind events).states
unfolding judged_after
some-after z ys behind [] = first-some z (first_levels (link z) z.by z.by.start) ys
some-after z ys behind (Came x ∷ before) =
    came-some z behind (last_time z.by (arrivals_came (sound_events z before))) x
    (judged_after z ys (x ∷ behind) before)
    (some-after z ys (x ∷ behind) before)
some-after z ys behind (Closing time ∷ before) =
    closed-some z time (judged_after z ys behind before) (some-after z ys behind before)
