-- Frames that left far behind change nothing of what is found.
use Rattle.std.proofs.Common.{◌≡◌, ℕ, ◌+◌, ◌-◌, ◌<◌, Bool, true, false, ◌&&◌, Option, List, [], ◌∷◌, ◌++◌, map, length, refl, ap, ◌∙◌, subst, arith}
use Rattle.std.proofs.lemmas.List.{length-map}
use Rattle.std.proofs.lemmas.Bool.{ltb-true}
use Rattle.std.specs.Prelude.{if◌then◌else◌, not, nat_lt, Some, None}
use Rattle.std.specs.List.{AllByRecursion, list_any}
use Rattle.std.specs.Str.{bytes_eq}
use Rattle.afdx_police.specs.Arrival.{Arrival}
use Rattle.afdx_police.specs.Shape.{fault_of}
use Rattle.afdx_police.specs.declared.shape.Reason.{Reason}
use Rattle.afdx_police.specs.declared.shape.Reason.TheVariants.{OverRate}
use Rattle.afdx_conform.specs.Ahead.{with_more}
use Rattle.afdx_conform.specs.Explanations.{link, charge, last_time, levels_then}
use Rattle.afdx_conform.specs.Findings.{Finding, Judged, judged_with, with_finding, stopped, took, is_early, is_late, lead, with_rest, has_some, front_rest, unexplained, skipped, closed_by, closed_to, with_states, with_mark, aged, as_accepted, asked, is_far, deviation_of, deviates_by, deviates, answered_by, few_of, most_states, sound_came, came_by, came_to, rate_mark, is_uncertain, one_if, sound_events, judged_after, thinned_onto}
use Rattle.afdx_conform.specs.Later.{AreFar, judged_more, LaterFramesFindNothing}
use Rattle.afdx_conform.specs.Laws.{IsSomeState}
use Rattle.afdx_conform.specs.Leeway.{reach}
use Rattle.afdx_conform.specs.Levels.{first_levels, may_pass, has_to_pass}
use Rattle.afdx_conform.specs.States.{Came, Closing, State, state_with, arrivals_came, led_by, kept, are_behind, states_at}
use Rattle.afdx_conform.specs.Streams.{Gone, Terms, fits, latency, wire_time, is_open}
use Rattle.afdx_conform.specs.declared.finding.Deviation.{Deviation}
use Rattle.afdx_conform.specs.declared.finding.Deviation.TheVariants as deviation
use Rattle.afdx_conform.specs.declared.finding.Finding.TheVariants.{Stopped, Late, Early}
use Rattle.afdx_conform.proofs.AheadLemmas.{led-map, kept-map, behind-same, first-more, at-more}
use Rattle.afdx_conform.proofs.AmongLemmas.{Among, kept-among}
use Rattle.afdx_conform.proofs.EveryLemmas.{every-on}
use Rattle.afdx_conform.proofs.FindingLemmas.{front-is}
use Rattle.afdx_conform.proofs.LaterStates.{any-through, thinned-same, front-more, lead-more, rest-more, has-more, aged-more, accepted-more, map-some, lead-some}
use Rattle.afdx_conform.proofs.SomeLemmas.{some-after}

if-equal : {X : Type 0} (b c : Bool) (u v w : X) → b ≡ c → (if c then u else v) ≡ w → (if b then u else v) ≡ w
if-equal b c u v w e h = ap (λ d. if d then u else v) e ∙ h

module _ (z : Terms) (more : List Gone) where
  abbrev M : List State → List State
  M l = map (with_more more) l

  abbrev J : Judged → Judged
  J j = judged_more more j

  abbrev Behind : ℕ → Type 0
  Behind time = AllByRecursion (λ y. time < y.time) more

  -- ---- a closing

  skipped-more : (time : ℕ) (front : List State) (y : Gone) (rest : List Gone) (j : Judged) → Behind time
      → skipped z time (M front) (y ∷ (rest ++ more)) (J j) ≡ J (skipped z time front (y ∷ rest) j)
  unfolding skipped unexplained are_behind
  skipped-more time front y [] j h =
      if-equal (are_behind time more) true _ _ _ (behind-same time [] more h)
      (ap (λ (l : List State). with_states l (unexplained z (time + reach z.by) y j)) (rest-more more [] front))
  skipped-more time front y (w ∷ rest) j h =
      if-equal (are_behind time (w ∷ (rest ++ more))) (are_behind time (w ∷ rest)) _ _ _
      (behind-same time (w ∷ rest) more h)
      (by (are_behind time (w ∷ rest)) (skipped-more time front w rest (unexplained z (time + reach z.by) y j) h))
    where
      next : Judged
      next = unexplained z (time + reach z.by) y j

      by : (b : Bool) → skipped z time (M front) (w ∷ (rest ++ more)) (J next)
          ≡ J (skipped z time front (w ∷ rest) next)
          → (if b then with_states (with_rest (w ∷ (rest ++ more)) (M front)) (J next)
          else skipped z time (M front) (w ∷ (rest ++ more)) (J next))
          ≡ J (if b then with_states (with_rest (w ∷ rest) front) next else skipped z time front (w ∷ rest) next)
      by true e = ap (λ (l : List State). with_states l next) (rest-more more (w ∷ rest) front)
      by false e = e

  abbrev Stays : ℕ → State → Bool
  Stays time s = are_behind time s.rest

  front-left : (time : ℕ) (l : List State) (rest : List Gone) → front_rest l ≡ rest → IsSomeState l
      → kept (Stays time) l ≡ []
      → (j : Judged) → Behind time
      → skipped z time (M (lead l)) (rest ++ more) (J j) ≡ J (skipped z time (lead l) rest j)
  unfolding are_behind
  front-left time l [] e some none j h =
      let f = front-is l some in
      absurd (subst (λ (k : List State). Among f.of k) none
      (kept-among (Stays time) l f.of f.among (ap (λ (r : List Gone). are_behind time r) (f.rest ∙ e))))
  front-left time l (y ∷ rest) e some none j h = skipped-more time (lead l) y rest j h

  closed-more : (time : ℕ) (j : Judged) → IsSomeState j.states → Behind time
      → closed_to z time (J j) ≡ J (closed_to z time j)
  unfolding closed_to
  closed-more time j some h =
      ap (λ (l : List State). if j.is_unsure then J j else closed_by z time l (J j))
      (kept-map (with_more more) (Stays time) (λ s. behind-same time s.rest more h) j.states)
      ∙ by j.is_unsure (kept (Stays time) j.states) refl
    where
      none : kept (Stays time) j.states ≡ [] → closed_by z time [] (J j) ≡ J (closed_by z time [] j)
      none e =
          ap (λ (l : List State). skipped z time l (front_rest (M j.states)) (J j)) (lead-more more j.states some)
          ∙ ap (λ (r : List Gone). skipped z time (M (lead j.states)) r (J j)) (front-more more j.states some)
          ∙ front-left time j.states (front_rest j.states) refl some e j h

      by : (b : Bool) (l : List State) → kept (Stays time) j.states ≡ l
          → (if b then J j else closed_by z time (M l) (J j)) ≡ J (if b then j else closed_by z time l j)
      by true l e = refl
      by false [] e = none e
      by false (s ∷ l) e = refl

  -- ---- an arrival

  module _ (behind : List Arrival) (x : Arrival) (opens : is_open z x ≡ false)
      (far : AllByRecursion (λ y. is_far z x y ≡ true) more) where
    late : AllByRecursion (λ y. x.time + latency z + reach z.by < y.time) more
    late = every-on (λ y. is_far z x y ≡ true) (λ y. x.time + latency z + reach z.by < y.time)
        (λ y e. let h = ltb-true (x.time + latency z + latency z + reach z.by) y.time e in omega
        (arith, h)) more far

    asked-more : (rest : List Gone) (l : List State) → IsSomeState l
        → asked z x (rest ++ more) (M l) ≡ M (asked z x rest l)
    asked-more rest l some =
        ap (λ (k : List State). led_by (λ s. states_at z x s.levels s) (with_rest (rest ++ more) k))
        (lead-more more l some)
        ∙ ap (λ (k : List State). led_by (λ s. states_at z x s.levels s) k) (rest-more more rest (lead l))
        ∙ led-map (with_more more) (λ s. states_at z x s.levels s) (λ s. states_at z x s.levels s)
        (λ s. at-more z x s.levels more opens late s) (with_rest rest (lead l))

    abbrev Once : List State → List Gone → Judged → Type 0
    Once l rest j = deviates z behind x (M l) (rest ++ more) (J j) ≡ J (deviates z behind x l rest j)

    stopped-more : (l : List State) (j : Judged) → stopped z x (M l) (J j) ≡ J (stopped z x l j)
    stopped-more l j = ap (λ (k : List State). with_states k (with_finding x.time (Stopped x.tag) 0 j))
        (accepted-more more z x l)

    took-more : (finding : Finding) (l : List State) (rest : List Gone) (j : Judged) → IsSomeState l
        → took z x finding (M l) (rest ++ more) (J j) ≡ J (took z x finding l rest j)
    took-more finding l rest j some =
        ap (λ (k : List State). with_states k (with_finding x.time finding 1 j))
        (ap (λ (k : List State). with_rest (rest ++ more) (as_accepted z x k)) (lead-more more l some)
        ∙ ap (λ (k : List State). with_rest (rest ++ more) k) (accepted-more more z x (lead l))
        ∙ rest-more more rest (as_accepted z x (lead l)))

    ends-far : (ends : List Gone) → AllByRecursion (λ y. is_far z x y ≡ true) ends → (l : List State) (j : Judged)
        → deviates z behind x l ends j ≡ stopped z x l j
    unfolding deviates
    ends-far [] h l j = refl
    ends-far (m ∷ ends) h l j =
        ap (λ (b : Bool). deviates_by z
        (if b then deviation.Stopped
        else if is_early z x m then deviation.Took (Early x.tag (x.time + wire_time z x.bytes - m.time))
        else if list_any (λ w. fits z w m) behind then deviation.Stopped
        else if bytes_eq x.bytes m.bytes && is_late z x m then deviation.Took (Late x.tag (m.time - x.time - latency z))
        else if is_late z x m then deviation.Stopped else deviation.Other) x l m ends j
        (deviates z behind x (with_rest ends (lead l)) ends (unexplained z x.time m j))) h.0

    deviates-more : (l : List State) (rest : List Gone) (j : Judged) → IsSomeState l → Once l rest j
    unfolding deviates unexplained
    deviates-more l [] j some = ends-far more far (M l) (J j) ∙ stopped-more l j
    deviates-more l (y ∷ rest) j some =
        ap (λ (k : Judged). deviates_by z (deviation_of z behind x y) x (M l) y (rest ++ more) (J j) k)
        (again (deviates-more (with_rest rest (lead l)) rest (unexplained z x.time y j)
        (map-some (λ s. state_with rest s.levels s.waiting) (lead l) (lead-some l some))))
        ∙ by (deviation_of z behind x y)
      where
        next : Judged
        next = unexplained z x.time y j

        again : Once (with_rest rest (lead l)) rest next
            → deviates z behind x (with_rest (rest ++ more) (lead (M l))) (rest ++ more) (unexplained z x.time y (J j))
            ≡ J (deviates z behind x (with_rest rest (lead l)) rest next)
        again once =
            ap (λ (k : List State). deviates z behind x (with_rest (rest ++ more) k) (rest ++ more) (J next))
            (lead-more more l some)
            ∙ ap (λ (k : List State). deviates z behind x k (rest ++ more) (J next)) (rest-more more rest (lead l))
            ∙ once

        other : (b : Bool) → (k : Judged)
            → (if b then with_states (asked z x (rest ++ more) (M l)) (J next) else J k)
            ≡ J (if b then with_states (asked z x rest l) next else k)
        other true k = ap (λ (r : List State). with_states r next) (asked-more rest l some)
        other false k = refl

        by : (d : Deviation)
            → deviates_by z d x (M l) y (rest ++ more) (J j)
            (J (deviates z behind x (with_rest rest (lead l)) rest next))
            ≡ J (deviates_by z d x l y rest j (deviates z behind x (with_rest rest (lead l)) rest next))
        by deviation.Stopped = stopped-more l j
        by (deviation.Took finding) = took-more finding l rest j some
        by deviation.Other =
            if-equal (has_some (asked z x (rest ++ more) (M l))) (has_some (asked z x rest l)) _ _ _
            (ap (λ (k : List State). has_some k) (asked-more rest l some) ∙ has-more more (asked z x rest l))
            (other (has_some (asked z x rest l)) (deviates z behind x (with_rest rest (lead l)) rest next))

    module _ (last : ℕ) (j : Judged) (some : IsSomeState j.states) where
      abbrev To : State → List State
      To s = states_at z x (levels_then z s.levels last x) s

      led-more : led_by To (M j.states) ≡ M (led_by To j.states)
      led-more = led-map (with_more more) To To
          (λ s. at-more z x (levels_then z s.levels last x) more opens late s) j.states

      answered-more : (l : List State) → answered_by z behind last x (M l) (J j) ≡ J (answered_by z behind last x l j)
      answered-more [] =
          ap (λ (k : List State). deviates z behind x k (front_rest (M j.states)) (J j))
          (aged-more more z last x j.states)
          ∙ ap (λ (r : List Gone). deviates z behind x (M (aged z last x j.states)) r (J j))
          (front-more more j.states some)
          ∙ deviates-more (aged z last x j.states) (front_rest j.states) j
          (map-some (λ s. state_with s.rest (levels_then z s.levels last x) s.waiting) j.states some)
      answered-more (s ∷ l) = refl

      rate-more : rate_mark z last x (M j.states) ≡ rate_mark z last x j.states
      rate-more = ap (λ (b : Bool). if b then None else Some OverRate)
          (any-through (λ s. may_pass (link z) z.by (charge z x) (levels_then z s.levels last x))
          (λ s. may_pass (link z) z.by (charge z x) (levels_then z s.levels last x)) (with_more more)
          (λ s. refl) j.states)

      uncertain-more : is_uncertain z last x (M j.states) ≡ is_uncertain z last x j.states
      uncertain-more = any-through (λ s. may_pass (link z) z.by (charge z x) (levels_then z s.levels last x)
          && not (has_to_pass (link z) z.by (charge z x) (levels_then z s.levels last x)))
          (λ s. may_pass (link z) z.by (charge z x) (levels_then z s.levels last x)
          && not (has_to_pass (link z) z.by (charge z x) (levels_then z s.levels last x))) (with_more more)
          (λ s. refl) j.states

      few-more : (n : ℕ) (k : Judged) → few_of z n (J k) ≡ J (few_of z n k)
      few-more n k =
          ap (λ (l : List State). judged_with l k.arrivals k.findings k.frames (k.uncertain + n)
          (nat_lt most_states (length l)))
          (thinned-same more [] k.states)
          ∙ ap (λ (m : ℕ). judged_with (M (thinned_onto [] k.states)) k.arrivals k.findings k.frames (k.uncertain + n)
          (nat_lt most_states m))
          (length-map (thinned_onto [] k.states) (with_more more))

      sound-more : sound_came z behind last x (J j) ≡ J (sound_came z behind last x j)
      sound-more =
          ap (λ (m : Option Reason). with_mark x m (few_of z (one_if z (is_uncertain z last x (M j.states)))
          (answered_by z behind last x (led_by To (M j.states)) (J j)))) rate-more
          ∙ ap (λ (b : Bool). with_mark x (rate_mark z last x j.states) (few_of z (one_if z b)
          (answered_by z behind last x (led_by To (M j.states)) (J j)))) uncertain-more
          ∙ ap (λ (l : List State). with_mark x (rate_mark z last x j.states)
          (few_of z (one_if z (is_uncertain z last x j.states))
          (answered_by z behind last x l (J j)))) led-more
          ∙ ap (λ (k : Judged). with_mark x (rate_mark z last x j.states)
          (few_of z (one_if z (is_uncertain z last x j.states)) k))
          (answered-more (led_by To j.states))
          ∙ ap (λ (k : Judged). with_mark x (rate_mark z last x j.states) k)
          (few-more (one_if z (is_uncertain z last x j.states)) (answered_by z behind last x (led_by To j.states) j))

      pub came-more : came_to z behind last x (J j) ≡ J (came_to z behind last x j)
      unfolding came_to
      came-more = by j.is_unsure (fault_of (Some z.rule) x.port x.bytes)
        where
          by : (b : Bool) (fault : Option Reason) → (if b then J j else came_by z behind last x fault (J j))
              ≡ J (if b then j else came_by z behind last x fault j)
          by true fault = refl
          by false None = sound-more
          by false (Some reason) = refl

pub frames_later : LaterFramesFindNothing
unfolding judged_after AreFar
frames_later z ys more behind [] h =
    ap (λ (l : List State). judged_with l [] [] 0 0 false)
    (first-more z (first_levels (link z) z.by z.by.start) ys more h)
frames_later z ys more behind (Came x ∷ before) h =
    ap (λ (j : Judged). came_to z behind (last_time z.by (arrivals_came (sound_events z before))) x j)
    (frames_later z ys more (x ∷ behind) before h.2)
    ∙ came-more z more behind x h.0 h.1 (last_time z.by (arrivals_came (sound_events z before)))
    (judged_after z ys (x ∷ behind) before) (some-after z ys (x ∷ behind) before)
frames_later z ys more behind (Closing time ∷ before) h =
    ap (λ (j : Judged). closed_to z time j) (frames_later z ys more behind before h.1)
    ∙ closed-more z more time (judged_after z ys behind before) (some-after z ys behind before) h.0
