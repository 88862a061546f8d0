-- While no arrival is open, the end changes nothing of what is found.
use Rattle.std.proofs.Common.{◌≡◌, ℕ, ◌+◌, Bool, true, false, Option, List, [], ◌∷◌, refl, ap, ◌∙◌}
use Rattle.std.specs.Prelude.{if◌then◌else◌, Some, None}
use Rattle.afdx_police.specs.Arrival.{Arrival}
use Rattle.afdx_police.specs.Shape.{fault_of}
use Rattle.afdx_police.specs.declared.shape.Reason.{Reason}
use Rattle.afdx_conform.specs.Ahead.{until_then, NoneIsOpen}
use Rattle.afdx_conform.specs.Explanations.{link, last_time, levels_then}
use Rattle.afdx_conform.specs.Findings.{Finding, Judged, Marked, judged_with, found_at, finding_or, passed_or, named_or, names_it, first_named, once_named, strangeness, lead, with_rest, has_some, front_rest, unexplained, skipped, closed_by, closed_to, with_states, with_mark, aged, asked, deviation_of, deviates_by, deviates, answered_by, few_of, came_by, came_to, rate_mark, is_uncertain, one_if, sound_events, judged_after}
use Rattle.afdx_conform.specs.Later.{EndFindsNothing}
use Rattle.afdx_conform.specs.Leeway.{reach}
use Rattle.afdx_conform.specs.Levels.{first_levels}
use Rattle.afdx_conform.specs.States.{Event, Came, Closing, State, arrivals_came, led_by, kept, are_behind, states_at}
use Rattle.afdx_conform.specs.Streams.{Gone, Terms, fits, is_open}
use Rattle.afdx_conform.specs.declared.finding.Deviation.{Deviation}
use Rattle.afdx_conform.specs.declared.finding.Deviation.TheVariants as deviation
use Rattle.afdx_conform.specs.declared.finding.Finding.TheVariants.{Strange}
use Rattle.afdx_conform.proofs.EndLemmas.{led-same, same-at, same-first}

module _ (z : Terms) (until : ℕ) where
  abbrev w : Terms
  w = until_then until z

  same-named : (y : Gone) (l : List Marked) → first_named w y l ≡ first_named z y l
  unfolding first_named fits
  same-named y [] = refl
  same-named y (m ∷ l) = ap (λ (o : Option Finding). passed_or (names_it z y m) m.arrival.tag o) (same-named y l)

  same-once : (y : Gone) (l : List Marked) → once_named w y l ≡ once_named z y l
  unfolding once_named fits
  same-once y [] = refl
  same-once y (m ∷ l) = ap (λ (k : List Marked). named_or (names_it z y m) m l k) (same-once y l)

  same-unexplained : (time : ℕ) (y : Gone) (j : Judged) → unexplained w time y j ≡ unexplained z time y j
  unfolding unexplained strangeness fits
  same-unexplained time y j =
      ap (λ (l : List Marked). judged_with j.states l
      (found_at time (finding_or (first_named w y j.arrivals)
      (Strange y.number (strangeness z j.arrivals y))) ∷ j.findings)
      (j.frames + 1) j.uncertain j.is_unsure) (same-once y j.arrivals)
      ∙ ap (λ (o : Option Finding). judged_with j.states (once_named z y j.arrivals)
      (found_at time (finding_or o (Strange y.number (strangeness z j.arrivals y))) ∷ j.findings)
      (j.frames + 1) j.uncertain j.is_unsure) (same-named y j.arrivals)

  same-skipped : (time : ℕ) (front : List State) (rest : List Gone) (j : Judged)
      → skipped w time front rest j ≡ skipped z time front rest j
  unfolding skipped
  same-skipped time front [] j = refl
  same-skipped time front (y ∷ rest) j =
      ap (λ (k : Judged). if are_behind time rest then with_states (with_rest rest front) k
      else skipped w time front rest k)
      (same-unexplained (time + reach z.by) y j)
      ∙ ap (λ (k : Judged). if are_behind time rest
      then with_states (with_rest rest front) (unexplained z (time + reach z.by) y j) else k)
      (same-skipped time front rest (unexplained z (time + reach z.by) y j))

  same-closed : (time : ℕ) (j : Judged) → closed_to w time j ≡ closed_to z time j
  unfolding closed_to
  same-closed time j =
      ap (λ (k : Judged). if j.is_unsure then j else k) (by (kept (λ s. are_behind time s.rest) j.states))
    where
      by : (l : List State) → closed_by w time l j ≡ closed_by z time l j
      by [] = same-skipped time (lead j.states) (front_rest j.states) j
      by (s ∷ l) = refl

  same-deviation : (behind : List Arrival) (x : Arrival) (y : Gone)
      → deviation_of w behind x y ≡ deviation_of z behind x y
  unfolding fits
  same-deviation behind x y = refl

  module _ (behind : List Arrival) (x : Arrival) (here : is_open z x ≡ false) (there : is_open w x ≡ false) where
    same-asked : (rest : List Gone) (l : List State) → asked w x rest l ≡ asked z x rest l
    same-asked rest l = led-same (λ s. states_at w x s.levels s) (λ s. states_at z x s.levels s)
        (λ s. same-at z until x s.levels s here there) (with_rest rest (lead l))

    same-deviates : (l : List State) (rest : List Gone) (j : Judged)
        → deviates w behind x l rest j ≡ deviates z behind x l rest j
    unfolding deviates
    same-deviates l [] j = refl
    same-deviates l (y ∷ rest) j =
        ap (λ (d : Deviation). deviates_by w d x l y rest j
        (deviates w behind x (with_rest rest (lead l)) rest (unexplained w x.time y j))) (same-deviation behind x y)
        ∙ ap (λ (k : Judged). deviates_by w (deviation_of z behind x y) x l y rest j
        (deviates w behind x (with_rest rest (lead l)) rest k)) (same-unexplained x.time y j)
        ∙ ap (λ (k : Judged). deviates_by w (deviation_of z behind x y) x l y rest j k)
        (same-deviates (with_rest rest (lead l)) rest (unexplained z x.time y j))
        ∙ by (deviation_of z behind x y) (deviates z behind x (with_rest rest (lead l)) rest (unexplained z x.time y j))
      where
        by : (d : Deviation) (next : Judged) → deviates_by w d x l y rest j next ≡ deviates_by z d x l y rest j next
        by deviation.Stopped next = refl
        by (deviation.Took finding) next = refl
        by deviation.Other next =
            ap (λ (k : List State). if has_some k then with_states k (unexplained w x.time y j) else next)
            (same-asked rest l)
            ∙ ap (λ (k : Judged). if has_some (asked z x rest l) then with_states (asked z x rest l) k else next)
            (same-unexplained x.time y j)

    same-came : (last : ℕ) (j : Judged) → came_to w behind last x j ≡ came_to z behind last x j
    unfolding came_to
    same-came last j = by j.is_unsure (fault_of (Some z.rule) x.port x.bytes)
      where
        answered : (l : List State) → answered_by w behind last x l j ≡ answered_by z behind last x l j
        answered [] = same-deviates (aged z last x j.states) (front_rest j.states) j
        answered (s ∷ l) = refl

        by : (b : Bool) (fault : Option Reason) → (if b then j else came_by w behind last x fault j)
            ≡ (if b then j else came_by z behind last x fault j)
        by true fault = refl
        by false None =
            ap (λ (l : List State). with_mark x (rate_mark z last x j.states)
            (few_of z (one_if z (is_uncertain z last x j.states))
            (answered_by w behind last x l j)))
            (led-same (λ s. states_at w x (levels_then z s.levels last x) s)
            (λ s. states_at z x (levels_then z s.levels last x) s)
            (λ s. same-at z until x (levels_then z s.levels last x) s here there) j.states)
            ∙ ap (λ (k : Judged). with_mark x (rate_mark z last x j.states)
            (few_of z (one_if z (is_uncertain z last x j.states)) k))
            (answered (led_by (λ s. states_at z x (levels_then z s.levels last x) s) j.states))
        by false (Some reason) = refl

  same-sound : (events : List Event) → sound_events w events ≡ sound_events z events
  unfolding sound_events
  same-sound [] = refl
  same-sound (Came x ∷ before) = rw (same-sound before) refl
  same-sound (Closing time ∷ before) = ap (λ (l : List Event). Closing time ∷ l) (same-sound before)

pub end_later : EndFindsNothing
unfolding judged_after NoneIsOpen
end_later z until ys behind [] a b =
    ap (λ (l : List State). judged_with l [] [] 0 0 false)
    (same-first z until (first_levels (link z) z.by z.by.start) ys)
end_later z until ys behind (Came x ∷ before) a b =
    ap (λ (l : List Event). came_to (until_then until z) behind (last_time z.by (arrivals_came l)) x
    (judged_after (until_then until z) ys (x ∷ behind) before)) (same-sound z until before)
    ∙ ap (λ (j : Judged). came_to (until_then until z) behind
    (last_time z.by (arrivals_came (sound_events z before))) x j)
    (end_later z until ys (x ∷ behind) before a.1 b.1)
    ∙ same-came z until behind x a.0 b.0 (last_time z.by (arrivals_came (sound_events z before)))
    (judged_after z ys (x ∷ behind) before)
end_later z until ys behind (Closing time ∷ before) a b =
    ap (λ (j : Judged). closed_to (until_then until z) time j) (end_later z until ys behind before a b)
    ∙ same-closed z until time (judged_after z ys behind before)
