-- Arrivals that come behind the moments of those before change nothing of what is found.
use Rattle.std.proofs.Common.{◌≡◌, ℕ, ◌+◌, ◌-◌, ◌<◌, Bool, true, false, ◌&&◌, Option, List, [], ◌∷◌, ◌++◌, refl, ap, ◌∙◌, arith}
use Rattle.std.proofs.lemmas.Bool.{ltb-false, leb-true}
use Rattle.std.proofs.lemmas.List.Folds.{list_any-append}
use Rattle.std.specs.Prelude.{if◌then◌else◌, ◌||◌, Some, None}
use Rattle.std.specs.List.{AllByRecursion, list_any}
use Rattle.std.specs.Str.{bytes_eq}
use Rattle.afdx_police.specs.Arrival.{Arrival}
use Rattle.afdx_police.specs.Shape.{fault_of}
use Rattle.afdx_police.specs.declared.shape.Reason.{Reason}
use Rattle.afdx_conform.specs.Events.{moment_at}
use Rattle.afdx_conform.specs.Explanations.{last_time, levels_then}
use Rattle.afdx_conform.specs.Findings.{Judged, lead, with_rest, front_rest, unexplained, closed_to, with_mark, aged, is_early, is_late, is_far, deviation_of, deviates_by, deviates, answered_by, few_of, came_by, came_to, rate_mark, is_uncertain, one_if, sound_events, judged_after}
use Rattle.afdx_conform.specs.Later.{ComeLater, LaterArrivalsFindNothing}
use Rattle.afdx_conform.specs.Leeway.{reach}
use Rattle.afdx_conform.specs.States.{Came, Closing, State, arrivals_came, led_by, states_at}
use Rattle.afdx_conform.specs.Streams.{Gone, Terms, fits, is_no_sooner, is_in_time, latency, wire_time}
use Rattle.afdx_conform.specs.declared.finding.Deviation.{Deviation}
use Rattle.afdx_conform.specs.declared.finding.Deviation.TheVariants as deviation
use Rattle.afdx_conform.specs.declared.finding.Finding.TheVariants.{Late, Early}

or-false : (a b : Bool) → b ≡ false → (a || b) ≡ a
or-false true b e = refl
or-false false b e = e

module _ (z : Terms) (behind more : List Arrival) (x : Arrival)
    (later : AllByRecursion (λ w. moment_at z x.time < w.time) more) where
  too-soon : (w : Arrival) (y : Gone) → y.time + reach z.by < w.time → fits z w y ≡ false
  unfolding fits
  too-soon w y h = by (bytes_eq w.bytes y.bytes) (is_no_sooner z w y) (is_in_time z w y) refl
    where
      by : (a b c : Bool) → is_no_sooner z w y ≡ b → (a && b && c) ≡ false
      by false b c e = refl
      by true false c e = refl
      by true true c e = absurd
          (let k = leb-true (w.time + wire_time z w.bytes) (y.time + reach z.by) e in omega (arith, k, h))

  none-fits : (y : Gone) → is_far z x y ≡ false → (ws : List Arrival)
      → AllByRecursion (λ w. moment_at z x.time < w.time) ws
      → list_any (λ w. fits z w y) ws ≡ false
  none-fits y near [] h = refl
  none-fits y near (w ∷ ws) h =
      let n = ltb-false (x.time + latency z + latency z + reach z.by) y.time near in
      let l = h.0 in
      rw (too-soon w y (omega (arith, n, l))) (none-fits y near ws h.1)

  deviation-same : (y : Gone) → deviation_of z (behind ++ more) x y ≡ deviation_of z behind x y
  deviation-same y = by (is_far z x y) refl
    where
      by : (b : Bool) → is_far z x y ≡ b
          → (if b then deviation.Stopped
          else if is_early z x y then deviation.Took (Early x.tag (x.time + wire_time z x.bytes - y.time))
          else if list_any (λ w. fits z w y) (behind ++ more) then deviation.Stopped
          else if bytes_eq x.bytes y.bytes && is_late z x y then deviation.Took
          (Late x.tag (y.time - x.time - latency z))
          else if is_late z x y then deviation.Stopped else deviation.Other)
          ≡ (if b then deviation.Stopped
          else if is_early z x y then deviation.Took (Early x.tag (x.time + wire_time z x.bytes - y.time))
          else if list_any (λ w. fits z w y) behind then deviation.Stopped
          else if bytes_eq x.bytes y.bytes && is_late z x y then deviation.Took
          (Late x.tag (y.time - x.time - latency z))
          else if is_late z x y then deviation.Stopped else deviation.Other)
      by true e = refl
      by false e =
          ap (λ (b : Bool). if is_early z x y then deviation.Took (Early x.tag (x.time + wire_time z x.bytes - y.time))
          else if b then deviation.Stopped
          else if bytes_eq x.bytes y.bytes && is_late z x y then deviation.Took
          (Late x.tag (y.time - x.time - latency z))
          else if is_late z x y then deviation.Stopped else deviation.Other)
          (list_any-append (λ w. fits z w y) behind more
          ∙ or-false (list_any (λ w. fits z w y) behind) (list_any (λ w. fits z w y) more) (none-fits y e more later))

  deviates-same : (l : List State) (rest : List Gone) (j : Judged)
      → deviates z (behind ++ more) x l rest j ≡ deviates z behind x l rest j
  unfolding deviates
  deviates-same l [] j = refl
  deviates-same l (y ∷ rest) j =
      ap (λ (d : Deviation). deviates_by z d x l y rest j
      (deviates z (behind ++ more) x (with_rest rest (lead l)) rest (unexplained z x.time y j))) (deviation-same y)
      ∙ ap (λ (k : Judged). deviates_by z (deviation_of z behind x y) x l y rest j k)
      (deviates-same (with_rest rest (lead l)) rest (unexplained z x.time y j))

  came-same : (last : ℕ) (j : Judged) → came_to z (behind ++ more) last x j ≡ came_to z behind last x j
  unfolding came_to
  came-same last j = by j.is_unsure (fault_of (Some z.rule) x.port x.bytes)
    where
      answered : (l : List State) → answered_by z (behind ++ more) last x l j ≡ answered_by z behind last x l j
      answered [] = deviates-same (aged z last x j.states) (front_rest j.states) j
      answered (s ∷ l) = refl

      by : (b : Bool) (fault : Option Reason) → (if b then j else came_by z (behind ++ more) last x fault j)
          ≡ (if b then j else came_by z behind last x fault j)
      by true fault = refl
      by false None = ap (λ (k : Judged). with_mark x (rate_mark z last x j.states)
          (few_of z (one_if z (is_uncertain z last x j.states)) k))
          (answered (led_by (λ s. states_at z x (levels_then z s.levels last x) s) j.states))
      by false (Some reason) = refl

pub arrivals_later : LaterArrivalsFindNothing
unfolding judged_after ComeLater
arrivals_later z ys behind more [] h = refl
arrivals_later z ys behind more (Came x ∷ before) h =
    ap (λ (j : Judged). came_to z (behind ++ more) (last_time z.by (arrivals_came (sound_events z before))) x j)
    (arrivals_later z ys (x ∷ behind) more before h.1)
    ∙ came-same z behind more x h.0 (last_time z.by (arrivals_came (sound_events z before)))
    (judged_after z ys (x ∷ behind) before)
arrivals_later z ys behind more (Closing time ∷ before) h =
    ap (λ (j : Judged). closed_to z time j) (arrivals_later z ys behind more before h)
