-- Later events take back nothing of what was found.
use Rattle.std.proofs.Common.{◌≡◌, ℕ, ◌+◌, Option, List, [], ◌∷◌, ◌++◌, inl, inr, reverse, refl, sym, ap, ◌∙◌, subst}
use Rattle.std.proofs.lemmas.List.{append_assoc}
use Rattle.std.specs.Prelude.{Some, None}
use Rattle.std.specs.List.{AllByRecursion}
use Rattle.afdx_police.specs.Arrival.{Arrival}
use Rattle.afdx_police.specs.Shape.{fault_of}
use Rattle.afdx_police.specs.declared.shape.Reason.{Reason}
use Rattle.afdx_conform.specs.EventLaws.{IsTimeOf, AddsFound, FoundStays}
use Rattle.afdx_conform.specs.Events.{event_time}
use Rattle.afdx_conform.specs.Explanations.{last_time, levels_then}
use Rattle.afdx_conform.specs.Findings.{Found, Judged, lead, with_rest, has_some, front_rest, unexplained, skipped, closed_by, closed_to, with_states, aged, asked, deviation_of, deviates_by, deviates, answered_by, came_by, came_to, sound_events, judged_after}
use Rattle.afdx_conform.specs.Leeway.{reach}
use Rattle.afdx_conform.specs.States.{Event, Came, Closing, State, arrivals_came, led_by, kept, are_behind, states_at}
use Rattle.afdx_conform.specs.Streams.{Gone, Terms}
use Rattle.afdx_conform.specs.declared.finding.Deviation.{Deviation}
use Rattle.afdx_conform.specs.declared.finding.Deviation.TheVariants as deviation
use Rattle.afdx_conform.proofs.EveryLemmas.{every-append, every-on, reverse-first}
use Rattle.afdx_conform.proofs.FindingLemmas.{if-both}

-- more is found, at one time
record Adds (time : ℕ) (before after : Judged) : Type 0 where
  pub found : List Found
  pub added : after.findings ≡ found ++ before.findings
  pub at_time : AllByRecursion (λ f. time ≡ f.time) found

adds-none : (time : ℕ) (before after : Judged) → after.findings ≡ before.findings → Adds time before after
adds-none time before after e = record { found = []; added = e; at_time = tt }

adds-on : (time : ℕ) (a b c : Judged) → Adds time a b → Adds time b c → Adds time a c
adds-on time a b c p q = record {
  found = q.found ++ p.found;
  added = q.added ∙ ap (λ (l : List Found). q.found ++ l) p.added ∙ sym (append_assoc q.found p.found a.findings);
  at_time = every-append (λ f. time ≡ f.time) q.found p.found q.at_time p.at_time;
}

adds-one : (z : Terms) (time : ℕ) (y : Gone) (j : Judged) → Adds time j (unexplained z time y j)
unfolding unexplained
adds-one z time y j = record { found = _ ∷ []; added = refl; at_time = (refl, tt) }

module _ (z : Terms) where
  skipped-adds : (time : ℕ) (front : List State) (rest : List Gone) (j : Judged)
      → Adds (time + reach z.by) j (skipped z time front rest j)
  unfolding skipped
  skipped-adds time front [] j = adds-none (time + reach z.by) j _ refl
  skipped-adds time front (y ∷ rest) j =
      let one = adds-one z (time + reach z.by) y j in
      if-both (λ (r : Judged). Adds (time + reach z.by) j r) (are_behind time rest)
      (with_states (with_rest rest front) (unexplained z (time + reach z.by) y j))
      (skipped z time front rest (unexplained z (time + reach z.by) y j))
      (record { found = one.found; added = one.added; at_time = one.at_time })
      (adds-on (time + reach z.by) j (unexplained z (time + reach z.by) y j) _ one
      (skipped-adds time front rest (unexplained z (time + reach z.by) y j)))

  closed-adds : (time : ℕ) (j : Judged) → Adds (time + reach z.by) j (closed_to z time j)
  unfolding closed_to
  closed-adds time j =
      if-both (λ (r : Judged). Adds (time + reach z.by) j r) j.is_unsure j
      (closed_by z time (kept (λ s. are_behind time s.rest) j.states) j) (adds-none (time + reach z.by) j j refl)
      (by (kept (λ s. are_behind time s.rest) j.states))
    where
      by : (l : List State) → Adds (time + reach z.by) j (closed_by z time l j)
      by [] = skipped-adds time (lead j.states) (front_rest j.states) j
      by (s ∷ l) = adds-none (time + reach z.by) j _ refl

  deviates-adds : (behind : List Arrival) (x : Arrival) (l : List State) (rest : List Gone) (j : Judged)
      → Adds x.time j (deviates z behind x l rest j)
  unfolding deviates
  deviates-adds behind x l [] j = record { found = _ ∷ []; added = refl; at_time = (refl, tt) }
  deviates-adds behind x l (y ∷ rest) j =
      by (deviation_of z behind x y)
      (adds-on x.time j (unexplained z x.time y j) _ (adds-one z x.time y j)
      (deviates-adds behind x (with_rest rest (lead l)) rest (unexplained z x.time y j)))
    where
      next : Judged
      next = deviates z behind x (with_rest rest (lead l)) rest (unexplained z x.time y j)

      by : (d : Deviation) → Adds x.time j next → Adds x.time j (deviates_by z d x l y rest j next)
      by deviation.Stopped a = record { found = _ ∷ []; added = refl; at_time = (refl, tt) }
      by (deviation.Took finding) a = record { found = _ ∷ []; added = refl; at_time = (refl, tt) }
      by deviation.Other a =
          let one = adds-one z x.time y j in
          if-both (λ (r : Judged). Adds x.time j r) (has_some (asked z x rest l))
          (with_states (asked z x rest l) (unexplained z x.time y j)) next
          (record { found = one.found; added = one.added; at_time = one.at_time }) a

  came-adds : (behind : List Arrival) (last : ℕ) (x : Arrival) (j : Judged) → Adds x.time j (came_to z behind last x j)
  unfolding came_to
  came-adds behind last x j =
      if-both (λ (r : Judged). Adds x.time j r) j.is_unsure j
      (came_by z behind last x (fault_of (Some z.rule) x.port x.bytes) j)
      (adds-none x.time j j refl) (by (fault_of (Some z.rule) x.port x.bytes))
    where
      answered : (l : List State) → Adds x.time j (answered_by z behind last x l j)
      answered [] = deviates-adds behind x (aged z last x j.states) (front_rest j.states) j
      answered (s ∷ l) = adds-none x.time j _ refl

      by : (fault : Option Reason) → Adds x.time j (came_by z behind last x fault j)
      by None =
          let a = answered (led_by (λ s. states_at z x (levels_then z s.levels last x) s) j.states) in
          record { found = a.found; added = a.added; at_time = a.at_time }
      by (Some reason) = adds-none x.time j _ refl

  stays-on : (e : Event) (more : List Event) (before : List Found) (mid after : Judged)
      → AddsFound z more before mid.findings
      → Adds (event_time z e) mid after → AddsFound z (e ∷ more) before after.findings
  stays-on e more before mid after a b = record {
    found = b.found ++ a.found;
    added = b.added ∙ ap (λ (l : List Found). b.found ++ l) a.added ∙ sym (append_assoc b.found a.found before);
    at_events = every-append (λ f. IsTimeOf z f.time (e ∷ more)) b.found a.found
        (every-on (λ f. event_time z e ≡ f.time) (λ f. IsTimeOf z f.time (e ∷ more)) (λ f h. inl h) b.found b.at_time)
        (every-on (λ f. IsTimeOf z f.time more) (λ f. IsTimeOf z f.time (e ∷ more)) (λ f h. inr h) a.found a.at_events);
  }

pub found_stays : FoundStays
unfolding judged_after
found_stays z ys behind [] before = record { found = []; added = refl; at_events = tt }
found_stays z ys behind (Came x ∷ more) before =
    let same : reverse (x ∷ arrivals_came more) ++ behind ≡ reverse (arrivals_came more) ++ (x ∷ behind) =
    ap (λ (l : List Arrival). l ++ behind) (reverse-first x (arrivals_came more))
    ∙ append_assoc (reverse (arrivals_came more)) (x ∷ []) behind in
    subst (λ (l : List Arrival). AddsFound z (Came x ∷ more) (judged_after z ys l before).findings
    (came_to z behind (last_time z.by (arrivals_came (sound_events z (more ++ before)))) x
    (judged_after z ys (x ∷ behind) (more ++ before))).findings) (sym same)
    (stays-on z (Came x) more (judged_after z ys (reverse (arrivals_came more) ++ (x ∷ behind)) before).findings
    (judged_after z ys (x ∷ behind) (more ++ before)) _ (found_stays z ys (x ∷ behind) more before)
    (came-adds z behind (last_time z.by (arrivals_came (sound_events z (more ++ before)))) x
    (judged_after z ys (x ∷ behind) (more ++ before))))
found_stays z ys behind (Closing time ∷ more) before =
    stays-on z (Closing time) more (judged_after z ys (reverse (arrivals_came more) ++ behind) before).findings
    (judged_after z ys behind (more ++ before)) _ (found_stays z ys behind more before)
    (closed-adds z time (judged_after z ys behind (more ++ before)))
