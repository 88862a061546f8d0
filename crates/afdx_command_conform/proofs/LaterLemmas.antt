-- What is found at the later events of a stream.
use Rattle.std.proofs.Common.{◌≡◌, ℕ, Bool, true, false, List, [], ◌∷◌, ◌++◌, inl, inr, reverse, refl, sym, ap, ◌∙◌, subst, true≢false}
use Rattle.std.proofs.lemmas.List.{append_assoc}
use Rattle.std.specs.Prelude.{if◌then◌else◌, Some}
use Rattle.std.specs.List.{AllByRecursion}
use Rattle.afdx_police.specs.Arrival.{Arrival}
use Rattle.afdx_police.specs.Shape.{fault_of}
use Rattle.afdx_conform.specs.EventLaws.{IsTimeOf}
use Rattle.afdx_conform.specs.Events.{event_time}
use Rattle.afdx_conform.specs.Explanations.{last_time}
use Rattle.afdx_conform.specs.Findings.{Found, Judged, Marked, came_by, came_to, closed_by, closed_to, judged_after, sound_events}
use Rattle.afdx_conform.specs.States.{Event, Came, Closing, arrivals_came, are_behind, kept}
use Rattle.afdx_conform.specs.Streams.{Gone, Terms}
use Rattle.afdx_conform.proofs.EveryLemmas.{every-on, reverse-first}
use Rattle.afdx_conform.proofs.GrowthCloses.{closed-unsure}
use Rattle.afdx_conform.proofs.GrowthDecides.{came-last}
use Rattle.afdx_conform.proofs.StaysLemmas.{found_stays}

-- one of them is so, if it is one
at-time : (z : Terms) (P : ℕ → Type 0) (events : List Event) (time : ℕ)
    → AllByRecursion (λ e. P (event_time z e)) events
    → IsTimeOf z time events → P time
at-time z P [] time h k = absurd k
at-time z P (e ∷ events) time h (inl same) = subst (λ t. P t) same h.0
at-time z P (e ∷ events) time h (inr k) = at-time z P events time h.1 k

last-of : {X : Type 0} (xs ws : List X) (x w : X) → xs ++ (x ∷ []) ≡ ws ++ (w ∷ []) → x ≡ w
last-of [] [] x w e = cc
last-of [] (v ∷ []) x w e = absurd (cc)
last-of [] (v ∷ u ∷ ws) x w e = absurd (cc)
last-of (v ∷ []) [] x w e = absurd (cc)
last-of (v ∷ u ∷ xs) [] x w e = absurd (cc)
last-of {X = X} (v ∷ xs) (u ∷ ws) x w e = last-of xs ws x w (tails e)
  where
    tails : v ∷ (xs ++ (x ∷ [])) ≡ u ∷ (ws ++ (w ∷ [])) → xs ++ (x ∷ []) ≡ ws ++ (w ∷ [])
    tails k = cc

module _ (z : Terms) (P : ℕ → Type 0) where
  -- more is found, at such times; where a stream is unsure only then, its newest arrival came at such a time
  pub record AddsAt (before after : Judged) : Type 0 where
    pub found : List Found
    pub added : after.findings ≡ found ++ before.findings
    pub at : AllByRecursion (λ f. P f.time) found
    pub same : before.is_unsure ≡ true → after ≡ before
    pub newest : before.is_unsure ≡ false → after.is_unsure ≡ true → (m : Marked) (more : List Marked)
        → after.arrivals ≡ more ++ m ∷ [] → P m.arrival.time

  came-unsure : (behind : List Arrival) (last : ℕ) (x : Arrival) (j : Judged) → j.is_unsure ≡ true
      → came_to z behind last x j ≡ j
  unfolding came_to
  came-unsure behind last x j e =
      ap (λ (b : Bool). if b then j else came_by z behind last x (fault_of (Some z.rule) x.port x.bytes) j) e

  closed-same : (time : ℕ) (j : Judged) → j.is_unsure ≡ true → closed_to z time j ≡ j
  unfolding closed_to
  closed-same time j e =
      ap (λ (b : Bool). if b then j else closed_by z time (kept (λ s. are_behind time s.rest) j.states) j) e

  -- where a stream is unsure there is a newest arrival
  unsure-by : (ys : List Gone) (behind : List Arrival) (events : List Event)
      → (judged_after z ys behind events).is_unsure ≡ true
      → (before : List Marked) × (one : Marked) × ((judged_after z ys behind events).arrivals ≡ before ++ one ∷ [])
  unfolding judged_after
  unsure-by ys behind [] e = absurd (cc)
  unsure-by ys behind (Came x ∷ events) e = by (judged_after z ys (x ∷ behind) events).is_unsure refl
      (unsure-by ys (x ∷ behind) events)
    where
      j : Judged
      j = judged_after z ys (x ∷ behind) events

      last : ℕ
      last = last_time z.by (arrivals_came (sound_events z events))

      by : (b : Bool) → j.is_unsure ≡ b
          → (j.is_unsure ≡ true → (before : List Marked) × (one : Marked) × (j.arrivals ≡ before ++ one ∷ []))
          → (before : List Marked) × (one : Marked) × ((came_to z behind last x j).arrivals ≡ before ++ one ∷ [])
      by true un h = let k = h un in (k.0, k.1, ap (λ (i : Judged). i.arrivals) (came-unsure behind last x j un) ∙ k.2)
      by false sure h = let k = came-last z behind last x j sure in (k.before, k.one, k.is)
  unsure-by ys behind (Closing time ∷ events) e =
      let j = judged_after z ys behind events in
      let un : j.is_unsure ≡ true = sym (closed-unsure z time j) ∙ e in
      let k = unsure-by ys behind events un in
      (k.0, k.1, ap (λ (i : Judged). i.arrivals) (closed-same time j un) ∙ k.2)

  -- what is unsure stays as it is, and gets so at an event
  abbrev Stays : Judged → Judged → Type 0
  Stays before after = (before.is_unsure ≡ true → after ≡ before)
      × (before.is_unsure ≡ false → after.is_unsure ≡ true → (m : Marked) (more : List Marked)
      → after.arrivals ≡ more ++ m ∷ [] → P m.arrival.time)

  stays-same : (j : Judged) → Stays j j
  stays-same j = (λ e. refl, λ sure un m more is. absurd (true≢false (sym un ∙ sure)))

  stays-on : (before mid after : Judged) → Stays before mid → (mid.is_unsure ≡ true → after ≡ mid)
      → (mid.is_unsure ≡ false → after.is_unsure ≡ true → (m : Marked) (more : List Marked)
      → after.arrivals ≡ more ++ m ∷ [] → P m.arrival.time)
      → Stays before after
  stays-on before mid after h same next = (
    λ e. same (ap (λ (j : Judged). j.is_unsure) (h.0 e) ∙ e) ∙ h.0 e,
    λ sure un. by mid.is_unsure refl sure un,
  )
    where
      by : (b : Bool) → mid.is_unsure ≡ b → before.is_unsure ≡ false → after.is_unsure ≡ true
          → (m : Marked) (more : List Marked)
          → after.arrivals ≡ more ++ m ∷ [] → P m.arrival.time
      by true e sure un m more is = h.1 sure e m more (ap (λ (j : Judged). j.arrivals) (sym (same e)) ∙ is)
      by false e sure un m more is = next e un m more is

  stays : (ys : List Gone) (behind : List Arrival) (more before : List Event)
      → AllByRecursion (λ e. P (event_time z e)) more
      → Stays (judged_after z ys (reverse (arrivals_came more) ++ behind) before)
      (judged_after z ys behind (more ++ before))
  unfolding judged_after
  stays ys behind [] before h = stays-same (judged_after z ys behind before)
  stays ys behind (Came x ∷ more) before h =
      let same : reverse (x ∷ arrivals_came more) ++ behind ≡ reverse (arrivals_came more) ++ (x ∷ behind) =
      ap (λ (l : List Arrival). l ++ behind) (reverse-first x (arrivals_came more))
      ∙ append_assoc (reverse (arrivals_came more)) (x ∷ []) behind in
      let mid = judged_after z ys (x ∷ behind) (more ++ before) in
      let last = last_time z.by (arrivals_came (sound_events z (more ++ before))) in
      subst (λ (l : List Arrival). Stays (judged_after z ys l before)
      (came_to z behind (last_time z.by (arrivals_came (sound_events z (more ++ before)))) x
      (judged_after z ys (x ∷ behind) (more ++ before)))) (sym same)
      (stays-on (judged_after z ys (reverse (arrivals_came more) ++ (x ∷ behind)) before) mid
      (came_to z behind last x mid) (stays ys (x ∷ behind) more before h.1) (came-unsure behind last x mid)
      (λ sure un m ms is. (let newest = came-last z behind last x mid sure in
      subst (λ (v : Arrival). P v.time) (sym (ap (λ (v : Marked). v.arrival)
      (last-of ms newest.before m newest.one (sym is ∙ newest.is)) ∙ newest.arrival)) h.0)))
  stays ys behind (Closing time ∷ more) before h =
      let mid = judged_after z ys behind (more ++ before) in
      stays-on (judged_after z ys (reverse (arrivals_came more) ++ behind) before) mid (closed_to z time mid)
      (stays ys behind more before h.1) (closed-same time mid)
      (λ sure un m ms is. absurd (true≢false (sym un ∙ closed-unsure z time mid ∙ sure)))

  pub adds-at : (ys : List Gone) (behind : List Arrival) (more before : List Event)
      → AllByRecursion (λ e. P (event_time z e)) more
      → AddsAt (judged_after z ys (reverse (arrivals_came more) ++ behind) before)
      (judged_after z ys behind (more ++ before))
  adds-at ys behind more before h =
      let s = found_stays z ys behind more before in
      let t = stays ys behind more before h in
      record {
        found = s.found;
        added = s.added;
        at = every-on (λ f. IsTimeOf z f.time more) (λ f. P f.time) (λ f k. at-time z P more f.time h k) s.found
            s.at_events;
        same = t.0;
        newest = t.1;
      }

pub unsure-last : (z : Terms) (ys : List Gone) (behind : List Arrival) (events : List Event)
    → (judged_after z ys behind events).is_unsure ≡ true
    → (before : List Marked) × (one : Marked) × ((judged_after z ys behind events).arrivals ≡ before ++ one ∷ [])
unsure-last z ys behind events e = unsure-by z (λ t. t ≡ t) ys behind events e
