-- Each state explains the frames that are closed.
use Rattle.std.proofs.Common.{◌≡◌, ℕ, zero, suc, ◌+◌, ◌-◌, ◌<◌, ◌≤◌, Bool, true, false, List, [], ◌∷◌, ◌++◌, map, drop, length, refl, sym, ap, ◌∙◌, subst, arith}
use Rattle.std.proofs.Math.Seq.{drop-append-add}
use Rattle.std.proofs.lemmas.Bool.{ltb-true, ltb-false}
use Rattle.std.proofs.lemmas.List.{drop-drop}
use Rattle.std.proofs.lemmas.List.Elements.{All-from_recursion}
use Rattle.std.specs.Prelude.{All, if◌then◌else◌, nat_lt, Some}
use Rattle.std.specs.List.{AllByRecursion}
use Rattle.afdx_police.specs.Arrival.{Arrival}
use Rattle.afdx_police.specs.Shape.{fault_of}
use Rattle.afdx_conform.specs.Ahead.{NoneIsOpen}
use Rattle.afdx_conform.specs.Events.{closings_in}
use Rattle.afdx_conform.specs.Explanations.{last_time}
use Rattle.afdx_conform.specs.Findings.{Judged, came_by, came_to, judged_after, sound_events}
use Rattle.afdx_conform.specs.Growing.{Continues, IsAfter, IsHeld, is_some}
use Rattle.afdx_conform.specs.HeldStates.{state_of}
use Rattle.afdx_conform.specs.Histories.{AreEvents, coming, judged_by, unclosed}
use Rattle.afdx_conform.specs.Limits.{gone_of}
use Rattle.afdx_conform.specs.States.{Event, Came, Closing, State, arrivals_came}
use Rattle.afdx_conform.specs.Streams.{Gone, Terms}
use Rattle.afdx_conform.specs.declared.growth.Growth.{Growth}
use Rattle.afdx_conform.specs.declared.states.StreamState.{StreamState}
use Rattle.afdx_conform.proofs.EveryLemmas.{every-all, every-unmap}
use Rattle.afdx_conform.proofs.GrowthCloses.{closed-unsure}
use Rattle.afdx_conform.proofs.HistoryLemmas.{every-drop, next-closing}
use Rattle.afdx_conform.proofs.RestLemmas.{Holds, IsPast, holds-came, past-closed}
use Rattle.afdx_conform.proofs.StillLemmas.{AreStill, still-after}

-- the frames that are left are later than the newest of these closings
abbrev ArePast : List ℕ → List State → Type 0
ArePast [] states = Unit {0}
ArePast (t ∷ ts) states = Holds (IsPast t) states

same-rest : (t u : ℕ) (ts us : List ℕ) → t ∷ ts ≡ u ∷ us → ts ≡ us
same-rest t u ts us e = cc

same-first : (t u : ℕ) (ts us : List ℕ) → t ∷ ts ≡ u ∷ us → t ≡ u
same-first t u ts us e = cc

module _ (z : Terms) (ys : List Gone) where
  came-sure : (behind : List Arrival) (last : ℕ) (x : Arrival) (j : Judged)
      → (came_to z behind last x j).is_unsure ≡ false
      → j.is_unsure ≡ false
  unfolding came_to
  came-sure behind last x j e = by j.is_unsure refl e
    where
      by : (b : Bool) → j.is_unsure ≡ b
          → (if b then j else came_by z behind last x (fault_of (Some z.rule) x.port x.bytes) j).is_unsure ≡ false
          → j.is_unsure ≡ false
      by true u k = k
      by false u k = u

  past-after : (behind : List Arrival) (over : List Event) → (judged_after z ys behind over).is_unsure ≡ false
      → ArePast (closings_in over) (judged_after z ys behind over).states
  unfolding judged_after
  past-after behind [] sure = tt
  past-after behind (Came x ∷ before) sure =
      by (closings_in before) (past-after (x ∷ behind) before (came-sure behind last x j sure))
    where
      last : ℕ
      last = last_time z.by (arrivals_came (sound_events z before))

      j : Judged
      j = judged_after z ys (x ∷ behind) before

      by : (ts : List ℕ) → ArePast ts j.states → ArePast ts (came_to z behind last x j).states
      by [] h = tt
      by (t ∷ ts) h = holds-came (IsPast t) z behind last x j h
  past-after behind (Closing t ∷ before) sure =
      past-closed z t (judged_after z ys behind before)
      (sym (closed-unsure z t (judged_after z ys behind before)) ∙ sure)

  -- the frame of the newest closing
  last-closed : (xs : List Arrival) (over : List Event) (t : ℕ) (ts : List ℕ) → AreEvents z xs ys over
      → closings_in over ≡ t ∷ ts
      → (y : Gone) × (rest : List Gone) × (drop (length ts) ys ≡ y ∷ rest) × (y.time ≡ t)
  unfolding AreEvents
  last-closed xs [] t ts h e = absurd (cc)
  last-closed xs (Came x ∷ before) t ts h e = last-closed xs before t ts h.1 e
  last-closed xs (Closing u ∷ before) t ts h e =
      let first = next-closing z (coming xs before) (unclosed ys before) u h.0 in (
        first.0,
        first.1,
        ap (λ (l : List ℕ). drop (length l) ys) (sym (same-rest u t (closings_in before) ts e)) ∙ first.2,
        first.3 ∙ same-first u t (closings_in before) ts e,
      )

-- a state in which only later frames are left explains the frame at this place
passed-one : (t n : ℕ) (fs : List Gone) (y : Gone) (rest : List Gone) → drop n fs ≡ y ∷ rest → y.time ≡ t
    → (h : StreamState) → AllByRecursion (IsPast t) (drop h.passed fs) → suc n ≤ h.passed
passed-one t n fs y rest at is h all = by (nat_lt n h.passed) refl
  where
    by : (b : Bool) → nat_lt n h.passed ≡ b → suc n ≤ h.passed
    by true e = ltb-true n h.passed e
    by false e =
        let le = ltb-false n h.passed e in
        let same : h.passed + (n - h.passed) ≡ n = omega (arith, le) in
        let there = subst (λ (l : List Gone). AllByRecursion (IsPast t) l)
        (drop-drop (n - h.passed) h.passed fs ∙ ap (λ (k : ℕ). drop k fs) same ∙ at)
        (every-drop (IsPast t) (n - h.passed) (drop h.passed fs) all) in
        let late : t < y.time = there.0 in
        absurd (omega (arith, late, is))

passed-each : (t n : ℕ) (fs : List Gone) (y : Gone) (rest : List Gone) → drop n fs ≡ y ∷ rest → y.time ≡ t
    → (held : List StreamState) → Holds (IsPast t) (map (state_of fs) held) →
    AllByRecursion (λ h. suc n ≤ h.passed) held
passed-each t n fs y rest at is [] all = tt
passed-each t n fs y rest at is (h ∷ held) all =
    (passed-one t n fs y rest at is h all.0, passed-each t n fs y rest at is held all.1)

module _ (z : Terms) (xs : List Arrival) (ys : List Gone) (cut : ℕ) (over : List Event) (s : Growth)
    (g : IsAfter z xs ys cut over s)
    (sure : s.judging.is_unsure ≡ false) (some : is_some over ≡ true) where
  held : IsHeld z xs ys cut over s
  held = g.sure sure

  go-on : Continues z xs ys over held.gone s
  go-on = held.continues (held.kept.started ∙ some)

  abbrev Fs : List Gone
  Fs = map gone_of s.frames.items

  states-are : map (state_of Fs) s.judging.held.items ≡ (judged_by z xs ys over).states
  states-are = go-on.stands.states ∙ ap (λ (j : Judged). j.states) go-on.same

  passed-by : (ts : List ℕ) → closings_in over ≡ ts → AllByRecursion (λ h. s.closed ≤ h.passed) s.judging.held.items
  passed-by [] e =
      let none = held.kept.closed in
      let n = ap (λ (l : List ℕ). length l) e in
      let zero-closed : s.closed ≡ 0 = omega (arith, none, n) in
      every-all (λ (h : StreamState). s.closed ≤ h.passed) (λ h. omega (arith, zero-closed)) s.judging.held.items
  passed-by (t ∷ ts) e = by s.closed refl
    where
      count : suc (length ts) ≡ length held.past + s.closed
      count = ap (λ (l : List ℕ). length l) (sym e) ∙ held.kept.closed

      are-past : Holds (IsPast t) (map (state_of Fs) s.judging.held.items)
      are-past = subst (λ (l : List State). Holds (IsPast t) l) (sym states-are)
          (subst (λ (l : List ℕ). ArePast l (judged_by z xs ys over).states) e
          (past-after z ys (coming xs over) over (sym g.unsure ∙ sure)))

      by : (n : ℕ) → s.closed ≡ n → AllByRecursion (λ h. s.closed ≤ h.passed) s.judging.held.items
      by zero is = every-all (λ (h : StreamState). s.closed ≤ h.passed) (λ h. omega (arith, is)) s.judging.held.items
      by (suc n) is =
          let last = last-closed z ys xs over t ts g.events e in
          let place : length ts ≡ length held.past + n = omega (arith, count, is) in
          let at : drop n Fs ≡ last.0 ∷ last.1 =
          sym (ap (λ (l : List Gone). drop (length ts) l) held.kept.left
          ∙ ap (λ (k : ℕ). drop k (held.past ++ Fs)) place
          ∙ drop-append-add held.past Fs n) ∙ last.2 in
          subst (λ (k : ℕ). AllByRecursion (λ h. k ≤ h.passed) s.judging.held.items) (sym is)
          (passed-each t n Fs last.0 last.1 at last.3 s.judging.held.items are-past)

  pub all-passed : All (λ h. s.closed ≤ h.passed) s.judging.held.items
  all-passed = All-from_recursion (λ h. s.closed ≤ h.passed) s.judging.held.items (passed-by (closings_in over) refl)

  pub all-still : NoneIsOpen z over → All (λ h. h.waiting ≡ 0) s.judging.held.items
  all-still none = All-from_recursion (λ h. h.waiting ≡ 0) s.judging.held.items
      (every-unmap (λ (t : State). t.waiting ≡ 0) (state_of Fs) s.judging.held.items
      (subst (λ (l : List State). AreStill l) (sym states-are) (still-after z ys (coming xs over) over none)))
