-- What the code keeps behind a closing.
use Rattle.std.proofs.Common.{◌≡◌, ℕ, zero, suc, ◌+◌, ◌-◌, ◌<◌, ◌≤◌, min, false, List, [], ◌∷◌, ◌⊎◌, inl, inr, map, drop, take, length, refl, sym, ap, ◌∙◌, subst, arith}
use Rattle.std.proofs.lemmas.List.{take-map, length-map}
use Rattle.std.proofs.lemmas.List.Elements.{All-contains}
use Rattle.std.specs.Prelude.{nat_le, nat_eq, All, Contains}
use Rattle.std.specs.List.{filter, list_any}
use Rattle.afdx_conform.specs.Findings.{Finding, Judged, with_states, lead, with_rest, front_rest, skipped, closed_to}
use Rattle.afdx_conform.specs.HeldStates.{AreClosed, IsWithin, state_of, past}
use Rattle.afdx_conform.specs.Judging.{StandsFor, AreFound}
use Rattle.afdx_conform.specs.Leeway.{reach}
use Rattle.afdx_conform.specs.Limits.{gone_of}
use Rattle.afdx_conform.specs.Marks.{marked_all, told}
use Rattle.afdx_conform.specs.Naming.{unexplained_all}
use Rattle.afdx_conform.specs.States.{State, kept}
use Rattle.afdx_conform.specs.Streams.{Gone, Terms}
use Rattle.afdx_conform.specs.declared.arrived.Arrived.{Arrived}
use Rattle.afdx_conform.specs.declared.finding.Mark.{Mark}
use Rattle.afdx_conform.specs.declared.judging.Judging.{Judging}
use Rattle.afdx_conform.specs.declared.levels.Rates.{Rates}
use Rattle.afdx_conform.specs.declared.limits.LeftFrame.{LeftFrame}
use Rattle.afdx_conform.specs.declared.states.StreamState.{StreamState}
use Rattle.afdx_conform.proofs.ClosingLemmas.{close-none, front-before, skip-from}
use Rattle.afdx_conform.proofs.LeadLemmas.{lead-past}
use Rattle.afdx_conform.proofs.NamingLemmas.{all-none}

-- the code stands for what is judged then
pub stands-after : (rates : Rates) (fs : List LeftFrame) (arrivals : List Arrived) (j k : Judged) (old new : Judging)
    (found : List Finding) (t : ℕ) → StandsFor rates fs arrivals j old
    → k ≡ with_states (map (state_of (map gone_of fs)) new.held.items)
    (told t found (marked_all arrivals new.marks.items) j)
    → new.uncertain ≡ old.uncertain → new.is_unsure ≡ old.is_unsure
    → All (λ h. IsWithin rates (length fs) (length new.marks.items) h) new.held.items
    → length new.marks.items ≡ length old.marks.items
    → StandsFor rates fs arrivals k new × AreFound t found j k
stands-after rates fs arrivals j k old new found t s e u n within len =
    subst (λ (v : Judged). StandsFor rates fs arrivals v new × AreFound t found j v) (sym e) (
      record {
        states = refl;
        within = within;
        marks = refl;
        uncertain = u ∙ s.uncertain;
        unsure = n ∙ s.unsure;
      },
      record { findings = refl; frames = refl },
    )

drop-gone : (fs : List LeftFrame) (n : ℕ) → drop n (map gone_of fs) ≡ map gone_of (drop n fs)
drop-gone fs zero = refl
drop-gone [] (suc n) = refl
drop-gone (f ∷ fs) (suc n) = drop-gone fs n

module _ (z : Terms) (time passed foremost front : ℕ) (fs : List LeftFrame) (arrivals : List Arrived)
    (held out : List StreamState)
    (found : List Finding) (marks : List Mark) (j : Judged) where
  abbrev ys : List Gone
  ys = map gone_of fs

  abbrev S : List StreamState → List State
  S l = map (state_of (map gone_of fs)) l

  abbrev At : ℕ
  At = time + reach z.by

  abbrev After : Judged
  After = told At found (marked_all arrivals marks) j

  -- some state is in front of the closing
  skip-some : AreClosed time passed ys → list_any (λ h. nat_le passed h.passed) held ≡ false → j.is_unsure ≡ false
      → S held ≡ j.states → All (λ h. h.passed ≤ length ys) held → drop foremost ys ≡ front_rest (S held)
      → foremost < passed
      → front ≡ foremost
      → out ≡ map (λ h. past passed h) (filter (λ h. nat_eq h.passed front) held)
      → After ≡ unexplained_all z At (map gone_of (take (passed - front) (drop front fs))) j
      → closed_to z time j ≡ with_states (S out) After
  skip-some closed none sure states within at_front lt is o told_is =
      let inside = closed.within in
      let moved = lead-past ys held out foremost passed within (omega (arith, lt, inside)) at_front
      (o ∙ ap (λ (n : ℕ). map (λ h. past passed h) (filter (λ h. nat_eq h.passed n) held)) is) in
      close-none z time passed ys held j closed states sure none
      ∙ skip-from z time passed foremost ys j.states j closed lt (at_front
      ∙ ap (λ (l : List State). front_rest l) states)
      ∙ ap (λ (l : List State). with_states (with_rest (drop passed ys) (lead l))
      (unexplained_all z At (take (passed - foremost) (drop foremost ys)) j)) (sym states)
      ∙ ap (λ (l : List State). with_states l (unexplained_all z At (take (passed - foremost) (drop foremost ys)) j))
      (sym moved)
      ∙ ap (λ (l : List Gone). with_states (S out) (unexplained_all z At l j))
      (ap (λ (l : List Gone). take (passed - foremost) l) (drop-gone fs foremost)
      ∙ take-map gone_of (passed - foremost) (drop foremost fs)
      ∙ ap (λ (n : ℕ). map gone_of (take (passed - n) (drop n fs))) (sym is))
      ∙ ap (λ (k : Judged). with_states (S out) k) (sym told_is)

  none-skips : skipped z time [] [] j ≡ with_states [] j
  unfolding skipped
  none-skips = refl

  none-fronts : skipped z time (lead []) (front_rest []) j ≡ with_states [] j
  unfolding front_rest kept
  none-fronts = none-skips

  -- there is no state
  skip-none : AreClosed time passed ys → list_any (λ h. nat_le passed h.passed) held ≡ false → j.is_unsure ≡ false
      → S held ≡ j.states → held ≡ [] → front ≡ passed
      → out ≡ map (λ h. past passed h) (filter (λ h. nat_eq h.passed front) held)
      → After ≡ unexplained_all z At (map gone_of (take (passed - front) (drop front fs))) j
      → closed_to z time j ≡ with_states (S out) After
  skip-none closed none sure states e is o told_is =
      let nothing : passed - front ≡ 0 = omega (arith, is) in
      close-none z time passed ys held j closed states sure none
      ∙ ap (λ (l : List State). skipped z time (lead l) (front_rest l) j)
      (sym states ∙ ap (λ (l : List StreamState). S l) e)
      ∙ none-fronts
      ∙ ap (λ (l : List StreamState). with_states (S l) j) (sym (o
      ∙ ap (λ (l : List StreamState). map (λ h. past passed h) (filter (λ h. nat_eq h.passed front) l)) e))
      ∙ ap (λ (k : Judged). with_states (S out) k)
      (sym (told_is ∙ ap (λ (n : ℕ). unexplained_all z At (map gone_of (take n (drop front fs))) j) nothing
      ∙ all-none z At j))

  pub skip-whole : AreClosed time passed ys → list_any (λ h. nat_le passed h.passed) held ≡ false → j.is_unsure ≡ false
      → S held ≡ j.states → All (λ h. h.passed ≤ length ys) held → drop foremost ys ≡ front_rest (S held)
      → ((held ≡ []) × (foremost ≡ length fs)) ⊎ ((h : StreamState) × Contains held h × (h.passed ≡ foremost))
      → front ≡ min foremost passed
      → out ≡ map (λ h. past passed h) (filter (λ h. nat_eq h.passed front) held)
      → After ≡ unexplained_all z At (map gone_of (take (passed - front) (drop front fs))) j
      → closed_to z time j ≡ with_states (S out) After
  skip-whole closed none sure states within at_front among least o told_is =
      by (front-before held passed foremost (length fs) none among) among
    where
      by : (held ≡ []) ⊎ (foremost < passed)
          → ((held ≡ []) × (foremost ≡ length fs)) ⊎ ((h : StreamState) × Contains held h × (h.passed ≡ foremost))
          → closed_to z time j ≡ with_states (S out) After
      by (inr lt) m = skip-some closed none sure states within at_front lt (omega (arith, least, lt)) o told_is
      by (inl e) (inl k) =
          let size = length-map fs gone_of in
          let inside = closed.within in
          let f = k.1 in
          skip-none closed none sure states e (omega (arith, least, f, size, inside)) o told_is
      by (inl e) (inr m) = absurd (All-contains (λ (k : StreamState). ⊥) [] m.0 (λ i d lt. absurd (omega (arith, lt)))
          (subst (λ (l : List StreamState). Contains l m.0) e m.1))

pub same-count : (rates : Rates) (frames m n : ℕ) (held : List StreamState) → m ≡ n →
    All (λ h. IsWithin rates frames m h) held
    → All (λ h. IsWithin rates frames n h) held
same-count rates frames m n held e all =
    subst (λ (k : ℕ). All (λ (h : StreamState). IsWithin rates frames k h) held) e all
