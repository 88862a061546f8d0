-- What the code keeps behind an arrival.
use Rattle.std.proofs.Common.{◌≡◌, ℕ, ◌+◌, ◌<◌, ◌≤◌, Bool, true, false, List, [], ◌∷◌, ◌++◌, map, reverse, get_or, length, refl, sym, ap, ◌∙◌, subst, arith}
use Rattle.std.proofs.lemmas.List.{length-map, length_push}
use Rattle.std.specs.Prelude.{if◌then◌else◌, nat_lt, All, Option, Some, None}
use Rattle.afdx_police.specs.Arrival.{Arrival}
use Rattle.afdx_police.specs.Shape.{fault_of}
use Rattle.afdx_police.specs.declared.shape.Reason.{Reason}
use Rattle.afdx_police.specs.declared.shape.Reason.TheVariants.{OverRate}
use Rattle.afdx_conform.specs.Explanations.{levels_then}
use Rattle.afdx_conform.specs.Findings.{Finding, found_at, Marked, marked, Judged, judged_with, with_states, with_mark, has_some, most_states, thinned_onto, aged, front_rest, deviates, answered_by, rate_mark, is_uncertain, one_if, few_of, came_by, came_to, frames_in}
use Rattle.afdx_conform.specs.HeldStates.{IsWithin, state_of}
use Rattle.afdx_conform.specs.Judging.{StandsFor, AreFound}
use Rattle.afdx_conform.specs.Limits.{gone_of}
use Rattle.afdx_conform.specs.Marks.{arrival_of, marked_of, marked_all, told}
use Rattle.afdx_conform.specs.States.{State, led_by, states_at}
use Rattle.afdx_conform.specs.Streams.{Gone, Terms}
use Rattle.afdx_conform.specs.declared.arrived.Arrived.{Arrived}
use Rattle.afdx_conform.specs.declared.finding.Mark.{Mark}
use Rattle.afdx_conform.specs.declared.judging.Judging.{Judging}
use Rattle.afdx_conform.specs.declared.levels.Rates.{Rates}
use Rattle.afdx_conform.specs.declared.limits.LeftFrame.{LeftFrame}
use Rattle.afdx_conform.specs.declared.states.StreamState.{StreamState}
use Rattle.afdx_conform.proofs.ArrivalLemmas.{marked-push}
use Rattle.afdx_conform.proofs.HeldLemmas.{if-false}

abbrev pub mark-by : Bool → Option Reason
mark-by b = if b then None else Some OverRate

abbrev pub one_of : Bool → ℕ
one_of u = if u then 1 else 0

pub one-less : (u : Bool) → one_of u ≤ 1
one-less true = omega arith
one-less false = omega arith

one-is : (z : Terms) (u : Bool) → one_if z u ≡ one_of u
one-is z true = refl
one-is z false = refl

module _ (z : Terms) (behind : List Arrival) (last : ℕ) (x : Arrival) (j : Judged) where
  abbrev Led : List State
  Led = led_by (λ s. states_at z x (levels_then z s.levels last x) s) j.states

  -- one with a fault in its shape
  pub came-fault : (fault : Reason) → j.is_unsure ≡ false → fault_of (Some z.rule) x.port x.bytes ≡ Some fault
      → came_to z behind last x j ≡ with_mark x (Some fault) j
  unfolding came_to
  came-fault fault sure e =
      if-false j.is_unsure j (came_by z behind last x (fault_of (Some z.rule) x.port x.bytes) j) sure
      ∙ ap (λ (o : Option Reason). came_by z behind last x o j) e

  came-is : j.is_unsure ≡ false → fault_of (Some z.rule) x.port x.bytes ≡ None
      → came_to z behind last x j ≡ with_mark x (rate_mark z last x j.states)
      (few_of z (one_if z (is_uncertain z last x j.states)) (answered_by z behind last x Led j))
  unfolding came_to
  came-is sure e =
      if-false j.is_unsure j (came_by z behind last x (fault_of (Some z.rule) x.port x.bytes) j) sure
      ∙ ap (λ (o : Option Reason). came_by z behind last x o j) e

  by-led : (l : List State) → has_some l ≡ true → answered_by z behind last x l j ≡ with_states l j
  by-led [] e = absurd (cc)
  by-led (s ∷ l) e = refl

  pub answered-led : (l : List State) → Led ≡ l → has_some l ≡ true → answered_by z behind last x Led j
      ≡ with_states l j
  answered-led l e some = ap (λ (t : List State). answered_by z behind last x t j) e ∙ by-led l some

  pub answered-none : Led ≡ [] → answered_by z behind last x Led j ≡ deviates z behind x (aged z last x j.states)
      (front_rest j.states) j
  answered-none e = ap (λ (t : List State). answered_by z behind last x t j) e

  few-is : (ys : List Gone) (few : List StreamState) (n : ℕ) (k : Judged) → map (state_of ys) few ≡
      thinned_onto [] k.states
      → few_of z n k ≡ judged_with (map (state_of ys) few) k.arrivals k.findings k.frames (k.uncertain + n)
      (nat_lt most_states (length few))
  few-is ys few n k e =
      ap (λ (l : List State). judged_with l k.arrivals k.findings k.frames (k.uncertain + n)
      (nat_lt most_states (length l))) (sym e)
      ∙ ap (λ (m : ℕ). judged_with (map (state_of ys) few) k.arrivals k.findings k.frames (k.uncertain + n)
      (nat_lt most_states m))
      (length-map few (state_of ys))

  pub came-whole : (ys : List Gone) (mid few : List StreamState) (found : List Finding) (arrivals : List Marked)
      (reason : Option Reason) (u :
      Bool)
      → j.is_unsure ≡ false → fault_of (Some z.rule) x.port x.bytes ≡ None
      → answered_by z behind last x Led j ≡ with_states (map (state_of ys) mid) (told x.time found arrivals j)
      → map (state_of ys) few ≡ thinned_onto [] (map (state_of ys) mid)
      → reason ≡ rate_mark z last x j.states → u ≡ is_uncertain z last x j.states
      → came_to z behind last x j ≡ judged_with (map (state_of ys) few) (arrivals ++ (marked x reason false ∷ []))
      (told x.time found arrivals j).findings (told x.time found arrivals j).frames (j.uncertain + one_of u)
      (nat_lt most_states (length few))
  came-whole ys mid few found arrivals reason u sure fault answered thin mark unc =
      came-is sure fault
      ∙ ap (λ (k : Judged). with_mark x (rate_mark z last x j.states)
      (few_of z (one_if z (is_uncertain z last x j.states)) k)) answered
      ∙ ap (λ (k : Judged). with_mark x (rate_mark z last x j.states) k)
      (few-is ys few (one_if z (is_uncertain z last x j.states)) (with_states (map (state_of ys) mid)
      (told x.time found arrivals j))
      thin)
      ∙ ap (λ (n : ℕ). judged_with (map (state_of ys) few)
      (arrivals ++ (marked x (rate_mark z last x j.states) false ∷ []))
      (told x.time found arrivals j).findings (told x.time found arrivals j).frames (j.uncertain + n)
      (nat_lt most_states (length few))) (one-is z (is_uncertain z last x j.states))
      ∙ ap (λ (o : Option Reason). judged_with (map (state_of ys) few) (arrivals ++ (marked x o false ∷ []))
      (told x.time found arrivals j).findings (told x.time found arrivals j).frames
      (j.uncertain + one_of (is_uncertain z last x
      j.states))
      (nat_lt most_states (length few))) (sym mark)
      ∙ ap (λ (b : Bool). judged_with (map (state_of ys) few) (arrivals ++ (marked x reason false ∷ []))
      (told x.time found arrivals j).findings (told x.time found arrivals j).frames (j.uncertain + one_of b)
      (nat_lt most_states (length few))) (sym unc)

no-frames : (n : ℕ) → n ≡ n + frames_in []
unfolding frames_in
no-frames n = let e : n ≡ n + 0 = omega arith in e

module _ (rates : Rates) (fs : List LeftFrame) (xs : List Arrived) (z : Terms) (behind : List Arrival) (last : ℕ)
    (a : Arrived) (j : Judged)
    (old new : Judging) (s : StandsFor rates fs xs j old) (lt : length old.marks.items < length xs)
    (at : a ≡ get_or xs (length old.marks.items) a) where
  pushed-marks : (ms : List Mark) (m : Mark) → length ms ≡ length old.marks.items
      → marked_all xs (ms ++ (m ∷ [])) ≡ marked_all xs ms ++ (marked_of a m ∷ [])
  pushed-marks ms m len =
      marked-push xs ms a m (omega (arith, len, lt))
      ∙ ap (λ (n : ℕ). marked_all xs ms ++ (marked_of (get_or xs n a) m ∷ [])) len
      ∙ ap (λ (v : Arrived). marked_all xs ms ++ (marked_of v m ∷ [])) (sym at)

  pub stands-arrival : (ms : List Mark) (mid : List StreamState) (found : List Finding) (reason : Option Reason)
      (u : Bool)
      → j.is_unsure ≡ false → fault_of (Some z.rule) a.port a.bytes ≡ None
      → answered_by z behind last (arrival_of a) (Led z behind last (arrival_of a) j) j
      ≡ with_states (map (state_of (map gone_of fs)) mid) (told a.time found (marked_all xs ms) j)
      → map (state_of (map gone_of fs)) new.held.items ≡ thinned_onto [] (map (state_of (map gone_of fs)) mid)
      → reason ≡ rate_mark z last (arrival_of a) j.states → u ≡ is_uncertain z last (arrival_of a) j.states
      → length ms ≡ length old.marks.items
      → new.marks.items ≡ ms ++ (record { reason = reason; is_named = false } ∷ [])
      → new.uncertain ≡ old.uncertain + one_of u
      → new.is_unsure ≡ nat_lt most_states (length new.held.items)
      → All (λ h. IsWithin rates (length fs) (length new.marks.items) h) new.held.items
      → StandsFor rates fs xs (came_to z behind last (arrival_of a) j) new × AreFound a.time found j
      (came_to z behind last (arrival_of
      a) j)
  stands-arrival ms mid found reason u sure fault answered thin mark unc len nm nu nn within =
      let whole = came-whole z behind last (arrival_of a) j (map gone_of fs) mid new.held.items found
      (marked_all xs ms) reason u sure
      fault
      answered thin mark unc in
      let marks = ap (λ (l : List Mark). marked_all xs l) nm
      ∙ pushed-marks ms (record { reason = reason; is_named = false }) len in
      subst (λ (k : Judged). StandsFor rates fs xs k new × AreFound a.time found j k) (sym whole) (
        record {
          states = refl;
          within = within;
          marks = marks;
          uncertain = nu ∙ ap (λ (n : ℕ). n + one_of u) s.uncertain;
          unsure = nn;
        },
        record { findings = refl; frames = refl },
      )

  pub stands-fault : (fault : Reason) (found : List Finding) → found ≡ [] → j.is_unsure ≡ false
      → fault_of (Some z.rule) a.port a.bytes ≡ Some fault
      → new.held.items ≡ old.held.items
      → new.marks.items ≡ old.marks.items ++ (record { reason = Some fault; is_named = false } ∷ [])
      → new.uncertain ≡ old.uncertain → new.is_unsure ≡ old.is_unsure
      → All (λ h. IsWithin rates (length fs) (length new.marks.items) h) new.held.items
      → StandsFor rates fs xs (came_to z behind last (arrival_of a) j) new × AreFound a.time found j
      (came_to z behind last (arrival_of
      a) j)
  stands-fault fault found nothing sure e held nm nu nn within =
      let whole = came-fault z behind last (arrival_of a) j fault sure e in
      subst (λ (k : Judged). StandsFor rates fs xs k new × AreFound a.time found j k) (sym whole) (
        record {
          states = ap (λ (l : List StreamState). map (state_of (map gone_of fs)) l) held ∙ s.states;
          within = within;
          marks = ap (λ (l : List Mark). marked_all xs l) nm
              ∙ pushed-marks old.marks.items (record { reason = Some fault; is_named = false }) refl
              ∙ ap (λ (l : List Marked). l ++ (marked_of a (record { reason = Some fault; is_named = false }) ∷ []))
              s.marks;
          uncertain = nu ∙ s.uncertain;
          unsure = nn ∙ s.unsure;
        },
        record {
          findings = ap (λ (l : List Finding). map (found_at a.time) (reverse l) ++ j.findings) (sym nothing);
          frames = no-frames j.frames ∙ ap (λ (l : List Finding). j.frames + frames_in l) (sym nothing);
        },
      )

-- a state more, with a mark more
pub more-marks : (rates : Rates) (frames n : ℕ) (ms all : List Mark) (m : Mark) (held : List StreamState)
    → all ≡ ms ++ (m ∷ [])
    → length ms ≡ n → All (λ h. IsWithin rates frames (n + 1) h) held
    → All (λ h. IsWithin rates frames (length all) h) held
more-marks rates frames n ms all m held e len within =
    subst (λ (k : ℕ). All (λ (h : StreamState). IsWithin rates frames k h) held)
    (sym (ap (λ (l : List Mark). length l) e ∙ length_push ms m ∙ ap (λ (k : ℕ). k + 1) len)) within
