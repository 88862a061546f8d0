-- Once all events are over, nothing is found exactly where something explains the stream.
use Rattle.std.proofs.Common.{◌≡◌, ℕ, ◌+◌, ◌≤◌, Bool, true, false, List, [], ◌∷◌, ◌++◌, ◌⊎◌, inl, inr, reverse, refl, sym, ap, ◌∙◌, subst, arith}
use Rattle.std.proofs.lemmas.List.{reverse-append, reverse-reverse, append-nil}
use Rattle.std.specs.Prelude.{if◌then◌else◌, is_none, Some}
use Rattle.std.specs.List.{AllByRecursion}
use Rattle.afdx_police.specs.Arrival.{Arrival}
use Rattle.afdx_police.specs.Shape.{fault_of}
use Rattle.afdx_conform.specs.EventLaws.{AllEventsAreExplained}
use Rattle.afdx_conform.specs.Events.{closings_in, frame_times, events_of, judged_whole}
use Rattle.afdx_conform.specs.Explanations.{Explains, last_time}
use Rattle.afdx_conform.specs.Findings.{Judged, judged_with, came_by, came_to, closed_by, closed_to, sound_events, judged_after}
use Rattle.afdx_conform.specs.Headline.{sound_of}
use Rattle.afdx_conform.specs.Laws.{IsSomeState}
use Rattle.afdx_conform.specs.States.{Event, Came, Closing, State, arrivals_came, kept, are_behind, IsBehindClosings, AreInOrder}
use Rattle.afdx_conform.specs.Streams.{Gone, Terms}
use Rattle.afdx_conform.proofs.EventLemmas.{came-all, closed-all, in-order}
use Rattle.afdx_conform.proofs.EveryLemmas.{every-on, every-unmap, every-reverse}
use Rattle.afdx_conform.proofs.FindingLemmas.{found_explained, if-both}
use Rattle.afdx_conform.proofs.HeldLemmas.{if-false}
use Rattle.afdx_conform.proofs.MomentLemmas.{came-reverse}
use Rattle.afdx_conform.proofs.RestLemmas.{Holds, IsPast, holds-came, holds-closed, holds-after, past-closed}
use Rattle.afdx_conform.proofs.SomeLemmas.{some-after}

-- ---- all frames that are left are behind all closings

if-sure : (b : Bool) (u v : Judged) → u.is_unsure ≡ b → (if b then u else v).is_unsure ≡ false → b ≡ false
if-sure true u v e h = absurd (cc)
if-sure false u v e h = refl

abbrev AllPast : List State → List ℕ → Type 0
AllPast states times = AllByRecursion (λ t. Holds (IsPast t) states) times

past-after : (z : Terms) (ys : List Gone) (behind : List Arrival) (events : List Event)
    → (judged_after z ys behind events).is_unsure ≡ false
    → AllPast (judged_after z ys behind events).states (closings_in events)
unfolding judged_after came_to closed_to
past-after z ys behind [] h = tt
past-after z ys behind (Came x ∷ before) h =
    let last = last_time z.by (arrivals_came (sound_events z before)) in
    let j = judged_after z ys (x ∷ behind) before in
    let sure = if-sure j.is_unsure j (came_by z behind last x (fault_of (Some z.rule) x.port x.bytes) j) refl h in
    every-on (λ t. Holds (IsPast t) j.states) (λ t. Holds (IsPast t) (came_to z behind last x j).states)
    (λ t k. holds-came (IsPast t) z behind last x j k) (closings_in before) (past-after z ys (x ∷ behind) before sure)
past-after z ys behind (Closing time ∷ before) h =
    let j = judged_after z ys behind before in
    let sure = if-sure j.is_unsure j (closed_by z time (kept (λ s. are_behind time s.rest) j.states) j) refl h in (
      past-closed z time j sure,
      every-on (λ t. Holds (IsPast t) j.states) (λ t. Holds (IsPast t) (closed_to z time j).states)
          (λ t k. holds-closed (IsPast t) z time j k) (closings_in before) (past-after z ys behind before sure),
    )

closings-append : (a b : List Event) → closings_in (a ++ b) ≡ closings_in a ++ closings_in b
closings-append [] b = refl
closings-append (Came x ∷ a) b = closings-append a b
closings-append (Closing time ∷ a) b = ap (λ (l : List ℕ). time ∷ l) (closings-append a b)

closings-reverse : (l : List Event) → closings_in (reverse l) ≡ reverse (closings_in l)
closings-reverse [] = refl
closings-reverse (Came x ∷ l) =
    ap (λ (k : List Event). closings_in k) (reverse-append (Came x ∷ []) l) ∙ closings-append (reverse l) (Came x ∷ [])
    ∙ append-nil (closings_in (reverse l)) ∙ closings-reverse l
closings-reverse (Closing time ∷ l) =
    ap (λ (k : List Event). closings_in k) (reverse-append (Closing time ∷ []) l)
    ∙ closings-append (reverse l) (Closing time ∷ [])
    ∙ ap (λ (k : List ℕ). k ++ (time ∷ [])) (closings-reverse l) ∙ sym (reverse-append (time ∷ []) (closings_in l))

-- ---- so none is left

abbrev IsOneOf : Gone → List Gone → Type 0
IsOneOf y [] = ⊥
IsOneOf y (x ∷ xs) = (x ≡ y) ⊎ IsOneOf y xs

one-of : (P : Gone → Type 0) (y : Gone) (ys : List Gone) → IsOneOf y ys → AllByRecursion P ys → P y
one-of P y [] m h = absurd m
one-of P y (x ∷ xs) (inl e) h = subst P e h.0
one-of P y (x ∷ xs) (inr m) h = one-of P y xs m h.1

all-of : (xs : List Gone) → AllByRecursion (λ y. IsOneOf y xs) xs
all-of [] = tt
all-of (x ∷ xs) = (inl refl, every-on (λ y. IsOneOf y xs) (λ y. IsOneOf y (x ∷ xs)) (λ y m. inr m) xs (all-of xs))

none-left : (ys rest : List Gone) → AllByRecursion (λ y. IsOneOf y ys) rest
    → AllByRecursion (λ y. AllByRecursion (IsPast y.time) rest) ys → rest ≡ []
none-left ys [] m h = refl
none-left ys (y ∷ rest) m h =
    let past = one-of (λ w. AllByRecursion (IsPast w.time) (y ∷ rest)) y ys m.0 h in
    absurd (let k = past.0 in omega (arith, k))

none-are-left : (ys : List Gone) (states : List State) → Holds (λ y. IsOneOf y ys) states
    → AllByRecursion (λ y. Holds (IsPast y.time) states) ys → AllByRecursion (λ s. s.rest ≡ []) states
none-are-left ys [] m h = tt
none-are-left ys (s ∷ states) m h = (
  none-left ys s.rest m.0
      (every-on (λ y. Holds (IsPast y.time) (s ∷ states)) (λ y. AllByRecursion (IsPast y.time) s.rest)
      (λ y k. k.0) ys h),
  none-are-left ys states m.1
      (every-on (λ y. Holds (IsPast y.time) (s ∷ states)) (λ y. Holds (IsPast y.time) states) (λ y k. k.1) ys h),
)

-- ---- and another closing does nothing

kept-none : (end : ℕ) (states : List State) → AllByRecursion (λ s. s.rest ≡ []) states
    → kept (λ s. are_behind end s.rest) states ≡ states
unfolding kept are_behind
kept-none end [] h = refl
kept-none end (s ∷ states) h =
    ap (λ (r : List Gone). if are_behind end r then s ∷ kept (λ s. are_behind end s.rest) states
    else kept (λ s. are_behind end s.rest) states) h.0
    ∙ ap (λ (l : List State). s ∷ l) (kept-none end states h.1)

closed-none : (z : Terms) (end : ℕ) (j : Judged) → j.is_unsure ≡ false → IsSomeState j.states
    → AllByRecursion (λ s. s.rest ≡ []) j.states → closed_to z end j ≡ j
unfolding closed_to
closed-none z end j sure some h =
    if-false j.is_unsure j (closed_by z end (kept (λ s. are_behind end s.rest) j.states) j) sure
    ∙ ap (λ (l : List State). closed_by z end l j) (kept-none end j.states h)
    ∙ by j.states refl some
  where
    by : (l : List State) → j.states ≡ l → IsSomeState l → closed_by z end l j ≡ j
    by [] e k = absurd k
    by (s ∷ l) e k = ap (λ (m : List State). judged_with m j.arrivals j.findings j.frames j.uncertain j.is_unsure)
        (sym e)

-- ---- the events of the right shape

sound-behind : (z : Terms) (x : Arrival) (l : List Event) → IsBehindClosings z x l
    → IsBehindClosings z x (sound_events z l)
unfolding sound_events IsBehindClosings
sound-behind z x [] h = tt
sound-behind z x (Came w ∷ l) h =
    if-both (λ (k : List Event). IsBehindClosings z x k) (is_none (fault_of (Some z.rule) w.port w.bytes))
    (Came w ∷ sound_events z l) (sound_events z l) (sound-behind z x l h) (sound-behind z x l h)
sound-behind z x (Closing time ∷ l) h = (h.0, sound-behind z x l h.1)

pub sound-order : (z : Terms) (l : List Event) → AreInOrder z l → AreInOrder z (sound_events z l)
unfolding sound_events AreInOrder
sound-order z [] h = tt
sound-order z (Came w ∷ l) h =
    if-both (λ (k : List Event). AreInOrder z k) (is_none (fault_of (Some z.rule) w.port w.bytes))
    (Came w ∷ sound_events z l) (sound_events z l) (sound-behind z w l h.0, sound-order z l h.1) (sound-order z l h.1)
sound-order z (Closing time ∷ l) h = sound-order z l h

pub sound-came : (z : Terms) (l : List Event) → arrivals_came (sound_events z l) ≡ sound_of z.rule (arrivals_came l)
unfolding sound_events sound_of
sound-came z [] = refl
sound-came z (Came w ∷ l) = by (is_none (fault_of (Some z.rule) w.port w.bytes)) (sound-came z l)
  where
    by : (b : Bool) → arrivals_came (sound_events z l) ≡ sound_of z.rule (arrivals_came l)
        → arrivals_came (if b then Came w ∷ sound_events z l else sound_events z l)
        ≡ (if b then w ∷ sound_of z.rule (arrivals_came l) else sound_of z.rule (arrivals_came l))
    by true e = ap (λ (k : List Arrival). w ∷ k) e
    by false e = e
sound-came z (Closing time ∷ l) = sound-came z l

-- ---- all of it

abbrev pub total : List Gone → ℕ
total [] = 0
total (y ∷ ys) = y.time + total ys

pub all-within : (ys : List Gone) → AllByRecursion (λ y. y.time ≤ total ys) ys
all-within [] = tt
all-within (y ∷ ys) = (
  omega arith,
  every-on (λ w. w.time ≤ total ys) (λ w. w.time ≤ y.time + total ys) (λ w h. omega (arith, h)) ys (all-within ys),
)

-- once all events are over no frame is left
pub none-whole : (z : Terms) (xs : List Arrival) (ys : List Gone) → (judged_whole z xs ys).is_unsure ≡ false
    → AllByRecursion (λ s. s.rest ≡ []) (judged_whole z xs ys).states
none-whole z xs ys sure =
    let events = reverse (events_of z xs ys) in
    let j = judged_whole z xs ys in
    let times = closings-reverse (events_of z xs ys) ∙ ap (λ (l : List ℕ). reverse l) (closed-all z xs ys) in
    let past = every-reverse (λ t. Holds (IsPast t) j.states) (reverse (frame_times ys))
    (subst (λ (l : List ℕ). AllPast j.states l) times (past-after z ys [] events sure)) in
    let here = every-unmap (λ t. Holds (IsPast t) j.states) (λ (y : Gone). y.time) ys
    (subst (λ (l : List ℕ). AllPast j.states l) (reverse-reverse (frame_times ys)) past) in
    none-are-left ys j.states (holds-after (λ y. IsOneOf y ys) z ys [] events (all-of ys)) here

-- its arrivals of the right shape
pub sound-whole : (z : Terms) (xs : List Arrival) (ys : List Gone)
    → arrivals_came (sound_events z (reverse (events_of z xs ys))) ≡ sound_of z.rule (reverse xs)
sound-whole z xs ys =
    sound-came z (reverse (events_of z xs ys)) ∙ ap (λ (l : List Arrival). sound_of z.rule l)
    (came-reverse (events_of z xs ys) ∙ ap (λ (l : List Arrival). reverse l) (came-all z xs ys))

pub all_explained : AllEventsAreExplained
unfolding judged_after
all_explained z xs ys p q sure =
    let events = reverse (events_of z xs ys) in
    let j = judged_whole z xs ys in
    let none = none-whole z xs ys sure in
    let same : closed_to z (total ys) j ≡ j = closed-none z (total ys) j sure (some-after z ys [] events) none in
    let two = found_explained z ys events (total ys) (sound-order z events (in-order z xs ys p)) (all-within ys)
    (ap (λ (k : Judged). k.is_unsure) same ∙ sure) in
    let came = sound-whole z xs ys in (
      λ e. subst (λ (l : List Arrival). Explains z l (reverse ys)) came
          (two.0 (ap (λ (k : Judged). k.findings) same ∙ e)),
      λ e. sym (ap (λ (k : Judged). k.findings) same)
          ∙ two.1 (subst (λ (l : List Arrival). Explains z l (reverse ys)) (sym came) e),
    )
