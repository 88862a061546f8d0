-- Where something explains a stream nothing is found, also where it is unsure.
use Rattle.std.proofs.Common.{◌≡◌, ℕ, ◌<◌, Bool, true, false, Option, List, [], ◌∷◌, ◌⊎◌, inl, inr, length, reverse, refl, sym, ap, ◌∙◌, subst, arith}
use Rattle.std.proofs.lemmas.List.{length-append}
use Rattle.std.specs.Prelude.{if◌then◌else◌, is_none, Some, None}
use Rattle.afdx_police.specs.Arrival.{Arrival}
use Rattle.afdx_police.specs.Shape.{fault_of}
use Rattle.afdx_police.specs.declared.shape.Reason.{Reason}
use Rattle.afdx_conform.specs.EventLaws.{ExplainedFindsNothing, NothingFoundCountsNone, UnsureIsBehindOne}
use Rattle.afdx_conform.specs.Events.{events_of, judged_whole}
use Rattle.afdx_conform.specs.Explanations.{Explains, last_time, levels_then, link}
use Rattle.afdx_conform.specs.Findings.{Judged, answered_by, came_by, came_to, closed_by, closed_to, few_of, is_uncertain, judged_after, lead, front_rest, one_if, rate_mark, skipped, sound_came, sound_events, with_mark}
use Rattle.afdx_conform.specs.Laws.{IsSomeState}
use Rattle.afdx_conform.specs.Levels.{first_levels}
use Rattle.afdx_conform.specs.States.{Event, Came, Closing, State, arrivals_came, are_behind, first_states, kept, led_by, states_after, states_at}
use Rattle.afdx_conform.specs.Streams.{Gone, Terms}
use Rattle.afdx_conform.proofs.EventLemmas.{in-order}
use Rattle.afdx_conform.proofs.FindingLemmas.{IsEither, IsFound, IsGood, came-cases, closed-cases, deviates-finds, enough-itself, first-some, found-none, if-both, marked-either, skipped-finds}
use Rattle.afdx_conform.proofs.GrowthCloses.{closed-unsure}
use Rattle.afdx_conform.proofs.StateLemmas.{states_explain}
use Rattle.afdx_conform.proofs.WholeLemmas.{all-within, sound-order, sound-whole, total}

-- ---- where a state is left

-- nothing is found, and while it is sure the states are enough of all
record IsQuiet (all : List State) (j : Judged) : Type 0 where
  pub none : j.findings ≡ []
  pub good : j.is_unsure ≡ false → IsGood all j

led-some : (to : State → List State) (all : List State) → IsSomeState (led_by to all) → IsSomeState all
unfolding led_by
led-some to [] h = h
led-some to (s ∷ all) h = tt

kept-some : (test : State → Bool) (all : List State) → IsSomeState (kept test all) → IsSomeState all
unfolding kept
kept-some test [] h = h
kept-some test (s ∷ all) h = tt

either-quiet : (all : List State) (j : Judged) → IsSomeState all → IsEither all j → IsQuiet all j
either-quiet all j some (inl g) = record { none = g.none; good = λ e. g }
either-quiet all j some (inr b) = absurd (subst (λ (l : List State). IsSomeState l) b.gone some)

-- one more event: nothing changes where it is unsure
step : (all more : List State) (j k : Judged) → IsQuiet all j → IsSomeState more → (IsEither all j → IsEither more k)
    → (b : Bool) → j.is_unsure ≡ b → IsQuiet more (if b then j else k)
step all more j k q some to true e = record { none = q.none; good = λ h. absurd (cc) }
step all more j k q some to false e = either-quiet more k some (to (inl (q.good e)))

module _ (z : Terms) (ys : List Gone) (behind : List Arrival) (x : Arrival) (before : List Event) where
  abbrev Last : ℕ
  Last = last_time z.by (arrivals_came (sound_events z before))

  abbrev Every : List State
  Every = states_after z ys (sound_events z before)

  abbrev J : Judged
  J = judged_after z ys (x ∷ behind) before

  quiet-came : (fault : Option Reason)
      → IsSomeState (states_after z ys (if is_none fault then Came x ∷ sound_events z before else sound_events z
      before))
      → (IsSomeState Every → IsQuiet Every J)
      → IsQuiet (states_after z ys (if is_none fault then Came x ∷ sound_events z before else sound_events z before))
      (if J.is_unsure then J else came_by z behind Last x fault J)
  unfolding states_after
  quiet-came None some more =
      step Every (led_by (λ s. states_at z x (levels_then z s.levels Last x) s) Every) J (sound_came z behind Last x J)
      (more (led-some (λ s. states_at z x (levels_then z s.levels Last x) s) Every some)) some
      (λ m. came-cases z behind Last x Every J (rate_mark z Last x J.states)
      (one_if z (is_uncertain z Last x J.states)) _ refl m)
      J.is_unsure refl
  quiet-came (Some fault) some more =
      step Every Every J (with_mark x (Some fault) J) (more some) some
      (λ m. marked-either x (Some fault) Every J m) J.is_unsure refl

module _ (z : Terms) where
  quiet : (ys : List Gone) (behind : List Arrival) (events : List Event)
      → IsSomeState (states_after z ys (sound_events z events))
      → IsQuiet (states_after z ys (sound_events z events)) (judged_after z ys behind events)
  unfolding judged_after states_after sound_events came_to closed_to
  quiet ys behind [] h = record {
    none = refl;
    good = λ e. record {
      none = refl;
      enough = enough-itself (first_states z (first_levels (link z) z.by z.by.start) ys);
      some = first-some z (first_levels (link z) z.by z.by.start) ys;
    };
  }
  quiet ys behind (Came x ∷ before) h =
      quiet-came z ys behind x before (fault_of (Some z.rule) x.port x.bytes) h (λ k. quiet ys (x ∷ behind) before k)
  quiet ys behind (Closing time ∷ before) h =
      let all = states_after z ys (sound_events z before) in
      let j = judged_after z ys behind before in
      step all (kept (λ s. are_behind time s.rest) all) j
      (closed_by z time (kept (λ s. are_behind time s.rest) j.states) j)
      (quiet ys behind before (kept-some (λ s. are_behind time s.rest) all h)) h
      (λ m. closed-cases z time all j _ refl m) j.is_unsure refl

pub finds_nothing : ExplainedFindsNothing
unfolding states_after sound_events
finds_nothing z xs ys p e =
    let events = reverse (events_of z xs ys) in
    let came = sound-whole z xs ys in
    let law = states_explain z ys (sound_events z events) (total ys) (sound-order z events (in-order z xs ys p))
    (all-within ys) in
    let some = law.1 (subst (λ (l : List Arrival). Explains z l (reverse ys)) (sym came) e) in
    (quiet z ys [] events
    (kept-some (λ s. are_behind (total ys) s.rest) (states_after z ys (sound_events z events)) some)).none

-- ---- too many states are behind an arrival

unsure-came : (z : Terms) (behind : List Arrival) (last : ℕ) (x : Arrival) (fault : Option Reason) (j : Judged)
    → 0 < length (came_by z behind last x fault j).arrivals
unsure-came z behind last x None j =
    let k = few_of z (one_if z (is_uncertain z last x j.states)) (answered_by z behind last x
    (led_by (λ s. states_at z x (levels_then z s.levels last x) s) j.states) j) in
    let n = length-append k.arrivals ((record { arrival = x; mark = rate_mark z last x j.states; is_named = false })
    ∷ []) in
    omega (arith, n)
unsure-came z behind last x (Some fault) j =
    let n = length-append j.arrivals ((record { arrival = x; mark = Some fault; is_named = false }) ∷ []) in
    omega (arith, n)

behind-if : (b : Bool) (j k : Judged) → (b ≡ true → 0 < length j.arrivals) → 0 < length k.arrivals
    → 0 < length (if b then j else k).arrivals
behind-if true j k h m = h refl
behind-if false j k h m = m

closed-stays : (z : Terms) (time : ℕ) (j : Judged) → j.is_unsure ≡ true → closed_to z time j ≡ j
unfolding closed_to
closed-stays z time j e =
    ap (λ (b : Bool). if b then j else closed_by z time (kept (λ s. are_behind time s.rest) j.states) j) e

behind-one : (z : Terms) (ys : List Gone) (behind : List Arrival) (events : List Event)
    → (judged_after z ys behind events).is_unsure ≡ true → 0 < length (judged_after z ys behind events).arrivals
unfolding judged_after came_to
behind-one z ys behind [] h = absurd (cc)
behind-one z ys behind (Came x ∷ before) h =
    let last = last_time z.by (arrivals_came (sound_events z before)) in
    let j = judged_after z ys (x ∷ behind) before in
    behind-if j.is_unsure j (came_by z behind last x (fault_of (Some z.rule) x.port x.bytes) j)
    (λ e. behind-one z ys (x ∷ behind) before e)
    (unsure-came z behind last x (fault_of (Some z.rule) x.port x.bytes) j)
behind-one z ys behind (Closing time ∷ before) h =
    let j = judged_after z ys behind before in
    let e : j.is_unsure ≡ true = sym (closed-unsure z time j) ∙ h in
    subst (λ (k : Judged). 0 < length k.arrivals) (sym (closed-stays z time j e)) (behind-one z ys behind before e)

pub behind_one : UnsureIsBehindOne
behind_one z xs ys h = behind-one z ys [] (reverse (events_of z xs ys)) h

-- ---- what is counted

-- something is found, or no frame is counted
abbrev IsCounted : Judged → Type 0
IsCounted j = IsFound j.findings ⊎ (j.frames ≡ 0)

counted-came : (z : Terms) (behind : List Arrival) (last : ℕ) (x : Arrival) (l : List State) (j : Judged) → IsCounted j
    → IsCounted (answered_by z behind last x l j)
counted-came z behind last x [] j h = inl (deviates-finds z behind x _ (front_rest j.states) j)
counted-came z behind last x (s ∷ more) j h = h

counted-by : (z : Terms) (behind : List Arrival) (last : ℕ) (x : Arrival) (fault : Option Reason) (j : Judged)
    → IsCounted j
    → IsCounted (came_by z behind last x fault j)
counted-by z behind last x None j h =
    counted-came z behind last x (led_by (λ s. states_at z x (levels_then z s.levels last x) s) j.states) j h
counted-by z behind last x (Some fault) j h = h

counted-skip : (z : Terms) (time : ℕ) (front : List State) (rest : List Gone) (j : Judged) → IsCounted j
    → IsCounted (skipped z time front rest j)
unfolding skipped
counted-skip z time front [] j h = h
counted-skip z time front (y ∷ rest) j h = inl (skipped-finds z time front y rest j)

counted-closed : (z : Terms) (time : ℕ) (l : List State) (j : Judged) → IsCounted j → IsCounted (closed_by z time l j)
counted-closed z time [] j h = counted-skip z time (lead j.states) (front_rest j.states) j h
counted-closed z time (s ∷ more) j h = h

counted : (z : Terms) (ys : List Gone) (behind : List Arrival) (events : List Event)
    → IsCounted (judged_after z ys behind events)
unfolding judged_after came_to closed_to
counted z ys behind [] = inr refl
counted z ys behind (Came x ∷ before) =
    let last = last_time z.by (arrivals_came (sound_events z before)) in
    let j = judged_after z ys (x ∷ behind) before in
    let h = counted z ys (x ∷ behind) before in
    if-both (λ (k : Judged). IsCounted k) j.is_unsure j
    (came_by z behind last x (fault_of (Some z.rule) x.port x.bytes) j)
    h (counted-by z behind last x (fault_of (Some z.rule) x.port x.bytes) j h)
counted z ys behind (Closing time ∷ before) =
    let j = judged_after z ys behind before in
    let h = counted z ys behind before in
    let l = kept (λ s. are_behind time s.rest) j.states in
    if-both (λ (k : Judged). IsCounted k) j.is_unsure j (closed_by z time l j) h (counted-closed z time l j h)

pub counts_none : NothingFoundCountsNone
counts_none z xs ys h = by (counted z ys [] (reverse (events_of z xs ys)))
  where
    by : IsCounted (judged_whole z xs ys) → (judged_whole z xs ys).frames ≡ 0
    by (inl f) = absurd (found-none (judged_whole z xs ys).findings f h)
    by (inr e) = e
