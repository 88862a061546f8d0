-- The events of a stream whose moments lie before a time.
use Rattle.std.proofs.Common.{◌≡◌, ℕ, zero, suc, ◌+◌, ◌<◌, ◌≤◌, inr, Bool, true, false, Option, List, [], ◌∷◌, ◌++◌, drop, length, refl, sym, ap, ◌∙◌, subst, arith}
use Rattle.std.proofs.lemmas.Bool.{ltb-true, ltb-false}
use Rattle.std.proofs.lemmas.List.{append-nil}
use Rattle.std.specs.Prelude.{nat_lt, Some, None}
use Rattle.std.specs.List.{AllByRecursion}
use Rattle.afdx_police.specs.Arrival.{Arrival}
use Rattle.afdx_conform.specs.Ahead.{NoneIsOpen, until_then}
use Rattle.afdx_conform.specs.Events.{closings_in, event_time, moment_at}
use Rattle.afdx_conform.specs.Findings.{Judged}
use Rattle.afdx_conform.specs.Growing.{AreTold}
use Rattle.afdx_conform.specs.Histories.{AreEvents, AreOver, coming, judged_by, judged_of, next_of, shown, unclosed}
use Rattle.afdx_conform.specs.States.{Event, Came, Closing, arrivals_came}
use Rattle.afdx_conform.specs.Streams.{Gone, Terms}
use Rattle.afdx_conform.proofs.HistoryLemmas.{drop-next, next-came, next-closing, over-moment}
use Rattle.afdx_conform.proofs.LaterEnd.{end_later}
use Rattle.afdx_conform.proofs.OverLemmas.{not-open}
use Rattle.afdx_conform.proofs.StandingLemmas.{at-until}
use Rattle.afdx_command_conform.proofs.LaterLemmas.{AddsAt}
use Rattle.afdx_command_conform.proofs.RestLemmas.{AreAt, all-at, more-adds, up-drop}

-- their moments don't lie before it
abbrev pub IsLate : ℕ → ℕ → Type 0
IsLate time moment = time ≤ moment

pub late-later : (time a b : ℕ) → a ≤ b → IsLate time a → IsLate time b
late-later time a b le h = omega (arith, le, h)

module _ (z : Terms) (time : ℕ) (xs : List Arrival) (ys : List Gone) (told : AreTold z xs ys) where
  -- these are over, and no other one lies before the time
  pub record IsUpTo : Type 0 where
    pub over : List Event
    pub events : AreEvents z xs ys over
    pub before : AreOver z time over
    pub rest : AreAt z (IsLate time) (late-later time) (coming xs over) (unclosed ys over)

  abbrev left-of : List Event → ℕ
  left-of over = length (coming xs over) + length (unclosed ys over)

  shorter : {X : Type 0} (n : ℕ) (l : List X) (x : X) (rest : List X) → drop n l ≡ x ∷ rest
      → length (drop n l) ≡ suc (length (drop (suc n) l))
  shorter n l x rest is = ap (λ v. length v) is ∙ ap (λ v. suc (length v)) (sym (drop-next n l x rest is))

  less-left : (over : List Event) (e : Event) → next_of z (coming xs over) (unclosed ys over) ≡ Some e
      → suc (left-of (e ∷ over)) ≡ left-of over
  less-left over (Came x) is =
      let first = next-came z (coming xs over) (unclosed ys over) x is in
      let less = shorter (length (arrivals_came over)) xs x first.0 first.1 in
      omega (arith, less)
  less-left over (Closing t) is =
      let first = next-closing z (coming xs over) (unclosed ys over) t is in
      let less = shorter (length (closings_in over)) ys first.0 first.1 first.2 in
      omega (arith, less)

  stop : (over : List Event) → AreEvents z xs ys over → AreOver z time over
      → ((e : Event) → next_of z (coming xs over) (unclosed ys over) ≡ Some e → time ≤ moment_at z (event_time z e))
      → IsUpTo
  stop over events before h = record {
    over = over;
    events = events;
    before = before;
    rest = all-at z (IsLate time) (late-later time) (coming xs over) (unclosed ys over)
        (up-drop (λ (x : Arrival). x.time) (length (arrivals_came over)) xs told.came)
        (up-drop (λ (y : Gone). y.time) (length (closings_in over)) ys told.left) h;
  }

  -- one more, if its moment lies before it
  step : (over : List Event) → AreEvents z xs ys over → AreOver z time over
      → ((e : Event) → next_of z (coming xs over) (unclosed ys over) ≡ Some e → moment_at z (event_time z e) < time
      → IsUpTo)
      → IsUpTo
  step over events before again = by (next_of z (coming xs over) (unclosed ys over)) refl
    where
      same-event : (a b : Event) → Some a ≡ Some b → a ≡ b
      same-event a b k = cc

      at : (e : Event) → next_of z (coming xs over) (unclosed ys over) ≡ Some e
          → (b : Bool) → nat_lt (moment_at z (event_time z e)) time ≡ b → IsUpTo
      at e is true lt = again e is (ltb-true (moment_at z (event_time z e)) time lt)
      at e is false ge = stop over events before (λ v next. subst (λ w. time ≤ moment_at z (event_time z w))
          (same-event e v (sym is ∙ next)) (ltb-false (moment_at z (event_time z e)) time ge))

      by : (o : Option Event) → next_of z (coming xs over) (unclosed ys over) ≡ o → IsUpTo
      by None is = stop over events before (λ e next. absurd (let bad = sym is ∙ next in cc bad))
      by (Some e) is = at e is (nat_lt (moment_at z (event_time z e)) time) refl

  go : (n : ℕ) (over : List Event) → left-of over ≤ n → AreEvents z xs ys over → AreOver z time over → IsUpTo
  unfolding AreEvents AreOver
  go zero over few events before = step over events before
      (λ e next lt. absurd (let less = less-left over e next in omega (arith, less, few)))
  go (suc n) over few events before = step over events before
      (λ e next lt. go n (e ∷ over) (let less = less-left over e next in omega (arith, less, few)) (next, events)
      ((let le = over-moment z e over in omega (arith, lt, le)), before))

  pub up-to-time : IsUpTo
  unfolding AreEvents AreOver
  up-to-time = go (left-of []) [] (omega arith) nothing none
    where
      nothing : AreEvents z xs ys []
      nothing = tt

      none : AreOver z time []
      none = tt

-- ---- whatever comes later, and whenever the recordings end

next-same : (z : Terms) (until : ℕ) (cs : List Arrival) (us : List Gone) → next_of (until_then until z) cs us
    ≡ next_of z cs us
next-same z until [] [] = refl
next-same z until [] (y ∷ us) = refl
next-same z until (x ∷ cs) [] = refl
next-same z until (x ∷ cs) (y ∷ us) = refl

events-same : (z : Terms) (until : ℕ) (xs : List Arrival) (ys : List Gone) (over : List Event) → AreEvents z xs ys over
    → AreEvents (until_then until z) xs ys over
unfolding AreEvents
events-same z until xs ys [] h = tt
events-same z until xs ys (e ∷ over) h =
    (next-same z until (coming xs over) (unclosed ys over) ∙ h.0, events-same z until xs ys over h.1)

over-same : (z : Terms) (until time : ℕ) (over : List Event) → AreOver z time over
    → AreOver (until_then until z) time over
unfolding AreOver
over-same z until time [] h = tt
over-same z until time (Came x ∷ over) h = (h.0, over-same z until time over h.1)
over-same z until time (Closing t ∷ over) h = (
  (let lt = h.0 in let same = at-until z until (Closing t) over in omega (arith, lt, same)),
  over-same z until time
      over h.1,
)

none-open : (z : Terms) (time : ℕ) (over : List Event) → time ≤ z.until → AreOver z time over → NoneIsOpen z over
unfolding AreOver NoneIsOpen
none-open z time [] le h = tt
none-open z time (Came x ∷ over) le h = (not-open z x time h.0 le, none-open z time over le h.1)
none-open z time (Closing t ∷ over) le h = none-open z time over le h.1

told-same : (z : Terms) (until : ℕ) (xs : List Arrival) (ys : List Gone) → AreTold z xs ys
    → AreTold (until_then until z) xs ys
told-same z until xs ys told = record { came = told.came; left = told.left; start = told.start; begun = told.begun }

-- what is judged at the events before a time
pub record IsJudgedTo (z : Terms) (until time : ℕ) (xs ls : List Arrival) (ys ms : List Gone) : Type 0 where
  pub j : Judged
  pub more : AddsAt z (λ t. time ≤ moment_at z t) j (shown (judged_of z (xs ++ ls) (ys ++ ms)))
  pub so_far : AddsAt (until_then until z) (λ t. time ≤ moment_at z t) j (shown (judged_of (until_then until z) xs ys))

pub judged-to : (z : Terms) (until time : ℕ) (xs ls : List Arrival) (ys ms : List Gone) → AreTold z xs ys
    → time ≤ z.until
    → time ≤ until
    → AllByRecursion (λ x. time ≤ x.time) ls → AllByRecursion (λ y. time ≤ y.time) ms
    → IsJudgedTo z until time xs ls ys ms
judged-to z until time xs ls ys ms told le until-le come leave =
    let u = up-to-time z time xs ys told in
    let v : Terms = until_then until z in
    let same : judged_by v xs ys u.over ≡ judged_by z xs ys u.over =
    end_later z until ys (coming xs u.over) u.over (none-open z time u.over le u.before)
    (none-open v time u.over until-le (over-same z until time u.over u.before)) in
    record {
      j = shown (judged_by z xs ys u.over);
      more = more-adds z (IsLate time) (late-later time) time (omega arith) xs ls ys ms u.over u.before told u.events
          le come leave
          (inr u.rest);
      so_far =
          subst (λ (i : Judged). AddsAt v (λ t. time ≤ moment_at z t) (shown i) (shown (judged_of v xs ys))) same
          (subst (λ (l : List Arrival). AddsAt v (λ t. time ≤ moment_at z t) (shown (judged_by v xs ys u.over))
          (shown (judged_of v l ys)))
          (append-nil xs)
          (subst (λ (l : List Gone). AddsAt v (λ t. time ≤ moment_at z t) (shown (judged_by v xs ys u.over))
          (shown (judged_of v (xs ++ []) l))) (append-nil ys)
          (more-adds v (IsLate time) (late-later time) time (omega arith) xs [] ys [] u.over
          (over-same z until time u.over u.before)
          (told-same z until xs ys told) (events-same z until xs ys u.over u.events) until-le tt tt (inr u.rest))));
    }
