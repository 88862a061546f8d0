-- What comes later is far behind the events that are over; these go by time.
use Rattle.std.proofs.Common.{◌≡◌, ℕ, ◌+◌, ◌<◌, ◌≤◌, true, false, List, [], ◌∷◌, drop, length, refl, sym, subst, arith}
use Rattle.std.proofs.lemmas.Bool.{lt-ltb, le-ltb}
use Rattle.std.specs.Prelude.{Option, Some, None, nat_lt}
use Rattle.std.specs.List.{AllByRecursion}
use Rattle.afdx_police.specs.Arrival.{Arrival}
use Rattle.afdx_conform.specs.Events.{closings_in, event_time, moment_at}
use Rattle.afdx_conform.specs.Explanations.{from_time}
use Rattle.afdx_conform.specs.Growing.{AreTold, IsKnownBy}
use Rattle.afdx_conform.specs.Histories.{AreEvents, AreOver, coming, next_of, unclosed}
use Rattle.afdx_conform.specs.Later.{AreFar, ComeLater}
use Rattle.afdx_conform.specs.Leeway.{reach}
use Rattle.afdx_conform.specs.States.{Event, Came, Closing, arrivals_came}
use Rattle.afdx_conform.specs.Streams.{Gone, Terms, fits, is_begun, is_begun_by, is_open, latency}
use Rattle.afdx_conform.proofs.AheadLemmas.{too-late}
use Rattle.afdx_conform.proofs.EveryLemmas.{every-on}
use Rattle.afdx_conform.proofs.HistoryLemmas.{every-drop, next-came, next-closing, over-time}

module _ (z : Terms) where
  -- ---- far behind what is over

  pub come-later : (x : Arrival) (time : ℕ) (over : List Event) → time ≤ x.time → AreOver z time over
      → ComeLater z (x ∷ []) over
  unfolding AreOver ComeLater
  come-later x time [] le o = tt
  come-later x time (Came w ∷ before) le o = (
    ((let lt = o.0 in omega (arith, lt, le)), tt),
    come-later x time before le o.1,
  )
  come-later x time (Closing t ∷ before) le o = come-later x time before le o.1

  -- frames no earlier than a time, but for the reach of stamps
  abbrev pub AreLate : ℕ → List Gone → Type 0
  AreLate time more = AllByRecursion (λ y. time ≤ y.time + reach z.by) more

  pub not-open : (w : Arrival) (time : ℕ) → moment_at z w.time < time → time ≤ z.until → is_open z w ≡ false
  unfolding is_open
  not-open w time lt le =
      le-ltb z.until (w.time + latency z + reach z.by + reach z.by) (omega (arith, lt, le))

  pub are-far : (more : List Gone) (time : ℕ) (over : List Event) → time ≤ z.until → AreLate time more
      → AllByRecursion (λ y. is_begun z y ≡ false) more → AreOver z time over → AreFar z more over
  unfolding AreOver AreFar
  are-far more time [] until late begun o = begun
  are-far more time (Came w ∷ before) until late begun o = (
    not-open w time o.0 until,
    every-on (λ y. time ≤ y.time + reach z.by)
        (λ y. nat_lt (w.time + latency z + latency z + reach z.by) y.time ≡ true)
        (λ y le. lt-ltb (w.time + latency z + latency z + reach z.by) y.time (let lt = o.0 in omega (arith, lt, le)))
        more late,
    are-far more time before until late begun o.1,
  )
  are-far more time (Closing t ∷ before) until late begun o = (
    every-on (λ y. time ≤ y.time + reach z.by) (λ y. t < y.time)
        (λ y le. (let lt = o.0 in let at = over-time z (Closing t) before in omega (arith, lt, at, le))) more late,
    are-far more time before until late begun o.1,
  )

  -- an event isn't before the start
  pub from-start : (xs : List Arrival) (ys : List Gone) (e : Event) (before : List Event) → AreTold z xs ys
      → next_of z (coming xs before) (unclosed ys before) ≡ Some e → from_time z.by.start ≤ event_time z e
  from-start xs ys (Came x) before told h =
      let first = next-came z (coming xs before) (unclosed ys before) x h in
      (subst (λ (l : List Arrival). AllByRecursion (λ w. from_time z.by.start ≤ w.time) l) first.1
      (every-drop (λ w. from_time z.by.start ≤ w.time) (length (arrivals_came before)) xs told.start)).0
  from-start xs ys (Closing t) before told h =
      let first = next-closing z (coming xs before) (unclosed ys before) t h in
      let le = (subst (λ (l : List Gone). AllByRecursion (λ w. from_time z.by.start ≤ w.time + reach z.by) l) first.2
      (every-drop (λ w. from_time z.by.start ≤ w.time + reach z.by) (length (closings_in before)) ys told.begun)).0 in
      let is = first.3 in omega (arith, le, is)

  begun-not : (start : Option ℕ) (y : Gone) → from_time start + latency z + reach z.by ≤ y.time
      → is_begun_by z start y ≡ false
  begun-not None y le = refl
  begun-not (Some start) y le = le-ltb y.time (start + latency z + reach z.by) le

  -- something is over, so that it is long after the start
  from-over : (xs : List Arrival) (ys : List Gone) (time : ℕ) (e : Event) (before : List Event) → AreTold z xs ys
      → AreEvents z xs ys (e ∷ before) → AreOver z time (e ∷ before) → moment_at z (from_time z.by.start) < time
  unfolding AreEvents AreOver
  from-over xs ys time (Came x) before told events o =
      let from = from-start xs ys (Came x) before told events.0 in
      let lt = o.0 in
      omega (arith, from, lt)
  from-over xs ys time (Closing t) [] told events o =
      let from = from-start xs ys (Closing t) [] told events.0 in
      let lt = o.0 in
      omega (arith, from, lt)
  from-over xs ys time (Closing t) (e ∷ before) told events o = from-over xs ys time e before told events.1 o.1

  pub not-begun : (xs : List Arrival) (ys more : List Gone) (time : ℕ) (e : Event) (before : List Event)
      → AreTold z xs ys
      → AreEvents z xs ys (e ∷ before) → AreOver z time (e ∷ before) → AreLate time more
      → AllByRecursion (λ y. is_begun z y ≡ false) more
  unfolding is_begun
  not-begun xs ys more time e before told events o late =
      let lt = from-over xs ys time e before told events o in
      every-on (λ y. time ≤ y.time + reach z.by) (λ y. is_begun_by z z.by.start y ≡ false)
      (λ y le. begun-not z.by.start y (omega (arith, lt, le))) more late

  -- an arrival isn't open where its moment lies before the end
  pub known-closed : (x : Arrival) (end : Option ℕ) → end ≡ None → IsKnownBy z end (Came x) → false ≡ is_open z x
  unfolding is_open
  known-closed x end none known =
      let le = subst (λ (o : Option ℕ). IsKnownBy z o (Came x)) none known in
      sym (le-ltb z.until (x.time + latency z + reach z.by + reach z.by) (omega (arith, le)))

  -- ---- forgotten arrivals

  pub over-arrivals : (time : ℕ) (over : List Event) → AreOver z time over
      → AllByRecursion (λ x. moment_at z x.time < time) (arrivals_came over)
  unfolding AreOver
  over-arrivals time [] o = tt
  over-arrivals time (Came x ∷ before) o = (o.0, over-arrivals time before o.1)
  over-arrivals time (Closing t ∷ before) o = over-arrivals time before o.1

  pub fits-not : (x : Arrival) (y : Gone) (time : ℕ) → moment_at z x.time < time → time ≤ y.time + reach z.by
      → fits z x y ≡ false
  fits-not x y time lt le = too-late z x y (omega (arith, lt, le))
  -- ---- by time
