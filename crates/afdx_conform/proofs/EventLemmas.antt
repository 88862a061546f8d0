-- The events of a stream, by its arrivals and frames.
use Rattle.std.proofs.Common.{◌≡◌, ℕ, ◌+◌, ◌<◌, ◌≤◌, Bool, true, false, List, [], ◌∷◌, ◌++◌, map, reverse, refl, sym, ap, ◌∙◌, subst, arith}
use Rattle.std.proofs.lemmas.Bool.{ltb-true, ltb-false}
use Rattle.std.specs.Prelude.{⊤, if◌then◌else◌}
use Rattle.std.specs.List.{AllByRecursion}
use Rattle.afdx_police.specs.Arrival.{Arrival}
use Rattle.afdx_conform.specs.EventLaws.{EventsJoin, EventsAreWhole}
use Rattle.afdx_conform.specs.Events.{GoUp, arrival_times, frame_times, closings_in, closes_before, up_to, events_of, event_time}
use Rattle.afdx_conform.specs.Leeway.{reach}
use Rattle.afdx_conform.specs.States.{Event, Came, Closing, arrivals_came, IsBehindClosings, AreInOrder}
use Rattle.afdx_conform.specs.Streams.{Gone, Terms}
use Rattle.afdx_conform.proofs.EveryLemmas.{every-map, every-unmap, every-on, every-all, every-reverse, reverse-first}

module _ (z : Terms) where
  abbrev BeforeAll : List Arrival → Gone → Type 0
  BeforeAll behind y = AllByRecursion (λ x. closes_before z y x ≡ true) behind

  abbrev NotBefore : List Gone → Arrival → Type 0
  NotBefore left x = AllByRecursion (λ y. closes_before z y x ≡ false) left

  first-closed : (behind : List Arrival) (y : Gone) (left : List Gone) → BeforeAll behind y
      → events_of z behind (y ∷ left) ≡ Closing y.time ∷ events_of z behind left
  unfolding events_of up_to
  first-closed [] y left h = refl
  first-closed (x ∷ behind) y left h =
      ap (λ (b : Bool). if b then Closing y.time ∷ events_of z (x ∷ behind) left
      else Came x ∷ events_of z behind (y ∷ left)) h.0

  first-came : (x : Arrival) (xs : List Arrival) (left : List Gone) → NotBefore left x
      → events_of z (x ∷ xs) left ≡ Came x ∷ events_of z xs left
  unfolding events_of up_to
  first-came x xs [] h = refl
  first-came x xs (y ∷ left) h =
      ap (λ (b : Bool). if b then Closing y.time ∷ events_of z (x ∷ xs) left
      else Came x ∷ events_of z xs (y ∷ left)) h.0

  if-cons : (b : Bool) (e f : Event) (l l' m m' r : List Event) → l ≡ l' ++ r → m ≡ m' ++ r
      → (if b then e ∷ l else f ∷ m) ≡ (if b then e ∷ l' else f ∷ m') ++ r
  if-cons true e f l l' m m' r p q = ap (λ (k : List Event). e ∷ k) p
  if-cons false e f l l' m m' r p q = ap (λ (k : List Event). f ∷ k) q

  pub join : (xs behind : List Arrival) (ys left : List Gone) → AllByRecursion (BeforeAll behind) ys
      → AllByRecursion (NotBefore left) xs
      → events_of z (xs ++ behind) (ys ++ left) ≡ events_of z xs ys ++ events_of z behind left
  unfolding events_of up_to
  join [] behind [] left closed came = refl
  join [] behind (y ∷ ys) left closed came =
      first-closed behind y (ys ++ left) closed.0
      ∙ ap (λ (l : List Event). Closing y.time ∷ l) (join [] behind ys left closed.1 came)
  join (x ∷ xs) behind [] left closed came =
      first-came x (xs ++ behind) left came.0
      ∙ ap (λ (l : List Event). Came x ∷ l) (join xs behind [] left closed came.1)
  join (x ∷ xs) behind (y ∷ ys) left closed came =
      if-cons (closes_before z y x) (Closing y.time) (Came x) _ _ _ _ (events_of z behind left)
      (join (x ∷ xs) behind ys left closed.1 came)
      (join xs behind (y ∷ ys) left closed came.1)

pub events_join : EventsJoin
events_join z xs behind ys left h = join z xs behind ys left h.closed h.came

-- ---- what is so of each event

module _ (z : Terms) where
  if-of : {X : Type 0} (P : X → Type 0) (b : Bool) (u v : X) → (b ≡ true → P u) → (b ≡ false → P v)
      → P (if b then u else v)
  if-of P true u v p q = p refl
  if-of P false u v p q = q refl

  pub every-event : (P : Event → Type 0) (xs : List Arrival) (ys : List Gone) → AllByRecursion (λ x. P (Came x)) xs
      → AllByRecursion (λ y. P (Closing y.time)) ys → AllByRecursion P (events_of z xs ys)
  unfolding events_of up_to
  every-event P [] [] p q = tt
  every-event P [] (y ∷ ys) p q = (q.0, every-event P [] ys p q.1)
  every-event P (x ∷ xs) [] p q = (p.0, every-event P xs [] p.1 q)
  every-event P (x ∷ xs) (y ∷ ys) p q =
      let one = every-event P (x ∷ xs) ys p q.1 in
      let two = every-event P xs (y ∷ ys) p.1 q in
      if-of (AllByRecursion P) (closes_before z y x) (Closing y.time ∷ events_of z (x ∷ xs) ys)
      (Came x ∷ events_of z xs (y ∷ ys))
      (λ e. (q.0, one)) (λ e. (p.0, two))

  pub came-all : (xs : List Arrival) (ys : List Gone) → arrivals_came (events_of z xs ys) ≡ xs
  unfolding events_of up_to
  came-all [] [] = refl
  came-all [] (y ∷ ys) = came-all [] ys
  came-all (x ∷ xs) [] = ap (λ (l : List Arrival). x ∷ l) (came-all xs [])
  came-all (x ∷ xs) (y ∷ ys) =
      let one = came-all (x ∷ xs) ys in
      let two = came-all xs (y ∷ ys) in
      if-of (λ l. arrivals_came l ≡ x ∷ xs) (closes_before z y x) (Closing y.time ∷ events_of z (x ∷ xs) ys)
      (Came x ∷ events_of z xs (y ∷ ys)) (λ e. one) (λ e. ap (λ (l : List Arrival). x ∷ l) two)

  pub closed-all : (xs : List Arrival) (ys : List Gone) → closings_in (events_of z xs ys) ≡ frame_times ys
  unfolding events_of up_to
  closed-all [] [] = refl
  closed-all [] (y ∷ ys) = ap (λ (l : List ℕ). y.time ∷ l) (closed-all [] ys)
  closed-all (x ∷ xs) [] = closed-all xs []
  closed-all (x ∷ xs) (y ∷ ys) =
      let one = closed-all (x ∷ xs) ys in
      let two = closed-all xs (y ∷ ys) in
      if-of (λ l. closings_in l ≡ y.time ∷ frame_times ys) (closes_before z y x)
      (Closing y.time ∷ events_of z (x ∷ xs) ys)
      (Came x ∷ events_of z xs (y ∷ ys)) (λ e. ap (λ (l : List ℕ). y.time ∷ l) one) (λ e. two)

  -- ---- by time

  abbrev NotBelow : ℕ → Event → Type 0
  NotBelow time e = time ≤ event_time z e

  from-arrivals : (time : ℕ) (xs : List Arrival) → AllByRecursion (λ other. time ≤ other) (arrival_times xs)
      → AllByRecursion (λ x. NotBelow time (Came x)) xs
  from-arrivals time xs h = every-unmap (λ other. time ≤ other) (λ x. x.time) xs h

  from-frames : (time : ℕ) (ys : List Gone) → AllByRecursion (λ other. time ≤ other) (frame_times ys)
      → AllByRecursion (λ y. NotBelow (time + reach z.by) (Closing y.time)) ys
  from-frames time ys h =
      every-on (λ y. time ≤ y.time) (λ y. NotBelow (time + reach z.by) (Closing y.time))
      (λ y le. omega (arith, le)) ys
      (every-unmap (λ other. time ≤ other) (λ y. y.time) ys h)

  pub by-time : (xs : List Arrival) (ys : List Gone) → GoUp (arrival_times xs) → GoUp (frame_times ys)
      → GoUp (map (event_time z) (events_of z xs ys))
  unfolding GoUp events_of up_to
  by-time [] [] p q = tt
  by-time [] (y ∷ ys) p q = (
    every-map (λ other. y.time + reach z.by ≤ other) (event_time z) (events_of z [] ys)
        (every-event (NotBelow (y.time + reach z.by)) [] ys tt (from-frames y.time ys q.0)),
    by-time [] ys p q.1,
  )
  by-time (x ∷ xs) [] p q = (
    every-map (λ other. x.time ≤ other) (event_time z) (events_of z xs [])
        (every-event (NotBelow x.time) xs [] (from-arrivals x.time xs p.0) tt),
    by-time xs [] p.1 q,
  )
  by-time (x ∷ xs) (y ∷ ys) p q =
      let one = by-time (x ∷ xs) ys p q.1 in
      let two = by-time xs (y ∷ ys) p.1 q in
      let closing = y.time + reach z.by in
      if-of (λ l. GoUp (map (event_time z) l)) (closes_before z y x) (Closing y.time ∷ events_of z (x ∷ xs) ys)
      (Came x ∷ events_of z xs (y ∷ ys))
      (λ e.
      let lt = ltb-true (y.time + reach z.by) x.time e in (
        every-map (λ other. y.time + reach z.by ≤ other) (event_time z) (events_of z (x ∷ xs) ys)
            (every-event (NotBelow (y.time + reach z.by)) (x ∷ xs) ys (
              omega (arith, lt),
              every-on (λ w. x.time ≤ w.time) (λ w. NotBelow (y.time + reach z.by) (Came w))
                  (λ w le. omega (arith, le, lt)) xs (from-arrivals x.time xs p.0),
            )
            (from-frames y.time ys q.0)),
        one,
      ))
      (λ e.
      let le = ltb-false (y.time + reach z.by) x.time e in (
        every-map (λ other. x.time ≤ other) (event_time z) (events_of z xs (y ∷ ys))
            (every-event (NotBelow x.time) xs (y ∷ ys) (from-arrivals x.time xs p.0) (
              le,
              every-on (λ w. NotBelow (y.time + reach z.by) (Closing w.time))
                  (λ w. NotBelow x.time (Closing w.time))
                  (λ w k. omega (arith, k, le)) ys (from-frames y.time ys q.0),
            )),
        two,
      ))

  -- ---- arrivals behind closings

  abbrev ComesBehind : ℕ → Event → Type 0
  ComesBehind time (Came x) = time + reach z.by < x.time
  ComesBehind time (Closing other) = ⊤

  behind-came : (w x : Arrival) (l : List Event) → IsBehindClosings z w l → IsBehindClosings z w (l ++ (Came x ∷ []))
  unfolding IsBehindClosings
  behind-came w x [] h = tt
  behind-came w x (Came v ∷ l) h = behind-came w x l h
  behind-came w x (Closing time ∷ l) h = (h.0, behind-came w x l h.1)

  order-came : (x : Arrival) (l : List Event) → AreInOrder z l → AreInOrder z (l ++ (Came x ∷ []))
  unfolding AreInOrder IsBehindClosings
  order-came x [] h = (tt, tt)
  order-came x (Came w ∷ l) h = (behind-came w x l h.0, order-came x l h.1)
  order-came x (Closing time ∷ l) h = order-came x l h

  behind-closing : (w : Arrival) (time : ℕ) (l : List Event) → time + reach z.by < w.time → IsBehindClosings z w l
      → IsBehindClosings z w (l ++ (Closing time ∷ []))
  unfolding IsBehindClosings
  behind-closing w time [] lt h = (lt, tt)
  behind-closing w time (Came v ∷ l) lt h = behind-closing w time l lt h
  behind-closing w time (Closing other ∷ l) lt h = (h.0, behind-closing w time l lt h.1)

  order-closing : (time : ℕ) (l : List Event) → AllByRecursion (ComesBehind time) l → AreInOrder z l
      → AreInOrder z (l ++ (Closing time ∷ []))
  unfolding AreInOrder
  order-closing time [] p h = tt
  order-closing time (Came w ∷ l) p h = (behind-closing w time l p.0 h.0, order-closing time l p.1 h.1)
  order-closing time (Closing other ∷ l) p h = order-closing time l p.1 h

  order-first : (e : Event) (l : List Event) → AreInOrder z (reverse l ++ (e ∷ [])) → AreInOrder z (reverse (e ∷ l))
  order-first e l h = subst (λ k. AreInOrder z k) (sym (reverse-first e l)) h

  pub in-order : (xs : List Arrival) (ys : List Gone) → GoUp (arrival_times xs)
      → AreInOrder z (reverse (events_of z xs ys))
  unfolding GoUp AreInOrder events_of up_to
  in-order [] [] p = tt
  in-order [] (y ∷ ys) p =
      order-first (Closing y.time) (events_of z [] ys)
      (order-closing y.time (reverse (events_of z [] ys))
      (every-reverse (ComesBehind y.time) (events_of z [] ys)
      (every-event (ComesBehind y.time) [] ys tt (every-all (λ v. ⊤) (λ v. tt) ys)))
      (in-order [] ys p))
  in-order (x ∷ xs) [] p =
      order-first (Came x) (events_of z xs []) (order-came x (reverse (events_of z xs [])) (in-order xs [] p.1))
  in-order (x ∷ xs) (y ∷ ys) p =
      let one = in-order (x ∷ xs) ys p in
      let two = in-order xs (y ∷ ys) p.1 in
      if-of (λ l. AreInOrder z (reverse l)) (closes_before z y x) (Closing y.time ∷ events_of z (x ∷ xs) ys)
      (Came x ∷ events_of z xs (y ∷ ys))
      (λ e.
      let lt = ltb-true (y.time + reach z.by) x.time e in
      order-first (Closing y.time) (events_of z (x ∷ xs) ys)
      (order-closing y.time (reverse (events_of z (x ∷ xs) ys))
      (every-reverse (ComesBehind y.time) (events_of z (x ∷ xs) ys)
      (every-event (ComesBehind y.time) (x ∷ xs) ys (
        lt,
        every-on (λ w. x.time ≤ w.time) (λ w. ComesBehind y.time (Came w)) (λ w le. omega (arith, le, lt)) xs
            (from-arrivals x.time xs p.0),
      )
      (every-all (λ v. ⊤) (λ v. tt) ys)))
      one))
      (λ e. order-first (Came x) (events_of z xs (y ∷ ys)) (order-came x (reverse (events_of z xs (y ∷ ys))) two))

pub events_whole : EventsAreWhole
events_whole z xs ys p q = record {
  came = came-all z xs ys;
  closed = closed-all z xs ys;
  by_time = by-time z xs ys p q;
  in_order = in-order z xs ys p;
}
