-- The events of a stream while its arrivals and frames come.
use Rattle.std.proofs.Common.{◌≡◌, ℕ, zero, suc, ◌+◌, ◌<◌, ◌≤◌, Bool, true, false, List, [], ◌∷◌, ◌++◌, reverse, drop, length, refl, sym, ap, ◌∙◌, subst, arith}
use Rattle.std.proofs.lemmas.Bool.{lt-ltb, le-ltb}
use Rattle.std.proofs.lemmas.List.{append_assoc, drop-append-le, length-drop}
use Rattle.std.specs.Prelude.{if◌then◌else◌, Some}
use Rattle.std.specs.List.{AllByRecursion}
use Rattle.afdx_police.specs.Arrival.{Arrival}
use Rattle.afdx_conform.specs.Events.{closes_before, closings_in, event_time, events_of, moment_at, up_to}
use Rattle.afdx_conform.specs.Histories.{AreEvents, AreOver, coming, next_of, over_at, unclosed}
use Rattle.afdx_conform.specs.Leeway.{reach}
use Rattle.afdx_conform.specs.States.{Event, Came, Closing, arrivals_came}
use Rattle.afdx_conform.specs.Streams.{Gone, Terms}
use Rattle.afdx_conform.proofs.EveryLemmas.{reverse-first}

-- ---- lists

cons-first : {X : Type 0} (x w : X) (xs ws : List X) → x ∷ xs ≡ w ∷ ws → x ≡ w
cons-first x w xs ws e = cc

cons-rest : {X : Type 0} (x w : X) (xs ws : List X) → x ∷ xs ≡ w ∷ ws → xs ≡ ws
cons-rest x w xs ws e = cc

pub drop-next : {X : Type 0} (n : ℕ) (xs : List X) (x : X) (rest : List X) → drop n xs ≡ x ∷ rest
    → drop (suc n) xs ≡ rest
drop-next zero [] x rest e = absurd (cc)
drop-next zero (w ∷ xs) x rest e = cons-rest w x xs rest e
drop-next (suc n) [] x rest e = absurd (cc)
drop-next (suc n) (w ∷ xs) x rest e = drop-next n xs x rest e

pub drop-less : {X : Type 0} (n : ℕ) (xs : List X) (x : X) (rest : List X) → drop n xs ≡ x ∷ rest → n < length xs
drop-less zero [] x rest e = absurd (cc)
drop-less zero (w ∷ xs) x rest e = omega arith
drop-less (suc n) [] x rest e = absurd (cc)
drop-less (suc n) (w ∷ xs) x rest e = (let h = drop-less n xs x rest e in omega (arith, h))

pub every-drop : {X : Type 0} (P : X → Type 0) (n : ℕ) (xs : List X) → AllByRecursion P xs
    → AllByRecursion P (drop n xs)
every-drop P zero xs h = h
every-drop P (suc n) [] h = h
every-drop P (suc n) (x ∷ xs) h = every-drop P n xs h.1

-- ---- the next event

module _ (z : Terms) where
  -- the next event of an arrival that comes, and of a frame that is closed
  pub next-came : (cs : List Arrival) (us : List Gone) (x : Arrival) → next_of z cs us ≡ Some (Came x)
      → (rest : List Arrival) × (cs ≡ x ∷ rest)
  next-came [] [] x e = absurd (cc)
  next-came [] (y ∷ us) x e = absurd (cc)
  next-came (c ∷ cs) [] x e = (cs, cc)
  next-came (c ∷ cs) (y ∷ us) x e = by (closes_before z y c) e
    where
      by : (b : Bool) → (if b then Some (Closing y.time) else Some (Came c)) ≡ Some (Came x)
          → (rest : List Arrival) × (c ∷ cs ≡ x ∷ rest)
      by true h = absurd (cc)
      by false h = (cs, cc)

  pub next-closing : (cs : List Arrival) (us : List Gone) (time : ℕ) → next_of z cs us ≡ Some (Closing time)
      → (y : Gone) × (rest : List Gone) × (us ≡ y ∷ rest) × (y.time ≡ time)
  next-closing [] [] time e = absurd (cc)
  next-closing [] (y ∷ us) time e = (y, us, refl, cc)
  next-closing (c ∷ cs) [] time e = absurd (cc)
  next-closing (c ∷ cs) (y ∷ us) time e = by (closes_before z y c) e
    where
      by : (b : Bool) → (if b then Some (Closing y.time) else Some (Came c)) ≡ Some (Closing time)
          → (w : Gone) × (rest : List Gone) × (y ∷ us ≡ w ∷ rest) × (w.time ≡ time)
      by true h = (y, us, refl, cc)
      by false h = absurd (cc)

  -- ---- when an event may be over

  pub over-time : (e : Event) (before : List Event) → event_time z e ≤ over_at z e before
  over-time (Came x) before = omega arith
  over-time (Closing time) [] = omega arith
  over-time (Closing time) (e ∷ before) = omega arith

  pub over-moment : (e : Event) (before : List Event) → over_at z e before ≤ moment_at z (event_time z e)
  over-moment (Came x) before = omega arith
  over-moment (Closing time) [] = omega arith
  over-moment (Closing time) (e ∷ before) = omega arith

  -- ---- one more arrival, one more frame

  with-arrival : (cs : List Arrival) (us : List Gone) (x : Arrival) (e : Event) → event_time z e < x.time
      → next_of z cs us ≡ Some e → next_of z (cs ++ (x ∷ [])) us ≡ Some e
  with-arrival [] [] x e lt h = absurd (cc)
  with-arrival [] (y ∷ us) x e lt h =
      let is : Closing y.time ≡ e = cc in
      let less = subst (λ (v : Event). event_time z v < x.time) (sym is) lt in
      ap (λ (b : Bool). if b then Some (Closing y.time) else Some (Came x)) (lt-ltb (y.time + reach z.by) x.time less)
      ∙ h
  with-arrival (c ∷ cs) [] x e lt h = h
  with-arrival (c ∷ cs) (y ∷ us) x e lt h = h

  with-frame : (cs : List Arrival) (us : List Gone) (y : Gone) (e : Event) → event_time z e ≤ y.time + reach z.by
      → next_of z cs us ≡ Some e → next_of z cs (us ++ (y ∷ [])) ≡ Some e
  with-frame [] [] y e le h = absurd (cc)
  with-frame (c ∷ cs) [] y e le h =
      let is : Came c ≡ e = cc in
      let less = subst (λ (v : Event). event_time z v ≤ y.time + reach z.by) (sym is) le in
      ap (λ (b : Bool). if b then Some (Closing y.time) else Some (Came c)) (le-ltb (y.time + reach z.by) c.time less)
      ∙ h
  with-frame [] (u ∷ us) y e le h = h
  with-frame (c ∷ cs) (u ∷ us) y e le h = h

  -- without the frames that are cut off
  cut-came : (cs : List Arrival) (us cut : List Gone) (x : Arrival) → next_of z cs (us ++ cut) ≡ Some (Came x)
      → next_of z cs us ≡ Some (Came x)
  cut-came [] [] [] x h = absurd (cc)
  cut-came [] [] (y ∷ cut) x h = absurd (cc)
  cut-came (c ∷ cs) [] [] x h = h
  cut-came (c ∷ cs) [] (y ∷ cut) x h = by (closes_before z y c) h
    where
      by : (b : Bool) → (if b then Some (Closing y.time) else Some (Came c)) ≡ Some (Came x)
          → Some (Came c) ≡ Some (Came x)
      by true e = absurd (cc)
      by false e = e
  cut-came [] (u ∷ us) cut x h = h
  cut-came (c ∷ cs) (u ∷ us) cut x h = h

  cut-closing : (cs : List Arrival) (us cut : List Gone) (time : ℕ) → 0 < length us
      → next_of z cs (us ++ cut) ≡ Some (Closing time) → next_of z cs us ≡ Some (Closing time)
  cut-closing cs [] cut time lt h = absurd (omega (arith, lt))
  cut-closing [] (u ∷ us) cut time lt h = h
  cut-closing (c ∷ cs) (u ∷ us) cut time lt h = h

  -- ---- the events so far

  pub came-within : (xs : List Arrival) (ys : List Gone) (over : List Event) → AreEvents z xs ys over
      → length (arrivals_came over) ≤ length xs
  unfolding AreEvents
  came-within xs ys [] h = omega arith
  came-within xs ys (Came x ∷ before) h =
      let first = next-came (coming xs before) (unclosed ys before) x h.0 in
      let less = drop-less (length (arrivals_came before)) xs x first.0 first.1 in
      omega (arith, less)
  came-within xs ys (Closing time ∷ before) h = came-within xs ys before h.1

  pub closed-within : (xs : List Arrival) (ys : List Gone) (over : List Event) → AreEvents z xs ys over
      → length (closings_in over) ≤ length ys
  unfolding AreEvents
  closed-within xs ys [] h = omega arith
  closed-within xs ys (Came x ∷ before) h = closed-within xs ys before h.1
  closed-within xs ys (Closing time ∷ before) h =
      let first = next-closing (coming xs before) (unclosed ys before) time h.0 in
      let less = drop-less (length (closings_in before)) ys first.0 first.1 first.2 in
      omega (arith, less)

  pub coming-more : (xs : List Arrival) (ys : List Gone) (x : Arrival) (over : List Event) → AreEvents z xs ys over
      → coming (xs ++ (x ∷ [])) over ≡ coming xs over ++ (x ∷ [])
  coming-more xs ys x over h = drop-append-le (length (arrivals_came over)) xs (x ∷ []) (came-within xs ys over h)

  pub unclosed-more : (xs : List Arrival) (ys more : List Gone) (over : List Event) → length (closings_in over)
      ≤ length ys
      → unclosed (ys ++ more) over ≡ unclosed ys over ++ more
  unclosed-more xs ys more over le = drop-append-le (length (closings_in over)) ys more le

  pub events-came : (xs : List Arrival) (ys : List Gone) (x : Arrival) (time : ℕ) (over : List Event) → time ≤ x.time
      → AreOver z time over → AreEvents z xs ys over → AreEvents z (xs ++ (x ∷ [])) ys over
  unfolding AreEvents AreOver
  events-came xs ys x time [] le o h = tt
  events-came xs ys x time (e ∷ before) le o h =
      let lt = o.0 in
      let at = over-time e before in (
        ap (λ (l : List Arrival). next_of z l (unclosed ys before)) (coming-more xs ys x before h.1)
            ∙ with-arrival (coming xs before) (unclosed ys before) x e (omega (arith, lt, at, le)) h.0,
        events-came xs ys x time before le o.1 h.1,
      )

  pub events-left : (xs : List Arrival) (ys : List Gone) (y : Gone) (time : ℕ) (over : List Event)
      → time ≤ y.time + reach z.by → AreOver z time over → AreEvents z xs ys over → AreEvents z xs (ys ++ (y ∷ [])) over
  unfolding AreEvents AreOver
  events-left xs ys y time [] le o h = tt
  events-left xs ys y time (e ∷ before) le o h =
      let lt = o.0 in
      let at = over-time e before in (
        ap (λ (l : List Gone). next_of z (coming xs before) l)
            (unclosed-more xs ys (y ∷ []) before (closed-within xs ys before h.1))
            ∙ with-frame (coming xs before) (unclosed ys before) y e (omega (arith, lt, at, le)) h.0,
        events-left xs ys y time before le o.1 h.1,
      )

  pub events-cut : (xs : List Arrival) (ys cut : List Gone) (over : List Event) → length (closings_in over) ≤ length ys
      → AreEvents z xs (ys ++ cut) over → AreEvents z xs ys over
  unfolding AreEvents
  events-cut xs ys cut [] le h = tt
  events-cut xs ys cut (Came x ∷ before) le h = (
    cut-came (coming xs before) (unclosed ys before) cut x
        (ap (λ (l : List Gone). next_of z (coming xs before) l) (sym (unclosed-more xs ys cut before le)) ∙ h.0),
    events-cut xs ys cut before le h.1,
  )
  events-cut xs ys cut (Closing time ∷ before) le h =
      let less : length (closings_in before) ≤ length ys = omega (arith, le) in
      let size = length-drop (length (closings_in before)) ys in (
        cut-closing (coming xs before) (unclosed ys before) cut time (omega (arith, le, size))
            (ap (λ (l : List Gone). next_of z (coming xs before) l) (sym (unclosed-more xs ys cut before less)) ∙ h.0),
        events-cut xs ys cut before less h.1,
      )

  -- ---- once all are over

  came-is : (c x : Arrival) (cs rest : List Arrival) (us : List Gone) → c ∷ cs ≡ x ∷ rest
      → Came c ∷ events_of z cs us ≡ Came x ∷ events_of z rest us
  came-is c x cs rest us e =
      ap (λ (v : Arrival). Came v ∷ events_of z cs us) (cons-first c x cs rest e)
      ∙ ap (λ (l : List Arrival). Came x ∷ events_of z l us) (cons-rest c x cs rest e)

  first-of : (cs : List Arrival) (us : List Gone) (x : Arrival) (rest : List Arrival) → next_of z cs us ≡ Some (Came x)
      → cs ≡ x ∷ rest → events_of z cs us ≡ Came x ∷ events_of z rest us
  unfolding events_of up_to
  first-of [] us x rest h e = absurd (cc)
  first-of (c ∷ cs) [] x rest h e = came-is c x cs rest [] e
  first-of (c ∷ cs) (y ∷ us) x rest h e =
      by (closes_before z y c) h ∙ came-is c x cs rest (y ∷ us) e
    where
      by : (b : Bool) → (if b then Some (Closing y.time) else Some (Came c)) ≡ Some (Came x)
          → (if b then Closing y.time ∷ events_of z (c ∷ cs) us else Came c ∷ events_of z cs (y ∷ us))
          ≡ Came c ∷ events_of z cs (y ∷ us)
      by true g = absurd (cc)
      by false g = refl

  first-closes : (cs : List Arrival) (us : List Gone) (time : ℕ) (y : Gone) (rest : List Gone)
      → next_of z cs us ≡ Some (Closing time) → us ≡ y ∷ rest → y.time ≡ time
      → events_of z cs us ≡ Closing time ∷ events_of z cs rest
  unfolding events_of up_to
  first-closes cs [] time y rest h e is = absurd (cc)
  first-closes [] (u ∷ us) time y rest h e is =
      ap (λ (l : List Gone). Closing u.time ∷ events_of z [] l) (cons-rest u y us rest e)
      ∙ ap (λ (v : Gone). Closing v.time ∷ events_of z [] rest) (cons-first u y us rest e)
      ∙ ap (λ (t : ℕ). Closing t ∷ events_of z [] rest) is
  first-closes (c ∷ cs) (u ∷ us) time y rest h e is =
      by (closes_before z u c) h
      ∙ ap (λ (l : List Gone). Closing time ∷ events_of z (c ∷ cs) l) (cons-rest u y us rest e)
    where
      by : (b : Bool) → (if b then Some (Closing u.time) else Some (Came c)) ≡ Some (Closing time)
          → (if b then Closing u.time ∷ events_of z (c ∷ cs) us else Came c ∷ events_of z cs (u ∷ us))
          ≡ Closing time ∷ events_of z (c ∷ cs) us
      by true g = ap (λ (v : Event). v ∷ events_of z (c ∷ cs) us) cc
      by false g = absurd (cc)

  pub events-so-far : (xs : List Arrival) (ys : List Gone) (over : List Event) → AreEvents z xs ys over
      → events_of z xs ys ≡ reverse over ++ events_of z (coming xs over) (unclosed ys over)
  unfolding AreEvents
  events-so-far xs ys [] h = refl
  events-so-far xs ys (Came x ∷ before) h =
      let first = next-came (coming xs before) (unclosed ys before) x h.0 in
      events-so-far xs ys before h.1
      ∙ ap (λ (l : List Event). reverse before ++ l)
      (first-of (coming xs before) (unclosed ys before) x first.0 h.0 first.1
      ∙ ap (λ (l : List Arrival). Came x ∷ events_of z l (unclosed ys before))
      (sym (drop-next (length (arrivals_came before)) xs x first.0 first.1)))
      ∙ sym (append_assoc (reverse before) (Came x ∷ []) (events_of z (drop (suc (length (arrivals_came before))) xs)
      (unclosed ys before)))
      ∙ ap (λ (l : List Event). l ++ events_of z (coming xs (Came x ∷ before)) (unclosed ys before))
      (sym (reverse-first (Came x) before))
  events-so-far xs ys (Closing time ∷ before) h =
      let first = next-closing (coming xs before) (unclosed ys before) time h.0 in
      events-so-far xs ys before h.1
      ∙ ap (λ (l : List Event). reverse before ++ l)
      (first-closes (coming xs before) (unclosed ys before) time first.0 first.1 h.0 first.2 first.3
      ∙ ap (λ (l : List Gone). Closing time ∷ events_of z (coming xs before) l)
      (sym (drop-next (length (closings_in before)) ys first.0 first.1 first.2)))
      ∙ sym (append_assoc (reverse before) (Closing time ∷ [])
      (events_of z (coming xs before) (unclosed ys (Closing time ∷ before))))
      ∙ ap (λ (l : List Event). l ++ events_of z (coming xs before) (unclosed ys (Closing time ∷ before)))
      (sym (reverse-first (Closing time) before))
