-- What a stream stands for once its next event is over.
use Rattle.std.proofs.Common.{◌≡◌, ℕ, zero, suc, ◌+◌, ◌≤◌, Bool, true, false, List, [], ◌∷◌, ◌++◌, map, drop, length, refl, sym, ap, ◌∙◌, subst, arith}
use Rattle.std.proofs.lemmas.Bool.{ltb-true, ltb-false}
use Rattle.std.proofs.lemmas.List.{length-append}
use Rattle.std.specs.Prelude.{if◌then◌else◌, Option, Some, None, option_map}
use Rattle.afdx_police.specs.Arrival.{Arrival}
use Rattle.afdx_conform.specs.Events.{GoUp, arrival_times, closes_before, closings_in, event_time, frame_times, moment_at}
use Rattle.afdx_conform.specs.Explanations.{last_time}
use Rattle.afdx_conform.specs.Findings.{Finding, Marked, judged_after, sound_events}
use Rattle.afdx_conform.specs.Growing.{AreTold, Decides, IsAfter, IsNoSooner, closed_too, due_by, due_in}
use Rattle.afdx_conform.specs.Histories.{AreEvents, coming, judged_by, next_of, shown, time_of, unclosed}
use Rattle.afdx_conform.specs.Judging.{AreFound}
use Rattle.afdx_conform.specs.Leeway.{reach}
use Rattle.afdx_conform.specs.Standing.{Finds}
use Rattle.afdx_conform.specs.States.{Event, Came, Closing, arrivals_came}
use Rattle.afdx_conform.specs.Streams.{Gone, Terms}
use Rattle.afdx_conform.specs.declared.growth.Growth.{Growth}
use Rattle.afdx_conform.proofs.GrowthCloses.{closed-unsure}
use Rattle.afdx_conform.proofs.GrowthDecides.{came-last}
use Rattle.afdx_conform.proofs.GrowthLemmas.{true-false}
use Rattle.afdx_conform.proofs.GrowthNext.{due-next, next-held}
use Rattle.afdx_conform.proofs.HistoryLemmas.{drop-next, next-came, next-closing}

-- ---- by time

up-drop : {X : Type 0} (f : X → ℕ) (n : ℕ) (xs : List X) → GoUp (map f xs) → GoUp (map f (drop n xs))
unfolding GoUp
up-drop f zero xs h = h
up-drop f (suc n) [] h = h
up-drop f (suc n) (x ∷ xs) h = up-drop f n xs h.1

module _ (z : Terms) where
  -- after the event of an arrival, and after a closing
  later-came : (x : Arrival) (cs : List Arrival) (us : List Gone) (e : Event) → GoUp (arrival_times (x ∷ cs))
      → next_of z (x ∷ cs) us ≡ Some (Came x) → next_of z cs us ≡ Some e → x.time ≤ event_time z e
  unfolding GoUp
  later-came x [] [] e up here there = absurd (cc)
  later-came x (c ∷ cs) [] e up here there =
      let is : Came c ≡ e = cc in subst (λ (v : Event). x.time ≤ event_time z v) is up.0.0
  later-came x [] (u ∷ us) e up here there =
      let is : Closing u.time ≡ e = cc in
      subst (λ (v : Event). x.time ≤ event_time z v) is (by (closes_before z u x) refl here)
    where
      by : (b : Bool) → closes_before z u x ≡ b → (if b then Some (Closing u.time) else Some (Came x)) ≡ Some (Came x)
          → x.time ≤ u.time + reach z.by
      by true k h = absurd (cc)
      by false k h = ltb-false (u.time + reach z.by) x.time k
  later-came x (c ∷ cs) (u ∷ us) e up here there =
      one (closes_before z u c) there (by (closes_before z u x) refl here)
    where
      by : (b : Bool) → closes_before z u x ≡ b → (if b then Some (Closing u.time) else Some (Came x)) ≡ Some (Came x)
          → x.time ≤ u.time + reach z.by
      by true k h = absurd (cc)
      by false k h = ltb-false (u.time + reach z.by) x.time k

      one : (b : Bool) → (if b then Some (Closing u.time) else Some (Came c)) ≡ Some e → x.time ≤ u.time + reach z.by
          → x.time ≤ event_time z e
      one true h le = let is : Closing u.time ≡ e = cc in subst (λ (v : Event). x.time ≤ event_time z v) is le
      one false h le = let is : Came c ≡ e = cc in subst (λ (v : Event). x.time ≤ event_time z v) is up.0.0

  later-closed : (cs : List Arrival) (y : Gone) (us : List Gone) (e : Event) → GoUp (frame_times (y ∷ us))
      → next_of z cs (y ∷ us) ≡ Some (Closing y.time) → next_of z cs us ≡ Some e → y.time + reach z.by ≤ event_time z e
  unfolding GoUp
  later-closed [] y [] e up here there = absurd (cc)
  later-closed [] y (u ∷ us) e up here there =
      let is : Closing u.time ≡ e = cc in
      let le = up.0.0 in
      subst (λ (v : Event). y.time + reach z.by ≤ event_time z v) is (omega (arith, le))
  later-closed (c ∷ cs) y [] e up here there =
      let is : Came c ≡ e = cc in
      subst (λ (v : Event). y.time + reach z.by ≤ event_time z v) is (by (closes_before z y c) refl here)
    where
      by : (b : Bool) → closes_before z y c ≡ b → (if b then Some (Closing y.time) else Some (Came c))
          ≡ Some (Closing y.time)
          → y.time + reach z.by ≤ c.time
      by true k h = (let lt = ltb-true (y.time + reach z.by) c.time k in omega (arith, lt))
      by false k h = absurd (cc)
  later-closed (c ∷ cs) y (u ∷ us) e up here there =
      one (closes_before z u c) there (by (closes_before z y c) refl here)
    where
      by : (b : Bool) → closes_before z y c ≡ b → (if b then Some (Closing y.time) else Some (Came c))
          ≡ Some (Closing y.time)
          → y.time + reach z.by ≤ c.time
      by true k h = (let lt = ltb-true (y.time + reach z.by) c.time k in omega (arith, lt))
      by false k h = absurd (cc)

      one : (b : Bool) → (if b then Some (Closing u.time) else Some (Came c)) ≡ Some e → y.time + reach z.by ≤ c.time
          → y.time + reach z.by ≤ event_time z e
      one true h le =
          let is : Closing u.time ≡ e = cc in
          let more = up.0.0 in
          subst (λ (v : Event). y.time + reach z.by ≤ event_time z v) is (omega (arith, more))
      one false h le = let is : Came c ≡ e = cc in subst (λ (v : Event). y.time + reach z.by ≤ event_time z v) is le

  pub in-order : (xs : List Arrival) (ys : List Gone) (over : List Event) (e n : Event) → AreTold z xs ys
      → next_of z (coming xs over) (unclosed ys over) ≡ Some e
      → next_of z (coming xs (e ∷ over)) (unclosed ys (e ∷ over)) ≡ Some n → event_time z e ≤ event_time z n
  in-order xs ys over (Came x) n told here there =
      let first = next-came z (coming xs over) (unclosed ys over) x here in
      let up = subst (λ (l : List Arrival). GoUp (arrival_times l)) first.1
      (up-drop (λ (w : Arrival). w.time) (length (arrivals_came over)) xs told.came) in
      later-came x first.0 (unclosed ys over) n up
      (ap (λ (l : List Arrival). next_of z l (unclosed ys over)) (sym first.1) ∙ here)
      (ap (λ (l : List Arrival). next_of z l (unclosed ys over))
      (sym (drop-next (length (arrivals_came over)) xs x first.0 first.1)) ∙ there)
  in-order xs ys over (Closing t) n told here there =
      let first = next-closing z (coming xs over) (unclosed ys over) t here in
      let up = subst (λ (l : List Gone). GoUp (frame_times l)) first.2
      (up-drop (λ (w : Gone). w.time) (length (closings_in over)) ys told.left) in
      let le = later-closed (coming xs over) first.0 first.1 n up
      (ap (λ (l : List Gone). next_of z (coming xs over) l) (sym first.2) ∙ here
      ∙ ap (λ (k : ℕ). Some (Closing k)) (sym first.3))
      (ap (λ (l : List Gone). next_of z (coming xs over) l)
      (sym (drop-next (length (closings_in over)) ys first.0 first.1 first.2)) ∙ there) in
      let same = first.3 in
      omega (arith, le, same)

-- ---- the last of a list

cons-rest : {X : Type 0} (x w : X) (xs ws : List X) → x ∷ xs ≡ w ∷ ws → xs ≡ ws
cons-rest x w xs ws e = cc

last-same : {X : Type 0} (xs ws : List X) (x w : X) → xs ++ (x ∷ []) ≡ ws ++ (w ∷ []) → x ≡ w
last-same [] [] x w e = cc
last-same {X = X} [] (v ∷ ws) x w e =
    let n = ap (λ (l : List X). length l) e in
    let k = length-append ws (w ∷ []) in
    absurd (omega (arith, n, k))
last-same {X = X} (v ∷ xs) [] x w e =
    let n = ap (λ (l : List X). length l) e in
    let k = length-append xs (x ∷ []) in
    absurd (omega (arith, n, k))
last-same (v ∷ xs) (u ∷ ws) x w e = last-same xs ws x w (cons-rest v u (xs ++ (x ∷ [])) (ws ++ (w ∷ [])) e)

-- ---- what is due

pub due-sure : (s : Growth) (moment : ℕ) → due_by s ≡ Some moment → s.judging.is_unsure ≡ false
unfolding due_by
due-sure s moment h = by s.judging.is_unsure refl h
  where
    by : (b : Bool) → s.judging.is_unsure ≡ b → (if b then None else due_in s.bounds.limits
        (drop (length s.judging.marks.items) s.arrivals.items) (drop s.closed s.frames.items)) ≡ Some moment
        → s.judging.is_unsure ≡ false
    by true e k = absurd (cc)
    by false e k = e

pub due-unsure : (s : Growth) → s.judging.is_unsure ≡ true → due_by s ≡ None
unfolding due_by
due-unsure s e = ap (λ (b : Bool). if b then None else due_in s.bounds.limits
    (drop (length s.judging.marks.items) s.arrivals.items) (drop s.closed s.frames.items)) e

module _ (z : Terms) where
  abbrev MomentOf : Event → ℕ
  MomentOf e = moment_at z (event_time z e)

  pub due-is : (xs : List Arrival) (ys : List Gone) (cut : ℕ) (over : List Event) (s : Growth)
      → IsAfter z xs ys cut over s
      → s.judging.is_unsure ≡ false → due_by s ≡ option_map MomentOf (next_of z (coming xs over) (unclosed ys over))
  unfolding due_by
  due-is xs ys cut over s f sure =
      let h = f.sure sure in
      ap (λ (b : Bool). if b then None else due_in s.bounds.limits
      (drop (length s.judging.marks.items) s.arrivals.items) (drop s.closed s.frames.items)) sure
      ∙ due-next z s.bounds.limits (drop (length s.judging.marks.items) s.arrivals.items) (drop s.closed s.frames.items)
      f.bounds.limits
      ∙ ap (λ (o : Option Event). option_map MomentOf o) (sym (next-held z xs ys cut over h.gone h.past s h.kept))

  event-due : (o : Option Event) (moment : ℕ) → option_map MomentOf o ≡ Some moment
      → (e : Event) × (o ≡ Some e) × (MomentOf e ≡ moment)
  event-due None moment h = absurd (cc)
  event-due (Some e) moment h = (e, refl, cc)

  -- the next event, by what is due
  pub next-due : (xs : List Arrival) (ys : List Gone) (cut : ℕ) (over : List Event) (s : Growth) (moment : ℕ)
      → IsAfter z xs ys cut over s → due_by s ≡ Some moment
      → (e : Event) × (next_of z (coming xs over) (unclosed ys over) ≡ Some e) × (MomentOf e ≡ moment)
  next-due xs ys cut over s moment f due =
      event-due (next_of z (coming xs over) (unclosed ys over)) moment
      (sym (due-is xs ys cut over s f (due-sure s moment due)) ∙ due)

  later-of : (moment : ℕ) (o : Option Event) → ((n : Event) → o ≡ Some n → moment ≤ MomentOf n)
      → IsNoSooner moment (option_map MomentOf o)
  later-of moment None h = tt
  later-of moment (Some n) h = h n refl

  later-next : (xs : List Arrival) (ys : List Gone) (over : List Event) (e : Event) (closed : Option ℕ) (n : Event)
      → AreTold z xs ys → AreEvents z xs ys (closed_too closed (e ∷ over))
      → next_of z (coming xs (closed_too closed (e ∷ over))) (unclosed ys (closed_too closed (e ∷ over))) ≡ Some n
      → event_time z e ≤ event_time z n
  unfolding AreEvents
  later-next xs ys over e None n told events there = in-order z xs ys over e n told events.0 there
  later-next xs ys over e (Some t) n told events there =
      let one = in-order z xs ys over e (Closing t) told events.1.0 events.0 in
      let two = in-order z xs ys (e ∷ over) (Closing t) n told events.0 there in
      omega (arith, one, two)

  module _ (xs : List Arrival) (ys : List Gone) (cut : ℕ) (over : List Event) (e : Event) (moment : ℕ) (new : Growth)
      (closed : Option ℕ) (found : List Finding) (told : AreTold z xs ys)
      (next : next_of z (coming xs over) (unclosed ys over) ≡ Some e) (is : MomentOf e ≡ moment)
      (sure : (judged_by z xs ys over).is_unsure ≡ false) (d : Decides z xs ys cut over new e closed found) where
    later-due : IsNoSooner moment (due_by new)
    later-due = by new.judging.is_unsure refl
      where
        by : (b : Bool) → new.judging.is_unsure ≡ b → IsNoSooner moment (due_by new)
        by true u = subst (λ (o : Option ℕ). IsNoSooner moment o) (sym (due-unsure new u)) tt
        by false u =
            subst (λ (o : Option ℕ). IsNoSooner moment o)
            (sym (due-is xs ys cut (closed_too closed (e ∷ over)) new d.0 u))
            (later-of moment (next_of z (coming xs (closed_too closed (e ∷ over)))
            (unclosed ys (closed_too closed (e ∷ over))))
            (λ n h. (let le = later-next xs ys over e closed n told d.0.events h in omega (arith, le, is))))

    time-is : event_time z e ≡ time_of z moment
    time-is = omega (arith, is)

    newest-of : (v : Event) → next_of z (coming xs over) (unclosed ys over) ≡ Some v
        → (judged_by z xs ys (v ∷ over)).is_unsure ≡ true → (m : Marked) (more : List Marked)
        → (judged_by z xs ys (v ∷ over)).arrivals ≡ more ++ (m ∷ []) → m.arrival.time ≡ event_time z v
    unfolding judged_after
    newest-of (Closing t) here un m more at =
        absurd (true-false un (closed-unsure z t (judged_by z xs ys over) ∙ sure))
    newest-of (Came x) here un m more at =
        let first = next-came z (coming xs over) (unclosed ys over) x here in
        let same = ap (λ (l : List Arrival). x ∷ l) (drop-next (length (arrivals_came over)) xs x first.0 first.1)
        ∙ sym first.1 in
        let newest = came-last z (coming xs (Came x ∷ over)) (last_time z.by (arrivals_came (sound_events z over))) x
        (judged_after z ys (x ∷ coming xs (Came x ∷ over)) over)
        (ap (λ (l : List Arrival). (judged_after z ys l over).is_unsure) same ∙ sure) in
        ap (λ (v : Marked). v.arrival.time) (last-same more newest.before m newest.one (sym at ∙ newest.is))
        ∙ ap (λ (v : Arrival). v.time) newest.arrival

    pub finds : Finds z moment found (shown (judged_by z xs ys over)) (shown (judged_by z xs ys (e ∷ over)))
        (due_by new)
    finds = record {
      is_moment = omega (arith, is);
      are_found = subst (λ (t : ℕ). AreFound t found (shown (judged_by z xs ys over))
          (shown (judged_by z xs ys (e ∷ over)))) time-is
          (record { findings = d.1.findings; frames = d.1.frames });
      later = later-due;
      sure = sure;
      unsure = λ un m more at. newest-of e next un m more at ∙ time-is;
    }
