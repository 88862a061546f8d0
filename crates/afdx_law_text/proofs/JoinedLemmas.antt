-- Two lists that are read at once are recorded.
use Rattle.std.proofs.Common.{◌≡◌, ℕ, ◌≤◌, ◌<◌, Bool, true, false, List, [], ◌∷◌, ◌++◌, map, reverse, refl, sym, ap, ◌∙◌, subst, arith}
use Rattle.std.proofs.lemmas.Bool.{ltb-true, ltb-false}
use Rattle.std.proofs.lemmas.List.{append-nil, reverse-reverse}
use Rattle.std.specs.Prelude.{None, IsTrue, nat_lt, if◌then◌else◌}
use Rattle.std.specs.List.{AllByRecursion}
use Rattle.afdx_input_lines.specs.declared.role.Role.TheVariants.{Came, Left}
use Rattle.afdx_input_sources.specs.Merging.{merge}
use Rattle.afdx_input_sources.proofs.CameLemmas.{reverse-taken}
use Rattle.afdx_input_sources.proofs.MergeLemmas.{IsNext, IsSooner, merge-keeps}
use Rattle.afdx_input_runs.specs.Joining.{Frame, Joined, by_frame_time, frame_with}
use Rattle.afdx_police.specs.Arrival.{Arrival}
use Rattle.afdx_network.specs.Events as network
use Rattle.afdx_network.specs.Events.{Event, Departure}
use Rattle.afdx_network.specs.Order.{is_below, is_before, phase_of, side_number, AreInOrder, events_of}
use Rattle.afdx_network.proofs.OrderedLemmas.{are-events}
use Rattle.afdx_law_promises.specs.Lines.{Leaving, leaving}
use Rattle.afdx_law_promises.proofs.LineLemmas.{departures_in, told-left}
use Rattle.afdx_conform.specs.Events.{GoUp}
use Rattle.afdx_conform.proofs.EveryLemmas.{every-on, every-unmap}
use Rattle.afdx_command_conform.specs.Choices.{latest_of}
use Rattle.afdx_command_conform.specs.RunLaws.{AreByTime}
use Rattle.afdx_command_conform.specs.Tapped.{all_taps}
use Rattle.afdx_law_text.specs.Laws.{ListsAreRecorded, ToldLeaveInOrder}
use Rattle.afdx_law_text.specs.Recorded.{came_among, left_among, AreRecordsOf, AreSameArrivals, LeaveInOrder, both_lists}
use Rattle.afdx_law_text.proofs.ListLemmas.{Descend, filter-whole}
use Rattle.afdx_law_text.proofs.TimeLemmas.{go-descend, go-up-list, timed-go}
use Rattle.afdx_law_text.proofs.NumberLemmas.{same-go}

-- what is still to be read of both is no earlier than what was, and that all came before
record Fits (came left : List Arrival) (past : List Frame) (xs ys : List Arrival) : Type 0 where
  pub by_time : AreByTime past
  pub up_came : GoUp (map (λ x. x.time) xs)
  pub up_left : GoUp (map (λ y. y.time) ys)
  pub after_came : AllByRecursion (λ x. latest_of past ≤ x.time) xs
  pub after_left : AllByRecursion (λ y. latest_of past ≤ y.time) ys
  pub came_are : reverse came ≡ reverse xs ++ came_among past
  pub left_are : reverse left ≡ reverse ys ++ left_among past

-- the frames are all of both
record IsBoth (came left : List Arrival) (r : Joined) : Type 0 where
  pub came_are : came_among r.items ≡ reverse came
  pub left_are : left_among r.items ≡ reverse left
  pub by_time : AreByTime r.items

left-first : (x : Arrival) (xs : List Arrival) (y : Arrival) → AllByRecursion (λ w. x.time ≤ w.time) xs
    → y.time < x.time
    → AllByRecursion (λ w. y.time ≤ w.time) (x ∷ xs)
left-first x xs y all below = (
  omega (arith, below),
  every-on (λ (w : Arrival). x.time ≤ w.time) (λ (w : Arrival). y.time ≤ w.time)
      (λ w h. omega (arith, h, below)) xs all,
)

came-first : (x y : Arrival) (ys : List Arrival) → AllByRecursion (λ w. y.time ≤ w.time) ys → x.time ≤ y.time
    → AllByRecursion (λ w. x.time ≤ w.time) (y ∷ ys)
came-first x y ys all below = (
  below,
  every-on (λ (w : Arrival). y.time ≤ w.time) (λ (w : Arrival). x.time ≤ w.time)
      (λ w h. omega (arith, h, below)) ys all,
)

module _ (came left : List Arrival) where
  fits-left : (past : List Frame) (xs : List Arrival) (y : Arrival) (ys : List Arrival)
      → AllByRecursion (λ x. y.time ≤ x.time) xs → Fits came left past xs (y ∷ ys)
      → Fits came left (frame_with Left y ∷ past) xs ys
  unfolding AreByTime GoUp
  fits-left past xs y ys before f = record {
    by_time = (f.after_left.0, f.by_time);
    up_came = f.up_came;
    up_left = f.up_left.1;
    after_came = before;
    after_left = every-unmap (λ n. y.time ≤ n) (λ (y : Arrival). y.time) ys f.up_left.0;
    came_are = f.came_are;
    left_are = f.left_are ∙ reverse-taken y ys (left_among past);
  }

  fits-came : (past : List Frame) (x : Arrival) (xs ys : List Arrival)
      → AllByRecursion (λ y. x.time ≤ y.time) ys → Fits came left past (x ∷ xs) ys
      → Fits came left (frame_with Came x ∷ past) xs ys
  unfolding AreByTime GoUp
  fits-came past x xs ys before f = record {
    by_time = (f.after_came.0, f.by_time);
    up_came = f.up_came.1;
    up_left = f.up_left;
    after_came = every-unmap (λ n. x.time ≤ n) (λ (x : Arrival). x.time) xs f.up_came.0;
    after_left = before;
    came_are = f.came_are ∙ reverse-taken x xs (came_among past);
    left_are = f.left_are;
  }

  up-first : (past : List Frame) (x : Arrival) (xs ys : List Arrival) → Fits came left past (x ∷ xs) ys
      → AllByRecursion (λ w. x.time ≤ w.time) xs
  unfolding GoUp
  up-first past x xs ys f = every-unmap (λ n. x.time ≤ n) (λ (x : Arrival). x.time) xs f.up_came.0

  up-second : (past : List Frame) (xs : List Arrival) (y : Arrival) (ys : List Arrival)
      → Fits came left past xs (y ∷ ys) → AllByRecursion (λ w. y.time ≤ w.time) ys
  unfolding GoUp
  up-second past xs y ys f = every-unmap (λ n. y.time ≤ n) (λ (x : Arrival). x.time) ys f.up_left.0

  came-next : (past : List Frame) (x : Arrival) (xs ys : List Arrival) → IsNext by_frame_time x ys
      → Fits came left past (x ∷ xs) ys → Fits came left (frame_with Came x ∷ past) xs ys
  came-next past x xs [] is f = fits-came past x xs [] tt f
  came-next past x xs (y ∷ ys) is f =
      fits-came past x xs (y ∷ ys)
      (came-first x y ys (up-second past (x ∷ xs) y ys f) (ltb-false y.time x.time is)) f

  left-next : (past : List Frame) (y : Arrival) (xs ys : List Arrival) → IsSooner by_frame_time y xs
      → Fits came left past xs (y ∷ ys) → Fits came left (frame_with Left y ∷ past) xs ys
  left-next past y [] ys is f = fits-left past [] y ys tt f
  left-next past y (x ∷ xs) ys is f =
      fits-left past (x ∷ xs) y ys
      (left-first x xs y (up-first past x xs (y ∷ ys) f) (ltb-true y.time x.time is)) f

  both-are : Fits came left [] came left → IsBoth came left (merge by_frame_time [] came None left None)
  both-are f =
      let r = merge by_frame_time [] came None left None in
      let end = merge-keeps by_frame_time (Fits came left) (record { first = came-next; second = left-next }) [] came
      None left None f in
      let none = end.whole (end.sound refl refl) in
      record {
        came_are = sym (end.so.came_are ∙ ap (λ (l : List Arrival). reverse l ++ came_among r.items) none.0);
        left_are = sym (end.so.left_are ∙ ap (λ (l : List Arrival). reverse l ++ left_among r.items) none.1);
        by_time = end.so.by_time;
      }

-- ---- lists

records-descend : (ds : List Leaving) (ys : List Arrival) → LeaveInOrder ds → AreRecordsOf ds ys
    → Descend (λ (y : Arrival). y.time) ys
unfolding LeaveInOrder AreRecordsOf Descend
records-descend [] [] order are = tt
records-descend [] (y ∷ ys) order are = absurd are
records-descend (d ∷ ds) [] order are = tt
records-descend (d ∷ ds) (y ∷ ys) order are = (below ds ys order.0 are.1, records-descend ds ys order.1 are.1)
  where
    below : (es : List Leaving) (ws : List Arrival) → AllByRecursion (λ e. e.time ≤ d.time) es → AreRecordsOf es ws
        → AllByRecursion (λ w. w.time ≤ y.time) ws
    below [] [] all these = tt
    below [] (w ∷ ws) all these = absurd these
    below (e ∷ es) [] all these = tt
    below (e ∷ es) (w ∷ ws) all these =
        let one = these.0.time in
        let two = are.0.time in
        let h = all.0 in
        (omega (arith, one, two, h), below es ws all.1 these.1)

nothing-past : AreByTime []
unfolding AreByTime
nothing-past = tt

all-after : (xs : List Arrival) → AllByRecursion (λ x. 0 ≤ x.time) xs
all-after [] = tt
all-after (x ∷ xs) = (omega arith, all-after xs)

pub lists-recorded : ListsAreRecorded
lists-recorded arrivals came left records timed same order are =
    let is = both-are (reverse came) (reverse records) (record {
      by_time = nothing-past;
      up_came = go-up-list came (go-descend came (same-go arrivals came same (timed-go arrivals timed)));
      up_left = go-up-list records (records-descend left records order are);
      after_came = all-after (reverse came);
      after_left = all-after (reverse records);
      came_are = sym (append-nil (reverse (reverse came)));
      left_are = sym (append-nil (reverse (reverse records)));
    }) in
    record {
      came_are = subst (λ (xs : List Arrival). AreSameArrivals xs (came_among (both_lists came records)))
          (sym (filter-whole (λ (x : Arrival). all_taps Came x.side x.port) arrivals (every arrivals)))
          (subst (λ (ys : List Arrival). AreSameArrivals arrivals ys)
          (sym (is.came_are ∙ reverse-reverse came)) same);
      left_are = subst (λ (ds : List Leaving). AreRecordsOf ds (left_among (both_lists came records)))
          (sym (filter-whole (λ (d : Leaving). all_taps Left d.side d.port) left (every left)))
          (subst (λ (ys : List Arrival). AreRecordsOf left ys)
          (sym (is.left_are ∙ reverse-reverse records)) are);
      by_time = is.by_time;
    }
  where
    every : {X : Type 0} (xs : List X) → AllByRecursion (λ x. true ≡ true) xs
    every [] = tt
    every (x ∷ xs) = (refl, every xs)

-- ---- what is told leaves one after another

below-first : (m n : ℕ) (ms ns : List ℕ) → is_below (m ∷ ms) (n ∷ ns) ≡ true → m ≤ n
below-first m n ms ns h = by (nat_lt m n) refl (nat_lt n m) refl h
  where
    by : (b : Bool) → nat_lt m n ≡ b → (c : Bool) → nat_lt n m ≡ c
        → (if b then true else (if c then false else is_below ms ns)) ≡ true → m ≤ n
    by true e c f k = let below = ltb-true m n e in omega (arith, below)
    by false e true f k = absurd (cc k)
    by false e false f k = ltb-false n m f

abbrev rest-of : Departure → List ℕ
rest-of d = phase_of d.turn.too_old ∷ side_number d.side ∷ d.port ∷ d.place ∷ []

departures-order : (events : List Event) → AreInOrder events → LeaveInOrder (map leaving (departures_in events))
unfolding departures_in LeaveInOrder
departures-order [] order = tt
departures-order (network.Came c ∷ before) order = departures-order before order.1
departures-order (network.Left d ∷ before) order = (all before order.0, departures-order before order.1)
  where
    all : (es : List Event) → AllByRecursion (λ e. IsTrue (is_before e (network.Left d))) es
        → AllByRecursion (λ e. e.time ≤ d.turn.end) (map leaving (departures_in es))
    all [] h = tt
    all (network.Came c ∷ es) h = all es h.1
    all (network.Left e ∷ es) h = (below-first e.turn.end d.turn.end (rest-of e) (rest-of d) h.0, all es h.1)

pub told-in-order : ToldLeaveInOrder
told-in-order t arrivals =
    subst (λ (ds : List Leaving). LeaveInOrder ds) (sym (told-left t (events_of t arrivals)))
    (departures-order (events_of t arrivals) (are-events t arrivals).in_order)
