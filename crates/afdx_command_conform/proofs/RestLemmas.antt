-- What is found at the events of a stream that aren't over, whatever comes later.
use Rattle.std.proofs.Common.{◌≡◌, ℕ, zero, suc, ◌+◌, ◌-◌, ◌<◌, ◌≤◌, ◌⊎◌, inl, inr, Bool, true, false, Option, List, [], ◌∷◌, ◌++◌, map, reverse, drop, length, refl, sym, ap, ◌∙◌, subst, arith, true≢false}
use Rattle.std.proofs.lemmas.Bool.{ltb-true, ltb-false}
use Rattle.std.proofs.lemmas.List.{append-nil, append_assoc, drop-append-le, map-append, reverse-append, reverse-reverse}
use Rattle.std.proofs.lemmas.List.Elements.{filter-append}
use Rattle.std.specs.Prelude.{if◌then◌else◌, nat_le, Some, option_map}
use Rattle.std.specs.List.{AllByRecursion}
use Rattle.afdx_police.specs.Arrival.{Arrival}
use Rattle.afdx_conform.specs.Events.{GoUp, arrival_times, closes_before, closings_in, event_time, events_of, frame_times, judged_whole, moment_at}
use Rattle.afdx_conform.specs.Explanations.{from_time}
use Rattle.afdx_conform.specs.Findings.{Judged, judged_after}
use Rattle.afdx_conform.specs.Growing.{AreTold, IsAfter}
use Rattle.afdx_conform.specs.Histories.{AreEvents, AreOver, coming, judged_by, judged_of, next_of, nothing_judged, shown, uncut, unclosed}
use Rattle.afdx_conform.specs.Later.{ComeLater}
use Rattle.afdx_conform.specs.Leeway.{reach}
use Rattle.afdx_conform.specs.Standing.{IsEnding, StandsFor, due_of}
use Rattle.afdx_conform.specs.States.{Event, Came, Closing, arrivals_came}
use Rattle.afdx_conform.specs.Streams.{Gone, Terms}
use Rattle.afdx_conform.specs.declared.growth.Growth.{Growth}
use Rattle.afdx_conform.specs.declared.streaming.Stream.{Stream}
use Rattle.afdx_conform.proofs.CuttingLemmas.{are-late, closed-shown, split}
use Rattle.afdx_conform.proofs.EventLemmas.{came-all, every-event}
use Rattle.afdx_conform.proofs.EveryLemmas.{every-append, every-left, every-on, every-reverse, every-unmap}
use Rattle.afdx_conform.proofs.GrowthFrames.{shown-late}
use Rattle.afdx_conform.proofs.HistoryLemmas.{came-within, events-came, events-cut, events-left, events-so-far, unclosed-more}
use Rattle.afdx_conform.proofs.LaterArrivals.{arrivals_later}
use Rattle.afdx_conform.proofs.MomentLemmas.{came-reverse, up-left}
use Rattle.afdx_conform.proofs.OverLemmas.{AreLate}
use Rattle.afdx_conform.proofs.StandingDecides.{due-is}
use Rattle.afdx_conform.proofs.StandingEnds.{whole-unsure}
use Rattle.afdx_command_conform.proofs.LaterLemmas.{AddsAt, adds-at}

pub up-drop : {X : Type 0} (f : X → ℕ) (n : ℕ) (xs : List X) → GoUp (map f xs) → GoUp (map f (drop n xs))
unfolding GoUp
up-drop f zero xs h = h
up-drop f (suc n) [] h = h
up-drop f (suc n) (x ∷ xs) h = up-drop f n xs h.1

adds-same : (z : Terms) (P : ℕ → Type 0) (a b : Judged) → b ≡ a → AddsAt z P a b
adds-same z P a b e = record {
  found = [];
  added = ap (λ (j : Judged). j.findings) e;
  at = tt;
  same = λ un. e;
  newest = λ sure un m more is. absurd (true≢false (sym un ∙ ap (λ (j : Judged). j.is_unsure) e ∙ sure));
}

-- what is told of both
pub adds-shown : (z : Terms) (P : ℕ → Type 0) (a b : Judged) → AddsAt z P a b → AddsAt z P (shown a) (shown b)
adds-shown z P a b h = record {
  found = h.found;
  added = h.added;
  at = h.at;
  same = λ un. ap (λ (j : Judged). shown j) (h.same un);
  newest = h.newest;
}

module _ (z : Terms) where
  -- ---- with more arrivals and frames

  events-left-all : (xs : List Arrival) (ys ms : List Gone) (time : ℕ) (over : List Event) → AreLate z time ms
      → AreOver z time over → AreEvents z xs ys over → AreEvents z xs (ys ++ ms) over
  events-left-all xs ys [] time over late o h = subst (λ (l : List Gone). AreEvents z xs l over) (sym (append-nil ys)) h
  events-left-all xs ys (y ∷ ms) time over late o h =
      subst (λ (l : List Gone). AreEvents z xs l over) (append_assoc ys (y ∷ []) ms)
      (events-left-all xs (ys ++ y ∷ []) ms time over late.1 o (events-left z xs ys y time over late.0 o h))

  events-came-all : (xs ls : List Arrival) (ys : List Gone) (time : ℕ) (over : List Event)
      → AllByRecursion (λ x. time ≤ x.time) ls
      → AreOver z time over → AreEvents z xs ys over → AreEvents z (xs ++ ls) ys over
  events-came-all xs [] ys time over late o h = subst (λ (l : List Arrival). AreEvents z l ys over)
      (sym (append-nil xs)) h
  events-came-all xs (x ∷ ls) ys time over late o h =
      subst (λ (l : List Arrival). AreEvents z l ys over) (append_assoc xs (x ∷ []) ls)
      (events-came-all (xs ++ x ∷ []) ls ys time over late.1 o (events-came z xs ys x time over late.0 o h))

  come-later-all : (ls : List Arrival) (time : ℕ) (over : List Event) → AllByRecursion (λ x. time ≤ x.time) ls
      → AreOver z time over
      → ComeLater z ls over
  unfolding AreOver ComeLater
  come-later-all ls time [] late o = tt
  come-later-all ls time (Came w ∷ over) late o = (
    every-on (λ x. time ≤ x.time) (λ x. moment_at z w.time < x.time) (λ x le. (let lt = o.0 in omega (arith, lt, le)))
        ls late,
    come-later-all ls time over late o.1,
  )
  come-later-all ls time (Closing t ∷ over) late o = come-later-all ls time over late o.1

  judged-came-all : (xs ls : List Arrival) (ys : List Gone) (time : ℕ) (over : List Event)
      → AllByRecursion (λ x. time ≤ x.time) ls
      → AreOver z time over → AreEvents z xs ys over → judged_by z (xs ++ ls) ys over ≡ judged_by z xs ys over
  judged-came-all xs ls ys time over late o h =
      ap (λ (l : List Arrival). judged_after z ys l over)
      (drop-append-le (length (arrivals_came over)) xs ls (came-within z xs ys over h))
      ∙ arrivals_later z ys (coming xs over) ls over (come-later-all ls time over late o)

  -- ---- the events that are left

  rest-are : (xs : List Arrival) (ys : List Gone) (over : List Event) → AreEvents z xs ys over
      → judged_whole z xs ys ≡ judged_after z ys [] (reverse (events_of z (coming xs over) (unclosed ys over)) ++ over)
  rest-are xs ys over h =
      ap (λ (l : List Event). judged_after z ys [] (reverse l)) (events-so-far z xs ys over h)
      ∙ ap (λ (l : List Event). judged_after z ys [] l)
      (reverse-append (reverse over) (events_of z (coming xs over) (unclosed ys over))
      ∙ ap (λ (l : List Event). reverse (events_of z (coming xs over) (unclosed ys over)) ++ l) (reverse-reverse over))

  came-are : (cs : List Arrival) (us : List Gone) → reverse (arrivals_came (reverse (events_of z cs us))) ++ [] ≡ cs
  came-are cs us =
      append-nil (reverse (arrivals_came (reverse (events_of z cs us))))
      ∙ ap (λ (l : List Arrival). reverse l) (came-reverse (events_of z cs us))
      ∙ reverse-reverse (arrivals_came (events_of z cs us))
      ∙ came-all z cs us

  module _ (Q : ℕ → Type 0) (up : (a b : ℕ) → a ≤ b → Q a → Q b) where
    abbrev pub At : ℕ → Type 0
    At time = Q (moment_at z time)

    at-later : (a b : ℕ) → a ≤ b → At a → At b
    at-later a b le h = up (moment_at z a) (moment_at z b) (omega (arith, le)) h

    abbrev pub AreAt : List Arrival → List Gone → Type 0
    AreAt cs us = AllByRecursion (λ x. At x.time) cs × AllByRecursion (λ y. At (y.time + reach z.by)) us

    arrivals-at : (x : Arrival) (cs : List Arrival) → GoUp (arrival_times (x ∷ cs)) → At x.time
        → AllByRecursion (λ w. At w.time) (x ∷ cs)
    unfolding GoUp
    arrivals-at x cs go h = (
      h,
      every-on (λ w. x.time ≤ w.time) (λ w. At w.time) (λ w le. at-later x.time w.time le h) cs
          (every-unmap (λ t. x.time ≤ t) (λ (w : Arrival). w.time) cs go.0),
    )

    frames-at : (y : Gone) (us : List Gone) → GoUp (frame_times (y ∷ us)) → At (y.time + reach z.by)
        → AllByRecursion (λ w. At (w.time + reach z.by)) (y ∷ us)
    unfolding GoUp
    frames-at y us go h = (
      h,
      every-on (λ w. y.time ≤ w.time) (λ w. At (w.time + reach z.by))
          (λ w le. at-later (y.time + reach z.by) (w.time + reach z.by) (omega (arith, le)) h) us
          (every-unmap (λ t. y.time ≤ t) (λ (w : Gone). w.time) us go.0),
    )

    -- where the next event is at such a moment each is
    pub all-at : (cs : List Arrival) (us : List Gone) → GoUp (arrival_times cs) → GoUp (frame_times us)
        → ((e : Event) → next_of z cs us ≡ Some e → At (event_time z e)) → AreAt cs us
    all-at [] [] go gone h = (tt, tt)
    all-at [] (y ∷ us) go gone h = (tt, frames-at y us gone (h (Closing y.time) refl))
    all-at (x ∷ cs) [] go gone h = (arrivals-at x cs go (h (Came x) refl), tt)
    all-at (x ∷ cs) (y ∷ us) go gone h = by (closes_before z y x) refl
      where
        next-is : (b : Bool) → closes_before z y x ≡ b → next_of z (x ∷ cs) (y ∷ us)
            ≡ (if b then Some (Closing y.time) else Some (Came x))
        next-is b e = ap (λ (v : Bool). if v then Some (Closing y.time) else Some (Came x)) e

        by : (b : Bool) → closes_before z y x ≡ b → AreAt (x ∷ cs) (y ∷ us)
        by true e =
            let here = h (Closing y.time) (next-is true e) in
            let lt = ltb-true (y.time + reach z.by) x.time e in (
              arrivals-at x cs go (at-later (y.time + reach z.by) x.time (omega (arith, lt)) here),
              frames-at y us gone here,
            )
        by false e =
            let here = h (Came x) (next-is false e) in
            let le = ltb-false (y.time + reach z.by) x.time e in
            (arrivals-at x cs go here, frames-at y us gone (at-later x.time (y.time + reach z.by) le here))

    -- what is judged once all is, by what is so far
    whole-adds : (xs : List Arrival) (ys : List Gone) (over : List Event) → AreEvents z xs ys over
        → AreAt (coming xs over) (unclosed ys over) → AddsAt z At (judged_by z xs ys over) (judged_whole z xs ys)
    whole-adds xs ys over h all =
        let rest = events_of z (coming xs over) (unclosed ys over) in
        subst (λ (l : List Arrival). AddsAt z At (judged_after z ys l over) (judged_whole z xs ys))
        (came-are (coming xs over) (unclosed ys over))
        (subst (λ (j : Judged). AddsAt z At (judged_after z ys (reverse (arrivals_came (reverse (events_of z
        (coming xs over) (unclosed ys over)))) ++ []) over) j)
        (sym (rest-are xs ys over h))
        (adds-at z At ys [] (reverse rest) over
        (every-reverse (λ e. At (event_time z e)) rest
        (every-event z (λ e. At (event_time z e)) (coming xs over) (unclosed ys over) all.0 all.1))))

    due-at : (xs : List Arrival) (ys : List Gone) (cut : ℕ) (over : List Event) (s : Growth) (due : Option ℕ)
        → IsAfter z xs ys cut over s → s.judging.is_unsure ≡ false
        → due ≡ option_map (λ e. moment_at z (event_time z e)) (next_of z (coming xs over) (unclosed ys over))
        → ((m : ℕ) → due ≡ Some m → Q m) → AreAt (coming xs over) (unclosed ys over)
    due-at xs ys cut over s due f sure is h =
        all-at (coming xs over) (unclosed ys over)
        (up-drop (λ (x : Arrival). x.time) (length (arrivals_came over)) xs f.told.came)
        (up-drop (λ (y : Gone). y.time) (length (closings_in over)) ys f.told.left)
        (λ e next. h (moment_at z (event_time z e)) (is ∙ ap (λ o. option_map (λ v. moment_at z (event_time z v)) o)
        next))

    late-uncut : (time : ℕ) (ns : List Gone) → AllByRecursion (λ y. time ≤ y.time) ns → AreLate z time (uncut z ns)
    late-uncut time [] all = tt
    late-uncut time (y ∷ ns) all = by (nat_le (y.time + reach z.by) z.until) (late-uncut time ns all.1)
      where
        by : (b : Bool) → AreLate z time (uncut z ns) → AreLate z time (if b then y ∷ uncut z ns else uncut z ns)
        by true k = ((let at = all.0 in omega (arith, at)), k)
        by false k = k

    arrivals-late : (time : ℕ) → Q time → (ls : List Arrival) → AllByRecursion (λ x. time ≤ x.time) ls
        → AllByRecursion (λ x. At x.time) ls
    arrivals-late time here ls come =
        every-on (λ x. time ≤ x.time) (λ x. At x.time) (λ x k. up time (moment_at z x.time) (omega (arith, k)) here)
        ls come

    frames-late : (time : ℕ) → Q time → (ms : List Gone) → AllByRecursion (λ y. time ≤ y.time) ms
        → AllByRecursion (λ y. At (y.time + reach z.by)) (uncut z ms)
    frames-late time here ms leave =
        every-on (λ y. time ≤ y.time + reach z.by) (λ y. At (y.time + reach z.by))
        (λ y k. up time (moment_at z (y.time + reach z.by)) (omega (arith, k)) here) (uncut z ms)
        (late-uncut time ms leave)

    -- ---- where nothing came before

    pub fresh-adds : (time : ℕ) → Q time → (ls : List Arrival) (ms : List Gone) → AllByRecursion (λ x. time ≤ x.time) ls
        → AllByRecursion (λ y. time ≤ y.time) ms → AddsAt z At nothing_judged (shown (judged_of z ls ms))
    unfolding judged_after AreEvents
    fresh-adds time here ls ms come leave =
        adds-shown z At (judged_by z ls (uncut z ms) []) (judged_whole z ls (uncut z ms))
        (whole-adds ls (uncut z ms) [] tt (arrivals-late time here ls come, frames-late time here ms leave))

    -- ---- once the end is known

    pub ended-adds : (xs : List Arrival) (ys : List Gone) (j : Judged) (s : Stream) → IsEnding z xs ys j s
        → ((m : ℕ) → due_of s ≡ Some m → Q m) → AddsAt z At j (shown (judged_of z xs ys))
    ended-adds xs ys j s h due =
        subst (λ (i : Judged). AddsAt z At i (shown (judged_whole z xs (uncut z ys)))) h.judged
        (adds-shown z At (judged_by z xs (uncut z ys) h.over) (judged_whole z xs (uncut z ys))
        (by s.growth.judging.is_unsure refl))
      where
        by : (b : Bool) → s.growth.judging.is_unsure ≡ b
            → AddsAt z At (judged_by z xs (uncut z ys) h.over) (judged_whole z xs (uncut z ys))
        by true e = adds-same z At (judged_by z xs (uncut z ys) h.over) (judged_whole z xs (uncut z ys))
            (whole-unsure z xs (uncut z ys) h.over h.is_after.events (sym h.is_after.unsure ∙ e))
        by false e = whole-adds xs (uncut z ys) h.over h.is_after.events
            (due-at xs (uncut z ys) (length ys - length (uncut z ys)) h.over s.growth (due_of s) h.is_after e
            (due-is z xs (uncut z ys) (length ys - length (uncut z ys)) h.over s.growth h.is_after e) due)

    -- ---- while arrivals and frames come

    module _ (time : ℕ) (now-at : Q time) (xs ls : List Arrival) (ys ms : List Gone) (over : List Event)
        (o : AreOver z time over)
        (told : AreTold z xs ys) (events : AreEvents z xs ys over) (le : time ≤ z.until)
        (come : AllByRecursion (λ x. time ≤ x.time) ls) (leave : AllByRecursion (λ y. time ≤ y.time) ms) where
      abbrev us : List Gone
      us = uncut z ys

      abbrev ws : List Gone
      ws = uncut z ms

      ends-at : ys ≡ us ++ (split z ys told.left).off
      ends-at = (split z ys told.left).same

      whole-events : AreEvents z xs (us ++ (split z ys told.left).off) over
      whole-events = subst (λ (l : List Gone). AreEvents z xs l over) ends-at events

      closed-low : length (closings_in over) ≤ length us
      closed-low = closed-shown z xs us (split z ys told.left).off time over whole-events o le
          (split z ys told.left).are_off

      told-uncut : AreTold z xs us
      told-uncut =
          let off = (split z ys told.left).off in
          record {
            came = told.came;
            left = up-left (frame_times us) (frame_times off)
                (subst (λ (l : List ℕ). GoUp l) (map-append (λ (y : Gone). y.time) us off)
                (subst (λ (l : List Gone). GoUp (frame_times l)) ends-at told.left));
            start = told.start;
            begun = every-left (λ y. from_time z.by.start ≤ y.time + reach z.by) us off
                (subst (λ (l : List Gone). AllByRecursion (λ y. from_time z.by.start ≤ y.time + reach z.by) l) ends-at
                told.begun);
          }

      events-uncut : AreEvents z xs us over
      events-uncut = events-cut z xs us (split z ys told.left).off over closed-low whole-events

      events-more : AreEvents z xs (us ++ ws) over
      events-more = events-left-all xs us ws time over (late-uncut time ms leave) o events-uncut

      events-all : AreEvents z (xs ++ ls) (us ++ ws) over
      events-all = events-came-all xs ls (us ++ ws) time over come o events-more

      -- what is judged so far is the same
      so-far : shown (judged_by z (xs ++ ls) (us ++ ws) over) ≡ shown (judged_by z xs ys over)
      so-far =
          let off = (split z ys told.left).off in
          ap (λ (i : Judged). shown i) (judged-came-all xs ls (us ++ ws) time over come o events-more)
          ∙ shown-late z xs us ws time over told-uncut events-uncut le (late-uncut time ms leave) o
          ∙ sym (shown-late z xs us off time over told-uncut events-uncut le
          (are-late z time off le (split z ys told.left).are_off) o)
          ∙ ap (λ (l : List Gone). shown (judged_by z xs l over)) (sym ends-at)

      left-at : AreAt (coming xs over) (unclosed ys over) → AreAt (coming (xs ++ ls) over) (unclosed (us ++ ws) over)
      left-at all =
          let off = (split z ys told.left).off in (
            subst (λ (l : List Arrival). AllByRecursion (λ x. At x.time) l)
                (sym (drop-append-le (length (arrivals_came over)) xs ls
                (came-within z xs (us ++ ws) over events-more)))
                (every-append (λ x. At x.time) (coming xs over) ls all.0 (arrivals-late time now-at ls come)),
            subst (λ (l : List Gone). AllByRecursion (λ y. At (y.time + reach z.by)) l)
                (sym (unclosed-more z xs us ws over closed-low))
                (every-append (λ y. At (y.time + reach z.by)) (unclosed us over) ws
                (every-left (λ y. At (y.time + reach z.by)) (unclosed us over) off
                (subst (λ (l : List Gone). AllByRecursion (λ y. At (y.time + reach z.by)) l)
                (ap (λ (l : List Gone). unclosed l over) ends-at ∙ unclosed-more z xs us off over closed-low) all.1))
                (frames-late time now-at ms leave)),
          )

      parts : uncut z (ys ++ ms) ≡ us ++ ws
      parts = filter-append (λ y. nat_le (y.time + reach z.by) z.until) ys ms

      -- where the events that are left are at such moments, or there were too many states
      pub more-adds : ((judged_by z xs ys over).is_unsure ≡ true) ⊎ AreAt (coming xs over) (unclosed ys over)
          → AddsAt z At (shown (judged_by z xs ys over)) (shown (judged_of z (xs ++ ls) (ys ++ ms)))
      more-adds left =
          subst (λ (l : List Gone). AddsAt z At (shown (judged_by z xs ys over))
          (shown (judged_whole z (xs ++ ls) l))) (sym parts)
          (subst (λ (i : Judged). AddsAt z At i (shown (judged_whole z (xs ++ ls) (us ++ ws)))) so-far
          (adds-shown z At (judged_by z (xs ++ ls) (us ++ ws) over) (judged_whole z (xs ++ ls) (us ++ ws)) (by left)))
        where
          by : ((judged_by z xs ys over).is_unsure ≡ true) ⊎ AreAt (coming xs over) (unclosed ys over)
              → AddsAt z At (judged_by z (xs ++ ls) (us ++ ws) over) (judged_whole z (xs ++ ls) (us ++ ws))
          by (inl un) = adds-same z At (judged_by z (xs ++ ls) (us ++ ws) over) (judged_whole z (xs ++ ls) (us ++ ws))
              (whole-unsure z (xs ++ ls) (us ++ ws) over events-all (ap (λ (i : Judged). i.is_unsure) so-far ∙ un))
          by (inr all) = whole-adds (xs ++ ls) (us ++ ws) over events-all (left-at all)

    pub running-adds : (time : ℕ) → Q time → (xs ls : List Arrival) (ys ms : List Gone) (j : Judged) (s : Stream)
        → StandsFor z xs ys j time s → time ≤ z.until → ((m : ℕ) → due_of s ≡ Some m → Q m)
        → AllByRecursion (λ x. time ≤ x.time) ls → AllByRecursion (λ y. time ≤ y.time) ms
        → AddsAt z At j (shown (judged_of z (xs ++ ls) (ys ++ ms)))
    running-adds time here xs ls ys ms j s h le due come leave =
        let f = h.is_after z.until le in
        subst (λ (i : Judged). AddsAt z At i (shown (judged_of z (xs ++ ls) (ys ++ ms)))) (h.judged z.until le)
        (more-adds time here xs ls ys ms h.over h.before f.told f.events le come leave
        (by s.growth.judging.is_unsure refl f))
      where
        by : (b : Bool) → s.growth.judging.is_unsure ≡ b → IsAfter z xs ys 0 h.over s.growth
            → ((judged_by z xs ys h.over).is_unsure ≡ true) ⊎ AreAt (coming xs h.over) (unclosed ys h.over)
        by true e f = inl (sym f.unsure ∙ e)
        by false e f = inr (due-at xs ys 0 h.over s.growth (due_of s) f e (due-is z xs ys 0 h.over s.growth f e) due)
