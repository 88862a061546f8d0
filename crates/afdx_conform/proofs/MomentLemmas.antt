-- What is over stays, whatever comes later.
use Rattle.std.proofs.Common.{◌≡◌, ℕ, ◌+◌, ◌<◌, ◌≤◌, Bool, true, false, List, [], ◌∷◌, ◌++◌, inl, inr, map, reverse, refl, sym, ap, ◌∙◌, subst, arith}
use Rattle.std.proofs.lemmas.Bool.{lt-ltb, le-ltb, ltb-true, ltb-false}
use Rattle.std.proofs.lemmas.List.{map-append, append-nil, append_assoc, reverse-append, reverse-reverse}
use Rattle.std.proofs.lemmas.List.Elements.{filter-append}
use Rattle.std.specs.Prelude.{if◌then◌else◌, nat_lt}
use Rattle.std.specs.List.{AllByRecursion, filter}
use Rattle.afdx_police.specs.Arrival.{Arrival}
use Rattle.afdx_conform.specs.Ahead.{until_then, NoneIsOpen}
use Rattle.afdx_conform.specs.EventLaws.{IsTimeOf, AreKnownAt, WhatIsOverStays}
use Rattle.afdx_conform.specs.Events.{GoUp, arrival_times, frame_times, closes_before, up_to, events_of, event_time, moment_at, judged_whole, found_before}
use Rattle.afdx_conform.specs.Findings.{Found, Judged, is_far, judged_after}
use Rattle.afdx_conform.specs.Later.{AreFar, ComeLater}
use Rattle.afdx_conform.specs.Leeway.{reach}
use Rattle.afdx_conform.specs.States.{Event, Came, Closing, arrivals_came}
use Rattle.afdx_conform.specs.Streams.{Gone, Terms, is_open, is_begun, latency}
use Rattle.afdx_conform.proofs.EventLemmas.{join, every-event, came-all}
use Rattle.afdx_conform.proofs.EveryLemmas.{every-append, every-left, every-on, every-map, every-unmap, every-reverse}
use Rattle.afdx_conform.proofs.LaterArrivals.{arrivals_later}
use Rattle.afdx_conform.proofs.LaterEnd.{end_later}
use Rattle.afdx_conform.proofs.LaterLemmas.{frames_later}
use Rattle.afdx_conform.proofs.StaysLemmas.{found_stays}

-- ---- lists that are cut where a test fails first

record IsCut {X : Type 0} (time : X → ℕ) (bound : ℕ) (xs : List X) : Type 0 where
  pub first : List X
  pub behind : List X
  pub same : xs ≡ first ++ behind
  pub below : AllByRecursion (λ x. time x < bound) first
  pub above : AllByRecursion (λ x. bound ≤ time x) behind

cut : {X : Type 0} (time : X → ℕ) (bound : ℕ) (xs : List X) → GoUp (map time xs) → IsCut time bound xs
unfolding GoUp
cut time bound [] h = record { first = []; behind = []; same = refl; below = tt; above = tt }
cut time bound (x ∷ xs) h = by (nat_lt (time x) bound) refl (cut time bound xs h.1)
  where
    by : (b : Bool) → nat_lt (time x) bound ≡ b → IsCut time bound xs → IsCut time bound (x ∷ xs)
    by true e c = record {
      first = x ∷ c.first;
      behind = c.behind;
      same = ap (λ l. x ∷ l) c.same;
      below = (ltb-true (time x) bound e, c.below);
      above = c.above;
    }
    by false e c =
        let le = ltb-false (time x) bound e in
        record {
          first = [];
          behind = x ∷ xs;
          same = refl;
          below = tt;
          above = (
            le,
            every-on (λ w. time x ≤ time w) (λ w. bound ≤ time w) (λ w k. omega (arith, le, k)) xs
                (every-unmap (λ other. time x ≤ other) time xs h.0),
          );
        }

pub up-left : (xs ys : List ℕ) → GoUp (xs ++ ys) → GoUp xs
unfolding GoUp
up-left [] ys h = tt
up-left (x ∷ xs) ys h = (every-left (λ other. x ≤ other) xs ys h.0, up-left xs ys h.1)

up-on : {X : Type 0} (time : X → ℕ) (f : ℕ → ℕ) → ((a b : ℕ) → a ≤ b → f a ≤ f b) → (xs : List X) → GoUp (map time xs)
    → GoUp (map (λ x. f (time x)) xs)
unfolding GoUp
up-on time f goes [] h = tt
up-on time f goes (x ∷ xs) h = (
  every-map (λ other. f (time x) ≤ other) (λ w. f (time w)) xs
      (every-on (λ w. time x ≤ time w) (λ w. f (time x) ≤ f (time w)) (λ w k. goes (time x) (time w) k) xs
      (every-unmap (λ other. time x ≤ other) time xs h.0)),
  up-on time f goes xs h.1,
)

filter-none : {X : Type 0} (test : X → Bool) (xs : List X) → AllByRecursion (λ x. test x ≡ false) xs
    → filter test xs ≡ []
filter-none test [] h = refl
filter-none test (x ∷ xs) h = rw (h.0) (filter-none test xs h.1)

filter-all : {X : Type 0} (test : X → Bool) (xs : List X) → AllByRecursion (λ x. test x ≡ true) xs → filter test xs ≡ xs
filter-all test [] h = refl
filter-all test (x ∷ xs) h = rw (h.0) (ap (λ l. x ∷ l) (filter-all test xs h.1))

pub came-append : (a b : List Event) → arrivals_came (a ++ b) ≡ arrivals_came a ++ arrivals_came b
came-append [] b = refl
came-append (Came x ∷ a) b = ap (λ (l : List Arrival). x ∷ l) (came-append a b)
came-append (Closing time ∷ a) b = came-append a b

pub came-reverse : (l : List Event) → arrivals_came (reverse l) ≡ reverse (arrivals_came l)
came-reverse [] = refl
came-reverse (Came x ∷ l) =
    ap (λ (k : List Event). arrivals_came k) (reverse-append (Came x ∷ []) l) ∙ came-append (reverse l) (Came x ∷ [])
    ∙ ap (λ (k : List Arrival). k ++ (x ∷ [])) (came-reverse l) ∙ sym (reverse-append (x ∷ []) (arrivals_came l))
came-reverse (Closing time ∷ l) =
    ap (λ (k : List Event). arrivals_came k) (reverse-append (Closing time ∷ []) l)
    ∙ came-append (reverse l) (Closing time ∷ [])
    ∙ append-nil (arrivals_came (reverse l)) ∙ came-reverse l

-- ---- what is found at some events

at-time : (z : Terms) (P : ℕ → Type 0) (events : List Event) (time : ℕ)
    → AllByRecursion (λ e. P (event_time z e)) events
    → IsTimeOf z time events → P time
at-time z P [] time h k = absurd k
at-time z P (e ∷ events) time h (inl same) = subst (λ t. P t) same h.0
at-time z P (e ∷ events) time h (inr k) = at-time z P events time h.1 k

at-times : (z : Terms) (P : ℕ → Type 0) (events : List Event) (found : List Found)
    → AllByRecursion (λ e. P (event_time z e)) events
    → AllByRecursion (λ f. IsTimeOf z f.time events) found → AllByRecursion (λ f. P f.time) found
at-times z P events found h k =
    every-on (λ f. IsTimeOf z f.time events) (λ f. P f.time) (λ f t. at-time z P events f.time h t) found k

none-at-first : (z : Terms) (ys : List Gone) (found : List Found) (xs : List Arrival)
    → found ++ (judged_after z ys xs []).findings ≡ found
unfolding judged_after
none-at-first z ys found xs = append-nil found

module _ (z : Terms) (moment : ℕ) where
  abbrev IsBefore : ℕ → Type 0
  IsBefore time = moment_at z time < moment

  abbrev IsBehind : ℕ → Type 0
  IsBehind time = moment ≤ moment_at z time

  -- ---- what events that are over don't ask for

  far-from : (more : List Gone) (events : List Event) → moment ≤ z.until
      → AllByRecursion (λ y. moment ≤ y.time + reach z.by) more
      → AllByRecursion (λ y. is_begun z y ≡ false) more → AllByRecursion (λ e. IsBefore (event_time z e)) events
      → AreFar z more events
  unfolding AreFar is_open
  far-from more [] end late begun h = begun
  far-from more (Came x ∷ events) end late begun h =
      let k = h.0 in (
        le-ltb z.until (x.time + latency z + reach z.by + reach z.by) (omega (arith, k, end)),
        every-on (λ y. moment ≤ y.time + reach z.by) (λ y. is_far z x y ≡ true)
            (λ y l. lt-ltb (x.time + latency z + latency z + reach z.by) y.time (omega (arith, k, l))) more late,
        far-from more events end late begun h.1,
      )
  far-from more (Closing time ∷ events) end late begun h =
      let k = h.0 in (
        every-on (λ y. moment ≤ y.time + reach z.by) (λ y. time < y.time) (λ y l. omega (arith, k, l)) more late,
        far-from more events end late begun h.1,
      )

  later-than : (more : List Arrival) (events : List Event) → AllByRecursion (λ x. moment ≤ x.time) more
      → AllByRecursion (λ e. IsBefore (event_time z e)) events → ComeLater z more events
  unfolding ComeLater
  later-than more [] late h = tt
  later-than more (Came x ∷ events) late h =
      let k = h.0 in (
        every-on (λ w. moment ≤ w.time) (λ w. moment_at z x.time < w.time) (λ w l. omega (arith, k, l)) more late,
        later-than more events late h.1,
      )
  later-than more (Closing time ∷ events) late h = later-than more events late h.1

  none-open : (until : ℕ) (events : List Event) → moment ≤ until
      → AllByRecursion (λ e. IsBefore (event_time z e)) events
      → NoneIsOpen (until_then until z) events
  unfolding NoneIsOpen is_open
  none-open until [] end h = tt
  none-open until (Came x ∷ events) end h =
      let k = h.0 in (
        le-ltb until (x.time + latency z + reach z.by + reach z.by) (omega (arith, k, end)),
        none-open until events end h.1,
      )
  none-open until (Closing time ∷ events) end h = none-open until events end h.1

  -- ---- the events before the moment

  module _ (first behind later : List Arrival) (closed left more : List Gone)
      (known : AreKnownAt z moment (first ++ behind) later (closed ++ left) more)
      (came-first : AllByRecursion (λ x. IsBefore x.time) first)
      (came-behind : AllByRecursion (λ x. IsBehind x.time) behind)
      (left-first : AllByRecursion (λ y. IsBefore (y.time + reach z.by)) closed)
      (left-behind : AllByRecursion (λ y. IsBehind (y.time + reach z.by)) left) where
    abbrev Before : List Event
    Before = events_of z first closed

    abbrev After : List Event
    After = events_of z (behind ++ later) (left ++ more)

    all-behind : AllByRecursion (λ x. IsBehind x.time) (behind ++ later)
    all-behind = every-append (λ x. IsBehind x.time) behind later came-behind
        (every-on (λ x. moment ≤ x.time) (λ x. IsBehind x.time) (λ x k. omega (arith, k)) later known.come_later)

    all-left : AllByRecursion (λ y. IsBehind (y.time + reach z.by)) (left ++ more)
    all-left = every-append (λ y. IsBehind (y.time + reach z.by)) left more left-behind
        (every-on (λ y. moment ≤ y.time + reach z.by) (λ y. IsBehind (y.time + reach z.by))
        (λ y k. omega (arith, k)) more known.leave_later)

    closed-before : AllByRecursion (λ y. AllByRecursion (λ x. closes_before z y x ≡ true) (behind ++ later)) closed
    closed-before = every-on (λ y. IsBefore (y.time + reach z.by))
        (λ y. AllByRecursion (λ x. closes_before z y x ≡ true) (behind ++ later))
        (λ y h. every-on (λ x. IsBehind x.time) (λ x. closes_before z y x ≡ true)
        (λ x k. lt-ltb (y.time + reach z.by) x.time (omega (arith, h, k)))
        (behind ++ later) all-behind) closed left-first

    came-before : AllByRecursion (λ x. AllByRecursion (λ y. closes_before z y x ≡ false) (left ++ more)) first
    came-before = every-on (λ x. IsBefore x.time)
        (λ x. AllByRecursion (λ y. closes_before z y x ≡ false) (left ++ more))
        (λ x h. every-on (λ y. IsBehind (y.time + reach z.by)) (λ y. closes_before z y x ≡ false)
        (λ y k. le-ltb (y.time + reach z.by) x.time (omega (arith, h, k)))
        (left ++ more) all-left) first came-first

    before-all : AllByRecursion (λ e. IsBefore (event_time z e)) (reverse Before)
    before-all = every-reverse (λ e. IsBefore (event_time z e)) Before
        (every-event z (λ e. IsBefore (event_time z e)) first closed came-first left-first)

    after-all : AllByRecursion (λ e. IsBehind (event_time z e)) (reverse After)
    after-all = every-reverse (λ e. IsBehind (event_time z e)) After
        (every-event z (λ e. IsBehind (event_time z e)) (behind ++ later) (left ++ more) all-behind all-left)

    abbrev All : List Gone
    All = (closed ++ left) ++ more

    events-are : reverse (events_of z ((first ++ behind) ++ later) All) ≡ reverse After ++ reverse Before
    events-are =
        ap (λ (l : List Arrival). reverse (events_of z l All)) (append_assoc first behind later)
        ∙ ap (λ (l : List Gone). reverse (events_of z (first ++ (behind ++ later)) l)) (append_assoc closed left more)
        ∙ ap (λ (l : List Event). reverse l)
        (join z first (behind ++ later) closed (left ++ more) closed-before came-before)
        ∙ reverse-append Before After

    came-of : reverse (arrivals_came (reverse After)) ++ [] ≡ behind ++ later
    came-of =
        append-nil (reverse (arrivals_came (reverse After)))
        ∙ ap (λ (l : List Arrival). reverse l) (came-reverse After)
        ∙ reverse-reverse (arrivals_came After)
        ∙ came-all z (behind ++ later) (left ++ more)

    -- of these events nothing of later moments is found
    abbrev First : Judged
    First = judged_after z All (behind ++ later) (reverse Before)

    first-before : AllByRecursion (λ f. nat_lt (moment_at z f.time) moment ≡ true) First.findings
    first-before =
        let s = found_stays z All (behind ++ later) (reverse Before) [] in
        let same : First.findings ≡ s.found =
        ap (λ (l : List Event). (judged_after z All (behind ++ later) l).findings) (sym (append-nil (reverse Before)))
        ∙ s.added ∙ none-at-first z All s.found (reverse (arrivals_came (reverse Before)) ++ (behind ++ later)) in
        subst (λ (l : List Found). AllByRecursion (λ f. nat_lt (moment_at z f.time) moment ≡ true) l) (sym same)
        (every-on (λ f. IsBefore f.time) (λ f. nat_lt (moment_at z f.time) moment ≡ true)
        (λ f h. lt-ltb (moment_at z f.time) moment h) s.found
        (at-times z IsBefore (reverse Before) s.found before-all s.at_events))

    whole-is : found_before z moment (judged_whole z ((first ++ behind) ++ later) All).findings ≡ First.findings
    whole-is =
        let s = found_stays z All [] (reverse After) (reverse Before) in
        ap (λ (l : List Event). found_before z moment (judged_after z All [] l).findings) events-are
        ∙ ap (λ (l : List Found). found_before z moment l) s.added
        ∙ ap (λ (l : List Arrival). found_before z moment
        (s.found ++ (judged_after z All l (reverse Before)).findings)) came-of
        ∙ filter-append (λ f. nat_lt (moment_at z f.time) moment) s.found First.findings
        ∙ ap (λ (l : List Found). l ++ found_before z moment First.findings)
        (filter-none (λ f. nat_lt (moment_at z f.time) moment) s.found
        (every-on (λ f. IsBehind f.time) (λ f. nat_lt (moment_at z f.time) moment ≡ false)
        (λ f h. le-ltb (moment_at z f.time) moment h) s.found
        (at-times z IsBehind (reverse After) s.found after-all s.at_events)))
        ∙ filter-all (λ f. nat_lt (moment_at z f.time) moment) First.findings first-before

    begun-not : AllByRecursion (λ y. is_begun z y ≡ false) more
    begun-not = every-on (λ y. moment ≤ y.time + reach z.by) (λ y. is_begun z y ≡ false)
        (λ y h. known.begun y h) more known.leave_later

    -- it is what was found of the lines that are known
    pub over-is : found_before z moment (judged_whole z ((first ++ behind) ++ later) All).findings
        ≡ (judged_after z (closed ++ left) behind (reverse Before)).findings
    over-is =
        whole-is
        ∙ ap (λ (j : Judged). j.findings)
        (arrivals_later z All behind later (reverse Before)
        (later-than later (reverse Before) known.come_later before-all)
        ∙ frames_later z (closed ++ left) more behind (reverse Before)
        (far-from more (reverse Before) known.end known.leave_later begun-not before-all))

-- ---- the events don't ask for the end

until-events : (z : Terms) (until : ℕ) (xs : List Arrival) (ys : List Gone)
    → events_of (until_then until z) xs ys ≡ events_of z xs ys
unfolding events_of up_to
until-events z until [] ys = refl
until-events z until (x ∷ xs) [] = ap (λ (l : List Event). Came x ∷ l) (until-events z until xs [])
until-events z until (x ∷ xs) (y ∷ ys) =
    ap (λ (l : List Event). if closes_before z y x then Closing y.time ∷ l
    else Came x ∷ events_of (until_then until z) xs (y ∷ ys))
    (until-events z until (x ∷ xs) ys)
    ∙ ap (λ (l : List Event). if closes_before z y x then Closing y.time ∷ events_of z (x ∷ xs) ys else Came x ∷ l)
    (until-events z until xs (y ∷ ys))

over-cut : (z : Terms) (until moment : ℕ) (first behind later others : List Arrival) (closed left more rest : List Gone)
    → AreKnownAt z moment (first ++ behind) later (closed ++ left) more
    → AreKnownAt (until_then until z) moment (first ++ behind) others (closed ++ left) rest
    → AllByRecursion (λ x. IsBefore z moment x.time) first → AllByRecursion (λ x. IsBehind z moment x.time) behind
    → AllByRecursion (λ y. IsBefore z moment (y.time + reach z.by)) closed
    → AllByRecursion (λ y. IsBehind z moment (y.time + reach z.by)) left
    → found_before z moment (judged_whole z ((first ++ behind) ++ later) ((closed ++ left) ++ more)).findings
    ≡ found_before z moment
    (judged_whole (until_then until z) ((first ++ behind) ++ others) ((closed ++ left) ++ rest)).findings
over-cut z until moment first behind later others closed left more rest p q a b c d =
    let over = before-all z moment first behind later closed left more p a b c d in
    over-is z moment first behind later closed left more p a b c d
    ∙ sym (ap (λ (j : Judged). j.findings)
    (end_later z until (closed ++ left) behind (reverse (events_of z first closed))
    (none-open z moment z.until (reverse (events_of z first closed)) p.end over)
    (none-open z moment until (reverse (events_of z first closed)) q.end over)))
    ∙ sym (ap (λ (l : List Event). (judged_after (until_then until z) (closed ++ left) behind (reverse l)).findings)
    (until-events z until first closed))
    ∙ sym (over-is (until_then until z) moment first behind others closed left rest q a b c d)

pub over_stays : WhatIsOverStays
over_stays z until moment xs later others ys more rest p q =
    let up-xs = up-left (arrival_times xs) (arrival_times later)
    (subst (λ l. GoUp l) (map-append (λ (x : Arrival). x.time) xs later) p.came) in
    let up-ys = up-left (frame_times ys) (frame_times more)
    (subst (λ l. GoUp l) (map-append (λ (y : Gone). y.time) ys more) p.left) in
    let c = cut (λ (x : Arrival). moment_at z x.time) moment xs
    (up-on (λ (x : Arrival). x.time) (λ t. moment_at z t) (λ m n h. omega (arith, h)) xs up-xs) in
    let d = cut (λ (y : Gone). moment_at z (y.time + reach z.by)) moment ys
    (up-on (λ (y : Gone). y.time) (λ t. moment_at z (t + reach z.by)) (λ m n h. omega (arith, h)) ys up-ys) in
    subst (λ l. found_before z moment (judged_whole z (l ++ later) (ys ++ more)).findings
    ≡ found_before z moment (judged_whole (until_then until z) (l ++ others) (ys ++ rest)).findings) (sym c.same)
    (subst (λ l. found_before z moment (judged_whole z ((c.first ++ c.behind) ++ later) (l ++ more)).findings
    ≡ found_before z moment (judged_whole (until_then until z) ((c.first ++ c.behind) ++ others) (l ++ rest)).findings)
    (sym d.same)
    (over-cut z until moment c.first c.behind later others d.first d.behind more rest
    (subst (λ l. AreKnownAt z moment l later (d.first ++ d.behind) more) c.same
    (subst (λ l. AreKnownAt z moment xs later l more) d.same p))
    (subst (λ l. AreKnownAt (until_then until z) moment l others (d.first ++ d.behind) rest) c.same
    (subst (λ l. AreKnownAt (until_then until z) moment xs others l rest) d.same q))
    c.below c.above d.below d.above))
