-- Which of the frames of both roles the run over the senders counts, and which the one over the
-- switch.
use Rattle.std.proofs.Common.{◌≡◌, ℕ, ◌+◌, ◌≤◌, Bool, true, false, List, [], ◌∷◌, length, map, refl, sym, ap, ◌∙◌, subst, arith}
use Rattle.std.proofs.lemmas.Bool.{and_parts, le-ltb, ltb-false}
use Rattle.std.specs.Prelude.{filter, if◌then◌else◌, nat_eq, nat_le, nat_lt, not, ◌&&◌, ◌||◌, Option, Some, None}
use Rattle.afdx_config.specs.Rows.{Rows}
use Rattle.afdx_conform.proofs.EveryLemmas.{every-on}
use Rattle.afdx_conform.specs.Explanations.{from_time}
use Rattle.afdx_conform.specs.Leeway.{reach}
use Rattle.afdx_conform.specs.LimitRanges.{most_bytes}
use Rattle.afdx_frame.specs.Sides.{is_side}
use Rattle.afdx_frame.specs.declared.link.Side.{Side}
use Rattle.afdx_frame.specs.declared.link.Side.TheVariants.{A, B}
use Rattle.afdx_input_lines.specs.declared.role.Role.{Role}
use Rattle.afdx_input_lines.specs.declared.role.Role.TheVariants.{Came, Left}
use Rattle.afdx_input_runs.specs.Joining.{Frame}
use Rattle.afdx_law_recorded.specs.Switches.{gone_as, left_of}
use Rattle.afdx_police.specs.Arrival.{Arrival, names, own}
use Rattle.afdx_police.specs.Spacing.{AreUpTo}
use Rattle.afdx_senders.proofs.ListLemmas.{filter_map, filter_same, none_passes}
use Rattle.afdx_command_conform.specs.Choices.{Choices, counted, is_behind, is_before, is_in_time, is_left_out, is_missed, latest_of, left_out_of, until_or}
use Rattle.afdx_command_conform.specs.Frames.{arrivals_of, frames_of, gone_of, is_arrival_of, left_at}
use Rattle.afdx_command_conform.specs.RunLaws.{AreByTime}
use Rattle.afdx_command_conform.specs.Tapped.{is_of_came, is_unheard}
use Rattle.afdx_command_conform.proofs.QuietRunLemmas.{none_left_out}
use Rattle.afdx_command_senders.specs.Asked.{Asked, came_in, counts}
use Rattle.afdx_command_senders.specs.Together.{NoneLeftOutIsJudged, NoneLeftOutIsSent, came_until, left_until, no_longer}

-- ---- what passes two tests

pub filter-both : {X : Type 0} (p q : X → Bool) (xs : List X) → filter p (filter q xs) ≡ filter (λ x. q x && p x) xs
filter-both p q [] = refl
filter-both p q (x ∷ xs) = by (q x) (filter-both p q xs)
  where
    by : (b : Bool) → filter p (filter q xs) ≡ filter (λ y. q y && p y) xs
        → filter p (if b then x ∷ filter q xs else filter q xs)
        ≡ (if b && p x then x ∷ filter (λ y. q y && p y) xs else filter (λ y. q y && p y) xs)
    by true e = ap (λ (l : List _). if p x then x ∷ l else l) e
    by false e = e

filter-each : {X : Type 0} (p q : X → Bool) (xs : List X) → ((x : X) → p x ≡ q x) → filter p xs ≡ filter q xs
filter-each p q [] h = refl
filter-each p q (x ∷ xs) h =
    ap (λ (b : Bool). if b then x ∷ filter p xs else filter p xs) (h x)
    ∙ ap (λ (l : List _). if q x then x ∷ l else l) (filter-each p q xs h)

pub map-twice : {X Y Z : Type 0} (f : X → Y) (g : Y → Z) (xs : List X) → map g (map f xs) ≡ map (λ x. g (f x)) xs
map-twice f g [] = refl
map-twice f g (x ∷ xs) = ap (λ (l : List _). g (f x) ∷ l) (map-twice f g xs)

no-list : {X : Type 0} (xs : List X) → length xs ≡ 0 → xs ≡ []
no-list [] h = refl
no-list (x ∷ xs) h = absurd (omega (arith, h))

side-turned : (a b : Side) → is_side a b ≡ is_side b a
side-turned A A = refl
side-turned A B = refl
side-turned B A = refl
side-turned B B = refl

abbrev pub arrival_in : Frame → Arrival
arrival_in x = x.arrival

abbrev pub is_until : Option ℕ → Frame → Bool
is_until until x = not (is_behind x.arrival.time until)

abbrev pub is_no_longer : Frame → Bool
is_no_longer x = nat_le (length x.arrival.bytes) most_bytes

abbrev short : Arrival → Bool
short x = nat_le (length x.bytes) most_bytes

-- ---- nothing went before

in-time : (c : Choices) (x : Frame) → c.by.start ≡ None → is_in_time c x ≡ is_until c.until x
in-time c x none = ap (λ (b : Bool). not b && is_until c.until x) (by x.role)
  where
    by : (r : Role) → is_before c r x.arrival.time ≡ false
    by Came = ap (λ (start : Option ℕ). nat_lt x.arrival.time (from_time start)) none
        ∙ le-ltb x.arrival.time 0 (omega arith)
    by Left = ap (λ (start : Option ℕ). nat_lt (x.arrival.time + reach c.by) (from_time start)) none
        ∙ le-ltb (x.arrival.time + reach c.by) 0 (omega arith)

-- ---- what the senders sent

module _ (t : Rows) (a : Asked) (frames : List Frame) (start : a.run.by.start ≡ None)
    (none : left_out_of t a.run frames ≡ 0) where
  not-missed : (x : Frame) → is_missed t a.run x ≡ false
      → counts a x ≡ (is_of_came x.role && is_until a.run.until x)
  unfolding is_missed counts
  not-missed x h =
      by (is_of_came x.role) (is_in_time a.run x) (is_left_out a.run x) (is_unheard t a.run.sight x) h
      ∙ ap (λ (b : Bool). is_of_came x.role && b) (in-time a.run x start)
    where
      by : (c u o n : Bool) → (u && (o || n)) ≡ false → (c && u && not o) ≡ (c && u)
      by true true true n e = absurd (cc e)
      by true true false n e = refl
      by true false o n e = refl
      by false u o n e = refl

  pub all-sent : came_in a frames ≡ came_until a.run.until frames
  all-sent =
      ap (map arrival_in)
      (filter_same (counts a) (λ x. is_of_came x.role && is_until a.run.until x) frames
      (every-on (λ x. is_missed t a.run x ≡ false)
      (λ x. counts a x ≡ (is_of_came x.role && is_until a.run.until x)) not-missed frames
      (none_passes (is_missed t a.run) frames (no-list (filter (is_missed t a.run) frames) none))))

-- ---- what the switch is judged by

module _ (t : Rows) (c : Choices) (frames : List Frame) (start : c.by.start ≡ None)
    (none : left_out_of t c frames ≡ 0) where
  abbrev all_in : List Frame
  all_in = filter (λ x. is_until c.until x && is_no_longer x) frames

  all-counted : counted t c frames ≡ all_in
  all-counted =
      none_left_out t c frames none
      ∙ filter-each (λ x. is_in_time c x && is_no_longer x) (λ x. is_until c.until x && is_no_longer x) frames
      (λ x. ap (λ (b : Bool). b && is_no_longer x) (in-time c x start))

  module _ (vl : ℕ) (side : Side) where
    abbrev is_its : Arrival → Bool
    is_its x = is_side side x.side && names vl x.bytes

    came-same : (x : Frame)
        → ((is_of_came x.role && is_until c.until x) && (is_no_longer x && is_its x.arrival))
        ≡ ((is_until c.until x && is_no_longer x) && is_arrival_of vl side x)
    unfolding is_arrival_of
    came-same x =
        ap (λ (b : Bool). (is_of_came x.role && is_until c.until x)
        && (is_no_longer x && (b && names vl x.arrival.bytes))) (side-turned side x.arrival.side)
        ∙ by (is_of_came x.role) (is_until c.until x) (is_no_longer x) (is_side x.arrival.side side)
        (names vl x.arrival.bytes)
      where
        by : (c u s i n : Bool) → ((c && u) && (s && (i && n))) ≡ ((u && s) && ((c && i) && n))
        by true true true true n = refl
        by true true true false n = refl
        by true true false i n = refl
        by true false s i n = refl
        by false true true i n = refl
        by false true false i n = refl
        by false false s i n = refl

    pub all-came : arrivals_of t c vl side frames ≡ own vl side (no_longer (came_until c.until frames))
    all-came =
        let sent = λ (x : Frame). is_of_came x.role && is_until c.until x in
        ap (λ (l : List Frame). map arrival_in (filter (is_arrival_of vl side) l)) all-counted
        ∙ ap (map arrival_in)
        (filter-both (is_arrival_of vl side) (λ x. is_until c.until x && is_no_longer x) frames
        ∙ sym (filter-each (λ x. sent x && (is_no_longer x && is_its x.arrival))
        (λ x. (is_until c.until x && is_no_longer x) && is_arrival_of vl side x) frames came-same)
        ∙ sym (filter-both (λ x. is_no_longer x && is_its x.arrival) sent frames))
        ∙ sym (filter_map (λ x. short x && is_its x) arrival_in (filter sent frames))
        ∙ sym (filter-both is_its short (map arrival_in (filter sent frames)))

    left-same : (port : ℕ) (x : Frame)
        → ((is_until c.until x && is_no_longer x) && (left_at side port x && names vl x.arrival.bytes))
        ≡ ((not (is_of_came x.role) && is_until c.until x && is_no_longer x)
        && (is_side x.arrival.side side && nat_eq x.arrival.port port && names vl x.arrival.bytes))
    unfolding left_at
    left-same port x = by (is_of_came x.role) (is_until c.until x) (is_no_longer x) (is_side x.arrival.side side)
        (nat_eq x.arrival.port port) (names vl x.arrival.bytes)
      where
        by : (c u s i p n : Bool) → ((u && s) && ((not c && i && p) && n)) ≡ ((not c && u && s) && (i && p && n))
        by true true true i p n = refl
        by true true false i p n = refl
        by true false s i p n = refl
        by false true true i p n = refl
        by false true false i p n = refl
        by false false s i p n = refl

    pub all-left : (port : ℕ)
        → frames_of t c vl side port frames ≡ left_of vl side port (left_until c.until frames)
    all-left port =
        let sent = λ (x : Frame). not (is_of_came x.role) && is_until c.until x && is_no_longer x in
        let here = λ (x : Arrival). is_side x.side side && nat_eq x.port port && names vl x.bytes in
        ap (λ (l : List Frame). map (λ x. gone_of x.arrival)
        (filter (λ x. left_at side port x && names vl x.arrival.bytes) l)) all-counted
        ∙ ap (map (λ x. gone_of x.arrival))
        (filter-both (λ x. left_at side port x && names vl x.arrival.bytes)
        (λ x. is_until c.until x && is_no_longer x) frames
        ∙ filter-each (λ x. (is_until c.until x && is_no_longer x)
        && (left_at side port x && names vl x.arrival.bytes)) (λ x. sent x && here x.arrival) frames (left-same port)
        ∙ sym (filter-both (λ x. here x.arrival) sent frames))
        ∙ sym (map-twice arrival_in gone_as (filter (λ x. here x.arrival) (filter sent frames)))
        ∙ ap (map gone_as) (sym (filter_map here arrival_in (filter sent frames)))

pub none_out_judged : NoneLeftOutIsJudged
none_out_judged t c frames start none = record {
  came = all-came t c frames start none;
  left = all-left t c frames start none;
}

pub none_out_sent : NoneLeftOutIsSent
none_out_sent t a frames start none = all-sent t a frames start none

-- ---- they go by time

abbrev times : List Frame → List ℕ
times frames = map (λ x. x.arrival.time) frames

pub up-latest : (p : Frame → Bool) (top : ℕ) (frames : List Frame) → AreByTime frames → latest_of frames ≤ top
    → AreUpTo top (times (filter p frames))
unfolding AreByTime
up-latest p top [] order le = tt
up-latest p top (x ∷ past) order le = by (p x) (up-latest p x.arrival.time past order.1 order.0)
    (up-latest p top past order.1 (let before = order.0 in omega (arith, before, le)))
  where
    by : (b : Bool) → AreUpTo x.arrival.time (times (filter p past)) → AreUpTo top (times (filter p past))
        → AreUpTo top (times (if b then x ∷ filter p past else filter p past))
    by true here more = (le, here)
    by false here more = more

up-end : (p : Frame → Bool) (end : ℕ) (frames : List Frame) → AreByTime frames
    → ((x : Frame) → p x ≡ true → x.arrival.time ≤ end) → AreUpTo end (times (filter p frames))
unfolding AreByTime
up-end p end [] order within = tt
up-end p end (x ∷ past) order within = by (p x) refl (up-latest p x.arrival.time past order.1 order.0)
    (up-end p end past order.1 within)
  where
    by : (b : Bool) → p x ≡ b → AreUpTo x.arrival.time (times (filter p past)) → AreUpTo end (times (filter p past))
        → AreUpTo end (times (if b then x ∷ filter p past else filter p past))
    by true is here more = (within x is, here)
    by false is here more = more

-- as far as the end that is said
until-end : (said : Option ℕ) (end time : ℕ) → said ≡ Some end → not (is_behind time said) ≡ true → time ≤ end
until-end None end time is h = absurd (cc is)
until-end (Some last) end time is h =
    let same : last ≡ end = cc is in
    by (nat_lt last time) refl h same
  where
    by : (b : Bool) → nat_lt last time ≡ b → not b ≡ true → last ≡ end → time ≤ end
    by false e k same = let le = ltb-false last time e in omega (arith, le, same)
    by true e k same = absurd (cc k)

counts-end : (a : Asked) (x : Frame) → counts a x ≡ true → not (is_behind x.arrival.time a.run.until) ≡ true
unfolding counts
counts-end a x h = by (is_of_came x.role) (is_before a.run x.role x.arrival.time)
    (is_behind x.arrival.time a.run.until) (is_left_out a.run x) h
  where
    by : (c b e o : Bool) → ((c && (not b && not e)) && not o) ≡ true → not e ≡ true
    by c b false o k = refl
    by true true true o k = absurd (cc k)
    by true false true o k = absurd (cc k)
    by false b true o k = absurd (cc k)

module _ (a : Asked) where
  abbrev is_taken : Frame → Bool
  is_taken x = counts a x && is_no_longer x

  taken-end : (end : ℕ) → a.run.until ≡ Some end → (x : Frame) → is_taken x ≡ true → x.arrival.time ≤ end
  taken-end end is x h = until-end a.run.until end x.arrival.time is
      (counts-end a x (and_parts (counts a x) (is_no_longer x) h).0)

  taken-up : (said : Option ℕ) → a.run.until ≡ said → (frames : List Frame) → AreByTime frames
      → AreUpTo (until_or said frames) (times (filter is_taken frames))
  taken-up None is frames order = up-latest is_taken (latest_of frames) frames order (omega arith)
  taken-up (Some end) is frames order = up-end is_taken end frames order (taken-end end is)

  pub came-up : (frames : List Frame) → AreByTime frames
      → AreUpTo (until_or a.run.until frames) (map (λ x. x.time) (no_longer (came_in a frames)))
  came-up frames order =
      subst (λ (l : List ℕ). AreUpTo (until_or a.run.until frames) l)
      (sym (map-twice arrival_in (λ (x : Arrival). x.time) (filter is_taken frames))
      ∙ ap (λ (l : List Frame). map (λ (x : Arrival). x.time) (map arrival_in l))
      (sym (filter-both is_no_longer (counts a) frames))
      ∙ ap (map (λ (x : Arrival). x.time)) (sym (filter_map short arrival_in (filter (counts a) frames))))
      (taken-up a.run.until refl frames order)
