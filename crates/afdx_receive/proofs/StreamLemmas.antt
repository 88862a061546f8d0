use Rattle.std.proofs.Common.{◌≡◌, ℕ, zero, suc, ◌+◌, ◌-◌, ◌<◌, ◌≤◌, ◌⊎◌, inl, inr, Bool, true}
use Rattle.std.proofs.Common.{false, cond, ◌&&◌, Option, Some, None, List, [], ◌∷◌, ◌++◌}
use Rattle.std.proofs.Common.{length, take, map, reverse, eqb, leb, refl, sym, ◌∙◌, ap, arith, zero-add}
use Rattle.std.specs.Prelude.{MatchOption, max, nat_lt, filter, slice_get, IfSome}
use Rattle.std.specs.Option.{option_map_or}
use Rattle.std.proofs.lemmas.Bool.{cond-true, cond-false, cases_lt, or_right, or_from, le-leb}
use Rattle.std.proofs.lemmas.Bool.{lt-leb, leb-true, leb-false, le-ltb, false_from_ne_true}
use Rattle.afdx_frame.specs.declared.link.Side.{Side}
use Rattle.afdx_frame.specs.declared.link.Side.TheVariants.{A, B}
use Rattle.afdx_frame.specs.Sides.{is_side}
use Rattle.afdx_frame.proofs.SideLemmas.{is_side-same}
use Rattle.afdx_frame.proofs.ListLemmas.{take-one_more}
use Rattle.afdx_config.specs.Numbers.{next_number, after_steps}
use Rattle.afdx_config.proofs.NumberLemmas.{steps_low}
use Rattle.afdx_receive.specs.Steps.{is_within_steps}
use Rattle.afdx_receive.specs.Integrity.{Incoming, previous, may_follow, is_valid}
use Rattle.afdx_receive.specs.Redundancy.{newest, is_newer, wins, winners}
use Rattle.afdx_receive.specs.Standing.{standing}
use Rattle.afdx_receive.specs.declared.memory.Standing.TheVariants.{Winner, OutOfSequence, Redundant}
use Rattle.afdx_receive.specs.TwoStreams.{other_side, count_of, is_first_copy, first_copies, AreTwoStreams, CarrySent}
use Rattle.afdx_receive.proofs.StepsLemmas.{Where, where_steps, within_some, some_within}
use mathlib.Core.List.{reverse-cons}

-- ---- numbers

steps_add : (m n from : ℕ) → after_steps (m + n) from ≡ after_steps m (after_steps n from)
unfolding after_steps
steps_add zero n from = ap (λ k. after_steps k from) (zero-add n)
steps_add (suc m) n from = ap (λ k. after_steps k from) (more m n) ∙ ap next_number (steps_add m n from)
  where
    more : (m n : ℕ) → suc m + n ≡ suc (m + n)
    more m n = omega arith

-- 1 to 254 steps don't lead back
no_return : (d from : ℕ) → from ≤ 255 → 1 ≤ d → d ≤ 254 → after_steps d from ≡ from → ⊥
no_return d from low some few back = by (where_steps d from low (omega arith)) (cases_lt 255 (from + d))
  where
    by : Where d from → (255 < from + d) ⊎ (from + d ≤ 255) → ⊥
    by at (inl far) = let e : after_steps d from + 255 ≡ from + d = at.around far in omega arith
    by at (inr near) = let e : after_steps d from ≡ from + d = at.on near in omega arith

-- a number of at most 127 places before isn't 1 to 127 steps after
pub not_behind : (place late : ℕ) → late ≤ place → place ≤ late + 127
    → is_within_steps 127 (after_steps place 0) (after_steps late 0) ≡ false
not_behind place late before near =
    false_from_ne_true (is_within_steps 127 (after_steps place 0) (after_steps late 0)) leads
  where
    leads : is_within_steps 127 (after_steps place 0) (after_steps late 0) ≡ true → ⊥
    leads h =
        let some = within_some 127 (after_steps place 0) (after_steps late 0) h in
        let d : ℕ = some.0 + place - late in
        let sum : some.0 + place ≡ d + late = omega (arith, some.1) in
        no_return d (after_steps late 0) (steps_low late 0 (omega arith)) (omega (arith, some.1))
        (omega (arith, some.2))
        (sym (steps_add d late 0) ∙ ap (λ k. after_steps k 0) (sym sum) ∙ steps_add some.0 place 0 ∙ some.3)

-- the number of the next place is one step after
pub next_place : (most place : ℕ) → 1 ≤ most
    → is_within_steps most (after_steps place 0) (after_steps (suc place) 0) ≡ true
next_place most place some =
    some_within most (after_steps place 0) (after_steps (suc place) 0) 1 (omega arith) some
    (sym (steps_add 1 place 0) ∙ ap (λ k. after_steps k 0) (one place))
  where
    one : (n : ℕ) → 1 + n ≡ suc n
    one n = omega arith

-- ---- counts

pub same_self : (side : Side) → is_side side side ≡ true
same_self A = refl
same_self B = refl

other_not : (side : Side) → is_side side (other_side side) ≡ false
other_not A = refl
other_not B = refl

count_own : (frame : Incoming) (before : List Incoming) → count_of frame.side (frame ∷ before)
    ≡ suc (count_of frame.side before)
count_own frame before =
    ap length (cond-true (is_side frame.side frame.side)
    (frame ∷ filter (λ (f : Incoming). is_side f.side frame.side) before)
    (filter (λ (f : Incoming). is_side f.side frame.side) before) (same_self frame.side))

count_other : (frame : Incoming) (before : List Incoming)
    → count_of (other_side frame.side) (frame ∷ before) ≡ count_of (other_side frame.side) before
count_other frame before =
    ap length (cond-false (is_side frame.side (other_side frame.side))
    (frame ∷ filter (λ (f : Incoming). is_side f.side (other_side frame.side)) before)
    (filter (λ (f : Incoming). is_side f.side (other_side frame.side)) before) (other_not frame.side))

-- the greater count, seen from either side
abbrev pub most_of : Side → List Incoming → ℕ
most_of side came = max (count_of side came) (count_of (other_side side) came)

pub most_any : (side : Side) (came : List Incoming) → most_of side came ≡ max (count_of A came) (count_of B came)
most_any A came = refl
most_any B came = swap (count_of B came) (count_of A came)
  where
    swap : (a b : ℕ) → max a b ≡ max b a
    swap a b = omega arith

-- over numbers
max_first : (own other : ℕ) → other ≤ own → max (suc own) other ≡ suc (max own other)
max_first own other h = omega arith

max_late : (own other : ℕ) → own < other → max (suc own) other ≡ max own other
max_late own other h = omega arith

most_step : (frame : Incoming) (before : List Incoming) →
    most_of frame.side (frame ∷ before)
    ≡ max (suc (count_of frame.side before)) (count_of (other_side frame.side) before)
most_step frame before =
    ap (λ n. max n (count_of (other_side frame.side) (frame ∷ before))) (count_own frame before)
    ∙ ap (λ n. max (suc (count_of frame.side before)) n)
    (count_other frame before)

pub counted : (came : List Incoming) → length (first_copies came) ≡ max (count_of A came) (count_of B came)
counted [] = refl
counted (frame ∷ before) = at (is_first_copy before frame) refl (counted before ∙ sym (most_any frame.side before))
  where
    at : (b : Bool) → is_first_copy before frame ≡ b → length (first_copies before) ≡ most_of frame.side before →
        length (first_copies (frame ∷ before)) ≡ max (count_of A (frame ∷ before)) (count_of B (frame ∷ before))
    at true e so_far =
        ap (λ b. length (cond b (frame ∷ first_copies before) (first_copies before))) e ∙ ap suc so_far
        ∙ sym (max_first (count_of frame.side before) (count_of (other_side frame.side) before)
        (leb-true (count_of (other_side frame.side) before) (count_of frame.side before) e))
        ∙ sym (most_step frame before) ∙ most_any frame.side (frame ∷ before)
    at false e so_far =
        ap (λ b. length (cond b (frame ∷ first_copies before) (first_copies before))) e ∙ so_far
        ∙ sym (max_late (count_of frame.side before) (count_of (other_side frame.side) before)
        (leb-false (count_of (other_side frame.side) before) (count_of frame.side before) e))
        ∙ sym (most_step frame before) ∙ most_any frame.side (frame ∷ before)

-- ---- the last ones

-- of n frames in order the last one has the number of its place
abbrev LastOf : Option Incoming → ℕ → Type 0
LastOf last n = MatchOption last (n ≡ 0) (λ frame. (k : ℕ) × (n ≡ suc k) × (frame.number ≡ after_steps k 0))

last_at : (o p : Option Incoming) (m n : ℕ) → o ≡ p → m ≡ n → LastOf p n → LastOf o m
last_at o p m n e f h = rw (e, f) h

last_number : (skew : ℕ) (came : List Incoming) → AreTwoStreams skew came → (side : Side)
    → LastOf (previous side came) (count_of side came)
last_number skew [] streams side = refl
last_number skew (frame ∷ before) streams side =
    at (is_side frame.side side) refl (last_number skew before streams.1 side)
  where
    ours : List Incoming
    ours = filter (λ (f : Incoming). is_side f.side side) before

    at : (b : Bool) → is_side frame.side side ≡ b → LastOf (previous side before) (count_of side before) →
        LastOf (previous side (frame ∷ before)) (count_of side (frame ∷ before))
    at true e so_far =
        last_at (previous side (frame ∷ before)) (Some frame) (count_of side (frame ∷ before))
        (suc (count_of side before))
        (cond-true (is_side frame.side side) (Some frame) (previous side before) e)
        (ap length (cond-true (is_side frame.side side) (frame ∷ ours) ours e)) (
          count_of side before,
          refl,
          streams.0.number
              ∙ ap (λ s. after_steps (count_of s before) 0) (is_side-same frame.side side e),
        )
    at false e so_far =
        last_at (previous side (frame ∷ before)) (previous side before)
        (count_of side (frame ∷ before)) (count_of side before)
        (cond-false (is_side frame.side side) (Some frame) (previous side before) e)
        (ap length (cond-false (is_side frame.side side) (frame ∷ ours) ours e))
        so_far

-- a first copy's place is how many first copies there were
pub own_place : (before : List Incoming) (frame : Incoming) → is_first_copy before frame ≡ true
    → count_of frame.side before ≡ length (first_copies before)
own_place before frame first =
    let all : length (first_copies before) ≡ most_of frame.side before = counted before
    ∙ sym (most_any frame.side before) in
    let ahead : count_of (other_side frame.side) before ≤ count_of frame.side before =
    leb-true (count_of (other_side frame.side) before)
    (count_of frame.side before) first in
    omega (arith, all, ahead)

newest_number : (skew : ℕ) (came : List Incoming) → AreTwoStreams skew came
    → LastOf (newest (first_copies came)) (length (first_copies came))
newest_number skew [] streams = refl
newest_number skew (frame ∷ before) streams = at (is_first_copy before frame) refl (newest_number skew before streams.1)
  where
    at : (b : Bool) → is_first_copy before frame ≡ b
        → LastOf (newest (first_copies before)) (length (first_copies before)) →
        LastOf (newest (first_copies (frame ∷ before))) (length (first_copies (frame ∷ before)))
    at true e so_far =
        let now : first_copies (frame ∷ before) ≡ frame ∷ first_copies before =
        cond-true (is_first_copy before frame) (frame ∷ first_copies before)
        (first_copies before) e in
        last_at (newest (first_copies (frame ∷ before))) (Some frame)
        (length (first_copies (frame ∷ before))) (suc (length (first_copies before)))
        (ap newest now) (ap length now)
        (length (first_copies before), refl, streams.0.number ∙ ap (λ k. after_steps k 0) (own_place before frame e))
    at false e so_far =
        let now : first_copies (frame ∷ before) ≡ first_copies before =
        cond-false (is_first_copy before frame) (frame ∷ first_copies before)
        (first_copies before) e in
        last_at (newest (first_copies (frame ∷ before))) (newest (first_copies before))
        (length (first_copies (frame ∷ before))) (length (first_copies before))
        (ap newest now) (ap length now) so_far

-- ---- each is valid, and the first copies win

valid_next : (o : Option Incoming) (n : ℕ) (frame : Incoming) → LastOf o n
    → frame.number ≡ after_steps n 0 → option_map_or (may_follow frame) o true ≡ true
valid_next None n frame last number = refl
valid_next (Some g) n frame last number =
    or_right (eqb frame.number 0) (is_within_steps 2 g.number frame.number)
    (rw (last.2, number, last.1) (next_place 2 last.0 (omega arith)))

wins_first : (skew : ℕ) (o : Option Incoming) (m own other : ℕ) (frame : Incoming) → LastOf o m
    → m ≡ max own other → frame.number ≡ after_steps own 0 →
    other ≤ own + 128 →
    (leb other own ≡ false → IfSome o (λ first. frame.time ≤ first.time + skew))
    → option_map_or (is_newer skew frame) o true ≡ leb other own
wins_first skew None m own other frame last most number near soon = sym (le-leb other own (omega (arith, last, most)))
wins_first skew (Some w) m own other frame last most number near soon = at (cases_lt own other)
  where
    at : (own < other) ⊎ (other ≤ own) → is_newer skew frame w ≡ leb other own
    at (inl late) =
        let behind : leb other own ≡ false = lt-leb other own late in
        let place : suc last.0 ≡ other = omega (arith, last.1, most) in
        or_from (nat_lt (w.time + skew) frame.time) (is_within_steps 127 w.number frame.number)
        (le-ltb (w.time + skew) frame.time (soon behind))
        (rw (last.2, number) (not_behind last.0 own (omega arith) (omega arith)))
        ∙ sym behind
    at (inr first) =
        let place : own ≡ suc last.0 = omega (arith, last.1, most) in
        or_right (nat_lt (w.time + skew) frame.time) (is_within_steps 127 w.number frame.number)
        (rw (last.2, number, place) (next_place 127 last.0 (omega arith)))
        ∙ sym (le-leb other own first)

next_is_valid : (skew : ℕ) (before : List Incoming) (frame : Incoming)
    → AreTwoStreams skew (frame ∷ before) → is_valid before frame ≡ true
next_is_valid skew before frame streams =
    valid_next (previous frame.side before) (count_of frame.side before) frame
    (last_number skew before streams.1 frame.side) streams.0.number

first_wins : (skew : ℕ) (before : List Incoming) (frame : Incoming) → AreTwoStreams skew (frame ∷ before) →
    wins skew (first_copies before) frame ≡ is_first_copy before frame
first_wins skew before frame streams =
    wins_first skew (newest (first_copies before)) (length (first_copies before))
    (count_of frame.side before) (count_of (other_side frame.side) before) frame
    (newest_number skew before streams.1) (counted before ∙ sym (most_any frame.side before))
    streams.0.number streams.0.near streams.0.soon

pub win : (skew : ℕ) (came : List Incoming) → AreTwoStreams skew came → winners skew came ≡ first_copies came
win skew [] streams = refl
win skew (frame ∷ before) streams =
    ap (λ ws. cond (is_valid before frame && wins skew ws frame) (frame ∷ ws) ws) (win skew before streams.1)
    ∙ ap (λ b. cond (b && wins skew (first_copies before) frame) (frame ∷ first_copies before)
    (first_copies before)) (next_is_valid skew before frame streams)
    ∙ ap (λ b. cond b (frame ∷ first_copies before) (first_copies before)) (first_wins skew before frame streams)

-- how the next frame stands, and where
pub stand : (skew : ℕ) (before : List Incoming) (frame : Incoming) → AreTwoStreams skew (frame ∷ before) →
    (standing skew before frame ≡ cond (is_first_copy before frame) Winner Redundant)
    × (is_first_copy before frame ≡ true → count_of frame.side before ≡ length (winners skew before))
stand skew before frame streams = (
  ap (λ b. cond b (cond (wins skew (winners skew before) frame) Winner Redundant) OutOfSequence)
      (next_is_valid skew before frame streams)
      ∙ ap (λ ws. cond (wins skew ws frame) Winner Redundant) (win skew before streams.1)
      ∙ ap (λ b. cond b Winner Redundant) (first_wins skew before frame streams),
  λ first. own_place before frame first ∙ ap length (sym (win skew before streams.1)),
)

-- ---- what they carry

plus_one : (n : ℕ) → n + 1 ≡ suc n
plus_one n = omega arith

carried_first : (carried : Incoming → List ℕ) (sent : List (List ℕ)) (came : List Incoming)
    → CarrySent carried sent came →
    reverse (map carried (first_copies came)) ≡ take (length (first_copies came)) sent
carried_first carried sent [] all = refl
carried_first carried sent (frame ∷ before) all =
    at (is_first_copy before frame) refl (carried_first carried sent before all.1)
  where
    at : (b : Bool) → is_first_copy before frame ≡ b → reverse (map carried (first_copies before))
        ≡ take (length (first_copies before)) sent →
        reverse (map carried (first_copies (frame ∷ before))) ≡ take (length (first_copies (frame ∷ before))) sent
    at true e so_far =
        let now : first_copies (frame ∷ before) ≡ frame ∷ first_copies before =
        cond-true (is_first_copy before frame) (frame ∷ first_copies before)
        (first_copies before) e in
        let here : slice_get sent (length (first_copies before)) ≡ Some (carried frame) =
        ap (slice_get sent) (sym (own_place before frame e)) ∙ all.0 in
        ap (λ fs. reverse (map carried fs)) now ∙ reverse-cons (carried frame) (map carried (first_copies before))
        ∙ ap (λ xs. xs ++ carried frame ∷ []) so_far
        ∙ sym (take-one_more sent (length (first_copies before)) (carried frame) here)
        ∙ ap (λ n. take n sent) (plus_one (length (first_copies before)) ∙ sym (ap length now))
    at false e so_far =
        let now : first_copies (frame ∷ before) ≡ first_copies before =
        cond-false (is_first_copy before frame) (frame ∷ first_copies before)
        (first_copies before) e in
        ap (λ fs. reverse (map carried fs)) now ∙ so_far ∙ ap (λ n. take n sent) (sym (ap length now))

pub won_once : (skew : ℕ) (carried : Incoming → List ℕ) (sent : List (List ℕ))
    (came : List Incoming) → AreTwoStreams skew came → CarrySent carried sent came →
    reverse (map carried (winners skew came)) ≡ take (max (count_of A came) (count_of B came)) sent
won_once skew carried sent came streams all =
    ap (λ fs. reverse (map carried fs)) (win skew came streams)
    ∙ carried_first carried sent came all ∙ ap (λ n. take n sent) (counted came)
