-- How many frames wait.
use Rattle.std.proofs.Common.{◌≡◌, ℕ, ◌+◌, ◌≤◌, Bool, true, false, List, [], ◌∷◌, ◌++◌, refl, ap, ◌∙◌}
use Rattle.std.proofs.Common.{arith, length}
use Rattle.std.specs.Prelude.{zero, suc, not, filter, if◌then◌else◌, nat_le}
use Rattle.std.specs.List.{list_any}
use Rattle.std.proofs.lemmas.Bool.{le-leb}
use Rattle.std.proofs.lemmas.List.{length-map}
use Rattle.std.proofs.lemmas.List.Filters.{length-filter_both}
use Rattle.afdx_frame.specs.Sides.{is_side}
use Rattle.afdx_frame.specs.declared.link.Side.{Side}
use Rattle.afdx_frame.specs.declared.link.Side.TheVariants.{A, B}
use Rattle.afdx_lawful.specs.Courses.{AllTold, AreOpen, Course, over, waited_on}
use Rattle.afdx_lawful.specs.Flaws.{is_whole, whole_of}
use Rattle.afdx_lawful.specs.Judged.{waiting_of}
use Rattle.afdx_lawful.specs.Partners.{Waiting, joined, may_pair, other, waits_now, waiting, without_first}
use Rattle.afdx_lawful.specs.Rings.{all_as, waiting_as}
use Rattle.afdx_lawful.specs.OneSide.{StandsOn}
use Rattle.afdx_lawful.specs.Senders.{recent_on}
use Rattle.afdx_lawful.specs.Sources.{Came, Source, hold, on_side}
use Rattle.afdx_lawful.specs.declared.one_side.OneSide.{OneSide}

module _ {X : Type 0} (p : X → Bool) where
  abbrev pub count : List X → ℕ
  count xs = length (filter p xs)

  count_first : (x : X) (xs : List X) → count (x ∷ xs) ≡ (if p x then 1 else 0) + count xs
  count_first x xs = by (p x)
    where
      by : (b : Bool) → length (if b then x ∷ filter p xs else filter p xs)
          ≡ (if b then 1 else 0) + length (filter p xs)
      by true = omega arith
      by false = omega arith

  count_less : (q : X → Bool) (xs : List X) → count (without_first q xs) ≤ count xs
  unfolding without_first
  count_less q [] = omega arith
  count_less q (x ∷ xs) = by (q x) (count_less q xs)
    where
      by : (b : Bool) → count (without_first q xs) ≤ count xs →
          count (if b then xs else x ∷ without_first q xs) ≤ count (x ∷ xs)
      by true rest = omega (arith, count_first x xs)
      by false rest = omega (arith, count_first x xs, count_first x (without_first q xs), rest)

  count_and : (xs : List X) (x : X) → count (xs ++ x ∷ []) ≡ count xs + (if p x then 1 else 0)
  count_and [] x = omega (arith, count_first x [])
  count_and (y ∷ xs) x = omega (arith, count_first y xs, count_first y (xs ++ x ∷ []), count_and xs x)

-- of those of a side that pass a test no more wait than came
module _ (s : Source) (p : Came → Bool) where
  abbrev q : Waiting → Bool
  q y = p y.frame

  pub few_wait : (side : Side) (ws : List Came) → count q (waiting s side ws) ≤ count p (on_side side ws)
  unfolding waiting
  few_wait side [] = omega arith
  few_wait side (x ∷ past) = by (is_side side x.side) (few_wait side past)
    where
      one : (b : Bool) → count q (waiting s side past) ≤ count p (on_side side past) →
          count q (if b then waiting s side past else waiting s side past ++ waits_now s past x ∷ [])
          ≤ count p (x ∷ on_side side past)
      one true h = omega (arith, count_first p x (on_side side past), h)
      one false h =
          omega (
            arith,
            count_and q (waiting s side past) (waits_now s past x),
            count_first p x (on_side side past),
            h,
          )

      by : (b : Bool) → count q (waiting s side past) ≤ count p (on_side side past) →
          count q (if b then joined s past x (waiting s side past) (waiting s (other side) past)
          else without_first (may_pair s x) (waiting s side past))
          ≤ count p (if b then x ∷ on_side side past else on_side side past)
      by true h = one (list_any (may_pair s x) (waiting s (other side) past)) h
      by false h = omega (arith, count_less q (may_pair s x) (waiting s side past), h)

  pub few_waiting : (side : Side) (xs : List Came) →
      count q (waiting_of s side xs) ≤ count p (on_side side (whole_of xs))
  few_waiting side xs = by s.is_paired (few_wait side (whole_of xs))
    where
      by : (b : Bool) → count q (waiting s side (whole_of xs)) ≤ count p (on_side side (whole_of xs)) →
          count q (if b then waiting s side (whole_of xs) else []) ≤ count p (on_side side (whole_of xs))
      by true h = h
      by false h = omega arith

-- ---- all of them

all_count : {X : Type 0} (xs : List X) → count (λ (x : X). true) xs ≡ length xs
all_count [] = refl
all_count (x ∷ xs) = omega (arith, all_count xs)

pub fewer : {X : Type 0} (p : X → Bool) (xs : List X) → length (filter p xs) ≤ length xs
fewer p [] = omega arith
fewer p (x ∷ xs) = by (p x) (fewer p xs)
  where
    by : (b : Bool) → length (filter p xs) ≤ length xs →
        length (if b then x ∷ filter p xs else filter p xs) ≤ length (x ∷ xs)
    by true h = omega (arith, h)
    by false h = omega (arith, h)

two_sides : (ws : List Came) → length (on_side A ws) + length (on_side B ws) ≡ length ws
two_sides ws =
    length-filter_both (λ (x : Came). is_side A x.side) (λ (x : Came). is_side B x.side) (λ x. apart x.side) ws
  where
    apart : (side : Side) → is_side B side ≡ not (is_side A side)
    apart A = refl
    apart B = refl

few_on : (s : Source) (side : Side) (xs : List Came) → length (waiting_of s side xs)
    ≤ length (on_side side (whole_of xs))
few_on s side xs =
    omega (
      arith,
      few_waiting s (λ x. true) side xs,
      all_count (waiting_of s side xs),
      all_count (on_side side (whole_of xs)),
    )

pub few_told : (s : Source) (c : Course) → AllTold s c →
    length (over c A) + length (over c B) ≤ length c.came
few_told s c told =
    let size : (side : Side) → length (waiting_of s side c.came) ≡ length (over c side) =
    λ side. ap length (told side) ∙ length-map (over c side) (λ u. u.waited) in
    omega (
      arith,
      size A,
      size B,
      few_on s A c.came,
      few_on s B c.came,
      two_sides (whole_of c.came),
      fewer is_whole c.came,
    )

-- ---- those that wait came within the hold

one : (b : Bool) → b ≡ true → (if b then 1 else 0) ≡ suc zero
one true h = refl
one false h = absurd (cc h)

all_pass : (s : Source) (time : ℕ) (ys : List Waiting) → AreOpen s time ys →
    count (λ (y : Waiting). nat_le time (y.frame.time + hold s)) ys ≡ length ys
all_pass s time [] h = refl
all_pass s time (y ∷ ys) h =
    let rest = all_pass s time ys h.1 in
    omega (
      arith,
      count_first (λ (y : Waiting). nat_le time (y.frame.time + hold s)) y ys,
      one (nat_le time (y.frame.time + hold s)) (le-leb time (y.frame.time + hold s) h.0),
      rest,
    )

count_behind : {X : Type 0} (p : X → Bool) (xs ys : List X) → count p ys ≤ count p (xs ++ ys)
count_behind p [] ys = omega arith
count_behind p (x ∷ xs) ys = omega (arith, count_first p x (xs ++ ys), count_behind p xs ys)

pub held_few : (s : Source) (c : Course) (time : ℕ) (side : Side) (one : OneSide) →
    StandsOn s side c.came (waited_on c side) one → AreOpen s time (all_as side one.waiting) →
    length one.waiting ≤ recent_on s c time side
held_few s c time side one h all =
    let few = few_waiting s (λ x. nat_le time (x.time + hold s)) side c.came in
    let size : length (all_as side one.waiting) ≡ length one.waiting =
    length-map one.waiting (waiting_as side) in
    let are : count (λ (y : Waiting). nat_le time (y.frame.time + hold s)) (waiting_of s side c.came)
    ≡ count (λ (y : Waiting). nat_le time (y.frame.time + hold s))
    (waited_on c side ++ all_as side one.waiting) =
    ap (count (λ (y : Waiting). nat_le time (y.frame.time + hold s))) h.waiting in
    omega (
      arith,
      few,
      size,
      are,
      all_pass s time (all_as side one.waiting) all,
      count_behind (λ (y : Waiting). nat_le time (y.frame.time + hold s)) (waited_on c side)
          (all_as side one.waiting),
    )
