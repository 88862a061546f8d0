-- Arrivals in order, the latest first: their ranks fall, so the one that comes first is the last of them.
use Rattle.std.proofs.Common.{◌≡◌, ◌+◌, ◌*◌, ◌<◌, ◌≤◌, ℕ, suc, zero, List, [], ◌∷◌, ◌++◌, length, get_or, take, drop}
use Rattle.std.proofs.Common.{refl, ap, sym, ◌∙◌, subst, arith, ◌⊎◌, inl, inr, Bool, true, false, if◌then◌else◌}
use Rattle.std.proofs.lemmas.Bool.{ltb-false, ltb-true}
use Rattle.std.proofs.lemmas.List.{append_assoc, drop_at, get_or_append_left, length_push, nil_from_length}
use Rattle.std.proofs.lemmas.List.{take-append-drop, take_at}
use Rattle.std.proofs.lemmas.List.Elements.{All-cons, All-head, All-nil, All-tail, All-take, All-weaker}
use Rattle.std.proofs.lemmas.List.Elements.{All-contains, Contains-append_left, Contains-get_or, Contains-push}
use Rattle.std.proofs.lemmas.List.Elements.{Contains-push_cases}
use Rattle.std.proofs.lemmas.List.Sorted.{All-permutation, Contains-permutation, IsPermutation-cons}
use Rattle.std.proofs.lemmas.List.Sorted.{IsPermutation-middle, IsPermutation-refl, IsPermutation-remove}
use Rattle.std.proofs.lemmas.List.Sorted.{IsPermutation-sym, IsPermutation-trans, length_permutation}
use Rattle.std.specs.List.{All, Contains, remove}
use Rattle.std.specs.List.Sorted.{IsPermutation}
use Rattle.afdx_input_files.specs.Recordings.{most_numbers}
use Rattle.afdx_input_sources.specs.Engine.{Item}
use Rattle.afdx_input_sources.specs.declared.number.AsRead.{AsRead}
use Rattle.afdx_input_sources.specs.declared.number.Number.{Number}
use Rattle.afdx_input_sources.specs.Holding.{ComesFirst, rank}
use Rattle.afdx_input_sources.specs.OrderedSource.{AreNumbered}
use Rattle.afdx_input_sources.specs.Ordering.{in_order, is_later, moment_of, put_among}
use Rattle.afdx_input_sources.specs.Sequences.{is_arrival, number_read, numbers_read}

-- each comes behind all that stand after it
abbrev pub IsFalling : List (Item Number) → Type 0
IsFalling [] = Unit {0}
IsFalling (x ∷ xs) = All (λ y. rank y < rank x) xs × IsFalling xs

pub falling-take : (k : ℕ) (xs : List (Item Number)) → IsFalling xs → IsFalling (take k xs)
falling-take zero xs h = tt
falling-take (suc k) [] h = tt
falling-take (suc k) (x ∷ xs) h =
    (All-take (λ y. rank y < rank x) k xs h.0, falling-take k xs h.1)

-- ---- one is put among those that stand in order

module _ (P : Item Number → Type 0) (x : Item Number) (here : P x) where
  -- what holds of it and of them holds of all
  put-all : (xs : List (Item Number)) → All P xs → All P (put_among x xs)
  unfolding put_among
  put-all [] h = All-cons P x [] here h
  put-all (y ∷ past) h =
      by (is_later y x) (put-all past (All-tail P y past h))
    where
      by : (t : Bool) → All P (put_among x past)
          → All P (if t then y ∷ put_among x past else x ∷ y ∷ past)
      by true rest = All-cons P y (put_among x past) (All-head P y past h) rest
      by false rest = All-cons P x (y ∷ past) here h

-- it comes before those whose moment is later, and behind the others, whose numbers are less
comes-before : (x y : Item Number) → x.number < 18446744073709551616 → moment_of x < moment_of y → rank x < rank y
comes-before x y few h = by (moment_of x) (moment_of y) x.number y.number few h
  where
    by : (m n i j : ℕ) → i < 18446744073709551616 → m < n
        → m * 18446744073709551616 + i < n * 18446744073709551616 + j
    by m n i j few h = omega arith

comes-behind : (x y : Item Number) → y.number < x.number → moment_of y ≤ moment_of x → rank y < rank x
comes-behind x y less h = by (moment_of x) (moment_of y) x.number y.number less h
  where
    by : (m n i j : ℕ) → j < i → n ≤ m → n * 18446744073709551616 + j < m * 18446744073709551616 + i
    by m n i j less h = omega arith

put-falls : (x : Item Number) (xs : List (Item Number)) → x.number < 18446744073709551616
    → All (λ y. y.number < x.number) xs → IsFalling xs → IsFalling (put_among x xs)
unfolding put_among
put-falls x [] few less h = (All-nil (λ y. rank y < rank x), tt)
put-falls x (y ∷ past) few less h =
    by (is_later y x) refl
    (put-falls x past few (All-tail (λ z. z.number < x.number) y past less) h.1)
  where
    by : (t : Bool) → is_later y x ≡ t → IsFalling (put_among x past)
        → IsFalling (if t then y ∷ put_among x past else x ∷ y ∷ past)
    by true e rest = (
      put-all (λ z. rank z < rank y) x (comes-before x y few (ltb-true (moment_of x) (moment_of y) e)) past h.0,
      rest,
    )
    by false e rest =
        let below : rank y < rank x =
        comes-behind x y (All-head (λ z. z.number < x.number) y past less)
        (ltb-false (moment_of x) (moment_of y) e) in (
          All-cons (λ z. rank z < rank x) y past below
              (All-weaker (λ z. rank z < rank y) (λ z. rank z < rank x) (λ z k. omega (arith, k, below)) past h.0),
          h,
        )

-- ---- those of a recording

-- none has a number that comes later
low : (read : List (Item AsRead)) → AreNumbered read
    → All (λ y. y.number ≤ length read) (in_order (numbers_read read))
unfolding in_order
low [] h = All-nil (λ y. y.number ≤ 0)
low (x ∷ read) h =
    let rest = All-weaker (λ y. y.number ≤ length read) (λ y. y.number ≤ suc (length read)) (λ y k. omega (arith, k))
    (in_order (numbers_read read)) (low read h.1) in
    by (is_arrival x.head.becomes) rest
    (put-all (λ y. y.number ≤ suc (length read)) (number_read x) (omega (arith, h.0)) (in_order (numbers_read read))
    rest)
  where
    by : (t : Bool) → All (λ y. y.number ≤ suc (length read)) (in_order (numbers_read read))
        → All (λ y. y.number ≤ suc (length read)) (put_among (number_read x) (in_order (numbers_read read)))
        → All (λ y. y.number ≤ suc (length read))
        (if t then put_among (number_read x) (in_order (numbers_read read)) else in_order (numbers_read read))
    by true rest more = more
    by false rest more = rest

pub order-falls : (read : List (Item AsRead)) → length read ≤ most_numbers → AreNumbered read
    → IsFalling (in_order (numbers_read read))
unfolding in_order
order-falls [] few h = tt
order-falls (x ∷ read) few h =
    let rest : IsFalling (in_order (numbers_read read)) = order-falls read (omega (arith, few)) h.1 in
    by (is_arrival x.head.becomes) rest
    (put-falls (number_read x) (in_order (numbers_read read)) (omega (arith, few, h.0))
    (All-weaker (λ y. y.number ≤ length read) (λ y. y.number < x.number) (λ y k. omega (arith, k, h.0))
    (in_order (numbers_read read)) (low read h.1)) rest)
  where
    by : (t : Bool) → IsFalling (in_order (numbers_read read))
        → IsFalling (put_among (number_read x) (in_order (numbers_read read)))
        → IsFalling (if t then put_among (number_read x) (in_order (numbers_read read))
        else in_order (numbers_read read))
    by true rest more = more
    by false rest more = rest

-- ---- those that are held, in any order

-- it is put among them
put-one : (x : Item Number) (xs : List (Item Number)) → IsPermutation (x ∷ xs) (put_among x xs)
unfolding put_among
put-one x [] = IsPermutation-refl (x ∷ [])
put-one x (y ∷ past) = by (is_later y x) (put-one x past)
  where
    by : (t : Bool) → IsPermutation (x ∷ past) (put_among x past)
        → IsPermutation (x ∷ y ∷ past) (if t then y ∷ put_among x past else x ∷ y ∷ past)
    by true rest =
        IsPermutation-trans (x ∷ y ∷ past) (y ∷ x ∷ past) (y ∷ put_among x past)
        (IsPermutation-middle (x ∷ []) y past) (IsPermutation-cons y (x ∷ past) (put_among x past) rest)
    by false rest = IsPermutation-refl (x ∷ y ∷ past)

pub put-permutes : (x : Item Number) (bag xs : List (Item Number)) → IsPermutation bag xs
    → IsPermutation (x ∷ bag) (put_among x xs)
put-permutes x bag xs h =
    IsPermutation-trans (x ∷ bag) (x ∷ xs) (put_among x xs) (IsPermutation-cons x bag xs h) (put-one x xs)

pub permutes-length : {X : Type 0} (xs ys : List X) → IsPermutation xs ys → length xs ≡ length ys
permutes-length xs ys h = sym (length_permutation xs ys h)

pub permutes-none : {X : Type 0} (xs : List X) → IsPermutation [] xs → xs ≡ []
permutes-none xs h = nil_from_length xs (length_permutation [] xs h)

-- ---- the one that comes first

contains-rest : (x w : Item Number) (xs : List (Item Number)) → (x ≡ w → ⊥) → Contains (x ∷ xs) w → Contains xs w
contains-rest x w xs other (zero, h, e) = absurd (other e)
contains-rest x w xs other (suc k, h, e) = (k, omega (arith, h), e)

-- ranks that fall are all different, so where there are as many, they are all
included : (xs bag : List (Item Number)) → IsFalling xs → length xs ≡ length bag → All (Contains bag) xs
    → IsPermutation bag xs
included [] bag h e all = rw (nil_from_length bag (sym e)) (IsPermutation-refl [])
included (x ∷ xs) bag h e all =
    let at : Contains bag x = All-head (Contains bag) x xs all in
    let rest : List (Item Number) = remove bag at.0 in
    let taken : IsPermutation bag (x ∷ rest) = IsPermutation-remove bag at.0 x at.1 (sym at.2) in
    let len : length xs ≡ length rest = omega (arith, length_permutation bag (x ∷ rest) taken, e) in
    let others : All (Contains rest) xs =
    λ i d k. contains-rest x (get_or xs i d) rest (λ (same : x ≡ get_or xs i d).
    absurd (omega (arith, h.0 i d k, ap (λ (y : Item Number). rank y) same)))
    (Contains-permutation bag (x ∷ rest) (get_or xs i d) taken
    (All-tail (Contains bag) x xs all i d k)) in
    IsPermutation-trans bag (x ∷ rest) (x ∷ xs) taken
    (IsPermutation-cons x rest xs (included xs rest h.1 len others))

-- the last of a list
record Last (xs : List (Item Number)) : Type 0 where
  front : List (Item Number)
  last : Item Number
  is : xs ≡ front ++ last ∷ []

last-of : (x : Item Number) (xs : List (Item Number)) → Last (x ∷ xs)
last-of x [] = record { front = []; last = x; is = refl }
last-of x (y ∷ xs) =
    let rest = last-of y xs in
    record { front = x ∷ rest.front; last = rest.last; is = ap (λ (zs : List (Item Number)). x ∷ zs) rest.is }

-- it comes before all others
last-lowest : (front : List (Item Number)) (z : Item Number) → IsFalling (front ++ z ∷ [])
    → All (λ w. rank z < rank w) front × IsFalling front
last-lowest [] z h = (All-nil (λ w. rank z < rank w), tt)
last-lowest (x ∷ front) z h =
    let rest = last-lowest front z h.1 in
    let below : rank z < rank x =
    All-contains (λ w. rank w < rank x) (front ++ z ∷ []) z h.0 (Contains-push front z) in
    let behind : All (λ w. rank w < rank x) front =
    λ i d k. subst (λ (w : Item Number). rank w < rank x) (get_or_append_left front (z ∷ []) d i k)
    (h.0 i d (omega (arith, k, length_push front z))) in
    (All-cons (λ w. rank z < rank w) x front below rest.0, (behind, rest.1))

by-last : (front rest : List (Item Number)) (z y : Item Number) → IsFalling (front ++ z ∷ [])
    → IsPermutation (y ∷ rest) (front ++ z ∷ []) → ComesFirst y rest → (z ≡ y) × IsPermutation rest front
by-last front rest z y falls moved first =
    let low = last-lowest front z falls in
    let above : All (λ w. rank y ≤ rank w) (front ++ z ∷ []) =
    All-permutation (λ w. rank y ≤ rank w) (y ∷ rest) (front ++ z ∷ []) moved
    (All-cons (λ w. rank y ≤ rank w) y rest (omega arith) first) in
    let le : rank y ≤ rank z =
    All-contains (λ w. rank y ≤ rank w) (front ++ z ∷ []) z above (Contains-push front z) in
    let same : z ≡ y =
    in-front low.0 le
    (Contains-push_cases front z y
    (Contains-permutation (y ∷ rest) (front ++ z ∷ []) y moved (zero, omega arith, refl))) in (
      same,
      included front rest low.1
          (omega (arith, length_permutation (y ∷ rest) (front ++ z ∷ []) moved, length_push front z))
          (λ i d k. contains-rest y (get_or front i d) rest
          (λ (e : y ≡ get_or front i d).
          absurd (omega (arith, low.0 i d k, ap (λ (w : Item Number). rank w) (same ∙ e))))
          (Contains-permutation (front ++ z ∷ []) (y ∷ rest) (get_or front i d)
          (IsPermutation-sym (y ∷ rest) (front ++ z ∷ []) moved)
          (Contains-append_left front (z ∷ []) (get_or front i d) (Contains-get_or front i d k)))),
    )
  where
    in-front : All (λ w. rank z < rank w) front → rank y ≤ rank z → Contains front y ⊎ (z ≡ y) → z ≡ y
    in-front behind le (inl at) =
        absurd (omega (arith, le, All-contains (λ w. rank z < rank w) front y behind at))
    in-front behind le (inr e) = e

pub first-is-last : (xs bag : List (Item Number)) (y : Item Number) (rest : List (Item Number)) → IsFalling xs
    → IsPermutation bag xs → IsPermutation bag (y ∷ rest) → ComesFirst y rest
    → (front : List (Item Number)) × (xs ≡ front ++ y ∷ []) × IsPermutation rest front
first-is-last [] bag y rest falls held taken first =
    absurd (omega (arith, length_permutation bag [] held, length_permutation bag (y ∷ rest) taken))
first-is-last (x ∷ xs) bag y rest falls held taken first =
    let end = last-of x xs in
    let found : (end.last ≡ y) × IsPermutation rest end.front =
    by-last end.front rest end.last y (subst (λ (zs : List (Item Number)). IsFalling zs) end.is falls)
    (subst (λ (zs : List (Item Number)). IsPermutation (y ∷ rest) zs) end.is
    (IsPermutation-trans (y ∷ rest) bag (x ∷ xs) (IsPermutation-sym bag (y ∷ rest) taken) held)) first in
    (end.front, end.is ∙ ap (λ (z : Item Number). end.front ++ z ∷ []) found.0, found.1)

-- and what is left of a list whose first ones are held
pub left-handed : {X : Type 0} (k : ℕ) (t front : List X) (y : X) → take k t ≡ front ++ y ∷ []
    → (front ≡ take (length front) t) × (y ∷ drop k t ≡ drop (length front) t)
left-handed {X} k t front y e =
    let whole : t ≡ front ++ (y ∷ drop k t) =
    sym (take-append-drop k t) ∙ ap (λ (zs : List X). zs ++ drop k t) e ∙ append_assoc front (y ∷ []) (drop k t) in (
      sym (ap (λ (zs : List X). take (length front) zs) whole ∙ take_at front (y ∷ drop k t) (length front) refl),
      sym (ap (λ (zs : List X). drop (length front) zs) whole ∙ drop_at front (y ∷ drop k t) (length front) refl),
    )
