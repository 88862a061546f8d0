-- Arrivals in order: where one more is put, how many are later, and what falls behind.
use Rattle.std.proofs.Common.{◌≡◌, ◌<◌, ◌≤◌, ◌+◌, ℕ, suc, zero, [], ◌∷◌, ◌++◌, length, take, drop}
use Rattle.std.proofs.Common.{refl, ap, sym, ◌∙◌}
use Rattle.std.proofs.Common.{Bool, true, false, nat_lt, min, arith}
use Rattle.std.proofs.Common.{take_all, take-append-drop, drop_at, length-take}
use Rattle.std.proofs.lemmas.Bool.{and_right, cond_both, le-ltb, lt-ltb, ltb-false, ltb-true}
use Rattle.std.proofs.lemmas.List.{drop_all, drop-append-le, take-append-le}
use Rattle.afdx_input_sources.specs.Engine.{Item}
use Rattle.afdx_input_sources.specs.declared.number.Number.{Number}
use Rattle.afdx_input_sources.specs.Ordering.{in_order, is_later, later_among, moment_of, put_among}
use Rattle.afdx_input_sources.specs.Sequences.{Numbers, is_arrival}

-- ---- arrivals in order

-- the moment of the first, or 0
abbrev pub first_moment : Numbers → ℕ
first_moment [] = 0
first_moment (y ∷ s) = moment_of y

-- all of these are arrivals, and none is later than the one before it
abbrev pub Falls : Numbers → Type 0
Falls [] = Unit {0}
Falls (y ∷ s) = (is_arrival y.head ≡ true) × (first_moment s ≤ moment_of y) × Falls s

-- an arrival goes behind one that is later
pub put-later : (x y : Item Number) (s : Numbers) → is_later y x ≡ true → put_among x (y ∷ s) ≡ y ∷ put_among x s
unfolding put_among
put-later x y s is = rw is refl

-- and in front of one that isn't
pub put-here : (x y : Item Number) (s : Numbers) → is_later y x ≡ false → put_among x (y ∷ s) ≡ x ∷ y ∷ s
unfolding put_among
put-here x y s is = rw is refl

pub length-put : (x : Item Number) (s : Numbers) → length (put_among x s) ≡ length s + 1
unfolding put_among
length-put x [] = omega arith
length-put x (y ∷ s) =
    cond_both (is_later y x) (y ∷ put_among x s) (x ∷ y ∷ s) (λ l. length l ≡ length (y ∷ s) + 1)
    (λ is. omega (arith, length-put x s)) (λ is. omega arith)

put-first : (x : Item Number) (s : Numbers) (m : ℕ) → moment_of x ≤ m → first_moment s ≤ m
    → first_moment (put_among x s) ≤ m
unfolding put_among
put-first x [] m h k = h
put-first x (y ∷ s) m h k =
    cond_both (is_later y x) (y ∷ put_among x s) (x ∷ y ∷ s) (λ l. first_moment l ≤ m) (λ is. k) (λ is. h)

pub put-falls : (x : Item Number) (s : Numbers) → is_arrival x.head ≡ true → Falls s → Falls (put_among x s)
unfolding put_among
put-falls x [] a f = (a, omega arith, tt)
put-falls x (y ∷ s) a f =
    cond_both (is_later y x) (y ∷ put_among x s) (x ∷ y ∷ s) (λ l. Falls l)
    (λ is. (
      f.0,
      put-first x s (moment_of y) (omega (arith, ltb-true (moment_of x) (moment_of y) is)) f.1,
      put-falls x s a f.2,
    ))
    (λ is. (a, ltb-false (moment_of x) (moment_of y) is, f))

pub order-falls : (past : Numbers) → Falls (in_order past)
unfolding in_order
order-falls [] = tt
order-falls (x ∷ past) =
    cond_both (is_arrival x.head) (put_among x (in_order past)) (in_order past) (λ l. Falls l)
    (λ is. put-falls x (in_order past) is (order-falls past)) (λ is. order-falls past)

pub take-falls : (n : ℕ) (s : Numbers) → Falls s → Falls (take n s)
take-falls zero s f = tt
take-falls (suc n) [] f = tt
take-falls (suc n) (y ∷ s) f = (f.0, by n s f.1, take-falls n s f.2)
  where
    by : (n : ℕ) (s : Numbers) → first_moment s ≤ moment_of y → first_moment (take n s) ≤ moment_of y
    by zero s h = omega arith
    by (suc n) [] h = h
    by (suc n) (z ∷ s) h = h

pub drop-falls : (n : ℕ) (s : Numbers) → Falls s → Falls (drop n s)
drop-falls zero s f = f
drop-falls (suc n) [] f = tt
drop-falls (suc n) (y ∷ s) f = drop-falls n s f.2

-- those behind are no later
drop-first : (n : ℕ) (s : Numbers) (m : ℕ) → Falls s → first_moment s ≤ m → first_moment (drop n s) ≤ m
drop-first zero s m f h = h
drop-first (suc n) [] m f h = omega arith
drop-first (suc n) (y ∷ s) m f h =
    let k : first_moment s ≤ moment_of y = f.1 in drop-first n s m f.2 (omega (arith, k, h))

-- ---- how many are later

pub later-yes : (x y : Item Number) (s : Numbers) → is_arrival y.head ≡ true → is_later y x ≡ true
    → later_among x (y ∷ s) ≡ 1 + later_among x s
unfolding later_among
later-yes x y s a is = rw (a, is) refl

pub later-no : (x y : Item Number) (s : Numbers) → is_later y x ≡ false → later_among x (y ∷ s) ≡ later_among x s
unfolding later_among
later-no x y s is = rw (and_right (is_arrival y.head) (is_later y x) is) (omega arith)

later-skipped : (x y : Item Number) (s : Numbers) → is_arrival y.head ≡ false
    → later_among x (y ∷ s) ≡ later_among x s
unfolding later_among
later-skipped x y s is = rw is (omega arith)

-- it doesn't matter where one stands
later-put : (z x : Item Number) (s : Numbers) → later_among z (put_among x s) ≡ later_among z (x ∷ s)
unfolding put_among later_among
later-put z x [] = refl
later-put z x (y ∷ s) =
    cond_both (is_later y x) (y ∷ put_among x s) (x ∷ y ∷ s) (λ l. later_among z l ≡ later_among z (x ∷ y ∷ s))
    (λ is. omega (arith, later-put z x s)) (λ is. refl)

more-later : (z x : Item Number) (a b : Numbers) → later_among z a ≡ later_among z b
    → later_among z (x ∷ a) ≡ later_among z (x ∷ b)
unfolding later_among
more-later z x a b e = rw e refl

pub later-order : (z : Item Number) (past : Numbers) → later_among z past ≡ later_among z (in_order past)
unfolding in_order
later-order z [] = refl
later-order z (x ∷ past) =
    cond_both (is_arrival x.head) (put_among x (in_order past)) (in_order past)
    (λ l. later_among z (x ∷ past) ≡ later_among z l)
    (λ is. more-later z x past (in_order past) (later-order z past) ∙ sym (later-put z x (in_order past)))
    (λ is. later-skipped z x past is ∙ later-order z past)

none-later : (x : Item Number) (s : Numbers) → Falls s → first_moment s ≤ moment_of x → later_among x s ≡ 0
unfolding later_among
none-later x [] f h = refl
none-later x (y ∷ s) f h =
    later-no x y s (le-ltb (moment_of x) (moment_of y) h)
    ∙ none-later x s f.2 (let k : first_moment s ≤ moment_of y = f.1 in omega (arith, k, h))

-- an arrival is earlier than the one behind `n` of these if more than `n` are later
is-less : (n k m : ℕ) → m ≡ 1 + k → nat_lt n k ≡ nat_lt (suc n) m
is-less n k m e = by (nat_lt n k) refl
  where
    by : (t : Bool) → nat_lt n k ≡ t → t ≡ nat_lt (suc n) m
    by true is = sym (lt-ltb (suc n) m (omega (arith, ltb-true n k is, e)))
    by false is = sym (le-ltb (suc n) m (omega (arith, ltb-false n k is, e)))

behind-none : (x y : Item Number) (s : Numbers) (t : Bool) → Falls (y ∷ s) → is_later y x ≡ t
    → is_later y x ≡ nat_lt 0 (later_among x (y ∷ s))
behind-none x y s true f is =
    is ∙ sym (lt-ltb 0 (later_among x (y ∷ s)) (omega (arith, later-yes x y s f.0 is)))
behind-none x y s false f is =
    let h : moment_of y ≤ moment_of x = ltb-false (moment_of x) (moment_of y) is in
    is ∙ sym (le-ltb 0 (later_among x (y ∷ s)) (omega (arith, none-later x (y ∷ s) f h)))

behind-more : (x y : Item Number) (n : ℕ) (s : Numbers) (t : Bool) → Falls (y ∷ s) → is_later y x ≡ t
    → nat_lt (moment_of x) (first_moment (drop n s)) ≡ nat_lt n (later_among x s)
    → nat_lt (moment_of x) (first_moment (drop n s)) ≡ nat_lt (suc n) (later_among x (y ∷ s))
behind-more x y n s true f is e =
    e ∙ is-less n (later_among x s) (later_among x (y ∷ s)) (later-yes x y s f.0 is)
behind-more x y n s false f is e =
    let h : moment_of y ≤ moment_of x = ltb-false (moment_of x) (moment_of y) is in
    let k : first_moment (drop n s) ≤ moment_of y = drop-first n s (moment_of y) f.2 f.1 in
    le-ltb (moment_of x) (first_moment (drop n s)) (omega (arith, h, k))
    ∙ sym (le-ltb (suc n) (later_among x (y ∷ s)) (omega (arith, none-later x (y ∷ s) f h)))

pub is-behind : (x : Item Number) (n : ℕ) (s : Numbers) → Falls s
    → nat_lt (moment_of x) (first_moment (drop n s)) ≡ nat_lt n (later_among x s)
unfolding later_among
is-behind x zero [] f = le-ltb (moment_of x) 0 (omega arith)
is-behind x zero (y ∷ s) f = behind-none x y s (is_later y x) f refl
is-behind x (suc n) [] f = le-ltb (moment_of x) 0 (omega arith) ∙ sym (le-ltb (suc n) 0 (omega arith))
is-behind x (suc n) (y ∷ s) f = behind-more x y n s (is_later y x) f refl (is-behind x n s f.2)

-- ---- one more among the first

-- it is put among the first `n`, if no more than `n` are later
split-none : (x y : Item Number) (s : Numbers) (t : Bool) → Falls (y ∷ s) → later_among x (y ∷ s) ≤ 0
    → is_later y x ≡ t → put_among x (y ∷ s) ≡ x ∷ y ∷ s
split-none x y s true f h is = absurd (omega (arith, h, later-yes x y s f.0 is))
split-none x y s false f h is = put-here x y s is

split-more : (x y : Item Number) (n : ℕ) (s : Numbers) (t : Bool) → Falls (y ∷ s)
    → (later_among x s ≤ n → put_among x s ≡ put_among x (take n s) ++ drop n s)
    → later_among x (y ∷ s) ≤ suc n → is_later y x ≡ t
    → put_among x (y ∷ s) ≡ put_among x (y ∷ take n s) ++ drop n s
split-more x y n s true f by h is =
    put-later x y s is ∙ ap (λ (l : Numbers). y ∷ l) (by (omega (arith, h, later-yes x y s f.0 is)))
    ∙ ap (λ (l : Numbers). l ++ drop n s) (sym (put-later x y (take n s) is))
split-more x y n s false f by h is =
    put-here x y s is ∙ ap (λ (l : Numbers). x ∷ y ∷ l) (sym (take-append-drop n s))
    ∙ ap (λ (l : Numbers). l ++ drop n s) (sym (put-here x y (take n s) is))

pub put-split : (x : Item Number) (n : ℕ) (s : Numbers) → Falls s → later_among x s ≤ n
    → put_among x s ≡ put_among x (take n s) ++ drop n s
unfolding put_among
put-split x zero [] f h = refl
put-split x zero (y ∷ s) f h = split-none x y s (is_later y x) f h refl
put-split x (suc n) [] f h = refl
put-split x (suc n) (y ∷ s) f h =
    split-more x y n s (is_later y x) f (λ k. put-split x n s f.2 k) h refl

-- fewer than `n` stand in order: all are among the first
pub record IsFew (n : ℕ) (x : Item Number) (s : Numbers) : Type 0 where
  pub first : take n (put_among x s) ≡ put_among x (take n s)
  pub none_behind : drop n (put_among x s) ≡ []
  pub none_before : drop n s ≡ []

few-short : (n l m : ℕ) → m ≡ min n l → m + 1 ≤ n → l + 1 ≤ n
few-short n l m e h = omega (arith, e, h)

pub is-few : (n : ℕ) (x : Item Number) (s : Numbers) → length (take n s) + 1 ≤ n → IsFew n x s
is-few n x s h =
    let k = few-short n (length s) (length (take n s)) (length-take n s) h in
    let all : length (put_among x s) ≤ n = omega (arith, k, length-put x s) in record {
      first = take_all n (put_among x s) all ∙ ap (put_among x) (sym (take_all n s (omega (arith, k))));
      none_behind = drop_all n (put_among x s) all;
      none_before = drop_all n s (omega (arith, k));
    }

-- `n` or more: one falls behind
pub record IsFull (n : ℕ) (x : Item Number) (s : Numbers) : Type 0 where
  pub y : Item Number
  pub first : put_among x (take n s) ≡ take n (put_among x s) ++ y ∷ []
  pub behind : drop n (put_among x s) ≡ y ∷ drop n s

last-of : (n : ℕ) (l : Numbers) → length l ≡ n + 1 → (y : Item Number) × (l ≡ take n l ++ y ∷ [])
last-of n [] e = absurd (omega (arith, e))
last-of zero (y ∷ []) e = (y, refl)
last-of zero (y ∷ z ∷ l) e = absurd (omega (arith, e))
last-of (suc n) (y ∷ l) e =
    let h = last-of n l (omega (arith, e)) in (h.0, ap (λ (l : Numbers). y ∷ l) h.1)

full-long : (n l m : ℕ) → m ≡ min n l → n < m + 1 → m ≡ n
full-long n l m e h = omega (arith, e, h)

pub is-full : (n : ℕ) (x : Item Number) (s : Numbers) → Falls s → later_among x s ≤ n
    → n < length (take n s) + 1 → IsFull n x s
is-full n x s f h k =
    let long = full-long n (length s) (length (take n s)) (length-take n s) k in
    let put = put_among x (take n s) in
    let count : length put ≡ n + 1 = omega (arith, length-put x (take n s), long) in
    let last = last-of n put count in
    let few : n ≤ length put = omega (arith, count) in
    let all = put-split x n s f h in
    let front : length (take n put) ≡ n = length-take n put ∙ (omega (arith, count)) in record {
      y = last.0;
      first = last.1 ∙ ap (λ (l : Numbers). l ++ last.0 ∷ [])
          (sym (ap (take n) all ∙ take-append-le n put (drop n s) few));
      behind = ap (drop n) all ∙ drop-append-le n put (drop n s) few
          ∙ ap (λ (l : Numbers). l ++ drop n s)
          (ap (drop n) last.1 ∙ drop_at (take n put) (last.0 ∷ []) n front);
    }
