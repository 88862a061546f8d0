-- The least of numbers that are compared four at a time.
use Rattle.std.proofs.Common.{◌≡◌, ℕ, ◌+◌, ◌<◌, ◌≤◌, List, length, slice_get, min}
use Rattle.std.proofs.Common.{refl, ap, ◌∙◌, subst, arith, inl, inr}
use Rattle.std.specs.Prelude.{Some}
use Rattle.std.proofs.lemmas.Bool.{cases_lt}
use Rattle.std.proofs.lemmas.Option.{slice_get_within}
use Rattle.afdx_port.specs.Keys.{IsLeastIn}

-- one of the numbers, and none before that place is less
pub record IsLeastSoFar (numbers : List ℕ) (to least : ℕ) : Type 0 where
  pub place : ℕ
  pub within : place < length numbers
  pub own : slice_get numbers place ≡ Some least
  pub lowest : (i n : ℕ) → i < to → slice_get numbers i ≡ Some n → least ≤ n

pub so-far-first : (numbers : List ℕ) (n : ℕ) → 1 ≤ length numbers → slice_get numbers 0 ≡ Some n
    → IsLeastSoFar numbers 0 n
so-far-first numbers n some at = record {
  place = 0;
  within = omega (arith, some);
  own = at;
  lowest = λ i k low there. absurd (omega (arith, low));
}

pub so-far-next : (numbers : List ℕ) (to least n m : ℕ) → IsLeastSoFar numbers to least
    → slice_get numbers to ≡ Some n → m ≡ min least n → IsLeastSoFar numbers (to + 1) m
so-far-next numbers to least n m h at is = elim (cases_lt n least) [
  | inl less ↦ (let e : n ≡ m = omega (arith, less, is) in record {
    place = to;
    within = slice_get_within numbers to n at;
    own = at ∙ ap Some e;
    lowest = λ i k high there. elim (cases_lt i to) [
      | inl before ↦ omega (arith, h.lowest i k before there, less, e)
      | inr past ↦ omega (arith, last i k high past there, e)
    ];
  })
  | inr more ↦ (let e : least ≡ m = omega (arith, more, is) in record {
    place = h.place;
    within = h.within;
    own = h.own ∙ ap Some e;
    lowest = λ i k high there. elim (cases_lt i to) [
      | inl before ↦ omega (arith, h.lowest i k before there, e)
      | inr past ↦ omega (arith, last i k high past there, more, e)
    ];
  })
]
  where
    last : (i k : ℕ) → i < to + 1 → to ≤ i → slice_get numbers i ≡ Some k → n ≡ k
    last i k high past there =
        let same : i ≡ to = omega (arith, high, past) in
        cc (at, subst (λ j. slice_get numbers j ≡ Some k) same there)

-- four more
pub so-far-four : (numbers : List ℕ) (to least a b c d low high both m : ℕ)
    → IsLeastSoFar numbers to least → slice_get numbers to ≡ Some a → slice_get numbers (to + 1) ≡ Some b
    → slice_get numbers (to + 2) ≡ Some c → slice_get numbers (to + 3) ≡ Some d
    → low ≡ min a b → high ≡ min c d → both ≡ min low high → m ≡ min least both
    → IsLeastSoFar numbers (to + 4) m
so-far-four numbers to least a b c d low high both m h at-a at-b at-c at-d is-low is-high is-both is =
    let one = so-far-next numbers to least a (min least a) h at-a refl in
    let two = so-far-next numbers (to + 1) (min least a) b (min (min least a) b) one at-b refl in
    let three = so-far-next numbers (to + 1 + 1) (min (min least a) b) c (min (min (min least a) b) c)
    two (subst (λ i. slice_get numbers i ≡ Some c) (omega arith) at-c) refl in
    let four = so-far-next numbers (to + 1 + 1 + 1) (min (min (min least a) b) c) d m three
    (subst (λ i. slice_get numbers i ≡ Some d) (omega arith) at-d)
    (omega (arith, is-low, is-high, is-both, is)) in
    subst (λ i. IsLeastSoFar numbers i m) (omega arith) four

pub so-far-all : (numbers : List ℕ) (to least : ℕ) → IsLeastSoFar numbers to least → to ≡ length numbers
    → IsLeastIn numbers 0 (length numbers) least
so-far-all numbers to least h all = record {
  place = h.place;
  low = omega arith;
  high = h.within;
  own = h.own;
  lowest = λ i n low high there. h.lowest i n (omega (arith, high, all)) there;
}
