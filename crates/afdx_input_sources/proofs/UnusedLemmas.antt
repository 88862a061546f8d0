-- Interfaces that have a place, and that a recording doesn't have.
use Rattle.std.proofs.Common.{arith, ℕ, suc, ◌≡◌, ◌≤◌, ◌<◌, ◌+◌, ◌-◌, ◌∙◌, Bool, ap, Option, Some, None}
use Rattle.std.proofs.lemmas.List.FromFn.{length-range_with_len}
use Rattle.std.proofs.lemmas.List.Sums.{count_by-le-length, sum_by-cons}
use Rattle.std.specs.List.{count_by, find, range_with_len}
use Rattle.std.specs.Option.{is_some}
use Rattle.std.specs.Prelude.{cond}
use Rattle.afdx_input_files.specs.Limits.{most_interfaces}
use Rattle.afdx_input_sources.specs.declared.places.TapPoint.{TapPoint}
use Rattle.afdx_input_sources.specs.Places.{unused_behind}

-- they are few
pub few-unused : (count : ℕ) (places : ℕ → Option TapPoint) → unused_behind count places ≤ most_interfaces
unfolding unused_behind
few-unused count places =
    let numbers = range_with_len count (4096 - count) in
    omega (arith, count_by-le-length (λ k. is_some (places k)) numbers, length-range_with_len count (4096 - count))

module _ (places : ℕ → Option TapPoint) where
  -- those that have a place, from this one on
  abbrev pub named_from : ℕ → ℕ
  named_from k = count_by (λ k. is_some (places k)) (range_with_len k (4096 - k))

  -- one interface after another
  pub named-next : (k : ℕ) (b : Bool) → k < 4096 → is_some (places k) ≡ b
      → named_from k ≡ cond b 1 0 + named_from (k + 1)
  named-next k b below is =
      let left : 4096 - k ≡ suc (4096 - (k + 1)) = omega (arith, below) in
      ap (λ n. count_by (λ k. is_some (places k)) (range_with_len k n)) left
      ∙ sum_by-cons (λ k. cond (is_some (places k)) 1 0) k (range_with_len (k + 1) (4096 - (k + 1)))
      ∙ ap (λ b. cond b 1 0 + named_from (k + 1)) is

  -- the least of those that have a place, from this one on
  abbrev pub first_from : ℕ → Option ℕ
  first_from k = find (λ k. is_some (places k)) (range_with_len k (4096 - k))

  pub first-next : (k : ℕ) (b : Bool) → k < 4096 → is_some (places k) ≡ b
      → first_from k ≡ cond b (Some k) (first_from (k + 1))
  first-next k b below is =
      let left : 4096 - k ≡ suc (4096 - (k + 1)) = omega (arith, below) in
      ap (λ n. find (λ k. is_some (places k)) (range_with_len k n)) left
      ∙ ap (λ b. cond b (Some k) (first_from (k + 1))) is

  -- behind the last there is none
  pub first-last : (k : ℕ) → 4096 - k ≡ 0 → first_from k ≡ None
  first-last k none = ap (λ n. find (λ k. is_some (places k)) (range_with_len k n)) none
